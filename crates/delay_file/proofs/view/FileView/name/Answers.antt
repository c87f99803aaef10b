use Rattle.std.proofs.Common.{ap, sym, ◌∙◌, arith}
use Rattle.std.proofs.lemmas.Bool.{lt-ltb, le-ltb}
use Rattle.delay_file.proofs.Entries.{named, nameless}
use Rattle.delay_file.specs.Files.{view_registers}
use Rattle.delay_file.specs.Records.{borrowed, name_of}
use Rattle.delay_file.proofs.view.FileView.name.Goals as goal

pub returns-then-register-self : goal.returns-then-register-self
returns-then-register-self c = rw (le-ltb c.args.register (view_registers c.args.self.now) (omega arith))

pub returns-in_err-ok : goal.returns-in_err-ok
returns-in_err-ok c =
    rw (lt-ltb c.args.register (view_registers c.args.self.now) (omega arith)) (ap borrowed c.from_residual.ensures ∙ nameless c.record.result (sym c.ok.ensures.value ∙ c.in_err-ok.was) ∙ ap name_of c.record.ensures)

pub returns : goal.returns
returns c =
    rw (lt-ltb c.args.register (view_registers c.args.self.now) (omega arith)) (c.name.ensures ∙ named c.record.result _ (sym c.ok.ensures.value ∙ c.in_ok-ok.was) ∙ ap name_of c.record.ensures)
