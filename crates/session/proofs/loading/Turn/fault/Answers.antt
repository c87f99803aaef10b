use Rattle.std.proofs.Common.{◌-◌, ◌<◌, ◌∙◌, arith}
use Rattle.std.proofs.lemmas.Bool.{cond-true, lt-ltb}
use Rattle.delay_file.specs.Files.{record_count, view_registers}
use Rattle.session.proofs.Turns.{given_length}
use Rattle.session.proofs.loading.Turn.fault.Goals as goal

pub returns : goal.returns
returns c =
    let t = c.args.self.now in
    let h : t.place < record_count t.view.bytes.now - view_registers t.view = omega (arith, t.within, given_length t.view) in
    c.fault_at.ensures ∙ cond-true _ _ _ (lt-ltb _ _ h)
