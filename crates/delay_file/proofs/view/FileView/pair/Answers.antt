use Rattle.std.proofs.Common.{◌+◌, sym, ap, ◌∙◌, arith}
use Rattle.delay_file.specs.Files.{entry_of, located, view_registers}
use Rattle.delay_file.specs.Records.{fault_seen, reading}
use Rattle.delay_file.proofs.Entries.{answer_past, answer_there}
use Rattle.delay_file.proofs.view.FileView.pair.Goals as goal

pub returns-then-place-entries : goal.returns-then-place-entries
returns-then-place-entries c =
    ap fault_seen c.of_file.ensures ∙ sym (answer_past c.args.self.now c.args.place (omega (arith, c.entries.ensures)))

pub returns : goal.returns
returns c =
    let v = c.args.self.now in
    let k = view_registers v + c.args.place in
    let e = ap (λ xs. located k (entry_of (view_registers v) (reading k xs))) c.record_bytes.ensures.bytes in
    c.entry_in.ensures ∙ e ∙ sym (answer_there v c.args.place (omega (arith, c.entries.ensures)))
