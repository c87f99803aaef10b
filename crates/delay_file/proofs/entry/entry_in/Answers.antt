use Rattle.std.proofs.lemmas.Result.{err_from_is_err_and}
use Rattle.delay_file.proofs.Entries.{passed_on}
use Rattle.delay_file.proofs.entry.entry_in.Goals as goal

pub returns-in_err-decode : goal.returns-in_err-decode
returns-in_err-decode c =
    let q = err_from_is_err_and c.from_residual.result c.from_residual.ensures.1 in
    rw (q.1, q.2) (passed_on c.args.registers c.args.«record» _ _ c.args.bytes.now c.in_err-decode.ensures.value)
