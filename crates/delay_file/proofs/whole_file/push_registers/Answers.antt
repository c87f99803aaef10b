use Rattle.std.proofs.Common.{arith}
use Rattle.std.proofs.lemmas.Result.{err_from_is_err_and}
use Rattle.delay_file.proofs.Written.{one_taken, all_taken, refused_name}
use Rattle.delay_file.proofs.whole_file.push_registers.Goals as goal

pub loop-number-preserved : goal.loop-number-preserved
loop-number-preserved c =
    one_taken _ _ _ c.args.names.now c.loop-number.number _ (omega arith) c.loop-number.invariant c.in_ok-push_register.ensures

pub returns-in_err-push_register : goal.returns-in_err-push_register
returns-in_err-push_register c =
    let q = err_from_is_err_and c.from_residual.result c.from_residual.ensures.1 in
    rw (q.1, q.2) (refused_name _ _ c.args.names.now c.loop-number.number _ _ (omega arith) c.loop-number.invariant c.in_err-push_register.ensures)

pub returns : goal.returns
returns c = all_taken _ _ c.args.names.now c.loop-number.number (omega arith) (omega arith) c.loop-number.invariant
