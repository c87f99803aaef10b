use Rattle.std.proofs.Common.{arith}
use Rattle.plan_report.proofs.Lines.{one_line}
use Rattle.plan_report.proofs.report.push_registers.Goals as goal

pub loop-register-preserved : goal.loop-register-preserved
loop-register-preserved c =
    let file = c.args.view.now.bytes.now in
    let line = rw c.domain.ensures at c.push_register.ensures in
    one_line file c.args.draft.now.domains.now c.loop-register.register _ _ _ (omega arith) (omega arith) c.loop-register.invariant line
