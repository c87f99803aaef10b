use Rattle.std.proofs.Common.{decimal, arith, length-append}
use Rattle.plan_report.proofs.Pushes.{pushes_then}
use Rattle.plan_report.proofs.text.Text.push_field.Goals as goal

pub returns : goal.returns
returns c =
    let l = length-append c.args.word.now (decimal c.args.number) in
    pushes_then c.args.word.now (decimal c.args.number) _ _ _ (omega arith) c.push.ensures c.push_number.ensures
