use Rattle.std.proofs.Common.{[], ◌∷◌, ◌++◌, codes, decimal, arith}
use Rattle.plan_report.proofs.Digits.{ten_digits}
use Rattle.plan_report.proofs.Pushes.{pushes_then}
use Rattle.plan_report.proofs.report.push_head.Goals as goal

pub returns : goal.returns
returns c =
    let T = ten_digits c.args.draft.now.period (omega arith) in
    let s = ten_digits c.args.draft.now.offset (omega arith) in
    let l = ten_digits c.args.late (omega arith) in
    let a = c.push_field.ensures in
    let b = c.push_field-2.ensures in
    let d = c.push_field-3.ensures in
    let period = codes "period " ++ decimal c.args.draft.now.period in
    let offset = codes " offset " ++ decimal c.args.draft.now.offset in
    let late = codes " late " ++ decimal c.args.late in
    pushes_then period (offset ++ (late ++ 10 ∷ [])) _ _ _ (omega arith) a
    (pushes_then offset (late ++ 10 ∷ []) _ _ _ (omega (arith, a.ends, a.same_length)) b
    (pushes_then late (10 ∷ []) _ _ _ (omega (arith, a.ends, a.same_length, b.ends, b.same_length)) d c.push.ensures))
