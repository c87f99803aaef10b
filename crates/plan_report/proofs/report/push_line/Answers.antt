use Rattle.std.proofs.Common.{[], ◌∷◌, ◌++◌, codes, subst, ◌∙◌, arith, length-append}
use Rattle.timing.specs.Domains.{domain_name}
use Rattle.plan_report.specs.Text.{Pushes}
use Rattle.plan_report.proofs.Lines.{line_end}
use Rattle.plan_report.proofs.Pushes.{pushes_then}
use Rattle.plan_report.proofs.report.push_line.Goals as goal

pub returns : goal.returns
returns c =
    let d = c.args.domain in
    let l = length-append c.args.name.now (line_end d) in
    let m = length-append (domain_name d) (10 ∷ []) in
    let a = c.push.ensures in
    let b = c.push-2.ensures in
    pushes_then c.args.name.now (line_end d) _ _ _ (omega arith) a
    (pushes_then (codes " ") (domain_name d ++ 10 ∷ []) _ _ _ (omega (arith, a.ends, a.same_length)) b
    (pushes_then (domain_name d) (10 ∷ []) _ _ _ (omega (arith, a.ends, a.same_length, b.ends, b.same_length))
    (subst (λ xs. Pushes xs c.push-2.new.self c.push-3.new.self) (c.as_bytes.ensures.value ∙ c.name.ensures) c.push-3.ensures) c.push-4.ensures))
