use Rattle.std.proofs.Common.{refl, arith}
use Rattle.plan_file.proofs.Legal.{granted_legal, refused_illegal}
use Rattle.plan_file.proofs.Named.{named_refusal}
use Rattle.plan_file.proofs.checked.check.Goals as goal

pub returns-in-Ok-clause-legal : goal.returns-in-Ok-clause-legal
returns-in-Ok-clause-legal g c =
    let m = g.S.DelaySource.meaning c.args.source.now in
    let d = c.args.draft in
    λ ready. (λ _. granted_legal m c.args.pins.now c.args.ceiling d.period d.offset d.domains.now ready c.in-Ok.ensures, λ _. refl)

pub returns-in-Err-clause-legal : goal.returns-in-Err-clause-legal
returns-in-Err-clause-legal g c =
    let m = g.S.DelaySource.meaning c.args.source.now in
    let d = c.args.draft in
    λ ready. (λ h. absurd (grind arith), λ l. absurd (refused_illegal m c.args.pins.now c.args.ceiling d.period d.offset d.domains.now ready _ _ c.in-Err.ensures l))

pub returns-in-Err-clause-first : goal.returns-in-Err-clause-first
returns-in-Err-clause-first g c =
    let m = g.S.DelaySource.meaning c.args.source.now in
    let d = c.args.draft in
    λ ready. named_refusal m c.args.pins.now c.args.ceiling d.period d.offset d.domains.now ready c.in-Err.refusal c.in-Err.ensures
