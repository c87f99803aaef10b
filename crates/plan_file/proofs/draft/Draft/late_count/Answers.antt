use Rattle.std.proofs.Common.{eqb, get_or, take, refl, ap, ◌∙◌, arith, rules, length-take}
use Rattle.std.proofs.lemmas.List.{take_all}
use Rattle.std.proofs.lemmas.Bool.{eq-eqb, ne_eqb}
use Rattle.std.specs.List.{count_by}
use Rattle.plan_file.proofs.Counted.{one_more, none_more}
use Rattle.plan_file.proofs.Late.{late_bytes}
use Rattle.plan_file.proofs.draft.Draft.late_count.Goals as goal
use Rattle.plan_file.proofs.draft.Draft.late_count.Goals.{then-byte, else-byte}

pub overflow_add-late : goal.overflow_add-late
overflow_add-late c =
    let ds = c.args.self.now.domains.now in
    omega (arith, length-take c.min-end.result ds, c.min-end.ensures, c.ranges.registers.fits, c.loop-byte.invariant.1, c.loop-byte-test.true)

pub loop-byte-preserved : goal.loop-byte-preserved
loop-byte-preserved c =
    let ds = take c.min-end.result c.args.self.now.domains.now in
    let i = c.loop-byte.byte-index in
    let b = get_or ds i 0 in
    elim c.if-byte.branch [
      | then-byte w ↦ (w.late-is ∙ one_more (λ b. eqb b 1) ds 0 i c.loop-byte.late (eqb b 1) (omega arith) c.loop-byte.invariant.0 refl (eq-eqb b 1 (search (rules, w.if-byte.true))), omega (arith, w.late-is))
      | else-byte w ↦ (w.late-is ∙ none_more (λ b. eqb b 1) ds 0 i c.loop-byte.late (eqb b 1) (omega arith) c.loop-byte.invariant.0 refl (ne_eqb b 1 (search (rules, w.if-byte.false))), omega (arith, w.late-is))
    ]

pub returns : goal.returns
returns c =
    let ds = c.args.self.now.domains.now in
    let all = take c.min-end.result ds in
    c.loop-byte.invariant.0
    ∙ ap (count_by (λ b. eqb b 1)) (take_all c.loop-byte.byte-index all (omega arith))
    ∙ ap (λ m. count_by (λ b. eqb b 1) (take m ds)) c.min-end.ensures
    ∙ late_bytes c.args.registers ds
