use Rattle.std.proofs.Common.{ℕ, ◌+◌, Bool, sym, ◌∙◌, arith}
use Rattle.plan_file.specs.PlanRecords.{late_at}
use Rattle.plan_file.proofs.Packed.{set_bit, skip_bit, packed_none}
use Rattle.plan_file.proofs.draft.Draft.word.Goals as goal
use Rattle.plan_file.proofs.draft.Draft.word.Goals.{then-is_late, else-is_late}

pub loop-i-preserved : goal.loop-i-preserved
loop-i-preserved c =
    let f : ℕ → Bool = λ i. late_at c.args.registers c.args.self.now.domains.now (c.args.first + i) in
    elim c.if-is_late.branch [
      | then-is_late w ↦ w.word-is ∙ set_bit f c.loop-i.i c.loop-i.word (omega arith) (sym c.is_late.ensures ∙ w.if-is_late.true) c.loop-i.invariant
      | else-is_late w ↦ w.word-is ∙ skip_bit f c.loop-i.i c.loop-i.word (sym c.is_late.ensures ∙ w.if-is_late.false) c.loop-i.invariant
    ]

pub loop-i-init : goal.loop-i-init
loop-i-init c = packed_none _
