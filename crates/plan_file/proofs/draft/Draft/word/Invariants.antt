use Rattle.std.proofs.Common.{◌≡◌, ◌+◌}
use Rattle.plan_file.specs.PlanRecords.{late_at, packed}
use Rattle.plan_file.proofs.draft.Draft.word.Given as goal

abbrev pub invariant-loop-i : goal.invariant-loop-i
invariant-loop-i l = l.word ≡ packed (λ i. late_at l.registers l.self.domains.now (l.first + i)) l.i
