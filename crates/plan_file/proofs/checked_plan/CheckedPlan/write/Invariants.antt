use Rattle.std.proofs.Common.{◌≡◌, ◌+◌, ◌*◌, ◌++◌, take, drop}
use Rattle.delay_file.specs.Files.{joined}
use Rattle.plan_file.specs.PlanRecords.{plan_records}
use Rattle.plan_file.proofs.checked_plan.CheckedPlan.write.Given as goal

abbrev pub invariant-loop-word : goal.invariant-loop-word
invariant-loop-word l =
    l.out ≡ joined (take (1 + l.word) (plan_records l.self.draft.period l.self.draft.offset l.self.registers l.self.draft.domains.now)) ++ drop ((1 + l.word) * 32) l.initial.out
