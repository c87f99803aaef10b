-- A checked plan as the code holds it, in the words of Written.antt.
use Rattle.std.specs.Prelude.{ℕ, List, Result}
use Rattle.timing.specs.declared.refusal.Refusal.{Refusal}
use Rattle.plan_file.specs.declared.checked_plan.CheckedPlan.{CheckedPlan}
use Rattle.plan_file.specs.declared.head.Head.{Head}
use Rattle.plan_file.specs.PlanRecords.{late_number, plan_length}
use Rattle.plan_file.specs.Written.{BitsAreRegisters, OnesAreLate, ReadsAsWritten, Wrote}

-- how many bytes its file has
abbrev pub file_length : CheckedPlan → ℕ
file_length p = plan_length p.registers

-- the numbers in the head of its file
abbrev pub plan_head : CheckedPlan → Head
plan_head p = record {
  numbers = record { period = p.draft.period; offset = p.draft.offset; registers = p.registers };
  late = late_number p.registers p.draft.domains.now;
}

-- what writing it leaves in memory
abbrev pub WrotePlan : CheckedPlan → List ℕ → List ℕ → Result ℕ Refusal → Type 0
WrotePlan p = Wrote p.draft.period p.draft.offset p.registers p.draft.domains.now

-- the file that was written reads back as this plan
abbrev pub PlanReadsBack : CheckedPlan → List ℕ → Result ℕ Refusal → Type 0
PlanReadsBack p = ReadsAsWritten p.draft.period p.draft.offset p.registers p.draft.domains.now

-- the bits of its words are its registers
abbrev pub BitsOfPlan : CheckedPlan → Type 0
BitsOfPlan p = BitsAreRegisters p.registers p.draft.domains.now

-- the count of ones in a word is how many of its registers are late
abbrev pub OnesOfPlan : CheckedPlan → Type 0
OnesOfPlan p = OnesAreLate p.registers p.draft.domains.now
