-- What writing a plan leaves in memory.
use Rattle.std.specs.Prelude.{◌≡◌, ℕ, ◌+◌, ◌/◌, ◌%◌, ◌^◌, ◌<◌, ◌≤◌, List, ◌++◌, length, take, drop, Ok, Err, Result, count_ones}
use Rattle.timing.specs.Bounds.{Period, Offset, RegisterCount}
use Rattle.timing.specs.declared.refusal.Refusal.{Refusal}
use Rattle.timing.specs.declared.refusal.Refusal.TheVariants.{MemoryTooShort}
use Rattle.plan_file.specs.PlanRead.{ReadsAs}
use Rattle.plan_file.specs.PlanRecords.{plan_bytes, plan_length, domain_word, late_at, bit, count}

-- Granted, the front of the memory is the plan's bytes and the rest stays; refused with 9 exactly where the memory is too
-- short, all of it stays.
abbrev pub Wrote : ℕ → ℕ → ℕ → List ℕ → List ℕ → List ℕ → Result ℕ Refusal → Type 0
Wrote T s n ds was out (Ok k) = (k ≡ plan_length n) × (plan_length n ≤ length was) × (out ≡ plan_bytes T s n ds ++ drop (plan_length n) was)
Wrote T s n ds was out (Err f) = (f ≡ MemoryTooShort) × (length was < plan_length n) × (out ≡ was)

-- Bit i of the word that starts at a register is set where register first + i is late.
abbrev pub BitsAreRegisters : ℕ → List ℕ → Type 0
BitsAreRegisters n ds = (first i : ℕ) → i < 64 → domain_word n ds first / 2 ^ i % 2 ≡ bit (late_at n ds (first + i))

-- Byte 1 of a word's record, the count of ones in the word, is how many of its 64 registers are late.
abbrev pub OnesAreLate : ℕ → List ℕ → Type 0
OnesAreLate n ds = (first : ℕ) → count_ones (domain_word n ds first) ≡ count (λ i. late_at n ds (first + i)) 64

-- A plan fit for a file: its numbers keep their limits, and domain memory has a byte for each register. Every plan that
-- check made is one.
pub record Writable (T s n : ℕ) (ds : List ℕ) : Type 0 where
  pub period_within : Period T
  pub offset_within : Offset s
  pub registers_within : RegisterCount n
  pub domains_long : n ≤ length ds

-- The file that was written reads back as the same plan, given memory for its registers.
abbrev pub ReadsAsWritten : ℕ → ℕ → ℕ → List ℕ → List ℕ → Result ℕ Refusal → Type 0
ReadsAsWritten T s n ds out (Ok k) = (room : ℕ) → n ≤ room → ReadsAs (take k out) T s n ds room
ReadsAsWritten T s n ds out (Err f) = Unit {0}

-- the same of every plan that is fit for a file
abbrev pub ReadsBack : ℕ → ℕ → ℕ → List ℕ → List ℕ → Result ℕ Refusal → Type 0
ReadsBack T s n ds out (Ok k) = Writable T s n ds → (room : ℕ) → n ≤ room → ReadsAs (take k out) T s n ds room
ReadsBack T s n ds out (Err f) = Unit {0}
