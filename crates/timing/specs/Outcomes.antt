-- What a call answers: it grants something, or it refuses with a row of the refusal table.
use Rattle.std.specs.Prelude.{ℕ, ◌+◌, Bool, if◌then◌else◌, ◌&&◌, List, [], ◌∷◌, length, Some, None, Ok, Err, Option, Result, nat_le}
use Rattle.timing.specs.declared.refusal.Refusal.{Refusal}
use Rattle.timing.specs.Meaning.{Entry, pair, faulty, Meaning}
use Rattle.timing.specs.Table.{refusal_number, refusal_values}

-- a refusal has its number and its values
pub data Outcome (A : Type 0) : Type 0 where
  granted : A → Outcome A
  refused : ℕ → List ℕ → Outcome A

-- an answer of the code as an outcome
abbrev pub told : {A : Type 0} → Result A Refusal → Outcome A
told (Ok a) = granted a
told (Err f) = refused (refusal_number f) (refusal_values f)

-- a check in a row of checks: where it fails it is refused with a number, else the rest decides
abbrev pub unless : {A : Type 0} → Bool → ℕ → Outcome A → Outcome A
unless ok number rest = if ok then rest else refused number []

-- the checks that calls share: the period (8), an offset or a ceiling (7), the number of entries (6)
abbrev pub period_within : ℕ → Bool
period_within T = nat_le 1 T && nat_le T 4096000000

abbrev pub offset_within : ℕ → Bool
offset_within s = nat_le s 1000000

abbrev pub few_entries : Meaning → Bool
few_entries m = nat_le (length m.entries) 16384

-- the place of the first faulty entry, counted from k
abbrev pub first_faulty : ℕ → List Entry → Option ℕ
first_faulty k [] = None
first_faulty k (pair p ∷ es) = first_faulty (k + 1) es
first_faulty k (faulty number ∷ es) = Some k

-- the check for a faulty entry: 15 with its place
abbrev pub unless_faulty : {A : Type 0} → Option ℕ → Outcome A → Outcome A
unless_faulty None rest = rest
unless_faulty (Some k) rest = refused 15 (k ∷ [])
