-- What a source of delays means: how many registers there are, and a list of entries.
use Rattle.std.specs.Prelude.{ℕ, Bool, true, false, if◌then◌else◌, ◌&&◌, ◌||◌, List, Ok, Err, Result, int_le, nat_le, slice_index_or}
use Rattle.std.specs.List.{AllByRecursion}
use Rattle.timing.specs.declared.pair.Pair.{Pair}
use Rattle.timing.specs.declared.refusal.Refusal.{Refusal}
use Rattle.timing.specs.Bounds.{RegisterCount, least_delay, greatest_delay, missing}
use Rattle.timing.specs.Delays.{Lawful}
use Rattle.timing.specs.Table.{refusal_number}

-- an entry is a pair, or it is faulty and has the number of its refusal
pub data Entry : Type 0 where
  pair : Pair → Entry
  faulty : ℕ → Entry

pub record Meaning : Type 0 where
  pub registers : ℕ
  pub entries : List Entry

-- a pair among n registers is lawful; a faulty entry owes nothing
abbrev pub LawfulEntry : ℕ → Entry → Type 0
LawfulEntry n (pair p) = Lawful n p
LawfulEntry n (faulty k) = Unit {0}

-- whether an entry is faulty
abbrev pub is_faulty : Entry → Bool
is_faulty (pair p) = false
is_faulty (faulty k) = true

-- what every source shows of its meaning
pub record LawfulMeaning (m : Meaning) : Type 0 where
  pub count : RegisterCount m.registers
  pub each : AllByRecursion (LawfulEntry m.registers) m.entries

-- the entry at a place, counted from 0; at and past the count it is refused with 5
abbrev pub entry_at : Meaning → ℕ → Entry
entry_at m place = slice_index_or m.entries place (faulty 5)

-- an answer of the code as an entry
abbrev pub answered : Result Pair Refusal → Entry
answered (Ok p) = pair p
answered (Err f) = faulty (refusal_number f)

-- a pair as given, judged for a circuit of n registers: 2 where a register is not below n, then 14 where a delay is
-- missing, then 3 where a delay is out of limits or min is above max
abbrev pub judged : ℕ → Pair → Entry
judged n p =
    if nat_le n p.launch || nat_le n p.capture then faulty 2
    else (if missing p.min || missing p.max then faulty 14
    else (if int_le least_delay p.min && (int_le p.min p.max && int_le p.max greatest_delay) then pair p else faulty 3))
