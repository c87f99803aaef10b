-- What check means, in the subject's words.
use Rattle.std.specs.Prelude.{◌≡◌, ℕ, ◌+◌, ◌<◌, ◌≤◌, List, length, take, pos, ◌+ℤ◌, Ok, Err, Result, slice_index_or}
use Rattle.std.specs.List.{AllByRecursion}
use Rattle.timing.specs.Bounds.{Period, Offset}
use Rattle.timing.specs.Delays.{Setup, setup_slack, hold_slack}
use Rattle.timing.specs.Meaning.{Entry, pair, faulty, Meaning, entry_at}
use Rattle.timing.specs.Plans.{Met, PinKept, domains_of}
use Rattle.timing.specs.declared.pair.Pair.{Pair}
use Rattle.timing.specs.declared.refusal.Part.{Part}
use Rattle.timing.specs.declared.refusal.Part.TheVariants as part
use Rattle.timing.specs.declared.refusal.Refusal.TheVariants.{DraftNotLegal}
use Rattle.plan_file.specs.declared.checked_plan.CheckedPlan.{CheckedPlan}
use Rattle.plan_file.specs.declared.checked.RefusedDraft.{RefusedDraft}
use Rattle.plan_file.specs.Drafts.{time_of}

-- an entry that can be read
abbrev pub IsPair : Entry → Type 0
IsPair (pair p) = Unit {0}
IsPair (faulty number) = ⊥

-- nothing stands in the way of a judgement: the numbers are within their limits, the source can be read, and memory has a
-- byte for each register. Else the refusal is 8, 7, 6, 15 or 9.
pub record Ready (m : Meaning) (pins : List ℕ) (ceiling T s : ℕ) (ds : List ℕ) : Type 0 where
  pub period_within : Period T
  pub ceiling_within : Offset ceiling
  pub offset_within : Offset s
  pub few : length m.entries ≤ 16384
  pub readable : AllByRecursion IsPair m.entries
  pub pins_long : m.registers ≤ length pins
  pub domains_long : m.registers ≤ length ds

-- the pins of all registers below k are kept
abbrev pub PinsBelow : List ℕ → List ℕ → ℕ → Type 0
PinsBelow pins ds k = (r : ℕ) → r < k → PinKept (slice_index_or pins r 2) (domains_of ds r)

-- every entry before place k meets both limits
abbrev pub MetBefore : Meaning → ℕ → ℕ → List ℕ → ℕ → Type 0
MetBefore m T s ds k = AllByRecursion (Met T (time_of s ds)) (take k m.entries)

-- What is named as broken first is broken, by the excess, and everything before it is kept.
abbrev pub FirstBroken : Meaning → List ℕ → ℕ → ℕ → ℕ → List ℕ → Part → ℕ → ℕ → Type 0
FirstBroken m pins ceiling T s ds part.Ceiling place e = (place ≡ 0) × (0 < e) × (s ≡ ceiling + e)
FirstBroken m pins ceiling T s ds part.Pin r e =
    (e ≡ 0) × (s ≤ ceiling) × (r < m.registers) × PinsBelow pins ds r × (PinKept (slice_index_or pins r 2) (domains_of ds r) → ⊥)
FirstBroken m pins ceiling T s ds part.Setup k e =
    (s ≤ ceiling) × PinsBelow pins ds m.registers × MetBefore m T s ds k
    × ((p : Pair) × (entry_at m k ≡ pair p) × (0 < e) × (setup_slack p T (time_of s ds p.launch) (time_of s ds p.capture) +ℤ pos e ≡ pos 0))
FirstBroken m pins ceiling T s ds part.Hold k e =
    (s ≤ ceiling) × PinsBelow pins ds m.registers × MetBefore m T s ds k
    × ((p : Pair) × (entry_at m k ≡ pair p) × Setup p T (time_of s ds p.launch) (time_of s ds p.capture) × (0 < e)
    × (hold_slack p (time_of s ds p.launch) (time_of s ds p.capture) +ℤ pos e ≡ pos 0))

-- What a refused draft is told, where nothing stands in the way of a judgement: the first broken limit, with 16.
abbrev pub NamesFirst : Meaning → List ℕ → ℕ → ℕ → ℕ → List ℕ → Result CheckedPlan RefusedDraft → Type 0
NamesFirst m pins ceiling T s ds (Ok plan) = Unit {0}
NamesFirst m pins ceiling T s ds (Err e) =
    (p : Part) × (k : ℕ) × (x : ℕ) × (e.refusal ≡ DraftNotLegal p k x) × FirstBroken m pins ceiling T s ds p k x
