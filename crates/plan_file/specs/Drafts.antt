-- Drafts: which domain and which clock time a register has, and the first limit that a draft breaks.
use Rattle.std.specs.Prelude.{ℕ, zero, suc, ◌+◌, ◌-◌, Bool, true, false, if◌then◌else◌, ◌&&◌, List, [], ◌∷◌, length, ℤ, ◌==◌, nat_le, slice_index_or}
use Rattle.std.specs.List.{range_with_len}
use Rattle.timing.specs.Delays.{slack}
use Rattle.timing.specs.Meaning.{Entry, pair, faulty, Meaning, entry_at}
use Rattle.timing.specs.Outcomes.{Outcome, granted, refused, unless, unless_faulty, period_within, offset_within, few_entries, first_faulty}
use Rattle.timing.specs.Plans.{clock, domains_of}
use Rattle.timing.specs.Slacks.{limit_slack, limit_part, excess}
use Rattle.timing.specs.Table.{part_number}
use Rattle.timing.specs.declared.domain.Domain.{Domain}
use Rattle.timing.specs.declared.domain.Domain.TheVariants.{Early, Late}
use Rattle.timing.specs.declared.limit.Limit.{Limit}
use Rattle.timing.specs.declared.limit.Limit.TheVariants.{Setup, Hold}
use Rattle.timing.specs.declared.refusal.Part.{Part}
use Rattle.timing.specs.declared.refusal.Part.TheVariants.{Ceiling, Pin}

-- the clock time of register r under an offset and domain memory
abbrev pub time_of : ℕ → List ℕ → ℕ → ℤ
time_of s ds r = clock s (domains_of ds r)

-- what check finds: everything is kept, or a part is broken first, at a register or an entry, by so much
pub data Verdict : Type 0 where
  kept : Verdict
  broken : Part → ℕ → ℕ → Verdict

-- a part with its excess; where that is 0 the rest decides
abbrev pub by_excess : Part → ℕ → ℕ → Verdict → Verdict
by_excess part k zero rest = rest
by_excess part k (suc e) rest = broken part k (suc e)

-- the limits of the entry at place k, in their order
abbrev pub limits_from : ℕ → (Limit → ℤ) → List Limit → Verdict → Verdict
limits_from k slack [] rest = rest
limits_from k slack (l ∷ ls) rest = by_excess (limit_part l) k (excess (slack l)) (limits_from k slack ls rest)

-- the entries from place k on, setup before hold. (Faulty entries are refused before; they have no limits.)
abbrev pub entries_from : ℕ → (ℕ → ℤ) → ℕ → List Entry → Verdict
entries_from T time k [] = kept
entries_from T time k (pair p ∷ es) =
    limits_from k (λ l. limit_slack l p T (time p.launch) (time p.capture)) (Setup ∷ (Hold ∷ [])) (entries_from T time (k + 1) es)
entries_from T time k (faulty number ∷ es) = entries_from T time (k + 1) es

-- whether a domain is the one that a pin byte asks for: 0 early, 1 late, any other asks for none
abbrev pub pin_met : ℕ → Domain → Bool
pin_met byte Early = if byte == 1 then false else true
pin_met byte Late = if byte == 0 then false else true

-- the pins of these registers, then the rest
abbrev pub pins_from : List ℕ → List ℕ → List ℕ → Verdict → Verdict
pins_from pins ds [] rest = rest
pins_from pins ds (r ∷ rs) rest = if pin_met (slice_index_or pins r 2) (domains_of ds r) then pins_from pins ds rs rest else broken Pin r 0

-- the ceiling, then the pins by register, then the entries by place
abbrev pub verdict : Meaning → List ℕ → ℕ → ℕ → ℕ → List ℕ → Verdict
verdict m pins ceiling T s ds =
    by_excess Ceiling 0 (s - ceiling) (pins_from pins ds (range_with_len 0 m.registers) (entries_from T (time_of s ds) 0 m.entries))

abbrev pub told_verdict : Verdict → Outcome (Unit {0})
told_verdict kept = granted tt
told_verdict (broken part place e) = refused 16 (part_number part ∷ (place ∷ (e ∷ [])))

-- whether pins and domain memory have a byte for each register
abbrev pub long_enough : Meaning → List ℕ → List ℕ → Bool
long_enough m pins ds = nat_le m.registers (length pins) && nat_le m.registers (length ds)

-- The answer of check, its checks in their order: 8, 7, 6, 15, 9, 16.
abbrev pub check_answer : Meaning → List ℕ → ℕ → ℕ → ℕ → List ℕ → Outcome (Unit {0})
check_answer m pins ceiling T s ds =
    unless (period_within T) 8
    (unless (offset_within ceiling && offset_within s) 7
    (unless (few_entries m) 6
    (unless_faulty (first_faulty 0 m.entries)
    (unless (long_enough m pins ds) 9
    (told_verdict (verdict m pins ceiling T s ds))))))

-- The slack of an entry; where none is at the place, 5.
abbrev pub slack_of : ℕ → (ℕ → ℤ) → Entry → Outcome ℤ
slack_of T time (pair p) = granted (slack p T (time p.launch) (time p.capture))
slack_of T time (faulty number) = refused 5 []

-- The answer of slack, its checks in their order: 8, 7 (the offset), 15, 9, 5.
abbrev pub slack_answer : Meaning → ℕ → ℕ → List ℕ → ℕ → Outcome ℤ
slack_answer m T s ds place =
    unless (period_within T) 8
    (unless (offset_within s) 7
    (unless_faulty (first_faulty 0 m.entries)
    (unless (nat_le m.registers (length ds)) 9
    (slack_of T (time_of s ds) (entry_at m place)))))
