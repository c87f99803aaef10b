-- The refusal table: what attaches a number and values to every case of a refusal.
use Rattle.std.specs.Prelude.{ℕ, List, [], ◌∷◌}
use Rattle.timing.specs.declared.refusal.Part.{Part}
use Rattle.timing.specs.declared.refusal.Part.TheVariants.{Ceiling, Pin, Setup, Hold}
use Rattle.timing.specs.declared.refusal.Refusal.{Refusal}
use Rattle.timing.specs.declared.refusal.Refusal.TheVariants.{RegisterCount, NoSuchRegister, DelayOutOfLimits, PairPresent, NoSuchEntry, TooManyEntries, OffsetOutOfLimits, PeriodOutOfLimits, MemoryTooShort, NoLegalPlan, NoFreeTimes, NotWholeRecords, MalformedRecord, DelayMissing, FaultyEntry, DraftNotLegal, WitnessUnsound}

-- the part of a draft that is broken
abbrev pub part_number : Part → ℕ
part_number Ceiling = 1
part_number Pin = 2
part_number Setup = 3
part_number Hold = 4

abbrev pub refusal_number : Refusal → ℕ
refusal_number RegisterCount = 1
refusal_number NoSuchRegister = 2
refusal_number DelayOutOfLimits = 3
refusal_number PairPresent = 4
refusal_number NoSuchEntry = 5
refusal_number TooManyEntries = 6
refusal_number OffsetOutOfLimits = 7
refusal_number PeriodOutOfLimits = 8
refusal_number MemoryTooShort = 9
refusal_number NoLegalPlan = 10
refusal_number NoFreeTimes = 11
refusal_number NotWholeRecords = 12
refusal_number MalformedRecord = 13
refusal_number DelayMissing = 14
refusal_number (FaultyEntry place) = 15
refusal_number (DraftNotLegal part place excess) = 16
refusal_number (WitnessUnsound link) = 17

-- the values that a row names, in its order: 15 a place, 16 part, place and excess, 17 a link
abbrev pub refusal_values : Refusal → List ℕ
refusal_values RegisterCount = []
refusal_values NoSuchRegister = []
refusal_values DelayOutOfLimits = []
refusal_values PairPresent = []
refusal_values NoSuchEntry = []
refusal_values TooManyEntries = []
refusal_values OffsetOutOfLimits = []
refusal_values PeriodOutOfLimits = []
refusal_values MemoryTooShort = []
refusal_values NoLegalPlan = []
refusal_values NoFreeTimes = []
refusal_values NotWholeRecords = []
refusal_values MalformedRecord = []
refusal_values DelayMissing = []
refusal_values (FaultyEntry place) = place ∷ []
refusal_values (DraftNotLegal part place excess) = part_number part ∷ (place ∷ (excess ∷ []))
refusal_values (WitnessUnsound link) = link ∷ []
