-- What the definitions yield for a small circuit.
use Rattle.std.specs.Prelude.{ℕ, List, map, ℤ, pos, Some, None, Option, slice_index_or}
use Rattle.timing.specs.Meaning.{pair, Meaning}
use Rattle.timing.specs.Plans.{Legal, Least, NoPlan, domains_of}
use Rattle.timing.specs.Times.{Greatest, LeastFree, NoTimes}
use Rattle.small_circuits.specs.declared.circuit.SmallCircuit.{SmallCircuit}
use Rattle.small_circuits.specs.declared.circuit.LeastPlan.{LeastPlan}
use Rattle.small_circuits.specs.declared.circuit.LeastTimes.{LeastTimes}

-- the circuit as a source: its registers, and its pairs as entries
abbrev pub meaning_of : SmallCircuit → Meaning
meaning_of c = record { registers = c.registers; entries = map pair c.pairs.now }

-- clock times by register
abbrev pub times_of : List ℤ → ℕ → ℤ
times_of ts r = slice_index_or ts r (pos 0)

-- the plan is the least of all legal ones, and legal with its domains; or no plan is legal at all
abbrev pub YieldsPlan : Meaning → List ℕ → ℕ → Option LeastPlan → Type 0
YieldsPlan m pins ceiling (Some p) = Least m pins ceiling p.period p.offset × Legal m pins ceiling p.period p.offset (domains_of p.domains.now)
YieldsPlan m pins ceiling None = NoPlan m pins ceiling

-- the period is the least at which any times are legal, and the times are the greatest at it; or none are legal ever
abbrev pub YieldsTimes : Meaning → Option LeastTimes → Type 0
YieldsTimes m (Some t) = LeastFree m t.period × Greatest m t.period (times_of t.times.now)
YieldsTimes m None = NoTimes m

abbrev pub Yields : SmallCircuit → Type 0
Yields c = YieldsPlan (meaning_of c) c.pins.now c.ceiling c.plan × YieldsTimes (meaning_of c) c.free
