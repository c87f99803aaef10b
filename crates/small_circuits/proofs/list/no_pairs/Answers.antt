use Rattle.std.proofs.Common.{[], ◌∷◌, pos, ◌≤ℤ◌, arith}
use Rattle.std.proofs.lemmas.Int.{ints}
use Rattle.timing.specs.Plans.{domains_of}
use Rattle.small_circuits.specs.Yields.{times_of}
use Rattle.small_circuits.proofs.Small.{all_free, below_1, circuit, no_pins, plan_yields, times_yield}
use Rattle.small_circuits.proofs.list.no_pairs.Goals as goal

pub returns : goal.returns
returns c = (
  plan_yields (circuit 1 ([])) (no_pins 1) 1000000 1 0 (0 ∷ [])
      (record { period_within = (omega arith, omega arith); under_ceiling = omega arith; pins_kept = λ r _. all_free 1 r (domains_of (0 ∷ []) r); limits_met = tt })
      (λ T s D l. l.period_within.0)
      (λ s D l. omega arith),
  times_yield (circuit 1 ([])) 1 (pos 0 ∷ [])
      (record { period_within = (omega arith, omega arith); limits_met = tt })
      (below_1 (λ r. times_of (pos 0 ∷ []) r ≤ℤ pos 0) (omega (arith, ints)))
      (λ T t l. l.period_within.0)
      (λ o l n. below_1 (λ r. o r ≤ℤ times_of (pos 0 ∷ []) r) (n 0 (omega arith))),
)
