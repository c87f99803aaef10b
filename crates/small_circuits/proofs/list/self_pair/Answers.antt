use Rattle.std.proofs.Common.{[], ◌∷◌, pos, ◌≤ℤ◌, arith}
use Rattle.std.proofs.lemmas.Int.{ints}
use Rattle.timing.specs.Plans.{clock}
use Rattle.timing.specs.Plans.{domains_of}
use Rattle.small_circuits.specs.Yields.{times_of}
use Rattle.small_circuits.proofs.Small.{all_free, below_1, circuit, no_pins, path, plan_yields, self_setup, times_yield}
use Rattle.small_circuits.proofs.list.self_pair.Goals as goal

pub returns : goal.returns
returns c = (
  plan_yields (circuit 1 (path 0 0 (pos 0) (pos 5) ∷ ([]))) (no_pins 1) 1000000 5 0 (0 ∷ [])
      (record { period_within = (omega arith, omega arith); under_ceiling = omega arith; pins_kept = λ r _. all_free 1 r (domains_of (0 ∷ []) r); limits_met = ((omega (arith, ints), omega (arith, ints)), tt) })
      (λ T s D l. self_setup T (clock s (D 0)) l.limits_met.0)
      (λ s D l. omega arith),
  times_yield (circuit 1 (path 0 0 (pos 0) (pos 5) ∷ ([]))) 5 (pos 0 ∷ [])
      (record { period_within = (omega arith, omega arith); limits_met = ((omega (arith, ints), omega (arith, ints)), tt) })
      (below_1 (λ r. times_of (pos 0 ∷ []) r ≤ℤ pos 0) (omega (arith, ints)))
      (λ T t l. self_setup T (t 0) l.limits_met.0)
      (λ o l n. below_1 (λ r. o r ≤ℤ times_of (pos 0 ∷ []) r) (n 0 (omega arith))),
)
