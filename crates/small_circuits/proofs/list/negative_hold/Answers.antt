use Rattle.std.proofs.Common.{[], ◌∷◌, pos, negsuc, ◌≤ℤ◌, arith}
use Rattle.std.proofs.lemmas.Int.{ints}
use Rattle.timing.specs.Plans.{domains_of}
use Rattle.small_circuits.specs.Yields.{times_of}
use Rattle.small_circuits.proofs.Small.{all_free, below_2, circuit, no_pins, path, plan_yields, slow_capture, slow_times, times_yield}
use Rattle.small_circuits.proofs.list.negative_hold.Goals as goal

pub returns : goal.returns
returns c = (
  plan_yields (circuit 2 (path 0 1 (negsuc 1) (pos 3) ∷ ([]))) (no_pins 2) 1000000 5 2 (1 ∷ (0 ∷ []))
      (record { period_within = (omega arith, omega arith); under_ceiling = omega arith; pins_kept = λ r _. all_free 2 r (domains_of (1 ∷ (0 ∷ [])) r); limits_met = ((omega (arith, ints), omega (arith, ints)), tt) })
      (λ T s D l. (slow_capture T s (D 0) (D 1) l.limits_met.0).at_least)
      (λ s D l. (slow_capture 5 s (D 0) (D 1) l.limits_met.0).offset_at),
  times_yield (circuit 2 (path 0 1 (negsuc 1) (pos 3) ∷ ([]))) 5 (pos 0 ∷ (negsuc 1 ∷ []))
      (record { period_within = (omega arith, omega arith); limits_met = ((omega (arith, ints), omega (arith, ints)), tt) })
      (below_2 (λ r. times_of (pos 0 ∷ (negsuc 1 ∷ [])) r ≤ℤ pos 0) (omega (arith, ints)) (omega (arith, ints)))
      (λ T t l. slow_times T (t 0) (t 1) l.limits_met.0)
      (λ o l n. below_2 (λ r. o r ≤ℤ times_of (pos 0 ∷ (negsuc 1 ∷ [])) r) (n 0 (omega arith)) (let a = n 0 (omega arith) in let b = l.limits_met.0 in omega (arith, ints))),
)
