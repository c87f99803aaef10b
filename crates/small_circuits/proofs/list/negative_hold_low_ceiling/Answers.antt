use Rattle.std.proofs.Common.{[], ◌∷◌, pos, negsuc, ◌≤ℤ◌, arith}
use Rattle.std.proofs.lemmas.Int.{ints}
use Rattle.small_circuits.specs.Yields.{times_of}
use Rattle.small_circuits.proofs.Small.{below_2, circuit, path, slow_capture, slow_times, times_yield}
use Rattle.small_circuits.proofs.list.negative_hold_low_ceiling.Goals as goal

pub returns : goal.returns
returns c = (
  (λ T s D l. let b = (slow_capture T s (D 0) (D 1) l.limits_met.0).offset_at in let u = l.under_ceiling in omega arith),
  times_yield (circuit 2 (path 0 1 (negsuc 1) (pos 3) ∷ ([]))) 5 (pos 0 ∷ (negsuc 1 ∷ []))
      (record { period_within = (omega arith, omega arith); limits_met = ((omega (arith, ints), omega (arith, ints)), tt) })
      (below_2 (λ r. times_of (pos 0 ∷ (negsuc 1 ∷ [])) r ≤ℤ pos 0) (omega (arith, ints)) (omega (arith, ints)))
      (λ T t l. slow_times T (t 0) (t 1) l.limits_met.0)
      (λ o l n. below_2 (λ r. o r ≤ℤ times_of (pos 0 ∷ (negsuc 1 ∷ [])) r) (n 0 (omega arith)) (let a = n 0 (omega arith) in let b = l.limits_met.0 in omega (arith, ints))),
)
