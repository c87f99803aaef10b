use Rattle.std.proofs.Common.{[], ◌∷◌, pos, negsuc, ◌≤ℤ◌, arith}
use Rattle.std.proofs.lemmas.Int.{ints}
use Rattle.timing.specs.Plans.{domains_of}
use Rattle.small_circuits.specs.Yields.{times_of}
use Rattle.small_circuits.proofs.Small.{all_free, below_3, chain_of_two, chain_times, circuit, no_pins, path, plan_yields, times_yield}
use Rattle.small_circuits.proofs.list.two_in_a_row.Goals as goal

pub returns : goal.returns
returns c = (
  plan_yields (circuit 3 (path 0 1 (pos 2) (pos 6) ∷ (path 1 2 (pos 2) (pos 6) ∷ ([])))) (no_pins 3) 1000000 6 0 (0 ∷ (0 ∷ (0 ∷ [])))
      (record { period_within = (omega arith, omega arith); under_ceiling = omega arith; pins_kept = λ r _. all_free 3 r (domains_of (0 ∷ (0 ∷ (0 ∷ []))) r); limits_met = ((omega (arith, ints), omega (arith, ints)), ((omega (arith, ints), omega (arith, ints)), tt)) })
      (λ T s D l. chain_of_two T s (D 0) (D 1) (D 2) l.limits_met.0 l.limits_met.1.0)
      (λ s D l. omega arith),
  times_yield (circuit 3 (path 0 1 (pos 2) (pos 6) ∷ (path 1 2 (pos 2) (pos 6) ∷ ([])))) 4 (negsuc 3 ∷ (negsuc 1 ∷ (pos 0 ∷ [])))
      (record { period_within = (omega arith, omega arith); limits_met = ((omega (arith, ints), omega (arith, ints)), ((omega (arith, ints), omega (arith, ints)), tt)) })
      (below_3 (λ r. times_of (negsuc 3 ∷ (negsuc 1 ∷ (pos 0 ∷ []))) r ≤ℤ pos 0) (omega (arith, ints)) (omega (arith, ints)) (omega (arith, ints)))
      (λ T t l. chain_times T (t 0) (t 1) (t 2) l.limits_met.0 l.limits_met.1.0)
      (λ o l n. below_3 (λ r. o r ≤ℤ times_of (negsuc 3 ∷ (negsuc 1 ∷ (pos 0 ∷ []))) r) (let a = n 2 (omega arith) in let b = l.limits_met.0 in let d = l.limits_met.1.0 in omega (arith, ints)) (let a = n 2 (omega arith) in let d = l.limits_met.1.0 in omega (arith, ints)) (n 2 (omega arith))),
)
