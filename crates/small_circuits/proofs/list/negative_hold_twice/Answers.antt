use Rattle.std.proofs.Common.{[], ◌∷◌, pos, negsuc, ◌≤ℤ◌, arith}
use Rattle.std.proofs.lemmas.Int.{ints}
use Rattle.small_circuits.specs.Yields.{times_of}
use Rattle.small_circuits.proofs.Small.{below_3, circuit, path, slow_chain, slow_chain_times, times_yield}
use Rattle.small_circuits.proofs.list.negative_hold_twice.Goals as goal

pub returns : goal.returns
returns c = (
  (λ T s D l. slow_chain T s (D 0) (D 1) (D 2) l.limits_met.0 l.limits_met.1.0),
  times_yield (circuit 3 (path 0 1 (negsuc 2) (pos 4) ∷ (path 1 2 (negsuc 2) (pos 4) ∷ ([])))) 7 (pos 0 ∷ (negsuc 2 ∷ (negsuc 5 ∷ [])))
      (record { period_within = (omega arith, omega arith); limits_met = ((omega (arith, ints), omega (arith, ints)), ((omega (arith, ints), omega (arith, ints)), tt)) })
      (below_3 (λ r. times_of (pos 0 ∷ (negsuc 2 ∷ (negsuc 5 ∷ []))) r ≤ℤ pos 0) (omega (arith, ints)) (omega (arith, ints)) (omega (arith, ints)))
      (λ T t l. slow_chain_times T (t 0) (t 1) (t 2) l.limits_met.0 l.limits_met.1.0)
      (λ o l n. below_3 (λ r. o r ≤ℤ times_of (pos 0 ∷ (negsuc 2 ∷ (negsuc 5 ∷ []))) r) (n 0 (omega arith)) (let a = n 0 (omega arith) in let b = l.limits_met.0 in omega (arith, ints)) (let a = n 0 (omega arith) in let b = l.limits_met.0 in let d = l.limits_met.1.0 in omega (arith, ints))),
)
