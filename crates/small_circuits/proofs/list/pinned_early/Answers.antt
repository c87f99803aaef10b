use Rattle.std.proofs.Common.{[], ◌∷◌, get_or, pos, negsuc, ◌≤ℤ◌, refl, arith}
use Rattle.std.proofs.lemmas.Int.{ints}
use Rattle.timing.specs.Plans.{PinKept}
use Rattle.timing.specs.declared.domain.Domain.TheVariants.{Early}
use Rattle.timing.specs.Plans.{domains_of}
use Rattle.small_circuits.specs.Yields.{times_of}
use Rattle.small_circuits.proofs.Small.{back_and_forth, back_and_forth_times, below_2, circuit, free, path, plan_yields, times_yield}
use Rattle.small_circuits.proofs.list.pinned_early.Goals as goal

pub returns : goal.returns
returns c = (
  plan_yields (circuit 2 (path 0 1 (pos 2) (pos 6) ∷ (path 1 0 (pos 1) (pos 2) ∷ ([])))) (2 ∷ (0 ∷ [])) 1000000 6 0 (0 ∷ (0 ∷ []))
      (record { period_within = (omega arith, omega arith); under_ceiling = omega arith; pins_kept = below_2 (λ r. PinKept (get_or (2 ∷ (0 ∷ [])) r 2) (domains_of (0 ∷ (0 ∷ [])) r)) (free Early) (λ _. refl, λ e. absurd (omega arith)); limits_met = ((omega (arith, ints), omega (arith, ints)), ((omega (arith, ints), omega (arith, ints)), tt)) })
      (λ T s D l. (back_and_forth T s (D 0) (D 1) l.limits_met.0 l.limits_met.1.0).early_second ((l.pins_kept 1 (omega arith)).0 refl))
      (λ s D l. omega arith),
  times_yield (circuit 2 (path 0 1 (pos 2) (pos 6) ∷ (path 1 0 (pos 1) (pos 2) ∷ ([])))) 4 (negsuc 1 ∷ (pos 0 ∷ []))
      (record { period_within = (omega arith, omega arith); limits_met = ((omega (arith, ints), omega (arith, ints)), ((omega (arith, ints), omega (arith, ints)), tt)) })
      (below_2 (λ r. times_of (negsuc 1 ∷ (pos 0 ∷ [])) r ≤ℤ pos 0) (omega (arith, ints)) (omega (arith, ints)))
      (λ T t l. back_and_forth_times T (t 0) (t 1) l.limits_met.0 l.limits_met.1.0)
      (λ o l n. below_2 (λ r. o r ≤ℤ times_of (negsuc 1 ∷ (pos 0 ∷ [])) r) (let a = n 1 (omega arith) in let b = l.limits_met.0 in omega (arith, ints)) (n 1 (omega arith))),
)
