-- Rows of checks: what it says that all were passed.
use Rattle.std.proofs.Common.{◌≡◌, ℕ, Bool, true, false, Some, None, Option, refl, arith}
use Rattle.timing.specs.Outcomes.{Outcome, granted, unless, unless_faulty}

pub passed : {A : Type 0} (b : Bool) (k : ℕ) (a : A) (rest : Outcome A) → granted a ≡ unless b k rest → (b ≡ true) × (granted a ≡ rest)
passed true k a rest e = (refl, e)
passed false k a rest e = absurd (let z : ◌≡◌ {A = ℕ} 0 1 = cc in omega arith)

pub none_faulty : {A : Type 0} (x : Option ℕ) (a : A) (rest : Outcome A) → granted a ≡ unless_faulty x rest → granted a ≡ rest
none_faulty None a rest e = e
none_faulty (Some k) a rest e = absurd (let z : ◌≡◌ {A = ℕ} 0 1 = cc in omega arith)
