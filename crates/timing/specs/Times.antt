-- Free clock times: a whole number for each register, without domains, pins and ceiling.
use Rattle.std.specs.Prelude.{ℕ, ◌<◌, ◌≤◌, ℤ, pos, ◌≤ℤ◌}
use Rattle.std.specs.List.{AllByRecursion}
use Rattle.timing.specs.Bounds.{Period}
use Rattle.timing.specs.Meaning.{Meaning}
use Rattle.timing.specs.Plans.{Met}

-- the clock times are legal at a period
pub record LegalTimes (m : Meaning) (T : ℕ) (time : ℕ → ℤ) : Type 0 where
  pub period_within : Period T
  pub limits_met : AllByRecursion (Met T time) m.entries

-- no register is clocked after 0
abbrev pub NoneAbove0 : Meaning → (ℕ → ℤ) → Type 0
NoneAbove0 m time = (r : ℕ) → r < m.registers → time r ≤ℤ pos 0

-- of the legal times with none above 0, each register has its greatest
pub record Greatest (m : Meaning) (T : ℕ) (time : ℕ → ℤ) : Type 0 where
  pub legal : LegalTimes m T time
  pub none_above : NoneAbove0 m time
  pub over_all : (other : ℕ → ℤ) → LegalTimes m T other → NoneAbove0 m other → (r : ℕ) → r < m.registers → other r ≤ℤ time r

-- the least period at which any clock times are legal
pub record LeastFree (m : Meaning) (T : ℕ) : Type 0 where
  pub reached : (time : ℕ → ℤ) × LegalTimes m T time
  pub least : (T' : ℕ) (time : ℕ → ℤ) → LegalTimes m T' time → T ≤ T'

-- no clock times are legal at any period
abbrev pub NoTimes : Meaning → Type 0
NoTimes m = (T : ℕ) (time : ℕ → ℤ) → LegalTimes m T time → ⊥
