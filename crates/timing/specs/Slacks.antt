-- The two limits of a pair as one thing that can be either.
use Rattle.std.specs.Prelude.{ℕ, suc, ℤ, pos, negsuc}
use Rattle.timing.specs.declared.limit.Limit.{Limit}
use Rattle.timing.specs.declared.limit.Limit.TheVariants.{Setup, Hold}
use Rattle.timing.specs.declared.pair.Pair.{Pair}
use Rattle.timing.specs.declared.refusal.Part.{Part}
use Rattle.timing.specs.declared.refusal.Part.TheVariants as part
use Rattle.timing.specs.Delays.{setup_slack, hold_slack}

-- the slack of a limit
abbrev pub limit_slack : Limit → Pair → ℕ → ℤ → ℤ → ℤ
limit_slack Setup p T s t = setup_slack p T s t
limit_slack Hold p T s t = hold_slack p s t

-- by how much a limit with this slack is broken; 0 where it is kept
abbrev pub excess : ℤ → ℕ
excess (pos n) = 0
excess (negsuc n) = suc n

-- the part of a draft that a broken limit is
abbrev pub limit_part : Limit → Part
limit_part Setup = part.Setup
limit_part Hold = part.Hold
