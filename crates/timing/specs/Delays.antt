-- Pairs of registers and the two limits that a pair puts on clock times.
use Rattle.std.specs.Prelude.{ℕ, ◌<◌, ℤ, pos, ◌-ℤ◌, ◌≤ℤ◌}
use Rattle.std.specs.Int.{int_min}
use Rattle.timing.specs.declared.pair.Pair.{Pair}
use Rattle.timing.specs.Bounds.{least_delay, greatest_delay}

-- a lawful pair of a circuit with n registers: both registers are there, and −1,000,000 ≤ min ≤ max ≤ 1,000,000
pub record Lawful (n : ℕ) (p : Pair) : Type 0 where
  pub launch_there : p.launch < n
  pub capture_there : p.capture < n
  pub min_within : least_delay ≤ℤ p.min
  pub in_order : p.min ≤ℤ p.max
  pub max_within : p.max ≤ℤ greatest_delay

-- How far the launch register may be clocked after the capture register: the period less the longest delay.
-- This and hold_room are the only places that say what the delays mean; every limit is said through these two.
abbrev pub setup_room : Pair → ℕ → ℤ
setup_room p T = pos T -ℤ p.max

-- how far the capture register may be clocked after the launch register: the shortest delay
abbrev pub hold_room : Pair → ℤ
hold_room p = p.min

-- the setup limit at a period T, with the launch register clocked at s and the capture register at t
abbrev pub Setup : Pair → ℕ → ℤ → ℤ → Type 0
Setup p T s t = (s -ℤ t) ≤ℤ setup_room p T

-- the hold limit
abbrev pub Hold : Pair → ℤ → ℤ → Type 0
Hold p s t = (t -ℤ s) ≤ℤ hold_room p

-- what a limit has to spare; below 0 it is broken, by so much
abbrev pub setup_slack : Pair → ℕ → ℤ → ℤ → ℤ
setup_slack p T s t = setup_room p T -ℤ (s -ℤ t)

abbrev pub hold_slack : Pair → ℤ → ℤ → ℤ
hold_slack p s t = hold_room p -ℤ (t -ℤ s)

-- the slack of a pair is the smaller of the two
abbrev pub slack : Pair → ℕ → ℤ → ℤ → ℤ
slack p T s t = int_min (setup_slack p T s t) (hold_slack p s t)

-- both limits of a pair
abbrev pub Meets : Pair → ℕ → ℤ → ℤ → Type 0
Meets p T s t = Setup p T s t × Hold p s t
