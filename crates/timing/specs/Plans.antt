-- Plans of two clock domains: which are legal, and which is the least.
use Rattle.std.specs.Prelude.{◌≡◌, ℕ, ◌<◌, ◌≤◌, if◌then◌else◌, List, ℤ, pos, ◌==◌, slice_index, slice_index_or}
use Rattle.std.specs.List.{AllByRecursion}
use Rattle.timing.specs.declared.domain.Domain.{Domain}
use Rattle.timing.specs.declared.domain.Domain.TheVariants.{Early, Late}
use Rattle.timing.specs.Bounds.{Period}
use Rattle.timing.specs.Delays.{Meets}
use Rattle.timing.specs.Meaning.{Entry, pair, faulty, Meaning}

-- when a register is clocked under an offset s: at 0 if early, at s if late
abbrev pub clock : ℕ → Domain → ℤ
clock s Early = pos 0
clock s Late = pos s

-- The domain that a byte of domain memory gives: 1 is late, any other early; a register past the memory is early.
abbrev pub domain_of : ℕ → Domain
domain_of b = if b == 1 then Late else Early

abbrev pub domains_of : List ℕ → ℕ → Domain
domains_of ds r = domain_of (slice_index ds r)

-- an entry whose pair meets both limits at a period and clock times; an entry that cannot be read meets nothing
abbrev pub Met : ℕ → (ℕ → ℤ) → Entry → Type 0
Met T time (pair p) = Meets p T (time p.launch) (time p.capture)
Met T time (faulty k) = ⊥

-- a pin byte: 0 pins to the early clock, 1 to the late one, any other leaves the register free
abbrev pub PinKept : ℕ → Domain → Type 0
PinKept byte d = (byte ≡ 0 → d ≡ Early) × (byte ≡ 1 → d ≡ Late)

-- the plan of period T and offset s that gives each register r the domain D r is legal
pub record Legal (m : Meaning) (pins : List ℕ) (ceiling T s : ℕ) (D : ℕ → Domain) : Type 0 where
  pub period_within : Period T
  pub under_ceiling : s ≤ ceiling
  pub pins_kept : (r : ℕ) → r < m.registers → PinKept (slice_index_or pins r 2) (D r)
  pub limits_met : AllByRecursion (Met T (λ r. clock s (D r))) m.entries

-- the least legal plan: some choice of domains is legal at T and s, every legal plan has at least the period T, and
-- one of period T at least the offset s
pub record Least (m : Meaning) (pins : List ℕ) (ceiling T s : ℕ) : Type 0 where
  pub reached : (D : ℕ → Domain) × Legal m pins ceiling T s D
  pub least_period : (T' s' : ℕ) (D : ℕ → Domain) → Legal m pins ceiling T' s' D → T ≤ T'
  pub least_offset : (s' : ℕ) (D : ℕ → Domain) → Legal m pins ceiling T s' D → s ≤ s'

-- no plan at all is legal
abbrev pub NoPlan : Meaning → List ℕ → ℕ → Type 0
NoPlan m pins ceiling = (T s : ℕ) (D : ℕ → Domain) → Legal m pins ceiling T s D → ⊥
