-- Lists of pairs, looked up by their launch and capture registers.
use Rattle.std.specs.Prelude.{◌≡◌, ℕ, ◌+◌, ◌<◌, Bool, ◌&&◌, ◌⊎◌, List, get_or, ◌≤ℤ◌, Option, ◌==◌, slice_index_or}
use Rattle.std.specs.List.{find as first_that}
use Rattle.timing.specs.Bounds.{least_delay, greatest_delay}
use Rattle.timing.specs.declared.pair.Pair.{Pair}

-- whether a pair goes from register a to register b
abbrev pub joins : Pair → ℕ → ℕ → Bool
joins p a b = p.launch == a && p.capture == b

-- the first pair of a list that goes from a to b
abbrev pub find : List Pair → ℕ → ℕ → Option Pair
find ps a b = first_that (λ p. joins p a b) ps

-- two of the first n pairs with the same two registers
pub record Twins (n : ℕ) (xs : List Pair) : Type 0 where
  pub i : ℕ
  pub j : ℕ
  pub d : Pair
  pub e : Pair
  pub i_in : i < n
  pub j_in : j < n
  pub launch_same : (get_or xs i d).launch ≡ (get_or xs j e).launch
  pub capture_same : (get_or xs i d).capture ≡ (get_or xs j e).capture

-- no two of the first n pairs have the same two registers
abbrev pub Apart : ℕ → List Pair → Type 0
Apart n xs = (t : Twins n xs) → t.i ≡ t.j

-- a lawful pair, as a fact that a session can hold of each of its pairs (Lawful says the same by named parts)
abbrev pub KeepsLimits : ℕ → Pair → Type 0
KeepsLimits registers p =
    (p.launch < registers) × (p.capture < registers) × (least_delay ≤ℤ p.min) × (p.min ≤ℤ p.max) × (p.max ≤ℤ greatest_delay)

-- each of the first n pairs is lawful among so many registers
abbrev pub AllLawful : ℕ → ℕ → List Pair → Type 0
AllLawful registers n xs = (k : ℕ) (d : Pair) → k < n → KeepsLimits registers (slice_index_or xs k d)

-- p comes before q: by its launch register, then by its capture register
abbrev pub Before : Pair → Pair → Type 0
Before p q = (p.launch < q.launch) ⊎ ((p.launch ≡ q.launch) × (p.capture < q.capture))

-- each of the first n pairs comes before the next
abbrev pub Rises : ℕ → List Pair → Type 0
Rises n xs = (k : ℕ) (d : Pair) → k + 1 < n → Before (slice_index_or xs k d) (slice_index_or xs (k + 1) d)
