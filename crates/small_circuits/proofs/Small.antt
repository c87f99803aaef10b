-- What the small circuits ask of every choice of clocks.
use Rattle.std.proofs.Common.{◌≡◌, ℕ, zero, suc, ◌+◌, ◌<◌, ◌≤◌, List, map, replicate, get_or, ℤ, pos, negsuc, ◌≤ℤ◌, arith}
use Rattle.std.proofs.lemmas.Int.{ints}
use Rattle.timing.specs.Delays.{Meets}
use Rattle.timing.specs.Meaning.{Meaning, pair}
use Rattle.timing.specs.Plans.{clock, PinKept, Legal, Least}
use Rattle.timing.specs.Times.{LegalTimes, NoneAbove0, Greatest, LeastFree}
use Rattle.timing.specs.Plans.{domains_of}
use Rattle.small_circuits.specs.Yields.{times_of}
use Rattle.timing.specs.declared.domain.Domain.{Domain}
use Rattle.timing.specs.declared.domain.Domain.TheVariants.{Early, Late}
use Rattle.timing.specs.declared.pair.Pair.{Pair}

-- a pin byte of 2 asks for nothing
pub free : (d : Domain) → PinKept 2 d
free d = (λ e. absurd (omega arith), λ e. absurd (omega arith))

pub all_free : (n r : ℕ) (d : Domain) → PinKept (get_or (replicate n 2) r 2) d
all_free zero r d = free d
all_free (suc n) zero d = free d
all_free (suc n) (suc r) d = all_free n r d

abbrev pub path : ℕ → ℕ → ℤ → ℤ → Pair
path a b low high = record { launch = a; capture = b; min = low; max = high }

-- 0 to 1 (2, 6), 1 to 0 (1, 2)
pub record BackAndForth (T s : ℕ) (e : Domain) : Type 0 where
  pub at_least : 4 ≤ T
  pub offset_at : T ≤ 4 → 2 ≤ s
  pub low_offset : 6 ≤ T + s
  pub early_second : e ≡ Early → 6 ≤ T

pub back_and_forth : (T s : ℕ) (d e : Domain) → Meets (path 0 1 (pos 2) (pos 6)) T (clock s d) (clock s e) → Meets (path 1 0 (pos 1) (pos 2)) T (clock s e) (clock s d) → BackAndForth T s e
back_and_forth T s Early Early p q = record { at_least = omega (arith, ints); offset_at = λ h. absurd (omega (arith, ints)); low_offset = omega (arith, ints); early_second = λ _. omega (arith, ints) }
back_and_forth T s Early Late p q = record { at_least = omega (arith, ints); offset_at = λ h. omega (arith, ints); low_offset = omega (arith, ints); early_second = λ e. absurd (grind arith) }
back_and_forth T s Late Early p q = record { at_least = omega (arith, ints); offset_at = λ h. absurd (omega (arith, ints)); low_offset = omega (arith, ints); early_second = λ _. omega (arith, ints) }
back_and_forth T s Late Late p q = record { at_least = omega (arith, ints); offset_at = λ h. absurd (omega (arith, ints)); low_offset = omega (arith, ints); early_second = λ e. absurd (grind arith) }

pub back_and_forth_times : (T : ℕ) (s t : ℤ) → Meets (path 0 1 (pos 2) (pos 6)) T s t → Meets (path 1 0 (pos 1) (pos 2)) T t s → 4 ≤ T
back_and_forth_times T s t p q = omega (arith, ints)

-- 0 to 1 (2, 6), 1 to 2 (2, 6)
pub chain_of_two : (T s : ℕ) (d e f : Domain) → Meets (path 0 1 (pos 2) (pos 6)) T (clock s d) (clock s e) → Meets (path 1 2 (pos 2) (pos 6)) T (clock s e) (clock s f) → 6 ≤ T
chain_of_two T s Early Early f p q = omega (arith, ints)
chain_of_two T s Late Early f p q = omega (arith, ints)
chain_of_two T s Late Late f p q = omega (arith, ints)
chain_of_two T s Early Late Early p q = omega (arith, ints)
chain_of_two T s Early Late Late p q = omega (arith, ints)

pub chain_times : (T : ℕ) (s t u : ℤ) → Meets (path 0 1 (pos 2) (pos 6)) T s t → Meets (path 1 2 (pos 2) (pos 6)) T t u → 4 ≤ T
chain_times T s t u p q = omega (arith, ints)

-- 0 to 1 (−2, 3)
pub record SlowCapture (T s : ℕ) : Type 0 where
  pub at_least : 5 ≤ T
  pub offset_at : 2 ≤ s

pub slow_capture : (T s : ℕ) (d e : Domain) → Meets (path 0 1 (negsuc 1) (pos 3)) T (clock s d) (clock s e) → SlowCapture T s
slow_capture T s Early Early p = absurd (omega (arith, ints))
slow_capture T s Early Late p = absurd (omega (arith, ints))
slow_capture T s Late Early p = record { at_least = omega (arith, ints); offset_at = omega (arith, ints) }
slow_capture T s Late Late p = absurd (omega (arith, ints))

pub slow_times : (T : ℕ) (s t : ℤ) → Meets (path 0 1 (negsuc 1) (pos 3)) T s t → 5 ≤ T
slow_times T s t p = omega (arith, ints)

-- 0 to 1 (−3, 4), 1 to 2 (−3, 4)
pub slow_chain : (T s : ℕ) (d e f : Domain) → Meets (path 0 1 (negsuc 2) (pos 4)) T (clock s d) (clock s e) → Meets (path 1 2 (negsuc 2) (pos 4)) T (clock s e) (clock s f) → ⊥
slow_chain T s Early Early f p q = omega (arith, ints)
slow_chain T s Early Late f p q = omega (arith, ints)
slow_chain T s Late Late f p q = omega (arith, ints)
slow_chain T s Late Early Early p q = omega (arith, ints)
slow_chain T s Late Early Late p q = omega (arith, ints)

pub slow_chain_times : (T : ℕ) (s t u : ℤ) → Meets (path 0 1 (negsuc 2) (pos 4)) T s t → Meets (path 1 2 (negsuc 2) (pos 4)) T t u → 7 ≤ T
slow_chain_times T s t u p q = omega (arith, ints)

-- a register to itself: the clock times cancel
pub self_hold : (T : ℕ) (s : ℤ) → Meets (path 0 0 (negsuc 0) (pos 5)) T s s → ⊥
self_hold T s p = omega (arith, ints)

pub self_setup : (T : ℕ) (s : ℤ) → Meets (path 0 0 (pos 0) (pos 5)) T s s → 5 ≤ T
self_setup T s p = omega (arith, ints)

-- what holds of the registers below 1, 2 and 3
pub below_1 : (P : ℕ → Type 0) → P 0 → (r : ℕ) → r < 1 → P r
below_1 P a zero h = a
below_1 P a (suc r) h = absurd (omega arith)

pub below_2 : (P : ℕ → Type 0) → P 0 → P 1 → (r : ℕ) → r < 2 → P r
below_2 P a b zero h = a
below_2 P a b (suc zero) h = b
below_2 P a b (suc (suc r)) h = absurd (omega arith)

pub below_3 : (P : ℕ → Type 0) → P 0 → P 1 → P 2 → (r : ℕ) → r < 3 → P r
below_3 P a b c zero h = a
below_3 P a b c (suc zero) h = b
below_3 P a b c (suc (suc zero)) h = c
below_3 P a b c (suc (suc (suc r))) h = absurd (omega arith)

-- a plan with its proofs, and times with theirs
pub plan_yields : (m : Meaning) (pins : List ℕ) (ceiling T s : ℕ) (ds : List ℕ) → Legal m pins ceiling T s (domains_of ds) → ((T' s' : ℕ) (D : ℕ → Domain) → Legal m pins ceiling T' s' D → T ≤ T') → ((s' : ℕ) (D : ℕ → Domain) → Legal m pins ceiling T s' D → s ≤ s') → Least m pins ceiling T s × Legal m pins ceiling T s (domains_of ds)
plan_yields m pins ceiling T s ds l p o = (record { reached = (domains_of ds, l); least_period = p; least_offset = o }, l)

pub times_yield : (m : Meaning) (T : ℕ) (ts : List ℤ) → LegalTimes m T (times_of ts) → NoneAbove0 m (times_of ts) → ((T' : ℕ) (t : ℕ → ℤ) → LegalTimes m T' t → T ≤ T') → ((o : ℕ → ℤ) → LegalTimes m T o → NoneAbove0 m o → (r : ℕ) → r < m.registers → o r ≤ℤ times_of ts r) → LeastFree m T × Greatest m T (times_of ts)
times_yield m T ts l n p o = (record { reached = (times_of ts, l); least = p }, record { legal = l; none_above = n; over_all = o })

-- a circuit by its registers and its pairs, and pins that leave all registers free
abbrev pub circuit : ℕ → List Pair → Meaning
circuit n ps = record { registers = n; entries = map pair ps }

abbrev pub no_pins : ℕ → List ℕ
no_pins n = replicate n 2
