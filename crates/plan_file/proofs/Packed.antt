-- Words of bits: a number from its bits, its bits again, and how many are set.
use Rattle.std.proofs.Common.{◌≡◌, ℕ, zero, suc, ◌+◌, ◌-◌, ◌*◌, ◌/◌, ◌%◌, ◌^◌, ◌<◌, ◌≤◌, Bool, true, false, eqb, leb, sym, refl, ap, ◌∙◌, ap₂, mod-eq_of_lt, mul_assoc, mul_comm, pow-suc, div-one, add-one, arith, pow_mono}
use native.Mathlib.Nat.{div-div-eq-div-mul}
use lib.Bits.{bit_or, or_shifted_r}
use lib.Count.{ones, ones_step}
use lib.Pow.{pow-lt}
use Rattle.std.proofs.lemmas.Bool.{eqb-true, eqb-false, leb-true, leb-false}
use Rattle.std.specs.List.{count_by, range_with_len}
use Rattle.std.proofs.lemmas.List.{map-id}
use Rattle.std.proofs.lemmas.List.FromFn.{length-range_with_len, sum_by-map-range_with_len_more}
use Rattle.std.proofs.lemmas.List.Sums.{count_by-le-length}
use Rattle.plan_file.specs.PlanRecords.{bit, packed, count}

one_more : (b : Bool) (p x : ℕ) → p < x → p + bit b * x < x * 2
one_more true p x h = omega arith
one_more false p x h = omega arith

pub packed_lt : (f : ℕ → Bool) (k : ℕ) → packed f k < 2 ^ k
unfolding packed
packed_lt f zero = omega arith
packed_lt f (suc k) = let e = pow-suc 2 k in let h = one_more (f k) (packed f k) (2 ^ k) (packed_lt f k) in omega arith

-- one bit more, as the code sets it
pub set_bit : (f : ℕ → Bool) (k w : ℕ) → k < 64 → f k ≡ true → w ≡ packed f k → bit_or w ((1 * 2 ^ k) % 18446744073709551616) ≡ packed f (k + 1)
unfolding packed
set_bit f k w h t e =
    let small : 2 ^ k < 2 ^ 64 = pow-lt h in
    let m : (1 * 2 ^ k) % 18446744073709551616 ≡ 1 * 2 ^ k = mod-eq_of_lt (omega arith) in
    let lt : w < 2 ^ k = rw e (packed_lt f k) in
    let a : 1 * 2 ^ k + w ≡ packed f k + bit (f k) * 2 ^ k = rw (t, e) (omega arith) in
    ap (bit_or w) m ∙ or_shifted_r 1 k w lt ∙ a ∙ ap (packed f) (sym (add-one k))

pub skip_bit : (f : ℕ → Bool) (k w : ℕ) → f k ≡ false → w ≡ packed f k → w ≡ packed f (k + 1)
unfolding packed
skip_bit f k w t e =
    let a : packed f k ≡ packed f k + bit (f k) * 2 ^ k = rw t (omega arith) in
    e ∙ a ∙ ap (packed f) (sym (add-one k))

pub packed_none : (f : ℕ → Bool) → 0 ≡ packed f 0
unfolding packed
packed_none f = refl

-- one more at the end
count-suc : (f : ℕ → Bool) (k : ℕ) → count f (suc k) ≡ count f k + bit (f k)
count-suc f k =
    ap (count f) (sym (add-one k)) ∙ ap (count_by f) (sym (map-id (range_with_len 0 (k + 1))))
    ∙ sum_by-map-range_with_len_more (λ i. bit (f i)) (λ i. i) 0 k k (omega arith)
    ∙ ap (λ xs. count_by f xs + bit (f k)) (map-id (range_with_len 0 k))

-- the lowest bit, and the others
doubled : (a b x y : ℕ) → b * (x * 2) ≡ 2 * (b * x)
doubled a b x y = rw (mul_comm x 2) (sym (mul_assoc b 2 x) ∙ ap (λ n. n * x) (mul_comm b 2) ∙ mul_assoc 2 b x)

packed_low : (f : ℕ → Bool) (k : ℕ) → packed f (suc k) ≡ bit (f 0) + 2 * packed (λ i. f (suc i)) k
unfolding packed
packed_low f zero = omega arith
packed_low f (suc k) =
    let e = packed_low f k in
    let p = pow-suc 2 k in
    let d = doubled 0 (bit (f (suc k))) (2 ^ k) 0 in
    let q : bit (f (suc k)) * 2 ^ suc k ≡ 2 * (bit (f (suc k)) * 2 ^ k) = ap (λ n. bit (f (suc k)) * n) p ∙ d in
    omega arith

count_low : (f : ℕ → Bool) (k : ℕ) → count f (suc k) ≡ bit (f 0) + count (λ i. f (suc i)) k
count_low f zero = count-suc f 0 ∙ omega arith
count_low f (suc k) = let e = count_low f k in let a = count-suc f (suc k) in let b = count-suc (λ i. f (suc i)) k in omega arith

bit_lt : (b : Bool) → bit b < 2
bit_lt true = omega arith
bit_lt false = omega arith

low : (b m : ℕ) → b < 2 → (b + 2 * m) % 2 ≡ b
low b m h = omega arith

half : (b m : ℕ) → b < 2 → (b + 2 * m) / 2 ≡ m
half b m h = omega arith

-- the count of ones in a word is how many of its bits are set
pub ones_packed : (f : ℕ → Bool) (k : ℕ) → ones (packed f k) ≡ count f k
unfolding packed ones
ones_packed f zero = refl
ones_packed f (suc k) =
    let b = bit_lt (f 0) in
    ap ones (packed_low f k) ∙ ones_step (bit (f 0) + 2 * packed (λ i. f (suc i)) k)
    ∙ ap₂ (λ x y. x + ones y) (low (bit (f 0)) (packed (λ i. f (suc i)) k) b) (half (bit (f 0)) (packed (λ i. f (suc i)) k) b)
    ∙ ap (λ n. bit (f 0) + n) (ones_packed (λ i. f (suc i)) k) ∙ sym (count_low f k)

-- bit i of a word is the bit that was put there
pub bit_of_packed : (f : ℕ → Bool) (k i : ℕ) → i < k → packed f k / 2 ^ i % 2 ≡ bit (f i)
bit_of_packed f zero i h = absurd (omega arith)
bit_of_packed f (suc k) zero h =
    let b = bit_lt (f 0) in
    ap (λ n. n / 1 % 2) (packed_low f k) ∙ ap (λ n. n % 2) (div-one _) ∙ low (bit (f 0)) (packed (λ i. f (suc i)) k) b
bit_of_packed f (suc k) (suc i) h =
    let b = bit_lt (f 0) in
    let p : 2 ^ suc i ≡ 2 * 2 ^ i = pow-suc 2 i ∙ mul_comm (2 ^ i) 2 in
    ap₂ (λ n m. n / m % 2) (packed_low f k) p
    ∙ ap (λ n. n % 2) (sym (div-div-eq-div-mul (bit (f 0) + 2 * packed (λ i. f (suc i)) k) 2 (2 ^ i)))
    ∙ ap (λ n. n / 2 ^ i % 2) (half (bit (f 0)) (packed (λ i. f (suc i)) k) b)
    ∙ bit_of_packed (λ i. f (suc i)) k i (omega arith)

pub packed_same : (f g : ℕ → Bool) (k : ℕ) → ((i : ℕ) → i < k → f i ≡ g i) → packed f k ≡ packed g k
unfolding packed
packed_same f g zero h = refl
packed_same f g (suc k) h =
    ap₂ (λ p b. p + bit b * 2 ^ k) (packed_same f g k (λ i l. h i (omega arith))) (h k (omega arith))

-- the bits of a number
abbrev pub own_bit : ℕ → ℕ → Bool
own_bit w i = eqb (w / 2 ^ i % 2) 1

bit_own_by : (x : ℕ) (b : Bool) → eqb (x % 2) 1 ≡ b → bit b ≡ x % 2
bit_own_by x true e = sym (eqb-true (x % 2) 1 e)
bit_own_by x false e = let n = eqb-false (x % 2) 1 e in omega arith

bit_own : (x : ℕ) → bit (eqb (x % 2) 1) ≡ x % 2
bit_own x = bit_own_by x (eqb (x % 2) 1) refl

next_bit : (w i : ℕ) → own_bit w (suc i) ≡ own_bit (w / 2) i
next_bit w i =
    let p : 2 ^ suc i ≡ 2 * 2 ^ i = pow-suc 2 i ∙ mul_comm (2 ^ i) 2 in
    ap (λ x. eqb (x % 2) 1) (ap (λ m. w / m) p ∙ sym (div-div-eq-div-mul w 2 (2 ^ i)))

-- a number below 2 ^ k is made of its own k bits
pub packed_own : (k w : ℕ) → w < 2 ^ k → packed (own_bit w) k ≡ w
packed_own zero w h = sym (packed_none (own_bit w)) ∙ omega arith
packed_own (suc k) w h =
    let p = pow-suc 2 k in
    let e = packed_same (λ i. own_bit w (suc i)) (own_bit (w / 2)) k (λ i _. next_bit w i) ∙ packed_own k (w / 2) (omega arith) in
    let b : bit (own_bit w 0) ≡ w % 2 = ap (λ x. bit (eqb (x % 2) 1)) (div-one w) ∙ bit_own w in
    packed_low (own_bit w) k ∙ omega arith

-- what is false from m on
pub packed_past : (f : ℕ → Bool) (m k : ℕ) → ((i : ℕ) → m ≤ i → f i ≡ false) → packed f (m + k) ≡ packed f m
unfolding packed
packed_past f m zero h = let q : m + 0 ≡ m = omega arith in ap (packed f) q
packed_past f m (suc k) h =
    let e = h (m + k) (omega arith) in
    let q : m + suc k ≡ suc (m + k) = omega arith in
    let s : packed f (m + suc k) ≡ packed f (suc (m + k)) = ap (packed f) q in
    let z : packed f (suc (m + k)) ≡ packed f (m + k) = rw e (omega arith) in
    s ∙ z ∙ packed_past f m k h

pub count_past : (f : ℕ → Bool) (m k : ℕ) → ((i : ℕ) → m ≤ i → f i ≡ false) → count f (m + k) ≡ count f m
count_past f m zero h = let q : m + 0 ≡ m = omega arith in ap (count f) q
count_past f m (suc k) h =
    let e = h (m + k) (omega arith) in
    let q : m + suc k ≡ suc (m + k) = omega arith in
    let s : count f (m + suc k) ≡ count f (suc (m + k)) = ap (count f) q in
    let z : count f (suc (m + k)) ≡ count f (m + k) = count-suc f (m + k) ∙ rw e (omega arith) in
    s ∙ z ∙ count_past f m k h

pub count_append : (f : ℕ → Bool) (m k : ℕ) → count f (m + k) ≡ count f m + count (λ i. f (m + i)) k
count_append f m zero = let q : m + 0 ≡ m = omega arith in ap (count f) q ∙ omega arith
count_append f m (suc k) =
    let q : m + suc k ≡ suc (m + k) = omega arith in
    let s : count f (m + suc k) ≡ count f (suc (m + k)) = ap (count f) q in
    let e = count_append f m k in
    let a = count-suc f (m + k) in
    let b = count-suc (λ i. f (m + i)) k in
    s ∙ omega arith

pub count_le : (f : ℕ → Bool) (k : ℕ) → count f k ≤ k
count_le f k = let l = length-range_with_len 0 k in let c = count_by-le-length f (range_with_len 0 k) in omega arith

packed_below_by : (f : ℕ → Bool) (m : ℕ) → ((i : ℕ) → m ≤ i → f i ≡ false) → (b : Bool) → leb 64 m ≡ b → packed f 64 < 2 ^ m
packed_below_by f m h true e = let p : 2 ^ 64 ≤ 2 ^ m = pow_mono (leb-true 64 m e) in let q = packed_lt f 64 in omega arith
packed_below_by f m h false e =
    let l = leb-false 64 m e in
    let a : packed f 64 ≡ packed f m = ap (packed f) (omega arith) ∙ packed_past f m (64 - m) h in
    let q = packed_lt f m in
    omega arith

-- a word without bits from m on
pub packed_below : (f : ℕ → Bool) (m : ℕ) → ((i : ℕ) → m ≤ i → f i ≡ false) → packed f 64 < 2 ^ m
packed_below f m h = packed_below_by f m h (leb 64 m) refl
