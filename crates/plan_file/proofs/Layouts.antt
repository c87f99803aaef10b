-- What the bytes of a plan record say: its layout, and the numbers in it.
use Rattle.std.proofs.Common.{◌≡◌, ℕ, ◌+◌, ◌-◌, ◌*◌, ◌/◌, ◌%◌, ◌^◌, ◌<◌, ◌≤◌, Bool, true, false, eqb, ltb, List, ◌∷◌, ◌++◌, length, get_or, drop, replicate, sym, refl, ap, ◌∙◌, ap₂, arith, length-drop, pow_pos, pow_mono}
use lib.Count.{ones}
use native.Mathlib.Nat.{div-eq_of_lt, lt-div-mul-add, div-div-eq-div-mul}
use Rattle.std.proofs.lemmas.Bool.{and_parts, eqb-true, eq-eqb, ne_eqb, lt-ltb, ltb-true, ltb-false}
use Rattle.delay_file.specs.Bytes.{be32, bytes_of, every, is_zero}
use Rattle.delay_file.proofs.Spellings.{four, quad, word, all_zero_is}
use Rattle.plan_file.specs.PlanReading.{be64, laid_out}
use Rattle.plan_file.specs.PlanRecords.{head_record, word_record, word_bytes}

-- a word of 64 bits has no bits from the 64th on
pub below_more_bits : (w k : ℕ) → w < 2 ^ 64 → 64 ≤ k → ltb w (2 ^ k) ≡ true
below_more_bits w k h g = let p : 2 ^ 64 ≤ 2 ^ k = pow_mono g in lt-ltb w (2 ^ k) (omega arith)

no_bits_by : (w p : ℕ) → 0 < p → (b : Bool) → ltb w p ≡ b → eqb (w / p) 0 ≡ b
no_bits_by w p h true e = eq-eqb (w / p) 0 (div-eq_of_lt (ltb-true w p e))
no_bits_by w p h false e =
    ne_eqb (w / p) 0 (λ z. let l = ltb-false w p e in let d = lt-div-mul-add {a = w} {b = p} h in let m : w / p * p ≡ 0 = ap (λ n. n * p) z ∙ omega arith in omega arith)

-- what is left of a word without its first k bits is 0 where it is below 2 ^ k
pub no_bits_from : (w k : ℕ) → eqb (w / 2 ^ k) 0 ≡ ltb w (2 ^ k)
no_bits_from w k = no_bits_by w (2 ^ k) (pow_pos k) (ltb w (2 ^ k)) refl

-- the eight bytes of a number, by its two halves
high_half : (a b : ℕ) → b < 4294967296 → (a * 4294967296 + b) / 4294967296 ≡ a
high_half a b h = omega arith

half_by : (w d : ℕ) → w / (4294967296 * d) ≡ w / 4294967296 / d
half_by w d = sym (div-div-eq-div-mul w 4294967296 d)

eight : (a b : ℕ) → b < 4294967296 → word_bytes (a * 4294967296 + b) ≡ bytes_of a ++ bytes_of b
eight a b h =
    let w = a * 4294967296 + b in
    let q = high_half a b h in
    let e1 : w / 72057594037927936 % 256 ≡ a / 16777216 % 256 = ap (λ n. n % 256) (half_by w 16777216 ∙ ap (λ n. n / 16777216) q) in
    let e2 : w / 281474976710656 % 256 ≡ a / 65536 % 256 = ap (λ n. n % 256) (half_by w 65536 ∙ ap (λ n. n / 65536) q) in
    let e3 : w / 1099511627776 % 256 ≡ a / 256 % 256 = ap (λ n. n % 256) (half_by w 256 ∙ ap (λ n. n / 256) q) in
    let e4 : w / 4294967296 % 256 ≡ a % 256 = ap (λ n. n % 256) q in
    let e5 : w / 16777216 % 256 ≡ b / 16777216 % 256 = omega arith in
    let e6 : w / 65536 % 256 ≡ b / 65536 % 256 = omega arith in
    let e7 : w / 256 % 256 ≡ b / 256 % 256 = omega arith in
    let e8 : w % 256 ≡ b % 256 = omega arith in
    cc

-- A number of 64 bits, and its halves again.
halves : (w : ℕ) → w / 4294967296 * 4294967296 + w % 4294967296 ≡ w
halves w = omega arith

-- eight bytes of a number are the number again
pub eight_back : (w : ℕ) (xs : List ℕ) (i : ℕ) → w < 18446744073709551616 → be32 xs i ≡ be32 (word_bytes w) 0 → be32 xs (i + 4) ≡ be32 (word_bytes w) 4 → be64 xs i ≡ w
eight_back w xs i h p q =
    let a = w / 4294967296 in
    let b = w % 4294967296 in
    let z = halves w in
    let e : word_bytes w ≡ bytes_of a ++ bytes_of b = ap word_bytes (sym z) ∙ eight a b (omega arith) in
    let u : be32 (word_bytes w) 0 ≡ a = ap (λ l. be32 l 0) e ∙ four a (omega arith) in
    let v : be32 (word_bytes w) 4 ≡ b = ap (λ l. be32 l 4) e ∙ four b (omega arith) in
    ap₂ (λ x y. x * 4294967296 + y) (p ∙ u) (q ∙ v) ∙ z

module _ (xs : List ℕ) (bytes : (i : ℕ) → get_or xs i 0 < 256) where
  pub number_lt : (i : ℕ) → be32 xs i < 4294967296
  number_lt i =
      let p = bytes i in let q = bytes (i + 1) in let r = bytes (i + 2) in let s = bytes (i + 3) in
      omega arith

  -- what a layout says, byte by byte
  laid_parts : (kind second end : ℕ) → laid_out kind second end xs ≡ true → (length xs ≡ 32) × (xs ≡ kind ∷ (second ∷ (0 ∷ (0 ∷ drop 4 xs)))) × (drop end xs ≡ replicate (32 - end) 0)
  laid_parts kind second end h =
      let g : ℕ → ℕ = λ i. get_or xs i 0 in
      let z = every is_zero (drop end xs) in
      let a = and_parts (eqb (length xs) 32) _ h in
      let b = and_parts (eqb (g 0) kind) _ a.1 in
      let c = and_parts (eqb (g 1) second) _ b.1 in
      let d = and_parts (eqb (g 2) 0) _ c.1 in
      let e = and_parts (eqb (g 3) 0) z d.1 in
      let n = eqb-true (length xs) 32 a.0 in
      let e0 = eqb-true (g 0) kind b.0 in
      let e1 = eqb-true (g 1) second c.0 in
      let e2 = eqb-true (g 2) 0 d.0 in
      let e3 = eqb-true (g 3) 0 e.0 in
      let l : length (drop end xs) ≡ 32 - end = length-drop end xs ∙ ap (λ m. m - end) n in
      (n, quad xs 0 (omega arith) ∙ rw (e0, e1, e2, e3) refl, all_zero_is (drop end xs) e.1 ∙ ap (λ m. replicate m 0) l)

  -- a head is written as its numbers say
  pub head_spelled : laid_out 16 0 20 xs ≡ true → xs ≡ head_record (be32 xs 4) (be32 xs 8) (be32 xs 12) (be32 xs 16)
  head_spelled h =
      let p = laid_parts 16 0 20 h in
      let at : (i : ℕ) → i + 4 ≤ 32 → drop i xs ≡ bytes_of (be32 xs i) ++ drop (i + 4) xs = word xs bytes p.0 in
      p.1 ∙ ap (λ l. 16 ∷ (0 ∷ (0 ∷ (0 ∷ l))))
      (at 4 (omega arith) ∙ ap (λ l. bytes_of (be32 xs 4) ++ l)
      (at 8 (omega arith) ∙ ap (λ l. bytes_of (be32 xs 8) ++ l)
      (at 12 (omega arith) ∙ ap (λ l. bytes_of (be32 xs 12) ++ l)
      (at 16 (omega arith) ∙ ap (λ l. bytes_of (be32 xs 16) ++ l) p.2))))

  -- and so is a word
  pub word_spelled : laid_out 17 (ones (be64 xs 8)) 16 xs ≡ true → xs ≡ word_record (be32 xs 4) (be64 xs 8)
  word_spelled h =
      let p = laid_parts 17 (ones (be64 xs 8)) 16 h in
      let at : (i : ℕ) → i + 4 ≤ 32 → drop i xs ≡ bytes_of (be32 xs i) ++ drop (i + 4) xs = word xs bytes p.0 in
      let e : word_bytes (be64 xs 8) ++ replicate 16 0 ≡ bytes_of (be32 xs 8) ++ (bytes_of (be32 xs 12) ++ replicate 16 0) = ap (λ l. l ++ replicate 16 0) (eight (be32 xs 8) (be32 xs 12) (number_lt 12)) in
      p.1 ∙ ap (λ l. 17 ∷ (ones (be64 xs 8) ∷ (0 ∷ (0 ∷ l))))
      (at 4 (omega arith) ∙ ap (λ l. bytes_of (be32 xs 4) ++ l)
      (at 8 (omega arith) ∙ ap (λ l. bytes_of (be32 xs 8) ++ l)
      (at 12 (omega arith) ∙ ap (λ l. bytes_of (be32 xs 12) ++ l) p.2) ∙ sym e))
