-- The bytes of a record as a part of its file.
use Rattle.std.proofs.Common.{◌≡◌, ℕ, ◌+◌, ◌-◌, ◌*◌, ◌^◌, ◌<◌, ◌≤◌, min, Bool, true, false, leb, List, [], length, get_or, take, drop, sym, refl, ap, ◌∙◌, arith, length-drop, length-take}
use Rattle.std.proofs.lemmas.List.{take_all, drop_all, get_or-take, get_or-drop}
use Rattle.std.proofs.lemmas.Bool.{leb-true, leb-false}
use Rattle.delay_file.specs.Bytes.{be32}
use Rattle.delay_file.specs.Files.{record_at, record_count}

-- a front that is longer than the list is the list
cut_by : (n : ℕ) (ys : List ℕ) → length ys ≡ n → (b : Bool) → leb 32 n ≡ b → take (min 32 n) ys ≡ take 32 ys
cut_by n ys e true h = let l = leb-true 32 n h in let m : min 32 n ≡ 32 = omega arith in rw m
cut_by n ys e false h = let l = leb-false 32 n h in let m : min 32 n ≡ n = omega arith in rw m (take_all n ys (omega arith) ∙ sym (take_all 32 ys (omega arith)))

cut : (n : ℕ) (ys : List ℕ) → length ys ≡ n → take (min 32 n) ys ≡ take 32 ys
cut n ys e = cut_by n ys e (leb 32 n) refl

module _ (xs : List ℕ) (k a e : ℕ) (small : length xs < 2 ^ 64) (from : a ≡ min (min (k * 32) (2 ^ 64 - 1)) (length xs)) (to : e ≡ min (min (a + 32) (2 ^ 64 - 1)) (length xs)) where
  -- the record starts past the end
  past : length xs ≤ k * 32 → take (e - a) (drop a xs) ≡ take 32 (drop (k * 32) xs)
  past h =
      let d : drop a xs ≡ [] = drop_all a xs (omega arith) in
      let f : drop (k * 32) xs ≡ [] = drop_all (k * 32) xs h in
      let z : e - a ≡ 0 = omega arith in
      rw (d, f, z)

  -- it starts before the end; all that is left of the file is wanted where that is less than a record
  there : k * 32 < length xs → take (e - a) (drop a xs) ≡ take 32 (drop (k * 32) xs)
  there h =
      let s : a ≡ k * 32 = omega arith in
      let n : e - a ≡ min 32 (length xs - k * 32) = omega arith in
      rw (n, s) (cut (length xs - k * 32) (drop (k * 32) xs) (length-drop (k * 32) xs))

  part_by : (b : Bool) → leb (length xs) (k * 32) ≡ b → take (e - a) (drop a xs) ≡ record_at xs k
  part_by true h = past (leb-true _ _ h)
  part_by false h = there (leb-false _ _ h)

  pub part_is : take (e - a) (drop a xs) ≡ record_at xs k
  part_is = part_by (leb (length xs) (k * 32)) refl

pub record_length : (xs : List ℕ) (k : ℕ) → k < record_count xs → length (record_at xs k) ≡ 32
record_length xs k h = simp (length-take, length-drop) (omega arith)

byte_there : (xs : List ℕ) (k i j : ℕ) → i < 32 → j ≡ k * 32 + i → get_or xs j 0 ≡ get_or (record_at xs k) i 0
byte_there xs k i j h e = ap (λ m. get_or xs m 0) e ∙ sym (get_or-take 32 (drop (k * 32) xs) i 0 h ∙ get_or-drop (k * 32) xs i 0)

-- a number in a record, read from the whole file
pub number_there : (xs : List ℕ) (k i : ℕ) → i + 4 ≤ 32 → be32 xs (k * 32 + i) ≡ be32 (record_at xs k) i
number_there xs k i h =
    let a = byte_there xs k i (k * 32 + i) (omega arith) (omega arith) in
    let b = byte_there xs k (i + 1) (k * 32 + i + 1) (omega arith) (omega arith) in
    let c = byte_there xs k (i + 2) (k * 32 + i + 2) (omega arith) (omega arith) in
    let d = byte_there xs k (i + 3) (k * 32 + i + 3) (omega arith) (omega arith) in
    cc
