-- A record has one spelling: what is written reads back, and what reads is, byte for byte, what is written.
use Rattle.std.proofs.Common.{◌≡◌, ℕ, zero, suc, ◌+◌, ◌-◌, ◌*◌, ◌/◌, ◌%◌, ◌<◌, ◌≤◌, Bool, true, false, cond, ◌&&◌, eqb, leb, List, [], ◌∷◌, ◌++◌, length, get_or, drop, replicate, ℤ, Some, sym, refl, ap, ◌∙◌, ap₂, mod-eq_of_lt, arith, length-append, length-drop, length-take, w8, w32, Fits, SFits, to_z, of_z}
use Rattle.std.proofs.lemmas.List.{length-replicate, take_at, drop_at, take-append-drop, at_drop_more}
use Rattle.std.proofs.lemmas.Int.{to_z-of_z, of_z-to_z}
use Rattle.std.proofs.lemmas.List.Sums.{prefix_len-le-length}
use native.Mathlib.Nat.{div-div-eq-div-mul, div-add-mod}
use Rattle.std.proofs.lemmas.Bool.{and_parts, and_from, eqb-true}
use Rattle.std.proofs.lemmas.Bool.Decides.{nat_tests}
use Rattle.std.specs.List.{prefix_len}
use Rattle.timing.specs.declared.pair.Pair.{Pair}
use Rattle.delay_file.specs.Bytes.{be32, be_z, bytes_of, bytes_of_z, every, is_zero, not_zero, graphic}
use Rattle.delay_file.specs.Records.{Reading, register, delay, refused, reading, register_bytes, pair_bytes, lawful_name, lawful_field, name_in, pair_fields, starts, Spelled}

joined : (n a b c x y z : ℕ) → n ≡ 256 * a + x → a ≡ 256 * b + y → b ≡ 256 * c + z → c * 16777216 + z * 65536 + y * 256 + x ≡ n
joined n a b c x y z f g h = omega arith

-- four bytes of a number are the number again
pub four : (n : ℕ) → n < 4294967296 → n / 16777216 % 256 * 16777216 + n / 65536 % 256 * 65536 + n / 256 % 256 * 256 + n % 256 ≡ n
four n h =
    let b : n / 65536 ≡ n / 256 / 256 = sym (div-div-eq-div-mul n 256 256) in
    let c : n / 16777216 ≡ n / 256 / 256 / 256 = sym (div-div-eq-div-mul (n / 256) 256 256 ∙ div-div-eq-div-mul n 256 65536) in
    let x = div-add-mod n 256 in
    let y = div-add-mod (n / 256) 256 in
    let z = div-add-mod (n / 256 / 256) 256 in
    let w : n / 256 / 256 / 256 % 256 ≡ n / 256 / 256 / 256 = mod-eq_of_lt (omega arith) in
    rw (b, c, w) (joined n (n / 256) (n / 256 / 256) (n / 256 / 256 / 256) _ _ _ (sym x) (sym y) (sym z))

four_z : (z : ℤ) → SFits w32 z → of_z w32 z < 4294967296 → to_z w32 (of_z w32 z / 16777216 % 256 * 16777216 + of_z w32 z / 65536 % 256 * 65536 + of_z w32 z / 256 % 256 * 256 + of_z w32 z % 256) ≡ z
four_z z f h = ap (to_z w32) (four (of_z w32 z) h) ∙ to_z-of_z w32 z f

same_fields : {a a' b b' : ℕ} {c c' d d' : ℤ} → a ≡ a' → b ≡ b' → c ≡ c' → d ≡ d' → ◌≡◌ {A = Pair} (record { launch = a; capture = b; min = c; max = d }) (record { launch = a'; capture = b'; min = c'; max = d' })
same_fields a b c d = cc

same_delay : (p q : Pair) → p.launch ≡ q.launch → p.capture ≡ q.capture → p.min ≡ q.min → p.max ≡ q.max → delay p ≡ delay q
same_delay p q a b c d = ap delay (same_fields a b c d)

pub pair_reads_back : (k : ℕ) (p : Pair) → p.launch < 4294967296 → p.capture < 4294967296 → SFits w32 p.min → SFits w32 p.max → of_z w32 p.min < 4294967296 → of_z w32 p.max < 4294967296 → reading k (pair_bytes p) ≡ delay p
pair_reads_back k p a b f g u v =
    same_delay (pair_fields (pair_bytes p)) p (four p.launch a) (four p.capture b) (four_z p.min f u) (four_z p.max g v)

leading_zeros : (m : ℕ) → prefix_len not_zero (replicate m 0) ≡ 0
leading_zeros zero = refl
leading_zeros (suc m) = refl

-- a name ends where the zeros begin
leading_name : (name : List ℕ) (m : ℕ) → every graphic name ≡ true → prefix_len not_zero (name ++ replicate m 0) ≡ length name
leading_name [] m h = leading_zeros m
leading_name (x ∷ name) m h =
    let g = and_parts (graphic x) (every graphic name) h in
    let z : not_zero x ≡ true = let p = g.0 in grind (arith, nat_tests) in
    rw (z, leading_name name m g.1) (omega arith)

every_zeros : (m : ℕ) → every is_zero (replicate m 0) ≡ true
every_zeros zero = refl
every_zeros (suc m) = every_zeros m

field_end : (name : List ℕ) (m : ℕ) → every graphic name ≡ true → lawful_name name ≡ true → lawful_field (name ++ replicate m 0) ≡ true
field_end name m g h =
    rw (leading_name name m g, take_at name (replicate m 0) (length name) refl, drop_at name (replicate m 0) (length name) refl) (and_from _ _ h (every_zeros m))

pub register_reads_back : (k n : ℕ) (name : List ℕ) → n < 4294967296 → lawful_name name ≡ true → reading k (register_bytes n name) ≡ register n name
register_reads_back k n name b h =
    let t = and_parts (leb 1 (length name)) _ h in
    let u = and_parts (leb (length name) 24) (every graphic name) t.1 in
    let m = 24 - length name in
    let l : length (name ++ replicate m 0) ≡ 24 = let q = u.0 in simp (length-append, length-replicate) (grind (arith, nat_tests)) in
    let e : name_in (name ++ replicate m 0) ≡ name = rw (leading_name name m u.1) (take_at name (replicate m 0) (length name) refl) in
    rw (l, field_end name m u.1 h, e, four n b)

-- the other way: the number in four bytes is written as these four bytes
four_bytes : (a b c d : ℕ) → a < 256 → b < 256 → c < 256 → d < 256 → bytes_of (a * 16777216 + b * 65536 + c * 256 + d) ≡ a ∷ (b ∷ (c ∷ (d ∷ [])))
four_bytes a b c d p q r s =
    let n = a * 16777216 + b * 65536 + c * 256 + d in
    let w : n / 16777216 % 256 ≡ a = omega arith in
    let x : n / 65536 % 256 ≡ b = omega arith in
    let y : n / 256 % 256 ≡ c = omega arith in
    let z : n % 256 ≡ d = omega arith in
    cc

pub all_zero_is : (xs : List ℕ) → every is_zero xs ≡ true → xs ≡ replicate (length xs) 0
all_zero_is [] h = refl
all_zero_is (x ∷ xs) h = let g = and_parts (is_zero x) (every is_zero xs) h in ap₂ (λ y ys. y ∷ ys) (eqb-true x 0 g.0) (all_zero_is xs g.1)

next : (xs : List ℕ) (i : ℕ) → i < length xs → drop i xs ≡ get_or xs i 0 ∷ drop (i + 1) xs
next xs i h = at_drop_more (λ l. l) xs i 0 h

-- the four bytes from i on, and the rest
pub quad : (xs : List ℕ) (i : ℕ) → i + 4 ≤ length xs → drop i xs ≡ get_or xs i 0 ∷ (get_or xs (i + 1) 0 ∷ (get_or xs (i + 2) 0 ∷ (get_or xs (i + 3) 0 ∷ drop (i + 4) xs)))
quad xs i h =
    let b : i + 1 + 1 ≡ i + 2 = omega arith in
    let c : i + 2 + 1 ≡ i + 3 = omega arith in
    let d : i + 3 + 1 ≡ i + 4 = omega arith in
    next xs i (omega arith) ∙ ap (λ l. get_or xs i 0 ∷ l) (next xs (i + 1) (omega arith)
    ∙ rw b (ap (λ l. get_or xs (i + 1) 0 ∷ l) (next xs (i + 2) (omega arith)
    ∙ rw c (ap (λ l. get_or xs (i + 2) 0 ∷ l) (next xs (i + 3) (omega arith) ∙ rw d refl)))))

module _ (xs : List ℕ) (bytes : (i : ℕ) → get_or xs i 0 < 256) (n : length xs ≡ 32) where
  pub word : (i : ℕ) → i + 4 ≤ 32 → drop i xs ≡ bytes_of (be32 xs i) ++ drop (i + 4) xs
  word i h =
      quad xs i (omega arith)
      ∙ ap (λ l. l ++ drop (i + 4) xs) (sym (four_bytes _ _ _ _ (bytes i) (bytes (i + 1)) (bytes (i + 2)) (bytes (i + 3))))

  word_z : (i : ℕ) → i + 4 ≤ 32 → drop i xs ≡ bytes_of_z (be_z xs i) ++ drop (i + 4) xs
  word_z i h =
      let p = bytes i in let q = bytes (i + 1) in let r = bytes (i + 2) in let s = bytes (i + 3) in
      let e : of_z w32 (to_z w32 (be32 xs i)) ≡ be32 xs i = of_z-to_z w32 (be32 xs i) (omega arith) in
      word i h ∙ ap (λ m. bytes_of m ++ drop (i + 4) xs) (sym e)

  start : (kind : ℕ) → starts kind xs ≡ true → xs ≡ kind ∷ (0 ∷ (0 ∷ (0 ∷ drop 4 xs)))
  start kind h =
      let g : ℕ → ℕ = λ i. get_or xs i 0 in
      let a = and_parts (eqb (g 0) kind) (eqb (g 1) 0 && (eqb (g 2) 0 && eqb (g 3) 0)) h in
      let b = and_parts (eqb (g 1) 0) (eqb (g 2) 0 && eqb (g 3) 0) a.1 in
      let c = and_parts (eqb (g 2) 0) (eqb (g 3) 0) b.1 in
      let e = eqb-true (g 0) kind a.0 in
      let e1 = eqb-true (g 1) 0 b.0 in
      let e2 = eqb-true (g 2) 0 c.0 in
      let e3 = eqb-true (g 3) 0 c.1 in
      quad xs 0 (omega arith) ∙ rw (e, e1, e2, e3) refl

  pub pair_spelled : starts 2 xs ≡ true → every is_zero (drop 20 xs) ≡ true → xs ≡ pair_bytes (pair_fields xs)
  pair_spelled h z =
      let l : length (drop 20 xs) ≡ 12 = simp (length-drop, n) in
      let e = all_zero_is (drop 20 xs) z ∙ ap (λ m. replicate m 0) l in
      start 2 h ∙ ap (λ l. 2 ∷ (0 ∷ (0 ∷ (0 ∷ l))))
      (word 4 (omega arith) ∙ ap (λ l. bytes_of (be32 xs 4) ++ l)
      (word 8 (omega arith) ∙ ap (λ l. bytes_of (be32 xs 8) ++ l)
      (word_z 12 (omega arith) ∙ ap (λ l. bytes_of_z (be_z xs 12) ++ l)
      (word_z 16 (omega arith) ∙ ap (λ l. bytes_of_z (be_z xs 16) ++ l) e))))

  pub register_spelled : starts 1 xs ≡ true → lawful_field (drop 8 xs) ≡ true → xs ≡ register_bytes (be32 xs 4) (name_in (drop 8 xs))
  register_spelled h f =
      let p = and_parts (lawful_name (name_in (drop 8 xs))) _ f in
      let m = prefix_len not_zero (drop 8 xs) in
      let le = prefix_len-le-length not_zero (drop 8 xs) in
      let l : length (drop 8 xs) ≡ 24 = simp (length-drop, n) in
      let t : length (name_in (drop 8 xs)) ≡ m = simp length-take (omega arith) in
      let d : length (drop m (drop 8 xs)) ≡ 24 - length (name_in (drop 8 xs)) = length-drop m (drop 8 xs) ∙ omega arith in
      let e = all_zero_is (drop m (drop 8 xs)) p.1 ∙ ap (λ k. replicate k 0) d in
      start 1 h ∙ ap (λ l. 1 ∷ (0 ∷ (0 ∷ (0 ∷ l))))
      (word 4 (omega arith) ∙ ap (λ l. bytes_of (be32 xs 4) ++ l)
      (sym (take-append-drop m (drop 8 xs)) ∙ ap (λ l. name_in (drop 8 xs) ++ l) e))

by_cases : (x y z : Bool) (k : ℕ) (xs : List ℕ) (n : ℕ) (name : List ℕ) (p : Pair) → (x ≡ true → y ≡ true → Spelled xs (register n name)) → (x ≡ true → z ≡ true → Spelled xs (delay p)) → Spelled xs (cond x (cond y (register n name) (cond z (delay p) (refused 13 (Some k)))) (refused 12 (Some k)))
by_cases true true z k xs n name p f g = f refl refl
by_cases true false true k xs n name p f g = g refl refl
by_cases true false false k xs n name p f g = tt
by_cases false y z k xs n name p f g = tt

pub spelled : (k : ℕ) (xs : List ℕ) → ((i : ℕ) → get_or xs i 0 < 256) → Spelled xs (reading k xs)
spelled k xs bytes =
    by_cases (eqb (length xs) 32) (starts 1 xs && lawful_field (drop 8 xs)) (starts 2 xs && every is_zero (drop 20 xs)) k xs (be32 xs 4) (name_in (drop 8 xs)) (pair_fields xs)
    (λ n h. let a = and_parts (starts 1 xs) _ h in ((and_parts (lawful_name (name_in (drop 8 xs))) _ a.1).0, register_spelled xs bytes (eqb-true _ _ n) a.0 a.1))
    (λ n h. let a = and_parts (starts 2 xs) _ h in pair_spelled xs bytes (eqb-true _ _ n) a.0 a.1)

-- the same of an answer that is the reading
pub spelled_as : (k : ℕ) (xs : List ℕ) (x : Reading) → ((i : ℕ) → Fits w8 (get_or xs i 0)) → x ≡ reading k xs → Spelled xs x
spelled_as k xs x bytes e = rw e (spelled k xs (λ i. let h = bytes i in omega arith))
