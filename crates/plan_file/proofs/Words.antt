-- The words of a plan file: the steps and the ends of the loops over them.
use Rattle.std.proofs.Common.{◌≡◌, ℕ, zero, suc, ◌+◌, ◌*◌, ◌/◌, ◌%◌, ◌^◌, ◌<◌, ◌≤◌, Bool, true, false, cond, eqb, leb, List, [], ◌∷◌, ◌++◌, map, length, get_or, take, drop, set, Some, None, Option, unwrap_or, sym, refl, ap, ap₂, ◌∙◌, append_assoc, add-one, arith}
use lib.Count.{ones}
use Rattle.std.specs.List.{range_with_len, prefix_len}
use Rattle.std.proofs.lemmas.List.FromFn.{length-range_with_len, get_or-range_with_len, get_or-map-range_with_len, map-range_with_len_more, length-map-range_with_len, fill_by_all}
use Rattle.std.proofs.Math.ListN.{drop_of_length-le}
use Rattle.std.proofs.lemmas.List.{append-nil, drop-drop, drop_at, drop_more, set_at, take_at}
use Rattle.std.proofs.lemmas.List.Sums.{prefix_len-drop_yes, prefix_len-drop_no, prefix_len-drop_all}
use Rattle.std.proofs.lemmas.Bool.{and_from, and_left, and_right, eq-eqb, ne_eqb, le-leb, lt-leb}
use Rattle.delay_file.specs.Files.{record_at, record_count}
use Rattle.plan_file.specs.PlanReading.{bit_of, domain_bit, good_words, word_good, words_good, word_at, ones_in}
use Rattle.plan_file.specs.PlanRecords.{word_count}

-- whether word j of a file is as it should be
abbrev pub good_at : List ℕ → ℕ → ℕ → Bool
good_at bytes n j = word_good n (64 * j) (record_at bytes (1 + j))

-- how many more are, after the first i
abbrev pub ahead : List ℕ → ℕ → ℕ → ℕ
ahead bytes n i = prefix_len (good_at bytes n) (drop i (range_with_len 0 (word_count n)))

module _ (bytes : List ℕ) (n i : ℕ) where
  at_place : i < word_count n → get_or (range_with_len 0 (word_count n)) i 0 ≡ i
  at_place h = get_or-range_with_len 0 (word_count n) i 0 h ∙ omega arith

  -- one word more
  pub good_more : i < word_count n → good_words bytes n ≡ i + ahead bytes n i → good_at bytes n i ≡ true → good_words bytes n ≡ i + 1 + ahead bytes n (i + 1)
  good_more h e t =
      let l = length-range_with_len 0 (word_count n) in
      let z = prefix_len-drop_yes (good_at bytes n) (range_with_len 0 (word_count n)) i 0 (omega arith) (ap (good_at bytes n) (at_place h) ∙ t) in
      omega arith

  -- a word that is not as it should be
  pub good_until : i < word_count n → good_words bytes n ≡ i + ahead bytes n i → good_at bytes n i ≡ false → good_words bytes n ≡ i
  good_until h e t =
      let l = length-range_with_len 0 (word_count n) in
      let z = prefix_len-drop_no (good_at bytes n) (range_with_len 0 (word_count n)) i 0 (omega arith) (ap (good_at bytes n) (at_place h) ∙ t) in
      omega arith

  -- all words
  pub good_all : i ≡ word_count n → good_words bytes n ≡ i + ahead bytes n i → good_words bytes n ≡ word_count n
  good_all h e =
      let l = length-range_with_len 0 (word_count n) in
      let z = prefix_len-drop_all (good_at bytes n) (range_with_len 0 (word_count n)) i (omega arith) in
      omega arith

  pub ones_more : (late : ℕ) → late ≡ ones_in bytes i → late + ones (word_at bytes i) ≡ ones_in bytes (i + 1)
  unfolding ones_in
  ones_more late e = ap (λ k. k + ones (word_at bytes i)) e ∙ ap (ones_in bytes) (sym (add-one i))

pub ones_none : (bytes : List ℕ) → 0 ≡ ones_in bytes 0
unfolding ones_in
ones_none bytes = refl

-- one register more in domain memory
pub filled_more : (f : ℕ → ℕ) (was out : List ℕ) (i v : ℕ) → i < length was → out ≡ map f (range_with_len 0 i) ++ drop i was → v ≡ f i → set out i v ≡ map f (range_with_len 0 (i + 1)) ++ drop (i + 1) was
filled_more f was out i v h e q =
    let l = length-map-range_with_len f 0 i in
    let d : drop i was ≡ get_or was i 0 ∷ drop (i + 1) was = drop_more was i 0 h in
    ap (λ xs. set xs i v) (e ∙ ap (λ ys. map f (range_with_len 0 i) ++ ys) d)
    ∙ set_at (map f (range_with_len 0 i)) (get_or was i 0) (drop (i + 1) was) v i l
    ∙ ap (λ x. map f (range_with_len 0 i) ++ (x ∷ drop (i + 1) was)) q
    ∙ sym (append_assoc (map f (range_with_len 0 i)) (f i ∷ []) (drop (i + 1) was))
    ∙ ap (λ xs. xs ++ drop (i + 1) was) (sym (map-range_with_len_more f 0 i i (omega arith)))

-- all registers in domain memory of so many
pub filled_all : (f : ℕ → ℕ) (was out : List ℕ) (i n : ℕ) → i ≡ n → length was ≤ i → out ≡ map f (range_with_len 0 i) ++ drop i was → out ≡ map f (range_with_len 0 n)
filled_all f was out i n e h q =
    q ∙ ap (λ xs. map f (range_with_len 0 i) ++ xs) (drop_of_length-le was h) ∙ append-nil (map f (range_with_len 0 i)) ∙ ap (λ k. map f (range_with_len 0 k)) e

-- what a function makes, in two parts
made_in_two : (f : ℕ → ℕ) (a k b : ℕ) → a + k ≡ b → map f (range_with_len 0 b) ≡ map f (range_with_len 0 a) ++ map (λ i. f (a + i)) (range_with_len 0 k)
made_in_two f a zero b e = let z : b ≡ a = omega arith in ap (λ n. map f (range_with_len 0 n)) z ∙ sym (append-nil (map f (range_with_len 0 a)))
made_in_two f a (suc k) b e =
    let z : b ≡ a + k + 1 = omega arith in
    ap (λ n. map f (range_with_len 0 n)) z
    ∙ map-range_with_len_more f 0 (a + k) (a + k) (omega arith)
    ∙ ap (λ xs. xs ++ f (a + k) ∷ []) (made_in_two f a k (a + k) refl)
    ∙ append_assoc (map f (range_with_len 0 a)) (map (λ i. f (a + i)) (range_with_len 0 k)) (f (a + k) ∷ [])
    ∙ ap (λ xs. map f (range_with_len 0 a) ++ xs) (sym (map-range_with_len_more (λ i. f (a + i)) 0 k k (omega arith)) ∙ ap (λ n. map (λ i. f (a + i)) (range_with_len 0 n)) (add-one k))

-- the registers of one word more in domain memory
pub filled_part : (f : ℕ → ℕ) (was out part : List ℕ) (a k b : ℕ) → a + k ≡ b → out ≡ map f (range_with_len 0 a) ++ drop a was → part ≡ map (λ i. f (a + i)) (range_with_len 0 k) → take a out ++ (part ++ drop k (drop a out)) ≡ map f (range_with_len 0 b) ++ drop b was
filled_part f was out part a k b e q p =
    let M = map f (range_with_len 0 a) in
    let l = length-map-range_with_len f 0 a in
    let front : take a out ≡ M = ap (take a) q ∙ take_at M (drop a was) a l in
    let behind : drop k (drop a out) ≡ drop b was = ap (λ xs. drop k (drop a xs)) q ∙ ap (drop k) (drop_at M (drop a was) a l) ∙ drop-drop k a was ∙ ap (λ n. drop n was) e in
    ap₂ (λ xs ys. xs ++ ys) front (ap₂ (λ xs ys. xs ++ ys) p behind)
    ∙ sym (append_assoc M (map (λ i. f (a + i)) (range_with_len 0 k)) (drop b was))
    ∙ ap (λ xs. xs ++ drop b was) (sym (made_in_two f a k b e))

-- the bits of a word are the registers that it has
pub part_of_word : (bytes : List ℕ) (w k word : ℕ) → k ≤ 64 → word ≡ word_at bytes w → map (bit_of word) (range_with_len 0 k) ≡ map (λ i. domain_bit bytes (64 * w + i)) (range_with_len 0 k)
part_of_word bytes w k word h e =
    fill_by_all (λ i. domain_bit bytes (64 * w + i)) (map (bit_of word) (range_with_len 0 k)) k 0 (length-map-range_with_len (bit_of word) 0 k)
    (λ i l. let d : (64 * w + i) / 64 ≡ w = omega arith in let m : (64 * w + i) % 64 ≡ i = omega arith in
    get_or-map-range_with_len (bit_of word) 0 k i i 0 l (omega arith) ∙ ap (λ n. n / 2 ^ i % 2) e ∙ sym (ap₂ (λ j x. word_at bytes j / 2 ^ x % 2) d m))

-- a field that is there, as the code reads it
pub field_there : (o : Option ℕ) (k n v : ℕ) → k ≤ n → o ≡ cond (leb k n) (Some v) None → unwrap_or o 0 ≡ v
field_there o k n v h e = ap (λ x. unwrap_or x 0) (e ∙ ap (λ b. cond b (Some v) None) (le-leb k n h))

-- a record that was read, or was not
pub was_read : {X : Type 0} (b : Bool) (x y : X) → Some x ≡ cond b (Some y) None → (b ≡ true) × (x ≡ y)
was_read true x y e = (refl, cc)
was_read false x y e = absurd (let z : ◌≡◌ {A = ℕ} 0 1 = cc in omega arith)

pub not_read : {X : Type 0} (b : Bool) (y : X) → ◌≡◌ {A = Option X} None (cond b (Some y) None) → b ≡ false
not_read true y e = absurd (let z : ◌≡◌ {A = ℕ} 0 1 = cc in omega arith)
not_read false y e = refl

module _ (bytes : List ℕ) (n : ℕ) where
  pub words_short : good_words bytes n < word_count n → words_good bytes n ≡ false
  words_short h = and_left (eqb (good_words bytes n) (word_count n)) _ (ne_eqb _ _ (λ e. omega arith))

  pub words_extra : 1 + word_count n < record_count bytes → words_good bytes n ≡ false
  words_extra h = and_right (eqb (good_words bytes n) (word_count n)) _ (lt-leb (record_count bytes) (1 + word_count n) h)

  pub words_whole : good_words bytes n ≡ word_count n → record_count bytes ≤ 1 + word_count n → words_good bytes n ≡ true
  words_whole e h = and_from _ _ (eq-eqb (good_words bytes n) (word_count n) e) (le-leb (record_count bytes) (1 + word_count n) h)
