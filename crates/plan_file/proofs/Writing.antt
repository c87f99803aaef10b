-- Records put one behind the other into memory.
use Rattle.std.proofs.Common.{◌≡◌, ℕ, ◌+◌, ◌*◌, ◌<◌, List, [], ◌∷◌, ◌++◌, map, length, get_or, take, drop, sym, refl, ap, ◌∙◌, ap₂, one-add, arith}
use Rattle.std.specs.List.{range_with_len, AllByRecursion}
use Rattle.std.proofs.lemmas.List.FromFn.{length-map-range_with_len, get_or-map-range_with_len}
use Rattle.std.proofs.lemmas.List.{drop-drop, take_all}
use Rattle.delay_file.specs.Files.{joined}
use Rattle.delay_file.proofs.Putting.{one_record}
use Rattle.delay_file.proofs.Written.{Whole, length_joined}
use Rattle.plan_file.specs.PlanRecords.{plan_records, plan_length, plan_bytes, word_record, domain_word, word_count, head_record, late_at, late_number}
use Rattle.plan_file.specs.Written.{BitsAreRegisters, OnesAreLate}
use Rattle.plan_file.proofs.Packed.{bit_of_packed, ones_packed}

module _ (T s n : ℕ) (ds : List ℕ) where
  words_whole : (js : List ℕ) → AllByRecursion Whole (map (λ j. word_record (64 * j) (domain_word n ds (64 * j))) js)
  words_whole [] = tt
  words_whole (j ∷ js) = (refl, words_whole js)

  pub plan_whole : AllByRecursion Whole (plan_records T s n ds)
  plan_whole = (refl, words_whole (range_with_len 0 (word_count n)))

  pub plan_count : length (plan_records T s n ds) ≡ 1 + word_count n
  plan_count = let l = length-map-range_with_len (λ j. word_record (64 * j) (domain_word n ds (64 * j))) 0 (word_count n) in omega arith

  pub written_length : length (plan_bytes T s n ds) ≡ plan_length n
  written_length = length_joined (plan_records T s n ds) plan_whole ∙ ap (λ k. k * 32) plan_count

  pub word_there : (j : ℕ) → j < word_count n → word_record (64 * j) (domain_word n ds (64 * j)) ≡ get_or (plan_records T s n ds) (1 + j) []
  word_there j h =
      let f = λ (j : ℕ). word_record (64 * j) (domain_word n ds (64 * j)) in
      sym (ap (λ k. get_or (plan_records T s n ds) k []) (one-add j) ∙ get_or-map-range_with_len f 0 (word_count n) j j [] h (omega arith))

  -- the head in its place
  pub headed : (was out b : List ℕ) → b ≡ head_record T s n (late_number n ds) → out ≡ take (0 * 32) was ++ (b ++ drop (0 * 32 + 32) was) → out ≡ head_record T s n (late_number n ds) ++ drop 32 was
  headed was out b e m = m ∙ ap (λ x. x ++ drop 32 was) e

  -- one word more behind the head
  pub one_word : (start out more b : List ℕ) (j : ℕ) → j < word_count n → out ≡ joined (take (1 + j) (plan_records T s n ds)) ++ drop ((1 + j) * 32) start → b ≡ word_record (64 * j) (domain_word n ds (64 * j)) → more ≡ take ((1 + j) * 32) out ++ (b ++ drop ((1 + j) * 32 + 32) out) → more ≡ joined (take (1 + (j + 1)) (plan_records T s n ds)) ++ drop ((1 + (j + 1)) * 32) start
  one_word start out more b j h e f m =
      let l = plan_count in
      let k : 1 + j + 1 ≡ 1 + (j + 1) = omega arith in
      one_record (plan_records T s n ds) plan_whole start (1 + j) out more b (omega arith) e (f ∙ word_there j h) m
      ∙ ap (λ i. joined (take i (plan_records T s n ds)) ++ drop (i * 32) start) k

  -- all words
  pub ended : (was start out : List ℕ) (j : ℕ) → j ≡ word_count n → start ≡ head_record T s n (late_number n ds) ++ drop 32 was → out ≡ joined (take (1 + j) (plan_records T s n ds)) ++ drop ((1 + j) * 32) start → out ≡ plan_bytes T s n ds ++ drop (plan_length n) was
  ended was start out j h e m =
      let l = plan_count in
      let t : take (1 + j) (plan_records T s n ds) ≡ plan_records T s n ds = take_all (1 + j) (plan_records T s n ds) (omega arith) in
      let a : (1 + j) * 32 ≡ 32 + word_count n * 32 = omega arith in
      let b : 32 + word_count n * 32 ≡ plan_length n = omega arith in
      let d : drop ((1 + j) * 32) start ≡ drop (plan_length n) was =
      ap (λ k. drop k start) a ∙ sym (drop-drop (word_count n * 32) 32 start) ∙ ap (drop (word_count n * 32)) (ap (drop 32) e)
      ∙ drop-drop (word_count n * 32) 32 was ∙ ap (λ k. drop k was) b in
      m ∙ ap₂ (λ x y. joined x ++ y) t d

-- a word of a plan is what its registers say, whether or not it is written
pub bits_are_registers : (n : ℕ) (ds : List ℕ) → BitsAreRegisters n ds
bits_are_registers n ds first i h = bit_of_packed (λ (i : ℕ). late_at n ds (first + i)) 64 i h

pub ones_are_late : (n : ℕ) (ds : List ℕ) → OnesAreLate n ds
ones_are_late n ds first = ones_packed (λ (i : ℕ). late_at n ds (first + i)) 64
