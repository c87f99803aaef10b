-- A plan file has one spelling: what is written reads back, and what reads is, byte for byte, what is written.
use Rattle.std.proofs.Common.{◌≡◌, ℕ, zero, suc, ◌+◌, ◌-◌, ◌*◌, ◌/◌, ◌%◌, ◌^◌, ◌<◌, ◌≤◌, min, Bool, true, false, cond, eqb, ltb, leb, List, [], ◌∷◌, ◌++◌, map, length, get_or, take, drop, Some, None, Ok, Err, Result, sym, refl, ap, ◌∙◌, subst, ap₂, one-add, arith, length-drop, length-take, pow_mono, w8, Fits}
use lib.Count.{ones}
use native.Mathlib.Nat.{div-eq_of_lt}
use Rattle.std.specs.List.{range_with_len}
use Rattle.timing.specs.declared.refusal.Refusal.{Refusal}
use Rattle.std.proofs.lemmas.List.FromFn.{get_or-range_with_len, length-map-range_with_len, get_or-map-range_with_len}
use Rattle.std.proofs.lemmas.List.{take-append-drop, take_at, drop-drop, get_or-take, get_or-drop, get_or_past, get_or_append_left}
use Rattle.std.proofs.lemmas.Bool.{and_parts, and_from, eqb-true, eq-eqb, leb-true, le-leb, ltb-true, ltb-false, lt-ltb}
use Rattle.timing.specs.Bounds.{Period, Offset, RegisterCount}
use Rattle.timing.specs.Outcomes.{period_within, offset_within}
use Rattle.timing.specs.Plans.{domain_of, domains_of}
use Rattle.timing.specs.declared.domain.Domain.TheVariants.{Early, Late}
use Rattle.delay_file.specs.Bytes.{be32}
use Rattle.delay_file.specs.Files.{record_at, record_count}
use Rattle.delay_file.proofs.Scans.{leading_below}
use Rattle.delay_file.proofs.Spellings.{four}
use Rattle.delay_file.proofs.Written.{count_joined, record_joined, run_is}
use Rattle.plan_file.specs.PlanReading.{plan, plan_reading, head_good, word_at, good_words, words_good, ones_in, domain_bit, laid_out, be64}
use Rattle.plan_file.specs.PlanRead.{ReadsAs, head_of}
use Rattle.plan_file.specs.declared.head.Head.{Head}
use Rattle.plan_file.specs.PlanRecords.{plan_bytes, plan_records, plan_length, head_record, word_record, domain_word, word_count, late_at, late_number, bit, count}
use Rattle.plan_file.specs.Written.{ReadsAsWritten, ReadsBack, Wrote}
use Rattle.plan_file.proofs.Late.{late_there, not_late}
use Rattle.plan_file.proofs.Layouts.{eight_back, head_spelled, word_spelled, number_lt}
use Rattle.plan_file.proofs.Packed.{packed_same, packed_own, own_bit, packed_lt, packed_below, ones_packed, bit_of_packed, count_append, count_past, count_le}
use Rattle.plan_file.proofs.Words.{good_at, was_read}
use Rattle.plan_file.proofs.Writing.{plan_whole, plan_count, word_there, written_length}

-- the ones in words of domains are the late registers
late_in_words : (bytes : List ℕ) (n : ℕ) (ds : List ℕ) (k : ℕ) → ((j : ℕ) → j < k → word_at bytes j ≡ domain_word n ds (64 * j)) → ones_in bytes k ≡ count (late_at n ds) (64 * k)
unfolding ones_in
late_in_words bytes n ds zero h = refl
late_in_words bytes n ds (suc k) h =
    let e : 64 * suc k ≡ 64 * k + 64 = omega arith in
    ap₂ (λ x y. x + y) (late_in_words bytes n ds k (λ j l. h j (omega arith))) (ap ones (h k (omega arith)) ∙ ones_packed (λ i. late_at n ds (64 * k + i)) 64)
    ∙ sym (ap (count (late_at n ds)) e ∙ count_append (late_at n ds) (64 * k) 64)

-- all words together have each late register once
pub all_late : (bytes : List ℕ) (n : ℕ) (ds : List ℕ) → ((j : ℕ) → j < word_count n → word_at bytes j ≡ domain_word n ds (64 * j)) → ones_in bytes (word_count n) ≡ late_number n ds
all_late bytes n ds h =
    let e : 64 * word_count n ≡ n + (64 * word_count n - n) = omega arith in
    late_in_words bytes n ds (word_count n) h ∙ ap (count (late_at n ds)) e ∙ count_past (late_at n ds) n (64 * word_count n - n) (not_late n ds)

-- the records of a plan that was written
record_written : (T s n : ℕ) (ds : List ℕ) (k : ℕ) → k < 1 + word_count n → record_at (plan_bytes T s n ds) k ≡ get_or (plan_records T s n ds) k []
record_written T s n ds k h = let l = plan_count T s n ds in record_joined (plan_records T s n ds) k (plan_whole T s n ds) (omega arith)

-- a file whose records are right, read into enough memory
module _ (bytes : List ℕ) (T s n room : ℕ) (whole : eqb (length bytes % 32) 0 ≡ true) (head : head_good (record_at bytes 0) ≡ true) (period : be32 (record_at bytes 0) 4 ≡ T) (offset : be32 (record_at bytes 0) 8 ≡ s) (registers : be32 (record_at bytes 0) 12 ≡ n) (words : words_good bytes n ≡ true) (late : be32 (record_at bytes 0) 16 ≡ ones_in bytes (word_count n)) where
  pub good_reads : n ≤ room → plan_reading bytes room ≡ plan T s n (map (domain_bit bytes) (range_with_len 0 n))
  good_reads h =
      rw (whole, head, registers, words, eq-eqb _ _ late, le-leb n room h) (ap₂ (λ t o. plan t o n (map (domain_bit bytes) (range_with_len 0 n))) period offset)

domain_bit_of : (b : Bool) → domain_of (bit b) ≡ cond b Late Early
domain_bit_of true = refl
domain_bit_of false = refl

-- What is written reads back.
module _ (T s n : ℕ) (ds : List ℕ) (period : Period T) (offset : Offset s) (registers : RegisterCount n) where
  abbrev file : List ℕ
  file = plan_bytes T s n ds

  total : record_count file ≡ 1 + word_count n
  total = count_joined (plan_records T s n ds) (plan_whole T s n ds) ∙ plan_count T s n ds

  head_there : record_at file 0 ≡ head_record T s n (late_number n ds)
  head_there = record_written T s n ds 0 (omega arith)

  word_record_there : (j : ℕ) → j < word_count n → record_at file (1 + j) ≡ word_record (64 * j) (domain_word n ds (64 * j))
  word_record_there j h = record_written T s n ds (1 + j) (omega arith) ∙ sym (word_there T s n ds j h)

  late_small : late_number n ds ≤ 4096
  late_small = let l = count_le (late_at n ds) n in let r = registers.1 in omega arith

  head_record_good : head_good (head_record T s n (late_number n ds)) ≡ true
  head_record_good =
      let t = four T (omega (arith, period.1)) in
      let o = four s (omega arith) in
      let r = four n (omega (arith, registers.1)) in
      rw (t, o, r, le-leb 1 T period.0, le-leb T 4096000000 period.1, le-leb s 1000000 offset, le-leb 1 n registers.0, le-leb n 4096 registers.1)

  head_is_good : head_good (record_at file 0) ≡ true
  head_is_good = ap head_good head_there ∙ head_record_good

  word_back : (j : ℕ) → be64 (word_record (64 * j) (domain_word n ds (64 * j))) 8 ≡ domain_word n ds (64 * j)
  word_back j = eight_back (domain_word n ds (64 * j)) (word_record (64 * j) (domain_word n ds (64 * j))) 8 (packed_lt (λ i. late_at n ds (64 * j + i)) 64) refl refl

  word_is : (j : ℕ) → j < word_count n → word_at file j ≡ domain_word n ds (64 * j)
  word_is j h = ap (λ xs. be64 xs 8) (word_record_there j h) ∙ word_back j

  word_is_good : (j : ℕ) → j < word_count n → good_at file n j ≡ true
  word_is_good j h =
      let w = word_back j in
      let f = four (64 * j) (let r = registers.1 in omega arith) in
      let b = packed_below (λ i. late_at n ds (64 * j + i)) (n - 64 * j) (λ i l. not_late n ds (64 * j + i) (omega arith)) in
      rw (word_record_there j h) (rw (w, f, eq-eqb (ones (domain_word n ds (64 * j))) (ones (domain_word n ds (64 * j))) refl, eq-eqb (64 * j) (64 * j) refl, lt-ltb (domain_word n ds (64 * j)) (2 ^ (n - 64 * j)) b) refl)

  words_are_good : words_good file n ≡ true
  words_are_good =
      let t = total in
      let g = run_is (good_at file n) 0 (word_count n) (word_count n) (λ k h. let z : 0 + k ≡ k = omega arith in ap (good_at file n) z ∙ word_is_good k h) (λ h. absurd (omega arith)) (omega arith) in
      and_from _ _ (eq-eqb (good_words file n) (word_count n) g) (le-leb (record_count file) (1 + word_count n) (omega arith))

  late_back : be32 (record_at file 0) 16 ≡ ones_in file (word_count n)
  late_back = ap (λ xs. be32 xs 16) head_there ∙ four (late_number n ds) (let l = late_small in omega arith) ∙ sym (all_late file n ds word_is)

  whole_records : eqb (length file % 32) 0 ≡ true
  whole_records = let l = written_length T s n ds in eq-eqb _ _ (omega arith)

  bit_back : (r : ℕ) → r < n → domain_bit file r ≡ bit (late_at n ds r)
  bit_back r h =
      let e : 64 * (r / 64) + r % 64 ≡ r = omega arith in
      ap (λ w. w / 2 ^ (r % 64) % 2) (word_is (r / 64) (omega arith))
      ∙ bit_of_packed (λ i. late_at n ds (64 * (r / 64) + i)) 64 (r % 64) (omega arith)
      ∙ ap (λ k. bit (late_at n ds k)) e

  domain_back : (r : ℕ) → r < n → domains_of (map (domain_bit file) (range_with_len 0 n)) r ≡ domains_of ds r
  domain_back r h =
      ap domain_of (get_or-map-range_with_len (domain_bit file) 0 n r r 0 h (omega arith) ∙ bit_back r h ∙ ap bit (late_there n ds r h)) ∙ domain_bit_of (eqb (get_or ds r 0) 1)

  pub reads_back : (room : ℕ) → n ≤ room → ReadsAs file T s n ds room
  reads_back room h =
      record {
        domains = map (domain_bit file) (range_with_len 0 n);
        numbers =
            good_reads file T s n room whole_records head_is_good (ap (λ xs. be32 xs 4) head_there ∙ four T (omega (arith, period.1))) (ap (λ xs. be32 xs 8) head_there ∙ four s (omega arith)) (ap (λ xs. be32 xs 12) head_there ∙ four n (omega (arith, registers.1)))
            words_are_good late_back h;
        same = domain_back;
      }

no_bytes : (xs : List ℕ) → length xs ≡ 0 → xs ≡ []
no_bytes [] h = refl
no_bytes (x ∷ xs) h = absurd (omega arith)

-- the records behind the first
later : (xs : List ℕ) (k : ℕ) → record_at (drop 32 xs) k ≡ record_at xs (suc k)
later xs k = let e : 32 + k * 32 ≡ suc k * 32 = omega arith in ap (take 32) (drop-drop (k * 32) 32 xs ∙ ap (λ n. drop n xs) e)

-- two files of m records that are the same record by record
same_records : (m : ℕ) (xs ys : List ℕ) → length xs ≡ m * 32 → length ys ≡ m * 32 → ((k : ℕ) → k < m → record_at xs k ≡ record_at ys k) → xs ≡ ys
same_records zero xs ys p q h = no_bytes xs (p ∙ omega arith) ∙ sym (no_bytes ys (q ∙ omega arith))
same_records (suc m) xs ys p q h =
    let a : length (drop 32 xs) ≡ m * 32 = length-drop 32 xs ∙ omega arith in
    let b : length (drop 32 ys) ≡ m * 32 = length-drop 32 ys ∙ omega arith in
    let r = same_records m (drop 32 xs) (drop 32 ys) a b (λ k l. later xs k ∙ h (suc k) (omega arith) ∙ sym (later ys k)) in
    sym (take-append-drop 32 xs) ∙ ap₂ (λ x y. x ++ y) (h 0 (omega arith)) r ∙ take-append-drop 32 ys

-- What reads is what is written.
module _ (bytes : List ℕ) (typed : (i : ℕ) → get_or bytes i 0 < 256) where
  byte_by : (k i : ℕ) (b : Bool) → ltb i 32 ≡ b → get_or (record_at bytes k) i 0 < 256
  byte_by k i true e =
      let t = typed (k * 32 + i) in
      let g = get_or-take 32 (drop (k * 32) bytes) i 0 (ltb-true i 32 e) ∙ get_or-drop (k * 32) bytes i 0 in
      omega arith
  byte_by k i false e =
      let l = ltb-false i 32 e in
      let n = length-take 32 (drop (k * 32) bytes) in
      let g = get_or_past (record_at bytes k) i 0 (omega arith) in
      omega arith

  byte_lt : (k i : ℕ) → get_or (record_at bytes k) i 0 < 256
  byte_lt k i = byte_by k i (ltb i 32) refl

  module _ (n : ℕ) (some : 1 ≤ n) (words : words_good bytes n ≡ true) where
    all_good : good_words bytes n ≡ word_count n
    all_good = eqb-true _ _ (and_parts (eqb (good_words bytes n) (word_count n)) _ words).0

    each_good : (j : ℕ) → j < word_count n → good_at bytes n j ≡ true
    each_good j h =
        let e = all_good in
        let z : 0 + j ≡ j = omega arith in
        ap (good_at bytes n) (sym (get_or-range_with_len 0 (word_count n) j 0 h ∙ z)) ∙ leading_below (good_at bytes n) (range_with_len 0 (word_count n)) j 0 (omega arith)

    -- there is a record for each word
    pub words_there : word_count n < record_count bytes
    words_there =
        let j = word_count n - 1 in
        let g = each_good j (omega arith) in
        let xs = record_at bytes (1 + j) in
        let a = (and_parts (laid_out 17 (ones (be64 xs 8)) 16 xs) _ g).0 in
        let l = eqb-true (length xs) 32 (and_parts (eqb (length xs) 32) _ a).0 in
        let m : length xs ≡ min 32 (length bytes - (1 + j) * 32) = length-take 32 (drop ((1 + j) * 32) bytes) ∙ ap (min 32) (length-drop ((1 + j) * 32) bytes) in
        omega arith

    records : record_count bytes ≡ 1 + word_count n
    records =
        let t = words_there in
        let u = leb-true _ _ (and_parts (eqb (good_words bytes n) (word_count n)) _ words).1 in
        omega arith

    module _ (ds : List ℕ) (read : (r : ℕ) → r < n → get_or ds r 0 ≡ domain_bit bytes r) (j : ℕ) (here : j < word_count n) where
      abbrev own : ℕ
      own = word_at bytes j

      own_lt : own < 2 ^ 64
      own_lt = let a = number_lt (record_at bytes (1 + j)) (byte_lt (1 + j)) 8 in let b = number_lt (record_at bytes (1 + j)) (byte_lt (1 + j)) 12 in omega arith

      own_parts : (be32 (record_at bytes (1 + j)) 4 ≡ 64 * j) × (own < 2 ^ (n - 64 * j)) × (record_at bytes (1 + j) ≡ word_record (be32 (record_at bytes (1 + j)) 4) own)
      own_parts =
          let xs = record_at bytes (1 + j) in
          let a = and_parts (laid_out 17 (ones (be64 xs 8)) 16 xs) _ (each_good j here) in
          let b = and_parts (eqb (be32 xs 4) (64 * j)) _ a.1 in
          (eqb-true _ _ b.0, ltb-true _ _ b.1, word_spelled xs (byte_lt (1 + j)) a.0)

      bit_by : (i : ℕ) → i < 64 → (b : Bool) → ltb (64 * j + i) n ≡ b → own_bit own i ≡ late_at n ds (64 * j + i)
      bit_by i h true e =
          let l = ltb-true _ _ e in
          let q : (64 * j + i) / 64 ≡ j = omega arith in
          let m : (64 * j + i) % 64 ≡ i = omega arith in
          let d : get_or ds (64 * j + i) 0 ≡ own / 2 ^ i % 2 = read (64 * j + i) l ∙ ap₂ (λ x y. word_at bytes x / 2 ^ y % 2) q m in
          ap (λ x. eqb x 1) (sym d) ∙ sym (late_there n ds (64 * j + i) l)
      bit_by i h false e =
          let l = ltb-false _ _ e in
          let p : 2 ^ (n - 64 * j) ≤ 2 ^ i = pow_mono (omega arith) in
          let u = own_parts.1 in
          let z : own / 2 ^ i ≡ 0 = div-eq_of_lt (omega arith) in
          ap (λ x. eqb (x % 2) 1) z ∙ sym (not_late n ds (64 * j + i) l)

      own_word : own ≡ domain_word n ds (64 * j)
      own_word = sym (packed_own 64 own own_lt) ∙ packed_same (own_bit own) (λ i. late_at n ds (64 * j + i)) 64 (λ i h. bit_by i h (ltb (64 * j + i) n) refl)

      own_record : record_at bytes (1 + j) ≡ word_record (64 * j) (domain_word n ds (64 * j))
      own_record = own_parts.2 ∙ ap₂ word_record own_parts.0 own_word

    module _ (T s : ℕ) (ds : List ℕ) (read : (r : ℕ) → r < n → get_or ds r 0 ≡ domain_bit bytes r) (whole : length bytes % 32 ≡ 0) (head : record_at bytes 0 ≡ head_record T s n (ones_in bytes (word_count n))) where
      head_own : record_at bytes 0 ≡ head_record T s n (late_number n ds)
      head_own = head ∙ ap (head_record T s n) (all_late bytes n ds (own_word ds read))

      record_own : (k : ℕ) → k < 1 + word_count n → record_at bytes k ≡ record_at (plan_bytes T s n ds) k
      record_own zero h = head_own ∙ sym (record_written T s n ds 0 h)
      record_own (suc j) h = ap (record_at bytes) (sym (one-add j)) ∙ own_record ds read j (omega arith) ∙ word_there T s n ds j (omega arith) ∙ ap (λ k. get_or (plan_records T s n ds) k []) (one-add j) ∙ sym (record_written T s n ds (suc j) h)

      pub spelled_as_written : bytes ≡ plan_bytes T s n ds
      spelled_as_written = let r = records in same_records (1 + word_count n) bytes (plan_bytes T s n ds) (omega arith) (written_length T s n ds) record_own

-- What the code has read: a head, and words whose ones are its late number.
pub record Found (bytes : List ℕ) (h : Head) : Type 0 where
  pub typed : (i : ℕ) → get_or bytes i 0 < 256
  pub whole : length bytes % 32 ≡ 0
  pub head : head_good (record_at bytes 0) ≡ true
  pub is : h ≡ head_of (record_at bytes 0)
  pub words : words_good bytes h.numbers.registers ≡ true
  pub late : h.late ≡ ones_in bytes (word_count h.numbers.registers)

pub found : (bytes xs : List ℕ) (h : Head) (late : ℕ) → ((i : ℕ) → Fits w8 (get_or bytes i 0)) → length bytes % 32 ≡ 0 → xs ≡ record_at bytes 0 → Some h ≡ cond (head_good xs) (Some (head_of xs)) None → (words_good bytes h.numbers.registers ≡ true) × (late ≡ ones_in bytes (word_count h.numbers.registers)) → late ≡ h.late → Found bytes h
found bytes xs h late typed whole first read words same =
    let r = was_read (head_good xs) h (head_of xs) read in
    record {
      typed = λ i. let t = typed i in omega arith;
      whole = whole;
      head = ap head_good (sym first) ∙ r.0;
      is = r.1 ∙ ap head_of first;
      words = words.0;
      late = sym same ∙ words.1;
    }

module _ (bytes : List ℕ) (h : Head) (f : Found bytes h) where
  of_head : (g : Head → ℕ) → g (head_of (record_at bytes 0)) ≡ g h
  of_head g = ap g (sym f.is)

  late_right : be32 (record_at bytes 0) 16 ≡ ones_in bytes (word_count h.numbers.registers)
  late_right = of_head (λ g. g.late) ∙ f.late

  limits : (laid_out 16 0 20 (record_at bytes 0) ≡ true) × (1 ≤ h.numbers.registers)
  limits =
      let ys = record_at bytes 0 in
      let a = and_parts (laid_out 16 0 20 ys) _ f.head in
      let b = and_parts (period_within (be32 ys 4)) _ a.1 in
      let c = and_parts (offset_within (be32 ys 8)) _ b.1 in
      let d = and_parts (leb 1 (be32 ys 12)) _ c.1 in
      let r = of_head (λ g. g.numbers.registers) in
      let l = leb-true _ _ d.0 in
      (a.0, omega arith)

  pub room_for_words : word_count h.numbers.registers < record_count bytes
  room_for_words = words_there bytes f.typed h.numbers.registers limits.1 f.words

  module _ (was out : List ℕ) (long : h.numbers.registers ≤ length was) (filled : out ≡ map (domain_bit bytes) (range_with_len 0 h.numbers.registers) ++ drop h.numbers.registers was) where
    front : length (map (domain_bit bytes) (range_with_len 0 h.numbers.registers)) ≡ h.numbers.registers
    front = length-map-range_with_len (domain_bit bytes) 0 h.numbers.registers

    pub read_granted : plan h.numbers.period h.numbers.offset h.numbers.registers (take h.numbers.registers out) ≡ plan_reading bytes (length was)
    read_granted =
        ap (plan h.numbers.period h.numbers.offset h.numbers.registers) (ap (take h.numbers.registers) filled ∙ take_at (map (domain_bit bytes) (range_with_len 0 h.numbers.registers)) (drop h.numbers.registers was) h.numbers.registers front)
        ∙ sym (good_reads bytes h.numbers.period h.numbers.offset h.numbers.registers (length was) (eq-eqb _ _ f.whole) f.head (of_head (λ g. g.numbers.period)) (of_head (λ g. g.numbers.offset)) (of_head (λ g. g.numbers.registers)) f.words late_right long)

    read_byte : (r : ℕ) → r < h.numbers.registers → get_or out r 0 ≡ domain_bit bytes r
    read_byte r l =
        let n = front in
        ap (λ ys. get_or ys r 0) filled
        ∙ get_or_append_left (map (domain_bit bytes) (range_with_len 0 h.numbers.registers)) (drop h.numbers.registers was) 0 r (omega arith)
        ∙ get_or-map-range_with_len (domain_bit bytes) 0 h.numbers.registers r r 0 l (omega arith)

    head_own_numbers : record_at bytes 0 ≡ head_record h.numbers.period h.numbers.offset h.numbers.registers (ones_in bytes (word_count h.numbers.registers))
    head_own_numbers =
        let ys = record_at bytes 0 in
        head_spelled ys (byte_lt bytes f.typed 0) limits.0
        ∙ ap₂ (λ t o. head_record t o (be32 ys 12) (be32 ys 16)) (of_head (λ g. g.numbers.period)) (of_head (λ g. g.numbers.offset))
        ∙ ap₂ (λ m l. head_record h.numbers.period h.numbers.offset m l) (of_head (λ g. g.numbers.registers)) late_right

    pub read_spelled : bytes ≡ plan_bytes h.numbers.period h.numbers.offset h.numbers.registers out
    read_spelled = spelled_as_written bytes f.typed h.numbers.registers limits.1 f.words h.numbers.period h.numbers.offset out read_byte f.whole head_own_numbers

-- the file that was written, at the front of the memory
pub written_reads_back : (T s n : ℕ) (ds was out : List ℕ) (r : Result ℕ Refusal) → Period T → Offset s → RegisterCount n → Wrote T s n ds was out r → ReadsAsWritten T s n ds out r
written_reads_back T s n ds was out (Ok k) period offset registers w = λ room h.
    let e : take k out ≡ plan_bytes T s n ds = ap₂ take w.0 w.2 ∙ take_at (plan_bytes T s n ds) (drop (plan_length n) was) (plan_length n) (written_length T s n ds) in
    subst (λ bytes. ReadsAs bytes T s n ds room) (sym e) (reads_back T s n ds period offset registers room h)
written_reads_back T s n ds was out (Err f) period offset registers w = tt

-- so every plan that is fit for a file reads back, which is what writing one promised before the type of a plan said that it is fit
pub fit_reads_back : (T s n : ℕ) (ds out : List ℕ) (r : Result ℕ Refusal) → ReadsAsWritten T s n ds out r → ReadsBack T s n ds out r
fit_reads_back T s n ds out (Ok k) h = λ fit. h
fit_reads_back T s n ds out (Err f) h = tt

-- and with no premise but that the plan is fit, which is ReadsBack's own
pub wrote_reads_back : (T s n : ℕ) (ds was out : List ℕ) (r : Result ℕ Refusal) → Wrote T s n ds was out r → ReadsBack T s n ds out r
wrote_reads_back T s n ds was out (Ok k) w = λ fit. written_reads_back T s n ds was out (Ok k) fit.period_within fit.offset_within fit.registers_within w
wrote_reads_back T s n ds was out (Err f) w = tt
