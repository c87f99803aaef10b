-- A written file opens as what it was made of.
use Rattle.std.proofs.Common.{◌≡◌, ℕ, zero, suc, ◌+◌, ◌-◌, ◌*◌, ◌%◌, ◌<◌, ◌≤◌, Bool, true, false, ◌&&◌, eqb, ltb, leb, List, [], ◌∷◌, ◌++◌, map, length, get_or, take, drop, pos, Some, None, sym, refl, ap, ◌∙◌, ap₂, append_assoc, arith, length-append, length-take, Bor}
use Rattle.std.specs.List.{range_with_len, prefix_len, AllByRecursion}
use Rattle.std.proofs.lemmas.List.{take_at, drop_at, drop-drop, length-replicate, get_or_append_left, get_or-append_right, get_or-map, length-map, same_lists, take_more, map-append, append-nil, take_all}
use Rattle.std.proofs.lemmas.List.Sums.{prefix_len-drop_yes, prefix_len-drop_no, prefix_len-drop_all}
use Rattle.delay_file.proofs.Scans.{leading_below}
use Rattle.std.proofs.ByRecursion.{All-append, All-get_or, All-from_get_or}
use Rattle.std.proofs.lemmas.List.FromFn.{length-map-range_with_len, get_or-map-range_with_len}
use Rattle.std.proofs.lemmas.Bool.{and_parts, and_left, and_right, eq-eqb, leb-true, ltb-true, le-leb, ne_eqb}
use Rattle.timing.specs.declared.pair.Pair.{Pair}
use Rattle.delay_file.specs.Bytes.{every, graphic}
use Rattle.delay_file.specs.declared.write_error.WriteError.{WriteError}
use Rattle.delay_file.specs.declared.write_error.WriteError.TheVariants.{Refused, Memory}
use Rattle.delay_file.specs.Writes.{Refuses, RefusesName, RefusesNames}
use Rattle.delay_file.specs.Records.{Reading, register, delay, refused, reading, register_bytes, pair_bytes, lawful_name, ReadsBack}
use Rattle.timing.specs.Meaning.{Entry, judged}
use Rattle.delay_file.specs.Files.{record_at, record_count, register_records, file_records, joined, file_bytes, numbered, register_at, register_kind, register_run, broken_run, entry_of, file_meaning, opening, opened, circuit_meaning, Writing, written_as, unwritten, writing}
use Rattle.delay_file.proofs.Shapes.{other_kind}
use Rattle.delay_file.proofs.Spellings.{register_reads_back}

-- every record has 32 bytes
abbrev pub Whole : List ℕ → Type 0
Whole x = length x ≡ 32

pub length_joined : (xs : List (List ℕ)) → AllByRecursion Whole xs → length (joined xs) ≡ length xs * 32
length_joined [] h = refl
length_joined (x ∷ xs) h = let e = length_joined xs h.1 in let f = h.0 in length-append x (joined xs) ∙ omega arith

pub count_joined : (xs : List (List ℕ)) → AllByRecursion Whole xs → record_count (joined xs) ≡ length xs
count_joined xs h = let e = length_joined xs h in omega arith

-- the record at a place is the one that was put there
pub record_joined : (xs : List (List ℕ)) (k : ℕ) → AllByRecursion Whole xs → k < length xs → record_at (joined xs) k ≡ get_or xs k []
record_joined [] k h l = absurd (omega arith)
record_joined (x ∷ xs) zero h l = take_at x (joined xs) 32 h.0
record_joined (x ∷ xs) (suc k) h l =
    let a : suc k * 32 ≡ 32 + k * 32 = omega arith in
    let d : drop (suc k * 32) (x ++ joined xs) ≡ drop (k * 32) (joined xs) = ap (λ n. drop n (x ++ joined xs)) a ∙ sym (drop-drop (k * 32) 32 (x ++ joined xs)) ∙ ap (drop (k * 32)) (drop_at x (joined xs) 32 h.0) in
    ap (take 32) d ∙ record_joined xs k h.1 (omega arith)

-- each record of a file has 32 bytes
register_whole : (k : ℕ) (name : List ℕ) → lawful_name name ≡ true → Whole (register_bytes k name)
register_whole k name h =
    let a = and_parts (leb 1 (length name)) _ h in
    let b = leb-true _ _ (and_parts (leb (length name) 24) (every graphic name) a.1).0 in
    simp (length-append, length-replicate) (omega arith)

registers_whole : (k : ℕ) (names : List (List ℕ)) → AllByRecursion (λ name. lawful_name name ≡ true) names → AllByRecursion Whole (register_records k names)
registers_whole k [] h = tt
registers_whole k (name ∷ names) h = (register_whole k name h.0, registers_whole (k + 1) names h.1)

pub pairs_whole : (pairs : List Pair) → AllByRecursion Whole (map pair_bytes pairs)
pairs_whole [] = tt
pairs_whole (p ∷ pairs) = (refl, pairs_whole pairs)

length_registers : (k : ℕ) (names : List (List ℕ)) → length (register_records k names) ≡ length names
length_registers k [] = refl
length_registers k (name ∷ names) = ap suc (length_registers (k + 1) names)

register_there : (k : ℕ) (names : List (List ℕ)) (i : ℕ) → i < length names → get_or (register_records k names) i [] ≡ register_bytes (k + i) (get_or names i [])
register_there k [] i h = absurd (omega arith)
register_there k (name ∷ names) zero h = ap (λ n. register_bytes n name) (omega arith)
register_there k (name ∷ names) (suc i) h =
    register_there (k + 1) names i (omega arith) ∙ ap (λ n. register_bytes n (get_or names i [])) (omega arith)

-- as many at the start as pass, and the next does not
pub run_is : (P : ℕ → Bool) (a n m : ℕ) → ((k : ℕ) → k < n → P (a + k) ≡ true) → (n < m → P (a + n) ≡ false) → n ≤ m → prefix_len P (range_with_len a m) ≡ n
run_is P a zero zero f g h = refl
run_is P a zero (suc m) f g h = let e : P a ≡ false = ap P (omega arith) ∙ g (omega arith) in rw e
run_is P a (suc n) zero f g h = absurd (omega arith)
run_is P a (suc n) (suc m) f g h =
    let e : P a ≡ true = ap P (omega arith) ∙ f 0 (omega arith) in
    let r = run_is P (a + 1) n m (λ k l. ap P (omega arith) ∙ f (suc k) (omega arith)) (λ l. ap P (omega arith) ∙ g (omega arith)) (omega arith) in
    rw (e, r) (omega arith)

no_pair : Pair
no_pair = record { launch = 0; capture = 0; min = pos 0; max = pos 0 }

module _ (names : List (List ℕ)) (pairs : List Pair) (lawful : AllByRecursion (λ name. lawful_name name ≡ true) names) (read : AllByRecursion ReadsBack pairs) (few : 1 ≤ length names) (most : length names ≤ 4096) where
  whole : AllByRecursion Whole (file_records names pairs)
  whole = All-append Whole (register_records 0 names) (map pair_bytes pairs) (registers_whole 0 names lawful) (pairs_whole pairs)

  total : record_count (file_bytes names pairs) ≡ length names + length pairs
  total = count_joined (file_records names pairs) whole ∙ length-append (register_records 0 names) (map pair_bytes pairs) ∙ ap₂ (λ a b. a + b) (length_registers 0 names) (length-map pairs pair_bytes)

  record_there : (k : ℕ) → k < length names + length pairs → record_at (file_bytes names pairs) k ≡ get_or (file_records names pairs) k []
  record_there k h = let t = total in let c = count_joined (file_records names pairs) whole in record_joined (file_records names pairs) k whole (omega arith)

  at_register : (i : ℕ) → i < length names → record_at (file_bytes names pairs) i ≡ register_bytes i (get_or names i [])
  at_register i h =
      let l = length_registers 0 names in
      record_there i (omega arith) ∙ get_or_append_left (register_records 0 names) (map pair_bytes pairs) [] i (omega arith)
      ∙ register_there 0 names i h ∙ ap (λ n. register_bytes n (get_or names i [])) (omega arith)

  at_pair : (i : ℕ) → i < length pairs → record_at (file_bytes names pairs) (length names + i) ≡ pair_bytes (get_or pairs i no_pair)
  at_pair i h =
      let s : length names + i - length names ≡ i = omega arith in
      record_there (length names + i) (omega arith)
      ∙ get_or-append_right (register_records 0 names) (map pair_bytes pairs) (length names) (length names + i) [] (length_registers 0 names) (omega arith)
      ∙ ap (λ k. get_or (map pair_bytes pairs) k []) s
      ∙ get_or-map pair_bytes pairs i no_pair [] h

  is_register : (i : ℕ) → i < length names → register_at (file_bytes names pairs) i ≡ true
  is_register i h =
      ap (λ xs. numbered i (reading i xs)) (at_register i h)
      ∙ ap (numbered i) (register_reads_back i i (get_or names i []) (omega arith) (All-get_or (λ name. lawful_name name ≡ true) names i [] h lawful))
      ∙ eq-eqb i i refl

  next_kind : length names < length names + length pairs → register_kind (file_bytes names pairs) (length names) ≡ false
  next_kind h =
      let z : length names ≡ length names + 0 = omega arith in
      ap (λ k. eqb (get_or (record_at (file_bytes names pairs) k) 0 0) 1) z ∙ ap (λ xs. eqb (get_or xs 0 0) 1) (at_pair 0 (omega arith))

  run : register_run (file_bytes names pairs) ≡ length names
  run =
      let t = total in
      run_is (register_at (file_bytes names pairs)) 0 (length names) (record_count (file_bytes names pairs))
      (λ k h. let z : 0 + k ≡ k = omega arith in ap (register_at (file_bytes names pairs)) z ∙ is_register k h)
      (λ h. let z : 0 + length names ≡ length names = omega arith in ap (register_at (file_bytes names pairs)) z ∙ other_kind (length names) (length names) (record_at (file_bytes names pairs) (length names)) (next_kind (omega arith)))
      (omega arith)

  not_broken_at : (b : Bool) → ltb (length names) (record_count (file_bytes names pairs)) ≡ b → broken_run (file_bytes names pairs) (length names) ≡ false
  not_broken_at true e = let t = total in let l = ltb-true _ _ e in and_right _ (register_kind (file_bytes names pairs) (length names)) (next_kind (omega arith))
  not_broken_at false e = and_left (ltb (length names) (record_count (file_bytes names pairs))) _ e

  entry_there : (i : ℕ) → i < length pairs → entry_of (length names) (reading (length names + i) (record_at (file_bytes names pairs) (length names + i))) ≡ judged (length names) (get_or pairs i no_pair)
  entry_there i h =
      ap (λ xs. entry_of (length names) (reading (length names + i) xs)) (at_pair i h)
      ∙ ap (entry_of (length names)) (All-get_or ReadsBack pairs i no_pair h read (length names + i))

  entries : (file_meaning (file_bytes names pairs) (length names)).entries ≡ map (judged (length names)) pairs
  entries =
      let n = length names in
      let m = record_count (file_bytes names pairs) - n in
      let t = total in
      let f : ℕ → Entry = λ k. entry_of n (reading k (record_at (file_bytes names pairs) k)) in
      let l = length-map-range_with_len f n m in
      let q = length-map pairs (judged n) in
      same_lists (map f (range_with_len n m)) (map (judged n) pairs) (omega arith)
      (λ k d h. get_or-map-range_with_len f n m k (n + k) d (omega arith) refl ∙ entry_there k (omega arith) ∙ sym (get_or-map (judged n) pairs k no_pair d (omega arith)))

  pub opens_as : opening (file_bytes names pairs) ≡ opened (circuit_meaning names pairs)
  opens_as =
      let z : eqb (length (file_bytes names pairs) % 32) 0 ≡ true = let l = length_joined (file_records names pairs) whole in eq-eqb _ _ (omega arith) in
      rw (z, run, not_broken_at (ltb (length names) (record_count (file_bytes names pairs))) refl, le-leb 1 (length names) few, le-leb (length names) 4096 most)
      (ap (λ es. opened (record { registers = length names; entries = es })) entries)

pub joined_append : (xs ys : List (List ℕ)) → joined (xs ++ ys) ≡ joined xs ++ joined ys
joined_append [] ys = refl
joined_append (x ∷ xs) ys = ap (λ l. x ++ l) (joined_append xs ys) ∙ sym (append_assoc x (joined xs) (joined ys))

pub joined_push : (xs : List (List ℕ)) (x : List ℕ) → joined (xs ++ x ∷ []) ≡ joined xs ++ x
joined_push xs x = joined_append xs (x ∷ []) ∙ ap (λ l. joined xs ++ l) (append-nil x)

registers_push : (k : ℕ) (names : List (List ℕ)) (name : List ℕ) → register_records k (names ++ name ∷ []) ≡ register_records k names ++ register_bytes (k + length names) name ∷ []
registers_push k [] name = ap (λ n. register_bytes n name ∷ []) (omega arith)
registers_push k (x ∷ names) name =
    let e : k + 1 + length names ≡ k + length (x ∷ names) = omega arith in
    ap (λ l. register_bytes k x ∷ l) (registers_push (k + 1) names name ∙ ap (λ n. register_records (k + 1) names ++ register_bytes n name ∷ []) e)

-- one pair more
pub pairs_more : (was items : List ℕ) (pairs : List Pair) (i : ℕ) (d : Pair) → i < length pairs → items ≡ was ++ joined (map pair_bytes (take i pairs)) → items ++ pair_bytes (get_or pairs i d) ≡ was ++ joined (map pair_bytes (take (i + 1) pairs))
pairs_more was items pairs i d h e =
    ap (λ l. l ++ pair_bytes (get_or pairs i d)) e
    ∙ append_assoc was (joined (map pair_bytes (take i pairs))) (pair_bytes (get_or pairs i d))
    ∙ ap (λ l. was ++ l) (sym (joined_push (map pair_bytes (take i pairs)) (pair_bytes (get_or pairs i d))))
    ∙ ap (λ l. was ++ joined l) (sym (map-append pair_bytes (take i pairs) (get_or pairs i d ∷ [])))
    ∙ ap (λ l. was ++ joined (map pair_bytes l)) (sym (take_more pairs i d h))

-- one register more
pub registers_more : (was items : List ℕ) (names : List (List ℕ)) (i : ℕ) → i < length names → items ≡ was ++ joined (register_records 0 (take i names)) → items ++ register_bytes i (get_or names i []) ≡ was ++ joined (register_records 0 (take (i + 1) names))
registers_more was items names i h e =
    let n : 0 + length (take i names) ≡ i = simp length-take (omega arith) in
    ap (λ l. l ++ register_bytes i (get_or names i [])) e
    ∙ append_assoc was (joined (register_records 0 (take i names))) (register_bytes i (get_or names i []))
    ∙ ap (λ l. was ++ l) (sym (joined_push (register_records 0 (take i names)) (register_bytes i (get_or names i []))))
    ∙ ap (λ m. was ++ joined (register_records 0 (take i names) ++ register_bytes m (get_or names i []) ∷ [])) (sym n)
    ∙ ap (λ l. was ++ joined l) (sym (registers_push 0 (take i names) (get_or names i [])))
    ∙ ap (λ l. was ++ joined (register_records 0 l)) (sym (take_more names i [] h))

-- The loop over the names of registers: the names that were taken, and how many.
module _ (was : List ℕ) (names : List (Bor (List ℕ))) (i : ℕ) (items : List ℕ) where
  abbrev pub Taken : Type 0
  Taken = (items ≡ was ++ joined (register_records 0 (take i (map (λ x. x.now) names)))) × (prefix_len lawful_name (map (λ x. x.now) names) ≡ i + prefix_len lawful_name (drop i (map (λ x. x.now) names)))

name_there : (names : List (Bor (List ℕ))) (i : ℕ) (d : Bor (List ℕ)) → i < length names → get_or (map (λ x. x.now) names) i [] ≡ (get_or names i d).now
name_there names i d h = get_or-map (λ x. x.now) names i d [] h

pub one_taken : (was items more : List ℕ) (names : List (Bor (List ℕ))) (i : ℕ) (d : Bor (List ℕ)) → i < length names → Taken was names i items → (lawful_name (get_or names i d).now ≡ true) × (more ≡ items ++ register_bytes i (get_or names i d).now) → Taken was names (i + 1) more
one_taken was items more names i d h t n =
    let l = length-map names (λ x. x.now) in
    let e = name_there names i d h in
    let y = prefix_len-drop_yes lawful_name (map (λ x. x.now) names) i [] (omega arith) (ap lawful_name e ∙ n.0) in
    (n.1 ∙ ap (λ x. items ++ register_bytes i x) (sym e) ∙ registers_more was items (map (λ x. x.now) names) i (omega arith) t.0, omega (arith, t.1))

pub none_taken : (was items : List ℕ) (names : List (Bor (List ℕ))) (i : ℕ) (d : Bor (List ℕ)) → i < length names → Taken was names i items → lawful_name (get_or names i d).now ≡ false → (prefix_len lawful_name (map (λ x. x.now) names) < length (map (λ x. x.now) names)) × (prefix_len lawful_name (map (λ x. x.now) names) ≡ i)
none_taken was items names i d h t n =
    let l = length-map names (λ x. x.now) in
    let e = name_there names i d h in
    let y = prefix_len-drop_no lawful_name (map (λ x. x.now) names) i [] (omega arith) (ap lawful_name e ∙ n) in
    (omega (arith, t.1), omega (arith, t.1))

pub all_taken : (was items : List ℕ) (names : List (Bor (List ℕ))) (i : ℕ) → i ≤ length names → length names ≤ i → Taken was names i items → (prefix_len lawful_name (map (λ x. x.now) names) ≡ length names) × (items ≡ was ++ joined (register_records 0 (map (λ x. x.now) names)))
all_taken was items names i g h t =
    let l = length-map names (λ x. x.now) in
    let y = prefix_len-drop_all lawful_name (map (λ x. x.now) names) i (omega arith) in
    (omega (arith, t.1), t.0 ∙ ap (λ ns. was ++ joined (register_records 0 ns)) (take_all i (map (λ x. x.now) names) (omega arith)))

pub refused_name : (was items : List ℕ) (names : List (Bor (List ℕ))) (i : ℕ) (d : Bor (List ℕ)) (e : WriteError) → i < length names → Taken was names i items → RefusesName i (get_or names i d).now e → RefusesNames (map (λ x. x.now) names) e
refused_name was items names i d (Refused f) h t r =
    let n = none_taken was items names i d h t r.0 in (n.0, r.1 ∙ ap (λ k. refused 13 (Some k)) (sym n.1))
refused_name was items names i d Memory h t r = tt

all_lawful : (names : List (List ℕ)) → prefix_len lawful_name names ≡ length names → AllByRecursion (λ name. lawful_name name ≡ true) names
all_lawful names e =
    All-from_get_or (λ name. lawful_name name ≡ true) names [] (λ i h. leading_below lawful_name names i [] (omega arith))

-- a file that was put together whole
pub whole_file : (names : List (List ℕ)) (pairs : List Pair) (start middle items : List ℕ) → start ≡ [] → prefix_len lawful_name names ≡ length names → middle ≡ start ++ joined (register_records 0 names) → items ≡ middle ++ joined (map pair_bytes pairs) → AllByRecursion ReadsBack pairs → 1 ≤ length names → length names ≤ 4096 → (written_as items ≡ writing names pairs) × (opening items ≡ opened (circuit_meaning names pairs))
whole_file names pairs start middle items s l m i read few most =
    let b : items ≡ file_bytes names pairs = i ∙ ap (λ x. x ++ joined (map pair_bytes pairs)) (m ∙ ap (λ x. x ++ joined (register_records 0 names)) s) ∙ sym (joined_append (register_records 0 names) (map pair_bytes pairs)) in
    let w : writing names pairs ≡ written_as (file_bytes names pairs) = rw (le-leb 1 (length names) few, le-leb (length names) 4096 most, eq-eqb (prefix_len lawful_name names) (length names) l) in
    (ap written_as b ∙ sym w, ap opening b ∙ opens_as names pairs (all_lawful names l) read few most)

abbrev unseen : Reading → Writing
unseen (register number name) = unwritten 0 None
unseen (delay p) = unwritten 0 None
unseen (refused number at) = unwritten number at

-- names that were refused
pub refused_file : (names : List (List ℕ)) (pairs : List Pair) (e : WriteError) → 1 ≤ length names → length names ≤ 4096 → RefusesNames names e → Refuses names pairs e
refused_file names pairs (Refused f) few most r =
    rw (le-leb 1 (length names) few, le-leb (length names) 4096 most, ne_eqb (prefix_len lawful_name names) (length names) (λ x. let h = r.0 in omega arith)) (ap unseen r.1)
refused_file names pairs Memory few most r = tt

both_not : (x y : Bool) → (x ≡ true → y ≡ true → ⊥) → (x && y) ≡ false
both_not true true h = absurd (h refl refl)
both_not true false h = refl
both_not false y h = refl

-- too few names, or too many
pub uncounted : (names : List (List ℕ)) (pairs : List Pair) → (1 ≤ length names → length names ≤ 4096 → ⊥) → writing names pairs ≡ unwritten 1 None
uncounted names pairs h =
    rw (both_not (leb 1 (length names)) (leb (length names) 4096) (λ a b. h (leb-true _ _ a) (leb-true _ _ b)))
