-- The turns of a load: the pairs of a file before a place, and what add would answer to the next.
use Rattle.std.proofs.Common.{◌≡◌, ℕ, ◌+◌, ◌-◌, ◌<◌, ◌≤◌, min, Bool, true, false, cond, ◌||◌, leb, ◌⊎◌, List, [], ◌∷◌, ◌++◌, length, get_or, take, is_some, MatchBool, Some, Option, Err, sym, refl, ap, ◌∙◌, ap₂, inl, inr, arith}
use Rattle.std.proofs.Math.Bool.{or-true}
use Rattle.std.proofs.lemmas.List.FromFn.{length-map-range_with_len, get_or-map-range_with_len}
use Rattle.std.proofs.lemmas.List.{length-take-le}
use Rattle.std.proofs.lemmas.Bool.{both_ways, cases_Bool, cases_lt, le-leb, lt-leb}
use Rattle.timing.specs.Meaning.{pair, judged}
use Rattle.timing.specs.Outcomes.{Outcome, granted, refused}
use Rattle.timing.specs.Table.{refusal_number}
use Rattle.timing.specs.declared.pair.Pair.{Pair}
use Rattle.timing.specs.declared.refusal.Refusal.{Refusal}
use Rattle.delay_file.specs.Files.{JoinsAt, record_at, record_count, view_registers}
use Rattle.delay_file.specs.Records.{pair_fields}
use Rattle.delay_file.specs.declared.fault.Fault.{Fault}
use Rattle.delay_file.specs.declared.view.FileView.{FileView}
use Rattle.session.specs.Book.{Book, add_answer, added, has, full}
use Rattle.session.specs.Loads.{by_add, given_pairs, plus, stopped}
use Rattle.session.specs.Orders.{KnownOrder, Takes}
use Rattle.session.specs.Pairs.{find, joins}
use Rattle.session.specs.declared.order.Order.TheVariants.{RisesTo}
use Rattle.session.proofs.Look.{Missing, joins_keys, keys_join, look, missing_none, rises_none}

module _ (v : FileView) where
  abbrev entries : ℕ
  entries = record_count v.bytes.now - view_registers v

  pub given_length : length (given_pairs v) ≡ entries
  given_length = length-map-range_with_len (λ k. pair_fields (record_at v.bytes.now k)) (view_registers v) entries

  pub given_at : (i : ℕ) (d : Pair) → i < length (given_pairs v) → get_or (given_pairs v) i d ≡ pair_fields (record_at v.bytes.now (view_registers v + i))
  given_at i d h = let l = given_length in get_or-map-range_with_len (λ k. pair_fields (record_at v.bytes.now k)) (view_registers v) entries i (view_registers v + i) d (omega arith) refl

  module _ (place a b : ℕ) (within : place ≤ length (given_pairs v)) where
    found_before : (k : ℕ) → k < place → JoinsAt v k a b → is_some (find (take place (given_pairs v)) a b) ≡ true
    found_before k h j =
        elim (look place (given_pairs v) a b within) [
          | inl q ↦
              let d = pair_fields [] in
              let e = given_at k d (omega arith) in
              absurd (both_ways _ (q.1 k d h) (keys_join (get_or (given_pairs v) k d) a b (ap (λ (p : Pair). p.launch) e ∙ j.launch_is) (ap (λ (p : Pair). p.capture) e ∙ j.capture_is)))
          | inr q ↦ ap (λ (o : Option Pair). is_some o) (q.is q.got)
        ]

    none_before : ((k : ℕ) → k < place → JoinsAt v k a b → ⊥) → Missing place (given_pairs v) a b
    none_before f k d h =
        let l = given_length in
        let e = given_at k d (omega arith) in
        elim (cases_Bool (joins (get_or (given_pairs v) k d) a b)) [
          | inl t ↦
              let q = joins_keys (get_or (given_pairs v) k d) a b t in
              absurd (f k h (record { there = omega arith; launch_is = sym (ap (λ (p : Pair). p.launch) e) ∙ q.0; capture_is = sym (ap (λ (p : Pair). p.capture) e) ∙ q.1 }))
          | inr t ↦ t
        ]

    -- what the file's entries say is what their pairs say
    pub joins_found : (r : Bool) → MatchBool r ((k : ℕ) × (k < place) × JoinsAt v k a b) ((k : ℕ) → k < place → JoinsAt v k a b → ⊥) → r ≡ is_some (find (take place (given_pairs v)) a b)
    joins_found true w = sym (found_before w.0 w.1 w.2)
    joins_found false w = sym (ap (λ (o : Option Pair). is_some o) (missing_none place (given_pairs v) a b within (none_before w)))

-- pairs that rise do not repeat
pub rising_new : (ps : List Pair) (i : ℕ) (p q : Pair) → i < length ps → ((d : Pair) → p ≡ get_or ps i d) → KnownOrder ps (i + 1) (RisesTo q) → false ≡ is_some (find (take i ps) p.launch p.capture)
rising_new ps i p q h is k =
    sym (ap (λ (r : Pair). is_some (find (take i ps) r.launch r.capture)) (is p) ∙ ap (λ (o : Option Pair). is_some o) (rises_none ps i p h k.2))

-- a book with pairs put in
pub plus_push : (b : Book) (ps : List Pair) (p : Pair) → plus b (ps ++ p ∷ []) ≡ added (plus b ps) p
plus_push b [] p = refl
plus_push b (q ∷ ps) p = plus_push (added b q) ps p

pub plus_registers : (b : Book) (ps : List Pair) → (plus b ps).registers ≡ b.registers
plus_registers b [] = refl
plus_registers b (p ∷ ps) = plus_registers (added b p) ps

pub plus_places : (b : Book) (ps : List Pair) → (plus b ps).places ≡ b.places
plus_places b [] = refl
plus_places b (p ∷ ps) = plus_places (added b p) ps

pub plus_count : (b : Book) (ps : List Pair) → (plus b ps).count ≡ b.count + length ps
plus_count b [] = omega arith
plus_count b (p ∷ ps) = let e = plus_count (added b p) ps in omega arith

plus_has : (b : Book) (ps : List Pair) (x y : ℕ) → has (plus b ps) x y ≡ (is_some (find ps x y) || has b x y)
plus_has b [] x y = refl
plus_has b (p ∷ ps) x y =
    plus_has (added b p) ps x y
    ∙ elim (cases_Bool (joins p x y)) [ inl t ↦ rw t (or-true (is_some (find ps x y))) | inr f ↦ rw f ]

-- the answer of add to a lawful pair, by the two tests that are left
add_by : (b : Book) (p : Pair) (x y : Bool) → judged b.registers p ≡ pair p → has b p.launch p.capture ≡ x → full b ≡ y → add_answer b p ≡ cond x (refused 4 []) (cond y (refused 6 []) (granted tt))
add_by b p true y j h f = rw (j, h)
add_by b p false true j h f = rw (j, h, f)
add_by b p false false j h f = rw (j, h, f)

-- no place is left for one more after i others
pub none_spare : (places count i : ℕ) → min places 16384 - count ≤ i → (16384 ≤ count + i) ⊎ (places ≤ count + i)
none_spare places count i h = elim (cases_lt (count + i) 16384) [ inl l ↦ inr (omega arith) | inr g ↦ inl g ]

module _ (b : Book) (ps : List Pair) (i : ℕ) (p : Pair) (within : i ≤ length ps) (lawful : judged b.registers p ≡ pair p) where
  abbrev so_far : Book
  so_far = plus b (take i ps)

  lawful_so_far : judged so_far.registers p ≡ pair p
  lawful_so_far = ap (λ n. judged n p) (plus_registers b (take i ps)) ∙ lawful

  full_so_far : full so_far ≡ (leb 16384 (b.count + i) || leb b.places (b.count + i))
  full_so_far =
      let l = length-take-le i ps within in
      let n : so_far.count ≡ b.count + i = plus_count b (take i ps) ∙ omega arith in
      ap₂ (λ c q. leb 16384 c || leb q c) n (plus_places b (take i ps))

  pub turn : (x y z : Bool) → is_some (find (take i ps) p.launch p.capture) ≡ x → has b p.launch p.capture ≡ y → (leb 16384 (b.count + i) || leb b.places (b.count + i)) ≡ z → add_answer so_far p ≡ cond (x || y) (refused 4 []) (cond z (refused 6 []) (granted tt))
  turn x y z e f g =
      add_by so_far p (x || y) z lawful_so_far (plus_has b (take i ps) p.launch p.capture ∙ ap₂ (λ u w. u || w) e f) (full_so_far ∙ g)

  pub turn_present : (x y : Bool) → is_some (find (take i ps) p.launch p.capture) ≡ x → has b p.launch p.capture ≡ y → (x || y) ≡ true → refused 4 [] ≡ add_answer so_far p
  turn_present x y e f t = sym (turn x y (leb 16384 (b.count + i) || leb b.places (b.count + i)) e f refl ∙ rw t refl)

  pub turn_full : is_some (find (take i ps) p.launch p.capture) ≡ false → has b p.launch p.capture ≡ false → (16384 ≤ b.count + i) ⊎ (b.places ≤ b.count + i) → refused 6 [] ≡ add_answer so_far p
  turn_full e f (inl h) = sym (turn false false true e f (rw (le-leb 16384 (b.count + i) h)))
  turn_full e f (inr h) = sym (turn false false true e f (rw (le-leb b.places (b.count + i) h) (or-true (leb 16384 (b.count + i)))))

  pub turn_taken : is_some (find (take i ps) p.launch p.capture) ≡ false → has b p.launch p.capture ≡ false → b.count + i < 16384 → b.count + i < b.places → granted tt ≡ add_answer so_far p
  turn_taken e f h k = sym (turn false false false e f (rw (lt-leb 16384 (b.count + i) h, lt-leb b.places (b.count + i) k)))

-- a refusal of add stops the load with the fault that carries it
pub stops_with : (k : ℕ) (g : Refusal) (f : Fault) → f ≡ record { refusal = g; «record» = Some k } → {answer : Outcome (Unit {0})} {values : List ℕ} → refused (refusal_number g) values ≡ answer → Takes k answer (Err f)
stops_with k g f e h rest = ap (λ o. by_add k o rest) (sym h) ∙ ap (λ (x : Fault). stopped (refusal_number x.refusal) x.«record») (sym e)
