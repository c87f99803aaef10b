-- The pairs of a session saved: their records one behind the other, which load as the same pairs.
use Rattle.std.proofs.Common.{◌≡◌, ℕ, zero, suc, ◌+◌, ◌*◌, ◌<◌, ◌≤◌, true, false, ◌&&◌, ◌||◌, eqb, leb, List, [], ◌∷◌, ◌++◌, map, length, get_or, take, drop, ℤ, pos, negsuc, ◌≤ℤ◌, None, vec_items, sym, refl, ap, ◌∙◌, subst, ap₂, inl, inr, arith, w32, SFits, of_z}
use lib.Signed.{le_z}
use Rattle.std.specs.List.{AllByRecursion}
use Rattle.std.specs.Option.{option_or}
use Rattle.std.proofs.ByRecursion.{all_from_every, All-weaker}
use Rattle.std.proofs.lemmas.List.{get_or-map, get_or-take, length-map, length-take-le}
use Rattle.std.proofs.lemmas.Int.{ints}
use Rattle.std.proofs.lemmas.Bool.{both_ways, cases_Bool, cond-false, cond-true, eq-eqb, lt-leb, or_from}
use Rattle.timing.specs.Bounds.{RegisterCount, least_delay, greatest_delay, missing}
use Rattle.timing.specs.Meaning.{pair, judged}
use Rattle.timing.specs.Outcomes.{Outcome, granted}
use Rattle.timing.specs.declared.pair.Pair.{Pair}
use Rattle.delay_file.specs.Files.{joined, file_bytes}
use Rattle.delay_file.specs.Records.{pair_bytes, lawful_name, ReadsBack}
use Rattle.delay_file.proofs.Spellings.{pair_reads_back}
use Rattle.delay_file.proofs.Putting.{one_record}
use Rattle.delay_file.proofs.Written.{opens_as, pairs_whole}
use Rattle.session.specs.Book.{Book, Lists, add_answer, added, book, fresh, kept}
use Rattle.session.specs.Loads.{by_add, load_entries, load_opened, loading, plus, taken}
use Rattle.session.specs.Pairs.{Apart, KeepsLimits, find, joins}
use Rattle.session.specs.Saves.{LoadsBack, fresh_with}
use Rattle.session.specs.declared.Session.{Session}
use Rattle.session.proofs.Books.{same_book}
use Rattle.session.proofs.Look.{joins_keys, keys_join, or_none}
use Rattle.session.proofs.Turns.{plus_count, plus_places, plus_registers}
use Rattle.session.proofs.Kept.{kept_count, kept_lawful, within_places}

-- one pair more
pub pair_saved : (s : Session) (k : ℕ) (was out more : List ℕ) (p : Pair) → k < s.used → out ≡ joined (take k (map pair_bytes (kept s))) ++ drop (k * 32) was → p ≡ get_or (kept s) k p → more ≡ take (k * 32) out ++ (pair_bytes p ++ drop (k * 32 + 32) out) → more ≡ joined (take (k + 1) (map pair_bytes (kept s))) ++ drop ((k + 1) * 32) was
pair_saved s k was out more p h e q m =
    let l = kept_count s in
    let n = length-map (kept s) pair_bytes in
    one_record (map pair_bytes (kept s)) (pairs_whole (kept s)) was k out more (pair_bytes p) (omega arith) e
    (ap pair_bytes q ∙ sym (get_or-map pair_bytes (kept s) k p [] (omega arith))) m

-- a lawful pair reads back
delay_fits : (z : ℤ) → least_delay ≤ℤ z → z ≤ℤ greatest_delay → SFits w32 z × (of_z w32 z < 4294967296)
delay_fits (pos n) a b = (record { sfits = omega (arith, ints) }, omega (arith, ints))
delay_fits (negsuc n) a b = (record { sfits = omega (arith, ints) }, omega (arith, ints))

reads_back : (n : ℕ) → n ≤ 4096 → (p : Pair) → KeepsLimits n p → ReadsBack p
reads_back n most p h k =
    let a = h.0 in let b = h.1 in let c = h.2 in let d = h.3 in let e = h.4 in
    let x = delay_fits p.min c (omega (arith, ints)) in
    let y = delay_fits p.max (omega (arith, ints)) e in
    pair_reads_back k p (omega arith) (omega arith) x.0 y.0 x.1 y.1

-- and is judged to be itself
judged_itself : (n : ℕ) (p : Pair) → KeepsLimits n p → judged n p ≡ pair p
judged_itself n p h =
    let a = h.0 in let b = h.1 in let c = h.2 in let d = h.3 in let e = h.4 in
    let x : (leb n p.launch || leb n p.capture) ≡ false = or_from _ _ (lt-leb _ _ a) (lt-leb _ _ b) in
    let y : (missing p.min || missing p.max) ≡ false = grind (arith, ints) in
    let z : (le_z least_delay p.min && (le_z p.min p.max && le_z p.max greatest_delay)) ≡ true = grind (arith, ints) in
    rw (x, y, z)

all_judged : (n : ℕ) (ps : List Pair) → AllByRecursion (KeepsLimits n) ps → map (judged n) ps ≡ map pair ps
all_judged n [] h = refl
all_judged n (p ∷ ps) h = ap₂ (λ e es. e ∷ es) (judged_itself n p h.0) (all_judged n ps h.1)

-- two pairs go not between the same registers, and no two of a list do
abbrev Unlike : Pair → Pair → Type 0
Unlike p q = joins p q.launch q.capture ≡ false

abbrev Distinct : List Pair → Type 0
Distinct [] = Unit {0}
Distinct (p ∷ ps) = AllByRecursion (Unlike p) ps × Distinct ps

apart_rest : (n : ℕ) (p : Pair) (xs : List Pair) → Apart (suc n) (p ∷ xs) → Apart n xs
apart_rest n p xs a t =
    let i = t.i_in in let j = t.j_in in
    let e : suc t.i ≡ suc t.j = a (record { i = suc t.i; j = suc t.j; d = t.d; e = t.e; i_in = omega arith; j_in = omega arith; launch_same = t.launch_same; capture_same = t.capture_same }) in
    omega arith

apart_first : (n : ℕ) (p : Pair) (xs : List Pair) (k : ℕ) (d : Pair) → Apart (suc n) (p ∷ xs) → k < n → Unlike p (get_or xs k d)
apart_first n p xs k d a h =
    elim (cases_Bool (joins p (get_or xs k d).launch (get_or xs k d).capture)) [
      | inl t ↦
          let q = joins_keys p _ _ t in
          let e : 0 ≡ suc k = a (record { i = 0; j = suc k; d = p; e = d; i_in = omega arith; j_in = omega arith; launch_same = q.0; capture_same = q.1 }) in
          absurd (omega arith)
      | inr f ↦ f
    ]

distinct : (n : ℕ) (xs : List Pair) → n ≤ length xs → Apart n xs → Distinct (take n xs)
distinct zero xs l a = tt
distinct (suc n) [] l a = absurd (omega arith)
distinct (suc n) (p ∷ xs) l a =
    let m = length-take-le n xs (omega arith) in (
      all_from_every (Unlike p) (take n xs) (λ k d g h. let h2 : k < n = omega arith in subst (Unlike p) (sym (get_or-take n xs k d h2)) (apart_first n p xs k d a h2)),
      distinct n xs (omega arith) (apart_rest n p xs a),
    )

-- a book with no pair between the registers of this one
abbrev Absent : Book → Pair → Type 0
Absent b p = b.at p.launch p.capture ≡ None

granted_add : (b : Book) (p : Pair) → KeepsLimits b.registers p → Absent b p → b.count < 16384 → b.count < b.places → add_answer b p ≡ granted tt
granted_add b p h e f r =
    rw (judged_itself b.registers p h, e, lt-leb 16384 b.count f, lt-leb b.places b.count r)

still_absent : (b : Book) (p : Pair) (ps : List Pair) → AllByRecursion (Unlike p) ps → AllByRecursion (Absent b) ps → AllByRecursion (Absent (added b p)) ps
still_absent b p [] u h = tt
still_absent b p (q ∷ ps) u h = (cond-false (joins p q.launch q.capture) _ _ u.0 ∙ h.0, still_absent b p ps u.1 h.1)

-- lawful pairs that are absent and distinct are put in one after another, where there is room
all_taken : (b : Book) (k : ℕ) (ps : List Pair) → AllByRecursion (KeepsLimits b.registers) ps → Distinct ps → AllByRecursion (Absent b) ps → b.count + length ps ≤ 16384 → b.count + length ps ≤ b.places → load_entries b k (map pair ps) ≡ taken (plus b ps)
all_taken b k [] h d n few room = refl
all_taken b k (p ∷ ps) h d n few room =
    ap (λ (a : Outcome (Unit {0})). by_add k a (load_entries (added b p) (k + 1) (map pair ps))) (granted_add b p h.0 n.0 (omega arith) (omega arith))
    ∙ all_taken (added b p) (k + 1) ps h.1 d.1 (still_absent b p ps d.0 n.1) (omega arith) (omega arith)

unlike_none : (p : Pair) (ps : List Pair) (x y : ℕ) → joins p x y ≡ true → AllByRecursion (Unlike p) ps → find ps x y ≡ None
unlike_none p [] x y t u = refl
unlike_none p (q ∷ ps) x y t u =
    let a = joins_keys p x y t in
    elim (cases_Bool (joins q x y)) [
      | inl j ↦
          let b = joins_keys q x y j in
          absurd (both_ways _ u.0 (keys_join p q.launch q.capture (a.0 ∙ sym b.0) (a.1 ∙ sym b.1)))
      | inr f ↦ cond-false (joins q x y) _ _ f ∙ unlike_none p ps x y t u.1
    ]

-- what is then found: a pair of the list, else what the book had
plus_at : (b : Book) (ps : List Pair) (x y : ℕ) → Distinct ps → (plus b ps).at x y ≡ option_or (find ps x y) (b.at x y)
plus_at b [] x y d = refl
plus_at b (p ∷ ps) x y d =
    plus_at (added b p) ps x y d.1
    ∙ elim (cases_Bool (joins p x y)) [ inl t ↦ rw (t, unlike_none p ps x y t d.0) | inr f ↦ rw f ]

plus_pins : (b : Book) (ps : List Pair) → (plus b ps).pins ≡ b.pins
plus_pins b [] = refl
plus_pins b (p ∷ ps) = plus_pins (added b p) ps

plus_ceiling : (b : Book) (ps : List Pair) → (plus b ps).ceiling ≡ b.ceiling
plus_ceiling b [] = refl
plus_ceiling b (p ∷ ps) = plus_ceiling (added b p) ps

-- an empty session with the pairs of a list is fresh but for them
plus_fresh : (b : Book) (ps : List Pair) → Distinct ps → Lists b ps → plus (fresh b.registers b.places) ps ≡ fresh_with b
plus_fresh b ps d l =
    let e = fresh b.registers b.places in
    let n = plus_count e ps in
    let m = l.as_many in
    same_book _ _ (plus_registers e ps) (plus_places e ps)
    (λ x y. plus_at e ps x y d ∙ or_none (find ps x y) ∙ l.each x y)
    (omega arith) (plus_pins e ps) (plus_ceiling e ps)

none_yet : (n places : ℕ) (ps : List Pair) → AllByRecursion (Absent (fresh n places)) ps
none_yet n places [] = tt
none_yet n places (p ∷ ps) = (refl, none_yet n places ps)

module _ (places : ℕ) (names : List (List ℕ)) (ps : List Pair) where
  loads_all : AllByRecursion (λ name. lawful_name name ≡ true) names → RegisterCount (length names) → AllByRecursion (KeepsLimits (length names)) ps → Distinct ps → length ps ≤ 16384 → length ps ≤ places → loading (fresh (length names) places) (file_bytes names ps) ≡ taken (plus (fresh (length names) places) ps)
  loads_all lawful within limits d few room =
      let n = length names in
      let read = All-weaker (KeepsLimits n) ReadsBack (reads_back n within.1) ps limits in
      ap (load_opened (fresh n places)) (opens_as names ps lawful read within.0 within.1)
      ∙ cond-true (eqb n n) _ _ (eq-eqb n n refl)
      ∙ ap (load_entries (fresh n places) n) (all_judged n ps limits)
      ∙ all_taken (fresh n places) n ps limits d (none_yet n places ps) (omega arith) (omega arith)

pub lists_kept : (s : Session) → Lists (book s) (kept s)
lists_kept s = record { as_many = kept_count s; each = λ x y. refl }

pub loads_kept : (s : Session) → LoadsBack (book s) (kept s)
loads_kept s names e lawful =
    let ps = kept s in
    let r = s.registers in
    let places = (book s).places in
    let d = distinct s.used (vec_items s.pairs) (within_places s) s.apart in
    let l = kept_count s in
    let f = s.fits in let g = s.few in
    let P : ℕ → Type 0 = λ n. RegisterCount n → AllByRecursion (KeepsLimits n) ps → loading (fresh n places) (file_bytes names ps) ≡ taken (plus (fresh n places) ps) in
    subst P e (λ within limits. loads_all places names ps lawful within limits d (omega arith) (omega arith)) s.registers_within (kept_lawful s)
    ∙ ap taken (plus_fresh (book s) ps d (lists_kept s))
