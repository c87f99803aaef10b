-- The entries of a view: the records behind its registers.
use Rattle.std.proofs.Common.{◌≡◌, ℕ, ◌+◌, ◌-◌, ◌*◌, ◌<◌, ◌≤◌, Bool, true, false, ltb, List, [], ◌∷◌, length, None, Some, Option, Ok, Err, Result, sym, refl, ap, ◌∙◌, arith}
use Rattle.std.specs.Prelude.{MatchBool, min}
use Rattle.std.specs.Result.{result_ok}
use Rattle.std.specs.List.{range_with_len, AllByRecursion}
use Rattle.std.proofs.lemmas.List.FromFn.{length-map-range_with_len, get_or-map-range_with_len}
use Rattle.std.proofs.lemmas.List.{get_or_past}
use Rattle.std.proofs.ByRecursion.{All-get_or, All-map}
use Rattle.std.proofs.lemmas.Bool.{cond_both, lt-ltb, le-ltb, ltb-true, ltb-false}
use Rattle.timing.proofs.Judging.{lawful_judged}
use Rattle.timing.specs.Meaning.{Entry, pair, faulty, LawfulEntry, LawfulMeaning, entry_at}
use Rattle.delay_file.specs.declared.view.FileView.{FileView}
use Rattle.delay_file.specs.Records.{Reading, register, delay, refused, reading, name_of, seen}
use Rattle.delay_file.specs.declared.fault.Fault.{Fault}
use Rattle.delay_file.specs.declared.reading.Record.{Record}
use Rattle.delay_file.specs.Bytes.{be32}
use Rattle.delay_file.specs.Files.{JoinsAt, record_count, record_at, entry_of, located, entry_answer, view_registers, view_meaning}
use Rattle.delay_file.proofs.Parts.{number_there}
use Rattle.delay_file.proofs.Shapes.{refused_here}

-- a refused record is refused as an entry, with the same number
pub passed_on : (n k a : ℕ) (r : Option ℕ) (xs : List ℕ) → refused a r ≡ reading k xs → refused a r ≡ located k (entry_of n (reading k xs))
passed_on n k a r xs e = ap (refused a) (refused_here k a r xs e) ∙ ap (λ x. located k (entry_of n x)) e

-- the entry that record k is among n registers
abbrev entry_in : FileView → ℕ → ℕ → Entry
entry_in v n k = entry_of n (reading k (record_at v.bytes.now k))

pub entry_count_is : (v : FileView) → length (view_meaning v).entries ≡ record_count v.bytes.now - view_registers v
entry_count_is v = length-map-range_with_len (entry_in v (view_registers v)) (view_registers v) (record_count v.bytes.now - view_registers v)

pub entry_at_is : (v : FileView) (place : ℕ) → place < record_count v.bytes.now - view_registers v → entry_at (view_meaning v) place ≡ entry_in v (view_registers v) (view_registers v + place)
entry_at_is v place h =
    get_or-map-range_with_len (entry_in v (view_registers v)) (view_registers v) (record_count v.bytes.now - view_registers v) place (view_registers v + place) (faulty 5) h refl

pub answer_past : (v : FileView) (place : ℕ) → record_count v.bytes.now - view_registers v ≤ place → entry_answer v place ≡ refused 5 None
answer_past v place h = let l = entry_count_is v in rw (le-ltb place (length (view_meaning v).entries) (omega arith))

pub answer_there : (v : FileView) (place : ℕ) → place < record_count v.bytes.now - view_registers v → entry_answer v place ≡ located (view_registers v + place) (entry_in v (view_registers v) (view_registers v + place))
answer_there v place h =
    let l = entry_count_is v in
    rw (lt-ltb place (length (view_meaning v).entries) (omega arith)) (ap (located (view_registers v + place)) (entry_at_is v place h))

-- every entry is lawful or faulty
lawful_entry_of : (n : ℕ) (x : Reading) → LawfulEntry n (entry_of n x)
lawful_entry_of n (register number name) = tt
lawful_entry_of n (delay p) = lawful_judged n p
lawful_entry_of n (refused number at) = tt

all_lawful : (n : ℕ) (f : ℕ → Reading) (ks : List ℕ) → AllByRecursion (λ k. LawfulEntry n (entry_of n (f k))) ks
all_lawful n f [] = tt
all_lawful n f (k ∷ ks) = (lawful_entry_of n (f k), all_lawful n f ks)

pub lawful_view : (v : FileView) → LawfulMeaning (view_meaning v)
lawful_view v =
    let n = view_registers v in
    let ks = range_with_len n (record_count v.bytes.now - n) in
    record {
      count = v.registers_within;
      each = All-map (LawfulEntry n) (entry_in v n) ks (all_lawful n (λ k. reading k (record_at v.bytes.now k)) ks);
    }

-- an answer without its record
abbrev pub bare : Reading → Entry
bare (register number name) = faulty 13
bare (delay p) = pair p
bare (refused number at) = faulty number

bare_located : (k : ℕ) (e : Entry) → bare (located k e) ≡ e
bare_located k (pair p) = refl
bare_located k (faulty number) = refl

bare_answer : (v : FileView) (place : ℕ) → bare (entry_answer v place) ≡ entry_at (view_meaning v) place
bare_answer v place =
    let m = view_meaning v in
    cond_both (ltb place (length m.entries)) (located (view_registers v + place) (entry_at m place)) (refused 5 None) (λ x. bare x ≡ entry_at m place)
    (λ _. bare_located (view_registers v + place) (entry_at m place))
    (λ e. sym (get_or_past m.entries place (faulty 5) (ltb-false _ _ e)))

-- what the source answers, from what the view answers
pub answered_entry : (v : FileView) (place : ℕ) (e : Entry) (x : Reading) → bare x ≡ e → x ≡ entry_answer v place → e ≡ entry_at (view_meaning v) place
answered_entry v place e x b q = sym b ∙ ap bare q ∙ bare_answer v place

lawful_there : (v : FileView) (place : ℕ) (b : Bool) → ltb place (length (view_meaning v).entries) ≡ b → LawfulEntry (view_registers v) (entry_at (view_meaning v) place)
lawful_there v place true e =
    All-get_or (LawfulEntry (view_registers v)) (view_meaning v).entries place (faulty 5) (ltb-true _ _ e) (lawful_view v).each
lawful_there v place false e = rw (get_or_past (view_meaning v).entries place (faulty 5) (ltb-false _ _ e)) tt

pub lawful_answer : (v : FileView) (place : ℕ) (e : Entry) → e ≡ entry_at (view_meaning v) place → LawfulEntry (view_registers v) e
lawful_answer v place e q = rw q (lawful_there v place (ltb place (length (view_meaning v).entries)) refl)

-- the fields of the entry at a place, read from the whole file
pub field_there : (v : FileView) (n place i x : ℕ) → n ≡ view_registers v → i + 4 ≤ 32 → x ≡ be32 v.bytes.now ((n + place) * 32 + i) → x ≡ be32 (record_at v.bytes.now (view_registers v + place)) i
field_there v n place i x e h q =
    q ∙ number_there v.bytes.now (n + place) i h ∙ ap (λ m. be32 (record_at v.bytes.now (m + place)) i) e

-- whether an entry before a place joins two registers, from the places before it at which there is an entry
pub joined_before : (v : FileView) (place n a b : ℕ) (r : Bool) → n ≡ min place (record_count v.bytes.now - view_registers v) → MatchBool r ((k : ℕ) × (k < n) × JoinsAt v k a b) ((k : ℕ) → k < n → JoinsAt v k a b → ⊥) → MatchBool r ((k : ℕ) × (k < place) × JoinsAt v k a b) ((k : ℕ) → k < place → JoinsAt v k a b → ⊥)
joined_before v place n a b true e h = (h.0, omega (arith, h.1), h.2)
joined_before v place n a b false e h = λ k l j. h k (omega (arith, j.there)) j

-- what a record that does not read names
pub nameless : (r : Result Record Fault) → result_ok r ≡ None → None ≡ name_of (seen r)
nameless (Ok x) e = absurd (grind arith)
nameless (Err f) e = refl

-- the name of a record that reads
pub named : (r : Result Record Fault) (x : Record) → result_ok r ≡ Some x → name_of (seen (Ok x)) ≡ name_of (seen r)
named (Ok y) x e = let q : y ≡ x = cc in ap (λ z. name_of (seen (Ok z))) (sym q)
named (Err f) x e = absurd (grind arith)
