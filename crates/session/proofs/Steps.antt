-- The steps of a load, entry by entry.
use Rattle.std.proofs.Common.{◌≡◌, ℕ, ◌+◌, ◌-◌, ◌<◌, Bool, true, false, cond, ◌&&◌, eqb, List, ◌∷◌, length, get_or, take, drop, Some, Option, Ok, Err, Result, sym, refl, ap, ◌∙◌, subst, ap₂, inl, inr, arith}
use Rattle.std.specs.Result.{IsOk}
use Rattle.std.proofs.lemmas.List.{take_more}
use Rattle.timing.proofs.Judging.{judged_same}
use Rattle.timing.proofs.Places.{step_entry}
use Rattle.timing.specs.Meaning.{Entry, pair, faulty, entry_at, judged}
use Rattle.timing.specs.Outcomes.{Outcome, granted, refused}
use Rattle.timing.specs.declared.pair.Pair.{Pair}
use Rattle.delay_file.proofs.Entries.{answered_entry, answer_there, entry_at_is, entry_count_is}
use Rattle.delay_file.specs.Bytes.{every, is_zero}
use Rattle.delay_file.specs.Files.{entry_answer, entry_of, located, record_at, record_count, view_meaning, view_registers}
use Rattle.delay_file.specs.Records as records
use Rattle.delay_file.specs.Records.{Reading, reading, starts, lawful_field, name_in, pair_fields}
use Rattle.delay_file.specs.declared.fault.Fault.{Fault}
use Rattle.delay_file.specs.declared.view.FileView.{FileView}
use Rattle.session.specs.Book.{Book, add_answer, added}
use Rattle.session.specs.Loads.{Loading, taken, stopped, by_add, given_pairs, load_entries, plus}
use Rattle.session.specs.Orders.{KnownOrder, OrderedWith, with_first}
use Rattle.session.specs.Pairs.{Before}
use Rattle.session.specs.declared.order.Order.{Order}
use Rattle.session.specs.declared.order.Order.TheVariants.{Nothing, RisesTo, Mixed}
use Rattle.session.proofs.Look.{rises_more}
use Rattle.session.proofs.Turns.{given_length, given_at, plus_push}

-- an entry that is a pair is the pair in its record's fields
read_by : (n k m : ℕ) (name : List ℕ) (p q : Pair) (a b c : Bool) → entry_of n (cond a (cond b (records.register m name) (cond c (records.delay q) (records.refused 13 (Some k)))) (records.refused 12 (Some k))) ≡ pair p → judged n q ≡ pair p
read_by n k m name p q true true c e = absurd (let z : ◌≡◌ {A = ℕ} 0 1 = cc in omega arith)
read_by n k m name p q true false true e = e
read_by n k m name p q true false false e = absurd (let z : ◌≡◌ {A = ℕ} 0 1 = cc in omega arith)
read_by n k m name p q false b c e = absurd (let z : ◌≡◌ {A = ℕ} 0 1 = cc in omega arith)

only_here : (k : ℕ) (e : Entry) (number : ℕ) (at : Option ℕ) → records.refused number at ≡ located k e → at ≡ Some k
only_here k (pair p) number at h = absurd (let z : ◌≡◌ {A = ℕ} 0 1 = cc in omega arith)
only_here k (faulty m) number at h = cc

module _ (v : FileView) (i : ℕ) (within : i < length (given_pairs v)) where
  abbrev bytes_there : List ℕ
  bytes_there = record_at v.bytes.now (view_registers v + i)

  within_entries : i < record_count v.bytes.now - view_registers v
  within_entries = let l = given_length v in omega arith

  entry_fields : (p : Pair) → entry_at (view_meaning v) i ≡ pair p → judged (view_registers v) (pair_fields bytes_there) ≡ pair p
  entry_fields p e =
      let xs = bytes_there in
      read_by (view_registers v) (view_registers v + i) _ (name_in (drop 8 xs)) p (pair_fields xs) (eqb (length xs) 32) (starts 1 xs && lawful_field (drop 8 xs)) (starts 2 xs && every is_zero (drop 20 xs)) (sym (entry_at_is v i within_entries) ∙ e)

  pub entry_given : (p : Pair) → entry_at (view_meaning v) i ≡ pair p → (d : Pair) → p ≡ get_or (given_pairs v) i d
  entry_given p e d = judged_same (view_registers v) (pair_fields bytes_there) p (entry_fields p e) ∙ sym (given_at v i d within)

  pub entry_lawful : (p : Pair) → entry_at (view_meaning v) i ≡ pair p → judged (view_registers v) p ≡ pair p
  entry_lawful p e = let f = entry_fields p e in ap (judged (view_registers v)) (judged_same (view_registers v) (pair_fields bytes_there) p f) ∙ f

  -- what the view answered
  pub entry_read : (p : Pair) → records.delay p ≡ entry_answer v i → entry_at (view_meaning v) i ≡ pair p
  entry_read p e = sym (answered_entry v i (pair p) (records.delay p) refl e)

  pub entry_refused : (number : ℕ) (at : Option ℕ) (b : Book) (rest : List Entry) → records.refused number at ≡ entry_answer v i → load_entries b (view_registers v + i) (entry_at (view_meaning v) i ∷ rest) ≡ stopped number at
  entry_refused number at b rest e =
      let f : entry_at (view_meaning v) i ≡ faulty number = sym (answered_entry v i (faulty number) (records.refused number at) refl e) in
      let r : at ≡ Some (view_registers v + i) = only_here (view_registers v + i) (entry_of (view_registers v) (reading (view_registers v + i) bytes_there)) number at (e ∙ answer_there v i within_entries) in
      ap (λ x. load_entries b (view_registers v + i) (x ∷ rest)) f ∙ ap (stopped number) (sym r)

  -- a pair that add would refuse at its turn
  -- the first i pairs and this one
  pub first_more : (b : Book) (p : Pair) → ((d : Pair) → p ≡ get_or (given_pairs v) i d) → added (with_first b v i) p ≡ with_first b v (i + 1)
  first_more b p e =
      ap (added (with_first b v i)) (e p) ∙ sym (plus_push b (take i (given_pairs v)) (get_or (given_pairs v) i p)) ∙ ap (plus b) (sym (take_more (given_pairs v) i p within))

  entries_there : i < length (view_meaning v).entries
  entries_there = let l = entry_count_is v in let w = within_entries in omega arith

  -- one entry more, whose pair add takes
  pub load_on : (b c : Book) (p : Pair) → entry_at (view_meaning v) i ≡ pair p → granted tt ≡ add_answer b p → added b p ≡ c → load_entries b (view_registers v + i) (drop i (view_meaning v).entries) ≡ load_entries c (view_registers v + (i + 1)) (drop (i + 1) (view_meaning v).entries)
  load_on b c p e a f =
      let k : view_registers v + i + 1 ≡ view_registers v + (i + 1) = omega arith in
      step_entry (load_entries b (view_registers v + i)) (view_meaning v) i (pair p) entries_there (sym e)
      ∙ ap (λ o. by_add (view_registers v + i) o (load_entries (added b p) (view_registers v + i + 1) (drop (i + 1) (view_meaning v).entries))) (sym a)
      ∙ ap₂ (λ x j. load_entries x j (drop (i + 1) (view_meaning v).entries)) f k

  pub load_stop : (b : Book) (l : Loading) → ((rest : List Entry) → load_entries b (view_registers v + i) (entry_at (view_meaning v) i ∷ rest) ≡ l) → load_entries b (view_registers v + i) (drop i (view_meaning v).entries) ≡ l
  load_stop b l f = step_entry (load_entries b (view_registers v + i)) (view_meaning v) i (entry_at (view_meaning v) i) entries_there refl ∙ f (drop (i + 1) (view_meaning v).entries)

-- a place below the entry count
pub given_there : (v : FileView) (i n : ℕ) → i < n → n ≡ length (view_meaning v).entries → i < length (given_pairs v)
given_there v i n h e = omega (arith, given_length v, entry_count_is v)

taken_by : (o : Outcome (Unit {0})) (k : ℕ) (rest : Loading) (c : Book) → by_add k o rest ≡ taken c → granted tt ≡ o
taken_by (granted t) k rest c e = refl
taken_by (refused number values) k rest c e = absurd (let z : ◌≡◌ {A = ℕ} 0 1 = cc in omega arith)

-- in a load that goes through, add takes each pair
pub each_taken : (b c : Book) (p : Pair) (k : ℕ) (rest : List Entry) → load_entries b k (pair p ∷ rest) ≡ taken c → granted tt ≡ add_answer b p
each_taken b c p k rest e = taken_by (add_answer b p) k (load_entries (added b p) (k + 1) rest) c e

-- the order with one pair more
pub order_more : (ps : List Pair) (i : ℕ) (p : Pair) (o r : Order) → i < length ps → ((d : Pair) → p ≡ get_or ps i d) → KnownOrder ps i o → OrderedWith o p r → KnownOrder ps (i + 1) r
order_more ps i p Nothing r h is k w =
    rw w (omega arith, λ d. is d ∙ ap (λ j. get_or ps j d) (omega arith), λ j d l. absurd (omega arith))
order_more ps i p (RisesTo q) r h is k (inl w) =
    rw w.0 (omega arith, λ d. is d ∙ ap (λ j. get_or ps j d) (omega arith), rises_more ps i p h k.2 (λ _. subst (λ x. Before x (get_or ps i p)) (k.1 p) (subst (Before q) (is p) w.1)))
order_more ps i p (RisesTo q) r h is k (inr w) = rw w tt
order_more ps i p Mixed r h is k w = rw w tt

-- In a load that goes through, the entry at a place is a pair, and add takes it.
module _ (v : FileView) (i : ℕ) (within : i < length (given_pairs v)) (b c : Book) (goes : load_entries b (view_registers v + i) (drop i (view_meaning v).entries) ≡ taken c) where
  pub takes_next : (p : Pair) → entry_at (view_meaning v) i ≡ pair p → granted tt ≡ add_answer b p
  takes_next p e =
      each_taken b c p (view_registers v + i) (drop (i + 1) (view_meaning v).entries) (sym (step_entry (load_entries b (view_registers v + i)) (view_meaning v) i (pair p) (entries_there v i within) (sym e)) ∙ goes)

  pub never_faulty : (number : ℕ) (at : Option ℕ) → records.refused number at ≡ entry_answer v i → ⊥
  never_faulty number at e =
      let s : stopped number at ≡ taken c = sym (load_stop v i within b (stopped number at) (λ rest. entry_refused v i within number at b rest e)) ∙ goes in
      let z : ◌≡◌ {A = ℕ} 0 1 = cc in
      omega arith

  pub reads_pair : (r : Result Pair Fault) → records.seen_pair r ≡ entry_answer v i → IsOk r
  reads_pair (Ok p) e = refl
  reads_pair (Err f) e = absurd (never_faulty _ _ e)
