-- What a load finds on its way through a file: the order of the pairs so far, and what each entry comes to.
use Rattle.std.specs.Prelude.{◌≡◌, ℕ, ◌+◌, ◌-◌, ◌<◌, ◌⊎◌, List, ◌∷◌, take, Ok, Err, Result, slice_index_or}
use Rattle.timing.specs.Meaning.{Entry, pair, entry_at}
use Rattle.timing.specs.Outcomes.{Outcome, granted}
use Rattle.timing.specs.Table.{refusal_number}
use Rattle.timing.specs.declared.pair.Pair.{Pair}
use Rattle.delay_file.specs.Files.{view_meaning, view_registers}
use Rattle.delay_file.specs.declared.fault.Fault.{Fault}
use Rattle.delay_file.specs.declared.view.FileView.{FileView}
use Rattle.session.specs.Book.{Book, add_answer}
use Rattle.session.specs.Loads.{Loading, by_add, given_pairs, load_entries, plus, taken, stopped}
use Rattle.session.specs.Pairs.{Before, Rises}
use Rattle.session.specs.declared.order.Order.{Order}
use Rattle.session.specs.declared.order.Order.TheVariants.{Nothing, RisesTo, Mixed}

-- what is known of the first i pairs of a list: there are none; they rise and end with this one; or nothing
abbrev pub KnownOrder : List Pair → ℕ → Order → Type 0
KnownOrder ps i Nothing = i ≡ 0
KnownOrder ps i (RisesTo p) = (0 < i) × ((d : Pair) → p ≡ slice_index_or ps (i - 1) d) × Rises i ps
KnownOrder ps i Mixed = Unit {0}

-- the order with one pair more
abbrev pub OrderedWith : Order → Pair → Order → Type 0
OrderedWith Nothing p r = r ≡ RisesTo p
OrderedWith (RisesTo q) p r = ((r ≡ RisesTo p) × Before q p) ⊎ (r ≡ Mixed)
OrderedWith Mixed p r = r ≡ Mixed

-- the book with the first i pairs of a file put in
abbrev pub with_first : Book → FileView → ℕ → Book
with_first b v i = plus b (take i (given_pairs v))

-- What is found of the pair in record k, where add would answer so: add takes it; or loading stops here.
abbrev pub Takes : ℕ → Outcome (Unit {0}) → Result (Unit {0}) Fault → Type 0
Takes k answer (Ok t) = granted tt ≡ answer
Takes k answer (Err f) = (rest : Loading) → by_add k answer rest ≡ stopped (refusal_number f.refusal) f.«record»

-- What the code finds of the entry at a place, the ones before it put in: add would take its pair; or loading stops here.
abbrev pub Admitted : Book → FileView → ℕ → Result Order Fault → Type 0
Admitted b v i (Ok o) =
    (p : Pair) × (entry_at (view_meaning v) i ≡ pair p) × ((d : Pair) → p ≡ slice_index_or (given_pairs v) i d) × (granted tt ≡ add_answer (with_first b v i) p) × KnownOrder (given_pairs v) (i + 1) o
Admitted b v i (Err f) =
    (rest : List Entry) → load_entries (with_first b v i) (view_registers v + i) (entry_at (view_meaning v) i ∷ rest) ≡ stopped (refusal_number f.refusal) f.«record»

-- and of all of them
abbrev pub AllAdmitted : Book → FileView → Result (Unit {0}) Fault → Type 0
AllAdmitted b v (Ok t) = (c : Book) × (load_entries b (view_registers v) (view_meaning v).entries ≡ taken c)
AllAdmitted b v (Err f) = load_entries b (view_registers v) (view_meaning v).entries ≡ stopped (refusal_number f.refusal) f.«record»
