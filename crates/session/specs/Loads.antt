-- Loading a delay file into a session: every pair in the file's order, or none.
use Rattle.std.specs.Prelude.{ℕ, ◌+◌, ◌-◌, if◌then◌else◌, List, [], ◌∷◌, map, Some, None, Ok, Err, Option, Result, ◌==◌}
use Rattle.timing.specs.Meaning.{Entry, pair, faulty}
use Rattle.timing.specs.Outcomes.{Outcome, granted, refused}
use Rattle.timing.specs.Table.{refusal_number}
use Rattle.timing.specs.declared.pair.Pair.{Pair}
use Rattle.std.specs.List.{range_with_len}
use Rattle.delay_file.specs.Files.{Opening, opened, closed, opening, record_at, record_count, view_registers}
use Rattle.delay_file.specs.Records.{pair_fields}
use Rattle.delay_file.specs.declared.fault.Fault.{Fault}
use Rattle.delay_file.specs.declared.view.FileView.{FileView}
use Rattle.session.specs.Book.{Book, add_answer, added}

-- what loading comes to: a book with all pairs of the file, or a refusal's number with the record at fault, if one is
pub data Loading : Type 0 where
  taken : Book → Loading
  stopped : ℕ → Option ℕ → Loading

-- one pair, which stands in record k, as add would answer it
abbrev pub by_add : ℕ → Outcome (Unit {0}) → Loading → Loading
by_add k (granted t) rest = rest
by_add k (refused number values) rest = stopped number (Some k)

-- the entries from record k on, put in one after another
abbrev pub load_entries : Book → ℕ → List Entry → Loading
load_entries b k [] = taken b
load_entries b k (faulty number ∷ es) = stopped number (Some k)
load_entries b k (pair p ∷ es) = by_add k (add_answer b p) (load_entries (added b p) (k + 1) es)

-- a file with the session's register count, else 1; its entries stand behind its registers
abbrev pub load_opened : Book → Opening → Loading
load_opened b (opened m) = if m.registers == b.registers then load_entries b m.registers m.entries else stopped 1 None
load_opened b (closed number at) = stopped number at

-- the file's opening, then its register count, then its pairs
abbrev pub loading : Book → List ℕ → Loading
loading b file = load_opened b (opening file)

-- a load that stopped leaves the book as it was
abbrev pub book_after : Loading → Book → Book
book_after (taken b) old = b
book_after (stopped number at) old = old

-- an answer of the code, with the book that is then in force
abbrev pub loaded_as : Result (Unit {0}) Fault → Book → Loading
loaded_as (Ok t) b = taken b
loaded_as (Err f) b = stopped (refusal_number f.refusal) f.«record»

-- the book with these pairs put in, one after another
abbrev pub plus : Book → List Pair → Book
plus b [] = b
plus b (p ∷ ps) = plus (added b p) ps

-- the pairs in the fields of a file's entries, whatever those are worth
abbrev pub given_pairs : FileView → List Pair
given_pairs v =
    map (λ k. pair_fields (record_at v.bytes.now k)) (range_with_len (view_registers v) (record_count v.bytes.now - view_registers v))
