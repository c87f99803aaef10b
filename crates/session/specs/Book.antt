-- The session book: what a session is to its users. It says what every edit must answer and what is then in force; the
-- order in which pairs are kept is no part of it.
use Rattle.std.specs.Prelude.{◌≡◌, ℕ, ◌+◌, ◌-◌, Bool, if◌then◌else◌, not, ◌&&◌, ◌||◌, List, [], length, take, drop, replicate, is_some, Some, None, Ok, Err, vec_items, vec_len, Option, Result, ◌==◌, nat_le, slice_set}
use Rattle.timing.specs.Meaning.{Entry, pair, faulty, judged}
use Rattle.timing.specs.Outcomes.{Outcome, granted, refused, told, unless, offset_within}
use Rattle.timing.specs.Domains.{domain_byte}
use Rattle.timing.specs.declared.domain.Domain.{Domain}
use Rattle.timing.specs.declared.pair.Pair.{Pair}
use Rattle.timing.specs.declared.refusal.Refusal.{Refusal}
use Rattle.session.specs.Pairs.{joins, find}
use Rattle.session.specs.declared.Session.{Session}

-- The register count, the number of places in pair memory, the pair between any two registers, how many pairs there are,
-- a pin byte for each register (0 early, 1 late, 2 free), and the ceiling.
pub record Book : Type 0 where
  pub registers : ℕ
  pub places : ℕ
  pub at : ℕ → ℕ → Option Pair
  pub count : ℕ
  pub pins : List ℕ
  pub ceiling : ℕ

-- opening wants 1 to 4,096 registers (1) and a byte of pin memory for each (9)
abbrev pub open_answer : ℕ → ℕ → Outcome (Unit {0})
open_answer n pin_bytes = unless (nat_le 1 n && nat_le n 4096) 1 (unless (nat_le n pin_bytes) 9 (granted tt))

-- a session that was just opened: no pair, no pin, and a ceiling of 1,000,000
abbrev pub fresh : ℕ → ℕ → Book
fresh n places = record { registers = n; places = places; at = λ _ _. None; count = 0; pins = replicate n 2; ceiling = 1000000 }

-- whether a pair from a to b is there
abbrev pub has : Book → ℕ → ℕ → Bool
has b x y = is_some (b.at x y)

-- no more pairs can be kept: there are 16,384, or each place is taken
abbrev pub full : Book → Bool
full b = nat_le 16384 b.count || nat_le b.places b.count

-- a pair as given is refused with its own number (2, 14 or 3), else the rest decides
abbrev pub unless_judged : {A : Type 0} → Entry → Outcome A → Outcome A
unless_judged (pair p) rest = rest
unless_judged (faulty number) rest = refused number []

-- both registers are there, else 2
abbrev pub there : Book → ℕ → ℕ → Bool
there b x y = not (nat_le b.registers x || nat_le b.registers y)

-- add: 2, 14, 3, 4, 6
abbrev pub add_answer : Book → Pair → Outcome (Unit {0})
add_answer b p =
    unless_judged (judged b.registers p) (unless (not (has b p.launch p.capture)) 4 (unless (not (full b)) 6 (granted tt)))

abbrev pub added : Book → Pair → Book
added b p =
    record {
      registers = b.registers;
      places = b.places;
      at = λ x y. if joins p x y then Some p else b.at x y;
      count = b.count + 1;
      pins = b.pins;
      ceiling = b.ceiling;
    }

-- retime: 2, 14, 3, 5
abbrev pub retime_answer : Book → Pair → Outcome (Unit {0})
retime_answer b p = unless_judged (judged b.registers p) (unless (has b p.launch p.capture) 5 (granted tt))

abbrev pub retimed : Book → Pair → Book
retimed b p =
    record {
      registers = b.registers;
      places = b.places;
      at = λ x y. if joins p x y then Some p else b.at x y;
      count = b.count;
      pins = b.pins;
      ceiling = b.ceiling;
    }

-- drop: 2, 5
abbrev pub drop_answer : Book → ℕ → ℕ → Outcome (Unit {0})
drop_answer b x y = unless (there b x y) 2 (unless (has b x y) 5 (granted tt))

abbrev pub dropped : Book → ℕ → ℕ → Book
dropped b x y =
    record {
      registers = b.registers;
      places = b.places;
      at = λ v w. if v == x && w == y then None else b.at v w;
      count = b.count - 1;
      pins = b.pins;
      ceiling = b.ceiling;
    }

-- the pin byte of a register that is pinned to a domain, or left free
abbrev pub pin_byte : Option Domain → ℕ
pin_byte (Some d) = domain_byte d
pin_byte None = 2

-- pin and unpin: 2
abbrev pub pin_answer : Book → ℕ → Outcome (Unit {0})
pin_answer b r = unless (not (nat_le b.registers r)) 2 (granted tt)

-- a register with another pin byte: a domain's, or 2, which leaves it free
abbrev pub pinned : Book → ℕ → ℕ → Book
pinned b r byte =
    record { registers = b.registers; places = b.places; at = b.at; count = b.count; pins = slice_set b.pins r byte; ceiling = b.ceiling }

-- ceiling: 7
abbrev pub ceiling_answer : ℕ → Outcome (Unit {0})
ceiling_answer c = unless (offset_within c) 7 (granted tt)

abbrev pub ceiled : Book → ℕ → Book
ceiled b c = record { registers = b.registers; places = b.places; at = b.at; count = b.count; pins = b.pins; ceiling = c }

-- an edit that was refused leaves the book as it was
abbrev pub after : Outcome (Unit {0}) → Book → Book → Book
after (granted t) old new = new
after (refused number values) old new = old

-- the pairs that a session keeps, by place
abbrev pub kept : Session → List Pair
kept s = take s.used (vec_items s.pairs)

-- the book of a session
abbrev pub book : Session → Book
book s =
    record {
      registers = s.registers;
      places = vec_len s.pairs;
      at = find (kept s);
      count = s.used;
      pins = take s.registers (vec_items s.pins);
      ceiling = s.ceiling;
    }

-- an edit leaves this book in force where it was granted, and else what was
abbrev pub Leaves : Session → Session → Result (Unit {0}) Refusal → Book → Type 0
Leaves was is r next = book is ≡ after (told r) (book was) next

-- A refused edit leaves the session whole, all of its memory included; a granted one never writes past the pins of the
-- registers.
abbrev pub Stays : {E : Type 0} → Session → Session → Result (Unit {0}) E → Type 0
Stays was is (Ok t) = drop was.registers (vec_items is.pins) ≡ drop was.registers (vec_items was.pins)
Stays was is (Err f) = is ≡ was

-- a list of the kept pairs, each once, in any order
pub record Lists (b : Book) (ps : List Pair) : Type 0 where
  pub as_many : length ps ≡ b.count
  pub each : (x y : ℕ) → find ps x y ≡ b.at x y
