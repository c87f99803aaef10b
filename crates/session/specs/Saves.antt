-- What a session saves, and what its read-only view means.
use Rattle.std.specs.Prelude.{◌≡◌, ℕ, ◌*◌, ◌<◌, ◌≤◌, true, List, ◌++◌, map, length, drop, Ok, Err, Result}
use Rattle.std.specs.List.{AllByRecursion}
use Rattle.timing.specs.Meaning.{Meaning, pair}
use Rattle.timing.specs.declared.pair.Pair.{Pair}
use Rattle.timing.specs.declared.refusal.Refusal.{Refusal}
use Rattle.timing.specs.declared.refusal.Refusal.TheVariants.{MemoryTooShort}
use Rattle.delay_file.specs.Files.{joined, file_bytes}
use Rattle.delay_file.specs.Records.{pair_bytes, lawful_name}
use Rattle.session.specs.Book.{Book, fresh, kept}
use Rattle.session.specs.Loads.{loading, taken}
use Rattle.session.specs.declared.Session.{Session}

-- the bytes that these pairs are saved as: a record of a delay file for each
abbrev pub saved_bytes : List Pair → List ℕ
saved_bytes ps = joined (map pair_bytes ps)

-- Granted, the front of the memory is the records of the pairs and the rest stays; refused with 9 exactly where there are
-- not 32 bytes a pair, all of it stays.
abbrev pub Saved : List Pair → List ℕ → List ℕ → Result ℕ Refusal → Type 0
Saved ps was out (Ok k) = (k ≡ length ps * 32) × (length ps * 32 ≤ length was) × (out ≡ saved_bytes ps ++ drop (length ps * 32) was)
Saved ps was out (Err f) = (f ≡ MemoryTooShort) × (length was < length ps * 32) × (out ≡ was)

-- a session that was just opened, but for the pairs of a book
abbrev pub fresh_with : Book → Book
fresh_with b =
    record {
      registers = b.registers;
      places = b.places;
      at = b.at;
      count = b.count;
      pins = (fresh b.registers b.places).pins;
      ceiling = (fresh b.registers b.places).ceiling;
    }

-- Put behind the records of as many registers, whatever their names, the saved pairs load into an empty session with the
-- same register count and pair memory as the same pairs.
abbrev pub LoadsBack : Book → List Pair → Type 0
LoadsBack b ps =
    (names : List (List ℕ)) → length names ≡ b.registers → AllByRecursion (λ name. lawful_name name ≡ true) names → loading (fresh b.registers b.places) (file_bytes names ps) ≡ taken (fresh_with b)

-- the meaning of a session as a delay source: each pair once, in the order in which save writes them
abbrev pub session_meaning : Session → Meaning
session_meaning s = record { registers = s.registers; entries = map pair (kept s) }
