-- What a refusal to write a file says. Want of memory says nothing of the file.
use Rattle.std.specs.Prelude.{◌≡◌, ℕ, ◌<◌, false, List, length, Some}
use Rattle.std.specs.List.{prefix_len}
use Rattle.timing.specs.Table.{refusal_number}
use Rattle.timing.specs.declared.pair.Pair.{Pair}
use Rattle.delay_file.specs.declared.write_error.WriteError.{WriteError}
use Rattle.delay_file.specs.declared.write_error.WriteError.TheVariants.{Refused, Memory}
use Rattle.delay_file.specs.Records.{lawful_name, refused, fault_seen}
use Rattle.delay_file.specs.Files.{writing, unwritten}

-- of a whole file
abbrev pub Refuses : List (List ℕ) → List Pair → WriteError → Type 0
Refuses names pairs (Refused f) = unwritten (refusal_number f.refusal) f.«record» ≡ writing names pairs
Refuses names pairs Memory = Unit {0}

-- of its names
abbrev pub RefusesNames : List (List ℕ) → WriteError → Type 0
RefusesNames names (Refused f) = (prefix_len lawful_name names < length names) × (fault_seen f ≡ refused 13 (Some (prefix_len lawful_name names)))
RefusesNames names Memory = Unit {0}

-- of one name
abbrev pub RefusesName : ℕ → List ℕ → WriteError → Type 0
RefusesName number name (Refused f) = (lawful_name name ≡ false) × (fault_seen f ≡ refused 13 (Some number))
RefusesName number name Memory = Unit {0}
