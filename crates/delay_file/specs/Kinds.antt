-- The kinds of record, by the byte that each starts with.
use Rattle.std.specs.Prelude.{◌≡◌, ℕ, Result, MatchResult, ◌≢◌}
use Rattle.delay_file.specs.declared.layout.Kind.{Kind}
use Rattle.delay_file.specs.declared.layout.Kind.TheVariants.{Register, Pair, Head, Word}
use Rattle.delay_file.specs.declared.layout.UnknownKind.{UnknownKind}

abbrev pub kind_byte : Kind → ℕ
kind_byte Register = 1
kind_byte Pair = 2
kind_byte Head = 16
kind_byte Word = 17

-- a byte is read as the kind that it stands for, and is handed back where it stands for none
abbrev pub IsKindOf : ℕ → Result Kind UnknownKind → Type 0
IsKindOf byte r = MatchResult r (λ k. byte ≡ kind_byte k) (λ e. (e.0 ≡ byte) × ((k : Kind) → byte ≢ kind_byte k))
