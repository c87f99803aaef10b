-- The words of a circuit's text.
use Rattle.std.specs.Prelude.{◌≡◌, ℕ, false, List, ℤ, Some, None, codes, Option, FitsSigned, ◌≢◌}
use Rattle.std.specs.Int.{w32}
use Rattle.std.specs.Str.Parse.{IsNumeral, without_leading_sign, signed_digits_value}
use Rattle.timing.specs.Bounds.{missing, missing_mark}

-- a word that writes a number of 32 bits in decimal, with or without a sign, other than the mark of a missing delay
abbrev pub NumberWord : List ℕ → Type 0
NumberWord word = IsNumeral 10 (without_leading_sign word) × FitsSigned w32 (signed_digits_value 10 word) × (missing (signed_digits_value 10 word) ≡ false)

-- What is read of a word as a delay: the mark of a missing delay for `-` and for nothing else, the number for a word
-- that writes one, and nothing for any other word.
pub record DelayRead (word : List ℕ) (r : Option ℤ) : Type 0 where
  pub dash : word ≡ codes "-" → r ≡ Some missing_mark
  pub number : (word ≢ codes "-") → NumberWord word → r ≡ Some (signed_digits_value 10 word)
  pub nothing : (word ≢ codes "-") → (NumberWord word → ⊥) → r ≡ None
