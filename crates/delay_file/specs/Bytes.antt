-- Numbers in bytes, and tests of bytes.
use Rattle.std.specs.Prelude.{ℕ, ◌+◌, ◌*◌, ◌/◌, ◌%◌, Bool, not, ◌&&◌, List, [], ◌∷◌, ℤ, ◌==◌, nat_le, slice_index}
use Rattle.std.specs.Int.{w32, cast_signed, cast_unsigned}
-- whether every byte passes a test
pub use Rattle.std.specs.List.{list_all as every}

-- the number in the four bytes from byte i on, the most significant first
abbrev pub be32 : List ℕ → ℕ → ℕ
be32 xs i = slice_index xs i * 16777216 + slice_index xs (i + 1) * 65536 + slice_index xs (i + 2) * 256 + slice_index xs (i + 3)

-- the signed number in these four bytes, in two's complement
abbrev pub be_z : List ℕ → ℕ → ℤ
be_z xs i = cast_signed w32 (be32 xs i)

-- the number in the eight bytes from byte i on
abbrev pub be64 : List ℕ → ℕ → ℕ
be64 xs i = be32 xs i * 4294967296 + be32 xs (i + 4)

-- the four bytes of a number, and of a signed one
abbrev pub bytes_of : ℕ → List ℕ
bytes_of n = (n / 16777216 % 256) ∷ ((n / 65536 % 256) ∷ ((n / 256 % 256) ∷ ((n % 256) ∷ [])))

abbrev pub bytes_of_z : ℤ → List ℕ
bytes_of_z z = bytes_of (cast_unsigned w32 z)

abbrev pub is_zero : ℕ → Bool
is_zero x = x == 0

abbrev pub not_zero : ℕ → Bool
not_zero x = not (x == 0)

-- a byte that a name may have: 33 to 126
abbrev pub graphic : ℕ → Bool
graphic x = nat_le 33 x && nat_le x 126
