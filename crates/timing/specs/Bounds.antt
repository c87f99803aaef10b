-- The limits of the subject's numbers. Times are whole picoseconds.
use Rattle.std.specs.Prelude.{ℕ, ◌≤◌, Bool, ◌&&◌, ℤ, pos, negsuc, int_le}

-- a register count: 1 to 4,096
abbrev pub RegisterCount : ℕ → Type 0
RegisterCount n = (1 ≤ n) × (n ≤ 4096)

-- a clock period: 1 to 4,096,000,000
abbrev pub Period : ℕ → Type 0
Period T = (1 ≤ T) × (T ≤ 4096000000)

-- an offset, and the ceiling of offsets: 0 to 1,000,000
abbrev pub Offset : ℕ → Type 0
Offset s = s ≤ 1000000

-- the least and the greatest delay: −1,000,000 and 1,000,000 (negsuc k is −(k + 1))
abbrev pub least_delay : ℤ
least_delay = negsuc 999999

abbrev pub greatest_delay : ℤ
greatest_delay = pos 1000000

-- −2,147,483,648, which marks a delay as missing
abbrev pub missing_mark : ℤ
missing_mark = negsuc 2147483647

-- whether a delay is missing: it is the mark
abbrev pub missing : ℤ → Bool
missing z = int_le z missing_mark && int_le missing_mark z
