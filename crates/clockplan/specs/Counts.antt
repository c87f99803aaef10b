-- How many entries of a source are faulty or broken, and how many registers are late.
use Rattle.std.specs.Prelude.{ℕ, Bool, false, List, ℤ, pos, count_by, int_lt, nat_eq}
use Rattle.timing.specs.Delays.{slack}
use Rattle.timing.specs.Meaning.{Entry, pair, faulty, is_faulty}

abbrev pub faulty_count : List Entry → ℕ
faulty_count es = count_by is_faulty es

-- a pair whose slack is below 0 at a period and clock times; an entry that cannot be read has no limits
abbrev pub is_broken : ℕ → (ℕ → ℤ) → Entry → Bool
is_broken T time (pair p) = int_lt (slack p T (time p.launch) (time p.capture)) (pos 0)
is_broken T time (faulty number) = false

abbrev pub broken_count : ℕ → (ℕ → ℤ) → List Entry → ℕ
broken_count T time es = count_by (is_broken T time) es

-- how many bytes of domain memory are those of a late register
abbrev pub late_count : List ℕ → ℕ
late_count ds = count_by (λ b. nat_eq b 1) ds
