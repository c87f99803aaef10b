-- The records of a plan file: a head, and a word of domains for each 64 registers.
use Rattle.std.specs.Prelude.{ℕ, zero, suc, ◌+◌, ◌*◌, ◌/◌, ◌%◌, ◌^◌, Bool, if◌then◌else◌, ◌&&◌, List, [], ◌∷◌, ◌++◌, map, replicate, ◌==◌, count_ones, nat_lt, slice_index}
use Rattle.std.specs.List.{count_by, range_with_len}
use Rattle.delay_file.specs.Bytes.{bytes_of}
use Rattle.delay_file.specs.Files.{joined}

-- whether register r is one of the n registers and late
abbrev pub late_at : ℕ → List ℕ → ℕ → Bool
late_at n ds r = nat_lt r n && slice_index ds r == 1

abbrev pub bit : Bool → ℕ
bit b = if b then 1 else 0

-- the number whose bit i, 0 the least, is f i, for each i below k
unfoldable pub packed : (ℕ → Bool) → ℕ → ℕ
packed f zero = 0
packed f (suc k) = packed f k + bit (f k) * 2 ^ k

-- how many of f 0 to f (k - 1) hold
abbrev pub count : (ℕ → Bool) → ℕ → ℕ
count f k = count_by f (range_with_len 0 k)

-- the word of the 64 registers from `first` on: bit i is set where register first + i is late
abbrev pub domain_word : ℕ → List ℕ → ℕ → ℕ
domain_word n ds first = packed (λ i. late_at n ds (first + i)) 64

-- how many late registers there are
abbrev pub late_number : ℕ → List ℕ → ℕ
late_number n ds = count (late_at n ds) n

-- how many words n registers take
abbrev pub word_count : ℕ → ℕ
word_count n = (n + 63) / 64

-- the eight bytes of a word, the most significant first
abbrev pub word_bytes : ℕ → List ℕ
word_bytes w =
    (w / 72057594037927936 % 256) ∷ ((w / 281474976710656 % 256) ∷ ((w / 1099511627776 % 256) ∷ ((w / 4294967296 % 256)
    ∷ ((w / 16777216 % 256) ∷ ((w / 65536 % 256) ∷ ((w / 256 % 256) ∷ ((w % 256) ∷ [])))))))

-- the head: period, offset, register count and number of late registers
abbrev pub head_record : ℕ → ℕ → ℕ → ℕ → List ℕ
head_record T s n late =
    16 ∷ (0 ∷ (0 ∷ (0 ∷ (bytes_of T ++ (bytes_of s ++ (bytes_of n ++ (bytes_of late ++ replicate 12 0)))))))

-- a word of domains: byte 1 is the count of ones in it, and the first register stands before it
abbrev pub word_record : ℕ → ℕ → List ℕ
word_record first w = 17 ∷ (count_ones w ∷ (0 ∷ (0 ∷ (bytes_of first ++ (word_bytes w ++ replicate 16 0)))))

-- the records of a plan, and its bytes
abbrev pub plan_records : ℕ → ℕ → ℕ → List ℕ → List (List ℕ)
plan_records T s n ds =
    head_record T s n (late_number n ds) ∷ map (λ j. word_record (64 * j) (domain_word n ds (64 * j))) (range_with_len 0 (word_count n))

abbrev pub plan_bytes : ℕ → ℕ → ℕ → List ℕ → List ℕ
plan_bytes T s n ds = joined (plan_records T s n ds)

-- 32 bytes a record
abbrev pub plan_length : ℕ → ℕ
plan_length n = (1 + word_count n) * 32
