-- Reading a plan file: for every byte string, of any length and content, the plan that it holds or why it is refused.
use Rattle.std.specs.Prelude.{ℕ, zero, suc, ◌+◌, ◌-◌, ◌*◌, ◌/◌, ◌%◌, ◌^◌, Bool, if◌then◌else◌, ◌&&◌, List, map, length, drop, Some, None, Option, ◌==◌, count_ones, nat_le, nat_lt, slice_index}
use Rattle.std.specs.List.{range_with_len, prefix_len}
use Rattle.timing.specs.Outcomes.{period_within, offset_within}
use Rattle.delay_file.specs.Bytes.{be32, every, is_zero}
-- the number in the eight bytes from byte i on, the most significant first
pub use Rattle.delay_file.specs.Bytes.{be64}
use Rattle.delay_file.specs.Files.{record_at, record_count}
use Rattle.plan_file.specs.PlanRecords.{word_count}

-- a record of this kind, with this byte 1, whose fields end before byte `end`: all other bytes are zero
abbrev pub laid_out : ℕ → ℕ → ℕ → List ℕ → Bool
laid_out kind second end xs =
    (length xs == 32) && (slice_index xs 0 == kind && (slice_index xs 1 == second && (slice_index xs 2 == 0 && (slice_index xs 3 == 0 && every is_zero (drop end xs)))))

-- a head: its period, its offset and its register count keep their limits. (Its late number is judged last of all.)
abbrev pub head_good : List ℕ → Bool
head_good xs =
    laid_out 16 0 20 xs && (period_within (be32 xs 4) && (offset_within (be32 xs 8) && (nat_le 1 (be32 xs 12) && nat_le (be32 xs 12) 4096)))

-- the word of the registers from `first` on, of n: byte 1 is the count of ones in it, and bits past n are zero
abbrev pub word_good : ℕ → ℕ → List ℕ → Bool
word_good n first xs =
    laid_out 17 (count_ones (be64 xs 8)) 16 xs && (be32 xs 4 == first && nat_lt (be64 xs 8) (2 ^ (n - first)))

-- word j of a file, which stands in record 1 + j
abbrev pub word_at : List ℕ → ℕ → ℕ
word_at bytes j = be64 (record_at bytes (1 + j)) 8

-- how many of the words that n registers take are as they should be, up to the first that is not or lacks
abbrev pub good_words : List ℕ → ℕ → ℕ
good_words bytes n = prefix_len (λ j. word_good n (64 * j) (record_at bytes (1 + j))) (range_with_len 0 (word_count n))

-- all words are there, and nothing behind them
abbrev pub words_good : List ℕ → ℕ → Bool
words_good bytes n = good_words bytes n == word_count n && nat_le (record_count bytes) (1 + word_count n)

-- the ones in the first k words
unfoldable pub ones_in : List ℕ → ℕ → ℕ
ones_in bytes zero = 0
ones_in bytes (suc k) = ones_in bytes k + count_ones (word_at bytes k)

-- bit i of a word, 0 the least
abbrev pub bit_of : ℕ → ℕ → ℕ
bit_of word i = word / 2 ^ i % 2

-- the byte of domain memory that a file gives register r, 0 or 1: bit r % 64 of word r / 64
abbrev pub domain_bit : List ℕ → ℕ → ℕ
domain_bit bytes r = word_at bytes (r / 64) / 2 ^ (r % 64) % 2

-- what a file reads as: period, offset, register count and a byte of domain memory for each register; or a refusal's
-- number with the record at fault, if one is
pub data PlanReading : Type 0 where
  plan : ℕ → ℕ → ℕ → List ℕ → PlanReading
  refused : ℕ → Option ℕ → PlanReading

-- The records are right one by one: 13 at record 0 where the late number is not the ones in the words, then 9.
abbrev pub words_reading : List ℕ → List ℕ → ℕ → ℕ → PlanReading
words_reading bytes head n room =
    if be32 head 16 == ones_in bytes (word_count n)
    then (if nat_le n room then plan (be32 head 4) (be32 head 8) n (map (domain_bit bytes) (range_with_len 0 n)) else refused 9 None)
    else refused 13 (Some 0)

-- 13 at the first word that is not as it should be, which is the record count where one lacks, or at an extra record
abbrev pub head_reading : List ℕ → List ℕ → ℕ → ℕ → PlanReading
head_reading bytes head n room =
    if words_good bytes n then words_reading bytes head n room else refused 13 (Some (1 + good_words bytes n))

-- The answer of reading a file into memory of a length: 12, then 13 at the head or later, then 9.
abbrev pub plan_reading : List ℕ → ℕ → PlanReading
plan_reading bytes room =
    if length bytes % 32 == 0
    then (if head_good (record_at bytes 0) then head_reading bytes (record_at bytes 0) (be32 (record_at bytes 0) 12) room else refused 13 (Some 0))
    else refused 12 None
