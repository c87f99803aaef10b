-- What the code reads of a plan file, and what it leaves in memory.
use Rattle.std.specs.Prelude.{◌≡◌, ℕ, ◌+◌, ◌<◌, true, false, List, take, drop, Some, Ok, Err, Result}
use Rattle.timing.specs.Plans.{domains_of}
use Rattle.timing.specs.Table.{refusal_number}
use Rattle.delay_file.specs.Bytes.{be32}
use Rattle.delay_file.specs.declared.fault.Fault.{Fault}
use Rattle.plan_file.specs.declared.plan_reader.PlanNumbers.{PlanNumbers}
use Rattle.plan_file.specs.declared.head.Head.{Head}
use Rattle.plan_file.specs.PlanReading.{PlanReading, plan, refused, plan_reading, words_good, good_words, ones_in}
use Rattle.plan_file.specs.PlanRecords.{word_count}

-- an answer of the code, with the domain memory as it then is
abbrev pub read_as : Result PlanNumbers Fault → List ℕ → PlanReading
read_as (Ok p) out = plan p.period p.offset p.registers (take p.registers out)
read_as (Err f) out = refused (refusal_number f.refusal) f.«record»

-- what lies past the registers stays as it was; a refusal leaves the whole memory
abbrev pub RestStays : List ℕ → List ℕ → Result PlanNumbers Fault → Type 0
RestStays was out (Ok p) = drop p.registers out ≡ drop p.registers was
RestStays was out (Err f) = out ≡ was

-- the four numbers of a head
abbrev pub head_of : List ℕ → Head
head_of xs = record {
  numbers = record { period = be32 xs 4; offset = be32 xs 8; registers = be32 xs 12 };
  late = be32 xs 16;
}

-- what the code finds of the words of a file with n registers: how many ones they have, or the record at fault
abbrev pub WordsFound : List ℕ → ℕ → Result ℕ Fault → Type 0
WordsFound bytes n (Ok late) = (words_good bytes n ≡ true) × (late ≡ ones_in bytes (word_count n))
WordsFound bytes n (Err f) = (words_good bytes n ≡ false) × (refused (refusal_number f.refusal) f.«record» ≡ refused 13 (Some (1 + good_words bytes n)))

-- A file that reads as this plan, given memory for its registers: the same numbers, and for each register the same domain.
pub record ReadsAs (bytes : List ℕ) (T s n : ℕ) (ds : List ℕ) (room : ℕ) : Type 0 where
  pub domains : List ℕ
  pub numbers : plan_reading bytes room ≡ plan T s n domains
  pub same : (r : ℕ) → r < n → domains_of domains r ≡ domains_of ds r
