-- A whole delay file: for every byte string, of any length and content, what it means or why it is refused.
use Rattle.std.specs.Prelude.{◌≡◌, ℕ, ◌+◌, ◌-◌, ◌*◌, ◌/◌, ◌%◌, ◌<◌, Bool, true, false, if◌then◌else◌, ◌&&◌, List, [], ◌∷◌, ◌++◌, map, length, take, drop, Some, None, Ok, Err, Option, Result, ◌==◌, nat_le, nat_lt, slice_index}
use Rattle.std.specs.List.{range_with_len, prefix_len}
use Rattle.timing.specs.Meaning.{Entry, pair, faulty, Meaning, entry_at, judged}
use Rattle.timing.specs.Table.{refusal_number}
use Rattle.timing.specs.declared.pair.Pair.{Pair}
use Rattle.delay_file.specs.declared.fault.Fault.{Fault}
use Rattle.delay_file.specs.declared.view.FileView.{FileView}
use Rattle.delay_file.specs.Records.{Reading, register, delay, refused, reading, name_of, fault_seen, register_bytes, pair_bytes, lawful_name, pair_fields}

-- how many whole records there are
abbrev pub record_count : List ℕ → ℕ
record_count bytes = length bytes / 32

-- the bytes of record k
abbrev pub record_at : List ℕ → ℕ → List ℕ
record_at bytes k = take 32 (drop (k * 32) bytes)

-- whether a record reads as a register of this number
abbrev pub numbered : ℕ → Reading → Bool
numbered k (register number name) = number == k
numbered k (delay p) = false
numbered k (refused number at) = false

-- whether record k of a file reads as the register k
abbrev pub register_at : List ℕ → ℕ → Bool
register_at bytes k = numbered k (reading k (record_at bytes k))

-- the registers of a file: as many records at its start as read as the registers 0, 1, 2 and on
abbrev pub register_run : List ℕ → ℕ
register_run bytes = prefix_len (register_at bytes) (range_with_len 0 (record_count bytes))

-- whether record k is of the register kind, lawful or not
abbrev pub register_kind : List ℕ → ℕ → Bool
register_kind bytes k = slice_index (record_at bytes k) 0 == 1

-- whether a record stands after the registers that is of the register kind and yet none of them
abbrev pub broken_run : List ℕ → ℕ → Bool
broken_run bytes n = nat_lt n (record_count bytes) && register_kind bytes n

-- What a record past the registers means among n registers: a lawful pair, or the number of its refusal. The checks
-- come in this order: 13 (a register record is 13 too), 2, 14, 3.
abbrev pub entry_of : ℕ → Reading → Entry
entry_of n (register number name) = faulty 13
entry_of n (delay p) = judged n p
entry_of n (refused number at) = faulty number

-- the meaning of a file with n registers: every later record is an entry, in the file's order
abbrev pub file_meaning : List ℕ → ℕ → Meaning
file_meaning bytes n =
    record { registers = n; entries = map (λ k. entry_of n (reading k (record_at bytes k))) (range_with_len n (record_count bytes - n)) }

-- the answer of opening: a meaning, or a refusal's number with the record at fault, if one is
pub data Opening : Type 0 where
  opened : Meaning → Opening
  closed : ℕ → Option ℕ → Opening

-- a register count from 1 to 4,096 opens the file; any other is refused with 1
abbrev pub counted : List ℕ → ℕ → Opening
counted bytes n = if nat_le 1 n && nat_le n 4096 then opened (file_meaning bytes n) else closed 1 None

-- Opening checks the length, 12; then each register record at the start, 13 at the first that is none of its number;
-- then the register count, 1.
abbrev pub opening : List ℕ → Opening
opening bytes =
    if length bytes % 32 == 0
    then (if broken_run bytes (register_run bytes) then closed 13 (Some (register_run bytes)) else counted bytes (register_run bytes))
    else closed 12 None

-- the register count of a view, which is from 1 to 4,096
abbrev pub view_registers : FileView → ℕ
view_registers v = v.registers

abbrev pub view_meaning : FileView → Meaning
view_meaning v = file_meaning v.bytes.now (view_registers v)

-- what a view answers for record k
abbrev pub record_answer : FileView → ℕ → Reading
record_answer v k = if nat_lt k (record_count v.bytes.now) then reading k (record_at v.bytes.now k) else refused 5 None

-- the name of a register
abbrev pub register_name : FileView → ℕ → Option (List ℕ)
register_name v r = if nat_lt r (view_registers v) then name_of (record_answer v r) else None

-- an entry with the record that it stands in
abbrev pub located : ℕ → Entry → Reading
located k (pair p) = delay p
located k (faulty number) = refused number (Some k)

-- what a view answers for the entry at a place, with its record: the registers come first
abbrev pub entry_answer : FileView → ℕ → Reading
entry_answer v place =
    if nat_lt place (length (view_meaning v).entries) then located (view_registers v + place) (entry_at (view_meaning v) place) else refused 5 None

-- The record of the entry at a place has these two registers in its fields, whatever else is wrong with it.
pub record JoinsAt (v : FileView) (place launch capture : ℕ) : Type 0 where
  pub there : place < record_count v.bytes.now - view_registers v
  pub launch_is : (pair_fields (record_at v.bytes.now (view_registers v + place))).launch ≡ launch
  pub capture_is : (pair_fields (record_at v.bytes.now (view_registers v + place))).capture ≡ capture

-- an answer of the code as an opening
abbrev pub opened_as : Result FileView Fault → Opening
opened_as (Ok v) = opened (view_meaning v)
opened_as (Err f) = closed (refusal_number f.refusal) f.«record»

-- What the code finds of record k at the start of a file: it is the register k; it is of another kind, which ends the
-- registers; or it is of the register kind and malformed.
abbrev pub JudgedRegister : List ℕ → ℕ → Result Bool Fault → Type 0
JudgedRegister bytes k (Ok true) = register_at bytes k ≡ true
JudgedRegister bytes k (Ok false) = (register_at bytes k ≡ false) × (register_kind bytes k ≡ false)
JudgedRegister bytes k (Err f) = (register_at bytes k ≡ false) × (register_kind bytes k ≡ true) × (fault_seen f ≡ refused 13 (Some k))

-- what the code finds of all of them
abbrev pub JudgedRun : List ℕ → Result ℕ Fault → Type 0
JudgedRun bytes (Ok n) = (n ≡ register_run bytes) × (broken_run bytes n ≡ false)
JudgedRun bytes (Err f) = (broken_run bytes (register_run bytes) ≡ true) × (fault_seen f ≡ refused 13 (Some (register_run bytes)))

-- the records of a file with these names of registers and these pairs: the registers, numbered from k, then the pairs
abbrev pub register_records : ℕ → List (List ℕ) → List (List ℕ)
register_records k [] = []
register_records k (name ∷ names) = register_bytes k name ∷ register_records (k + 1) names

abbrev pub file_records : List (List ℕ) → List Pair → List (List ℕ)
file_records names pairs = register_records 0 names ++ map pair_bytes pairs

-- records one behind the other
abbrev pub joined : List (List ℕ) → List ℕ
joined [] = []
joined (x ∷ xs) = x ++ joined xs

-- the bytes of such a file
abbrev pub file_bytes : List (List ℕ) → List Pair → List ℕ
file_bytes names pairs = joined (file_records names pairs)

-- the circuit that such a file is made of: each pair is an entry, judged among the registers
abbrev pub circuit_meaning : List (List ℕ) → List Pair → Meaning
circuit_meaning names pairs = record { registers = length names; entries = map (judged (length names)) pairs }

-- the answer to names and pairs that are to be written: the bytes of the file, or a refusal's number with its record
pub data Writing : Type 0 where
  written_as : List ℕ → Writing
  unwritten : ℕ → Option ℕ → Writing

-- 1 for the number of names, then 13 at the first that no register may have
abbrev pub writing : List (List ℕ) → List Pair → Writing
writing names pairs =
    if nat_le 1 (length names) && nat_le (length names) 4096
    then (if prefix_len lawful_name names == length names then written_as (file_bytes names pairs) else unwritten 13 (Some (prefix_len lawful_name names)))
    else unwritten 1 None
