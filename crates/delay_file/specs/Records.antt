-- A record of a delay file: what 32 bytes read as, and which bytes a register or a pair is written as.
use Rattle.std.specs.Prelude.{◌≡◌, ℕ, ◌-◌, Bool, true, if◌then◌else◌, ◌&&◌, List, ◌∷◌, ◌++◌, length, take, drop, replicate, Some, None, Ok, Err, Option, Result, ◌==◌, nat_le, slice_index}
use Rattle.std.specs.Borrow.{Bor}
use Rattle.std.specs.List.{prefix_len}
use Rattle.timing.specs.declared.pair.Pair.{Pair}
use Rattle.timing.specs.declared.refusal.Refusal.{Refusal}
use Rattle.timing.specs.declared.refusal.Refusal.TheVariants.{MalformedRecord}
use Rattle.timing.specs.Table.{refusal_number}
use Rattle.delay_file.specs.declared.fault.Fault.{Fault}
use Rattle.delay_file.specs.declared.reading.Record.{Record}
use Rattle.delay_file.specs.declared.reading.Record.TheVariants.{Register, Delay}
use Rattle.delay_file.specs.Bytes.{be32, be_z, bytes_of, bytes_of_z, every, is_zero, not_zero, graphic}

-- what a record reads as: a register's number and name, a pair as given, or a refusal's number and the record at fault
pub data Reading : Type 0 where
  register : ℕ → List ℕ → Reading
  delay : Pair → Reading
  refused : ℕ → Option ℕ → Reading

-- a name field: the name ends at the first zero byte
abbrev pub name_in : List ℕ → List ℕ
name_in field = take (prefix_len not_zero field) field

-- a name has 1 to 24 bytes from 33 to 126
abbrev pub lawful_name : List ℕ → Bool
lawful_name name = nat_le 1 (length name) && (nat_le (length name) 24 && every graphic name)

-- a field holds a lawful name and then zeros
abbrev pub lawful_field : List ℕ → Bool
lawful_field field = lawful_name (name_in field) && every is_zero (drop (prefix_len not_zero field) field)

-- a record starts with its kind and three zero bytes
abbrev pub starts : ℕ → List ℕ → Bool
starts kind xs = slice_index xs 0 == kind && (slice_index xs 1 == 0 && (slice_index xs 2 == 0 && slice_index xs 3 == 0))

-- the fields of a pair record: launch, capture, min, max
abbrev pub pair_fields : List ℕ → Pair
pair_fields xs = record { launch = be32 xs 4; capture = be32 xs 8; min = be_z xs 12; max = be_z xs 16 }

-- What record k of a file reads as, if these are its bytes. Kind 1 is a register: its number in bytes 4 to 7, its name
-- in bytes 8 to 31. Kind 2 is a pair: its fields in bytes 4 to 19. All else is zero; any other record is malformed, 13.
-- (A record of a file always has 32 bytes; a part of another length is no whole record, 12.)
abbrev pub reading : ℕ → List ℕ → Reading
reading k xs =
    if length xs == 32
    then (if starts 1 xs && lawful_field (drop 8 xs) then register (be32 xs 4) (name_in (drop 8 xs))
    else (if starts 2 xs && every is_zero (drop 20 xs) then delay (pair_fields xs) else refused 13 (Some k)))
    else refused 12 (Some k)

-- the same of the bytes after the kind and the three zero bytes, for each kind
abbrev pub register_rest : ℕ → List ℕ → Reading
register_rest k rest = if lawful_field (drop 4 rest) then register (be32 rest 0) (name_in (drop 4 rest)) else refused 13 (Some k)

abbrev pub pair_rest : ℕ → List ℕ → Reading
pair_rest k rest =
    if every is_zero (drop 16 rest)
    then delay (record { launch = be32 rest 0; capture = be32 rest 4; min = be_z rest 8; max = be_z rest 12 })
    else refused 13 (Some k)

-- a fault of the code as a reading
abbrev pub fault_seen : Fault → Reading
fault_seen f = refused (refusal_number f.refusal) f.«record»

-- an answer of the code as a reading: the name's bytes in the place of the reference to them
abbrev pub seen : Result Record Fault → Reading
seen (Ok (Register number name)) = register number name.now
seen (Ok (Delay p)) = delay p
seen (Err f) = fault_seen f

abbrev pub seen_pair : Result Pair Fault → Reading
seen_pair (Ok p) = delay p
seen_pair (Err f) = fault_seen f

-- the name in a reading
abbrev pub name_of : Reading → Option (List ℕ)
name_of (register number name) = Some name
name_of (delay p) = None
name_of (refused number at) = None

-- a borrowed name by its bytes
abbrev pub borrowed : Option (Bor (List ℕ)) → Option (List ℕ)
borrowed None = None
borrowed (Some name) = Some name.now

-- the bytes of a register record and of a pair record
abbrev pub register_bytes : ℕ → List ℕ → List ℕ
register_bytes number name = 1 ∷ (0 ∷ (0 ∷ (0 ∷ (bytes_of number ++ (name ++ replicate (24 - length name) 0)))))

abbrev pub pair_bytes : Pair → List ℕ
pair_bytes p =
    2 ∷ (0 ∷ (0 ∷ (0 ∷ (bytes_of p.launch ++ (bytes_of p.capture ++ (bytes_of_z p.min ++ (bytes_of_z p.max ++ replicate 12 0)))))))

-- the record of a pair reads as that pair, wherever it stands
abbrev pub ReadsBack : Pair → Type 0
ReadsBack p = (k : ℕ) → reading k (pair_bytes p) ≡ delay p

-- the register record of a number and a name, if the name is lawful
abbrev pub written : ℕ → List ℕ → Result (List ℕ) Refusal
written number name = if lawful_name name then Ok (register_bytes number name) else Err MalformedRecord

-- The format has one spelling: bytes that read as a register or a pair are the ones that writing it gives.
abbrev pub Spelled : List ℕ → Reading → Type 0
Spelled xs (register number name) = (lawful_name name ≡ true) × (xs ≡ register_bytes number name)
Spelled xs (delay p) = xs ≡ pair_bytes p
Spelled xs (refused number at) = Unit {0}
