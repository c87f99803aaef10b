-- The report of a draft: a line with its numbers, then a line for each register by its name. Every line ends with byte 10.
use Rattle.std.specs.Prelude.{ℕ, ◌+◌, ◌*◌, Bool, if◌then◌else◌, ◌&&◌, List, [], ◌∷◌, ◌++◌, map, length, drop, None, codes, decimal, Option, nat_le}
use Rattle.std.specs.List.{range_with_len}
use Rattle.timing.specs.Outcomes.{period_within, offset_within}
use Rattle.timing.specs.Plans.{domains_of}
use Rattle.timing.specs.declared.domain.Domain.{Domain}
use Rattle.timing.specs.Domains.{domain_name}
use Rattle.delay_file.specs.Files.{Opening, opened, closed, opening, record_at, joined}
use Rattle.delay_file.specs.Records.{name_in}
use Rattle.plan_file.specs.PlanRecords.{late_number}
use Rattle.plan_file.specs.declared.draft.Draft.{Draft}

-- the first line: period, offset and the number of late registers
abbrev pub head_line : ℕ → ℕ → ℕ → List ℕ
head_line T s late =
    codes "period " ++ (decimal T ++ (codes " offset " ++ (decimal s ++ (codes " late " ++ (decimal late ++ 10 ∷ [])))))

-- the line of a register
abbrev pub register_line : List ℕ → Domain → List ℕ
register_line name d = name ++ (codes " " ++ (domain_name d ++ 10 ∷ []))

-- the name of register r in a file: it stands in the bytes from 8 on of record r
abbrev pub name_at : List ℕ → ℕ → List ℕ
name_at file r = name_in (drop 8 (record_at file r))

-- the lines of n registers, in their order
abbrev pub register_lines : List ℕ → ℕ → List ℕ → List ℕ
register_lines file n ds = joined (map (λ r. register_line (name_at file r) (domains_of ds r)) (range_with_len 0 n))

-- the whole text for n registers
abbrev pub report_text : List ℕ → ℕ → ℕ → ℕ → List ℕ → List ℕ
report_text file n T s ds = head_line T s (late_number n ds) ++ register_lines file n ds

-- the memory that a report for n registers wants: 64 bytes for the first line, 32 for each other
abbrev pub report_room : ℕ → ℕ
report_room n = 64 + 32 * n

-- what report answers: a text, or a refusal's number with the record at fault, if one is
pub data Reported : Type 0 where
  text : List ℕ → Reported
  refused : ℕ → Option ℕ → Reported

-- a check in a row of checks: where it fails the report is refused with a number
abbrev pub unless : Bool → ℕ → Reported → Reported
unless ok number rest = if ok then rest else refused number None

-- the answer for an opened file of n registers: 8, 7, 9 (domain memory or the memory for the text)
abbrev pub report_of : List ℕ → ℕ → ℕ → ℕ → List ℕ → ℕ → Reported
report_of file n T s ds room =
    unless (period_within T) 8
    (unless (offset_within s) 7
    (unless (nat_le n (length ds) && nat_le (report_room n) room) 9
    (text (report_text file n T s ds))))

abbrev pub report_opened : List ℕ → ℕ → ℕ → List ℕ → ℕ → Opening → Reported
report_opened file T s ds room (opened m) = report_of file m.registers T s ds room
report_opened file T s ds room (closed number at) = refused number at

-- The answer of report for every input: the file's opening, then 8, 7 and 9.
abbrev pub report_answer : List ℕ → ℕ → ℕ → List ℕ → ℕ → Reported
report_answer file T s ds room = report_opened file T s ds room (opening file)

-- the same for a draft as the code holds it
abbrev pub draft_report : List ℕ → Draft → ℕ → Reported
draft_report file d room = report_answer file d.period d.offset d.domains.now room
