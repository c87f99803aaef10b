-- What a report leaves in memory.
use Rattle.std.specs.Prelude.{◌≡◌, ℕ, List, take, drop, Ok, Err, Result}
use Rattle.timing.specs.Table.{refusal_number}
use Rattle.delay_file.specs.declared.fault.Fault.{Fault}
use Rattle.plan_report.specs.Report.{Reported, text, refused}

-- an answer of the code, by the text that the memory then holds
abbrev pub reported : Result ℕ Fault → List ℕ → Reported
reported (Ok k) out = text (take k out)
reported (Err f) out = refused (refusal_number f.refusal) f.«record»

-- what lies past the text stays as it was; a refusal leaves all of it
abbrev pub RestStays : List ℕ → List ℕ → Result ℕ Fault → Type 0
RestStays was out (Ok k) = drop k out ≡ drop k was
RestStays was out (Err f) = out ≡ was
