-- The whole report of an opened file.
use Rattle.std.proofs.Common.{◌≡◌, ℕ, ◌≤◌, List, ◌++◌, length, take, drop, sym, ap, ◌∙◌, ap₂, true, arith}
use Rattle.std.proofs.lemmas.Bool.{le-leb}
use Rattle.timing.specs.Outcomes.{offset_within, period_within}
use Rattle.delay_file.specs.declared.view.FileView.{FileView}
use Rattle.delay_file.specs.Files.{opened, opening, view_registers, view_meaning}
use Rattle.plan_file.specs.PlanRecords.{late_number}
use Rattle.plan_report.specs.Report.{text, head_line, register_lines, report_text, report_room, report_of, report_opened, report_answer}
use Rattle.plan_report.specs.Text.{Pushes}
use Rattle.plan_report.specs.declared.text.Text.{Text}
use Rattle.plan_report.proofs.Pushes.{pushes_then, front_is, rest_is}

-- a draft within all limits has its text for an answer
granted : (file ds : List ℕ) (n T s room : ℕ) → period_within T ≡ true → offset_within s ≡ true → n ≤ length ds → report_room n ≤ room → report_of file n T s ds room ≡ text (report_text file n T s ds)
granted file ds n T s room a b d e =
    rw (a, b, le-leb n (length ds) d, le-leb (report_room n) room e)

-- the first line and then those of the registers
pub whole : (file : List ℕ) (v : FileView) (ds out : List ℕ) (T s late : ℕ) (was mid now : Text) (left : List ℕ) (k : ℕ) → left ≡ now.memory.now → k ≡ now.end → v.bytes.now ≡ file → opened (view_meaning v) ≡ opening file → late ≡ late_number (view_registers v) ds → period_within T ≡ true → offset_within s ≡ true → view_registers v ≤ length ds → report_room (view_registers v) ≤ length out → length (head_line T s late) ≤ 64 → was.end ≡ 0 → was.memory.now ≡ out → Pushes (head_line T s late) was mid → Pushes (register_lines v.bytes.now (view_registers v) ds) mid now → (text (take k left) ≡ report_answer file T s ds (length out)) × (drop k left ≡ drop k out)
whole file v ds out T s late was mid now left k at end same o l a b d e h start memory p q =
    let n = view_registers v in
    let all = head_line T s late ++ register_lines v.bytes.now n ds in
    let m = ap length memory in
    let w : Pushes all was now = pushes_then (head_line T s late) (register_lines v.bytes.now n ds) was mid now (omega arith) p q in
    let t : all ≡ report_text file n T s ds = ap₂ (λ x xs. head_line T s x ++ register_lines xs n ds) l same in (
      ap text (ap₂ take end at ∙ front_is all out was now start memory w ∙ t)
          ∙ sym (granted file ds n T s (length out) a b d e)
          ∙ ap (report_opened file T s ds (length out)) o,
      ap₂ drop end at ∙ rest_is all out was now start memory w ∙ ap (λ n. drop n out) (sym end),
    )
