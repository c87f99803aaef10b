use Rattle.std.proofs.Common.{◌*◌, ◌≤◌, length}
use Rattle.plan_report.specs.Report.{register_lines}
use Rattle.plan_report.specs.Text.{Pushes}
use Rattle.plan_report.proofs.report.push_registers.Given as goal

abbrev pub invariant-loop-register : goal.invariant-loop-register
invariant-loop-register l =
    Pushes (register_lines l.view.bytes.now l.register l.draft.domains.now) l.initial.text l.text
    × (length (register_lines l.view.bytes.now l.register l.draft.domains.now) ≤ 32 * l.register)
