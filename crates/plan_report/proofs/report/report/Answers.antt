use Rattle.std.proofs.Common.{◌≡◌, length, ap, ◌∙◌, arith, rules}
use Rattle.timing.specs.Outcomes.{Outcome, granted, unless, offset_within, period_within}
use Rattle.timing.proofs.Rows.{passed}
use Rattle.plan_file.specs.PlanRecords.{late_number}
use Rattle.plan_report.proofs.Lines.{head_short}
use Rattle.plan_report.proofs.Whole.{whole}
use Rattle.plan_report.proofs.report.report.Goals as goal

pub push_registers-requires-clause-room : goal.push_registers-requires-clause-room
push_registers-requires-clause-room c =
    let d = c.args.draft.now in
    let h = head_short d.period d.offset c.late_count.result (omega arith) (omega arith) (omega arith) in
    let p = c.push_head.ensures in
    let m = ap length c.new-text.ensures.memory in
    omega (arith, p.ends, p.same_length, c.new-text.ensures.end, c.registers-registers.ensures)

pub returns : goal.returns
returns c =
    let d = c.args.draft.now in
    let h = head_short d.period d.offset c.late_count.result (omega arith) (omega arith) (omega arith) in
    let o = c.in_ok-view.ensures in
    let period : ◌≡◌ {A = Outcome (Unit {0})} (granted tt) (unless (period_within d.period) 8 (granted tt)) = search rules in
    let offset : ◌≡◌ {A = Outcome (Unit {0})} (granted tt) (unless (offset_within d.offset) 7 (granted tt)) = search rules in
    let late = c.late_count.ensures ∙ ap (λ n. late_number n d.domains.now) c.registers-registers.ensures in
    let n = c.registers-registers.ensures in
    let w =
    whole c.args.file.now c.in_ok-view.view d.domains.now c.args.out.now d.period d.offset c.late_count.result c.new-text.result c.push_head.new.text c.push_registers.new.text _ c.len.result (search rules) c.len.ensures o.same o.answer late
    (passed (period_within d.period) 8 tt _ period).0 (passed (offset_within d.offset) 7 tt _ offset).0 (omega (arith, n)) (omega (arith, n)) h c.new-text.ensures.end c.new-text.ensures.memory c.push_head.ensures c.push_registers.ensures in
    record { answer = w.0; rest = w.1 }
