use Rattle.std.proofs.Common.{ap, ◌∙◌, arith}
use Rattle.std.proofs.lemmas.List.{take_all}
use Rattle.timing.specs.Meaning.{faulty, is_faulty}
use Rattle.delay_file.specs.Files.{view_meaning}
use Rattle.clockplan.specs.Counts.{faulty_count}
use Rattle.plan_file.proofs.Counted.{one_more, none_more}
use Rattle.clockplan.proofs.show.show_entries.Goals as goal
use Rattle.clockplan.proofs.show.show_entries.Goals.{then-branch, else-branch}

pub loop-place-preserved : goal.loop-place-preserved
loop-place-preserved c =
    let es = (view_meaning c.args.view.now).entries in
    let i = c.loop-place.place in
    elim c.if-branch.branch [
      | then-branch w ↦ (w.faults-is ∙ one_more is_faulty es (faulty 5) i c.loop-place.faults c.in_ok-show_entry.field-0 (omega arith) c.loop-place.invariant.0 c.in_ok-show_entry.ensures w.if-branch.true, omega (arith, w.faults-is))
      | else-branch w ↦ (w.faults-is ∙ none_more is_faulty es (faulty 5) i c.loop-place.faults c.in_ok-show_entry.field-0 (omega arith) c.loop-place.invariant.0 c.in_ok-show_entry.ensures w.if-branch.false, omega (arith, w.faults-is))
    ]

pub returns : goal.returns
returns c =
    let es = (view_meaning c.args.view.now).entries in
    c.loop-place.invariant.0 ∙ ap faulty_count (take_all c.loop-place.place es (omega arith))
