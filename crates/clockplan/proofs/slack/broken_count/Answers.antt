use Rattle.std.proofs.Common.{◌≡◌, ℕ, ◌+◌, Bool, ap, ◌∙◌, arith, rules, tests}
use Rattle.std.proofs.lemmas.Iterator.{YieldsList-from_range}
use Rattle.std.proofs.lemmas.Iterator.Consumers.{YieldsList-from_filter, count_from_yields_List}
use Rattle.std.proofs.lemmas.List.Sums.{length-filter}
use Rattle.std.specs.List.{count_by, range_with_len}
use Rattle.timing.specs.Meaning.{faulty, entry_at}
use Rattle.delay_file.specs.Files.{view_meaning}
use Rattle.plan_file.specs.Draft.{draft_time}
use Rattle.clockplan.specs.Counts.{is_broken}
use Rattle.plan_file.proofs.Counted.{counted_places}
use Rattle.clockplan.proofs.slack.broken_count.Goals as goal

pub returns : goal.returns
returns c =
    let p = c.args.planned.now in
    let m = view_meaning p.view in
    let test = is_broken p.draft.period (draft_time p.draft) in
    let at : ℕ → Bool = λ k. test (entry_at m k) in
    let h = count_from_yields_List c.filter.result c.count.result c.count.ensures.ran (YieldsList-from_filter _ at (YieldsList-from_range 0 c.entry_count.result c.entry_count.result c.filter.ensures.source (omega arith)) c.filter.ensures.closure (λ x r q k. search (rules, tests))) in
    h ∙ length-filter at _ ∙ ap (λ n. count_by at (range_with_len 0 n)) c.entry_count.ensures ∙ counted_places test at m.entries 0 (faulty 5) (λ i l. let e : 0 + i ≡ i = omega arith in ap at e)
