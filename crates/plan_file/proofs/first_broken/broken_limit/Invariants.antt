use Rattle.std.proofs.Common.{◌≡◌, ◌+◌, drop, None}
use Rattle.timing.specs.Slacks.{limit_slack}
use Rattle.plan_file.specs.Draft.{draft_time}
use Rattle.plan_file.specs.Drafts.{entries_from, limits_from}
use Rattle.plan_file.proofs.first_broken.broken_limit.Given as goal

abbrev pub invariant-loop-limit : goal.invariant-loop-limit
invariant-loop-limit g l =
    (l.found ≡ None)
    × (entries_from l.draft.period (draft_time l.draft) 0 (g.S.DelaySource.meaning l.source).entries
    ≡ limits_from l.place (λ x. limit_slack x l.pair l.draft.period (draft_time l.draft l.pair.launch) (draft_time l.draft l.pair.capture)) (drop l.limit-index l.limit-items)
    (entries_from l.draft.period (draft_time l.draft) (l.place + 1) (drop (l.place + 1) (g.S.DelaySource.meaning l.source).entries)))

abbrev pub invariant-entries : goal.invariant-entries
invariant-entries g l =
    (l.found ≡ None)
    × (entries_from l.draft.period (draft_time l.draft) 0 (g.S.DelaySource.meaning l.source).entries
    ≡ entries_from l.draft.period (draft_time l.draft) l.place (drop l.place (g.S.DelaySource.meaning l.source).entries))
