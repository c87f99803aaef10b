use Rattle.std.proofs.Common.{◌≡◌, ◌≤◌, length, take, vec_items, vec_len, vec_capacity}
use Rattle.session.specs.Book.{book}
use Rattle.planner.specs.Runs.{Runs}
use Rattle.planner.proofs.runs.run_into.Given as goal

abbrev pub invariant-loop-call : goal.invariant-loop-call
invariant-loop-call l =
    Runs (book l.initial.session) (take l.call-index l.calls) (vec_items l.answers) (book l.session)
    × (vec_len l.answers ≡ l.call-index) × (length l.calls ≤ vec_capacity l.answers)
