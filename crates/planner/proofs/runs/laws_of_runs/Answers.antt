use Rattle.planner.proofs.Snoc.{book_decided, right_at_each, runs_joined}
use Rattle.planner.proofs.runs.laws_of_runs.Goals as goal

pub returns : goal.returns
returns c = (book_decided, right_at_each, runs_joined)
