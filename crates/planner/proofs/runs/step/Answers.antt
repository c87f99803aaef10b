use Rattle.std.proofs.Common.{refl}
use Rattle.planner.proofs.runs.step.Goals as goal

pub returns-in-Save : goal.returns-in-Save
returns-in-Save c = record { right = rw c.in-Save.is (c.saved.result, refl, c.saved.ensures); next = rw c.in-Save.is refl }
