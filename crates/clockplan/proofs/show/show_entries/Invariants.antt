use Rattle.std.proofs.Common.{◌≡◌, ◌≤◌, take}
use Rattle.delay_file.specs.Files.{view_meaning}
use Rattle.clockplan.specs.Counts.{faulty_count}
use Rattle.clockplan.proofs.show.show_entries.Given as goal

abbrev pub invariant-loop-place : goal.invariant-loop-place
invariant-loop-place l = (l.faults ≡ faulty_count (take l.place (view_meaning l.view).entries)) × (l.faults ≤ l.place)
