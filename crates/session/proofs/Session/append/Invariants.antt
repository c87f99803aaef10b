use Rattle.std.proofs.Common.{◌≡◌, ◌+◌, drop}
use Rattle.delay_file.specs.Files.{view_meaning, view_registers}
use Rattle.session.specs.Book.{book}
use Rattle.session.specs.Loads.{load_entries}
use Rattle.session.proofs.Session.append.Given as goal

abbrev pub invariant-loop-place : goal.invariant-loop-place
invariant-loop-place l =
    (load_entries (book l.initial.self) (view_registers l.view) (view_meaning l.view).entries ≡ load_entries (book l.self) (view_registers l.view + l.place) (drop l.place (view_meaning l.view).entries))
    × (l.self.pins ≡ l.initial.self.pins)
