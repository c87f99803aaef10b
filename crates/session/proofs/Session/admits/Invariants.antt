use Rattle.std.proofs.Common.{◌≡◌, ◌+◌, drop}
use Rattle.delay_file.specs.Files.{view_meaning, view_registers}
use Rattle.session.specs.Book.{book}
use Rattle.session.specs.Loads.{given_pairs, load_entries}
use Rattle.session.specs.Orders.{KnownOrder, with_first}
use Rattle.session.proofs.Session.admits.Given as goal

abbrev pub invariant-loop-place : goal.invariant-loop-place
invariant-loop-place l =
    KnownOrder (given_pairs l.view) l.place l.order
    × (load_entries (book l.self) (view_registers l.view) (view_meaning l.view).entries ≡ load_entries (with_first (book l.self) l.view l.place) (view_registers l.view + l.place) (drop l.place (view_meaning l.view).entries))
