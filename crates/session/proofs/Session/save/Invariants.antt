use Rattle.std.proofs.Common.{◌≡◌, ◌*◌, ◌++◌, map, take, drop}
use Rattle.delay_file.specs.Files.{joined}
use Rattle.delay_file.specs.Records.{pair_bytes}
use Rattle.session.specs.Book.{kept}
use Rattle.session.proofs.Session.save.Given as goal

abbrev pub invariant-loop-place : goal.invariant-loop-place
invariant-loop-place l =
    l.out ≡ joined (take l.place (map pair_bytes (kept l.self))) ++ drop (l.place * 32) l.initial.out
