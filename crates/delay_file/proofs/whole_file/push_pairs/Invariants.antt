use Rattle.std.proofs.Common.{◌≡◌, ◌++◌, map, take, vec_items}
use Rattle.std.specs.List.{AllByRecursion}
use Rattle.delay_file.specs.Files.{joined}
use Rattle.delay_file.specs.Records.{ReadsBack, pair_bytes}
use Rattle.delay_file.proofs.whole_file.push_pairs.Given as goal

abbrev pub invariant-loop-pair : goal.invariant-loop-pair
invariant-loop-pair l =
    (vec_items l.file ≡ vec_items l.initial.file ++ joined (map pair_bytes (take l.pair-index l.pairs)))
    × AllByRecursion ReadsBack (take l.pair-index l.pairs)
