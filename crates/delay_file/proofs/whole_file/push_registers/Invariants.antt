use Rattle.std.proofs.Common.{◌≡◌, ◌+◌, ◌++◌, map, take, drop, vec_items}
use Rattle.std.specs.List.{prefix_len}
use Rattle.delay_file.specs.Files.{joined, register_records}
use Rattle.delay_file.specs.Records.{lawful_name}
use Rattle.delay_file.proofs.whole_file.push_registers.Given as goal

abbrev pub invariant-loop-number : goal.invariant-loop-number
invariant-loop-number l =
    (vec_items l.file ≡ vec_items l.initial.file ++ joined (register_records 0 (take l.number (map (λ x. x.now) l.names))))
    × (prefix_len lawful_name (map (λ x. x.now) l.names) ≡ l.number + prefix_len lawful_name (drop l.number (map (λ x. x.now) l.names)))
