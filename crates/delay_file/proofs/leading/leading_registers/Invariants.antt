use Rattle.std.proofs.Common.{◌≡◌, ◌+◌, drop}
use Rattle.std.specs.List.{range_with_len, prefix_len}
use Rattle.delay_file.specs.Files.{register_at, register_run, record_count}
use Rattle.delay_file.proofs.leading.leading_registers.Given as goal

abbrev pub invariant-loop-record : goal.invariant-loop-record
invariant-loop-record l =
    register_run l.bytes ≡ l.«record» + prefix_len (register_at l.bytes) (drop l.«record» (range_with_len 0 (record_count l.bytes)))
