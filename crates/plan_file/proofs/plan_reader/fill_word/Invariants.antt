use Rattle.std.proofs.Common.{◌≡◌, ◌++◌, map, drop}
use Rattle.std.specs.List.{range_with_len}
use Rattle.plan_file.specs.PlanReading.{bit_of}
use Rattle.plan_file.proofs.plan_reader.fill_word.Given as goal

abbrev pub invariant-loop-i : goal.invariant-loop-i
invariant-loop-i l = l.domains ≡ map (bit_of l.word) (range_with_len 0 l.i) ++ drop l.i l.initial.domains
