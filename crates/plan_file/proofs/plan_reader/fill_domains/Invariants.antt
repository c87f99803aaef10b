use Rattle.std.proofs.Common.{◌≡◌, ◌++◌, ◌*◌, min, map, drop}
use Rattle.std.specs.List.{range_with_len}
use Rattle.plan_file.specs.PlanReading.{domain_bit}
use Rattle.plan_file.proofs.plan_reader.fill_domains.Given as goal

abbrev pub invariant-loop-word : goal.invariant-loop-word
invariant-loop-word l = l.domains ≡ map (domain_bit l.bytes) (range_with_len 0 (min (64 * l.word) l.registers)) ++ drop (min (64 * l.word) l.registers) l.initial.domains
