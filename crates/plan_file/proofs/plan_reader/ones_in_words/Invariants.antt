use Rattle.std.proofs.Common.{◌≡◌, ◌+◌, ◌*◌, ◌≤◌}
use Rattle.plan_file.specs.PlanReading.{good_words, ones_in}
use Rattle.plan_file.proofs.Words.{ahead}
use Rattle.plan_file.proofs.plan_reader.ones_in_words.Given as goal

abbrev pub invariant-loop-word : goal.invariant-loop-word
invariant-loop-word l =
    (good_words l.bytes l.registers ≡ l.word + ahead l.bytes l.registers l.word) × (l.late ≡ ones_in l.bytes l.word) × (l.late ≤ 64 * l.word)
