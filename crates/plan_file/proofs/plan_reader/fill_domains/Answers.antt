use Rattle.std.proofs.Common.{◌≡◌, ◌+◌, ◌-◌, ◌*◌, ◌≤◌, ◌++◌, min, map, length, take, drop, ap, ◌∙◌, arith, length-take, length-drop}
use Rattle.std.specs.List.{range_with_len}
use Rattle.delay_file.specs.Bytes.{be64}
use Rattle.plan_file.specs.PlanReading.{bit_of, domain_bit}
use Rattle.plan_file.proofs.Words.{field_there, filled_part, part_of_word}
use Rattle.plan_file.proofs.plan_reader.fill_domains.Goals as goal

pub loop-word-preserved : goal.loop-word-preserved
loop-word-preserved c =
    let w = c.loop-word.word in
    let n = c.args.registers in
    let k = c.min-end.result - 64 * w in
    let bytes = c.args.bytes.now in
    let now = c.loop-word.domains in
    let whole = c.record_bytes.ensures.length (omega (arith, c.requires.words, c.word_count-word-end.ensures, c.loop-word-test.true)) in
    let field = field_there _ (8 + 8) (length c.record_bytes.result.now) (be64 c.record_bytes.result.now 8) (omega (arith, whole)) c.word_at.ensures in
    let word = c.unwrap_or-bits.ensures ∙ field ∙ ap (λ xs. be64 xs 8) c.record_bytes.ensures.bytes in
    let there : 64 * w ≤ n = omega (arith, c.word_count-word-end.ensures, c.loop-word-test.true) in
    let at : min (64 * w) n ≡ 64 * w = omega arith in
    let long : length (take k (drop (64 * w) now)) ≡ k = omega (arith, length-take k (drop (64 * w) now), length-drop (64 * w) now, c.loop-word.auto.domains, c.requires.room, c.min-end.ensures) in
    let kept = c.loop-word.invariant ∙ ap (λ x. map (domain_bit bytes) (range_with_len 0 x) ++ drop x c.args.domains.now) at in
    let part = c.fill_word.ensures ∙ ap (λ x. map (bit_of c.unwrap_or-bits.result) (range_with_len 0 x)) long ∙ part_of_word bytes w k c.unwrap_or-bits.result (omega (arith, c.min-end.ensures)) word in
    filled_part (domain_bit bytes) c.args.domains.now now c.fill_word.new.domains (64 * w) k (min (64 * (w + 1)) n) (omega (arith, there, c.min-end.ensures)) kept part

pub returns : goal.returns
returns c =
    let n = c.args.registers in
    let at : min (64 * c.loop-word.word) n ≡ n = omega (arith, c.word_count-word-end.ensures, c.loop-word-test.false) in
    c.loop-word.invariant ∙ ap (λ x. map (domain_bit c.args.bytes.now) (range_with_len 0 x) ++ drop x c.args.domains.now) at
