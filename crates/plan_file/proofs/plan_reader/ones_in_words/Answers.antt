use Rattle.std.proofs.Common.{◌≡◌, ◌+◌, ◌*◌, None, Some, sym, ap, ◌∙◌, arith, rules}
use lib.Count.{ones, ones-le}
use Rattle.std.proofs.lemmas.Result.{err_from_is_err_and}
use Rattle.timing.specs.Table.{refusal_number}
use Rattle.plan_file.specs.PlanReading.{refused, word_good, be64, ones_in}
use Rattle.plan_file.proofs.Words.{was_read, not_read, good_more, good_until, good_all, ones_more, ones_none, words_short, words_extra, words_whole}
use Rattle.plan_file.proofs.plan_reader.ones_in_words.Goals as goal

pub loop-word-init : goal.loop-word-init
loop-word-init c = (omega arith, ones_none c.args.bytes.now, omega arith)

pub returns-in_err-bits : goal.returns-in_err-bits
returns-in_err-bits c =
    let n = c.args.registers in
    let bytes = c.args.bytes.now in
    let j = c.loop-word.word in
    let p = err_from_is_err_and c.from_residual.result c.from_residual.ensures.1 in
    let none : c.word_in.result ≡ None = search rules in
    let fault : c.in_err-bits.field-0.0 ≡ c.at.result = search rules in
    let b = not_read _ _ (sym none ∙ c.word_in.ensures) in
    let e = good_until bytes n j (omega (arith, c.word_count-words.ensures)) c.loop-word.invariant.0 (ap (word_good n (64 * j)) (sym c.record_bytes.ensures.bytes) ∙ b) in
    rw p.1 (words_short bytes n (omega (arith, c.word_count-words.ensures)), ap (λ f. refused (refusal_number f.refusal) f.«record») (p.2 ∙ fault ∙ c.at.ensures) ∙ ap (λ k. refused 13 (Some (1 + k))) (sym e))

pub loop-word-preserved : goal.loop-word-preserved
loop-word-preserved c =
    let n = c.args.registers in
    let bytes = c.args.bytes.now in
    let j = c.loop-word.word in
    let w = was_read _ c.in_ok-bits.bits _ (search rules) in
    let r = c.record_bytes.ensures.bytes in
    let o = ap ones (w.1 ∙ ap (λ xs. be64 xs 8) r) in (
      good_more bytes n j (omega (arith, c.word_count-words.ensures)) c.loop-word.invariant.0 (ap (word_good n (64 * j)) (sym r) ∙ w.0),
      ap (λ k. c.loop-word.late + k) o ∙ ones_more bytes n j c.loop-word.late c.loop-word.invariant.1,
      omega (arith, ones-le 64 c.in_ok-bits.bits (search rules)),
    )

pub returns-then-bytes-words : goal.returns-then-bytes-words
returns-then-bytes-words c =
    let n = c.args.registers in
    let bytes = c.args.bytes.now in
    let q = c.word_count-words.ensures in
    let e = good_all bytes n c.loop-word.word (omega (arith, q)) c.loop-word.invariant.0 in
    (words_extra bytes n (omega (arith, q)), ap (λ f. refused (refusal_number f.refusal) f.«record») c.at-then-bytes-words.ensures ∙ ap (λ k. refused 13 (Some (1 + k))) (q ∙ sym e))

pub returns : goal.returns
returns c =
    let n = c.args.registers in
    let bytes = c.args.bytes.now in
    let q = c.word_count-words.ensures in
    let e = good_all bytes n c.loop-word.word (omega (arith, q)) c.loop-word.invariant.0 in
    (words_whole bytes n e (omega (arith, q)), c.loop-word.invariant.1 ∙ ap (ones_in bytes) (omega (arith, q)))
