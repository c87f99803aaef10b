use Rattle.std.proofs.Common.{ℕ, List, Ok, ap, ◌∙◌, arith}
use Rattle.plan_file.specs.PlanRecords.{head_record, word_record}
use Rattle.plan_file.specs.Written.{Wrote}
use Rattle.plan_file.specs.declared.head.Head.{Head}
use Rattle.plan_file.proofs.RoundTrips.{written_reads_back}
use Rattle.plan_file.proofs.Writing.{bits_are_registers, headed, one_word, ones_are_late, ended}
use Rattle.plan_file.proofs.checked_plan.CheckedPlan.write.Goals as goal

-- the record of a head
abbrev of_head : Head → List ℕ
of_head h = head_record h.numbers.period h.numbers.offset h.numbers.registers h.late

pub loop-word-preserved : goal.loop-word-preserved
loop-word-preserved c =
    let p = c.args.self.now in
    let d = p.draft in
    one_word d.period d.offset p.registers d.domains.now c.put_record.new.out c.loop-word.out c.put_record-in-loop-word.new.out c.word_bytes.result c.loop-word.word (omega (arith, c.word_count-word-end.ensures)) c.loop-word.invariant
    (c.word_bytes.ensures ∙ ap (word_record _) c.word-late.ensures) c.put_record-in-loop-word.ensures

pub returns : goal.returns
returns c =
    let p = c.args.self.now in
    let d = p.draft in
    let n = p.registers in
    let ds = d.domains.now in
    let head = headed d.period d.offset n ds c.args.out.now c.put_record.new.out c.bytes.result (c.bytes.ensures ∙ ap of_head c.head.ensures) c.put_record.ensures in
    let w : Wrote d.period d.offset n ds c.args.out.now c.loop-word.out (Ok c.file_length-length.result) = (
      c.file_length-length.ensures,
      omega (arith, c.file_length-length.ensures),
      ended d.period d.offset n ds c.args.out.now c.put_record.new.out c.loop-word.out c.loop-word.word (omega (arith, c.word_count-word-end.ensures)) head c.loop-word.invariant,
    ) in
    record {
      wrote = w;
      reads_back = written_reads_back d.period d.offset n ds c.args.out.now c.loop-word.out (Ok c.file_length-length.result) p.period_within p.offset_within p.registers_within w;
      bits = bits_are_registers n ds;
      ones = ones_are_late n ds;
    }

pub returns-then-out-length-clause-bits : goal.returns-then-out-length-clause-bits
returns-then-out-length-clause-bits c = bits_are_registers c.args.self.now.registers c.args.self.now.draft.domains.now

pub returns-then-out-length-clause-ones : goal.returns-then-out-length-clause-ones
returns-then-out-length-clause-ones c = ones_are_late c.args.self.now.registers c.args.self.now.draft.domains.now
