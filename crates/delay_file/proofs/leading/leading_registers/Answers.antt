use Rattle.std.proofs.Common.{sym, arith}
use Rattle.std.proofs.lemmas.Result.{err_from_is_err_and}
use Rattle.delay_file.specs.Files.{record_count}
use Rattle.delay_file.proofs.Runs.{counted_on, all_registers, run_ends, not_broken, broken, past_end, judged_no, judged_yes}
use Rattle.delay_file.proofs.leading.leading_registers.Goals as goal

pub returns-in_err-is_register : goal.returns-in_err-is_register
returns-in_err-is_register c =
    let q = err_from_is_err_and c.from_residual.result c.from_residual.ensures.1 in
    let k = c.loop-record.«record» in
    let bytes = c.args.bytes.now in
    let j = c.in_err-is_register.ensures in
    let e = run_ends bytes k (omega arith) c.loop-record.invariant j.0 in
    rw (q.1, q.2, e) (broken bytes k (omega arith) j.1, j.2)

pub returns-then-not-branch : goal.returns-then-not-branch
returns-then-not-branch c =
    let k = c.loop-record.«record» in
    let bytes = c.args.bytes.now in
    let j = judged_no bytes k c.in_ok-is_register.field-0 c.if-not-branch.true c.in_ok-is_register.ensures in
    (sym (run_ends bytes k (omega arith) c.loop-record.invariant j.0), not_broken bytes k j.1)

pub loop-record-preserved : goal.loop-record-preserved
loop-record-preserved c =
    let k = c.loop-record.«record» in
    let bytes = c.args.bytes.now in
    let j = judged_yes bytes k c.in_ok-is_register.field-0 c.if-not-branch.false c.in_ok-is_register.ensures in
    counted_on bytes k (omega arith) c.loop-record.invariant j

pub returns : goal.returns
returns c =
    let k = c.loop-record.«record» in
    let bytes = c.args.bytes.now in
    (sym (all_registers bytes k (omega arith) (omega arith) c.loop-record.invariant), past_end bytes (record_count bytes) (omega arith))
