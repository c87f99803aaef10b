use Rattle.std.proofs.Common.{arith, refl}
use Rattle.plan_file.specs.PlanReading.{bit_of}
use Rattle.plan_file.proofs.Words.{filled_all, filled_more}
use Rattle.plan_file.proofs.plan_reader.fill_word.Goals as goal

pub loop-i-preserved : goal.loop-i-preserved
loop-i-preserved c =
    filled_more (bit_of c.args.word) c.args.domains.now c.loop-i.domains c.loop-i.i _ c.loop-i-test.true c.loop-i.invariant refl

pub returns : goal.returns
returns c =
    filled_all (bit_of c.args.word) c.args.domains.now c.loop-i.domains c.loop-i.i _ (omega (arith, c.loop-i.auto.i-end, c.loop-i-test.false)) c.loop-i-test.false c.loop-i.invariant
