use Rattle.std.proofs.Common.{sym, ◌∙◌, arith}
use Rattle.std.proofs.lemmas.Bool.{le-leb}
use Rattle.plan_file.proofs.Layouts.{below_more_bits, no_bits_from}
use Rattle.plan_file.proofs.plan_reader.is_below_bit.Goals as goal

pub returns-then-bits-ge64 : goal.returns-then-bits-ge64
returns-then-bits-ge64 c = le-leb 64 c.args.bits (omega arith) ∙ sym (below_more_bits c.args.word c.args.bits (omega arith) (omega arith))

pub returns-else-bits-ge64 : goal.returns-else-bits-ge64
returns-else-bits-ge64 c = no_bits_from c.args.word c.args.bits
