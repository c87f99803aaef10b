use Rattle.std.proofs.Common.{length, ap, ◌∙◌, arith, rules}
use Rattle.delay_file.proofs.Parts.{part_is, record_length}
use Rattle.delay_file.proofs.layout.record_bytes.Goals as goal

pub returns : goal.returns
returns c =
    let e = part_is c.args.bytes.now c.args.«record» c.min-at.result c.min-end.result (search rules) (omega arith) (omega arith) in
    record { bytes = e; length = λ h. ap length e ∙ record_length c.args.bytes.now c.args.«record» h }
