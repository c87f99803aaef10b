use Rattle.std.proofs.Common.{ap, arith}
use Rattle.std.proofs.lemmas.Bool.Decides.{nat_tests}
use Rattle.delay_file.specs.Records.{fault_seen}
use Rattle.delay_file.proofs.view.FileView.record.Goals as goal

pub returns-then-number-record_count : goal.returns-then-number-record_count
returns-then-number-record_count c = let e = ap fault_seen c.of_file.ensures in grind (arith, nat_tests)
