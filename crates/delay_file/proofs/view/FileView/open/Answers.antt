use Rattle.std.proofs.Common.{arith}
use Rattle.delay_file.proofs.Runs.{run_within}
use Rattle.delay_file.proofs.view.FileView.open.Goals as goal

pub invariant_of-result-clause-registers_there : goal.invariant_of-result-clause-registers_there
invariant_of-result-clause-registers_there c = let h = run_within c.args.bytes.now in omega (arith, (c.in_ok-registers.ensures).0)
