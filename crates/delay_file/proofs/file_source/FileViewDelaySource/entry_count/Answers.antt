use Rattle.std.proofs.Common.{arith}
use Rattle.delay_file.proofs.Entries.{entry_count_is}
use Rattle.delay_file.proofs.file_source.FileViewDelaySource.entry_count.Goals as goal

pub returns : goal.returns
returns c = let e = entry_count_is c.args.self.now in omega (arith, c.entries.ensures)
