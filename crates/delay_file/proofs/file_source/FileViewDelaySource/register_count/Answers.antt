use Rattle.delay_file.proofs.Entries.{lawful_view}
use Rattle.delay_file.proofs.file_source.FileViewDelaySource.register_count.Goals as goal

pub returns-clause-lawful : goal.returns-clause-lawful
returns-clause-lawful c = lawful_view c.args.self.now
