use Rattle.session.proofs.Kept.{lawful_session}
use Rattle.session.proofs.view.SessionViewDelaySource.register_count.Goals as goal

pub returns-clause-lawful : goal.returns-clause-lawful
returns-clause-lawful c = lawful_session c.args.self.now.session.now
