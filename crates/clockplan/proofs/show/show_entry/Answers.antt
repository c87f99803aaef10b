use Rattle.clockplan.proofs.Faulty.{fault_there}
use Rattle.clockplan.proofs.show.show_entry.Goals as goal

pub returns-in_ok-show_faulty-in-Err : goal.returns-in_ok-show_faulty-in-Err
returns-in_ok-show_faulty-in-Err c = fault_there c.args.view.now c.args.place _ _ c.in-Err.ensures
