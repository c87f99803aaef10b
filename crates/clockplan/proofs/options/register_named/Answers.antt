use Rattle.clockplan.proofs.Names.{only_one}
use Rattle.clockplan.proofs.options.register_named.Goals as goal

pub returns-in-None : goal.returns-in-None
returns-in-None c =
    let first = c.in-Some.ensures in
    (first.0, only_one c.args.view.now c.args.name.now c.in-Some.first first.1 first.2 c.in-None.ensures)
