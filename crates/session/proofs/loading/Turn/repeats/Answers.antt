use Rattle.std.proofs.Common.{◌+◌, subst, arith}
use Rattle.session.specs.Loads.{given_pairs}
use Rattle.session.specs.Orders.{KnownOrder}
use Rattle.session.proofs.Turns.{joins_found, rising_new}
use Rattle.session.proofs.loading.Turn.repeats.Goals as goal

pub returns-in-RisesTo : goal.returns-in-RisesTo
returns-in-RisesTo c =
    let t = c.args.self.now in
    rising_new (given_pairs t.view) t.place t.pair _ t.within t.given (subst (KnownOrder (given_pairs t.view) (t.place + 1)) c.in-RisesTo.is c.requires)

pub returns-in_default : goal.returns-in_default
returns-in_default c =
    let t = c.args.self.now in
    joins_found t.view t.place t.pair.launch t.pair.capture (omega (arith, t.within)) c.joins_before.result c.joins_before.ensures
