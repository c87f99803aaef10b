use Rattle.session.specs.Loads.{given_pairs}
use Rattle.session.proofs.Steps.{entry_read, entry_given, entry_lawful, order_more}
use Rattle.session.proofs.Session.admit.Goals as goal

pub invariant_of-turn : goal.invariant_of-turn
invariant_of-turn c =
    let v = c.args.view.now in
    let i = c.args.place in
    let p = c.in_ok-pair.pair in
    let e = entry_read v i c.requires.within p c.in_ok-pair.ensures in
    record { within = c.requires.within; given = entry_given v i c.requires.within p e; lawful = entry_lawful v i c.requires.within p e }

pub would_add-requires-clause-order : goal.would_add-requires-clause-order
would_add-requires-clause-order c =
    let v = c.args.view.now in
    let i = c.args.place in
    let p = c.in_ok-pair.pair in
    let e = entry_read v i c.requires.within p c.in_ok-pair.ensures in
    order_more (given_pairs v) i p c.args.order c.with.result c.requires.within (entry_given v i c.requires.within p e) c.requires.order c.with.ensures

pub returns : goal.returns
returns c =
    let v = c.args.view.now in
    let i = c.args.place in
    let p = c.in_ok-pair.pair in
    let e = entry_read v i c.requires.within p c.in_ok-pair.ensures in
    let g = entry_given v i c.requires.within p e in
    (p, e, g, c.in_ok-would_add.ensures, order_more (given_pairs v) i p c.args.order c.with.result c.requires.within g c.requires.order c.with.ensures)
