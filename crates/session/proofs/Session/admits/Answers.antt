use Rattle.std.proofs.Common.{◌+◌, ◌∙◌}
use Rattle.session.specs.Book.{book}
use Rattle.session.specs.Orders.{with_first}
use Rattle.session.proofs.Steps.{first_more, given_there, load_on}
use Rattle.session.proofs.Session.admits.Goals as goal

pub loop-place-preserved : goal.loop-place-preserved
loop-place-preserved c =
    let v = c.args.view.now in
    let b = book c.args.self.now in
    let i = c.loop-place.place in
    let h = given_there v i _ c.loop-place-test.true c.entry_count-place-end.ensures in
    let a = c.in_ok-order.ensures in
    (a.4, c.loop-place.invariant.1 ∙ load_on v i h (with_first b v i) (with_first b v (i + 1)) a.0 a.1 a.3 (first_more v i h b a.0 a.2))
