use Rattle.std.proofs.Common.{◌≡◌, length, vec_len, ap, ◌∙◌, arith}
use Rattle.session.specs.Book.{book}
use Rattle.planner.proofs.Snoc.{runs_none, runs_more, runs_all}
use Rattle.planner.proofs.runs.run_into.Goals as goal

pub loop-call-init : goal.loop-call-init
loop-call-init c =
    let v = c.args.answers.now in
    let z : vec_len v ≡ 0 = v.ok.0 ∙ ap length c.requires.empty in
    (runs_none (book c.args.session.now) v.items c.requires.empty, z, c.requires.room)

pub loop-call-preserved : goal.loop-call-preserved
loop-call-preserved c = (
  runs_more (book c.args.session.now) (book c.loop-call.session) (book c.step.new.session) c.args.calls.now c.loop-call.call-index
      c.loop-call.answers.items c.push_reserved.new.self.items c.call-item.result c.step.result
      c.loop-call-test.true c.call-item.is c.loop-call.invariant.0 c.step.ensures.right c.step.ensures.next c.push_reserved.ensures.items,
  (let n = c.loop-call.invariant.1 in omega (arith, c.push_reserved.ensures.len)),
  (let n = c.loop-call.invariant.2 in omega (arith, c.push_reserved.ensures.capacity)),
)

pub returns : goal.returns
returns c = runs_all (book c.args.session.now) (book c.loop-call.session) c.args.calls.now c.loop-call.call-index c.loop-call.answers.items c.loop-call-test.false c.loop-call.invariant.0
