use Rattle.std.proofs.Common.{arith}
use Rattle.session.specs.Book.{kept}
use Rattle.planner.proofs.SavedWhole.{saved_ok, saved_whole}
use Rattle.planner.proofs.runs.saved.Goals as goal

pub overflow_mul-pair_count : goal.overflow_mul-pair_count
overflow_mul-pair_count c = omega (arith, c.pair_count.ensures, c.args.session.now.few)

pub unwrap-requires : goal.unwrap-requires
unwrap-requires c =
    let n = c.save.ensures.lists.as_many in
    saved_ok (kept c.args.session.now) _ _ _ c.save.ensures.saved (omega (arith, c.as_mut_slice.ensures.len, c.in_ok-out.ensures.len, c.pair_count.ensures))

pub returns : goal.returns
returns c =
    let ps = kept c.args.session.now in
    let n = c.save.ensures.lists.as_many in
    let w = rw c.unwrap.ensures at c.save.ensures.saved in (
      ps,
      c.save.ensures.lists,
      saved_whole ps _ c.save.new.out c.in_ok-out.out.items c.in_ok-out.out.len c.as_mut_slice.ensures.len
          (omega (arith, c.save.auto.out, c.as_mut_slice.ensures.len))
          (omega (arith, c.in_ok-out.ensures.len, c.pair_count.ensures)) w.2,
    )
