use Rattle.std.proofs.Common.{List, length, get_or, ap, ◌∙◌, arith}
use Rattle.std.proofs.lemmas.List.{get_or_default}
use Rattle.timing.specs.declared.pair.Pair.{Pair}
use Rattle.session.specs.Book.{kept}
use Rattle.session.proofs.Kept.{kept_count}
use Rattle.session.proofs.SavedPairs.{loads_kept, pair_saved}
use Rattle.session.proofs.Session.save.Goals as goal

pub loop-place-preserved : goal.loop-place-preserved
loop-place-preserved c =
    let s = c.args.self.now in
    let k = c.loop-place.place in
    let n = ap length c.kept-kept.ensures in
    let l = kept_count s in
    pair_saved s k c.args.out.now c.loop-place.out c.put_pair.new.out (get_or c.kept-kept.result.now k _) (omega arith) c.loop-place.invariant
    (ap (λ (ps : List Pair). get_or ps k _) c.kept-kept.ensures ∙ get_or_default (kept s) k _ _ (omega arith)) c.put_pair.ensures

pub returns-then-out-bytes-clause-loads_back : goal.returns-then-out-bytes-clause-loads_back
returns-then-out-bytes-clause-loads_back c = loads_kept c.args.self.now

pub returns-clause-loads_back : goal.returns-clause-loads_back
returns-clause-loads_back c = loads_kept c.args.self.now
