use Rattle.std.proofs.Common.{◌++◌, map, vec_items, sym, ap, ◌∙◌, subst, arith}
use Rattle.std.specs.List.{AllByRecursion}
use Rattle.std.proofs.ByRecursion.{All-more}
use Rattle.std.proofs.lemmas.List.{take_all}
use Rattle.delay_file.specs.Files.{joined}
use Rattle.delay_file.specs.Records.{ReadsBack, pair_bytes, reading}
use Rattle.delay_file.proofs.Written.{pairs_more}
use Rattle.delay_file.proofs.whole_file.push_pairs.Goals as goal

pub loop-pair-preserved : goal.loop-pair-preserved
loop-pair-preserved c =
    let b = c.encode_pair.ensures.bytes in
    let ps = c.args.pairs.now in
    let i = c.loop-pair.pair-index in (
      c.in_ok-extend_from_slice.ensures.items
          ∙ ap (λ x. vec_items c.loop-pair.file ++ x) b
          ∙ pairs_more (vec_items c.args.file.now) (vec_items c.loop-pair.file) ps i _ (omega arith) c.loop-pair.invariant.0,
      All-more ReadsBack ps i _ (omega arith) c.loop-pair.invariant.1 (λ k. ap (reading k) (sym b) ∙ c.encode_pair.ensures.reads_back k),
    )

pub returns : goal.returns
returns c =
    let ps = c.args.pairs.now in
    let e = take_all c.loop-pair.pair-index ps (omega arith) in
    record {
      items = c.loop-pair.invariant.0 ∙ ap (λ xs. vec_items c.args.file.now ++ joined (map pair_bytes xs)) e;
      read = subst (AllByRecursion ReadsBack) e c.loop-pair.invariant.1;
    }
