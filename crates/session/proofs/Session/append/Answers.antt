use Rattle.std.proofs.Common.{sym, ap, ◌∙◌}
use Rattle.delay_file.specs.Records.{seen_pair}
use Rattle.session.specs.Book.{book}
use Rattle.session.proofs.Steps.{entry_read, given_there, load_on, reads_pair, takes_next}
use Rattle.session.proofs.Session.append.Goals as goal

pub unwrap-requires : goal.unwrap-requires
unwrap-requires c =
    let v = c.args.view.now in
    let i = c.loop-place.place in
    let h = given_there v i _ c.loop-place-test.true c.entry_count-place-end.ensures in
    reads_pair v i h (book c.loop-place.self) c.requires.0 (sym c.loop-place.invariant.0 ∙ c.requires.1) c.pair.result c.pair.ensures

pub put-requires : goal.put-requires
put-requires c =
    let v = c.args.view.now in
    let i = c.loop-place.place in
    let h = given_there v i _ c.loop-place-test.true c.entry_count-place-end.ensures in
    let e = entry_read v i h c.unwrap.result (ap seen_pair (sym c.unwrap.ensures) ∙ c.pair.ensures) in
    takes_next v i h (book c.loop-place.self) c.requires.0 (sym c.loop-place.invariant.0 ∙ c.requires.1) c.unwrap.result e

pub loop-place-preserved : goal.loop-place-preserved
loop-place-preserved c =
    let v = c.args.view.now in
    let i = c.loop-place.place in
    let b = book c.loop-place.self in
    let h = given_there v i _ c.loop-place-test.true c.entry_count-place-end.ensures in
    let e = entry_read v i h c.unwrap.result (ap seen_pair (sym c.unwrap.ensures) ∙ c.pair.ensures) in
    let a = takes_next v i h b c.requires.0 (sym c.loop-place.invariant.0 ∙ c.requires.1) c.unwrap.result e in
    (c.loop-place.invariant.0 ∙ load_on v i h b (book c.put.new.self) c.unwrap.result e a (sym c.put.ensures.next), c.put.ensures.pins ∙ c.loop-place.invariant.1)
