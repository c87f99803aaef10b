use Rattle.std.proofs.Common.{Some, None, sym, ◌∙◌}
use Rattle.plan_file.proofs.Pins.{verdict-by_pin}
use Rattle.plan_file.proofs.first_broken.first_broken.Goals as goal

pub returns-in-Some : goal.returns-in-Some
returns-in-Some g c =
    let m = g.S.DelaySource.meaning c.args.source.now in
    let d = c.args.draft.now in
    sym (verdict-by_pin m c.args.pins.now c.args.ceiling d.period d.offset d.domains.now _ (Some c.in-Some.register) c.if-draft-ceiling.false c.register_count.ensures.value c.in-Some.ensures)

pub returns-in-None : goal.returns-in-None
returns-in-None g c =
    let m = g.S.DelaySource.meaning c.args.source.now in
    let d = c.args.draft.now in
    c.broken_limit.ensures ∙ sym (verdict-by_pin m c.args.pins.now c.args.ceiling d.period d.offset d.domains.now _ None c.if-draft-ceiling.false c.register_count.ensures.value c.in-None.ensures)
