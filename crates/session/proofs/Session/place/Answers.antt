use Rattle.std.proofs.Common.{List, ap, ◌∙◌}
use Rattle.std.specs.List.{position}
use Rattle.timing.specs.declared.pair.Pair.{Pair}
use Rattle.session.specs.Pairs.{joins}
use Rattle.session.proofs.Kept.{first_place}
use Rattle.session.proofs.Session.place.Goals as goal

pub returns : goal.returns
returns c =
    let a = c.args.launch in
    let b = c.args.capture in
    let p = first_place c.args.self.now a b c.place_in.result (c.place_in.ensures ∙ ap (λ (ps : List Pair). position (λ p. joins p a b) ps) c.kept.ensures) in
    record { found = p.0; there = p.1; joins = p.2 }
