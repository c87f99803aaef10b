use Rattle.std.proofs.Common.{◌≡◌, ◌-◌, ◌≤◌, min, true, sym, refl, ap, ◌∙◌, arith}
use Rattle.std.proofs.Math.Bool.{or-true}
use Rattle.timing.specs.Meaning.{judged, pair}
use Rattle.session.specs.Book.{book}
use Rattle.session.specs.Loads.{given_pairs}
use Rattle.session.proofs.Turns.{stops_with, turn_present, turn_full, turn_taken, none_spare}
use Rattle.session.proofs.Session.would_add.Goals as goal
use Rattle.session.proofs.Session.would_add.Goals.{then-is_some-via-then-is_some, then-is_some-via-else-is_some+then-repeats}

pub returns-then-is_some : goal.returns-then-is_some
returns-then-is_some c =
    let b = book c.args.self.now in
    let t = c.args.turn.now in
    let ps = given_pairs t.view in
    let l : judged b.registers t.pair ≡ pair t.pair = ap (λ n. judged n t.pair) (sym c.requires.same) ∙ t.lawful in
    stops_with _ _ _ c.fault.ensures
    (elim c.then-is_some.branch [
      | then-is_some-via-then-is_some w ↦
          turn_present b ps t.place t.pair (omega (arith, t.within)) l _ true refl (sym c.place.ensures.found ∙ sym c.is_some.ensures ∙ w.if-is_some.true) (or-true _)
      | then-is_some-via-else-is_some+then-repeats w ↦
          turn_present b ps t.place t.pair (omega (arith, t.within)) l true _ (sym w.repeats.ensures ∙ w.if-repeats.true) refl refl
    ])

pub returns-then-spare-turn : goal.returns-then-spare-turn
returns-then-spare-turn c =
    let s = c.args.self.now in
    let t = c.args.turn.now in
    let l : judged s.registers t.pair ≡ pair t.pair = ap (λ n. judged n t.pair) (sym c.requires.same) ∙ t.lawful in
    let h : min s.pairs.len 16384 - s.used ≤ t.place = omega (arith, c.if-spare-turn.true, c.spare.ensures) in
    stops_with _ _ _ c.fault-then-spare-turn.ensures
    (turn_full (book s) (given_pairs t.view) t.place t.pair (omega (arith, t.within)) l (sym c.repeats.ensures ∙ c.if-repeats.false) (sym c.place.ensures.found ∙ sym c.is_some.ensures ∙ c.if-is_some.false) (none_spare s.pairs.len s.used t.place h))

pub returns : goal.returns
returns c =
    let s = c.args.self.now in
    let t = c.args.turn.now in
    let l : judged s.registers t.pair ≡ pair t.pair = ap (λ n. judged n t.pair) (sym c.requires.same) ∙ t.lawful in
    turn_taken (book s) (given_pairs t.view) t.place t.pair (omega (arith, t.within)) l (sym c.repeats.ensures ∙ c.if-repeats.false) (sym c.place.ensures.found ∙ sym c.is_some.ensures ∙ c.if-is_some.false)
    (omega (arith, c.if-spare-turn.false, c.spare.ensures)) (omega (arith, c.if-spare-turn.false, c.spare.ensures))
