use Rattle.std.proofs.Common.{◌≡◌, ◌-◌, ◌<◌, Some, refl, sym, subst, arith}
use Rattle.session.specs.Pairs.{KeepsLimits}
use Rattle.session.proofs.Books.{same_book}
use Rattle.session.proofs.Kept.{within_places}
use Rattle.session.proofs.Look.{find_moved, apart_moved, lawful_wrote}
use Rattle.session.proofs.Session.drop_pair.Goals as goal

pub invariant_of-self : goal.invariant_of-self
invariant_of-self c =
    let s = c.args.self.now in
    let n = s.used in
    let i = c.in_ok-place.place in
    let e : c.place.result ≡ Some i = grind arith in
    let h : i < n = rw e at c.place.ensures.there in
    let p = c.index-last.result.now in
    let w = subst (KeepsLimits s.registers) (sym c.index-last.ensures) (s.lawful (n - 1) p (omega arith)) in
    record {
      registers_within = s.registers_within;
      fits = omega arith;
      few = omega (arith, s.few);
      pin_bytes = s.pin_bytes;
      apart = apart_moved n s.pairs.items i p p (within_places s) h c.index-last.ensures s.apart;
      lawful = lawful_wrote s.registers n (n - 1) s.pairs.items i p (omega arith) w (λ k m ne. omega arith) s.lawful;
    }

pub returns-clause-next : goal.returns-clause-next
returns-clause-next c =
    let s = c.args.self.now in
    let i = c.in_ok-place.place in
    let e : c.place.result ≡ Some i = grind arith in
    let p = c.index-last.result.now in
    same_book _ _ refl refl (find_moved s.used s.pairs.items i p p c.args.launch c.args.capture (within_places s) (rw e at c.place.ensures.there) c.index-last.ensures s.apart (rw e at c.place.ensures.joins)) refl refl refl
