use Rattle.std.proofs.Common.{◌≡◌, ◌<◌, Some, sym, refl, arith}
use Rattle.session.proofs.Books.{same_book, kept_limits}
use Rattle.session.proofs.Kept.{within_places}
use Rattle.session.proofs.Look.{find_replaced, apart_replaced, lawful_wrote}
use Rattle.session.proofs.Session.retime.Goals as goal

pub invariant_of-self : goal.invariant_of-self
invariant_of-self c =
    let s = c.args.self.now in
    let n = s.used in
    let p = c.args.pair in
    let i = c.in_ok-place.place in
    let e : c.place.result ≡ Some i = grind arith in
    let h : i < n = rw e at c.place.ensures.there in
    let w = kept_limits s.registers p c.in_ok-validate.field-0 (sym c.in_ok-validate.ensures.answer) in
    record {
      registers_within = s.registers_within;
      fits = omega arith;
      few = s.few;
      pin_bytes = s.pin_bytes;
      apart = apart_replaced n s.pairs.items i p (within_places s) h (rw e at c.place.ensures.joins) s.apart;
      lawful = lawful_wrote s.registers n n s.pairs.items i p (omega arith) w (λ k m ne. m) s.lawful;
    }

pub returns-clause-next : goal.returns-clause-next
returns-clause-next c =
    let s = c.args.self.now in
    let i = c.in_ok-place.place in
    let e : c.place.result ≡ Some i = grind arith in
    same_book _ _ refl refl (find_replaced s.used s.pairs.items i c.args.pair (within_places s) (rw e at c.place.ensures.there) (rw e at c.place.ensures.joins) s.apart) refl refl refl
