use Rattle.std.proofs.Common.{◌≡◌, ℕ, take, set, refl, ap, ◌∙◌, arith, rules}
use lib.Seq.{take-set-lt}
use Rattle.session.specs.Book.{pin_byte}
use Rattle.session.proofs.Books.{same_book}
use Rattle.session.proofs.Session.set_pin.Goals as goal

pub returns-clause-next : goal.returns-clause-next
returns-clause-next c =
    let s = c.args.self.now in
    let r = c.args.register in
    let e : c.map_or.result ≡ pin_byte c.args.pin = search rules in
    same_book _ _ refl refl (λ x y. refl) refl (take-set-lt s.registers s.pins.items r _ (omega arith) ∙ ap (λ (b : ℕ). set (take s.registers s.pins.items) r b) e) refl
