use Rattle.std.proofs.Common.{◌≡◌, ℕ, List, ◌++◌, drop, length, replicate, refl, ap, ◌∙◌, arith}
use Rattle.std.proofs.lemmas.List.{take_at}
use Rattle.session.proofs.Books.{same_book, freed_front, freed_rest}
use Rattle.session.proofs.Session.open.Goals as goal

pub returns-clause-book : goal.returns-clause-book
returns-clause-book c =
    let n = c.args.registers in
    let o : length c.free_pins.new.pins ≡ c.args.pin_memory.len = omega (arith, c.free_pins.auto.pins, c.as_mut_slice.ensures.len) in
    let e = take_at c.free_pins.new.pins _ c.args.pin_memory.len o ∙ c.free_pins.ensures ∙ ap (λ (xs : List ℕ). replicate n 2 ++ drop n xs) c.as_mut_slice.ensures.value in
    same_book _ _ refl refl (λ x y. refl) refl (freed_front n c.args.pin_memory.items _ e) refl

pub returns-clause-memory : goal.returns-clause-memory
returns-clause-memory c =
    let n = c.args.registers in
    let o : length c.free_pins.new.pins ≡ c.args.pin_memory.len = omega (arith, c.free_pins.auto.pins, c.as_mut_slice.ensures.len) in
    let e = take_at c.free_pins.new.pins _ c.args.pin_memory.len o ∙ c.free_pins.ensures ∙ ap (λ (xs : List ℕ). replicate n 2 ++ drop n xs) c.as_mut_slice.ensures.value in
    (refl, freed_rest n c.args.pin_memory.items _ e)
