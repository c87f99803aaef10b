-- Registers by their names.
use Rattle.std.proofs.Common.{◌≡◌, ℕ, ◌+◌, ◌<◌, ◌≤◌, Bool, List, Some, None, Option, Decides, unwrap_or, sym, ap, ◌∙◌, arith, Bor}
use Rattle.std.specs.Prelude.{◌↔◌, IsTrue, MatchOption}
use Rattle.std.specs.Option.{option_eq}
use Rattle.delay_file.specs.Records.{borrowed}
use Rattle.delay_file.specs.declared.view.FileView.{FileView}
use Rattle.delay_file.specs.Files.{register_name, view_registers}
use Rattle.clockplan.specs.Pins.{OnlyNamed, Unnamed}

-- a register has a name exactly where what was read of it is equal to the name
pub named_so : (v : FileView) (k : ℕ) (read : Option (Bor (List ℕ))) (text : Bor (List ℕ)) (name : List ℕ) (r : Bool) (same : List ℕ → List ℕ → Bool) → ((x y : List ℕ) → Decides (same x y) (x ≡ y)) → r ≡ option_eq (λ x y. same x.now y.now) read (Some text) → borrowed read ≡ register_name v k → text.now ≡ name → IsTrue r ↔ (register_name v k ≡ Some name)
named_so v k None text name r same dec e n p = (λ t. absurd (let f = sym e ∙ t in grind arith), λ q. absurd (let f = n ∙ q in grind arith))
named_so v k (Some found) text name r same dec e n p = (
  λ t. sym n ∙ ap Some ((dec found.now text.now).0 (sym e ∙ t) ∙ p),
  λ q. e ∙ (dec found.now text.now).1 (ap (λ o. unwrap_or o found.now) (n ∙ q) ∙ sym p),
)

-- the register that a search from a number on finds
pub first_of_name : (v : FileView) (name : List ℕ) (from s e : ℕ) (r : Option ℕ) → s ≡ from → e ≡ view_registers v → MatchOption r ((k : ℕ) → s ≤ k → k < e → register_name v k ≡ Some name → ⊥) (λ i. (s ≤ i) × (i < e) × (register_name v i ≡ Some name) × ((k : ℕ) → s ≤ k → k < i → register_name v k ≡ Some name → ⊥)) → MatchOption r (Unnamed v name from (view_registers v)) (λ k. (k < view_registers v) × (register_name v k ≡ Some name) × Unnamed v name from k)
first_of_name v name from s e None p q h = λ j a b. h j (omega arith) (omega arith)
first_of_name v name from s e (Some i) p q h = (omega (arith, h.1), h.2, λ j a b. h.3 j (omega arith) b)

-- none before a register and none behind it has its name
pub only_one : (v : FileView) (name : List ℕ) (k : ℕ) → register_name v k ≡ Some name → Unnamed v name 0 k → Unnamed v name (k + 1) (view_registers v) → OnlyNamed v name k
only_one v name k e before behind = (
  e,
  λ j h q.
      let a : j < k → ⊥ = λ l. before j (omega arith) l q in
      let b : k + 1 ≤ j → ⊥ = λ l. behind j l h q in
      omega (arith, a, b),
)
