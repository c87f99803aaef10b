-- The first register that is not in its pinned domain.
use Rattle.std.proofs.Common.{◌≡◌, ℕ, ◌-◌, ◌≤◌, Bool, true, false, cond, List, [], ◌∷◌, Some, None, not, sym, refl, ap, ◌∙◌, Option, arith}
use Rattle.std.specs.List.{find, range_with_len}
use Rattle.timing.specs.Meaning.{Meaning}
use Rattle.timing.specs.declared.refusal.Part.TheVariants.{Ceiling, Pin}
use Rattle.plan_file.specs.Drafts.{Verdict, broken, by_excess, entries_from, pins_from, time_of, verdict}
use Rattle.plan_file.specs.Found.{is_met}

-- a register whose pin is broken, if there is one; else the rest decides
abbrev pub by_pin : Option ℕ → Verdict → Verdict
by_pin None rest = rest
by_pin (Some r) rest = broken Pin r 0

one_pin : (pins ds : List ℕ) (b : Bool) (r : ℕ) (rs : List ℕ) (rest : Verdict) → pins_from pins ds rs rest ≡ by_pin (find (λ k. not (is_met pins ds k)) rs) rest → cond b (pins_from pins ds rs rest) (broken Pin r 0) ≡ by_pin (cond (not b) (Some r) (find (λ k. not (is_met pins ds k)) rs)) rest
one_pin pins ds true r rs rest e = e
one_pin pins ds false r rs rest e = refl

-- what a row of pins says is what its first register says that is not met
pub pins_from-find : (pins ds rs : List ℕ) (rest : Verdict) → pins_from pins ds rs rest ≡ by_pin (find (λ k. not (is_met pins ds k)) rs) rest
pins_from-find pins ds [] rest = refl
pins_from-find pins ds (r ∷ rs) rest = one_pin pins ds (is_met pins ds r) r rs rest (pins_from-find pins ds rs rest)

-- under the ceiling, the first register that is not met decides, then the entries
pub verdict-by_pin : (m : Meaning) (pins : List ℕ) (ceiling T s : ℕ) (ds : List ℕ) (n : ℕ) (o : Option ℕ) → s ≤ ceiling → n ≡ m.registers → o ≡ find (λ k. not (is_met pins ds k)) (range_with_len 0 n) → verdict m pins ceiling T s ds ≡ by_pin o (entries_from T (time_of s ds) 0 m.entries)
verdict-by_pin m pins ceiling T s ds n o under count found =
    let rest = entries_from T (time_of s ds) 0 m.entries in
    let z : s - ceiling ≡ 0 = omega arith in
    ap (λ x. by_excess Ceiling 0 x (pins_from pins ds (range_with_len 0 m.registers) rest)) z
    ∙ pins_from-find pins ds (range_with_len 0 m.registers) rest
    ∙ ap (λ k. by_pin (find (λ r. not (is_met pins ds r)) (range_with_len 0 k)) rest) (sym count)
    ∙ ap (λ r. by_pin r rest) (sym found)
