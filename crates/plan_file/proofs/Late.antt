-- Late registers, counted by number and by the bytes of domain memory.
use Rattle.std.proofs.Common.{◌≡◌, ℕ, ◌+◌, ◌-◌, ◌<◌, ◌≤◌, min, Bool, true, false, eqb, ltb, List, length, get_or, take, count_by, refl, sym, ap, ◌∙◌, arith, length-take}
use Rattle.std.proofs.lemmas.Bool.{and_left, and_right, ltb-true, lt-ltb, le-ltb}
use Rattle.std.proofs.lemmas.List.{get_or-take, get_or_past}
use Rattle.plan_file.specs.PlanRecords.{late_at, late_number, count}
use Rattle.plan_file.proofs.Counted.{counted_places}
use Rattle.plan_file.proofs.Packed.{count_past}

-- a register past the last is not late
pub not_late : (n : ℕ) (ds : List ℕ) (r : ℕ) → n ≤ r → late_at n ds r ≡ false
not_late n ds r h = and_left (ltb r n) _ (le-ltb r n h)

pub late_there : (n : ℕ) (ds : List ℕ) (r : ℕ) → r < n → late_at n ds r ≡ eqb (get_or ds r 0) 1
late_there n ds r h = rw (lt-ltb r n h)

-- a register past the memory or past the last is not late
not_late_past : (n : ℕ) (ds : List ℕ) (r : ℕ) → min (length ds) n ≤ r → late_at n ds r ≡ false
not_late_past n ds r h = by (ltb r n) refl where
  by : (b : Bool) → ltb r n ≡ b → late_at n ds r ≡ false
  by true e = let l = ltb-true r n e in let past : length ds ≤ r = omega arith in and_right (ltb r n) _ (ap (λ x. eqb x 1) (get_or_past ds r 0 past))
  by false e = and_left (ltb r n) _ e

-- the late bytes of the memory of the registers are the late registers
pub late_bytes : (n : ℕ) (ds : List ℕ) → count_by (λ b. eqb b 1) (take (min (length ds) n) ds) ≡ late_number n ds
late_bytes n ds =
    let m = min (length ds) n in
    let xs = take m ds in
    let l : length xs ≡ m = omega (arith, length-take m ds) in
    let p : ◌≡◌ {A = ℕ} (m + (n - m)) n = omega arith in
    sym (counted_places (λ b. eqb b 1) (late_at n ds) xs 0 0 (λ i h. ap (late_at n ds) (omega arith) ∙ late_there n ds i (omega arith) ∙ ap (λ x. eqb x 1) (sym (get_or-take m ds i 0 (omega arith)))))
    ∙ ap (count (late_at n ds)) l
    ∙ sym (ap (count (late_at n ds)) (sym p) ∙ count_past (late_at n ds) m (n - m) (not_late_past n ds))
