-- What passes the judgement of a pair is lawful.
use Rattle.std.proofs.Common.{◌≡◌, ℕ, Bool, true, false, cond, ◌&&◌, ◌||◌, leb, arith}
use lib.Signed.{le_z}
use Rattle.std.proofs.lemmas.Int.{ints}
use Rattle.std.proofs.lemmas.Bool.{cond_both}
use Rattle.std.proofs.lemmas.Bool.Decides.{nat_tests}
use Rattle.timing.specs.Bounds.{least_delay, greatest_delay, missing}
use Rattle.timing.specs.Delays.{Lawful}
use Rattle.timing.specs.Meaning.{Entry, pair, faulty, LawfulEntry, judged}
use Rattle.timing.specs.declared.pair.Pair.{Pair}

in_limits : (n : ℕ) (p : Pair) → (leb n p.launch || leb n p.capture) ≡ false → (le_z least_delay p.min && (le_z p.min p.max && le_z p.max greatest_delay)) ≡ true → Lawful n p
in_limits n p r d =
    record {
      launch_there = grind (arith, nat_tests);
      capture_there = grind (arith, nat_tests);
      min_within = grind (arith, ints);
      in_order = grind (arith, ints);
      max_within = grind (arith, ints);
    }

pub lawful_judged : (n : ℕ) (p : Pair) → LawfulEntry n (judged n p)
lawful_judged n p =
    let d = le_z least_delay p.min && (le_z p.min p.max && le_z p.max greatest_delay) in
    let within : Entry = cond d (pair p) (faulty 3) in
    let there : Entry = cond (missing p.min || missing p.max) (faulty 14) within in
    cond_both (leb n p.launch || leb n p.capture) (faulty 2) there (LawfulEntry n) (λ _. tt) (λ r.
    cond_both (missing p.min || missing p.max) (faulty 14) within (LawfulEntry n) (λ _. tt) (λ _.
    cond_both d (pair p) (faulty 3) (LawfulEntry n) (in_limits n p r) (λ _. tt)))

judged_by : (p q : Pair) (x y z : Bool) → cond x (faulty 2) (cond y (faulty 14) (cond z (pair p) (faulty 3))) ≡ pair q → q ≡ p
judged_by p q true y z e = absurd (let o : ◌≡◌ {A = ℕ} 0 1 = cc in omega arith)
judged_by p q false true z e = absurd (let o : ◌≡◌ {A = ℕ} 0 1 = cc in omega arith)
judged_by p q false false true e = cc
judged_by p q false false false e = absurd (let o : ◌≡◌ {A = ℕ} 0 1 = cc in omega arith)

-- a pair that passes the judgement is the pair as given
pub judged_same : (n : ℕ) (p q : Pair) → judged n p ≡ pair q → q ≡ p
judged_same n p q e =
    judged_by p q (leb n p.launch || leb n p.capture) (missing p.min || missing p.max) (le_z least_delay p.min && (le_z p.min p.max && le_z p.max greatest_delay)) e
