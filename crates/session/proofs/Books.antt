-- Books with equal parts are equal, and what the book answers.
use Rattle.std.proofs.Common.{◌≡◌, ℕ, ◌<◌, false, cond, not, leb, List, ◌++◌, take, drop, replicate, is_some, Some, None, Option, sym, refl, ap, ◌∙◌, subst, arith}
use Rattle.std.proofs.lemmas.List.{length-replicate, take_at, drop_at}
use Rattle.std.proofs.lemmas.Bool.{leb-false, not-true, or_parts}
use Rattle.timing.proofs.Judging.{lawful_judged, judged_same}
use Rattle.timing.proofs.Rows.{passed}
use Rattle.timing.specs.Delays.{Lawful}
use Rattle.timing.specs.Meaning.{Entry, pair, faulty, LawfulEntry, judged}
use Rattle.timing.specs.Outcomes.{Outcome, granted}
use Rattle.timing.specs.declared.pair.Pair.{Pair}
use Rattle.session.specs.Book.{Book, add_answer, unless_judged, has, full}
use Rattle.session.specs.Pairs.{KeepsLimits}

pub same_book : (b c : Book) → b.registers ≡ c.registers → b.places ≡ c.places → ((x y : ℕ) → b.at x y ≡ c.at x y) → b.count ≡ c.count → b.pins ≡ c.pins → b.ceiling ≡ c.ceiling → b ≡ c
same_book b c r p a n q m = λ i. record { registers = r i; places = p i; at = λ x y. a x y i; count = n i; pins = q i; ceiling = m i }

-- pin memory of which the first n bytes were set free
pub freed_front : (n : ℕ) (was is : List ℕ) → is ≡ replicate n 2 ++ drop n was → take n is ≡ replicate n 2
freed_front n was is e = ap (take n) e ∙ take_at (replicate n 2) (drop n was) n (length-replicate n 2)

pub freed_rest : (n : ℕ) (was is : List ℕ) → is ≡ replicate n 2 ++ drop n was → drop n is ≡ drop n was
freed_rest n was is e = ap (drop n) e ∙ drop_at (replicate n 2) (drop n was) n (length-replicate n 2)

pub none_there : {X : Type 0} (o : Option X) → is_some o ≡ false → o ≡ None
none_there None e = refl
none_there (Some x) e = absurd (let z : ◌≡◌ {A = ℕ} 0 1 = ap (λ b. cond b 1 0) (sym e) in omega arith)

-- a pair that passes the judgement keeps its limits
pub kept_limits : (n : ℕ) (p q : Pair) → judged n p ≡ pair q → KeepsLimits n p
kept_limits n p q e =
    let l : Lawful n q = subst (LawfulEntry n) e (lawful_judged n p) in
    subst (KeepsLimits n) (judged_same n p q e) (l.launch_there, l.capture_there, l.min_within, l.in_order, l.max_within)

passed_judgement : (e : Entry) (rest : Outcome (Unit {0})) → granted tt ≡ unless_judged e rest → ((q : Pair) × (e ≡ pair q)) × (granted tt ≡ rest)
passed_judgement (pair q) rest h = ((q, refl), h)
passed_judgement (faulty k) rest h = absurd (let z : ◌≡◌ {A = ℕ} 0 1 = cc in omega arith)

-- what it says that add takes a pair
pub record Addable (b : Book) (p : Pair) : Type 0 where
  pub limits : KeepsLimits b.registers p
  pub absent : b.at p.launch p.capture ≡ None
  pub few : b.count < 16384
  pub room : b.count < b.places

pub addable : (b : Book) (p : Pair) → granted tt ≡ add_answer b p → Addable b p
addable b p h =
    let j = passed_judgement (judged b.registers p) _ h in
    let x = passed (not (has b p.launch p.capture)) 4 tt _ j.1 in
    let y = or_parts (leb 16384 b.count) (leb b.places b.count) (not-true (full b) (passed (not (full b)) 6 tt _ x.1).0) in
    record {
      limits = kept_limits b.registers p j.0.0 j.0.1;
      absent = none_there (b.at p.launch p.capture) (not-true (has b p.launch p.capture) x.0);
      few = leb-false _ _ y.0;
      room = leb-false _ _ y.1;
    }
