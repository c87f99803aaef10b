-- What a verdict names as broken first is broken, and everything before it is kept.
use Rattle.std.proofs.Common.{◌≡◌, ℕ, zero, suc, ◌+◌, ◌-◌, ◌<◌, ◌≤◌, Bool, true, false, cond, eqb, ◌⊎◌, List, [], ◌∷◌, length, get_or, take, ℤ, pos, negsuc, ◌+ℤ◌, sym, refl, ap, ◌∙◌, subst, inl, inr, ⊎_elim, arith}
use Rattle.std.specs.List.{range_with_len, AllByRecursion}
use Rattle.std.proofs.lemmas.Int.{ints}
use Rattle.std.proofs.lemmas.Bool.{cond_both, eqb-true, eqb-false}
use Rattle.timing.specs.Delays.{Setup, setup_slack, hold_slack}
use Rattle.timing.specs.Meaning.{Entry, pair, faulty, Meaning}
use Rattle.timing.specs.Plans.{Met}
use Rattle.timing.specs.Slacks.{excess}
use Rattle.timing.specs.declared.pair.Pair.{Pair}
use Rattle.timing.specs.declared.refusal.Part.{Part}
use Rattle.timing.specs.declared.refusal.Part.TheVariants as part
use Rattle.plan_file.specs.Drafts.{Verdict, broken, by_excess, entries_from, pins_from, pin_met, verdict, time_of}
use Rattle.timing.specs.Plans.{domains_of}
use Rattle.plan_file.specs.Laws.{IsPair, FirstBroken}
use Rattle.plan_file.proofs.Legal.{KeptAt, pin_kept_from, pin_kept_to, no_excess, setup_from, hold_from}

-- two verdicts that name the same
same_broken : {p q : Part} {k j e f : ℕ} → broken p k e ≡ broken q j f → (p ≡ q) × (k ≡ j) × (e ≡ f)
same_broken h = (cc, cc, cc)

-- a slack with an excess lies below 0 by it
short_by : (z : ℤ) (e : ℕ) → excess z ≡ suc e → z +ℤ pos (suc e) ≡ pos 0
short_by (pos n) e h = absurd (omega arith)
short_by (negsuc n) e h = let k : n ≡ e = omega arith in omega (arith, ints)

-- one part of a row: it is the broken one, or the rest names it
one_part : (q : Part) (j x : ℕ) (rest : Verdict) (p : Part) (k e : ℕ) → by_excess q j x rest ≡ broken p k e → ((x ≡ 0) × (rest ≡ broken p k e)) ⊎ ((p ≡ q) × (k ≡ j) × (0 < e) × (x ≡ e))
one_part q j zero rest p k e h = inl (refl, h)
one_part q j (suc x) rest p k e h = let s = same_broken h in inr (sym s.0, sym s.1, omega (arith, s.2), s.2)

module _ (pins ds : List ℕ) where
  one_pin : (b : Bool) (r : ℕ) (v : Verdict) (p : Part) (k e : ℕ) → cond b v (broken part.Pin r 0) ≡ broken p k e → ((b ≡ true) × (v ≡ broken p k e)) ⊎ ((b ≡ false) × (p ≡ part.Pin) × (k ≡ r) × (e ≡ 0))
  one_pin true r v p k e h = inl (refl, h)
  one_pin false r v p k e h = let s = same_broken h in inr (refl, sym s.0, sym s.1, sym s.2)

  -- the pin of register k is the first that is broken, from a on
  pub record FirstPin (a n : ℕ) (p : Part) (k e : ℕ) : Type 0 where
    pub is_pin : p ≡ part.Pin
    pub no_excess : e ≡ 0
    pub within : k < a + n
    pub before : (r : ℕ) → a ≤ r → r < k → KeptAt pins ds r
    pub here : KeptAt pins ds k → ⊥

  unmet : (r : ℕ) → pin_met (get_or pins r 2) (domains_of ds r) ≡ false → KeptAt pins ds r → ⊥
  unmet r f h = let t = pin_kept_to (get_or pins r 2) (domains_of ds r) h in let z = sym f ∙ t in grind arith

  -- one register more at the front
  from_first : (a : ℕ) → KeptAt pins ds a → (k : ℕ) → ((r : ℕ) → a + 1 ≤ r → r < k → KeptAt pins ds r) → (r : ℕ) → a ≤ r → r < k → KeptAt pins ds r
  from_first a met k h r l u =
      cond_both (eqb r a) true false (λ _. KeptAt pins ds r) (λ e. subst (KeptAt pins ds) (sym (eqb-true r a e)) met) (λ e. h r (let n = eqb-false r a e in omega arith) u)

  from_here : (a n : ℕ) → KeptAt pins ds a → ((r : ℕ) → a + 1 ≤ r → r < a + 1 + n → KeptAt pins ds r) → (r : ℕ) → a ≤ r → r < a + suc n → KeptAt pins ds r
  from_here a n met h r l u = from_first a met (a + suc n) (λ q i j. h q i (omega arith)) r l u

  pub pins_first : (a n : ℕ) (rest : Verdict) (p : Part) (k e : ℕ) → pins_from pins ds (range_with_len a n) rest ≡ broken p k e → (((r : ℕ) → a ≤ r → r < a + n → KeptAt pins ds r) × (rest ≡ broken p k e)) ⊎ FirstPin a n p k e
  pins_first a zero rest p k e h = inl (λ r l u. absurd (omega arith), h)
  pins_first a (suc n) rest p k e h =
      let b = pin_met (get_or pins a 2) (domains_of ds a) in
      ⊎_elim
      (λ y. let met = pin_kept_from (get_or pins a 2) (domains_of ds a) y.0 in
      ⊎_elim
      (λ i. inl (λ r l u. from_here a n met i.0 r l u, i.1))
      (λ f. inr (record { is_pin = f.is_pin; no_excess = f.no_excess; within = omega (arith, f.within); before = λ r l u. from_first a met k f.before r l u; here = f.here }))
      (pins_first (a + 1) n rest p k e y.1))
      (λ y. inr (record {
        is_pin = y.1;
        no_excess = y.3;
        within = omega (arith, y.2);
        before = λ r l u. absurd (omega (arith, y.2));
        here = λ h. unmet a y.0 (subst (KeptAt pins ds) y.2 h);
      }))
      (one_pin b a (pins_from pins ds (range_with_len (a + 1) n) rest) p k e h)

-- the entry at place j is the first that breaks a limit, from place k on
pub record FirstEntry (T : ℕ) (time : ℕ → ℤ) (k : ℕ) (es : List Entry) (p : Part) (j e : ℕ) : Type 0 where
  pub place : ℕ
  pub counted : j ≡ k + place
  pub within : place < length es
  pub before : AllByRecursion (Met T time) (take place es)
  pub which : Pair
  pub there : get_or es place (faulty 5) ≡ pair which
  pub some : 0 < e
  pub limit : ((p ≡ part.Setup) × (setup_slack which T (time which.launch) (time which.capture) +ℤ pos e ≡ pos 0)) ⊎ ((p ≡ part.Hold) × Setup which T (time which.launch) (time which.capture) × (hold_slack which (time which.launch) (time which.capture) +ℤ pos e ≡ pos 0))

-- an excess that is named is what the slack lacks
lacks : (z : ℤ) (e : ℕ) → 0 < e → excess z ≡ e → z +ℤ pos e ≡ pos 0
lacks z zero s h = absurd (omega arith)
lacks z (suc e) s h = short_by z e h

later : (T : ℕ) (time : ℕ → ℤ) (k : ℕ) (x : Entry) (es : List Entry) (p : Part) (j e : ℕ) → Met T time x → FirstEntry T time (k + 1) es p j e → FirstEntry T time k (x ∷ es) p j e
later T time k x es p j e m f =
    record {
      place = suc f.place;
      counted = f.counted ∙ omega arith;
      within = omega (arith, f.within);
      before = (m, f.before);
      which = f.which;
      there = f.there;
      some = f.some;
      limit = f.limit;
    }

pub entries_first : (T : ℕ) (time : ℕ → ℤ) (k : ℕ) (es : List Entry) (p : Part) (j e : ℕ) → AllByRecursion IsPair es → entries_from T time k es ≡ broken p j e → FirstEntry T time k es p j e
entries_first T time k [] p j e r h = absurd (let z : ◌≡◌ {A = ℕ} 0 1 = cc in omega arith)
entries_first T time k (faulty n ∷ es) p j e r h = absurd r.0
entries_first T time k (pair q ∷ es) p j e r h =
    let s = time q.launch in
    let t = time q.capture in
    let su = setup_slack q T s t in
    let ho = hold_slack q s t in
    ⊎_elim
    (λ a. ⊎_elim
    (λ b. later T time k (pair q) es p j e (setup_from q T s t (no_excess su a.0), hold_from q T s t (no_excess ho b.0)) (entries_first T time (k + 1) es p j e r.1 b.1))
    (λ b. record { place = 0; counted = b.1 ∙ omega arith; within = omega arith; before = tt; which = q; there = refl; some = b.2; limit = inr (b.0, setup_from q T s t (no_excess su a.0), lacks ho e b.2 b.3) })
    (one_part part.Hold k (excess ho) (entries_from T time (k + 1) es) p j e a.1))
    (λ b. record { place = 0; counted = b.1 ∙ omega arith; within = omega arith; before = tt; which = q; there = refl; some = b.2; limit = inl (b.0, lacks su e b.2 b.3) })
    (one_part part.Setup k (excess su) (by_excess part.Hold k (excess ho) (entries_from T time (k + 1) es)) p j e h)

module _ (m : Meaning) (pins : List ℕ) (ceiling T s : ℕ) (ds : List ℕ) (readable : AllByRecursion IsPair m.entries) where
  at_entry : (p : Part) (k e : ℕ) → s ≤ ceiling → ((r : ℕ) → r < m.registers → KeptAt pins ds r) → FirstEntry T (time_of s ds) 0 m.entries p k e → FirstBroken m pins ceiling T s ds p k e
  at_entry p k e u b f =
      let z : f.place ≡ k = sym (f.counted ∙ omega arith) in
      let before = subst (λ i. AllByRecursion (Met T (time_of s ds)) (take i m.entries)) z f.before in
      let there = ap (λ i. get_or m.entries i (faulty 5)) (sym z) ∙ f.there in
      ⊎_elim
      (λ x. rw x.0 (u, b, before, (f.which, there, f.some, x.1)))
      (λ x. rw x.0 (u, b, before, (f.which, there, x.1, f.some, x.2)))
      f.limit

  pub broken_first : (p : Part) (k e : ℕ) → verdict m pins ceiling T s ds ≡ broken p k e → FirstBroken m pins ceiling T s ds p k e
  broken_first p k e h =
      let es = entries_from T (time_of s ds) 0 m.entries in
      ⊎_elim
      (λ a. let u : s ≤ ceiling = omega (arith, a.0) in
      ⊎_elim
      (λ b. at_entry p k e u (λ r l. b.0 r (omega arith) (omega arith)) (entries_first T (time_of s ds) 0 m.entries p k e readable b.1))
      (λ f. rw f.is_pin (f.no_excess, u, omega (arith, f.within), (λ r l. f.before r (omega arith) l), f.here))
      (pins_first pins ds 0 m.registers es p k e a.1))
      (λ a. rw a.0 (a.1, a.2, omega (arith, a.3)))
      (one_part part.Ceiling 0 (s - ceiling) (pins_from pins ds (range_with_len 0 m.registers) es) p k e h)
