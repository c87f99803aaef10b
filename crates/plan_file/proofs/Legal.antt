-- Check passes a draft exactly when the plan is legal.
use Rattle.std.proofs.Common.{◌≡◌, ℕ, zero, suc, ◌+◌, ◌-◌, ◌<◌, Bool, true, false, cond, eqb, List, [], ◌∷◌, length, get_or, ℤ, pos, negsuc, ◌≤ℤ◌, None, sym, refl, ◌∙◌, subst, arith}
use Rattle.std.specs.List.{range_with_len, AllByRecursion}
use Rattle.std.proofs.lemmas.List.FromFn.{length-range_with_len, get_or-range_with_len}
use Rattle.std.proofs.ByRecursion.{All-get_or, All-from_get_or}
use Rattle.std.proofs.lemmas.Int.{ints}
use Rattle.std.proofs.lemmas.Bool.{cond_both, eqb-true, le-leb}
use Rattle.std.proofs.lemmas.Bool.Decides.{nat_tests}
use Rattle.timing.specs.Delays.{Setup, Hold, setup_slack, hold_slack}
use Rattle.timing.specs.Meaning.{Entry, pair, faulty, Meaning}
use Rattle.timing.specs.Outcomes.{granted, refused, first_faulty}
use Rattle.timing.specs.Plans.{Met, PinKept, Legal}
use Rattle.timing.specs.Slacks.{excess}
use Rattle.timing.specs.declared.domain.Domain.{Domain}
use Rattle.timing.specs.declared.domain.Domain.TheVariants.{Early, Late}
use Rattle.timing.specs.declared.pair.Pair.{Pair}
use Rattle.timing.specs.declared.refusal.Part.{Part}
use Rattle.timing.specs.declared.refusal.Part.TheVariants as part
use Rattle.plan_file.specs.Drafts.{Verdict, kept, broken, by_excess, entries_from, pins_from, pin_met, verdict, time_of, check_answer, told_verdict}
use Rattle.timing.specs.Plans.{domains_of}
use Rattle.plan_file.specs.Laws.{IsPair, Ready}

kept_parts : (p : Part) (k e : ℕ) (rest : Verdict) → by_excess p k e rest ≡ kept → (e ≡ 0) × (rest ≡ kept)
kept_parts p k zero rest h = (refl, h)
kept_parts p k (suc e) rest h = absurd (grind arith)

kept_from : (p : Part) (k e : ℕ) (rest : Verdict) → e ≡ 0 → rest ≡ kept → by_excess p k e rest ≡ kept
kept_from p k zero rest h q = q
kept_from p k (suc e) rest h q = absurd (omega arith)

pub no_excess : (z : ℤ) → excess z ≡ 0 → pos 0 ≤ℤ z
no_excess (pos n) h = omega (arith, ints)
no_excess (negsuc n) h = absurd (omega arith)

excess_none : (z : ℤ) → pos 0 ≤ℤ z → excess z ≡ 0
excess_none (pos n) h = refl
excess_none (negsuc n) h = absurd (omega (arith, ints))

module _ (p : Pair) (T : ℕ) (s t : ℤ) where
  pub setup_from : pos 0 ≤ℤ setup_slack p T s t → Setup p T s t
  setup_from h = omega (arith, ints)

  setup_to : Setup p T s t → pos 0 ≤ℤ setup_slack p T s t
  setup_to h = omega (arith, ints)

  pub hold_from : pos 0 ≤ℤ hold_slack p s t → Hold p s t
  hold_from h = omega (arith, ints)

  hold_to : Hold p s t → pos 0 ≤ℤ hold_slack p s t
  hold_to h = omega (arith, ints)

pub entries_met : (T : ℕ) (time : ℕ → ℤ) (k : ℕ) (es : List Entry) → AllByRecursion IsPair es → entries_from T time k es ≡ kept → AllByRecursion (Met T time) es
entries_met T time k [] r h = tt
entries_met T time k (faulty n ∷ es) r h = absurd r.0
entries_met T time k (pair p ∷ es) r h =
    let s = time p.launch in
    let t = time p.capture in
    let a = kept_parts part.Setup k (excess (setup_slack p T s t)) (by_excess part.Hold k (excess (hold_slack p s t)) (entries_from T time (k + 1) es)) h in
    let b = kept_parts part.Hold k (excess (hold_slack p s t)) (entries_from T time (k + 1) es) a.1 in
    ((setup_from p T s t (no_excess _ a.0), hold_from p T s t (no_excess _ b.0)), entries_met T time (k + 1) es r.1 b.1)

pub entries_kept : (T : ℕ) (time : ℕ → ℤ) (k : ℕ) (es : List Entry) → AllByRecursion (Met T time) es → entries_from T time k es ≡ kept
entries_kept T time k [] h = refl
entries_kept T time k (faulty n ∷ es) h = absurd h.0
entries_kept T time k (pair p ∷ es) h =
    let s = time p.launch in
    let t = time p.capture in
    kept_from part.Setup k (excess (setup_slack p T s t)) _ (excess_none _ (setup_to p T s t h.0.0))
    (kept_from part.Hold k (excess (hold_slack p s t)) _ (excess_none _ (hold_to p T s t h.0.1)) (entries_kept T time (k + 1) es h.1))

pub pin_kept_from : (b : ℕ) (d : Domain) → pin_met b d ≡ true → PinKept b d
pin_kept_from b Early h = (λ _. refl, λ e. absurd (grind (arith, nat_tests)))
pin_kept_from b Late h = (λ e. absurd (grind (arith, nat_tests)), λ _. refl)

apart : ◌≡◌ {A = Domain} Early Late → ⊥
apart e = grind arith

pub pin_kept_to : (b : ℕ) (d : Domain) → PinKept b d → pin_met b d ≡ true
pin_kept_to b Early h = cond_both (eqb b 1) false true (λ x. x ≡ true) (λ e. absurd (apart (h.1 (eqb-true b 1 e)))) (λ _. refl)
pin_kept_to b Late h = cond_both (eqb b 0) false true (λ x. x ≡ true) (λ e. absurd (apart (sym (h.0 (eqb-true b 0 e))))) (λ _. refl)

module _ (pins ds : List ℕ) where
  abbrev pub KeptAt : ℕ → Type 0
  KeptAt r = PinKept (get_or pins r 2) (domains_of ds r)

  one_pin : (b : Bool) (r : ℕ) (v : Verdict) → cond b v (broken part.Pin r 0) ≡ kept → (b ≡ true) × (v ≡ kept)
  one_pin true r v h = (refl, h)
  one_pin false r v h = absurd (grind arith)

  pub pins_met : (rs : List ℕ) (rest : Verdict) → pins_from pins ds rs rest ≡ kept → AllByRecursion KeptAt rs × (rest ≡ kept)
  pins_met [] rest h = (tt, h)
  pins_met (r ∷ rs) rest h =
      let a = one_pin (pin_met (get_or pins r 2) (domains_of ds r)) r (pins_from pins ds rs rest) h in
      let b = pins_met rs rest a.1 in
      ((pin_kept_from _ _ a.0, b.0), b.1)

  pub pins_kept_all : (rs : List ℕ) (rest : Verdict) → AllByRecursion KeptAt rs → pins_from pins ds rs rest ≡ rest
  pins_kept_all [] rest h = refl
  pins_kept_all (r ∷ rs) rest h = rw (pin_kept_to (get_or pins r 2) (domains_of ds r) h.0) (pins_kept_all rs rest h.1)

  below_from : (n : ℕ) → AllByRecursion KeptAt (range_with_len 0 n) → (r : ℕ) → r < n → KeptAt r
  below_from n h r l =
      let c = length-range_with_len 0 n in
      let z : 0 + r ≡ r = omega arith in
      subst KeptAt (get_or-range_with_len 0 n r 0 l ∙ z) (All-get_or KeptAt (range_with_len 0 n) r 0 (omega arith) h)

  below_to : (n : ℕ) → ((r : ℕ) → r < n → KeptAt r) → AllByRecursion KeptAt (range_with_len 0 n)
  below_to n h =
      All-from_get_or KeptAt (range_with_len 0 n) 0 (λ i l.
      let c = length-range_with_len 0 n in
      let k : i < n = omega arith in
      let z : i ≡ 0 + i = omega arith in
      subst KeptAt (z ∙ sym (get_or-range_with_len 0 n i 0 k)) (h i k))

module _ (m : Meaning) (pins : List ℕ) (ceiling T s : ℕ) (ds : List ℕ) (ready : Ready m pins ceiling T s ds) where
  pub legal_from : verdict m pins ceiling T s ds ≡ kept → Legal m pins ceiling T s (domains_of ds)
  legal_from h =
      let es = entries_from T (time_of s ds) 0 m.entries in
      let a = kept_parts part.Ceiling 0 (s - ceiling) (pins_from pins ds (range_with_len 0 m.registers) es) h in
      let b = pins_met pins ds (range_with_len 0 m.registers) es a.1 in
      record {
        period_within = ready.period_within;
        under_ceiling = omega (arith, a.0);
        pins_kept = below_from pins ds m.registers b.0;
        limits_met = entries_met T (time_of s ds) 0 m.entries ready.readable b.1;
      }

  pub legal_to : Legal m pins ceiling T s (domains_of ds) → verdict m pins ceiling T s ds ≡ kept
  legal_to l =
      let es = entries_from T (time_of s ds) 0 m.entries in
      let u = l.under_ceiling in
      kept_from part.Ceiling 0 (s - ceiling) (pins_from pins ds (range_with_len 0 m.registers) es) (omega arith)
      (pins_kept_all pins ds (range_with_len 0 m.registers) es (below_to pins ds m.registers l.pins_kept) ∙ entries_kept T (time_of s ds) 0 m.entries l.limits_met)

none_faulty : (k : ℕ) (es : List Entry) → AllByRecursion IsPair es → first_faulty k es ≡ None
none_faulty k [] h = refl
none_faulty k (pair p ∷ es) h = none_faulty (k + 1) es h.1
none_faulty k (faulty n ∷ es) h = absurd h.0

module _ (m : Meaning) (pins : List ℕ) (ceiling T s : ℕ) (ds : List ℕ) (ready : Ready m pins ceiling T s ds) where
  pub answer_ready : check_answer m pins ceiling T s ds ≡ told_verdict (verdict m pins ceiling T s ds)
  answer_ready =
      rw (le-leb 1 T ready.period_within.0, le-leb T 4096000000 ready.period_within.1, le-leb ceiling 1000000 ready.ceiling_within, le-leb s 1000000 ready.offset_within, le-leb (length m.entries) 16384 ready.few, none_faulty 0 m.entries ready.readable, le-leb m.registers (length pins) ready.pins_long, le-leb m.registers (length ds) ready.domains_long)

told_kept : (v : Verdict) → granted tt ≡ told_verdict v → v ≡ kept
told_kept kept h = refl
told_kept (broken p k e) h = absurd (let z : ◌≡◌ {A = ℕ} 0 1 = cc in omega arith)

told_broken : (v : Verdict) (n : ℕ) (vs : List ℕ) → refused n vs ≡ told_verdict v → v ≡ kept → ⊥
told_broken kept n vs h e = let z : ◌≡◌ {A = ℕ} 0 1 = cc in omega arith
told_broken (broken p k x) n vs h e = let z : ◌≡◌ {A = ℕ} 0 1 = cc in omega arith

-- check passes a draft exactly when the plan is legal
module _ (m : Meaning) (pins : List ℕ) (ceiling T s : ℕ) (ds : List ℕ) (ready : Ready m pins ceiling T s ds) where
  pub granted_legal : granted tt ≡ check_answer m pins ceiling T s ds → Legal m pins ceiling T s (domains_of ds)
  granted_legal e = legal_from m pins ceiling T s ds ready (told_kept _ (e ∙ answer_ready m pins ceiling T s ds ready))

  pub refused_illegal : (n : ℕ) (vs : List ℕ) → refused n vs ≡ check_answer m pins ceiling T s ds → Legal m pins ceiling T s (domains_of ds) → ⊥
  refused_illegal n vs e l = told_broken _ _ _ (e ∙ answer_ready m pins ceiling T s ds ready) (legal_to m pins ceiling T s ds ready l)
