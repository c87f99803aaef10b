-- A refusal of a draft that is ready names the first broken limit.
use Rattle.std.proofs.Common.{◌≡◌, ℕ, cond, eqb, List, [], ◌∷◌, sym, refl, ap, ◌∙◌, arith}
use Rattle.timing.specs.Meaning.{Meaning}
use Rattle.timing.specs.Outcomes.{Outcome, refused}
use Rattle.timing.specs.Table.{part_number, refusal_number, refusal_values}
use Rattle.timing.specs.declared.refusal.Part.{Part}
use Rattle.timing.specs.declared.refusal.Part.TheVariants.{Ceiling, Pin, Setup, Hold}
use Rattle.timing.specs.declared.refusal.Refusal.{Refusal}
use Rattle.timing.specs.declared.refusal.Refusal.TheVariants.{RegisterCount, NoSuchRegister, DelayOutOfLimits, PairPresent, NoSuchEntry, TooManyEntries, OffsetOutOfLimits, PeriodOutOfLimits, MemoryTooShort, NoLegalPlan, NoFreeTimes, NotWholeRecords, MalformedRecord, DelayMissing, FaultyEntry, DraftNotLegal, WitnessUnsound}
use Rattle.plan_file.specs.Drafts.{Verdict, kept, broken, verdict, check_answer, told_verdict}
use Rattle.plan_file.specs.Laws.{Ready, FirstBroken}
use Rattle.plan_file.proofs.First.{broken_first}
use Rattle.plan_file.proofs.Legal.{answer_ready}

abbrev part_from : ℕ → Part
part_from n = cond (eqb n 1) Ceiling (cond (eqb n 2) Pin (cond (eqb n 3) Setup Hold))

part_back : (p : Part) → part_from (part_number p) ≡ p
part_back Ceiling = refl
part_back Pin = refl
part_back Setup = refl
part_back Hold = refl

same_part : (p q : Part) → part_number p ≡ part_number q → p ≡ q
same_part p q e = sym (part_back p) ∙ ap part_from e ∙ part_back q

-- only one case of a refusal has the number 16
is_16 : (f : Refusal) (p : Part) (k x : ℕ) → refusal_number f ≡ 16 → refusal_values f ≡ part_number p ∷ (k ∷ (x ∷ [])) → f ≡ DraftNotLegal p k x
is_16 (DraftNotLegal q j y) p k x n v = let a : part_number q ≡ part_number p = cc in let b = same_part q p a in cc
is_16 RegisterCount p k x n v = absurd (omega arith)
is_16 NoSuchRegister p k x n v = absurd (omega arith)
is_16 DelayOutOfLimits p k x n v = absurd (omega arith)
is_16 PairPresent p k x n v = absurd (omega arith)
is_16 NoSuchEntry p k x n v = absurd (omega arith)
is_16 TooManyEntries p k x n v = absurd (omega arith)
is_16 OffsetOutOfLimits p k x n v = absurd (omega arith)
is_16 PeriodOutOfLimits p k x n v = absurd (omega arith)
is_16 MemoryTooShort p k x n v = absurd (omega arith)
is_16 NoLegalPlan p k x n v = absurd (omega arith)
is_16 NoFreeTimes p k x n v = absurd (omega arith)
is_16 NotWholeRecords p k x n v = absurd (omega arith)
is_16 MalformedRecord p k x n v = absurd (omega arith)
is_16 DelayMissing p k x n v = absurd (omega arith)
is_16 (FaultyEntry q) p k x n v = absurd (omega arith)
is_16 (WitnessUnsound q) p k x n v = absurd (omega arith)

same_refused : (n j : ℕ) (vs ws : List ℕ) → ◌≡◌ {A = Outcome (Unit {0})} (refused n vs) (refused j ws) → (n ≡ j) × (vs ≡ ws)
same_refused n j vs ws h = (cc, cc)

module _ (m : Meaning) (pins : List ℕ) (ceiling T s : ℕ) (ds : List ℕ) (ready : Ready m pins ceiling T s ds) where
  named : (f : Refusal) (v : Verdict) → refused (refusal_number f) (refusal_values f) ≡ told_verdict v → verdict m pins ceiling T s ds ≡ v → (p : Part) × (k : ℕ) × (x : ℕ) × (f ≡ DraftNotLegal p k x) × FirstBroken m pins ceiling T s ds p k x
  named f kept h e = absurd (let z : ◌≡◌ {A = ℕ} 0 1 = cc in omega arith)
  named f (broken p k x) h e =
      let q = same_refused (refusal_number f) 16 (refusal_values f) (part_number p ∷ (k ∷ (x ∷ []))) h in
      (p, k, x, is_16 f p k x q.0 q.1, broken_first m pins ceiling T s ds ready.readable p k x e)

  pub named_refusal : (f : Refusal) → refused (refusal_number f) (refusal_values f) ≡ check_answer m pins ceiling T s ds → (p : Part) × (k : ℕ) × (x : ℕ) × (f ≡ DraftNotLegal p k x) × FirstBroken m pins ceiling T s ds p k x
  named_refusal f e = named f (verdict m pins ceiling T s ds) (e ∙ answer_ready m pins ceiling T s ds ready) refl
