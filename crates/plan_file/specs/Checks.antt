-- What check answers, by the values of its types.
use Rattle.std.specs.Prelude.{◌≡◌, ℕ, List, Ok, Err, Result}
use Rattle.timing.specs.Meaning.{Meaning}
use Rattle.timing.specs.Outcomes.{Outcome, granted, refused}
use Rattle.timing.specs.Plans.{Legal, domains_of}
use Rattle.timing.specs.Table.{refusal_number, refusal_values}
use Rattle.plan_file.specs.declared.checked_plan.CheckedPlan.{CheckedPlan}
use Rattle.plan_file.specs.declared.checked.RefusedDraft.{RefusedDraft}
use Rattle.plan_file.specs.declared.draft.Draft.{Draft}
use Rattle.plan_file.specs.Laws.{NamesFirst, Ready}
use Rattle.plan_file.specs.Written.{Writable}

-- an answer of check as an outcome
abbrev pub checked_as : Result CheckedPlan RefusedDraft → Outcome (Unit {0})
checked_as (Ok plan) = granted tt
checked_as (Err e) = refused (refusal_number e.refusal) (refusal_values e.refusal)

-- a checked plan is the draft that was taken, for so many registers; a refused draft is handed back as it was
abbrev pub KeptDraft : ℕ → ℕ → ℕ → List ℕ → Result CheckedPlan RefusedDraft → Type 0
KeptDraft n T s ds (Ok plan) = (plan.draft.period ≡ T) × (plan.draft.offset ≡ s) × (plan.registers ≡ n) × (plan.draft.domains.now ≡ ds)
KeptDraft n T s ds (Err e) = (e.draft.period ≡ T) × (e.draft.offset ≡ s) × (e.draft.domains.now ≡ ds)

-- A draft as the code holds it: nothing stands in the way of a judgement of it, and its plan is legal.
abbrev pub IsReady : Meaning → List ℕ → ℕ → Draft → Type 0
IsReady m pins ceiling d = Ready m pins ceiling d.period d.offset d.domains.now

abbrev pub IsLegal : Meaning → List ℕ → ℕ → Draft → Type 0
IsLegal m pins ceiling d = Legal m pins ceiling d.period d.offset (domains_of d.domains.now)

-- what is told of it where it is refused is what it breaks first
abbrev pub NamesBroken : Meaning → List ℕ → ℕ → Draft → Result CheckedPlan RefusedDraft → Type 0
NamesBroken m pins ceiling d = NamesFirst m pins ceiling d.period d.offset d.domains.now

-- the plan is this draft, for so many registers; or the draft is handed back
abbrev pub Keeps : ℕ → Draft → Result CheckedPlan RefusedDraft → Type 0
Keeps n d = KeptDraft n d.period d.offset d.domains.now

-- a checked plan is fit for a file
abbrev pub IsWritable : CheckedPlan → Type 0
IsWritable p = Writable p.draft.period p.draft.offset p.registers p.draft.domains.now
