-- A draft as the code holds it, in the words of Drafts.antt.
use Rattle.std.specs.Prelude.{ℕ, List, ℤ}
use Rattle.timing.specs.Delays.{slack}
use Rattle.timing.specs.Meaning.{Meaning}
use Rattle.timing.specs.Outcomes.{Outcome}
use Rattle.timing.specs.declared.pair.Pair.{Pair}
use Rattle.plan_file.specs.declared.draft.Draft.{Draft}
use Rattle.plan_file.specs.Drafts.{Verdict, check_answer, slack_answer, time_of, verdict}

-- the clock time of register r
abbrev pub draft_time : Draft → ℕ → ℤ
draft_time d = time_of d.offset d.domains.now

-- what a pair has to spare
abbrev pub draft_slack : Draft → Pair → ℤ
draft_slack d p = slack p d.period (draft_time d p.launch) (draft_time d p.capture)

-- what it breaks first
abbrev pub draft_verdict : Meaning → List ℕ → ℕ → Draft → Verdict
draft_verdict m pins ceiling d = verdict m pins ceiling d.period d.offset d.domains.now

-- the answer of check
abbrev pub draft_answer : Meaning → List ℕ → ℕ → Draft → Outcome (Unit {0})
draft_answer m pins ceiling d = check_answer m pins ceiling d.period d.offset d.domains.now

-- the answer of slack for the entry at a place
abbrev pub draft_slack_answer : Meaning → Draft → ℕ → Outcome ℤ
draft_slack_answer m d place = slack_answer m d.period d.offset d.domains.now place
