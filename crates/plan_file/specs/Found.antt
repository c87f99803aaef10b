-- What the code found, as a verdict.
use Rattle.std.specs.Prelude.{ℕ, Bool, List, Some, None, Option, slice_index_or}
use Rattle.timing.specs.Plans.{domains_of}
use Rattle.plan_file.specs.Drafts.{Verdict, kept, broken, pin_met}
use Rattle.plan_file.specs.declared.first_broken.Broken.{Broken}

abbrev pub found_as : Option Broken → Verdict
found_as None = kept
found_as (Some b) = broken b.part b.place b.excess

-- whether register r is in the domain that its pin byte asks for
abbrev pub is_met : List ℕ → List ℕ → ℕ → Bool
is_met pins ds r = pin_met (slice_index_or pins r 2) (domains_of ds r)
