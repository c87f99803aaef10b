use Rattle.std.proofs.Common.{◌≡◌, ◌≤◌, eqb, take}
use Rattle.std.specs.List.{count_by}
use Rattle.plan_file.proofs.draft.Draft.late_count.Given as goal

abbrev pub invariant-loop-byte : goal.invariant-loop-byte
invariant-loop-byte l = (l.late ≡ count_by (λ b. eqb b 1) (take l.byte-index l.byte-items)) × (l.late ≤ l.byte-index)
