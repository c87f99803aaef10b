-- Whether a command was granted, and whether what it was about is in order.
use Rattle.std.specs.Prelude.{Bool, true, false, ◌==◌}
use Rattle.timing.specs.Outcomes as call
use Rattle.delay_file.specs.Files.{Opening, opened, closed}
use Rattle.plan_file.specs.PlanReading.{PlanReading, plan, refused}
use Rattle.clockplan.specs.Counts.{faulty_count}
use Rattle.clockplan.specs.declared.commands.Outcome.{Outcome}
use Rattle.clockplan.specs.declared.commands.Outcome.TheVariants.{Granted, Refused}

abbrev pub is_granted : Outcome → Bool
is_granted Granted = true
is_granted Refused = false

-- a call that grants something
abbrev pub grants : {A : Type 0} → call.Outcome A → Bool
grants (call.granted a) = true
grants (call.refused number values) = false

-- a plan file that reads
abbrev pub reads : PlanReading → Bool
reads (plan T s n ds) = true
reads (refused number at) = false

-- a delay file that opens, and none of its entries is faulty
abbrev pub faultless : Opening → Bool
faultless (opened m) = faulty_count m.entries == 0
faultless (closed number at) = false
