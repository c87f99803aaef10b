use Rattle.timing.specs.Plans.{clock}
use Rattle.small_circuits.proofs.Small.{self_hold}
use Rattle.small_circuits.proofs.list.self_hold_broken.Goals as goal

pub returns : goal.returns
returns c = (
  (λ T s D l. self_hold T (clock s (D 0)) l.limits_met.0),
  (λ T t l. self_hold T (t 0) l.limits_met.0),
)
