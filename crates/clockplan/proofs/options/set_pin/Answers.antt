use Rattle.std.proofs.Common.{sym, arith}
use Rattle.std.proofs.lemmas.List.{set_past}
use Rattle.timing.specs.Domains.{domain_byte}
use Rattle.clockplan.proofs.options.set_pin.Goals as goal

pub returns-else-at-pins : goal.returns-else-at-pins
returns-else-at-pins c = sym (set_past c.args.pins.now c.args.register (domain_byte c.args.domain) (omega arith))
