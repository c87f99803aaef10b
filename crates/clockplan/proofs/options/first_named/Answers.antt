use Rattle.std.proofs.Common.{◌≡◌, Some, refl, rules, tests}
use Rattle.std.proofs.lemmas.Iterator.{first_from_Range}
use Rattle.delay_file.specs.Files.{register_name}
use Rattle.clockplan.proofs.Names.{first_of_name}
use Rattle.clockplan.proofs.options.first_named.Goals as goal

pub returns : goal.returns
returns c =
    let v = c.args.view.now in
    let n = c.args.name.now in
    first_of_name v n c.args.from _ _ c.find.result refl c.registers.ensures (first_from_Range _ _ _ c.find.result (λ k. register_name v k ≡ Some n) (λ k. register_name v k ≡ Some n → ⊥) c.find.ensures.ran (λ x q k. search (rules, tests)) (λ x q k. search (rules, tests)))
