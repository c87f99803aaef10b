use Rattle.std.proofs.Common.{refl, arith, rules, tests}
use Rattle.std.proofs.lemmas.Iterator.{cases_from_any, YieldsList-from_range}
use Rattle.delay_file.specs.Files.{JoinsAt}
use Rattle.delay_file.proofs.Entries.{joined_before}
use Rattle.delay_file.proofs.Scans.{some_below}
use Rattle.delay_file.proofs.view.FileView.joins_before.Goals as goal

pub returns : goal.returns
returns c =
    let v = c.args.self.now in
    let a = c.args.launch in
    let b = c.args.capture in
    let h = cases_from_any _ _ c.any.result (λ k. JoinsAt v k a b) (λ k. JoinsAt v k a b → ⊥) c.any.ensures.ran (YieldsList-from_range 0 _ _ refl refl) (λ x q k. search (rules, tests)) (λ x q k. search (rules, tests)) in
    joined_before v c.args.place _ a b c.any.result (omega (arith, c.min.ensures, c.entries.ensures)) (some_below c.any.result _ (λ k. JoinsAt v k a b) h)
