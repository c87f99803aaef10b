use Rattle.std.proofs.Common.{◌≡◌, ℕ, List, Some, None, Option, ◌∙◌, arith}
use Rattle.plan_report.specs.Report.{name_at}
use Rattle.plan_report.proofs.Lines.{line_short}
use Rattle.plan_report.proofs.Names.{lawful_there, name_there}
use Rattle.plan_report.proofs.report.push_register.Goals as goal

same_name : (x y : List ℕ) → Some x ≡ Some y → x ≡ y
same_name x y e = cc

no_name : (x : List ℕ) → ◌≡◌ {A = Option (List ℕ)} None (Some x) → ⊥
no_name x e = let z : ◌≡◌ {A = ℕ} 0 1 = cc in omega arith

pub push_line-requires : goal.push_line-requires
push_line-requires c =
    let v = c.args.view.now in
    let k = c.args.register in
    let e = same_name _ _ (c.in-Some.ensures ∙ name_there v k c.requires.there c.requires.known) in
    let s = line_short (name_at v.bytes.now k) c.args.domain (lawful_there v.bytes.now k c.requires.known) in
    rw e (omega arith)

pub returns-in-Some : goal.returns-in-Some
returns-in-Some c =
    let v = c.args.view.now in
    let k = c.args.register in
    let e = same_name _ _ (c.in-Some.ensures ∙ name_there v k c.requires.there c.requires.known) in
    rw (← e) c.push_line.ensures

pub returns-in_default : goal.returns-in_default
returns-in_default c =
    absurd (no_name _ (c.in_default.ensures ∙ name_there c.args.view.now c.args.register c.requires.there c.requires.known))
