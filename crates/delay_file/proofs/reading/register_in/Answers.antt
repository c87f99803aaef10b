use Rattle.std.proofs.Common.{◌≡◌, drop, sym, ap, ◌∙◌}
use native.Mathlib.Nat.{sub-zero}
use Rattle.std.proofs.lemmas.List.{take_rest}
use Rattle.std.specs.List.{prefix_len}
use Rattle.delay_file.specs.Bytes.{every, is_zero, not_zero}
use Rattle.delay_file.specs.Records.{fault_seen}
use Rattle.delay_file.proofs.Scans.{cut_rest}
use Rattle.delay_file.proofs.reading.register_in.Goals as goal
use Rattle.delay_file.proofs.reading.register_in.Goals.{then-not-is_lawful_name-via-then-not-is_lawful_name, then-not-is_lawful_name-via-else-not-is_lawful_name+then-not-all_zero}

pub returns-then-not-is_lawful_name : goal.returns-then-not-is_lawful_name
returns-then-not-is_lawful_name c =
    let t = take_rest c.args.rest.now 4 in
    let n : prefix_len not_zero (drop 4 c.args.rest.now) ≡ c.first_zero-end.result = ap (prefix_len not_zero) (sym t) ∙ sym c.first_zero-end.ensures.0 in
    elim c.then-not-is_lawful_name.branch [
      | then-not-is_lawful_name-via-then-not-is_lawful_name w ↦
          let g = simp (take_rest, sub-zero) at (sym c.is_lawful_name.ensures ∙ w.if-not-is_lawful_name.true) in
          rw (n, g) (ap fault_seen c.at.ensures)
      | then-not-is_lawful_name-via-else-not-is_lawful_name+then-not-all_zero w ↦
          let g = simp (take_rest, sub-zero) at (sym c.is_lawful_name.ensures ∙ w.if-not-is_lawful_name.false) in
          let p = ap (every is_zero) (sym (cut_rest c.args.rest.now 4 c.first_zero-end.result)) ∙ sym w.all_zero.ensures ∙ w.if-not-all_zero.true in
          rw (n, g, p) (ap fault_seen c.at.ensures)
    ]

pub returns : goal.returns
returns c =
    let t = take_rest c.args.rest.now 4 in
    let n : prefix_len not_zero (drop 4 c.args.rest.now) ≡ c.first_zero-end.result = ap (prefix_len not_zero) (sym t) ∙ sym c.first_zero-end.ensures.0 in
    let g = simp (take_rest, sub-zero) at (sym c.is_lawful_name.ensures ∙ c.if-not-is_lawful_name.false) in
    let p = ap (every is_zero) (sym (cut_rest c.args.rest.now 4 c.first_zero-end.result)) ∙ sym c.all_zero.ensures ∙ c.if-not-all_zero.false in
    rw (n, g, p) (simp (take_rest, sub-zero, c.u32_at.ensures))
