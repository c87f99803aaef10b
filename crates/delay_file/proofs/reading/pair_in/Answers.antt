use Rattle.std.proofs.Common.{◌≡◌, true, false, drop, sym, ap, ◌∙◌, w32, SFits, rules}
use Rattle.std.proofs.lemmas.List.{take_rest}
use Rattle.std.proofs.lemmas.Int.{to_z-of_z}
use Rattle.delay_file.specs.Bytes.{every, is_zero}
use Rattle.delay_file.specs.Records.{fault_seen}
use Rattle.delay_file.proofs.reading.pair_in.Goals as goal

pub returns-then-not-all_zero : goal.returns-then-not-all_zero
returns-then-not-all_zero c =
    let e : every is_zero (drop 16 c.args.rest.now) ≡ false = ap (every is_zero) (sym (take_rest c.args.rest.now 16)) ∙ sym c.all_zero.ensures ∙ c.if-not-all_zero.true in
    rw e (ap fault_seen c.at.ensures)

pub returns : goal.returns
returns c =
    let e : every is_zero (drop 16 c.args.rest.now) ≡ true = ap (every is_zero) (sym (take_rest c.args.rest.now 16)) ∙ sym c.all_zero.ensures ∙ c.if-not-all_zero.false in
    let f : SFits w32 c.i32_at.result = search rules in
    let g : SFits w32 c.i32_at-2.result = search rules in
    let h = to_z-of_z w32 c.i32_at.result f in
    let k = to_z-of_z w32 c.i32_at-2.result g in
    rw e (cc)
