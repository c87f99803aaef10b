use Rattle.std.proofs.Common.{◌≡◌, sym, ap, ◌∙◌, inl, inr, arith}
use Rattle.std.proofs.lemmas.List.{take_rest}
use Rattle.std.proofs.lemmas.Result.{err_from_is_err_and}
use Rattle.std.proofs.lemmas.Bool.Decides.{nat_tests}
use Rattle.delay_file.specs.Kinds.{kind_byte}
use Rattle.delay_file.specs.declared.layout.Kind.TheVariants.{Register, Pair}
use Rattle.delay_file.specs.Records.{fault_seen, seen_pair, reading}
use Rattle.delay_file.proofs.Spellings.{spelled_as}
use Rattle.delay_file.proofs.Shapes.{reading_1, reading_2, reading_other, reading_neither}
use Rattle.delay_file.proofs.reading.decode.Goals as goal
use Rattle.delay_file.proofs.reading.decode.Goals.{then-reserved1-ne0-via-then-reserved1-ne0, then-reserved1-ne0-via-else-reserved1-ne0+then-reserved2-ne0, then-reserved1-ne0-via-else-reserved1-ne0+else-reserved2-ne0+then-reserved3-ne0}

pub returns-then-reserved1-ne0 : goal.returns-then-reserved1-ne0
returns-then-reserved1-ne0 c =
    let e = ap fault_seen c.at-then-reserved1-ne0.ensures in
    let k = c.args.«record» in
    let xs = c.args.bytes.now in
    let n = c.if-bytes-ne-RECORD_BYTES.false in
    let q : fault_seen c.at-then-reserved1-ne0.result ≡ reading k xs = elim c.then-reserved1-ne0.branch [
      | then-reserved1-ne0-via-then-reserved1-ne0 w ↦ e ∙ sym (reading_other k xs n (grind (arith, nat_tests)) (grind (arith, nat_tests)))
      | then-reserved1-ne0-via-else-reserved1-ne0+then-reserved2-ne0 w ↦ e ∙ sym (reading_other k xs n (grind (arith, nat_tests)) (grind (arith, nat_tests)))
      | then-reserved1-ne0-via-else-reserved1-ne0+else-reserved2-ne0+then-reserved3-ne0 w ↦ e ∙ sym (reading_other k xs n (grind (arith, nat_tests)) (grind (arith, nat_tests)))
    ] in
    record { value = q; spelled = spelled_as k xs _ c.type_inv.bytes q }

pub returns-in_err-pair_in-in-Pair : goal.returns-in_err-pair_in-in-Pair
returns-in_err-pair_in-in-Pair c =
    let k = c.args.«record» in
    let xs = c.args.bytes.now in
    let p = err_from_is_err_and c.from_residual.result c.from_residual.ensures.1 in
    let e = simp take_rest at (ap seen_pair (sym c.in_err-pair_in-in-Pair.was) ∙ c.pair_in.ensures) in
    let q = e ∙ sym (reading_2 k xs c.if-bytes-ne-RECORD_BYTES.false (c.in-Ok.ensures ∙ ap kind_byte c.in-Pair.is) (omega arith) (omega arith) (omega arith)) in
    rw (p.1, p.2) (record { value = q; spelled = spelled_as k xs _ c.type_inv.bytes q })

pub returns-in-Register : goal.returns-in-Register
returns-in-Register c =
    let k = c.args.«record» in
    let xs = c.args.bytes.now in
    let e = simp take_rest at c.register_in.ensures in
    let q = e ∙ sym (reading_1 k xs c.if-bytes-ne-RECORD_BYTES.false (c.in-Ok.ensures ∙ ap kind_byte c.in-Register.is) (omega arith) (omega arith) (omega arith)) in
    record { value = q; spelled = spelled_as k xs _ c.type_inv.bytes q }

pub returns-in_ok-pair_in-in-Pair : goal.returns-in_ok-pair_in-in-Pair
returns-in_ok-pair_in-in-Pair c =
    let k = c.args.«record» in
    let xs = c.args.bytes.now in
    let e = simp take_rest at (ap seen_pair (sym c.in_ok-pair_in-in-Pair.was) ∙ c.pair_in.ensures) in
    let q = e ∙ sym (reading_2 k xs c.if-bytes-ne-RECORD_BYTES.false (c.in-Ok.ensures ∙ ap kind_byte c.in-Pair.is) (omega arith) (omega arith) (omega arith)) in
    record { value = q; spelled = spelled_as k xs _ c.type_inv.bytes q }

pub returns-in_default-try_from : goal.returns-in_default-try_from
returns-in_default-try_from c =
    let k = c.args.«record» in
    let xs = c.args.bytes.now in
    let n = c.if-bytes-ne-RECORD_BYTES.false in
    let f = c.in_default-try_from.ensures.1 in
    record { value = ap fault_seen c.at-in_default-try_from.ensures ∙ sym (reading_neither k xs n (f Register) (f Pair)); spelled = tt }

pub returns-in-Head : goal.returns-in-Head
returns-in-Head c =
    let k = c.args.«record» in
    let xs = c.args.bytes.now in
    let n = c.if-bytes-ne-RECORD_BYTES.false in
    let b = c.in-Ok.ensures in
    let q : fault_seen c.at-in-Head.result ≡ reading k xs = elim c.in-Head.is [
      | inl e ↦ let h = b ∙ ap kind_byte e in ap fault_seen c.at-in-Head.ensures ∙ sym (reading_neither k xs n (λ x. omega arith) (λ x. omega arith))
      | inr e ↦ let h = b ∙ ap kind_byte e in ap fault_seen c.at-in-Head.ensures ∙ sym (reading_neither k xs n (λ x. omega arith) (λ x. omega arith))
    ] in
    record { value = q; spelled = tt }
