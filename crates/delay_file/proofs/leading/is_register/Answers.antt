use Rattle.std.proofs.Common.{◌≡◌, false, eqb, length, get_or, sym, ap, ◌∙◌}
use Rattle.std.proofs.lemmas.Result.{err_from_is_err_and}
use Rattle.std.proofs.lemmas.Bool.{eq-eqb, ne_eqb}
use Rattle.delay_file.specs.Files.{register_kind, record_at}
use Rattle.delay_file.specs.Records.{reading}
use Rattle.delay_file.proofs.Shapes.{other_kind, register_refused}
use Rattle.delay_file.proofs.leading.is_register.Goals as goal

pub returns-then-part-byte : goal.returns-then-part-byte
returns-then-part-byte c =
    let k = c.args.«record» in
    let e : register_kind c.args.bytes.now k ≡ false = ap (λ xs. eqb (get_or xs 0 0) 1) (sym c.record_bytes-part.ensures.bytes) ∙ ne_eqb _ _ (λ p. c.if-part-byte.true (p ∙ sym c.byte.ensures)) in
    (other_kind k k (record_at c.args.bytes.now k) e, e)

pub returns-in_err-number : goal.returns-in_err-number
returns-in_err-number c =
    let q = err_from_is_err_and c.from_residual.result c.from_residual.ensures.1 in
    let k = c.args.«record» in
    let b = c.record_bytes-part.ensures.bytes in
    let n = ap length (sym b) ∙ c.record_bytes-part.ensures.length c.requires in
    let p = ap (λ xs. get_or xs 0 0) (sym b) ∙ (c.if-part-byte.false ∙ c.byte.ensures) in
    let h = register_refused k (record_at c.args.bytes.now k) _ _ n p (c.in_err-number.ensures.value ∙ ap (reading k) b) in
    rw (q.1, q.2) (h.0, eq-eqb _ _ p, h.1)
