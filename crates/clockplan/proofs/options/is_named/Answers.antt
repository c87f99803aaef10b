use Rattle.std.proofs.Common.{refl}
use Rattle.std.proofs.lemmas.Slice.Eq.{slice_eq-Decides}
use Rattle.std.proofs.lemmas.Bool.Decides.{Decides-eqb}
use Rattle.clockplan.proofs.Names.{named_so}
use Rattle.clockplan.proofs.options.is_named.Goals as goal

pub returns : goal.returns
returns c =
    named_so c.args.view.now c.args.number c.name.result c.as_bytes.result c.args.name.now c.eq.result _ (λ x y. slice_eq-Decides Decides-eqb x y _ refl) c.eq.ensures c.name.ensures c.as_bytes.ensures.value
