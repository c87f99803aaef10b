use Rattle.std.proofs.Common.{◌≤◌, map, length, sym, ap, ◌∙◌, arith}
use Rattle.std.proofs.lemmas.List.{length-map}
use Rattle.delay_file.proofs.Written.{whole_file, refused_file, uncounted}
use Rattle.std.proofs.lemmas.Result.{err_from_is_err_and}
use Rattle.delay_file.specs.Files.{unwritten}
use Rattle.timing.specs.Table.{refusal_number}
use Rattle.delay_file.proofs.whole_file.encode_file.Goals as goal
use Rattle.delay_file.proofs.whole_file.encode_file.Goals.{then-names-lt1-via-then-names-lt1, then-names-lt1-via-else-names-lt1+then-names}

pub returns-then-names-lt1 : goal.returns-then-names-lt1
returns-then-names-lt1 c =
    let names = map (λ x. x.now) c.args.names.now in
    let l = length-map c.args.names.now (λ x. x.now) in
    let n : 1 ≤ length names → length names ≤ 4096 → ⊥ = λ a b. elim c.then-names-lt1.branch [
      | then-names-lt1-via-then-names-lt1 w ↦ omega arith
      | then-names-lt1-via-else-names-lt1+then-names w ↦ omega arith
    ] in
    record { answer = ap (λ f. unwritten (refusal_number f.refusal) f.«record») c.of_file.ensures ∙ sym (uncounted names c.args.pairs.now n); opens = tt }

pub returns-in_err-push_registers : goal.returns-in_err-push_registers
returns-in_err-push_registers c =
    let q = err_from_is_err_and c.from_residual.result c.from_residual.ensures.1 in
    let l = length-map c.args.names.now (λ x. x.now) in
    rw (q.1, q.2) (record { answer = refused_file (map (λ x. x.now) c.args.names.now) c.args.pairs.now _ (omega arith) (omega arith) c.in_err-push_registers.ensures; opens = tt })

pub returns : goal.returns
returns c =
    let names = map (λ x. x.now) c.args.names.now in
    let pairs = c.args.pairs.now in
    let l = length-map c.args.names.now (λ x. x.now) in
    let r = c.in_ok-push_registers.ensures in
    let p = c.in_ok-push_pairs.ensures in
    let w = whole_file names pairs _ _ _ c.new-file.ensures.items (r.0 ∙ omega arith) r.1 p.items p.read (omega arith) (omega arith) in
    record { answer = w.0; opens = w.1 }
