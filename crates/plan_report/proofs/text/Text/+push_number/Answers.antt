use Rattle.std.proofs.Common.{◌∷◌, [], ◌+◌, ◌/◌, ◌%◌, decimal, arith}
use Rattle.plan_report.proofs.Digits.{length_digit, length_step, last_digit, only_digit}
use Rattle.plan_report.proofs.Pushes.{pushes_then}
use Rattle.plan_report.proofs.text.Text.+push_number.Goals as goal
use Rattle.plan_report.proofs.text.Text.+push_number.Goals.{then-number-ge10, else-number-ge10}

pub push_number-requires : goal.push_number-requires
push_number-requires t c =
    let l = length_step c.args.number c.if-number-ge10.true (omega arith) in
    (omega arith, omega arith)

pub push-requires : goal.push-requires
push-requires t c = elim c.if-number-ge10.branch [
  | then-number-ge10 w ↦ let l = length_step c.args.number w.if-number-ge10.true (omega arith) in let h = w.push_number.ensures in rw w.self-is (omega (arith, h.ends, h.same_length))
  | else-number-ge10 w ↦ let l = length_digit c.args.number w.if-number-ge10.false in rw w.self-is (omega arith)
]

pub returns : goal.returns
returns t c = elim c.if-number-ge10.branch [
  | then-number-ge10 w ↦
      let n = c.args.number in
      let l = length_step n w.if-number-ge10.true (omega arith) in
      rw (last_digit n w.if-number-ge10.true (omega arith)) (pushes_then (decimal (n / 10)) ((48 + n % 10) ∷ []) _ _ _ (omega arith) w.push_number.ensures (rw w.self-is at c.push.ensures))
  | else-number-ge10 w ↦ rw (only_digit c.args.number w.if-number-ge10.false) (rw w.self-is at c.push.ensures)
]
