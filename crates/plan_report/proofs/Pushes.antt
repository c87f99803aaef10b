-- Pieces of text put into memory one behind the other.
use Rattle.std.proofs.Common.{◌≡◌, ℕ, ◌+◌, ◌≤◌, List, ◌++◌, length, take, drop, sym, ap, ◌∙◌, ap₂, append_assoc, zero-add, arith, length-append}
use Rattle.std.proofs.lemmas.List.{take_at, drop_at, drop-drop, length-take-le}
use Rattle.plan_report.specs.Text.{HasRoom, put, Pushes}
use Rattle.plan_report.specs.declared.text.Text.{Text}

module _ (at : ℕ) (a b was : List ℕ) (room : at + length a ≤ length was) where
  front : length (take at was ++ a) ≡ at + length a
  front = length-append (take at was) a ∙ ap (λ n. n + length a) (length-take-le at was (omega arith))

  grouped : put at a was ≡ (take at was ++ a) ++ drop (at + length a) was
  grouped = sym (append_assoc (take at was) a (drop (at + length a) was))

  taken : take (at + length a) (put at a was) ≡ take at was ++ a
  taken = ap (take (at + length a)) grouped ∙ take_at (take at was ++ a) (drop (at + length a) was) (at + length a) front

  left : drop (at + length a + length b) (put at a was) ≡ drop (at + length (a ++ b)) was
  left =
      let n : at + length a + length b ≡ at + length (a ++ b) = let l = length-append a b in omega arith in
      sym (drop-drop (length b) (at + length a) (put at a was))
      ∙ ap (drop (length b)) (ap (drop (at + length a)) grouped ∙ drop_at (take at was ++ a) (drop (at + length a) was) (at + length a) front)
      ∙ drop-drop (length b) (at + length a) was
      ∙ ap (λ k. drop k was) n

  -- two pieces, the second where the first ends, are one
  put_put : put (at + length a) b (put at a was) ≡ put at (a ++ b) was
  put_put =
      let rest = drop (at + length (a ++ b)) was in
      ap₂ (λ x y. x ++ (b ++ y)) taken left
      ∙ append_assoc (take at was) a (b ++ rest)
      ∙ ap (λ x. take at was ++ x) (sym (append_assoc a b rest))

-- a piece behind a piece is one piece
pub pushes_then : (a b : List ℕ) (was mid now : Text) → HasRoom was (length a) → Pushes a was mid → Pushes b mid now → Pushes (a ++ b) was now
pushes_then a b was mid now room p q = record {
  memory = q.memory ∙ ap₂ (λ k x. put k b x) p.ends p.memory ∙ put_put was.end a b was.memory.now room;
  ends = let l = length-append a b in let x = p.ends in let y = q.ends in omega arith;
  same_length = q.same_length ∙ p.same_length;
  same_memory = q.same_memory ∙ p.same_memory;
}

-- a text that begins where its memory does: it stands at the front, and the rest stays
module _ (xs out : List ℕ) (was now : Text) (start : was.end ≡ 0) (memory : was.memory.now ≡ out) (p : Pushes xs was now) where
  as_one : now.memory.now ≡ xs ++ drop (length xs) out
  as_one = p.memory ∙ ap₂ (λ k ys. put k xs ys) start memory ∙ ap (λ n. xs ++ drop n out) (zero-add (length xs))

  end_is : length xs ≡ now.end
  end_is = let e = p.ends in omega (arith, start)

  pub front_is : take now.end now.memory.now ≡ xs
  front_is = ap (take now.end) as_one ∙ take_at xs (drop (length xs) out) now.end end_is

  pub rest_is : drop now.end now.memory.now ≡ drop now.end out
  rest_is = ap (drop now.end) as_one ∙ drop_at xs (drop (length xs) out) now.end end_is ∙ ap (λ n. drop n out) end_is
