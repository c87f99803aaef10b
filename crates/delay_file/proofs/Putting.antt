-- Records put one behind the other into memory.
use Rattle.std.proofs.Common.{◌≡◌, ℕ, ◌+◌, ◌-◌, ◌*◌, ◌<◌, ◌≤◌, List, [], ◌++◌, length, get_or, take, drop, sym, ap, ◌∙◌, ap₂, append_assoc, arith}
use borrow.Rule.Slice.PartMut.{put_mid}
use Rattle.std.specs.List.{AllByRecursion}
use Rattle.std.proofs.ByRecursion.{All-take}
use Rattle.std.proofs.lemmas.List.{take_at, drop_at, drop-drop, take_more, length-take-le}
use Rattle.delay_file.specs.Files.{joined}
use Rattle.delay_file.proofs.Written.{Whole, length_joined, joined_push}

-- a record put into its place
pub put_is : (xs ys zs : List ℕ) (a : ℕ) → ys ≡ zs → put_mid a (a + 32 - a) xs ys ≡ take a xs ++ (zs ++ drop (a + 32) xs)
put_is xs ys zs a e =
    let k : a + 32 - a ≡ 32 = omega arith in
    ap₂ (λ n y. take a xs ++ (y ++ drop n (drop a xs))) k e ∙ ap (λ l. take a xs ++ (zs ++ l)) (drop-drop 32 a xs)

module _ (R : List (List ℕ)) (whole : AllByRecursion Whole R) (was : List ℕ) where
  front_length : (k : ℕ) → k ≤ length R → length (joined (take k R)) ≡ k * 32
  front_length k h = length_joined (take k R) (All-take Whole k R whole) ∙ ap (λ n. n * 32) (length-take-le k R h)

  -- one record more
  pub one_record : (k : ℕ) (out more b : List ℕ) → k < length R → out ≡ joined (take k R) ++ drop (k * 32) was → b ≡ get_or R k [] → more ≡ take (k * 32) out ++ (b ++ drop (k * 32 + 32) out) → more ≡ joined (take (k + 1) R) ++ drop ((k + 1) * 32) was
  one_record k out more b h e f m =
      let l = front_length k (omega arith) in
      let t : take (k * 32) out ≡ joined (take k R) = ap (take (k * 32)) e ∙ take_at (joined (take k R)) (drop (k * 32) was) (k * 32) l in
      let d : drop (k * 32) out ≡ drop (k * 32) was = ap (drop (k * 32)) e ∙ drop_at (joined (take k R)) (drop (k * 32) was) (k * 32) l in
      let n : k * 32 + 32 ≡ (k + 1) * 32 = omega arith in
      let u : drop (k * 32 + 32) out ≡ drop ((k + 1) * 32) was = sym (drop-drop 32 (k * 32) out) ∙ ap (drop 32) d ∙ drop-drop 32 (k * 32) was ∙ ap (λ j. drop j was) n in
      m ∙ ap₂ (λ x y. x ++ (b ++ y)) t u
      ∙ sym (append_assoc (joined (take k R)) b (drop ((k + 1) * 32) was))
      ∙ ap (λ x. (joined (take k R) ++ x) ++ drop ((k + 1) * 32) was) f
      ∙ ap (λ x. x ++ drop ((k + 1) * 32) was) (sym (joined_push (take k R) (get_or R k [])) ∙ ap joined (sym (take_more R k [] h)))
