-- Counting the items of a list that pass a test, one by one.
use Rattle.std.proofs.Common.{◌≡◌, ℕ, suc, ◌+◌, ◌<◌, Bool, true, false, List, [], ◌∷◌, length, get_or, take, count_by, cond, refl, sym, ap, ap₂, ◌∙◌, arith}
use Rattle.std.specs.List.{range_with_len}
use Rattle.std.proofs.lemmas.List.Sums.{count_by_more_yes, count_by_more_no, sum_by-cons}

-- one item more, that passes or not
pub one_more : {X : Type 0} (p : X → Bool) (xs : List X) (d : X) (i n : ℕ) (b : Bool) → i < length xs → n ≡ count_by p (take i xs) → b ≡ p (get_or xs i d) → b ≡ true → n + 1 ≡ count_by p (take (i + 1) xs)
one_more p xs d i n b h e f t = let c = count_by_more_yes p xs i d h (sym f ∙ t) in omega arith

pub none_more : {X : Type 0} (p : X → Bool) (xs : List X) (d : X) (i n : ℕ) (b : Bool) → i < length xs → n ≡ count_by p (take i xs) → b ≡ p (get_or xs i d) → b ≡ false → n ≡ count_by p (take (i + 1) xs)
none_more p xs d i n b h e f t = let c = count_by_more_no p xs i d h (sym f ∙ t) in omega arith

-- counting the places at which an item passes counts the items
pub counted_places : {X : Type 0} (p : X → Bool) (q : ℕ → Bool) (xs : List X) (a : ℕ) (d : X) → ((i : ℕ) → i < length xs → q (a + i) ≡ p (get_or xs i d)) → count_by q (range_with_len a (length xs)) ≡ count_by p xs
counted_places p q [] a d h = refl
counted_places p q (x ∷ xs) a d h =
    let e : q a ≡ p x = ap q (omega arith) ∙ h 0 (omega arith) in
    let r = counted_places p q xs (a + 1) d (λ i l. ap q (omega arith) ∙ h (suc i) (omega arith)) in
    sum_by-cons (λ k. cond (q k) 1 0) a (range_with_len (a + 1) (length xs)) ∙ ap₂ (λ u v. u + v) (ap (λ b. cond b 1 0) e) r ∙ sym (sum_by-cons (λ y. cond (p y) 1 0) x xs)
