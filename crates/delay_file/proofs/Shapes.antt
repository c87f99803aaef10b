-- What a record reads as, by its first four bytes.
use Rattle.std.proofs.Common.{◌≡◌, ℕ, Bool, true, false, cond, ◌&&◌, eqb, List, length, get_or, drop, Some, Option, refl, arith, get_or-drop}
use Rattle.std.proofs.lemmas.List.{drop-drop}
use Rattle.std.proofs.lemmas.Bool.Decides.{nat_tests}
use Rattle.timing.specs.declared.pair.Pair.{Pair}
use Rattle.delay_file.specs.Bytes.{be32, every, is_zero}
use Rattle.delay_file.specs.Files.{numbered}
use Rattle.delay_file.specs.Records.{register, delay, refused, reading, register_rest, pair_rest, starts, pair_fields, name_in, lawful_field}

pub reading_1 : (k : ℕ) (xs : List ℕ) → length xs ≡ 32 → get_or xs 0 0 ≡ 1 → get_or xs 1 0 ≡ 0 → get_or xs 2 0 ≡ 0 → get_or xs 3 0 ≡ 0 → reading k xs ≡ register_rest k (drop 4 xs)
reading_1 k xs n p q r s = rw (n, p, q, r, s) (simp (drop-drop, get_or-drop))

pub reading_2 : (k : ℕ) (xs : List ℕ) → length xs ≡ 32 → get_or xs 0 0 ≡ 2 → get_or xs 1 0 ≡ 0 → get_or xs 2 0 ≡ 0 → get_or xs 3 0 ≡ 0 → reading k xs ≡ pair_rest k (drop 4 xs)
reading_2 k xs n p q r s = rw (n, p, q, r, s) (simp (drop-drop, get_or-drop))

pub reading_other : (k : ℕ) (xs : List ℕ) → length xs ≡ 32 → starts 1 xs ≡ false → starts 2 xs ≡ false → reading k xs ≡ refused 13 (Some k)
reading_other k xs n a b = rw (n, a, b)

-- a record of neither kind is malformed
pub reading_neither : (k : ℕ) (xs : List ℕ) → length xs ≡ 32 → (get_or xs 0 0 ≡ 1 → ⊥) → (get_or xs 0 0 ≡ 2 → ⊥) → reading k xs ≡ refused 13 (Some k)
reading_neither k xs n a b = reading_other k xs n (grind (arith, nat_tests)) (grind (arith, nat_tests))

none_numbered : (n k : ℕ) (a b : Bool) (p : Pair) → numbered n (cond a (cond b (delay p) (refused 13 (Some k))) (refused 12 (Some k))) ≡ false
none_numbered n k true true p = refl
none_numbered n k true false p = refl
none_numbered n k false b p = refl

-- a record of another kind is no register
pub other_kind : (n k : ℕ) (xs : List ℕ) → eqb (get_or xs 0 0) 1 ≡ false → numbered n (reading k xs) ≡ false
other_kind n k xs e = rw e (none_numbered n k (eqb (length xs) 32) (starts 2 xs && every is_zero (drop 20 xs)) (pair_fields xs))

either_way : (b : Bool) (n : ℕ) (name : List ℕ) (k a : ℕ) (r : Option ℕ) → refused a r ≡ cond b (register n name) (refused 13 (Some k)) → (numbered k (cond b (register n name) (refused 13 (Some k))) ≡ false) × (refused a r ≡ refused 13 (Some k))
either_way true n name k a r e = absurd (let z : ◌≡◌ {A = ℕ} 0 1 = cc in omega arith)
either_way false n name k a r e = (refl, e)

-- a record of the register kind is a register or malformed
pub register_refused : (k : ℕ) (xs : List ℕ) (a : ℕ) (r : Option ℕ) → length xs ≡ 32 → get_or xs 0 0 ≡ 1 → refused a r ≡ reading k xs → (numbered k (reading k xs) ≡ false) × (refused a r ≡ refused 13 (Some k))
register_refused k xs a r n p =
    rw (n, p) (either_way _ (be32 xs 4) (name_in (drop 8 xs)) k a r)

only_here : (k a : ℕ) (r : Option ℕ) (x y z : Bool) (n : ℕ) (name : List ℕ) (p : Pair) → refused a r ≡ cond x (cond y (register n name) (cond z (delay p) (refused 13 (Some k)))) (refused 12 (Some k)) → r ≡ Some k
only_here k a r true true z n name p e = absurd (let q : ◌≡◌ {A = ℕ} 0 1 = cc in omega arith)
only_here k a r true false true n name p e = absurd (let q : ◌≡◌ {A = ℕ} 0 1 = cc in omega arith)
only_here k a r true false false n name p e = cc
only_here k a r false y z n name p e = cc

-- a record that is refused is the one at fault
pub refused_here : (k a : ℕ) (r : Option ℕ) (xs : List ℕ) → refused a r ≡ reading k xs → r ≡ Some k
refused_here k a r xs = only_here k a r (eqb (length xs) 32) (starts 1 xs && lawful_field (drop 8 xs)) (starts 2 xs && every is_zero (drop 20 xs)) (be32 xs 4) (name_in (drop 8 xs)) (pair_fields xs)
