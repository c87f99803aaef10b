-- Look-up by places, and how it follows a write.
use Rattle.std.proofs.Common.{◌≡◌, ℕ, zero, suc, ◌+◌, ◌-◌, ◌<◌, ◌≤◌, true, false, cond, ◌&&◌, eqb, ◌≢◌, ◌⊎◌, List, [], ◌∷◌, length, get_or, take, set, Some, None, Option, sym, refl, ap, ◌∙◌, subst, inl, inr, arith, length-set, get_or-set_other, get_or-set_same}
use Rattle.std.proofs.lemmas.List.{take_more_set, get_or_default}
use Rattle.std.proofs.lemmas.List.Folds.{find-append}
use Rattle.std.specs.Option.{option_or}
use Rattle.std.proofs.lemmas.Bool.{cases_Bool, cases_eq, cond-true, cond-false, and_parts, and_from, eqb-true, eq-eqb, both_ways, and_left, and_right, ne_eqb}
use Rattle.timing.specs.declared.pair.Pair.{Pair}
use Rattle.session.specs.Pairs.{joins, find, Twins, Apart, AllLawful, KeepsLimits, Before, Rises}

pub joins_keys : (p : Pair) (a b : ℕ) → joins p a b ≡ true → (p.launch ≡ a) × (p.capture ≡ b)
joins_keys p a b h =
    let q = and_parts (eqb p.launch a) (eqb p.capture b) h in (eqb-true _ _ q.0, eqb-true _ _ q.1)

pub keys_join : (p : Pair) (a b : ℕ) → p.launch ≡ a → p.capture ≡ b → joins p a b ≡ true
keys_join p a b h k = and_from _ _ (eq-eqb _ _ h) (eq-eqb _ _ k)

abbrev pub Missing : ℕ → List Pair → ℕ → ℕ → Type 0
Missing n xs a b = (k : ℕ) (d : Pair) → k < n → joins (get_or xs k d) a b ≡ false

pub record Found (n : ℕ) (xs : List Pair) (a b : ℕ) : Type 0 where
  pub got : Pair
  pub k : ℕ
  pub k_in : k < n
  pub hit : (d : Pair) → joins (get_or xs k d) a b ≡ true
  pub is : (d : Pair) → find (take n xs) a b ≡ Some (get_or xs k d)

missing_more : (n : ℕ) (p : Pair) (ps : List Pair) (a b : ℕ) → joins p a b ≡ false → Missing n ps a b → Missing (suc n) (p ∷ ps) a b
missing_more n p ps a b f m zero d h = f
missing_more n p ps a b f m (suc k) d h = m k d (omega arith)

pub look : (n : ℕ) (xs : List Pair) (a b : ℕ) → n ≤ length xs → ((find (take n xs) a b ≡ None) × Missing n xs a b) ⊎ Found n xs a b
look zero xs a b l = inl (refl, λ k d h. absurd (omega arith))
look (suc n) [] a b l = absurd (omega arith)
look (suc n) (p ∷ ps) a b l =
    elim (cases_Bool (joins p a b)) [
      | inl t ↦ inr (record { got = p; k = 0; k_in = omega arith; hit = λ d. t; is = λ d. cond-true (joins p a b) _ _ t })
      | inr f ↦
          let l2 : n ≤ length ps = omega arith in
          elim (look n ps a b l2) [
            | inl q ↦ inl (cond-false (joins p a b) _ _ f ∙ q.0, missing_more n p ps a b f q.1)
            | inr q ↦ inr (record { got = p; k = suc q.k; k_in = let h = q.k_in in omega arith; hit = q.hit; is = λ d. cond-false (joins p a b) _ _ f ∙ q.is d })
          ]
    ]

pub missing_none : (n : ℕ) (xs : List Pair) (a b : ℕ) → n ≤ length xs → Missing n xs a b → find (take n xs) a b ≡ None
missing_none n xs a b l m =
    elim (look n xs a b l) [
      | inl q ↦ q.0
      | inr q ↦ absurd (both_ways _ (m q.k q.got q.k_in) (q.hit q.got))
    ]

pub none_missing : (n : ℕ) (xs : List Pair) (a b : ℕ) → n ≤ length xs → find (take n xs) a b ≡ None → Missing n xs a b
none_missing n xs a b l e k d h =
    elim (look n xs a b l) [
      | inl q ↦ q.1 k d h
      | inr q ↦ let f = q.is d in let z : ◌≡◌ {A = ℕ} 0 1 = cc in absurd (omega arith)
    ]

-- where no two are alike, what is at k is what is found
pub found_is : (n : ℕ) (xs : List Pair) (a b k : ℕ) → n ≤ length xs → Apart n xs → k < n → ((d : Pair) → joins (get_or xs k d) a b ≡ true) →
    (d : Pair) → find (take n xs) a b ≡ Some (get_or xs k d)
found_is n xs a b k l apart h hit d =
    elim (look n xs a b l) [
      | inl q ↦ absurd (both_ways _ (q.1 k d h) (hit d))
      | inr q ↦
          let u = joins_keys (get_or xs k d) a b (hit d) in
          let v = joins_keys (get_or xs q.k d) a b (q.hit d) in
          let t : Twins n xs = record { i = k; j = q.k; d = d; e = d; i_in = h; j_in = q.k_in; launch_same = u.0 ∙ sym v.0; capture_same = u.1 ∙ sym v.1 } in
          let e : k ≡ q.k = apart t in
          q.is d ∙ ap (λ (m : ℕ). Some (get_or xs m d)) (sym e)
    ]

-- one more at the end
pub or_none : (o : Option Pair) → option_or o None ≡ o
or_none None = refl
or_none (Some p) = refl

pub find_added : (n : ℕ) (xs : List Pair) (p : Pair) (a b : ℕ) → n < length xs → find (take n xs) p.launch p.capture ≡ None →
    find (take (n + 1) (set xs n p)) a b ≡ cond (joins p a b) (Some p) (find (take n xs) a b)
find_added n xs p a b l e =
    ap (λ (ys : List Pair). find ys a b) (take_more_set xs n p l) ∙ find-append (λ q. joins q a b) (take n xs) (p ∷ []) ∙
    elim (cases_Bool (joins p a b)) [
      | inl t ↦
          let k = joins_keys p a b t in
          let absent : find (take n xs) a b ≡ None = ap (λ (v : ℕ). find (take n xs) v b) (sym k.0) ∙ ap (λ (w : ℕ). find (take n xs) p.launch w) (sym k.1) ∙ e in
          rw (absent, t)
      | inr f ↦ rw f (or_none (find (take n xs) a b))
    ]

-- what stands where after a write
abbrev Wrote : List Pair → ℕ → Pair → ℕ → Pair → Type 0
Wrote xs n p k d = ((k ≡ n) × (get_or (set xs n p) k d ≡ p)) ⊎ ((k ≡ n → ⊥) × (get_or (set xs n p) k d ≡ get_or xs k d))

pub wrote : (xs : List Pair) (n : ℕ) (p : Pair) (k : ℕ) (d : Pair) → n < length xs → Wrote xs n p k d
wrote xs n p k d l =
    elim (cases_eq k n) [
      | inl e ↦ inl (e, ap (λ (m : ℕ). get_or (set xs n p) m d) e ∙ get_or-set_same xs n p d l)
      | inr ne ↦ inr (ne, get_or-set_other xs n k p d ne)
    ]

pub apart_added : (n : ℕ) (xs : List Pair) (p : Pair) → n < length xs → Apart n xs → Missing n xs p.launch p.capture → Apart (n + 1) (set xs n p)
apart_added n xs p l apart m t =
    let L : Pair → ℕ = λ y. y.launch in
    let C : Pair → ℕ = λ y. y.capture in
    let ii = t.i_in in let jj = t.j_in in
    elim (wrote xs n p t.i t.d l) [
      | inl u ↦
          elim (wrote xs n p t.j t.e l) [
            | inl v ↦ u.0 ∙ sym v.0
            | inr v ↦
                let ne = v.0 in let h : t.j < n = omega arith in
                absurd (both_ways _ (m t.j t.e h)
                (keys_join (get_or xs t.j t.e) _ _ (sym (ap L v.1) ∙ sym t.launch_same ∙ ap L u.1) (sym (ap C v.1) ∙ sym t.capture_same ∙ ap C u.1)))
          ]
      | inr u ↦
          let ne = u.0 in let h : t.i < n = omega arith in
          elim (wrote xs n p t.j t.e l) [
            | inl v ↦
                absurd (both_ways _ (m t.i t.d h)
                (keys_join (get_or xs t.i t.d) _ _ (sym (ap L u.1) ∙ t.launch_same ∙ ap L v.1) (sym (ap C u.1) ∙ t.capture_same ∙ ap C v.1)))
            | inr v ↦
                let ne2 = v.0 in let h2 : t.j < n = omega arith in
                apart (record {
                  i = t.i;
                  j = t.j;
                  d = t.d;
                  e = t.e;
                  i_in = h;
                  j_in = h2;
                  launch_same = sym (ap L u.1) ∙ t.launch_same ∙ ap L v.1;
                  capture_same = sym (ap C u.1) ∙ t.capture_same ∙ ap C v.1;
                })
          ]
    ]

-- a lawful pair written into place i
pub lawful_wrote : (r n m : ℕ) (xs : List Pair) (i : ℕ) (p : Pair) → i < length xs → KeepsLimits r p → ((k : ℕ) → k < m → (k ≡ i → ⊥) → k < n) → AllLawful r n xs → AllLawful r m (set xs i p)
lawful_wrote r n m xs i p l a f w k d h =
    elim (wrote xs i p k d l) [ inl u ↦ subst (KeepsLimits r) (sym u.1) a | inr u ↦ subst (KeepsLimits r) (sym u.1) (w k d (f k h u.0)) ]

-- the last of n moved to the place i: where each of the n - 1 was
pub record From (n : ℕ) (xs : List Pair) (i : ℕ) (p : Pair) (k : ℕ) : Type 0 where
  pub at : ℕ
  pub at_in : at < n
  pub same : (d : Pair) → get_or (set xs i p) k d ≡ get_or xs at d
  pub which : ((k ≡ i) × (at ≡ n - 1)) ⊎ ((k ≡ i → ⊥) × (at ≡ k))

pub from : (n : ℕ) (xs : List Pair) (i : ℕ) (p e : Pair) (k : ℕ) → n ≤ length xs → i < n → k < n - 1 → p ≡ get_or xs (n - 1) e → From n xs i p k
from n xs i p e k l ii kk last =
    elim (cases_eq k i) [
      | inl q ↦ record {
        at = n - 1;
        at_in = omega arith;
        same = λ d. ap (λ (m : ℕ). get_or (set xs i p) m d) q ∙ get_or-set_same xs i p d (omega arith) ∙ last ∙ get_or_default xs (n - 1) e d (omega arith);
        which = inl (q, refl);
      }
      | inr q ↦ record { at = k; at_in = omega arith; same = λ d. get_or-set_other xs i k p d q; which = inr (q, refl) }
    ]

pub apart_moved : (n : ℕ) (xs : List Pair) (i : ℕ) (p e : Pair) → n ≤ length xs → i < n → p ≡ get_or xs (n - 1) e → Apart n xs → Apart (n - 1) (set xs i p)
apart_moved n xs i p e l ii last apart t =
    let L : Pair → ℕ = λ y. y.launch in
    let C : Pair → ℕ = λ y. y.capture in
    let i1 = t.i_in in let j1 = t.j_in in
    let u = from n xs i p e t.i l ii i1 last in
    let v = from n xs i p e t.j l ii j1 last in
    let z : u.at ≡ v.at = apart (record {
      i = u.at;
      j = v.at;
      d = t.d;
      e = t.e;
      i_in = u.at_in;
      j_in = v.at_in;
      launch_same = sym (ap L (u.same t.d)) ∙ t.launch_same ∙ ap L (v.same t.e);
      capture_same = sym (ap C (u.same t.d)) ∙ t.capture_same ∙ ap C (v.same t.e);
    }) in
    elim u.which [
      | inl a ↦ elim v.which [ inl b ↦ a.0 ∙ sym b.0 | inr b ↦ let x = a.1 in let y = b.1 in absurd (omega arith) ]
      | inr a ↦ elim v.which [ inl b ↦ let x = a.1 in let y = b.1 in absurd (omega arith) | inr b ↦ sym a.1 ∙ z ∙ b.1 ]
    ]

pub find_moved : (n : ℕ) (xs : List Pair) (i : ℕ) (p e : Pair) (a b : ℕ) → n ≤ length xs → i < n → p ≡ get_or xs (n - 1) e → Apart n xs →
    ((d : Pair) → joins (get_or xs i d) a b ≡ true) → (x y : ℕ) →
    find (take (n - 1) (set xs i p)) x y ≡ cond (eqb x a && eqb y b) None (find (take n xs) x y)
find_moved n xs i p e a b l ii last apart hit x y =
    let ys = set xs i p in
    let l2 : n - 1 ≤ length ys = omega (arith, length-set xs i p) in
    let apart2 : Apart (n - 1) ys = apart_moved n xs i p e l ii last apart in
    elim (cases_Bool (eqb x a && eqb y b)) [
      | inl t ↦
          let kx = and_parts (eqb x a) (eqb y b) t in
          let ex : x ≡ a = eqb-true x a kx.0 in
          let ey : y ≡ b = eqb-true y b kx.1 in
          let gone : Missing (n - 1) ys x y = λ k d h.
          elim (cases_Bool (joins (get_or ys k d) x y)) [
            | inr f ↦ f
            | inl bad ↦
                let u = from n xs i p e k l ii h last in
                let kb = joins_keys (get_or ys k d) x y bad in
                let ki = joins_keys (get_or xs i d) a b (hit d) in
                let z : i ≡ u.at = apart (record {
                  i = i;
                  j = u.at;
                  d = d;
                  e = d;
                  i_in = ii;
                  j_in = u.at_in;
                  launch_same = ki.0 ∙ sym ex ∙ sym kb.0 ∙ ap (λ (q : Pair). q.launch) (u.same d);
                  capture_same = ki.1 ∙ sym ey ∙ sym kb.1 ∙ ap (λ (q : Pair). q.capture) (u.same d);
                }) in
                elim u.which [ inl w ↦ let w0 = w.0 in let w1 = w.1 in absurd (omega arith) | inr w ↦ let w1 = w.1 in absurd (w.0 (omega arith)) ]
          ] in
          missing_none (n - 1) ys x y l2 gone ∙ sym (cond-true (eqb x a && eqb y b) None (find (take n xs) x y) t)
      | inr f ↦
          (elim (look n xs x y l) [
            | inl q ↦
                missing_none (n - 1) ys x y l2
                (λ k d h. let u = from n xs i p e k l ii h last in ap (λ (v : Pair). joins v x y) (u.same d) ∙ q.1 u.at d u.at_in) ∙ sym q.0
            | inr q ↦
                let kin = q.k_in in
                let other : q.k ≡ i → ⊥ = λ s.
                let k1 = joins_keys (get_or xs q.k p) x y (q.hit p) in
                let k2 = joins_keys (get_or xs i p) a b (hit p) in
                let sl : get_or xs q.k p ≡ get_or xs i p = ap (λ (m : ℕ). get_or xs m p) s in
                both_ways _ f (and_from _ _ (eq-eqb _ _ (sym k1.0 ∙ ap (λ (v : Pair). v.launch) sl ∙ k2.0)) (eq-eqb _ _ (sym k1.1 ∙ ap (λ (v : Pair). v.capture) sl ∙ k2.1))) in
                elim (cases_eq q.k (n - 1)) [
                  | inl s ↦
                      let ni : i < n - 1 = let o : i ≢ n - 1 = λ w. other (s ∙ sym w) in omega arith in
                      let here : (d : Pair) → get_or ys i d ≡ get_or xs q.k d = λ d. get_or-set_same xs i p d (omega arith) ∙ last ∙ get_or_default xs (n - 1) e d (omega arith) ∙ ap (λ (m : ℕ). get_or xs m d) (sym s) in
                      found_is (n - 1) ys x y i l2 apart2 ni (λ d. ap (λ (v : Pair). joins v x y) (here d) ∙ q.hit d) p ∙ ap (λ (v : Pair). Some v) (here p) ∙ sym (q.is p)
                  | inr s ↦
                      let nk : q.k < n - 1 = omega arith in
                      let here : (d : Pair) → get_or ys q.k d ≡ get_or xs q.k d = λ d. get_or-set_other xs i q.k p d other in
                      found_is (n - 1) ys x y q.k l2 apart2 nk (λ d. ap (λ (v : Pair). joins v x y) (here d) ∙ q.hit d) p ∙ ap (λ (v : Pair). Some v) (here p) ∙ sym (q.is p)
                ]
          ])
          ∙ sym (cond-false (eqb x a && eqb y b) None (find (take n xs) x y) f)
    ]

-- pairs that rise are apart
before_next : (p q r : Pair) → Before p q → Before q r → Before p r
before_next p q r (inl a) (inl b) = inl (omega arith)
before_next p q r (inl a) (inr b) = let b0 = b.0 in inl (omega arith)
before_next p q r (inr a) (inl b) = let a0 = a.0 in inl (omega arith)
before_next p q r (inr a) (inr b) = let a1 = a.1 in let b1 = b.1 in inr (a.0 ∙ b.0, omega arith)

rises_far : (n : ℕ) (xs : List Pair) (j m : ℕ) (d : Pair) → Rises n xs → j + 1 + m < n → Before (get_or xs j d) (get_or xs (j + 1 + m) d)
rises_far n xs j zero d r h =
    let z : j + 1 ≡ j + 1 + 0 = omega arith in
    let P : ℕ → Type 0 = λ k. Before (get_or xs j d) (get_or xs k d) in
    subst P z (r j d (omega arith))
rises_far n xs j (suc m) d r h =
    let z : j + 1 + m + 1 ≡ j + 1 + suc m = omega arith in
    let P : ℕ → Type 0 = λ k. Before (get_or xs j d) (get_or xs k d) in
    subst P z (before_next (get_or xs j d) (get_or xs (j + 1 + m) d) (get_or xs (j + 1 + m + 1) d) (rises_far n xs j m d r (omega arith)) (r (j + 1 + m) d (omega arith)))

before_apart : (p q : Pair) → Before p q → joins p q.launch q.capture ≡ false
before_apart p q (inl a) = and_left (eqb p.launch q.launch) (eqb p.capture q.capture) (ne_eqb _ _ (λ e. omega arith))
before_apart p q (inr a) = let a1 = a.1 in and_right (eqb p.launch q.launch) (eqb p.capture q.capture) (ne_eqb _ _ (λ e. omega arith))

pub rises_none : (xs : List Pair) (i : ℕ) (d : Pair) → i < length xs → Rises (i + 1) xs → find (take i xs) (get_or xs i d).launch (get_or xs i d).capture ≡ None
rises_none xs i d l r =
    missing_none i xs (get_or xs i d).launch (get_or xs i d).capture (omega arith)
    (λ k e h.
    let z : k + 1 + (i - (k + 1)) ≡ i = omega arith in
    let P : ℕ → Type 0 = λ m. Before (get_or xs k d) (get_or xs m d) in
    let b : Before (get_or xs k d) (get_or xs i d) = subst P z (rises_far (i + 1) xs k (i - (k + 1)) d r (omega arith)) in
    ap (λ (v : Pair). joins v (get_or xs i d).launch (get_or xs i d).capture) (get_or_default xs k e d (omega arith)) ∙ before_apart (get_or xs k d) (get_or xs i d) b)

-- one more that comes after the last
pub rises_more : (xs : List Pair) (i : ℕ) (d : Pair) → i < length xs → Rises i xs → (0 < i → Before (get_or xs (i - 1) d) (get_or xs i d)) → Rises (i + 1) xs
rises_more xs i d l r h k e m =
    elim (cases_eq (k + 1) i) [
      | inl z ↦
          let y : i - 1 ≡ k = omega arith in
          let b : Before (get_or xs (i - 1) d) (get_or xs i d) = h (omega arith) in
          let P : Pair → Type 0 = λ p. Before p (get_or xs (k + 1) e) in
          let Q : Pair → Type 0 = λ p. Before (get_or xs (i - 1) d) p in
          subst P (ap (λ (n : ℕ). get_or xs n d) y ∙ get_or_default xs k d e (omega arith))
          (subst Q (ap (λ (n : ℕ). get_or xs n d) (sym z) ∙ get_or_default xs (k + 1) d e (omega arith)) b)
      | inr z ↦ r k e (omega arith)
    ]

-- the pair at place i is replaced by another between the same registers
module _ (n : ℕ) (xs : List Pair) (i : ℕ) (p : Pair) (l : n ≤ length xs) (h : i < n) (same : (d : Pair) → joins (get_or xs i d) p.launch p.capture ≡ true) where
  same_keys : (k : ℕ) (d : Pair) → ((get_or (set xs i p) k d).launch ≡ (get_or xs k d).launch) × ((get_or (set xs i p) k d).capture ≡ (get_or xs k d).capture)
  same_keys k d =
      let ki = joins_keys (get_or xs i d) p.launch p.capture (same d) in
      elim (wrote xs i p k d (omega arith)) [
        | inl u ↦
            let e : get_or xs i d ≡ get_or xs k d = ap (λ (m : ℕ). get_or xs m d) (sym u.0) in
            (ap (λ (q : Pair). q.launch) u.1 ∙ sym ki.0 ∙ ap (λ (q : Pair). q.launch) e, ap (λ (q : Pair). q.capture) u.1 ∙ sym ki.1 ∙ ap (λ (q : Pair). q.capture) e)
        | inr u ↦ (ap (λ (q : Pair). q.launch) u.1, ap (λ (q : Pair). q.capture) u.1)
      ]

  pub apart_replaced : Apart n xs → Apart n (set xs i p)
  apart_replaced apart t =
      apart (record {
        i = t.i;
        j = t.j;
        d = t.d;
        e = t.e;
        i_in = t.i_in;
        j_in = t.j_in;
        launch_same = sym (same_keys t.i t.d).0 ∙ t.launch_same ∙ (same_keys t.j t.e).0;
        capture_same = sym (same_keys t.i t.d).1 ∙ t.capture_same ∙ (same_keys t.j t.e).1;
      })

  same_joins : (k : ℕ) (d : Pair) (x y : ℕ) → joins (get_or (set xs i p) k d) x y ≡ joins (get_or xs k d) x y
  same_joins k d x y = let s = same_keys k d in ap (λ (v : ℕ). eqb v x && eqb (get_or (set xs i p) k d).capture y) s.0 ∙ ap (λ (v : ℕ). eqb (get_or xs k d).launch x && eqb v y) s.1

  here : (d : Pair) → get_or (set xs i p) i d ≡ p
  here d = get_or-set_same xs i p d (omega arith)

  pub find_replaced : Apart n xs → (x y : ℕ) → find (take n (set xs i p)) x y ≡ cond (joins p x y) (Some p) (find (take n xs) x y)
  find_replaced apart x y =
      let ys = set xs i p in
      let l2 : n ≤ length ys = omega (arith, length-set xs i p) in
      let apart2 = apart_replaced apart in
      elim (cases_Bool (joins p x y)) [
        | inl t ↦
            found_is n ys x y i l2 apart2 h (λ d. ap (λ (v : Pair). joins v x y) (here d) ∙ t) p ∙ ap (λ (v : Pair). Some v) (here p) ∙ sym (cond-true (joins p x y) (Some p) (find (take n xs) x y) t)
        | inr f ↦
            elim (look n xs x y l) [
              | inl q ↦ missing_none n ys x y l2 (λ k d m. same_joins k d x y ∙ q.1 k d m) ∙ sym q.0
              | inr q ↦
                  let other : q.k ≡ i → ⊥ = λ s. both_ways _ f (ap (λ (v : Pair). joins v x y) (sym (here p) ∙ ap (λ (m : ℕ). get_or ys m p) (sym s)) ∙ same_joins q.k p x y ∙ q.hit p) in
                  let there : (d : Pair) → get_or ys q.k d ≡ get_or xs q.k d = λ d. get_or-set_other xs i q.k p d other in
                  found_is n ys x y q.k l2 apart2 q.k_in (λ d. same_joins q.k d x y ∙ q.hit d) p ∙ ap (λ (v : Pair). Some v) (there p) ∙ sym (q.is p)
            ] ∙ sym (cond-false (joins p x y) (Some p) (find (take n xs) x y) f)
      ]
