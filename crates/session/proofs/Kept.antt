-- The pairs that a session keeps, and what it shows as a source of delays.
use Rattle.std.proofs.Common.{◌≡◌, ℕ, ◌<◌, ◌≤◌, Bool, true, List, length, get_or, is_some, IfSome, Some, None, Option, vec_items, sym, ap, ◌∙◌, subst, inl, inr, arith}
use Rattle.std.specs.List.{AllByRecursion, find, position, position_or_len}
use Rattle.std.proofs.ByRecursion.{all_from_every, All-map, All-weaker}
use Rattle.std.proofs.lemmas.Bool.{cases_lt, cond-false, cond-true, le-ltb, lt-ltb}
use Rattle.std.proofs.lemmas.List.{get_or-take, length-map, length-take-le}
use Rattle.std.proofs.lemmas.List.Folds.{find_at}
use Rattle.std.proofs.lemmas.List.Quantifiers.{position-Some}
use Rattle.std.proofs.lemmas.Option.{slice_get_cases}
use Rattle.timing.specs.Delays.{Lawful}
use Rattle.timing.specs.Meaning.{pair, LawfulEntry, LawfulMeaning}
use Rattle.timing.specs.declared.pair.Pair.{Pair}
use Rattle.session.specs.Book.{book, has, kept}
use Rattle.session.specs.Pairs.{KeepsLimits, joins}
use Rattle.session.specs.Saves.{session_meaning}
use Rattle.session.specs.declared.Session.{Session}

module _ (s : Session) where
  pub within_places : s.used ≤ length (vec_items s.pairs)
  within_places = let o = s.pairs.ok.0 in let f = s.fits in omega arith

  pub kept_count : length (kept s) ≡ s.used
  kept_count = length-take-le s.used (vec_items s.pairs) within_places

  pub kept_at : (k : ℕ) (d : Pair) → k < s.used → get_or (kept s) k d ≡ get_or (vec_items s.pairs) k d
  kept_at k d h = get_or-take s.used (vec_items s.pairs) k d h

  pub kept_lawful : AllByRecursion (KeepsLimits s.registers) (kept s)
  kept_lawful =
      let l = kept_count in
      all_from_every (KeepsLimits s.registers) (kept s)
      (λ k d g h. let h2 : k < s.used = omega arith in subst (KeepsLimits s.registers) (sym (kept_at k d h2)) (s.lawful k d h2))

lawful : (n : ℕ) (p : Pair) → KeepsLimits n p → Lawful n p
lawful n p h =
    record { launch_there = h.0; capture_there = h.1; min_within = h.2; in_order = h.3; max_within = h.4 }

pub entry_count_is : (s : Session) → length (session_meaning s).entries ≡ s.used
entry_count_is s = length-map (kept s) pair ∙ kept_count s

pub lawful_session : (s : Session) → LawfulMeaning (session_meaning s)
lawful_session s =
    record {
      count = s.registers_within;
      each = All-map (LawfulEntry s.registers) pair (kept s) (All-weaker (KeepsLimits s.registers) (Lawful s.registers) (lawful s.registers) (kept s) (kept_lawful s));
    }

-- a test has a first place in a list where it finds something
is_some-position : (p : Pair → Bool) (xs : List Pair) → is_some (position p xs) ≡ is_some (find p xs)
is_some-position p xs =
    let k = position_or_len p xs in
    let some = λ (o : Option ℕ). is_some o in
    let found = λ (o : Option Pair). is_some o in
    elim (slice_get_cases xs k).1 [
      | inl q ↦ ap some (cond-true _ _ _ (lt-ltb k (length xs) q.1)) ∙ sym (ap found (find_at p xs ∙ q.2))
      | inr q ↦ ap some (cond-false _ _ _ (le-ltb k (length xs) q.0)) ∙ sym (ap found (find_at p xs ∙ q.1))
    ]

-- The first place with a pair between two registers: there is one where the book has the pair, and it is among those used.
module _ (s : Session) (a b : ℕ) where
  abbrev Joins : Pair → Bool
  Joins p = joins p a b

  below_some : (i : ℕ) → position Joins (kept s) ≡ Some i → i < s.used
  below_some i e =
      let l = kept_count s in
      let k = position_or_len Joins (kept s) in
      elim (cases_lt k (length (kept s))) [
        | inl h ↦ let f : Some k ≡ Some i = sym (cond-true _ _ _ (lt-ltb k (length (kept s)) h)) ∙ e in let g : k ≡ i = cc in omega arith
        | inr h ↦ let f : ◌≡◌ {A = Option ℕ} None (Some i) = sym (cond-false _ _ _ (le-ltb k (length (kept s)) h)) ∙ e in absurd (cc)
      ]

  pub first_place : (r : Option ℕ) → r ≡ position Joins (kept s) → (is_some r ≡ has (book s) a b) × IfSome r (λ i. i < s.used) × IfSome r (λ i. (d : Pair) → joins (get_or (vec_items s.pairs) i d) a b ≡ true)
  first_place None e = (ap is_some e ∙ is_some-position Joins (kept s), tt, tt)
  first_place (Some i) e =
      let h : i < s.used = below_some i (sym e) in
      (ap is_some e ∙ is_some-position Joins (kept s), h, λ d. ap Joins (sym (kept_at s i d h)) ∙ (position-Some Joins (kept s) i d (sym e)).1)
