-- The registers at the start of a file: the steps and the ends of the loop that counts them.
use Rattle.std.proofs.Common.{◌≡◌, ℕ, ◌+◌, ◌<◌, ◌≤◌, Bool, true, false, ltb, List, get_or, drop, Ok, ap, ◌∙◌, arith}
use Rattle.std.specs.List.{range_with_len, prefix_len}
use Rattle.std.proofs.lemmas.List.FromFn.{length-range_with_len, get_or-range_with_len}
use Rattle.std.proofs.lemmas.List.Sums.{prefix_len-drop_yes, prefix_len-drop_no, prefix_len-drop_all, prefix_len-le-length}
use Rattle.std.proofs.lemmas.Bool.{and_from, and_left, and_right}
use Rattle.std.proofs.lemmas.Bool.Decides.{nat_tests}
use Rattle.delay_file.specs.Files.{register_at, register_run, register_kind, broken_run, record_count, JudgedRegister}

-- the registers are records
pub run_within : (bytes : List ℕ) → register_run bytes ≤ record_count bytes
run_within bytes =
    let l = length-range_with_len 0 (record_count bytes) in
    let r = prefix_len-le-length (register_at bytes) (range_with_len 0 (record_count bytes)) in
    omega arith

-- what is left to count after i records
abbrev pub ahead : List ℕ → ℕ → ℕ
ahead bytes i = prefix_len (register_at bytes) (drop i (range_with_len 0 (record_count bytes)))

module _ (bytes : List ℕ) (i : ℕ) where
  at_place : i < record_count bytes → get_or (range_with_len 0 (record_count bytes)) i 0 ≡ i
  at_place h = get_or-range_with_len 0 (record_count bytes) i 0 h ∙ omega arith

  one_more : i < record_count bytes → register_at bytes i ≡ true → ahead bytes i ≡ 1 + ahead bytes (i + 1)
  one_more h t =
      let l = length-range_with_len 0 (record_count bytes) in
      prefix_len-drop_yes (register_at bytes) (range_with_len 0 (record_count bytes)) i 0 (omega arith) (ap (register_at bytes) (at_place h) ∙ t)

  no_more : i < record_count bytes → register_at bytes i ≡ false → ahead bytes i ≡ 0
  no_more h t =
      let l = length-range_with_len 0 (record_count bytes) in
      prefix_len-drop_no (register_at bytes) (range_with_len 0 (record_count bytes)) i 0 (omega arith) (ap (register_at bytes) (at_place h) ∙ t)

  at_end : record_count bytes ≤ i → ahead bytes i ≡ 0
  at_end h = let l = length-range_with_len 0 (record_count bytes) in prefix_len-drop_all (register_at bytes) (range_with_len 0 (record_count bytes)) i (omega arith)

  -- record i is a register too
  pub counted_on : i < record_count bytes → register_run bytes ≡ i + ahead bytes i → register_at bytes i ≡ true → register_run bytes ≡ i + 1 + ahead bytes (i + 1)
  counted_on h e t = let z = one_more h t in omega arith

  -- every record is a register
  pub all_registers : i ≤ record_count bytes → record_count bytes ≤ i → register_run bytes ≡ i + ahead bytes i → register_run bytes ≡ record_count bytes
  all_registers g h e = let z = at_end h in omega arith

  -- the registers end at record i, of another kind or malformed
  pub run_ends : i < record_count bytes → register_run bytes ≡ i + ahead bytes i → register_at bytes i ≡ false → register_run bytes ≡ i
  run_ends h e t = let z = no_more h t in omega arith

  pub not_broken : register_kind bytes i ≡ false → broken_run bytes i ≡ false
  not_broken e = and_right (ltb i (record_count bytes)) _ e

  pub broken : i < record_count bytes → register_kind bytes i ≡ true → broken_run bytes i ≡ true
  broken h e = and_from _ _ (grind (arith, nat_tests)) e

  pub past_end : record_count bytes ≤ i → broken_run bytes i ≡ false
  past_end h = and_left _ (register_kind bytes i) (grind (arith, nat_tests))

  pub judged_no : (b : Bool) → b ≡ false → JudgedRegister bytes i (Ok b) → (register_at bytes i ≡ false) × (register_kind bytes i ≡ false)
  judged_no true e j = absurd (grind arith)
  judged_no false e j = j

  pub judged_yes : (b : Bool) → b ≡ true → JudgedRegister bytes i (Ok b) → register_at bytes i ≡ true
  judged_yes true e j = j
  judged_yes false e j = absurd (grind arith)
