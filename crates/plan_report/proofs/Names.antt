-- The registers that an opened file starts with: each record reads as a register of a lawful name.
use Rattle.std.proofs.Common.{◌≡◌, ℕ, ◌<◌, Bool, true, false, cond, ◌&&◌, eqb, ltb, List, length, get_or, drop, Some, None, sym, refl, ap, ◌∙◌, arith}
use Rattle.std.specs.List.{range_with_len, prefix_len}
use Rattle.std.proofs.lemmas.List.FromFn.{length-range_with_len, get_or-range_with_len}
use Rattle.std.proofs.lemmas.List.Sums.{prefix_len-le-length}
use Rattle.std.proofs.lemmas.Bool.{cond-true, lt-ltb, both_ways}
use Rattle.timing.specs.declared.pair.Pair.{Pair}
use Rattle.delay_file.specs.Bytes.{be32, every, is_zero, not_zero}
use Rattle.delay_file.specs.declared.view.FileView.{FileView}
use Rattle.delay_file.specs.Files.{numbered, register_at, register_run, register_name, record_answer, record_count, record_at, view_registers}
use Rattle.delay_file.specs.Records.{Reading, register, delay, refused, reading, starts, pair_fields, name_in, name_of, lawful_name}
use Rattle.delay_file.proofs.Scans.{leading_below}
use Rattle.plan_report.specs.Report.{name_at}

-- what a record reads as, by its tests
module _ (k n : ℕ) (name : List ℕ) (p : Pair) where
  abbrev read_by : Bool → Bool → Bool → Bool → Bool → Reading
  read_by whole starts lawful zeros pair =
      cond whole (cond (starts && (lawful && zeros)) (register n name) (cond pair (delay p) (refused 13 (Some k)))) (refused 12 (Some k))

  none_so : (starts lawful zeros pair : Bool) → (starts && (lawful && zeros)) ≡ false → numbered k (read_by true starts lawful zeros pair) ≡ false
  none_so starts lawful zeros true e = rw e
  none_so starts lawful zeros false e = rw e

  by_tests : (whole starts lawful zeros pair : Bool) → numbered k (read_by whole starts lawful zeros pair) ≡ true → (lawful ≡ true) × (read_by whole starts lawful zeros pair ≡ register n name)
  by_tests true true true true pair e = (refl, refl)
  by_tests true true true false pair e = absurd (both_ways _ (none_so true true false pair refl) e)
  by_tests true true false zeros pair e = absurd (both_ways _ (none_so true false zeros pair refl) e)
  by_tests true false lawful zeros pair e = absurd (both_ways _ (none_so false lawful zeros pair refl) e)
  by_tests false starts lawful zeros pair e = absurd (both_ways _ refl e)

-- a record that reads as a register of its number
numbered_so : (k : ℕ) (xs : List ℕ) → numbered k (reading k xs) ≡ true → (lawful_name (name_in (drop 8 xs)) ≡ true) × (reading k xs ≡ register (be32 xs 4) (name_in (drop 8 xs)))
numbered_so k xs e =
    let field = drop 8 xs in
    by_tests k (be32 xs 4) (name_in field) (pair_fields xs) (eqb (length xs) 32) (starts 1 xs) (lawful_name (name_in field)) (every is_zero (drop (prefix_len not_zero field) field)) (starts 2 xs && every is_zero (drop 20 xs)) e

module _ (file : List ℕ) (k : ℕ) (h : k < register_run file) where
  passes : register_at file k ≡ true
  passes =
      let ks = range_with_len 0 (record_count file) in
      let l = prefix_len-le-length (register_at file) ks in
      let m = length-range_with_len 0 (record_count file) in
      let e : get_or ks k 0 ≡ k = get_or-range_with_len 0 (record_count file) k 0 (omega arith) ∙ omega arith in
      sym (ap (register_at file) e) ∙ leading_below (register_at file) ks k 0 h

  pub lawful_there : lawful_name (name_at file k) ≡ true
  lawful_there = (numbered_so k (record_at file k) passes).0

  reads_there : cond (ltb k (record_count file)) (reading k (record_at file k)) (refused 5 None) ≡ register (be32 (record_at file k) 4) (name_at file k)
  reads_there =
      let l = prefix_len-le-length (register_at file) (range_with_len 0 (record_count file)) in
      let m = length-range_with_len 0 (record_count file) in
      cond-true (ltb k (record_count file)) (reading k (record_at file k)) (refused 5 None) (lt-ltb k (record_count file) (omega arith))
      ∙ (numbered_so k (record_at file k) passes).1

-- so such a register has a name
pub name_there : (v : FileView) (k : ℕ) → k < view_registers v → k < register_run v.bytes.now → register_name v k ≡ Some (name_at v.bytes.now k)
name_there v k there known =
    cond-true (ltb k (view_registers v)) (name_of (record_answer v k)) None (lt-ltb k (view_registers v) there) ∙ ap name_of (reads_there v.bytes.now k known)
