-- The lines of a report: how long they are, and how they are put one behind the other.
use Rattle.std.proofs.Common.{◌≡◌, ℕ, ◌+◌, ◌*◌, ◌^◌, ◌<◌, ◌≤◌, true, leb, List, [], ◌∷◌, ◌++◌, map, length, codes, ap, ◌∙◌, arith, length-append}
use Rattle.std.specs.List.{range_with_len}
use Rattle.std.proofs.lemmas.List.FromFn.{map-range_with_len_more}
use Rattle.std.proofs.lemmas.Bool.{and_parts, leb-true}
use Rattle.timing.specs.declared.domain.Domain.{Domain}
use Rattle.timing.specs.declared.domain.Domain.TheVariants.{Early, Late}
use Rattle.timing.specs.Domains.{domain_name}
use Rattle.timing.specs.Plans.{domains_of}
use Rattle.delay_file.specs.Bytes.{every, graphic}
use Rattle.delay_file.specs.Files.{joined, register_run}
use Rattle.delay_file.specs.Records.{lawful_name}
use Rattle.delay_file.proofs.Written.{joined_push}
use Rattle.plan_report.specs.Report.{head_line, register_line, name_at, register_lines}
use Rattle.plan_report.specs.Text.{HasRoom, Pushes}
use Rattle.plan_report.specs.declared.text.Text.{Text}
use Rattle.plan_report.proofs.Digits.{ten_digits}
use Rattle.plan_report.proofs.Names.{lawful_there}
use Rattle.plan_report.proofs.Pushes.{pushes_then}

-- what stands behind the name
abbrev pub line_end : Domain → List ℕ
line_end d = codes " " ++ (domain_name d ++ 10 ∷ [])

end_short : (d : Domain) → length (line_end d) ≤ 7
end_short Early = omega arith
end_short Late = omega arith

-- the line of a lawful name has at most 31 bytes
pub line_short : (name : List ℕ) (d : Domain) → lawful_name name ≡ true → length (register_line name d) ≤ 31
line_short name d h =
    let t = and_parts (leb 1 (length name)) _ h in
    let u = and_parts (leb (length name) 24) (every graphic name) t.1 in
    let b = leb-true (length name) 24 u.0 in
    let l = length-append name (line_end d) in
    let e = end_short d in
    omega arith

module _ (file ds : List ℕ) where
  -- one line more
  lines_more : (i : ℕ) → register_lines file (i + 1) ds ≡ register_lines file i ds ++ register_line (name_at file i) (domains_of ds i)
  lines_more i =
      let f = λ (r : ℕ). register_line (name_at file r) (domains_of ds r) in
      ap joined (map-range_with_len_more f 0 i i (omega arith)) ∙ joined_push (map f (range_with_len 0 i)) (f i)

  pub one_line : (i : ℕ) (was mid now : Text) → i < register_run file → HasRoom was (32 * (i + 1)) → Pushes (register_lines file i ds) was mid × (length (register_lines file i ds) ≤ 32 * i) → Pushes (register_line (name_at file i) (domains_of ds i)) mid now → Pushes (register_lines file (i + 1) ds) was now × (length (register_lines file (i + 1) ds) ≤ 32 * (i + 1))
  one_line i was mid now known room p q =
      let line = register_line (name_at file i) (domains_of ds i) in
      let short = line_short (name_at file i) (domains_of ds i) (lawful_there file i known) in
      let l = length-append (register_lines file i ds) line in
      let b = p.1 in
      rw (lines_more i) (pushes_then (register_lines file i ds) line was mid now (omega arith) p.0 q, omega arith)

module _ (T s late : ℕ) (fits_T : T < 2 ^ 32) (fits_s : s < 2 ^ 32) (fits_late : late < 2 ^ 32) where
  -- the first line fits its memory
  pub head_short : length (head_line T s late) ≤ 64
  head_short =
      let a = ten_digits T fits_T in
      let b = ten_digits s fits_s in
      let c = ten_digits late fits_late in
      simp length-append (omega arith)
