use Rattle.std.proofs.Common.{◌≡◌, ℕ, ◌+◌, ◌-◌, true, length, sym, ◌∙◌, arith, rules}
use Rattle.std.proofs.lemmas.List.{drop-replicate}
use Rattle.delay_file.specs.Bytes.{bytes_of}
use Rattle.delay_file.specs.Records.{lawful_name}
use Rattle.delay_file.proofs.Spellings.{register_reads_back}
use Rattle.delay_file.proofs.encoding.encode_register.Goals as goal

pub returns : goal.returns
returns c =
    let a : c.copy_from_slice.new.self ≡ bytes_of c.args.number = c.copy_from_slice.ensures.after ∙ c.to_be_bytes.ensures in
    let b : c.copy_from_slice-2.new.self ≡ c.args.name.now = c.copy_from_slice-2.ensures.after in
    let h : lawful_name c.args.name.now ≡ true = sym c.is_lawful_name.ensures ∙ c.if-not-is_lawful_name.false in
    let e : 8 + length c.args.name.now - 8 ≡ length c.args.name.now = omega arith in
    rw (c.byte.ensures, a, b, e, drop-replicate {X = ℕ} (length c.args.name.now) 24 0) (record { bytes = rw h; reads_back = λ k. register_reads_back k c.args.number c.args.name.now (search rules) h })
