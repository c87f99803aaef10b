use Rattle.std.proofs.Common.{◌≡◌, refl, ap, ◌∙◌, w32, SFits, rules}
use Rattle.std.proofs.lemmas.Int.{to_z-of_z}
use Rattle.delay_file.specs.Bytes.{bytes_of, bytes_of_z}
use Rattle.delay_file.proofs.Spellings.{pair_reads_back}
use Rattle.delay_file.proofs.encoding.encode_pair.Goals as goal

pub returns : goal.returns
returns c =
    let a : c.copy_from_slice.new.self ≡ bytes_of c.args.pair.launch = c.copy_from_slice.ensures.after ∙ c.to_be_bytes.ensures in
    let b : c.copy_from_slice-2.new.self ≡ bytes_of c.args.pair.capture = c.copy_from_slice-2.ensures.after ∙ c.to_be_bytes-2.ensures in
    let f : SFits w32 c.args.pair.min = search rules in
    let g : SFits w32 c.args.pair.max = search rules in
    let n : c.copy_from_slice-3.new.self ≡ bytes_of_z c.args.pair.min = c.copy_from_slice-3.ensures.after ∙ c.to_be_bytes-3.ensures ∙ ap bytes_of_z (to_z-of_z w32 _ f) in
    let x : c.copy_from_slice-4.new.self ≡ bytes_of_z c.args.pair.max = c.copy_from_slice-4.ensures.after ∙ c.to_be_bytes-4.ensures ∙ ap bytes_of_z (to_z-of_z w32 _ g) in
    rw (c.byte.ensures, a, b, n, x) (record { bytes = refl; reads_back = λ k. pair_reads_back k c.args.pair (search rules) (search rules) f g (search rules) (search rules) })
