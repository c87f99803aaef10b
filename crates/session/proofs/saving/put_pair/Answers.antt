use Rattle.std.proofs.Common.{◌*◌, ◌∙◌}
use Rattle.delay_file.specs.Records.{pair_bytes}
use Rattle.delay_file.proofs.Putting.{put_is}
use Rattle.session.proofs.saving.put_pair.Goals as goal

pub returns : goal.returns
returns c =
    put_is c.args.out.now c.copy_from_slice.new.self (pair_bytes c.args.pair) (c.args.place * 32) (c.copy_from_slice.ensures.after ∙ c.encode_pair.ensures.bytes)
