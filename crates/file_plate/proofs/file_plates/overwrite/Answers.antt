use Rattle.std.proofs.Common.{length, refl}
use Rattle.slot_record.specs.PutLaws.{put_mid-put}
use Rattle.file_plate.proofs.file_plates.overwrite.Goals as goal

pub returns : goal.returns
returns c =
    let is = c.copy_from_slice.ensures.after in
    rw is (put_mid-put c.args.at (length c.args.with.now) c.args.bytes.now c.args.with.now refl c.requires)
