use Rattle.frame_lines.proofs.DigestFacts.{in_front}
use Rattle.frame_lines.proofs.secrets.filled.Goals as goal

pub returns : goal.returns
returns c = in_front c.args.bytes.now c.copy_from_slice.new.self c.copy_from_slice.ensures.after
