use Rattle.std.proofs.Common.{append_assoc}
use Rattle.lock_messages.proofs.writing.put_head.Goals as goal

-- the three fields, one after the other
pub returns : goal.returns
returns c =
    rw (
      c.in_ok-extend_from_slice-3.ensures.items,
      c.in_ok-extend_from_slice-2.ensures.items,
      c.in_ok-extend_from_slice.ensures.items,
      c.version.ensures,
      c.number.ensures,
      c.get.ensures.number,
      c.to_be_bytes.ensures,
      c.get-2.ensures.number,
      c.to_be_bytes-2.ensures,
      c.get-3.ensures.number,
    )
    (simp append_assoc)
