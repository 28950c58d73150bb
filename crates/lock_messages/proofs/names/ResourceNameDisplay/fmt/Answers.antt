use Rattle.lock_messages.proofs.NameFacts.{IsUtf8_from_name}
use Rattle.lock_messages.proofs.names.ResourceNameDisplay.fmt.Goals as goal

-- a name's bytes are text
pub unreachable-requires : goal.unreachable-requires
unreachable-requires g c = c.in-Err.ensures.cases.0 (IsUtf8_from_name _ c.bytes.ensures.named)
