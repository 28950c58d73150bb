-- What follows from the definitions, as statements; each is proved as the contract of a function of
-- `laws`.
use Rattle.std.specs.Prelude.{◌≡◌, ℕ, List, ◌++◌}
use Rattle.lock_messages.specs.declared.messages.Message.{Message}
use Rattle.lock_messages.specs.Messages.{IsMessage}
use Rattle.lock_messages.specs.Frames.{frame_of}

-- Where the spellings of two messages, each followed by any bytes, are the same bytes, the messages
-- are the same, and so is what follows. So each message has one spelling, and no spelling begins
-- another.
abbrev pub OneSpelling : Type 0
OneSpelling = (m n : Message) (xs ys : List ℕ) → IsMessage m → IsMessage n →
    frame_of m ++ xs ≡ frame_of n ++ ys → (m ≡ n) × (xs ≡ ys)
