-- The numbers of messages, by their frames.
use Rattle.std.specs.Prelude.{◌≡◌, ℕ, ◌≤◌, List, ◌++◌, length, Option, Some, if◌then◌else◌}
use Rattle.std.specs.Str.{bytes_eq}
use Rattle.std.specs.Map.{lookup}
use Rattle.lock_messages.specs.declared.messages.Message.{Message}
use Rattle.lock_messages.specs.Frames.{frame_of}
use Rattle.lock_model.specs.Decisions.{Among}
use Rattle.world_model.specs.ExactWorlds.{numbered}

-- numbers by frames, and how many messages were taken in
pub record Seen : Type 0 where
  pub entries : List (List ℕ × ℕ)
  pub count : ℕ

abbrev pub number_in : List (List ℕ × ℕ) → List ℕ → Option ℕ
number_in entries frame = lookup (bytes_eq frame) entries

-- the number was put under the frame
abbrev pub Puts : List (List ℕ × ℕ) → List ℕ → ℕ → List (List ℕ × ℕ) → Type 0
Puts before frame number after = (other : List ℕ) → number_in after other ≡ (if bytes_eq frame other then Some number else number_in before other)

-- the message of this number has this frame
abbrev pub HasFrame : List Message → ℕ → List ℕ → Type 0
HasFrame sent number frame = (m : Message) × (numbered sent number ≡ Some m) × (frame_of m ≡ frame)

-- Each number that is found is that of a message with the frame, and each of the messages that were taken in has one.
pub record IsIndexOf (s : Seen) (sent : List Message) : Type 0 where
  pub within : s.count ≤ length sent
  pub found : (frame : List ℕ) (k : ℕ) → number_in s.entries frame ≡ Some k → (m : Message) × (numbered sent k ≡ Some m) × (frame_of m ≡ frame)
  pub taken : (k : ℕ) (m : Message) → k ≤ s.count → numbered sent k ≡ Some m → (j : ℕ) × (number_in s.entries (frame_of m) ≡ Some j)

-- each message has a number
pub record IsWhole (s : Seen) (sent : List Message) : Type 0 where
  pub found : (frame : List ℕ) (k : ℕ) → number_in s.entries frame ≡ Some k → (m : Message) × (numbered sent k ≡ Some m) × (frame_of m ≡ frame)
  pub all : (m : Message) → Among m sent → (j : ℕ) × (number_in s.entries (frame_of m) ≡ Some j)

-- What is the index of some messages is that of these and more.
abbrev pub IndexesGrow : Type 0
IndexesGrow = (s : Seen) (sent more : List Message) → IsIndexOf s sent → IsIndexOf s (sent ++ more)
