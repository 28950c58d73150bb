-- The frames of the messages that were said.
use Rattle.std.specs.Prelude.{◌≡◌, ◌⊎◌, ℕ, Bool, true, List, if◌then◌else◌}
use Rattle.std.specs.List.{list_any}
use Rattle.std.specs.Str.{bytes_eq}
use Rattle.lock_messages.specs.declared.messages.Message.{Message}
use Rattle.lock_messages.specs.Messages.{IsMessage}
use Rattle.lock_messages.specs.Frames.{frame_of}
use Rattle.lock_model.specs.Decisions.{Among}

abbrev pub has_frame : List (List ℕ) → List ℕ → Bool
has_frame frames frame = list_any (bytes_eq frame) frames

-- the frame was put among the others
abbrev pub AddsFrame : List (List ℕ) → List ℕ → List (List ℕ) → Type 0
AddsFrame before frame after = (other : List ℕ) → has_frame after other ≡ (if bytes_eq frame other then true else has_frame before other)

-- one of these messages has the frame
abbrev pub IsFrameOfOne : List Message → List ℕ → Type 0
IsFrameOfOne said frame = (m : Message) × Among m said × IsMessage m × (frame_of m ≡ frame)

-- The frames of these messages were added: no other came, and none was lost.
pub record AddsFrames (before : List (List ℕ)) (said : List Message) (after : List (List ℕ)) : Type 0 where
  pub found : (frame : List ℕ) → has_frame after frame ≡ true → (has_frame before frame ≡ true) ⊎ IsFrameOfOne said frame
  pub kept : (frame : List ℕ) → has_frame before frame ≡ true → has_frame after frame ≡ true
  pub all : (m : Message) → Among m said → has_frame after (frame_of m) ≡ true

-- The frames are those of these messages.
pub record AreFramesOf (frames : List (List ℕ)) (said : List Message) : Type 0 where
  pub found : (frame : List ℕ) → has_frame frames frame ≡ true → IsFrameOfOne said frame
  pub all : (m : Message) → Among m said → has_frame frames (frame_of m) ≡ true
