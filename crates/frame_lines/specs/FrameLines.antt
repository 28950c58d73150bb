-- The lines by which frames travel.
use Rattle.std.specs.Prelude.{◌≡◌, ◌⊎◌, ℕ, ◌+◌, ◌-◌, ◌^◌, min, List, ◌∷◌, ◌++◌, take, Option, Some, None, Result, Ok, Err}
use Rattle.hex.specs.Hex.{encode_lower}
use Rattle.lock_messages.specs.declared.ids.Actor.{Actor}
use Rattle.lock_messages.specs.Texts.{actor_text}
use Rattle.frame_lines.specs.Hmac.{hmac_by}

-- The tagged bytes: the actor that the frame is for, and the frame. The name has no space, so two pairs never have the
-- same tagged bytes.
abbrev pub tagged : Actor → List ℕ → List ℕ
tagged to frame = actor_text to ++ 32 ∷ frame

-- the tag: the first 8 bytes of the keyed digest, as 16 digits
abbrev pub tag_of : List ℕ → Actor → List ℕ → List ℕ
tag_of block to frame = encode_lower (take 8 (hmac_by block (tagged to frame)))

-- The line of a frame for an actor, under the secret of this block, without its line feed. It has the actor's name, the
-- frame in hexadecimal digits, and the tag, with a space between any two.
abbrev pub frame_line : List ℕ → Actor → List ℕ → List ℕ
frame_line block to frame = actor_text to ++ 32 ∷ (encode_lower frame ++ 32 ∷ tag_of block to frame)

-- this is the result, unless memory runs out
abbrev pub IsOkUnlessMemory : {A E : Type 0} → Result A E → A → Type 0
IsOkUnlessMemory {A} {E} found x = (found ≡ Ok x) ⊎ ((e : E) × (found ≡ Err e))

-- An inlet of frames for an actor: the block of the secret, the actor, and how many lines were dropped.
pub record Inflow : Type 0 where
  pub block : List ℕ
  pub own : Actor
  pub dropped : ℕ

-- one line more is dropped, up to the greatest count
abbrev pub drops : Inflow → Inflow
drops i = record { block = i.block; own = i.own; dropped = min (i.dropped + 1) (2 ^ 64 - 1) }

-- a line that brings nothing is dropped
abbrev pub counted : {A E : Type 0} → Inflow → Result (Option A) E → Inflow
counted i (Ok None) = drops i
counted i (Ok (Some x)) = i
counted i (Err e) = i
