-- The parts of a line.
use Rattle.std.proofs.Common.{◌≡◌, inl, inr, ℕ, ◌*◌, List, length, take, Option, Some, None, Ok, ap, ◌∙◌, arith}
use Rattle.std.proofs.lemmas.List.{length-take-le}
use Rattle.hex.specs.Hex.{lower_digits}
use Rattle.hex.proofs.HexLemmas.{length-encode_with}
use Rattle.lock_messages.specs.declared.ids.Actor.{Actor}
use Rattle.frame_lines.specs.Hmac.{hmac_by}
use Rattle.frame_lines.specs.FrameLines.{tag_of, tagged, IsOkUnlessMemory}
use Rattle.frame_lines.proofs.DigestFacts.{digest_length}

take_eight : (xs : List ℕ) → length xs ≡ 32 → length (take 8 xs) ≡ 8
take_eight xs h = length-take-le 8 xs (omega (arith, h))

-- a tag has 16 digits
pub tag_length : (block : List ℕ) (to : Actor) (frame : List ℕ) → length (tag_of block to frame) ≡ 16
tag_length block to frame = length-encode_with lower_digits (take 8 (hmac_by block (tagged to frame))) ∙ ap (λ (n : ℕ). 2 * n) (take_eight (hmac_by block (tagged to frame)) (digest_length _))

-- a result that must be this one, unless memory runs out
pub not_none : {A E P : Type 0} (x : A) → IsOkUnlessMemory {A = Option A} {E = E} (Ok None) (Some x) → P
not_none x (inl h) = absurd (cc)
not_none x (inr h) = let z = h.1 in absurd (cc)

pub same_frame : {A E : Type 0} (y x : A) → IsOkUnlessMemory {A = Option A} {E = E} (Ok (Some y)) (Some x) → y ≡ x
same_frame y x (inl h) = cc
same_frame y x (inr h) = let z = h.1 in absurd (cc)
