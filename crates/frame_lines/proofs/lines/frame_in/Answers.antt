use Rattle.std.proofs.Common.{◌≡◌, ◌∙◌, ◌∷◌, ◌++◌, [], List, ℕ, sym, ap, subst, append_assoc, length, IsSomeAnd, Option, Bor}
use Rattle.hex.specs.Hex.{decode_of, encode_lower}
use Rattle.hex.proofs.HexLemmas.{decode_of-encode_lower}
use Rattle.lock_messages.specs.Texts.{actor_text}
use Rattle.frame_lines.proofs.lines.frame_in.Goals as goal

pub returns-in_default : goal.returns-in_default
returns-in_default c = λ frame tail fits long is.
    let name = actor_text c.args.own.now in
    let found = c.digits_in.ensures (name ++ 32 ∷ []) (encode_lower frame) tail (is ∙ sym (append_assoc name (32 ∷ []) (encode_lower frame ++ tail))) (sym (ap length (c.as_bytes.ensures.value ∙ c.in_ok-name.ensures))) long in
    absurd (subst (λ (o : Option (Bor (List ℕ))). IsSomeAnd o (λ d. d.now ≡ encode_lower frame)) c.in_default.is found)

pub returns : goal.returns
returns c = λ frame tail fits long is.
    let name = actor_text c.args.own.now in
    let found = c.digits_in.ensures (name ++ 32 ∷ []) (encode_lower frame) tail (is ∙ sym (append_assoc name (32 ∷ []) (encode_lower frame ++ tail))) (sym (ap length (c.as_bytes.ensures.value ∙ c.in_ok-name.ensures))) long in
    let same : c.in-Some.digits.now ≡ encode_lower frame = subst (λ (o : Option (Bor (List ℕ))). IsSomeAnd o (λ d. d.now ≡ encode_lower frame)) c.in-Some.is found in
    c.bytes_in.ensures frame (ap decode_of same ∙ decode_of-encode_lower frame fits)
