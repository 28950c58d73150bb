-- How the line of a switch differs from a frame's, and one switch from the other.
use Rattle.std.proofs.Common.{◌≡◌, ◌≢◌, ◌∙◌, ℕ, ◌/◌, ◌<◌, Bool, true, List, [], ◌∷◌, ◌++◌, Option, Some, None, codes, refl, sym, ap, subst, append_assoc, arith, eqb, slice_index, drop}
use Rattle.std.specs.List.{starts_with}
use Rattle.std.proofs.lemmas.List.{append_cancel_left}
use Rattle.std.proofs.lemmas.Slice.Eq.{starts_is}
use Rattle.std.proofs.lemmas.Bool.Decides.{Decides-eqb}
use Rattle.hex.specs.Hex.{IsBytes, encode_lower, encode_with, hex_digit_value, lower_digits}
use Rattle.hex.proofs.HexLemmas.{IsDigits-lower_digits}
use Rattle.lock_messages.specs.declared.ids.Actor.TheVariants.{Node}
use Rattle.lock_messages.specs.Texts.{node_text}
use Rattle.lock_model.specs.declared.problems.Problem.{Problem}
use Rattle.lock_model.specs.declared.problems.Problem.TheVariants.{First, Second}
use Rattle.frame_lines.specs.FrameLines.{tag_of, frame_line}
use Rattle.switch_lines.specs.SwitchLines.{order_text, switch_tag, switch_line}

-- a digit is no letter s
digit_is_no_s : (b : ℕ) → b < 256 → (slice_index lower_digits (b / 16) ≡ 115) → ⊥
digit_is_no_s b fits is =
    let high : b / 16 < 16 = omega arith in
    let value = IsDigits-lower_digits (b / 16) high in
    let none : None ≡ Some (b / 16) = subst (λ (d : ℕ). hex_digit_value d ≡ Some (b / 16)) is value in
    absurd (cc)

-- the digits of a frame, and a space, do not begin as an order does
digits_differ : (frame tail rest : List ℕ) → IsBytes frame → encode_lower frame ++ 32 ∷ tail ≡ 115 ∷ rest → ⊥
unfolding encode_with
digits_differ [] tail rest fits is = let first : 32 ≡ 115 = ap (λ (l : List ℕ). slice_index l 0) is in absurd (omega (arith, first))
digits_differ (b ∷ frame) tail rest fits is = let first : slice_index lower_digits (b / 16) ≡ 115 = ap (λ (l : List ℕ). slice_index l 0) is in digit_is_no_s b (fits 0) first

pub lines_differ : (block : List ℕ) (frame : List ℕ) (n : ℕ) (problem : Problem) → IsBytes frame → frame_line block (Node n) frame ≢ switch_line block n problem
lines_differ block frame n First = λ fits same.
    let after = append_cancel_left (node_text n) (32 ∷ (encode_lower frame ++ 32 ∷ tag_of block (Node n) frame)) (32 ∷ (order_text First ++ 32 ∷ switch_tag block n First)) same in
    let digits : encode_lower frame ++ 32 ∷ tag_of block (Node n) frame ≡ order_text First ++ 32 ∷ switch_tag block n First = ap (drop 1) after in
    digits_differ frame (tag_of block (Node n) frame) _ fits digits
lines_differ block frame n Second = λ fits same.
    let after = append_cancel_left (node_text n) (32 ∷ (encode_lower frame ++ 32 ∷ tag_of block (Node n) frame)) (32 ∷ (order_text Second ++ 32 ∷ switch_tag block n Second)) same in
    let digits : encode_lower frame ++ 32 ∷ tag_of block (Node n) frame ≡ order_text Second ++ 32 ∷ switch_tag block n Second = ap (drop 1) after in
    digits_differ frame (tag_of block (Node n) frame) _ fits digits

-- what comes after the beginning of a switch
abbrev rest_of : List ℕ → ℕ → Problem → List ℕ
rest_of block n First = 49 ∷ 32 ∷ switch_tag block n First
rest_of block n Second = 50 ∷ 32 ∷ switch_tag block n Second

line_begins : (block : List ℕ) (n : ℕ) (problem : Problem) → switch_line block n problem ≡ (node_text n ++ codes " switch ") ++ rest_of block n problem
line_begins block n First = sym (append_assoc (node_text n) (codes " switch ") (49 ∷ 32 ∷ switch_tag block n First))
line_begins block n Second = sym (append_assoc (node_text n) (codes " switch ") (50 ∷ 32 ∷ switch_tag block n Second))

-- the line of a switch starts with this text
pub starts : (block : List ℕ) (n : ℕ) (problem : Problem) (line text : List ℕ) (is : Bool) → text ≡ node_text n ++ codes " switch " → is ≡ starts_with eqb line text → line ≡ switch_line block n problem → is ≡ true
starts block n problem line text is begins tested same =
    (starts_is Decides-eqb line text is tested).1 (rest_of block n problem) (same ∙ line_begins block n problem ∙ ap (λ (l : List ℕ). l ++ rest_of block n problem) (sym begins))

-- the two switches of a node have different lines
pub switches_differ : (block : List ℕ) (n : ℕ) → switch_line block n First ≢ switch_line block n Second
switches_differ block n = λ same.
    let after = append_cancel_left (node_text n) (32 ∷ (order_text First ++ 32 ∷ switch_tag block n First)) (32 ∷ (order_text Second ++ 32 ∷ switch_tag block n Second)) same in
    let one_is_two : 49 ≡ 50 = ap (λ (l : List ℕ). slice_index l 8) after in
    absurd (omega (arith, one_is_two))

pub is_first : (block : List ℕ) (n : ℕ) (line : List ℕ) (problem : Problem) → line ≡ switch_line block n First → line ≡ switch_line block n problem → First ≡ problem
is_first block n line First one other = refl
is_first block n line Second one other = absurd (switches_differ block n (sym one ∙ other))

pub is_second : (block : List ℕ) (n : ℕ) (line : List ℕ) (problem : Problem) → line ≡ switch_line block n Second → line ≡ switch_line block n problem → Second ≡ problem
is_second block n line First one other = absurd (switches_differ block n (sym other ∙ one))
is_second block n line Second one other = refl
