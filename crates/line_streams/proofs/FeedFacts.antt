-- What stands before the line feed that a search finds.
use Rattle.std.proofs.Common.{◌≡◌, ℕ, ◌+◌, ◌<◌, ◌≤◌, ◌==◌, ◌⊎◌, true, false, List, ◌∷◌, length, take, drop, Some, None, sym, ap, subst, ◌∙◌, arith, get_or}
use Rattle.std.proofs.lemmas.Bool.{false_from_ne_true, eqb-true, true≢false, false≢true}
use Rattle.std.proofs.lemmas.List.{length-take-le, get_or-take, drop_more}
use Rattle.std.proofs.lemmas.List.Elements.{All-from_get_or}
use Rattle.memchr.specs.Find.{IsFirstByte, is_byte, Nowhere, Passes}
use Rattle.line_streams.specs.Streams.{is_line_feed, IsPlain, FindsFront}

-- where none of the first bytes is a line feed, as far as they were searched
plain_before : (bytes : List ℕ) (upto n : ℕ) → upto ≤ length bytes → n ≤ upto → Nowhere (Passes (is_byte 10) (take upto bytes)) 0 n → IsPlain (take n bytes)
plain_before bytes upto n within le none =
    All-from_get_or (λ (b : ℕ). is_line_feed b ≡ false) (take n bytes) 0 (λ i lt.
    let low : i < n = omega (arith, lt, length-take-le n bytes (omega arith)) in
    subst (λ (b : ℕ). is_line_feed b ≡ false) (sym (get_or-take n bytes i 0 low))
    (false_from_ne_true (get_or bytes i 0 == 10) (λ h. none i (omega arith) low (ap (λ (b : ℕ). b == 10) (get_or-take upto bytes i 0 (omega arith)) ∙ h))))

pub feed_met : (bytes : List ℕ) (most upto i : ℕ) → upto ≤ most → upto ≤ length bytes → IsFirstByte (is_byte 10) (take upto bytes) (Some i) → FindsFront bytes most i true
feed_met bytes most upto i few within (first, passes) =
    let low : i < upto = omega (arith, first.high, length-take-le upto bytes within) in
    let is_feed : get_or bytes i 0 ≡ 10 = eqb-true (get_or bytes i 0) 10 (ap (λ (b : ℕ). b == 10) (sym (get_or-take upto bytes i 0 low)) ∙ passes) in
    record {
      within = omega arith;
      few = omega arith;
      fewer = λ h. omega arith;
      plain = plain_before bytes upto i within (omega arith) first.before;
      feed = λ h. (drop (i + 1) bytes, drop_more bytes i 0 (omega arith) ∙ ap (λ (b : ℕ). b ∷ drop (i + 1) bytes) is_feed);
      all = λ h. absurd (true≢false h);
    }

pub none_met : (bytes : List ℕ) (most upto : ℕ) → upto ≤ most → upto ≤ length bytes → (upto ≡ length bytes) ⊎ (upto ≡ most) → IsFirstByte (is_byte 10) (take upto bytes) None → FindsFront bytes most upto false
none_met bytes most upto few within all none = record {
  within = within;
  few = few;
  fewer = λ h. absurd (false≢true h);
  plain = plain_before bytes upto upto within (omega arith) (λ k low high. none k low (omega (arith, high, length-take-le upto bytes within)));
  feed = λ h. absurd (false≢true h);
  all = λ h. all;
}

-- a line feed that is the first among the first bytes is the first of all
pub near_feed : (bytes : List ℕ) (near i : ℕ) → near ≤ length bytes → IsFirstByte (is_byte 10) (take near bytes) (Some i) → IsFirstByte (is_byte 10) bytes (Some i)
near_feed bytes near i within (first, passes) =
    let low : i < near = omega (arith, first.high, length-take-le near bytes within) in (
      record {
        low = first.low;
        high = omega arith;
        before = λ k from high yes.
            let short : k < near = omega arith in
            first.before k from high (ap (λ (b : ℕ). b == 10) (get_or-take near bytes k 0 short) ∙ yes);
      },
      ap (λ (b : ℕ). b == 10) (sym (get_or-take near bytes i 0 low)) ∙ passes,
    )
