-- Numbers and the texts that spell them.
use Rattle.std.proofs.Common.{◌≡◌, ◌⊎◌, inl, inr, ℕ, ◌^◌, ◌+◌, ◌-◌, ◌*◌, ◌<◌, ◌≤◌, Bool, true, false, List, [], ◌∷◌, length, take, get_or, Some, None, refl, sym, ap, ◌∙◌, subst, arith, rules, ◌&&◌, ◌==◌, nat_le, if◌then◌else◌}
use Rattle.std.specs.Int.{IsInRange}
use Rattle.std.specs.Str.{bytes_eq}
use Rattle.std.specs.Str.Parse.{digits_value}
use Rattle.std.specs.Fmt.{decimal}
use Rattle.std.specs.List.{list_all}
use Rattle.std.specs.Char.{digit_value, is_ascii_digit}
use Rattle.std.proofs.lemmas.Str.Parse.{IsNumeralModel, IsDigitsTest, digits_value-take-le, numerals_by_value}
use Rattle.std.proofs.lemmas.Fmt.{decimal-digits_value, digits_decimal, first_decimal}
use Rattle.std.proofs.lemmas.Int.Digits.{digits_value_more}
use Rattle.std.proofs.lemmas.List.Folds.{list_all_at}
use Rattle.std.proofs.lemmas.Str.{digit_value_digit}
use Rattle.std.proofs.lemmas.Slice.Eq.{bytes_eq-Decides}
use Rattle.std.proofs.lemmas.Bool.Decides.{nat_tests}
use Rattle.std.proofs.lemmas.Bool.{and_parts, cases_Bool, leb-true}
use Rattle.event_lines.specs.Lines.{spelled}

-- has digits alone
abbrev pub IsDigits : List ℕ → Type 0
IsDigits word = list_all is_ascii_digit word ≡ true

tells_digits : IsDigitsTest IsDigits
tells_digits = search rules

pub own : IsNumeralModel IsDigits (digits_value 10)
own = numerals_by_value IsDigits tells_digits

in_range_or_none : (a b c : Bool) (n : ℕ) → ((a ≡ true) → (b ≡ true) → (c ≡ true) → ⊥) → None ≡ (if (a && b) && c then Some n else None)
in_range_or_none false b c n never = refl
in_range_or_none true false c n never = refl
in_range_or_none true true false n never = refl
in_range_or_none true true true n never = absurd (never refl refl refl)

-- a word that is no number's text
pub unless_spelled : (most : ℕ) (word : List ℕ) → ((n : ℕ) → 1 ≤ n → n ≤ most → n ≡ digits_value 10 word → decimal n ≡ word → ⊥) → None ≡ spelled most word
unfolding spelled
unless_spelled most word never =
    let n = digits_value 10 word in
    in_range_or_none (nat_le 1 n) (nat_le n most) (bytes_eq (decimal n) word) n
    (λ a b c. never n (leb-true 1 n a) (leb-true n most b) refl ((bytes_eq-Decides (decimal n) word).0 c))

-- a number's text has digits alone, and no zero in front
pub no_other_byte : (most : ℕ) (word : List ℕ) → most < 2 ^ 64 → list_all is_ascii_digit word ≡ false → None ≡ spelled most word
no_other_byte most word small h = unless_spelled most word (λ n low high same e.
    let digits : IsDigits word = subst IsDigits e (digits_decimal own n (omega arith)) in let clash : false ≡ true = sym h ∙ digits in cc)

pub no_leading_zero : (most : ℕ) (word : List ℕ) → most < 2 ^ 64 → get_or word 0 0 ≡ 48 → None ≡ spelled most word
no_leading_zero most word small h = unless_spelled most word (λ n low high same e.
    let first : 48 < get_or word 0 0 = subst (λ (w : List ℕ). 48 < get_or w 0 0) e (first_decimal n (omega arith) (omega arith)) in omega arith)

-- digits whose number is out of range
pub out_of_range : (most : ℕ) (word : List ℕ) → (1 ≤ digits_value 10 word → digits_value 10 word ≤ most → ⊥) → None ≡ spelled most word
out_of_range most word never = unless_spelled most word (λ n low high same e. never (omega arith) (omega arith))

spelled_there : (a b c : Bool) (n m : ℕ) → n ≡ m → a ≡ true → b ≡ true → c ≡ true → Some n ≡ (if (a && b) && c then Some m else None)
spelled_there true true true n m same p q r = ap Some same
spelled_there false b c n m same p q r = cc
spelled_there true false c n m same p q r = cc
spelled_there true true false n m same p q r = cc

-- a number's own digits
pub spelled_so : (most : ℕ) (word : List ℕ) (n : ℕ) → most < 2 ^ 64 → n ≡ digits_value 10 word → 1 ≤ n → n ≤ most → IsDigits word → 0 < length word → (get_or word 0 0 ≡ 48 → ⊥) → Some n ≡ spelled most word
unfolding spelled
spelled_so most word n small same low high digits some plain =
    let m = digits_value 10 word in
    let text : decimal m ≡ word = decimal-digits_value own word digits some (λ z. absurd (plain z)) (omega arith) in
    let at_least : nat_le 1 m ≡ true = grind (arith, nat_tests) in
    let at_most : nat_le m most ≡ true = grind (arith, nat_tests) in
    spelled_there (nat_le 1 m) (nat_le m most) (bytes_eq (decimal m) word) n m same at_least at_most ((bytes_eq-Decides (decimal m) word).1 text)

pub is_zero_digit : (b : ℕ) (r : Bool) → r ≡ (b == 48) → r ≡ true → b ≡ 48
is_zero_digit b r e h = let t : (b == 48) ≡ true = sym e ∙ h in grind (arith, nat_tests)

pub is_no_zero_digit : (b : ℕ) (r : Bool) → r ≡ (b == 48) → r ≡ false → b ≡ 48 → ⊥
is_no_zero_digit b r e h z = let t : (b == 48) ≡ false = sym e ∙ h in grind (arith, nat_tests)

pub some_digit : (word : List ℕ) → 1 ≤ digits_value 10 word → 0 < length word
some_digit [] h = absurd (omega arith)
some_digit (b ∷ bs) h = omega arith

-- ---- reading digits one after the other

pub digit-at : (word : List ℕ) (i : ℕ) → IsDigits word → i < length word → IsInRange 48 57 (get_or word i 0)
digit-at word i digits within = go (cases_Bool (is_ascii_digit (get_or word i 0)))
  where
    go : (is_ascii_digit (get_or word i 0) ≡ true) ⊎ (is_ascii_digit (get_or word i 0) ≡ false) → IsInRange 48 57 (get_or word i 0)
    go (inl p) =
        let parts = and_parts (nat_le 48 (get_or word i 0)) (nat_le (get_or word i 0) 57) p in
        (leb-true 48 (get_or word i 0) parts.0, leb-true (get_or word i 0) 57 parts.1)
    go (inr p) = let clash : false ≡ true = sym (list_all_at is_ascii_digit word i 0 within p) ∙ digits in cc

-- the number of a digit more
pub digit-more : (word : List ℕ) (i : ℕ) → IsDigits word → i < length word →
    digits_value 10 (take (i + 1) word) ≡ digits_value 10 (take i word) * 10 + (get_or word i 0 - 48)
digit-more word i digits within =
    let range = digit-at word i digits within in
    let is : digit_value (get_or word i 0) ≡ get_or word i 0 - 48 = omega (arith, digit_value_digit (get_or word i 0) range) in
    digits_value_more 10 word i within ∙ ap (λ d. digits_value 10 (take i word) * 10 + d) is

-- a number that is too great already only grows
pub too-great : (word : List ℕ) (i most : ℕ) → most < digits_value 10 (take i word) → most < digits_value 10 word
too-great word i most h = let more = digits_value-take-le 10 word i (omega arith) in omega (arith, more)
