use Rattle.std.proofs.Common.{◌≡◌, ℕ, ◌==◌, ◌&&◌, Bool, true, false, List, [], ◌∷◌, ◌++◌, codes, if◌then◌else◌, refl}
use Rattle.std.specs.List.{list_all}
use Rattle.picture_svg.specs.Escaping.{is_held, is_printed, escaped_byte, escaped, TextsAreHeld}
use Rattle.picture_svg.proofs.laws.texts_are_held.Goals as goal

both : (a : Bool) (xs ys : List ℕ) → (a && list_all is_held xs) ≡ true → (list_all is_held xs ≡ true → list_all is_held (xs ++ ys) ≡ true) → (a && list_all is_held (xs ++ ys)) ≡ true
both true xs ys h go = go h
both false xs ys h go = h

all_of_both : (xs ys : List ℕ) → list_all is_held xs ≡ true → list_all is_held ys ≡ true → list_all is_held (xs ++ ys) ≡ true
all_of_both [] ys h k = k
all_of_both (x ∷ xs) ys h k = both (is_held x) xs ys h (λ rest. all_of_both xs ys rest k)

-- of each test that a byte may pass what follows is one text; where it passes none, it is itself
byte_by_tests : (b : ℕ) (p q r s t u : Bool) → (b == 60) ≡ p → (b == 62) ≡ q → (b == 38) ≡ r → (b == 34) ≡ s → (b == 39) ≡ t → is_printed b ≡ u →
    list_all is_held (if p then codes "&lt;" else if q then codes "&gt;" else if r then codes "&amp;" else if s then codes "&quot;" else if t then codes "&#39;" else if u then b ∷ [] else codes "?") ≡ true
byte_by_tests b true q r s t u ep eq er es et eu = refl
byte_by_tests b false true r s t u ep eq er es et eu = refl
byte_by_tests b false false true s t u ep eq er es et eu = refl
byte_by_tests b false false false true t u ep eq er es et eu = refl
byte_by_tests b false false false false true u ep eq er es et eu = refl
byte_by_tests b false false false false false true ep eq er es et eu = rw (ep, eq, es, et, eu) refl
byte_by_tests b false false false false false false ep eq er es et eu = refl

byte_is_held : (b : ℕ) → list_all is_held (escaped_byte b) ≡ true
byte_is_held b = byte_by_tests b (b == 60) (b == 62) (b == 38) (b == 34) (b == 39) (is_printed b) refl refl refl refl refl refl

held : TextsAreHeld
held [] = refl
held (b ∷ bytes) = all_of_both (escaped_byte b) (escaped bytes) (byte_is_held b) (held bytes)

pub returns : goal.returns
returns c = held
