-- What stands for a text in XML, between two tags or in quotes.
use Rattle.std.specs.Prelude.{◌≡◌, ℕ, ◌==◌, ◌&&◌, not, Bool, true, List, [], ◌∷◌, nat_le, codes, if◌then◌else◌}
use Rattle.std.specs.List.{flat_map, list_all}

-- from the space to the tilde
abbrev pub is_printed : ℕ → Bool
is_printed b = nat_le 32 b && nat_le b 126

abbrev pub escaped_byte : ℕ → List ℕ
escaped_byte b =
    if b == 60 then codes "&lt;" else
    if b == 62 then codes "&gt;" else
    if b == 38 then codes "&amp;" else
    if b == 34 then codes "&quot;" else
    if b == 39 then codes "&#39;" else
    if is_printed b then b ∷ [] else codes "?"

abbrev pub escaped : List ℕ → List ℕ
escaped bytes = flat_map escaped_byte bytes

-- the byte ends no text and no attribute, and begins no tag: it is none of < > " ' and no control
abbrev pub is_held : ℕ → Bool
is_held b = not (b == 60) && (not (b == 62) && (not (b == 34) && (not (b == 39) && is_printed b)))

-- Whatever the bytes are, nothing that stands for them ends the text.
abbrev pub TextsAreHeld : Type 0
TextsAreHeld = (bytes : List ℕ) → list_all is_held (escaped bytes) ≡ true
