-- Fields of a layout, read from the front of bytes: each as its value and the bytes behind it. A field
-- that isn't wholly there and one of a wrong value are faults of the layout's own, F.
use Rattle.std.specs.Prelude.{◌≡◌, ℕ, ◌^◌, ◌<◌, ◌≤◌, ◌⊎◌, ◌↔◌, Bool, ◌&&◌, ◌==◌, nat_le, nat_lt, if◌then◌else◌, List, [], ◌∷◌, ◌++◌, length, take, drop, slice_index, Result, Ok, Err}
use Rattle.std.specs.Int.{Width, w16, w32, w64, byte_len, from_be_bytes, to_be_bytes}
use Rattle.std.specs.List.{list_all}
use Rattle.lock_messages.specs.declared.names.TheConstants.{MAX_NAME_LEN}
use Rattle.lock_messages.specs.declared.tickets.Mode.{Mode}
use Rattle.lock_messages.specs.declared.tickets.Mode.TheVariants.{Read, Write}
use Rattle.lock_messages.specs.Names.{IsName, is_name_byte}

infixl 10 ◌>>=◌
-- the next field is read where no fault was met
abbrev pub ◌>>=◌ : {A B F : Type 0} → Result A F → (A → Result B F) → Result B F
(Ok x) >>= f = f x
(Err e) >>= f = Err e

-- what a function answered, and the bytes that it left, are what reading gives
abbrev pub Gives : {X F : Type 0} → Result X F → List ℕ → Result (X × List ℕ) F → Type 0
Gives (Ok x) left read = read ≡ Ok (x, left)
Gives (Err e) left read = read ≡ Err e

abbrev pub is_between : ℕ → ℕ → ℕ → Bool
is_between least most n = nat_le least n && nat_le n most

-- a byte from least to most
abbrev pub byte_at : {F : Type 0} → ℕ → ℕ → F → F → List ℕ → Result (ℕ × List ℕ) F
byte_at least most missing fault [] = Err missing
byte_at least most missing fault (b ∷ rest) = if is_between least most b then Ok (b, rest) else Err fault

-- a number of this width from least to most, its highest byte first
abbrev pub number_at : {F : Type 0} → Width → ℕ → ℕ → F → F → List ℕ → Result (ℕ × List ℕ) F
number_at w least most missing fault bytes =
    if nat_lt (length bytes) (byte_len w) then Err missing
    else (if is_between least most (from_be_bytes w (take (byte_len w) bytes))
    then Ok (from_be_bytes w (take (byte_len w) bytes), drop (byte_len w) bytes)
    else Err fault)

abbrev pub mode_number : Mode → ℕ
mode_number Read = 0
mode_number Write = 1

-- the byte of a mode
abbrev pub mode_at : {F : Type 0} → F → F → List ℕ → Result (Mode × List ℕ) F
mode_at missing fault [] = Err missing
mode_at missing fault (b ∷ rest) =
    if b == 0 then Ok (Read, rest)
    else (if b == 1 then Ok (Write, rest)
    else Err fault)

-- so many bytes of a name; a wrong one that is there stands before one that is missing
abbrev pub name_at : {F : Type 0} → F → F → ℕ → List ℕ → Result (List ℕ × List ℕ) F
name_at missing fault size bytes =
    if list_all is_name_byte (take size bytes)
    then (if nat_lt (length bytes) size then Err missing else Ok (take size bytes, drop size bytes))
    else Err fault

-- ---- what is read is what is spelled

abbrev pub AreBytes : List ℕ → Type 0
AreBytes bytes = (i : ℕ) → slice_index bytes i < 256

-- a width that numbers of a layout have
abbrev pub IsFieldWidth : Width → Type 0
IsFieldWidth w = (w ≡ w16) ⊎ ((w ≡ w32) ⊎ (w ≡ w64))

-- A field is read, with what is behind it, exactly where the bytes begin with its spelling and its
-- value is in its range.
pub record FieldsAreExact (F : Type 0) : Type 0 where
  pub byte : (least most : ℕ) (missing fault : F) (bytes : List ℕ) (b : ℕ) (rest : List ℕ) →
      (byte_at least most missing fault bytes ≡ Ok (b, rest)) ↔ ((bytes ≡ b ∷ rest) × (least ≤ b) × (b ≤ most))
  pub number : (w : Width) (least most : ℕ) (missing fault : F) (bytes : List ℕ) (n : ℕ) (rest : List ℕ) → IsFieldWidth w → AreBytes bytes →
      number_at w least most missing fault bytes ≡ Ok (n, rest) → (bytes ≡ to_be_bytes w n ++ rest) × (least ≤ n) × (n ≤ most)
  pub number_again : (w : Width) (least most : ℕ) (missing fault : F) (n : ℕ) (rest : List ℕ) → IsFieldWidth w → n < 256 ^ byte_len w → least ≤ n → n ≤ most →
      number_at w least most missing fault (to_be_bytes w n ++ rest) ≡ Ok (n, rest)
  pub mode : (missing fault : F) (bytes : List ℕ) (m : Mode) (rest : List ℕ) →
      (mode_at missing fault bytes ≡ Ok (m, rest)) ↔ (bytes ≡ mode_number m ∷ rest)
  pub name : (missing fault : F) (size : ℕ) (bytes name rest : List ℕ) → 1 ≤ size → size ≤ MAX_NAME_LEN →
      (name_at missing fault size bytes ≡ Ok (name, rest)) ↔ ((bytes ≡ name ++ rest) × (length name ≡ size) × IsName name)
