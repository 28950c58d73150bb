-- A name in its room, and as text.
use Rattle.std.proofs.Common.{◌≡◌, ℕ, suc, ◌+◌, ◌-◌, ◌<◌, ◌≤◌, true, List, [], ◌∷◌, ◌++◌, length, get_or, take, set, replicate, refl, subst, append_assoc, arith}
use Rattle.std.proofs.Math.Seq.{take-append_seam, set-append_seam}
use Rattle.std.proofs.lemmas.List.{length-append, length-take, take_more}
use Rattle.std.proofs.lemmas.Bool.Decides.{nat_tests}
use Rattle.std.proofs.lemmas.Str.Ascii.{IsAscii-cons, IsAscii-nil}
use Rattle.std.proofs.lemmas.Str.{IsUtf8-from_ascii}
use Rattle.std.specs.List.{list_all}
use Rattle.std.specs.Str.{IsAscii, IsUtf8}
use Rattle.std.proofs.lemmas.Bool.{and_parts}
use Rattle.lock_messages.specs.Names.{IsName, HoldsName, padded, is_name_byte}
use Rattle.lock_messages.specs.declared.names.TheConstants.{MAX_NAME_LEN}

pub take-padded : (xs : List ℕ) → take (length xs) (padded xs) ≡ xs
take-padded xs = take-append_seam xs (replicate (MAX_NAME_LEN - length xs) 0)

pub HoldsName-padded : (xs : List ℕ) → IsName xs → HoldsName (padded xs) (length xs)
HoldsName-padded xs h =
    let e = take-padded xs in
    record { named = rw e h; within = rw e refl; rest = rw e refl }

pub ruleset name_facts = (take-padded, HoldsName-padded)

-- one more byte of the name stands where the zeros began
set_first_zero : (front : List ℕ) (b : ℕ) → length front < MAX_NAME_LEN → set (padded front) (length front) b ≡ padded (front ++ b ∷ [])
set_first_zero front b h =
    let zeros : MAX_NAME_LEN - length front ≡ suc (MAX_NAME_LEN - (length front + 1)) = omega arith in
    let longer : length (front ++ b ∷ []) ≡ length front + 1 = omega (arith, length-append front (b ∷ [])) in
    rw (zeros, longer, append_assoc) (set-append_seam front 0 (replicate (MAX_NAME_LEN - (length front + 1)) 0) b)

pub set-padded : (xs : List ℕ) (i : ℕ) → i < length xs → length xs ≤ MAX_NAME_LEN → set (padded (take i xs)) i (get_or xs i 0) ≡ padded (take (i + 1) xs)
set-padded xs i h fits =
    let len : length (take i xs) ≡ i = omega (arith, length-take i xs) in
    let P : ℕ → Type 0 = λ n. set (padded (take i xs)) n (get_or xs i 0) ≡ padded (take i xs ++ get_or xs i 0 ∷ []) in
    rw (take_more xs i 0 h) (subst P len (set_first_zero (take i xs) (get_or xs i 0) (omega (arith, len))))

name_byte_ascii : (b : ℕ) → is_name_byte b ≡ true → b < 128
name_byte_ascii b h = grind (arith, nat_tests)

name_bytes_ascii : (xs : List ℕ) → list_all is_name_byte xs ≡ true → IsAscii xs
name_bytes_ascii [] h = IsAscii-nil
name_bytes_ascii (x ∷ xs) h =
    let p = and_parts (is_name_byte x) (list_all is_name_byte xs) h in
    IsAscii-cons x xs (name_byte_ascii x p.0) (name_bytes_ascii xs p.1)

-- a name is text
pub IsUtf8_from_name : (xs : List ℕ) → IsName xs → IsUtf8 xs
IsUtf8_from_name xs h = IsUtf8-from_ascii xs (name_bytes_ascii xs h.each)
