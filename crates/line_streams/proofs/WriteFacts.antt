-- What of a text was not written, and when nothing is written.
use Rattle.std.proofs.Common.{◌≡◌, ℕ, ◌+◌, ◌-◌, ◌<◌, ◌≤◌, ◌==◌, min, Bool, false, List, [], ◌++◌, length, take, drop, Option, Some, None, Result, Ok, Err, IfErr, sym, ap, subst, ◌∙◌, arith, append_assoc, length-append}
use Rattle.std.specs.Io.KnownBytes.{Appends, Keeps, prepend_known}
use Rattle.std.proofs.lemmas.Bool.Decides.{nat_tests}
use Rattle.std.proofs.lemmas.List.{take-append-drop, length-take, length-take-le, length-drop}
use Rattle.std.proofs.Math.Nat.{min-le_left}
use Rattle.std.proofs.KnownBytes.{Appends-kept}
use Rattle.line_streams.specs.declared.faults.StreamFault.{StreamFault}
use Rattle.line_streams.specs.declared.faults.StreamFault.TheVariants as fault
use Rattle.line_streams.specs.Streams.{AppendsPart, Puts, HasMore}

pub puts_part : {U E : Type 0} (r : Result U E) (old new : Option (List ℕ)) (text : List ℕ) (e : E) → r ≡ Err e → AppendsPart old new text → Puts old new text r
puts_part {U} {E} r old new text e failed part = subst (λ (q : Result U E). Puts old new text q) (sym failed) part

pub some_left : (rest : List ℕ) (is_empty : Bool) → is_empty ≡ (length rest == 0) → is_empty ≡ false → 0 < length rest
some_left rest is_empty e f = let some : (length rest == 0) ≡ false = sym e ∙ f in grind (arith, nat_tests)

-- an empty text has no byte to be written
pub none_left : {A : Type 0} (text : List ℕ) (count : ℕ) → count < length text → text ≡ [] → A
none_left text count w e = let l : length text ≡ 0 = ap length e in absurd (omega arith)

pub wrote_part : (text : List ℕ) (count : ℕ) (old new : Option (List ℕ)) → Appends old new (take count text) → count < length text → AppendsPart old new text
wrote_part text count old new p w =
    let l : length (drop count text) ≡ length text - count = length-drop count text in
    (take count text, drop count text, sym (take-append-drop count text), omega arith, p)

-- not all was let out, so something is still gathered
pub some_kept : (room after : List ℕ) (end count : ℕ) → count < length (take end room) → end ≤ length after → 0 < length (take (end - count) after)
some_kept room after end count w r =
    let few : length (take end room) ≡ min end (length room) = length-take end room in
    let least : min end (length room) ≤ end = min-le_left end (length room) in
    let all : length (take (end - count) after) ≡ end - count = length-take-le (end - count) after (omega arith) in
    omega arith

-- something of the text is left where no room could be made
pub put_part : (text front rest : List ℕ) (old mid new : Option (List ℕ)) → text ≡ front ++ rest → Appends old mid front → Keeps mid new → 0 < length rest → AppendsPart old new text
put_part text front rest old mid new e p k some = (front, rest, e, some, Appends-kept old mid new front p k)

-- what is held and what is left are, together, what was held and the text

pub has_room_yet : (most : ℕ) (first text held rest : List ℕ) → held ++ rest ≡ first ++ text → 0 < length rest → length first + length text ≤ most → length held < most
has_room_yet most first text held rest e some fits =
    let l : length held + length rest ≡ length first + length text = sym (length-append held rest) ∙ ap length e ∙ length-append first text in
    omega arith

pub gathers_on : (held rest same after behind : List ℕ) (n : ℕ) → same ≡ held → after ≡ same ++ take n rest → behind ≡ drop n rest → after ++ behind ≡ held ++ rest
gathers_on held rest same after behind n s g b =
    ap (λ (bs : List ℕ). bs ++ behind) g ∙ append_assoc same (take n rest) behind
    ∙ ap (λ (bs : List ℕ). same ++ (take n rest ++ bs)) b ∙ ap (λ (bs : List ℕ). same ++ bs) (take-append-drop n rest)
    ∙ ap (λ (bs : List ℕ). bs ++ rest) s

-- where bytes are held, more are left

more_held : (held : List ℕ) (left : Option (List ℕ)) → 0 < length held → HasMore (prepend_known held left)
more_held held None some = tt
more_held held (Some xs) some = let l : length (held ++ xs) ≡ length held + length xs = length-append held xs in omega (arith, l, some)

pub more_left : {T : Type 0} (r : Result T StreamFault) (held : List ℕ) (left : Option (List ℕ)) → IfErr r (λ e. (e ≡ fault.Read → held ≡ []) × (e ≡ fault.Memory → 0 < length held)) → IfErr r (λ e. e ≡ fault.Memory → HasMore (prepend_known held left))
more_left (Ok x) held left h = tt
more_left (Err e) held left h = λ refused. more_held held left (h.1 refused)
