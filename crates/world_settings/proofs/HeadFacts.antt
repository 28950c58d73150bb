-- Reading the head, piece by piece.
use Rattle.std.proofs.Common.{◌≡◌, ℕ, ◌*◌, ◌<◌, ◌≤◌, Bool, true, false, cond, nat_lt, List, [], ◌++◌, length, Option, Some, None, Result, Ok, Err, codes, refl, sym, ap, subst, ◌∙◌, arith, append_assoc, length-append}
use Rattle.std.specs.Str.{bytes_eq}
use Rattle.std.specs.Io.KnownBytes.{Consumes}
use Rattle.std.proofs.KnownBytes.{Consumes-trans}
use Rattle.std.proofs.lemmas.List.{append-nil}
use Rattle.std.proofs.lemmas.Bool.Decides.{nat_tests}
use Rattle.std.proofs.lemmas.Slice.Eq.{bytes_eq-Decides}
use Rattle.std.proofs.lemmas.Bool.{false_from_ne_true}
use Rattle.world_settings.specs.declared.faults.SettingsFault.TheVariants as settings
use Rattle.world_settings.specs.declared.heads.TheConstants.{HEAD_ROOM}
use Rattle.line_streams.specs.declared.reading.End.{End}
use Rattle.line_streams.specs.declared.reading.End.TheVariants.{LineFeed, Input, Limit}
use Rattle.line_streams.specs.Streams.{lines_in, pieces, feed_of, KnownLeft, ReadsPiece, TakesLine, FitsLimit}
use Rattle.world_settings.specs.Heads.{dashes, with_line, parts_at_dashes, within_room, head_of, FindsHead, TakesAtMost}
use Rattle.world_settings.specs.declared.heads.StartFault.{StartFault}
use Rattle.world_settings.specs.declared.heads.StartFault.TheVariants as start

abbrev pub Parts : Type 0
Parts = Option (List ℕ × List (List ℕ))

-- the parts behind a front that was read already
abbrev pub behind : List ℕ → Parts → Parts
behind head None = None
behind head (Some parts) = Some (head ++ parts.0, parts.1)

-- the head so far, and what is left
abbrev pub HeadSoFar : Option (List ℕ) → Option (List ℕ) → List ℕ → Type 0
HeadSoFar None left head = Unit {0}
HeadSoFar (Some xs) left head = KnownLeft left (λ ys. parts_at_dashes (pieces xs) ≡ behind head (parts_at_dashes (pieces ys)))

behind_line : (head p : List ℕ) (rest : Parts) → behind head (with_line p rest) ≡ behind (head ++ p ++ codes "\n") rest
behind_line head p None = refl
behind_line head p (Some parts) = ap (λ (h : List ℕ). Some (h, parts.1)) (sym (append_assoc head (p ++ codes "\n") parts.0) ∙ ap (λ (h : List ℕ). h ++ parts.0) (sym (append_assoc head p (codes "\n"))))

pub at_piece : (old new : Option (List ℕ)) (piece : List ℕ) (end last : End) → ReadsPiece HEAD_ROOM old new piece end → end ≡ last → ReadsPiece HEAD_ROOM old new piece last
at_piece old new piece end last h e = subst (λ (x : End). ReadsPiece HEAD_ROOM old new piece x) e h

-- another line than the one of dashes
pub head_goes_on : (old mid new : Option (List ℕ)) (head piece : List ℕ) → HeadSoFar old mid head → ReadsPiece HEAD_ROOM mid new piece LineFeed → bytes_eq piece dashes ≡ false
    → HeadSoFar old new (head ++ piece ++ codes "\n")
head_goes_on None mid new head piece h r e = tt
head_goes_on (Some xs) None new head piece h r e = absurd h
head_goes_on (Some xs) (Some ys) None head piece h r e = absurd r
head_goes_on (Some xs) (Some ys) (Some zs) head piece h r e =
    h ∙ ap (λ ps. behind head (parts_at_dashes ps)) r ∙ ap (λ (b : Bool). behind head (cond b (Some ([], pieces zs)) (with_line piece (parts_at_dashes (pieces zs))))) e
    ∙ behind_line head piece (parts_at_dashes (pieces zs))

room_found : (head : List ℕ) (ps : List (List ℕ)) → length head < HEAD_ROOM → within_room (behind head (Some ([], ps))) ≡ Ok (head, lines_in ps)
room_found head ps h = let t : nat_lt (length head) HEAD_ROOM ≡ true = grind (arith, nat_tests) in rw (append-nil head, t)

no_room : (head whole : List ℕ) (rest : Parts) → HEAD_ROOM < length whole → within_room (behind head (with_line whole rest)) ≡ Err settings.NoEnd
no_room head whole None h = refl
no_room head whole (Some parts) h =
    let long : HEAD_ROOM ≤ length (head ++ (whole ++ codes "\n" ++ parts.0)) = simp length-append (omega arith) in
    let t : nat_lt (length (head ++ (whole ++ codes "\n" ++ parts.0))) HEAD_ROOM ≡ false = grind (arith, nat_tests) in
    rw t

full : (head : List ℕ) (rest : Parts) → HEAD_ROOM ≤ length head → within_room (behind head rest) ≡ Err settings.NoEnd
full head None h = refl
full head (Some parts) h =
    let long : HEAD_ROOM ≤ length (head ++ parts.0) = simp length-append (omega arith) in
    let t : nat_lt (length (head ++ parts.0)) HEAD_ROOM ≡ false = grind (arith, nat_tests) in
    rw t

long_line : (whole : List ℕ) → HEAD_ROOM < length whole → bytes_eq whole dashes ≡ false
long_line whole h = false_from_ne_true (bytes_eq whole dashes) (λ e. let three : length whole ≡ 3 = ap length ((bytes_eq-Decides whole dashes).0 e) in omega arith)

-- the line of dashes, with a line feed behind it or at the end
pub dashes_then_feed : {A : Type 0} (old mid new : Option (List ℕ)) (head piece : List ℕ) (a : A) → HeadSoFar old mid head → ReadsPiece HEAD_ROOM mid new piece LineFeed → bytes_eq piece dashes ≡ true
    → length head < HEAD_ROOM → FindsHead old new head (Ok a)
unfolding head_of
dashes_then_feed None mid new head piece a h r e few = tt
dashes_then_feed (Some xs) None new head piece a h r e few = absurd h
dashes_then_feed (Some xs) (Some ys) None head piece a h r e few = absurd r
dashes_then_feed (Some xs) (Some ys) (Some zs) head piece a h r e few =
    ap within_room (h ∙ ap (λ ps. behind head (parts_at_dashes ps)) r ∙ ap (λ (b : Bool). behind head (cond b (Some ([], pieces zs)) (with_line piece (parts_at_dashes (pieces zs))))) e)
    ∙ room_found head (pieces zs) few

pub dashes_at_end : {A : Type 0} (old mid new : Option (List ℕ)) (head piece : List ℕ) (a : A) → HeadSoFar old mid head → ReadsPiece HEAD_ROOM mid new piece Input → bytes_eq piece dashes ≡ true
    → length head < HEAD_ROOM → FindsHead old new head (Ok a)
unfolding head_of
dashes_at_end None mid new head piece a h r e few = tt
dashes_at_end (Some xs) None new head piece a h r e few = absurd h
dashes_at_end (Some xs) (Some ys) None head piece a h r e few = absurd r.1
dashes_at_end (Some xs) (Some ys) (Some zs) head piece a h r e few =
    ap within_room (h ∙ ap (λ ps. behind head (parts_at_dashes ps)) r.0 ∙ ap (λ (b : Bool). behind head (cond b (Some ([], [])) (with_line piece None))) e)
    ∙ room_found head [] few ∙ ap (λ (bs : List ℕ). Ok (head, lines_in (pieces bs))) (sym r.1)

-- the input ends before such a line
pub never_dashes : (old mid new : Option (List ℕ)) (head piece after : List ℕ) → HeadSoFar old mid head → ReadsPiece HEAD_ROOM mid new piece Input → bytes_eq piece dashes ≡ false
    → FindsHead {A = Unit {0}} old new after (Err (start.Settings settings.NoEnd))
unfolding head_of
never_dashes None mid new head piece after h r e = tt
never_dashes (Some xs) None new head piece after h r e = absurd h
never_dashes (Some xs) (Some ys) new head piece after h r e =
    ap within_room (h ∙ ap (λ ps. behind head (parts_at_dashes ps)) r.0 ∙ ap (λ (b : Bool). behind head (cond b (Some ([], [])) None)) e)

-- a line is longer than the room
pub line_too_long : (old mid new : Option (List ℕ)) (head piece after : List ℕ) → HeadSoFar old mid head → ReadsPiece HEAD_ROOM mid new piece Limit
    → FindsHead {A = Unit {0}} old new after (Err (start.Settings settings.NoEnd))
unfolding head_of
line_too_long None mid new head piece after h r = tt
line_too_long (Some xs) None new head piece after h r = absurd h
line_too_long (Some xs) (Some ys) new head piece after h r =
    let (rest, more, e, kept) = r in
    let whole = piece ++ rest in
    let long : HEAD_ROOM < length whole = simp length-append (omega arith) in
    ap within_room (h ∙ ap (λ ps. behind head (parts_at_dashes ps)) e ∙ ap (λ (b : Bool). behind head (cond b (Some ([], more)) (with_line whole (parts_at_dashes more)))) (long_line whole long))
    ∙ no_room head whole (parts_at_dashes more) long

-- the room is full
pub head_too_long : (old left : Option (List ℕ)) (head : List ℕ) → HeadSoFar old left head → HEAD_ROOM ≤ length head → FindsHead {A = Unit {0}} old left head (Err (start.Settings settings.NoEnd))
unfolding head_of
head_too_long None left head h f = tt
head_too_long (Some xs) None head h f = absurd h
head_too_long (Some xs) (Some ys) head h f = ap within_room h ∙ full head (parts_at_dashes (pieces ys)) f

-- how much is taken

-- What was taken so far is as long as the head, and within the bound.
abbrev pub TakesHead : Option (List ℕ) → Option (List ℕ) → List ℕ → Type 0
TakesHead old left head = (front : List ℕ) × (length front ≡ length head) × (length front ≤ 2 * HEAD_ROOM) × Consumes old left front

-- a line is taken with its line feed
pub takes_line : (old mid new : Option (List ℕ)) (head piece : List ℕ) (end : End) → TakesHead old mid head → length head < HEAD_ROOM → TakesLine {E = StartFault} mid new piece (Ok end) → FitsLimit {E = StartFault} HEAD_ROOM piece (Ok end)
    → end ≡ LineFeed → TakesHead old new (head ++ piece ++ codes "\n")
takes_line old mid new head piece end (front, long, few, taken) room t fits e =
    let short : length piece ≤ HEAD_ROOM = subst (λ (x : End). FitsLimit {E = StartFault} HEAD_ROOM piece (Ok x)) e fits in
    let more : Consumes mid new (piece ++ codes "\n") = subst (λ (x : End). Consumes mid new (piece ++ feed_of x)) e t.1 in
    (front ++ (piece ++ codes "\n"), simp length-append (omega arith), simp length-append (omega arith), Consumes-trans old mid new front (piece ++ codes "\n") taken more)

-- the last piece, however it was read
pub takes_piece : (old mid new : Option (List ℕ)) (head piece : List ℕ) (r : Result End StartFault) → TakesHead old mid head → length head < HEAD_ROOM → TakesLine mid new piece r → FitsLimit HEAD_ROOM piece r
    → TakesAtMost (2 * HEAD_ROOM) old new
takes_piece old mid new head piece (Ok LineFeed) (front, long, few, taken) room t fits =
    (front ++ (piece ++ codes "\n"), simp length-append (omega arith), Consumes-trans old mid new front (piece ++ codes "\n") taken t.1)
takes_piece old mid new head piece (Ok Input) (front, long, few, taken) room t fits =
    (front ++ (piece ++ []), simp length-append (omega arith), Consumes-trans old mid new front (piece ++ []) taken t.1)
takes_piece old mid new head piece (Ok Limit) (front, long, few, taken) room t fits =
    (front ++ (piece ++ []), simp length-append (omega arith), Consumes-trans old mid new front (piece ++ []) taken t.1)
takes_piece old mid new head piece (Err e) (front, long, few, taken) room t fits =
    (front ++ piece, simp length-append (omega arith), Consumes-trans old mid new front piece taken t.1)
