-- The lines of a script, one after another.
use Rattle.std.proofs.Common.{◌≡◌, ℕ, ◌+◌, ◌<◌, Bool, true, false, cond, nat_lt, ◌||◌, List, [], ◌∷◌, ◌++◌, length, Option, Some, None, Result, Ok, Err, refl, sym, ap, subst, ◌∙◌, arith, append_assoc}
use Rattle.std.specs.Io.KnownBytes.{Appends, Keeps}
use Rattle.std.proofs.lemmas.List.{append-nil}
use Rattle.std.proofs.lemmas.Bool.Decides.{nat_tests}
use Rattle.std.proofs.KnownBytes.{Appends-trans, Appends-kept}
use Rattle.world_model.specs.declared.exact.ExactWorld.{ExactWorld}
use Rattle.event_lines.specs.declared.faults.LineFault.{LineFault}
use Rattle.event_lines.specs.declared.faults.LineFault.TheVariants as bad
use Rattle.operator_cli.specs.declared.faults.ServeFault.{ServeFault}
use Rattle.event_lines.specs.declared.lines.Line.{Line}
use Rattle.event_lines.specs.declared.words.TheConstants.{MAX_LINE_LEN}
use Rattle.line_streams.specs.declared.reading.End.{End}
use Rattle.line_streams.specs.declared.reading.End.TheVariants.{LineFeed, Input, Limit}
use Rattle.event_lines.specs.Faults.{line_fault_number}
use Rattle.event_lines.specs.Lines.{line_of as said_in}
use Rattle.operator_cli.specs.Lines.{line_of}
use Rattle.line_streams.specs.Streams.{is_last, ends_no_line, lines_in, pieces, KnownLeft, EndsPiece, ReadsPiece, AppendsBeginning}
use Rattle.operator_cli.specs.Outputs.{Told, Output, told, before, line_output, lines_output, Writes}
use Rattle.operator_cli.specs.PartOutputs.{status_of, WritesAnswer, WritesLines}
use Rattle.operator_cli.specs.Texts.{line_fault_text}
use Rattle.line_streams.proofs.LineFacts.{IsKept, Behind, no_line_left, next_line}

-- what was written before the rest, and whether anything was refused
abbrev pub onto : List ℕ → Bool → Output → Output
onto text refused rest = record { text = text ++ rest.text; status = cond refused 1 rest.status }

-- what was written so far of the output of these bytes' lines, where these lines are left
abbrev pub After : ExactWorld → List ℕ → Option (List ℕ) → Option (List ℕ) → Bool → ExactWorld → ℕ → List (List ℕ) → Type 0
After w xs old out refused v number lines = (text : List ℕ) × Appends old out text × (lines_output w 1 (lines_in (pieces xs)) ≡ onto text refused (lines_output v number lines))

-- the same, where bytes are left
abbrev pub SoFar : ExactWorld → Option (List ℕ) → Option (List ℕ) → Option (List ℕ) → Option (List ℕ) → Bool → ExactWorld → ℕ → Type 0
SoFar w None left old out refused v number = Unit {0}
SoFar w (Some xs) left old out refused v number = KnownLeft left (λ ys. After w xs old out refused v number (lines_in (pieces ys)))

-- what is gathered was let out
pub so_far_kept : (w v : ExactWorld) (old left out mid new : Option (List ℕ)) (refused : Bool) (number : ℕ) → SoFar w old left out mid refused v number → Keeps mid new → SoFar w old left out new refused v number
so_far_kept w v None left out mid new refused number h k = tt
so_far_kept w v (Some xs) None out mid new refused number h k = absurd h
so_far_kept w v (Some xs) (Some ys) out mid new refused number h k = let (text, a, e) = h in (text, Appends-kept out mid new text a k, e)

-- what is said of a copy of bytes is said of them
pub same_said : (piece text : List ℕ) (says : Result Line LineFault) → text ≡ piece → line_of text ≡ says → line_of piece ≡ says
same_said piece text says same e = ap line_of (sym same) ∙ e

too_long : (line : List ℕ) → MAX_LINE_LEN < length line → line_of line ≡ Err bad.Words
unfolding line_of said_in
too_long line h = let t : nat_lt MAX_LINE_LEN (length line) ≡ true = grind (arith, nat_tests) in rw t

-- a line says what was kept of it says
says_kept : (piece line : List ℕ) (end : End) → IsKept MAX_LINE_LEN piece end line → line_of line ≡ line_of piece
says_kept piece line LineFeed k = ap line_of k
says_kept piece line Input k = ap line_of k
says_kept piece line Limit k = too_long line k.1 ∙ sym (too_long piece k.0)

-- a line comes that says this, and what is behind it
abbrev pub LineComes : List (List ℕ) → Result Line LineFault → End → Option (List ℕ) → Type 0
LineComes lines says end new = (l : List ℕ) × (more : List (List ℕ)) × (lines ≡ l ∷ more) × (line_of l ≡ says) × Behind end new more

pub line_comes : (ys : List ℕ) (new : Option (List ℕ)) (piece : List ℕ) (end : End) (says : Result Line LineFault)
    → EndsPiece MAX_LINE_LEN ys new piece end → ends_no_line end piece ≡ false → line_of piece ≡ says → LineComes (lines_in (pieces ys)) says end new
line_comes ys new piece end says r some e =
    let (l, more, cut, kept, behind) = next_line MAX_LINE_LEN ys new piece end r some in
    (l, more, cut, says_kept piece l end kept ∙ e, behind)

-- a line that is too long is bad
pub never_long : (ys : List ℕ) (new : Option (List ℕ)) (piece : List ℕ) (x : Line) → EndsPiece MAX_LINE_LEN ys new piece Limit → line_of piece ≡ Ok x → ⊥
never_long ys new piece x r e = let (rest, more, cut, long) = r in let clash : Err bad.Words ≡ Ok x = sym (too_long piece long) ∙ e in cc

-- Putting outputs together.

-- the output is whole
finish : (o : Output) (old out : Option (List ℕ)) (text : List ℕ) (refused : Bool) (status : ℕ) → Appends old out text → o ≡ onto text refused (record { text = []; status = 0 }) → status ≡ status_of refused → Writes o old out (Ok status)
finish o old out text refused status a e s =
    (subst (λ (bs : List ℕ). Appends old out bs) (sym (append-nil text) ∙ sym (ap (λ (p : Output). p.text) e)) a, s ∙ sym (ap (λ (p : Output). p.status) e))

-- it ends with a text and the status 1
always_one : (b : Bool) → let one : ℕ = 1 in cond b one one ≡ one
always_one true = refl
always_one false = refl

ends_with : (o : Output) (old out new : Option (List ℕ)) (text last : List ℕ) (refused : Bool) (r : Result ℕ ServeFault) → Appends old out text → o ≡ onto text refused (record { text = last; status = 1 })
    → Writes (record { text = last; status = 1 }) out new r → Writes o old new r
ends_with o old out new text last refused (Ok status) a e h = (
  subst (λ (bs : List ℕ). Appends old new bs) (sym (ap (λ (p : Output). p.text) e)) (Appends-trans old out new text last a h.0),
  h.1 ∙ sym (always_one refused) ∙ sym (ap (λ (p : Output). p.status) e),
)
ends_with o old out new text last refused (Err f) a e h =
    let (front, back, cut, b) = h in
    (text ++ front, back, ap (λ (p : Output). p.text) e ∙ ap (λ (bs : List ℕ). text ++ bs) cut ∙ sym (append_assoc text front back), Appends-trans old out new text front a b)

-- it ends before its time
breaks_off : (o : Output) (old out new : Option (List ℕ)) (text next : List ℕ) (refused : Bool) (rest : Output) → Appends old out text → o.text ≡ text ++ (next ++ rest.text) → AppendsBeginning out new next
    → AppendsBeginning old new o.text
breaks_off o old out new text next refused rest a e h =
    let (front, back, cut, b) = h in (
      text ++ front,
      back ++ rest.text,
      e ∙ ap (λ (bs : List ℕ). text ++ (bs ++ rest.text)) cut ∙ ap (λ (bs : List ℕ). text ++ bs) (append_assoc front back rest.text) ∙ sym (append_assoc text front (back ++ rest.text)),
      Appends-trans old out new text front a b,
    )

-- what the loop does

pub stops : (w v : ExactWorld) (old left out new : Option (List ℕ)) (refused : Bool) (number : ℕ) (f : ServeFault) → SoFar w old left out new refused v number → WritesLines w old out new (Err f)
stops w v None left out new refused number f h = tt
stops w v (Some xs) None out new refused number f h = absurd h
stops w v (Some xs) (Some ys) out new refused number f h =
    let (text, a, e) = h in (text, (lines_output v number (lines_in (pieces ys))).text, ap (λ (p : Output). p.text) e, a)

pub is_over : (w v : ExactWorld) (old left next out new : Option (List ℕ)) (refused : Bool) (number : ℕ) (piece : List ℕ) (end : End) (status : ℕ)
    → SoFar w old left out new refused v number → ReadsPiece MAX_LINE_LEN left next piece end → ends_no_line end piece ≡ true → status ≡ status_of refused → WritesLines w old out new (Ok status)
is_over w v None left next out new refused number piece end status h r j s = tt
is_over w v (Some xs) None next out new refused number piece end status h r j s = absurd h
is_over w v (Some xs) (Some ys) next out new refused number piece end status h r j s =
    let (text, a, e) = h in
    finish (lines_output w 1 (lines_in (pieces xs))) out new text refused status a
    (e ∙ ap (λ ls. onto text refused (lines_output v number ls)) (no_line_left MAX_LINE_LEN ys next piece end r j)) s

pub is_bad : (w v : ExactWorld) (old left next out mid new : Option (List ℕ)) (refused : Bool) (number : ℕ) (piece : List ℕ) (end : End) (f : LineFault) (result : Result ℕ ServeFault)
    → SoFar w old left out mid refused v number → ReadsPiece MAX_LINE_LEN left next piece end → ends_no_line end piece ≡ false → line_of piece ≡ Err f
    → Writes (record { text = line_fault_text number (line_fault_number f); status = 1 }) mid new result → WritesLines w old out new result
is_bad w v None left next out mid new refused number piece end f result h r j said p = tt
is_bad w v (Some xs) None next out mid new refused number piece end f result h r j said p = absurd h
is_bad w v (Some xs) (Some ys) next out mid new refused number piece end f result h r j said p =
    let (text, a, e) = h in
    let (l, more, g, k, behind) = line_comes ys next piece end (Err f) r j said in
    ends_with (lines_output w 1 (lines_in (pieces xs))) out mid new text (line_fault_text number (line_fault_number f)) refused result a
    (e ∙ ap (λ ls. onto text refused (lines_output v number ls)) g ∙ ap (λ q. onto text refused (line_output v number q (λ u. lines_output u (number + 1) more))) k) p

-- the output where a good line is next
good_output : (o : Output) (text : List ℕ) (refused : Bool) (v : ExactWorld) (number : ℕ) (lines : List (List ℕ)) (l : List ℕ) (more : List (List ℕ)) (x : Line)
    → o ≡ onto text refused (lines_output v number lines) → lines ≡ l ∷ more → line_of l ≡ Ok x → o ≡ onto text refused (before (told v x) (lines_output (told v x).world (number + 1) more))
good_output o text refused v number lines l more x e g k =
    e ∙ ap (λ ls. onto text refused (lines_output v number ls)) g ∙ ap (λ q. onto text refused (line_output v number q (λ u. lines_output u (number + 1) more))) k

pub breaks : (w v : ExactWorld) (old left next out mid new : Option (List ℕ)) (refused : Bool) (number : ℕ) (piece : List ℕ) (end : End) (x : Line) (u : ExactWorld) (f g : ServeFault)
    → SoFar w old left out mid refused v number → ReadsPiece MAX_LINE_LEN left next piece end → ends_no_line end piece ≡ false → line_of piece ≡ Ok x
    → WritesAnswer (told v x) mid new (Err f) u → WritesLines w old out new (Err g)
breaks w v None left next out mid new refused number piece end x u f g h r j said p = tt
breaks w v (Some xs) None next out mid new refused number piece end x u f g h r j said p = absurd h
breaks w v (Some xs) (Some ys) next out mid new refused number piece end x u f g h r j said p =
    let (text, a, e) = h in
    let (l, more, m, k, b) = line_comes ys next piece end (Ok x) r j said in
    let o = lines_output w 1 (lines_in (pieces xs)) in
    breaks_off o out mid new text (told v x).text refused (lines_output (told v x).world (number + 1) more) a
    (ap (λ (q : Output). q.text) (good_output o text refused v number (lines_in (pieces ys)) l more x e m k)) p

-- two parts are one
both_refused : (a b : Bool) (n : ℕ) → cond a 1 (cond b 1 n) ≡ cond (a || b) 1 n
both_refused true b n = refl
both_refused false b n = refl

onto_before : (text : List ℕ) (refused : Bool) (t : Told) (rest : Output) → onto text refused (before t rest) ≡ onto (text ++ t.text) (refused || t.refused) rest
onto_before text refused t rest =
    ap (λ (bs : List ℕ). record { text = bs; status = cond refused 1 (cond t.refused 1 rest.status) }) (sym (append_assoc text t.text rest.text))
    ∙ ap (λ (n : ℕ). record { text = (text ++ t.text) ++ rest.text; status = n }) (both_refused refused t.refused rest.status)

-- a good line was told: what is so after it
told_one : (w v u : ExactWorld) (xs : List ℕ) (out mid new : Option (List ℕ)) (refused now : Bool) (number : ℕ) (lines : List (List ℕ)) (l : List ℕ) (more : List (List ℕ)) (x : Line)
    → After w xs out mid refused v number lines → lines ≡ l ∷ more → line_of l ≡ Ok x → WritesAnswer (told v x) mid new (Ok now) u → After w xs out new (refused || now) u (number + 1) more
told_one w v u xs out mid new refused now number lines l more x h g k p =
    let (text, a, e) = h in
    let t = told v x in
    let o = lines_output w 1 (lines_in (pieces xs)) in (
      text ++ t.text,
      Appends-trans out mid new text t.text a p.0,
      good_output o text refused v number lines l more x e g k ∙ onto_before text refused t (lines_output t.world (number + 1) more)
          ∙ ap (λ (b : Bool). onto (text ++ t.text) (refused || b) (lines_output t.world (number + 1) more)) (sym p.1)
          ∙ ap (λ (z : ExactWorld). onto (text ++ t.text) (refused || now) (lines_output z (number + 1) more)) (sym p.2),
    )

pub goes_on : (w v u : ExactWorld) (old left next out mid new : Option (List ℕ)) (refused now both : Bool) (number : ℕ) (piece : List ℕ) (end : End) (x : Line)
    → SoFar w old left out mid refused v number → ReadsPiece MAX_LINE_LEN left next piece end → ends_no_line end piece ≡ false → line_of piece ≡ Ok x
    → WritesAnswer (told v x) mid new (Ok now) u → both ≡ (refused || now) → is_last end ≡ false → SoFar w old next out new both u (number + 1)
goes_on w v u None left next out mid new refused now both number piece end x h r j said p b z = tt
goes_on w v u (Some xs) None next out mid new refused now both number piece end x h r j said p b z = absurd h
goes_on w v u (Some xs) (Some ys) None out mid new refused now both number piece LineFeed x h r j said p b z = absurd r
goes_on w v u (Some xs) (Some ys) (Some zs) out mid new refused now both number piece LineFeed x h r j said p b z =
    let (l, more, m, k, e) = line_comes ys (Some zs) piece LineFeed (Ok x) r j said in
    let t = told_one w v u xs out mid new refused now number (lines_in (pieces ys)) l more x h m k p in
    subst (λ ls. After w xs out new both u (number + 1) ls) e (subst (λ (c : Bool). After w xs out new c u (number + 1) more) (sym b) t)
goes_on w v u (Some xs) (Some ys) next out mid new refused now both number piece Input x h r j said p b z = cc
goes_on w v u (Some xs) (Some ys) next out mid new refused now both number piece Limit x h r j said p b z = absurd (never_long ys next piece x r said)

pub is_over_now : (w v u : ExactWorld) (old left next out mid new : Option (List ℕ)) (refused now both : Bool) (number : ℕ) (piece : List ℕ) (end : End) (x : Line) (status : ℕ)
    → SoFar w old left out mid refused v number → ReadsPiece MAX_LINE_LEN left next piece end → ends_no_line end piece ≡ false → line_of piece ≡ Ok x
    → WritesAnswer (told v x) mid new (Ok now) u → both ≡ (refused || now) → is_last end ≡ true → status ≡ status_of both → WritesLines w old out new (Ok status)
is_over_now w v u None left next out mid new refused now both number piece end x status h r j said p b z s = tt
is_over_now w v u (Some xs) None next out mid new refused now both number piece end x status h r j said p b z s = absurd h
is_over_now w v u (Some xs) (Some ys) next out mid new refused now both number piece LineFeed x status h r j said p b z s = let clash : false ≡ true = z in absurd (cc)
is_over_now w v u (Some xs) (Some ys) next out mid new refused now both number piece Limit x status h r j said p b z s = let clash : false ≡ true = z in absurd (cc)
is_over_now w v u (Some xs) (Some ys) next out mid new refused now both number piece Input x status h r j said p b z s =
    let (l, more, m, k, e) = line_comes ys next piece Input (Ok x) r j said in
    let (text, a, q) = told_one w v u xs out mid new refused now number (lines_in (pieces ys)) l more x h m k p in
    finish (lines_output w 1 (lines_in (pieces xs))) out new text (refused || now) status a (q ∙ ap (λ ls. onto text (refused || now) (lines_output u (number + 1) ls)) e) (s ∙ ap status_of b)
