-- The next line of a text, as it is read.
use Rattle.std.proofs.Common.{◌≡◌, ℕ, ◌<◌, ◌≤◌, Bool, true, false, nat_lt, List, ◌∷◌, length, Option, Result, Ok, Err, refl, sym, ap, ◌∙◌, arith}
use Rattle.std.proofs.lemmas.Bool.Decides.{nat_tests}
use Rattle.world_model.specs.declared.events.Event.{Event}
use Rattle.event_lines.specs.declared.faults.LineFault.{LineFault}
use Rattle.event_lines.specs.declared.faults.LineFault.TheVariants as bad
use Rattle.event_lines.specs.declared.words.TheConstants.{MAX_LINE_LEN}
use Rattle.event_lines.specs.Lines.{line_of}
use Rattle.event_lines.specs.Events.{event_of}
use Rattle.line_streams.specs.declared.reading.End.{End}
use Rattle.line_streams.specs.declared.reading.End.TheVariants.{LineFeed, Input, Limit}
use Rattle.line_streams.specs.Streams.{ends_no_line, EndsPiece}
use Rattle.line_streams.proofs.LineFacts.{IsKept, Behind, next_line}
use Rattle.journal_audit.specs.Verdicts.{text_lines}

too_long : (line : List ℕ) → MAX_LINE_LEN < length line → event_of line ≡ Err bad.Words
unfolding event_of line_of
too_long line h = let t : nat_lt MAX_LINE_LEN (length line) ≡ true = grind (arith, nat_tests) in rw t

-- a line says what was kept of it says
says_kept : (piece line : List ℕ) (end : End) → IsKept MAX_LINE_LEN piece end line → event_of line ≡ event_of piece
says_kept piece line LineFeed k = ap event_of k
says_kept piece line Input k = ap event_of k
says_kept piece line Limit k = too_long line k.1 ∙ sym (too_long piece k.0)

-- a line comes that says this, and what is behind it
abbrev pub LineComes : List (List ℕ) → Result Event LineFault → End → Option (List ℕ) → Type 0
LineComes lines says end new = (l : List ℕ) × (more : List (List ℕ)) × (lines ≡ l ∷ more) × (event_of l ≡ says) × Behind end new more

pub line_comes : (ys : List ℕ) (new : Option (List ℕ)) (piece : List ℕ) (end : End) (says : Result Event LineFault)
    → EndsPiece MAX_LINE_LEN ys new piece end → ends_no_line end piece ≡ false → event_of piece ≡ says → LineComes (text_lines ys) says end new
line_comes ys new piece end says r some e =
    let (l, more, cut, kept, behind) = next_line MAX_LINE_LEN ys new piece end r some in
    (l, more, cut, says_kept piece l end kept ∙ e, behind)

-- a line that is too long says no event
pub never_long : (ys : List ℕ) (new : Option (List ℕ)) (piece : List ℕ) (x : Event) → EndsPiece MAX_LINE_LEN ys new piece Limit → event_of piece ≡ Ok x → ⊥
never_long ys new piece x r e = let (rest, more, cut, long) = r in let clash : Err bad.Words ≡ Ok x = sym (too_long piece long) ∙ e in cc

-- so one that says an event is short
pub short_line : (piece : List ℕ) (x : Event) → event_of piece ≡ Ok x → length piece ≤ MAX_LINE_LEN
short_line piece x e = if_short (nat_lt MAX_LINE_LEN (length piece)) refl
  where
    if_short : (b : Bool) → nat_lt MAX_LINE_LEN (length piece) ≡ b → length piece ≤ MAX_LINE_LEN
    if_short true t =
        let long : MAX_LINE_LEN < length piece = grind (arith, nat_tests) in
        let clash : Err bad.Words ≡ Ok x = sym (too_long piece long) ∙ e in
        absurd (cc)
    if_short false t = grind (arith, nat_tests)
