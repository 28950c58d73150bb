-- What was taken of a text, line after line.
use Rattle.std.proofs.Common.{◌≡◌, ◌≢◌, inl, inr, ℕ, ◌+◌, ◌<◌, true, false, List, [], ◌∷◌, ◌++◌, length, Option, Some, None, Result, Ok, Err, IsOk, IfOk, IfErr, OnErr, refl, sym, ap, subst, ◌∙◌, arith, append_assoc}
use Rattle.std.specs.List.{All}
use Rattle.std.specs.Io.KnownBytes.{Consumes}
use Rattle.std.proofs.KnownBytes.{Consumes-nil, Consumes-trans}
use Rattle.std.proofs.lemmas.List.{append-nil, length-append}
use Rattle.std.proofs.lemmas.List.Elements.{All-nil, All-push}
use Rattle.world_model.specs.declared.events.Event.{Event}
use Rattle.world_model.specs.declared.events.Effect.{Effect}
use Rattle.world_model.specs.declared.events.StepFault.{StepFault}
use Rattle.world_model.specs.declared.events.StepFault.TheVariants as refusal
use Rattle.world_model.specs.declared.exact.ExactWorld.{ExactWorld}
use Rattle.world_model.specs.ExactWorlds.{Steps, step, refusal_of}
use Rattle.world_model.specs.Locality.{MemoryIsNoRefusal}
use Rattle.world_model.specs.StepsOf.{Does, IsRefused, asks_for_memory}
use Rattle.event_lines.specs.declared.words.TheConstants.{MAX_LINE_LEN}
use Rattle.event_lines.specs.Events.{event_of}
use Rattle.event_lines.specs.Laws.{EventsAreSpelledOnce}
use Rattle.line_streams.specs.declared.reading.End.{End}
use Rattle.line_streams.specs.declared.reading.End.TheVariants.{LineFeed, Input, Limit}
use Rattle.line_streams.specs.Streams.{is_last, ends_no_line, IsPlain, HasMore, ReadsPiece, TakesLine, FitsLimit, feed_of, fed_lines}
use Rattle.journal_audit.specs.declared.faults.AuditFault.{AuditFault}
use Rattle.journal_audit.specs.declared.faults.AuditFault.TheVariants as fault
use Rattle.journal_audit.specs.declared.verdicts.Cause.{Cause}
use Rattle.journal_audit.specs.declared.verdicts.Cause.TheVariants as cause
use Rattle.journal_audit.specs.declared.verdicts.TheConstants.{MAX_LINES}
use Rattle.journal_audit.specs.declared.verdicts.Verdict.{Verdict}
use Rattle.journal_audit.specs.declared.verdicts.Verdict.TheVariants.{Sound, Unsound}
use Rattle.journal_audit.specs.Judging.{CutsShort, TakesPart, TakesLast}
use Rattle.journal_audit.specs.Leavings.{HasEnded, IsTaken, Takes, Leaves}
use Rattle.journal_audit.specs.Verdicts.{Leads}
use Rattle.journal_audit.proofs.LineFacts.{short_line}
use Rattle.journal_audit.proofs.JudgeFacts.{IsToldSo}
use Rattle.journal_audit.proofs.RunFacts.{leads_nowhere, leads_on}

-- so many lines were taken, each with its line feed, and lead from w to v
pub record Took (w : ExactWorld) (text left : Option (List ℕ)) (v : ExactWorld) (count : ℕ) : Type 0 where
  pub before : List (List ℕ)
  pub counted : length before ≡ count
  pub are_lines : All IsPlain before
  pub leads : Leads w before v
  pub taken : Consumes text left (fed_lines before)

pub took_none : (w : ExactWorld) (text : Option (List ℕ)) → Took w text text w 0
took_none w text = record { before = []; counted = refl; are_lines = All-nil IsPlain; leads = leads_nowhere w; taken = Consumes-nil text }

fed_more : (ls : List (List ℕ)) (l : List ℕ) → fed_lines (ls ++ l ∷ []) ≡ fed_lines ls ++ (l ++ 10 ∷ [])
fed_more [] l = refl
fed_more (k ∷ ls) l = ap (λ (bs : List ℕ). k ++ 10 ∷ bs) (fed_more ls l) ∙ sym (append_assoc k (10 ∷ fed_lines ls) (l ++ 10 ∷ []))

-- the text ended behind what was taken of it before
ended_since : (text mid left : Option (List ℕ)) (bs : List ℕ) → Consumes text mid bs → HasEnded mid left → HasEnded text left
ended_since None mid left bs c h = tt
ended_since (Some xs) None left bs c h = absurd c
ended_since (Some xs) (Some ys) left bs c h = h

taken_since : (text mid left : Option (List ℕ)) (bs line : List ℕ) (end : End) → Consumes text mid bs → IsTaken mid left line end → IsTaken text left line end
taken_since text mid left bs line LineFeed c h = h
taken_since text mid left bs line Input c h = (h.0, ended_since text mid left bs c h.1)
taken_since text mid left bs line Limit c h = h

read_ended : (limit : ℕ) (text left : Option (List ℕ)) (piece : List ℕ) → ReadsPiece limit text left piece Input → HasEnded text left
read_ended limit None left piece r = tt
read_ended limit (Some xs) left piece r = r.1

-- what a read took of a line
read_taken : (text left : Option (List ℕ)) (piece : List ℕ) (end : End) → ReadsPiece MAX_LINE_LEN text left piece end → FitsLimit {E = AuditFault} MAX_LINE_LEN piece (Ok end) → IsTaken text left piece end
read_taken text left piece LineFeed r few = few
read_taken text left piece Input r few = (few, read_ended MAX_LINE_LEN text left piece r)
read_taken text left piece Limit r few = few

-- these bytes were taken behind the lines
abbrev behind_lines : (w v : ExactWorld) (text mid left : Option (List ℕ)) (count : ℕ) (line behind : List ℕ) → Took w text mid v count → IsPlain line → Consumes mid left (line ++ behind) → Takes w text left count line behind
behind_lines w v text mid left count line behind h plain taken = record {
  before = h.before;
  counted = h.counted;
  are_lines = h.are_lines;
  world = v;
  leads = h.leads;
  is_line = plain;
  taken = Consumes-trans text mid left (fed_lines h.before) (line ++ behind) h.taken taken;
}

alone : (text left : Option (List ℕ)) (line : List ℕ) → Consumes text left line → Consumes text left (line ++ [])
alone text left line c = subst (λ (bs : List ℕ). Consumes text left bs) (sym (append-nil line)) c

part_behind : (w v : ExactWorld) (text mid left : Option (List ℕ)) (count : ℕ) (e : AuditFault) → CutsShort e → Took w text mid v count → TakesPart mid left → (e ≡ fault.Memory → HasMore left) → Leaves w text left (Err e)
part_behind w v text mid left count fault.Read short h part more =
    let (line, few, plain, taken) = part in
    (count, line, few, behind_lines w v text mid left count line [] h plain (alone mid left line taken))
part_behind w v text mid left count fault.Write short h part more = absurd short
part_behind w v text mid left count fault.Memory short h part more =
    let (line, few, plain, taken) = part in
    inr (count, line, few, inl (behind_lines w v text mid left count line [] h plain (alone mid left line taken), more refl))
part_behind w v text mid left count fault.TooManyLines short h part more = absurd short

-- the next line couldn't be read
pub cut_left : (w v : ExactWorld) (text mid left : Option (List ℕ)) (count : ℕ) (piece : List ℕ) (e : AuditFault) → Took w text mid v count → CutsShort e → TakesLine {E = AuditFault} mid left piece (Err e) → FitsLimit {E = AuditFault} MAX_LINE_LEN piece (Err e) → (e ≡ fault.Memory → HasMore left) → Leaves w text left (Err e)
cut_left w v text mid left count piece e h short taken few more = part_behind w v text mid left count e short h (piece, few, taken.0, taken.1) more

-- no memory was there from the start
pub none_left : (w : ExactWorld) (text : Option (List ℕ)) → Leaves w text text (Err fault.Memory)
none_left w text = inl refl

-- no line is left
pub over_left : (w v : ExactWorld) (text mid left : Option (List ℕ)) (count : ℕ) (piece : List ℕ) (end : End) (n : ℕ) → Took w text mid v count → ReadsPiece MAX_LINE_LEN mid left piece end → ends_no_line end piece ≡ true → Leaves w text left (Ok (Sound n))
over_left w v text mid left count piece LineFeed n h r over = cc
over_left w v text mid left count piece Input n h r over = ended_since text mid left (fed_lines h.before) h.taken (read_ended MAX_LINE_LEN mid left piece r)
over_left w v text mid left count piece Limit n h r over = cc

-- the line that was read is the last one
pub last_left : (w v : ExactWorld) (text mid left : Option (List ℕ)) (count : ℕ) (piece : List ℕ) (end : End) (n : ℕ) → Took w text mid v count → ReadsPiece MAX_LINE_LEN mid left piece end → is_last end ≡ true → Leaves w text left (Ok (Sound n))
last_left w v text mid left count piece LineFeed n h r last = let clash : false ≡ true = last in absurd (cc)
last_left w v text mid left count piece Input n h r last = ended_since text mid left (fed_lines h.before) h.taken (read_ended MAX_LINE_LEN mid left piece r)
last_left w v text mid left count piece Limit n h r last = let clash : false ≡ true = last in absurd (cc)

-- the line that was read doesn't go on
pub bad_left : (w v : ExactWorld) (text mid left : Option (List ℕ)) (count number : ℕ) (piece : List ℕ) (end : End) (c : Cause)
    → Took w text mid v count → number ≡ count + 1 → ReadsPiece MAX_LINE_LEN mid left piece end → TakesLine {E = AuditFault} mid left piece (Ok end) → FitsLimit {E = AuditFault} MAX_LINE_LEN piece (Ok end) → Leaves w text left (Ok (Unsound number c))
bad_left w v text mid left count number piece end c h at r taken few =
    (count, piece, end, at, taken_since text mid left (fed_lines h.before) piece end h.taken (read_taken mid left piece end r few), behind_lines w v text mid left count piece (feed_of end) h taken.0 taken.1)

-- a step for which memory was refused would be taken
would_go : MemoryIsNoRefusal → (v : ExactWorld) (x : Event) (f : StepFault) → IsRefused x (step v x) f → f ≡ refusal.Memory → (asks_for_memory x ≡ true) × IsOk (step v x)
would_go never v x f (inl h) wants = absurd (never v x (ap (λ (s : Steps). refusal_of s) (h ∙ ap (λ (d : StepFault). Err d) wants)))
would_go never v x f (inr h) wants = (h.1, h.2)

-- memory was refused for the step of the line that was read
asking_left : EventsAreSpelledOnce → MemoryIsNoRefusal → (w v : ExactWorld) (text mid left : Option (List ℕ)) (count : ℕ) (piece : List ℕ) (end : End) (x : Event) (f : StepFault)
    → Took w text mid v count → count < MAX_LINES → ReadsPiece MAX_LINE_LEN mid left piece end → TakesLine {E = AuditFault} mid left piece (Ok end) → FitsLimit {E = AuditFault} MAX_LINE_LEN piece (Ok end) → event_of piece ≡ Ok x
    → IsRefused x (step v x) f → f ≡ refusal.Memory → Leaves w text left (Err fault.Memory)
asking_left spelled never w v text mid left count piece end x f h room r taken few said refused wants =
    let (asks, goes) = would_go never v x f refused wants in
    let whole = taken_since text mid left (fed_lines h.before) piece end h.taken (read_taken mid left piece end r few) in
    inr (count, piece, short_line piece x said, inr (end, room, whole, behind_lines w v text mid left count piece (feed_of end) h taken.0 taken.1, (x, (spelled piece x).0 said, asks, goes)))

-- the world refused the line, or memory was refused for it
pub refused_left : EventsAreSpelledOnce → MemoryIsNoRefusal → (w v : ExactWorld) (text mid left : Option (List ℕ)) (count number : ℕ) (piece : List ℕ) (end : End) (x : Event) (f : StepFault) (result : Result Verdict AuditFault)
    → Took w text mid v count → number ≡ count + 1 → count < MAX_LINES → ReadsPiece MAX_LINE_LEN mid left piece end → TakesLine {E = AuditFault} mid left piece (Ok end) → FitsLimit {E = AuditFault} MAX_LINE_LEN piece (Ok end) → event_of piece ≡ Ok x
    → IsRefused x (step v x) f → IfOk result (IsToldSo number f) → IfErr result (λ e. e ≡ fault.Memory) → OnErr result (f ≡ refusal.Memory) → Leaves w text left result
refused_left spelled never w v text mid left count number piece end x f (Ok q) h at room r taken few said refused so short wants =
    subst (λ (p : Verdict). Leaves w text left (Ok p)) (sym so.0) (bad_left w v text mid left count number piece end (cause.Refused f) h at r taken few)
refused_left spelled never w v text mid left count number piece end x f (Err e) h at room r taken few said refused so short wants =
    subst (λ (d : AuditFault). Leaves w text left (Err d)) (sym short) (asking_left spelled never w v text mid left count piece end x f h room r taken few said refused wants)

-- the line that was read goes on
pub took_more : EventsAreSpelledOnce → (w v u : ExactWorld) (text mid left : Option (List ℕ)) (count : ℕ) (piece : List ℕ) (end : End) (x : Event) (o : Effect)
    → Took w text mid v count → TakesLine {E = AuditFault} mid left piece (Ok end) → FitsLimit {E = AuditFault} MAX_LINE_LEN piece (Ok end) → event_of piece ≡ Ok x → Does x (step v x) v (Ok o) u → is_last end ≡ false → Took w text left u (count + 1)
took_more spelled w v u text mid left count piece Input x o h taken few said s more = let clash : true ≡ false = more in absurd (cc)
took_more spelled w v u text mid left count piece Limit x o h taken few said s more =
    let short = short_line piece x said in
    let long : length piece ≡ MAX_LINE_LEN + 1 = few in
    absurd (omega (arith, short, long))
took_more spelled w v u text mid left count piece LineFeed x o h taken few said s more =
    let long : length (h.before ++ piece ∷ []) ≡ length h.before + 1 = length-append h.before (piece ∷ []) in
    record {
      before = h.before ++ piece ∷ [];
      counted = long ∙ ap (λ n. n + 1) h.counted;
      are_lines = All-push IsPlain h.before piece h.are_lines taken.0;
      leads = leads_on w v u h.before piece x o h.leads ((spelled piece x).0 said) s;
      taken = subst (λ (bs : List ℕ). Consumes text left bs) (sym (fed_more h.before piece)) (Consumes-trans text mid left (fed_lines h.before) (piece ++ 10 ∷ []) h.taken taken.1);
    }

-- as many lines were taken as there may be
pub most_left : (w v : ExactWorld) (text mid left : Option (List ℕ)) (count : ℕ) (result : Result Verdict AuditFault) → Took w text mid v count → count ≡ MAX_LINES → IfOk result (λ q. q ≡ Sound MAX_LINES) → IfErr result (λ e. e ≢ fault.Write) → TakesLast mid left result → Leaves w text left result
most_left w v text mid left count (Ok q) h all sound told last =
    subst (λ (p : Verdict). Leaves w text left (Ok p)) (sym sound) (ended_since text mid left (fed_lines h.before) h.taken last)
most_left w v text mid left count (Err fault.Read) h all sound told last = part_behind w v text mid left count fault.Read tt h last (λ never. absurd (let clash : fault.Read ≡ fault.Memory = never in cc))
most_left w v text mid left count (Err fault.Write) h all sound told last = absurd (told refl)
most_left w v text mid left count (Err fault.Memory) h all sound told last = part_behind w v text mid left count fault.Memory tt h last.0 (λ same. last.1)
most_left w v text mid left count (Err fault.TooManyLines) h all sound told last =
    let (line, end, is, plain, taken) = last in
    (line, end, taken_since text mid left (fed_lines h.before) line end h.taken is, subst (λ n. Takes w text left n line (feed_of end)) all (behind_lines w v text mid left count line (feed_of end) h plain taken))

-- what the call took that looks for one line more

pub cut_last : (text left : Option (List ℕ)) (piece : List ℕ) (e : AuditFault) → CutsShort e → TakesLine {E = AuditFault} text left piece (Err e) → FitsLimit {E = AuditFault} MAX_LINE_LEN piece (Err e) → (e ≡ fault.Memory → HasMore left) → TakesLast text left (Err e)
cut_last text left piece fault.Read short taken few more = (piece, few, taken.0, taken.1)
cut_last text left piece fault.Write short taken few more = absurd short
cut_last text left piece fault.Memory short taken few more = ((piece, few, taken.0, taken.1), more refl)
cut_last text left piece fault.TooManyLines short taken few more = absurd short

pub none_last : (text left : Option (List ℕ)) (piece : List ℕ) (end : End) (n : ℕ) → ReadsPiece MAX_LINE_LEN text left piece end → ends_no_line end piece ≡ true → TakesLast text left (Ok (Sound n))
none_last text left piece LineFeed n r over = cc
none_last text left piece Input n r over = read_ended MAX_LINE_LEN text left piece r
none_last text left piece Limit n r over = cc

pub one_last : (text left : Option (List ℕ)) (piece : List ℕ) (end : End) → ReadsPiece MAX_LINE_LEN text left piece end → TakesLine {E = AuditFault} text left piece (Ok end) → FitsLimit {E = AuditFault} MAX_LINE_LEN piece (Ok end) → TakesLast text left (Err fault.TooManyLines)
one_last text left piece end r taken few = (piece, end, read_taken text left piece end r few, taken.0, taken.1)

-- what an audit leaves whose verdict couldn't be written
pub untold_left : (w : ExactWorld) (text left : Option (List ℕ)) (v : Verdict) (e : AuditFault) → Leaves w text left (Ok v) → e ≡ fault.Write → Leaves w text left (Err e)
untold_left w text left v e h same = subst (λ (d : AuditFault). Leaves w text left (Err d)) (sym same) (v, h)
