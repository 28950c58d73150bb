-- Judging line after line.
use Rattle.std.proofs.Common.{◌≡◌, ◌≢◌, inl, inr, ℕ, ◌+◌, ◌<◌, ◌≤◌, Bool, true, false, List, [], ◌∷◌, ◌++◌, length, Option, Some, None, Result, Ok, Err, IfOk, IfErr, refl, sym, ap, subst, ◌∙◌, arith, append_assoc}
use Rattle.std.proofs.lemmas.List.{append-nil, length-append}
use Rattle.world_model.specs.declared.events.Event.{Event}
use Rattle.world_model.specs.declared.events.Effect.{Effect}
use Rattle.world_model.specs.declared.events.StepFault.{StepFault}
use Rattle.world_model.specs.declared.events.StepFault.TheVariants as refusal
use Rattle.world_model.specs.declared.exact.ExactWorld.{ExactWorld}
use Rattle.world_model.specs.ExactWorlds.{Steps, step}
use Rattle.world_model.specs.StepsOf.{Does, IsRefused}
use Rattle.event_lines.specs.declared.faults.LineFault.{LineFault}
use Rattle.event_lines.specs.declared.words.TheConstants.{MAX_LINE_LEN}
use Rattle.event_lines.specs.Events.{event_of}
use Rattle.event_lines.specs.Laws.{EventsAreSpelledOnce}
use Rattle.line_streams.specs.declared.reading.End.{End}
use Rattle.line_streams.specs.declared.reading.End.TheVariants.{LineFeed, Input, Limit}
use Rattle.line_streams.specs.Streams.{is_last, ends_no_line, KnownLeft, ReadsPiece}
use Rattle.line_streams.proofs.LineFacts.{no_line_left, next_line}
use Rattle.journal_audit.specs.declared.faults.AuditFault.{AuditFault}
use Rattle.journal_audit.specs.declared.faults.AuditFault.TheVariants as fault
use Rattle.journal_audit.specs.declared.verdicts.Cause.{Cause}
use Rattle.journal_audit.specs.declared.verdicts.Cause.TheVariants as cause
use Rattle.journal_audit.specs.declared.verdicts.TheConstants.{MAX_LINES}
use Rattle.journal_audit.specs.declared.verdicts.Verdict.{Verdict}
use Rattle.journal_audit.specs.declared.verdicts.Verdict.TheVariants.{Sound, Unsound}
use Rattle.journal_audit.specs.Judging.{CutsShort, EndsIn, EndsLines}
use Rattle.journal_audit.specs.Verdicts.{Leads, IsUnsound, Finds, FindsIn, text_lines}
use Rattle.journal_audit.proofs.LineFacts.{line_comes, never_long}
use Rattle.journal_audit.proofs.RunFacts.{leads_nowhere, leads_on}

-- so many lines of the text were taken and lead from w to v, and these are left
abbrev pub After : ExactWorld → List (List ℕ) → ExactWorld → ℕ → List (List ℕ) → Type 0
After w lines v taken rest = (before : List (List ℕ)) × (lines ≡ before ++ rest) × (length before ≡ taken) × Leads w before v

-- the same, where bytes are left
abbrev pub SoFar : ExactWorld → Option (List ℕ) → Option (List ℕ) → ExactWorld → ℕ → Type 0
SoFar w None left v taken = Unit {0}
SoFar w (Some xs) left v taken = KnownLeft left (λ ys. After w (text_lines xs) v taken (text_lines ys))

pub begins : (w : ExactWorld) (left : Option (List ℕ)) → SoFar w left left w 0
begins w None = tt
begins w (Some xs) = ([], refl, refl, leads_nowhere w)

-- what is said of a copy of bytes is said of them
pub same_said : (piece text : List ℕ) (says : Result Event LineFault) → text ≡ piece → event_of text ≡ says → event_of piece ≡ says
same_said piece text says same e = ap event_of (sym same) ∙ e

pub same_line : (end : End) (piece text : List ℕ) (b : Bool) → text ≡ piece → ends_no_line end text ≡ b → ends_no_line end piece ≡ b
same_line end piece text b same e = ap (ends_no_line end) (sym same) ∙ e

-- an audit that was cut short says nothing
short_in : (w : ExactWorld) (lines : List (List ℕ)) (e : AuditFault) → CutsShort e → FindsIn w lines (Err e)
short_in w lines fault.Read h = tt
short_in w lines fault.Write h = absurd h
short_in w lines fault.Memory h = tt
short_in w lines fault.TooManyLines h = absurd h

pub no_write : (e : AuditFault) → CutsShort e → e ≢ fault.Write
no_write fault.Read h = λ e. let clash : fault.Read ≡ fault.Write = e in cc
no_write fault.Write h = absurd h
no_write fault.Memory h = λ e. let clash : fault.Memory ≡ fault.Write = e in cc
no_write fault.TooManyLines h = absurd h

-- want of memory cuts it short
pub memory_cuts : (r : Result Verdict AuditFault) → IfErr r (λ e. e ≡ fault.Memory) → IfErr r CutsShort
memory_cuts (Ok v) h = tt
memory_cuts (Err e) h = subst CutsShort (sym h) tt

pub no_write_in : (r : Result Verdict AuditFault) → IfErr r (λ e. e ≡ fault.Memory) → IfErr r (λ e. e ≢ fault.Write)
no_write_in (Ok v) h = tt
no_write_in (Err e) h = no_write e (subst CutsShort (sym h) tt)

pub cut_short : (w : ExactWorld) (text : Option (List ℕ)) (e : AuditFault) → CutsShort e → Finds w text (Err e)
cut_short w None e h = tt
cut_short w (Some xs) e h = short_in w (text_lines xs) e h

-- no line is left
all_taken : (w v : ExactWorld) (lines rest : List (List ℕ)) (taken : ℕ) → After w lines v taken rest → rest ≡ [] → taken ≤ MAX_LINES → FindsIn w lines (Ok (Sound taken))
all_taken w v lines rest taken h none few =
    let (before, cut, count, leads) = h in
    let all : lines ≡ before = cut ∙ ap (λ ls. before ++ ls) none ∙ append-nil before in
    ((sym count ∙ ap length (sym all), (v, subst (λ ls. Leads w ls v) (sym all) leads)), few)

pub is_over : (w v : ExactWorld) (text left next : Option (List ℕ)) (taken : ℕ) (piece : List ℕ) (end : End) → SoFar w text left v taken → taken ≤ MAX_LINES → ReadsPiece MAX_LINE_LEN left next piece end → ends_no_line end piece ≡ true → Finds w text (Ok (Sound taken))
is_over w v None left next taken piece end h few r j = tt
is_over w v (Some xs) None next taken piece end h few r j = absurd h
is_over w v (Some xs) (Some ys) next taken piece end h few r j = all_taken w v (text_lines xs) (text_lines ys) taken h (no_line_left MAX_LINE_LEN ys next piece end r j) few

-- the next line doesn't go on
pub no_further : (w v : ExactWorld) (lines rest : List (List ℕ)) (taken number : ℕ) (l : List ℕ) (more : List (List ℕ)) (c : Cause) → After w lines v taken rest → rest ≡ l ∷ more → number ≡ taken + 1 → taken < MAX_LINES → IsUnsound v l c → FindsIn w lines (Ok (Unsound number c))
no_further w v lines rest taken number l more c h next at few bad =
    let (before, cut, count, leads) = h in
    ((before, l, more, v, cut ∙ ap (λ ls. before ++ ls) next, at ∙ ap (λ n. n + 1) (sym count), leads, bad), let e : number ≤ MAX_LINES = omega (arith, at, few) in e)

pub is_bad : (w v : ExactWorld) (text left next : Option (List ℕ)) (taken number : ℕ) (piece : List ℕ) (end : End) (f : LineFault)
    → SoFar w text left v taken → number ≡ taken + 1 → taken < MAX_LINES → ReadsPiece MAX_LINE_LEN left next piece end → ends_no_line end piece ≡ false → event_of piece ≡ Err f → Finds w text (Ok (Unsound number (cause.Line f)))
is_bad w v None left next taken number piece end f h at few r j q = tt
is_bad w v (Some xs) None next taken number piece end f h at few r j q = absurd h
is_bad w v (Some xs) (Some ys) next taken number piece end f h at few r j q =
    let (l, more, e, b, behind) = line_comes ys next piece end (Err f) r j q in
    no_further w v (text_lines xs) (text_lines ys) taken number l more (cause.Line f) h e at few b

-- a refusal is one of the step, or want of memory
pub refused_so : (e : Event) (s : Steps) (f : StepFault) → IsRefused e s f → f ≢ refusal.Memory → s ≡ Err f
refused_so e s f (inl h) n = h
refused_so e s f (inr h) n = absurd (n h.0)

-- what is answered where a line is refused so
abbrev pub IsToldSo : ℕ → StepFault → Verdict → Type 0
IsToldSo number f v = (v ≡ Unsound number (cause.Refused f)) × (f ≢ refusal.Memory)

pub is_refused : (spelled : EventsAreSpelledOnce) (w v : ExactWorld) (text left next : Option (List ℕ)) (taken number : ℕ) (piece : List ℕ) (end : End) (x : Event) (f : StepFault) (result : Result Verdict AuditFault)
    → SoFar w text left v taken → number ≡ taken + 1 → taken < MAX_LINES → ReadsPiece MAX_LINE_LEN left next piece end → ends_no_line end piece ≡ false → event_of piece ≡ Ok x → IsRefused x (step v x) f → IfOk result (IsToldSo number f) → IfErr result CutsShort → Finds w text result
is_refused spelled w v text left next taken number piece end x f (Err e) h at few r j said refused so short = cut_short w text e short
is_refused spelled w v None left next taken number piece end x f (Ok q) h at few r j said refused so short = tt
is_refused spelled w v (Some xs) None next taken number piece end x f (Ok q) h at few r j said refused so short = absurd h
is_refused spelled w v (Some xs) (Some ys) next taken number piece end x f (Ok q) h at few r j said refused so short =
    let (l, more, e, k, b) = line_comes ys next piece end (Ok x) r j said in
    subst (λ (p : Verdict). FindsIn w (text_lines xs) (Ok p)) (sym so.0)
    (no_further w v (text_lines xs) (text_lines ys) taken number l more (cause.Refused f) h e at few (x, (spelled l x).0 k, refused_so x (step v x) f refused so.1))

-- the next line was taken
one_taken : (spelled : EventsAreSpelledOnce) (w v u : ExactWorld) (lines rest : List (List ℕ)) (taken : ℕ) (l : List ℕ) (more : List (List ℕ)) (x : Event) (o : Effect)
    → After w lines v taken rest → rest ≡ l ∷ more → event_of l ≡ Ok x → step v x ≡ Ok (record { world = u; effect = o }) → After w lines u (taken + 1) more
one_taken spelled w v u lines rest taken l more x o h next k s =
    let (before, cut, count, leads) = h in
    let long : length (before ++ l ∷ []) ≡ length before + 1 = length-append before (l ∷ []) in (
      before ++ l ∷ [],
      cut ∙ ap (λ ls. before ++ ls) next ∙ sym (append_assoc before (l ∷ []) more),
      long ∙ ap (λ n. n + 1) count,
      leads_on w v u before l x o leads ((spelled l x).0 k) s,
    )

pub goes_on : (spelled : EventsAreSpelledOnce) (w v u : ExactWorld) (text left next : Option (List ℕ)) (taken : ℕ) (piece : List ℕ) (end : End) (x : Event) (o : Effect)
    → SoFar w text left v taken → ReadsPiece MAX_LINE_LEN left next piece end → ends_no_line end piece ≡ false → event_of piece ≡ Ok x → Does x (step v x) v (Ok o) u → is_last end ≡ false → SoFar w text next u (taken + 1)
goes_on spelled w v u None left next taken piece end x o h r j said s z = tt
goes_on spelled w v u (Some xs) None next taken piece end x o h r j said s z = absurd h
goes_on spelled w v u (Some xs) (Some ys) None taken piece LineFeed x o h r j said s z = absurd r
goes_on spelled w v u (Some xs) (Some ys) (Some zs) taken piece LineFeed x o h r j said s z =
    let (l, more, e, k, b) = line_comes ys (Some zs) piece LineFeed (Ok x) r j said in
    subst (λ ls. After w (text_lines xs) u (taken + 1) ls) b (one_taken spelled w v u (text_lines xs) (text_lines ys) taken l more x o h e k s)
goes_on spelled w v u (Some xs) (Some ys) next taken piece Input x o h r j said s z = cc
goes_on spelled w v u (Some xs) (Some ys) next taken piece Limit x o h r j said s z = absurd (never_long ys next piece x r said)

pub is_over_now : (spelled : EventsAreSpelledOnce) (w v u : ExactWorld) (text left next : Option (List ℕ)) (taken number : ℕ) (piece : List ℕ) (end : End) (x : Event) (o : Effect)
    → SoFar w text left v taken → number ≡ taken + 1 → taken < MAX_LINES → ReadsPiece MAX_LINE_LEN left next piece end → ends_no_line end piece ≡ false → event_of piece ≡ Ok x → Does x (step v x) v (Ok o) u → is_last end ≡ true → Finds w text (Ok (Sound number))
is_over_now spelled w v u None left next taken number piece end x o h at few r j said s z = tt
is_over_now spelled w v u (Some xs) None next taken number piece end x o h at few r j said s z = absurd h
is_over_now spelled w v u (Some xs) (Some ys) next taken number piece LineFeed x o h at few r j said s z = let clash : false ≡ true = z in absurd (cc)
is_over_now spelled w v u (Some xs) (Some ys) next taken number piece Limit x o h at few r j said s z = let clash : false ≡ true = z in absurd (cc)
is_over_now spelled w v u (Some xs) (Some ys) next taken number piece Input x o h at few r j said s z =
    let (l, more, e, k, b) = line_comes ys next piece Input (Ok x) r j said in
    let few_still : number ≤ MAX_LINES = omega (arith, at, few) in
    all_taken w u (text_lines xs) more number (subst (λ n. After w (text_lines xs) u n more) (sym at) (one_taken spelled w v u (text_lines xs) (text_lines ys) taken l more x o h e k s)) b few_still

-- as many lines were taken as there may be
ends_in : (w v : ExactWorld) (lines rest : List (List ℕ)) (result : Result Verdict AuditFault) → After w lines v MAX_LINES rest → EndsIn rest result → FindsIn w lines result
ends_in w v lines rest (Ok q) h r =
    let most : MAX_LINES ≤ MAX_LINES = omega arith in
    subst (λ (p : Verdict). FindsIn w lines (Ok p)) (sym r.0) (all_taken w v lines rest MAX_LINES h r.1 most)
ends_in w v lines rest (Err fault.Read) h r = tt
ends_in w v lines rest (Err fault.Write) h r = absurd r
ends_in w v lines rest (Err fault.Memory) h r = tt
ends_in w v lines rest (Err fault.TooManyLines) h r =
    let (before, cut, count, leads) = h in
    let (l, behind, e) = r in
    (before, l, behind, v, cut ∙ ap (λ ls. before ++ ls) e, count, leads)

pub ends : (w v : ExactWorld) (text left : Option (List ℕ)) (result : Result Verdict AuditFault) → SoFar w text left v MAX_LINES → EndsLines left result → Finds w text result
ends w v None left result h r = tt
ends w v (Some xs) None result h r = absurd h
ends w v (Some xs) (Some ys) result h r = ends_in w v (text_lines xs) (text_lines ys) result h r

-- what the call answers that looks for one line more

pub cuts_end : (left : Option (List ℕ)) (e : AuditFault) → CutsShort e → EndsLines left (Err e)
cuts_end None e h = tt
cuts_end (Some ys) fault.Read h = tt
cuts_end (Some ys) fault.Write h = absurd h
cuts_end (Some ys) fault.Memory h = tt
cuts_end (Some ys) fault.TooManyLines h = absurd h

pub none_more : (left next : Option (List ℕ)) (piece : List ℕ) (end : End) → ReadsPiece MAX_LINE_LEN left next piece end → ends_no_line end piece ≡ true → EndsLines left (Ok (Sound MAX_LINES))
none_more None next piece end r j = tt
none_more (Some ys) next piece end r j = (refl, no_line_left MAX_LINE_LEN ys next piece end r j)

pub one_more : (left next : Option (List ℕ)) (piece : List ℕ) (end : End) → ReadsPiece MAX_LINE_LEN left next piece end → ends_no_line end piece ≡ false → EndsLines left (Err fault.TooManyLines)
one_more None next piece end r j = tt
one_more (Some ys) next piece end r j = let (l, more, e, kept, behind) = next_line MAX_LINE_LEN ys next piece end r j in (l, more, e)
