-- What a watcher hears, line after line.
use Rattle.std.proofs.Common.{◌≡◌, ◌≢◌, ℕ, true, false, List, [], ◌∷◌, ◌++◌, Option, Some, None, Result, Ok, Err, IfOk, refl, sym, ap, subst, ◌∙◌, append_assoc}
use Rattle.std.proofs.lemmas.List.{append-nil}
use Rattle.world_model.specs.declared.events.Event.{Event}
use Rattle.world_model.specs.declared.events.Effect.{Effect}
use Rattle.world_model.specs.declared.events.StepFault.{StepFault}
use Rattle.world_model.specs.declared.exact.ExactWorld.{ExactWorld}
use Rattle.world_model.specs.ExactWorlds.{Steps, step}
use Rattle.world_model.specs.StepsOf.{Does, IsRefused}
use Rattle.event_lines.specs.declared.faults.LineFault.{LineFault}
use Rattle.event_lines.specs.declared.words.TheConstants.{MAX_LINE_LEN}
use Rattle.event_lines.specs.Events.{event_of}
use Rattle.line_streams.specs.declared.reading.End.{End}
use Rattle.line_streams.specs.declared.reading.End.TheVariants.{LineFeed, Input, Limit}
use Rattle.line_streams.specs.Streams.{is_last, ends_no_line, KnownLeft, ReadsPiece}
use Rattle.line_streams.proofs.LineFacts.{no_line_left}
use Rattle.journal_audit.specs.declared.faults.AuditFault.{AuditFault}
use Rattle.journal_audit.specs.declared.faults.AuditFault.TheVariants as fault
use Rattle.journal_audit.specs.declared.verdicts.Verdict.{Verdict}
use Rattle.journal_audit.specs.declared.verdicts.Verdict.TheVariants.{Sound, Unsound}
use Rattle.journal_audit.specs.Hearing.{Word, Happened, Bad, Over, with_words, step_words, line_words, words_of, end_words, HearsLines, Hears}
use Rattle.journal_audit.specs.Judging.{EndsIn, EndsLines}
use Rattle.journal_audit.specs.Verdicts.{text_lines}
use Rattle.journal_audit.proofs.JudgeFacts.{IsToldSo, refused_so}
use Rattle.journal_audit.proofs.LineFacts.{line_comes, never_long}

pub more_words : (xs ys : List Word) (heard : Option (List Word)) → with_words ys (with_words xs heard) ≡ with_words (xs ++ ys) heard
more_words xs ys None = refl
more_words xs ys (Some zs) = ap Some (append_assoc zs xs ys)

pub no_words : (heard : Option (List Word)) → heard ≡ with_words [] heard
no_words None = refl
no_words (Some zs) = ap Some (sym (append-nil zs))

-- what was heard so far, and what the lines that are left come to, are what all lines come to
abbrev pub HeardSoFar : ExactWorld → ExactWorld → Option (List ℕ) → Option (List ℕ) → Option (List Word) → Option (List Word) → Type 0
HeardSoFar w v None left old new = Unit {0}
HeardSoFar w v (Some xs) left old new = KnownLeft left (λ ys. with_words (words_of v (text_lines ys)) new ≡ with_words (words_of w (text_lines xs)) old)

pub nothing_heard : (w : ExactWorld) (text : Option (List ℕ)) (old : Option (List Word)) → HeardSoFar w w text text old old
nothing_heard w None old = tt
nothing_heard w (Some xs) old = refl

-- what lines come to of which the first says this

says_no_event : (v : ExactWorld) (lines : List (List ℕ)) (l : List ℕ) (more : List (List ℕ)) (f : LineFault) → lines ≡ l ∷ more → event_of l ≡ Err f → words_of v lines ≡ Bad f ∷ []
says_no_event v lines l more f e k = ap (words_of v) e ∙ ap (λ (r : Result Event LineFault). line_words v r (λ z. words_of z more)) k

says_refused : (v : ExactWorld) (lines : List (List ℕ)) (l : List ℕ) (more : List (List ℕ)) (x : Event) (f : StepFault) → lines ≡ l ∷ more → event_of l ≡ Ok x → step v x ≡ Err f → words_of v lines ≡ Happened x (Err f) ∷ []
says_refused v lines l more x f e k s =
    ap (words_of v) e ∙ ap (λ (r : Result Event LineFault). line_words v r (λ z. words_of z more)) k ∙ ap (λ (r : Steps). step_words x r (λ z. words_of z more)) s

says_next : (v u : ExactWorld) (lines : List (List ℕ)) (l : List ℕ) (more : List (List ℕ)) (x : Event) (o : Effect) → lines ≡ l ∷ more → event_of l ≡ Ok x → step v x ≡ Ok (record { world = u; effect = o })
    → words_of v lines ≡ Happened x (Ok o) ∷ words_of u more
says_next v u lines l more x o e k s =
    ap (words_of v) e ∙ ap (λ (r : Result Event LineFault). line_words v r (λ z. words_of z more)) k ∙ ap (λ (r : Steps). step_words x r (λ z. words_of z more)) s

-- a word more, which is the first of those that are left
pub heard_word : (left more : List Word) (word : Word) (new newer : Option (List Word)) → left ≡ word ∷ more → newer ≡ with_words (word ∷ []) new → with_words more newer ≡ with_words left new
heard_word left more word new newer e n = ap (with_words more) n ∙ more_words (word ∷ []) more new ∙ ap (λ (ws : List Word). with_words ws new) (sym e)

-- a word that is the last
pub last_word : (left : List Word) (word : Word) (new newer : Option (List Word)) → left ≡ word ∷ [] → newer ≡ with_words (word ∷ []) new → newer ≡ with_words left new
last_word left word new newer e n = no_words newer ∙ heard_word left [] word new newer e n

pub heard_over : (w v : ExactWorld) (text left next : Option (List ℕ)) (piece : List ℕ) (end : End) (old new : Option (List Word)) (u : Verdict)
    → HeardSoFar w v text left old new → ReadsPiece MAX_LINE_LEN left next piece end → ends_no_line end piece ≡ true → HearsLines w text old new (Ok u)
heard_over w v None left next piece end old new u h r j = tt
heard_over w v (Some xs) None next piece end old new u h r j = absurd h
heard_over w v (Some xs) (Some ys) next piece end old new u h r j =
    no_words new ∙ ap (λ (ls : List (List ℕ)). with_words (words_of v ls) new) (sym (no_line_left MAX_LINE_LEN ys next piece end r j)) ∙ h

pub heard_bad : (w v : ExactWorld) (text left next : Option (List ℕ)) (piece : List ℕ) (end : End) (f : LineFault) (old new newer : Option (List Word)) (u : Verdict)
    → HeardSoFar w v text left old new → ReadsPiece MAX_LINE_LEN left next piece end → ends_no_line end piece ≡ false → event_of piece ≡ Err f → newer ≡ with_words (Bad f ∷ []) new → HearsLines w text old newer (Ok u)
heard_bad w v None left next piece end f old new newer u h r j q n = tt
heard_bad w v (Some xs) None next piece end f old new newer u h r j q n = absurd h
heard_bad w v (Some xs) (Some ys) next piece end f old new newer u h r j q n =
    let (l, more, e, k, behind) = line_comes ys next piece end (Err f) r j q in
    last_word _ (Bad f) new newer (says_no_event v (text_lines ys) l more f e k) n ∙ h

pub heard_refused : (w v : ExactWorld) (text left next : Option (List ℕ)) (number : ℕ) (piece : List ℕ) (end : End) (x : Event) (f : StepFault) (old new newer : Option (List Word)) (result : Result Verdict AuditFault)
    → HeardSoFar w v text left old new → ReadsPiece MAX_LINE_LEN left next piece end → ends_no_line end piece ≡ false → event_of piece ≡ Ok x → IsRefused x (step v x) f → newer ≡ with_words (Happened x (Err f) ∷ []) new → IfOk result (IsToldSo number f)
    → HearsLines w text old newer result
heard_refused w v None left next number piece end x f old new newer result h r j said refused n so = tt
heard_refused w v (Some xs) left next number piece end x f old new newer (Err e) h r j said refused n so = tt
heard_refused w v (Some xs) None next number piece end x f old new newer (Ok u) h r j said refused n so = absurd h
heard_refused w v (Some xs) (Some ys) next number piece end x f old new newer (Ok u) h r j said refused n so =
    let (l, more, e, k, behind) = line_comes ys next piece end (Ok x) r j said in
    last_word _ (Happened x (Err f)) new newer (says_refused v (text_lines ys) l more x f e k (refused_so x (step v x) f refused so.1)) n ∙ h

pub heard_on : (w v u : ExactWorld) (text left next : Option (List ℕ)) (piece : List ℕ) (end : End) (x : Event) (o : Effect) (old new newer : Option (List Word))
    → HeardSoFar w v text left old new → ReadsPiece MAX_LINE_LEN left next piece end → ends_no_line end piece ≡ false → event_of piece ≡ Ok x → Does x (step v x) v (Ok o) u → newer ≡ with_words (Happened x (Ok o) ∷ []) new → is_last end ≡ false
    → HeardSoFar w u text next old newer
heard_on w v u None left next piece end x o old new newer h r j said s n z = tt
heard_on w v u (Some xs) None next piece end x o old new newer h r j said s n z = absurd h
heard_on w v u (Some xs) (Some ys) None piece LineFeed x o old new newer h r j said s n z = absurd r
heard_on w v u (Some xs) (Some ys) (Some zs) piece LineFeed x o old new newer h r j said s n z =
    let (l, more, e, k, b) = line_comes ys (Some zs) piece LineFeed (Ok x) r j said in
    subst (λ (ls : List (List ℕ)). with_words (words_of u ls) newer ≡ with_words (words_of w (text_lines xs)) old) b
    (heard_word _ (words_of u more) (Happened x (Ok o)) new newer (says_next v u (text_lines ys) l more x o e k s) n ∙ h)
heard_on w v u (Some xs) (Some ys) next piece Input x o old new newer h r j said s n z = let clash : true ≡ false = z in absurd (cc)
heard_on w v u (Some xs) (Some ys) next piece Limit x o old new newer h r j said s n z = absurd (never_long ys next piece x r said)

pub heard_last : (w v u : ExactWorld) (text left next : Option (List ℕ)) (piece : List ℕ) (end : End) (x : Event) (o : Effect) (old new newer : Option (List Word)) (q : Verdict)
    → HeardSoFar w v text left old new → ReadsPiece MAX_LINE_LEN left next piece end → ends_no_line end piece ≡ false → event_of piece ≡ Ok x → Does x (step v x) v (Ok o) u → newer ≡ with_words (Happened x (Ok o) ∷ []) new → is_last end ≡ true
    → HearsLines w text old newer (Ok q)
heard_last w v u None left next piece end x o old new newer q h r j said s n z = tt
heard_last w v u (Some xs) None next piece end x o old new newer q h r j said s n z = absurd h
heard_last w v u (Some xs) (Some ys) next piece LineFeed x o old new newer q h r j said s n z = let clash : false ≡ true = z in absurd (cc)
heard_last w v u (Some xs) (Some ys) next piece Limit x o old new newer q h r j said s n z = let clash : false ≡ true = z in absurd (cc)
heard_last w v u (Some xs) (Some ys) next piece Input x o old new newer q h r j said s n z =
    let (l, more, e, k, b) = line_comes ys next piece Input (Ok x) r j said in
    last_word _ (Happened x (Ok o)) new newer (says_next v u (text_lines ys) l more x o e k s ∙ ap (λ (ls : List (List ℕ)). Happened x (Ok o) ∷ words_of u ls) b) n ∙ h

-- as many lines were taken as there may be
heard_in : (w v : ExactWorld) (xs ys : List ℕ) (old new : Option (List Word)) (result : Result Verdict AuditFault) → with_words (words_of v (text_lines ys)) new ≡ with_words (words_of w (text_lines xs)) old → EndsIn (text_lines ys) result → HearsLines w (Some xs) old new result
heard_in w v xs ys old new (Ok u) h r = no_words new ∙ ap (λ (ls : List (List ℕ)). with_words (words_of v ls) new) (sym r.1) ∙ h
heard_in w v xs ys old new (Err e) h r = tt

pub heard_most : (w v : ExactWorld) (text left : Option (List ℕ)) (old new : Option (List Word)) (result : Result Verdict AuditFault) → HeardSoFar w v text left old new → EndsLines left result → HearsLines w text old new result
heard_most w v None left old new result h r = tt
heard_most w v (Some xs) None old new result h r = absurd h
heard_most w v (Some xs) (Some ys) old new result h r = heard_in w v xs ys old new result h r

-- no verdict is found
pub no_hearing : (w : ExactWorld) (text : Option (List ℕ)) (old new : Option (List Word)) (e : AuditFault) → HearsLines w text old new (Err e)
no_hearing w None old new e = tt
no_hearing w (Some xs) old new e = tt

-- and then the end is heard
pub unheard : (w : ExactWorld) (text : Option (List ℕ)) (old new : Option (List Word)) (e : AuditFault) → Hears w text old new (Err e)
unheard w None old new e = tt
unheard w (Some xs) old new e = tt

pub end_heard : (w : ExactWorld) (text : Option (List ℕ)) (old new newer : Option (List Word)) (v : Verdict) → HearsLines w text old new (Ok v) → newer ≡ with_words (end_words v) new → Hears w text old newer (Ok v)
end_heard w None old new newer v h e = tt
end_heard w (Some xs) old new newer v h e = e ∙ ap (with_words (end_words v)) h ∙ more_words (words_of w (text_lines xs)) (end_words v) old
