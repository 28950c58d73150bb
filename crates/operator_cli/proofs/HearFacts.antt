-- What an onlooker hears, line after line, and then behind the settings.
use Rattle.std.proofs.Common.{◌≡◌, ◌⊎◌, inl, inr, ℕ, true, false, List, [], ◌∷◌, ◌++◌, Option, Some, None, Result, Ok, Err, refl, sym, ap, subst, ◌∙◌}
use Rattle.world_model.specs.declared.exact.ExactWorld.{ExactWorld}
use Rattle.event_lines.specs.declared.faults.LineFault.{LineFault}
use Rattle.event_lines.specs.declared.lines.Line.{Line}
use Rattle.event_lines.specs.declared.words.TheConstants.{MAX_LINE_LEN}
use Rattle.line_streams.specs.declared.reading.End.{End}
use Rattle.line_streams.specs.declared.reading.End.TheVariants.{LineFeed, Input, Limit}
use Rattle.line_streams.specs.Streams.{is_last, ends_no_line, pieces, lines_in, KnownLeft, ReadsPiece}
use Rattle.line_streams.proofs.LineFacts.{no_line_left}
use Rattle.journal_audit.specs.declared.verdicts.Verdict.{Verdict}
use Rattle.journal_audit.specs.Audits.{Audits}
use Rattle.journal_audit.specs.Hearing.{Word, Bad, with_words, words_of, end_words, Hears}
use Rattle.journal_audit.proofs.HearFacts.{no_words, heard_word, last_word}
use Rattle.world_settings.specs.declared.commands.Command.{Command}
use Rattle.world_settings.specs.declared.commands.Command.TheVariants as command
use Rattle.world_settings.specs.declared.faults.SettingsFault.{SettingsFault}
use Rattle.world_settings.specs.declared.faults.SettingsFault.TheVariants as settings
use Rattle.world_settings.specs.declared.heads.StartFault.{StartFault}
use Rattle.world_settings.specs.declared.heads.StartFault.TheVariants as start
use Rattle.world_settings.specs.declared.settings.Start.{Start}
use Rattle.world_settings.specs.Heads.{opened, Starts}
use Rattle.world_settings.specs.Settings.{Given, Refuses}
use Rattle.operator_cli.specs.declared.faults.ServeFault.{ServeFault}
use Rattle.operator_cli.specs.declared.faults.ServeFault.TheVariants as fault
use Rattle.operator_cli.specs.Hearing.{word_of, said_words, script_words, journal_words, behind_words, command_words, HearsAs, HearsInput}
use Rattle.operator_cli.specs.Lines.{line_of}
use Rattle.operator_cli.specs.Outputs.{told, refused_output, Prints}
use Rattle.operator_cli.specs.PartOutputs.{Finishes, RefusesStart}
use Rattle.operator_cli.proofs.ScriptFacts.{line_comes, never_long}
use Rattle.operator_cli.proofs.ServeFacts.{is_verdict}

-- what was heard so far, and what the lines that are left come to, are what all lines come to
abbrev pub HeardSoFar : ExactWorld → ExactWorld → Option (List ℕ) → Option (List ℕ) → Option (List Word) → Option (List Word) → Type 0
HeardSoFar w v None left old new = Unit {0}
HeardSoFar w v (Some xs) left old new = KnownLeft left (λ ys. with_words (script_words v (lines_in (pieces ys))) new ≡ with_words (script_words w (lines_in (pieces xs))) old)

pub nothing_heard : (w : ExactWorld) (text : Option (List ℕ)) (old : Option (List Word)) → HeardSoFar w w text text old old
nothing_heard w None old = tt
nothing_heard w (Some xs) old = refl

-- what lines come to of which the first says this

says_bad : (v : ExactWorld) (lines : List (List ℕ)) (l : List ℕ) (more : List (List ℕ)) (f : LineFault) → lines ≡ l ∷ more → line_of l ≡ Err f → script_words v lines ≡ Bad f ∷ []
says_bad v lines l more f e k = ap (script_words v) e ∙ ap (λ (r : Result Line LineFault). said_words v r (λ z. script_words z more)) k

says_next : (v u : ExactWorld) (lines : List (List ℕ)) (l : List ℕ) (more : List (List ℕ)) (x : Line) → lines ≡ l ∷ more → line_of l ≡ Ok x → u ≡ (told v x).world → script_words v lines ≡ word_of v x ∷ script_words u more
says_next v u lines l more x e k n =
    ap (script_words v) e ∙ ap (λ (r : Result Line LineFault). said_words v r (λ z. script_words z more)) k ∙ ap (λ (z : ExactWorld). word_of v x ∷ script_words z more) (sym n)

pub heard_over : (w v : ExactWorld) (text left next : Option (List ℕ)) (piece : List ℕ) (end : End) (old new : Option (List Word)) (status : ℕ)
    → HeardSoFar w v text left old new → ReadsPiece MAX_LINE_LEN left next piece end → ends_no_line end piece ≡ true → HearsAs (script_words w) text old new (Ok status)
heard_over w v None left next piece end old new status h r j = tt
heard_over w v (Some xs) None next piece end old new status h r j = absurd h
heard_over w v (Some xs) (Some ys) next piece end old new status h r j =
    no_words new ∙ ap (λ (ls : List (List ℕ)). with_words (script_words v ls) new) (sym (no_line_left MAX_LINE_LEN ys next piece end r j)) ∙ h

pub heard_bad : (w v : ExactWorld) (text left next : Option (List ℕ)) (piece : List ℕ) (end : End) (f : LineFault) (old new newer : Option (List Word)) (r : Result ℕ ServeFault)
    → HeardSoFar w v text left old new → ReadsPiece MAX_LINE_LEN left next piece end → ends_no_line end piece ≡ false → line_of piece ≡ Err f → newer ≡ with_words (Bad f ∷ []) new → HearsAs (script_words w) text old newer r
heard_bad w v None left next piece end f old new newer q h r j k n = tt
heard_bad w v (Some xs) left next piece end f old new newer (Err e) h r j k n = tt
heard_bad w v (Some xs) None next piece end f old new newer (Ok status) h r j k n = absurd h
heard_bad w v (Some xs) (Some ys) next piece end f old new newer (Ok status) h r j k n =
    let (l, more, e, says, behind) = line_comes ys next piece end (Err f) r j k in
    last_word _ (Bad f) new newer (says_bad v (lines_in (pieces ys)) l more f e says) n ∙ h

pub heard_on : (w v u : ExactWorld) (text left next : Option (List ℕ)) (piece : List ℕ) (end : End) (x : Line) (old new newer : Option (List Word))
    → HeardSoFar w v text left old new → ReadsPiece MAX_LINE_LEN left next piece end → ends_no_line end piece ≡ false → line_of piece ≡ Ok x → u ≡ (told v x).world → newer ≡ with_words (word_of v x ∷ []) new → is_last end ≡ false
    → HeardSoFar w u text next old newer
heard_on w v u None left next piece end x old new newer h r j k s n z = tt
heard_on w v u (Some xs) None next piece end x old new newer h r j k s n z = absurd h
heard_on w v u (Some xs) (Some ys) None piece LineFeed x old new newer h r j k s n z = absurd r
heard_on w v u (Some xs) (Some ys) (Some zs) piece LineFeed x old new newer h r j k s n z =
    let (l, more, e, says, b) = line_comes ys (Some zs) piece LineFeed (Ok x) r j k in
    subst (λ (ls : List (List ℕ)). with_words (script_words u ls) newer ≡ with_words (script_words w (lines_in (pieces xs))) old) b
    (heard_word _ (script_words u more) (word_of v x) new newer (says_next v u (lines_in (pieces ys)) l more x e says s) n ∙ h)
heard_on w v u (Some xs) (Some ys) next piece Input x old new newer h r j k s n z = let clash : true ≡ false = z in absurd (cc)
heard_on w v u (Some xs) (Some ys) next piece Limit x old new newer h r j k s n z = absurd (never_long ys next piece x r k)

pub heard_last : (w v u : ExactWorld) (text left next : Option (List ℕ)) (piece : List ℕ) (end : End) (x : Line) (old new newer : Option (List Word)) (status : ℕ)
    → HeardSoFar w v text left old new → ReadsPiece MAX_LINE_LEN left next piece end → ends_no_line end piece ≡ false → line_of piece ≡ Ok x → u ≡ (told v x).world → newer ≡ with_words (word_of v x ∷ []) new → is_last end ≡ true
    → HearsAs (script_words w) text old newer (Ok status)
heard_last w v u None left next piece end x old new newer status h r j k s n z = tt
heard_last w v u (Some xs) None next piece end x old new newer status h r j k s n z = absurd h
heard_last w v u (Some xs) (Some ys) next piece LineFeed x old new newer status h r j k s n z = let clash : false ≡ true = z in absurd (cc)
heard_last w v u (Some xs) (Some ys) next piece Limit x old new newer status h r j k s n z = let clash : false ≡ true = z in absurd (cc)
heard_last w v u (Some xs) (Some ys) next piece Input x old new newer status h r j k s n z =
    let (l, more, e, says, b) = line_comes ys next piece Input (Ok x) r j k in
    last_word _ (word_of v x) new newer (says_next v u (lines_in (pieces ys)) l more x e says s ∙ ap (λ (ls : List (List ℕ)). word_of v x ∷ script_words u ls) b) n ∙ h

-- no status is answered
pub no_hearing : (words : List (List ℕ) → List Word) (text : Option (List ℕ)) (old new : Option (List Word)) (f : ServeFault) → HearsAs words text old new (Err f)
no_hearing words None old new f = tt
no_hearing words (Some xs) old new f = tt

-- what is gathered is let out behind it
pub heard_finished : (words : List (List ℕ) → List Word) (text : Option (List ℕ)) (old new : Option (List Word)) (before after : Option (List ℕ)) (gathered : List ℕ) (came r : Result ℕ ServeFault)
    → HearsAs words text old new came → Finishes before after gathered came r → HearsAs words text old new r
heard_finished words text old new before after gathered came (Ok status) h f = subst (λ (q : Result ℕ ServeFault). HearsAs words text old new q) f.0 h
heard_finished words text old new before after gathered came (Err e) h f = no_hearing words text old new e

-- of a journal, whose verdict is the one of its lines
pub journal_heard : (w : ExactWorld) (text : Option (List ℕ)) (heard now : Option (List Word)) (old new : Option (List ℕ)) (v : Verdict) (status : ℕ) → Hears w text heard now (Ok v) → Audits w text old new (Ok v) → HearsAs (journal_words w) text heard now (Ok status)
journal_heard w None heard now old new v status h a = tt
journal_heard w (Some xs) heard now old new v status h a =
    h ∙ ap (λ (u : Verdict). with_words (words_of w (lines_in (pieces xs)) ++ end_words u) heard) (sym (is_verdict w (lines_in (pieces xs)) v a.0).0)

-- whatever the lines are, nothing is heard
pub none_heard : (text : Option (List ℕ)) (old : Option (List Word)) (r : Result ℕ ServeFault) → HearsAs (λ lines. []) text old old r
none_heard None old r = tt
none_heard (Some xs) old (Err f) = tt
none_heard (Some xs) old (Ok status) = no_words old

-- A whole input.

refused_heard : (c : Command) (xs : List ℕ) (e : SettingsFault) (old new : Option (List Word)) (r : Result ℕ ServeFault) → opened c xs ≡ Err e → new ≡ old → HearsInput c (Some xs) old new r
refused_heard c xs e old new (Err f) h same = tt
refused_heard c xs e old new (Ok status) h same = inl (same ∙ no_words old ∙ ap (λ (o : Result (Given × List (List ℕ)) SettingsFault). with_words (command_words c o) old) (sym h))

two_for_memory : (c : Command) → (refused_output c settings.Memory).status ≡ 2
two_for_memory command.Script = refl
two_for_memory command.Audit = refl
two_for_memory command.Ballot = refl
two_for_memory (command.Run journal) = refl

pub memory_heard : (c : Command) (text : Option (List ℕ)) (old new : Option (List Word)) (before after : Option (List ℕ)) (r : Result ℕ ServeFault) → Prints (refused_output c settings.Memory) before after r → new ≡ old → HearsInput c text old new r
memory_heard c None old new before after r p same = tt
memory_heard c (Some xs) old new before after (Err f) p same = tt
memory_heard c (Some xs) old new before after (Ok status) p same = inr (same, p.1 ∙ two_for_memory c)

by_fault : (c : Command) (xs : List ℕ) (e : SettingsFault) (old new : Option (List Word)) (before after : Option (List ℕ)) (r : Result ℕ ServeFault) → Refuses e (opened c xs) → Prints (refused_output c e) before after r → new ≡ old → HearsInput c (Some xs) old new r
by_fault c xs settings.NoEnd old new before after r h p same = refused_heard c xs settings.NoEnd old new r h same
by_fault c xs settings.NoDocument old new before after r h p same = refused_heard c xs settings.NoDocument old new r h same
by_fault c xs settings.UnknownKey old new before after r h p same = refused_heard c xs settings.UnknownKey old new r h same
by_fault c xs settings.Value old new before after r h p same = refused_heard c xs settings.Value old new r h same
by_fault c xs (settings.Ballot f) old new before after r h p same = refused_heard c xs (settings.Ballot f) old new r h same
by_fault c xs (settings.Weather f) old new before after r h p same = refused_heard c xs (settings.Weather f) old new r h same
by_fault c xs (settings.Wish f) old new before after r h p same = refused_heard c xs (settings.Wish f) old new r h same
by_fault c xs settings.Memory old new before after r h p same = memory_heard c (Some xs) old new before after r p same

pub unstarted_heard : (c : Command) (text left : Option (List ℕ)) (f : StartFault) (old new : Option (List Word)) (before after : Option (List ℕ)) (r : Result ℕ ServeFault) → Starts c text left (Err f) → RefusesStart c f before after r → new ≡ old → HearsInput c text old new r
unstarted_heard c None left f old new before after r h p same = tt
unstarted_heard c (Some xs) left start.Read old new before after r h p same = subst (λ (q : Result ℕ ServeFault). HearsInput c (Some xs) old new q) (sym p.0) tt
unstarted_heard c (Some xs) left (start.Settings e) old new before after r h p same = by_fault c xs e old new before after r h p same

pub started_heard : (c : Command) (text left : Option (List ℕ)) (s : Start) (old mid new : Option (List Word)) (r : Result ℕ ServeFault) → Starts c text left (Ok s) → mid ≡ old → HearsAs (behind_words c s.settings) left mid new r → HearsInput c text old new r
started_heard c None left s old mid new r h same p = tt
started_heard c (Some xs) None s old mid new r h same p = absurd h
started_heard c (Some xs) (Some ys) s old mid new (Err f) h same p = tt
started_heard c (Some xs) (Some ys) s old mid new (Ok status) h same p =
    inl (p ∙ ap (with_words (behind_words c s.settings (lines_in (pieces ys)))) same ∙ ap (λ (o : Result (Given × List (List ℕ)) SettingsFault). with_words (command_words c o) old) (sym h))
