-- From the end of a run to what is told of it.
use Rattle.std.proofs.Common.{◌≡◌, inl, inr, ℕ, Bool, true, false, List, ◌++◌, length, Option, Some, None, Result, Ok, Err, codes, refl, sym, ap, subst, ◌∙◌}
use Rattle.std.proofs.KnownBytes.{Keeps-refl}
use Rattle.journal_text.specs.Journals.{history_text, IsRecorded}
use Rattle.journal_audit.specs.declared.verdicts.Verdict.TheVariants.{Sound}
use Rattle.journal_audit.specs.Verdicts.{text_lines, VerdictsAreExact}
use Rattle.journal_laws.specs.Laws.{JournalsAreSound}
use Rattle.line_streams.specs.Streams.{pieces, lines_in, AppendsPart, Puts}
use Rattle.operator_cli.specs.declared.faults.ServeFault.{ServeFault}
use Rattle.operator_cli.specs.declared.faults.ServeFault.TheVariants as fault
use Rattle.world_settings.specs.declared.faults.SettingsFault.{SettingsFault}
use Rattle.world_settings.specs.declared.faults.SettingsFault.TheVariants as settings
use Rattle.world_settings.specs.declared.heads.StartFault.{StartFault}
use Rattle.world_settings.specs.declared.heads.StartFault.TheVariants as start
use Rattle.world_settings.specs.declared.commands.Command.TheVariants as command
use Rattle.world_settings.specs.Openings.{all_down}
use Rattle.world_settings.specs.Settings.{Given, Refuses, settings_of, values_of, world_of}
use Rattle.operator_cli.specs.Outputs.{output_of, command_output, verdict_output, refusal_output, Prints}
use Rattle.world_settings.specs.Heads.{head_of, opened, start_of, with_lines, FindsHead}
use Rattle.operator_cli.specs.PartOutputs.{RefusesStart}
use Rattle.run_service.specs.Ends.{End, run_text}
use Rattle.run_service.specs.Outputs.{IsFoundSound, Tells, TellsBy, TellsBehind, ServesRun}
use Rattle.run_service.specs.Parts.{TellsEnd, RunsBy, RunsHead}
use Rattle.run_service.proofs.HeadFacts.{read_again}

-- The settings say the same to an audit and to a run.

same_world : (journal : Bool) (document : _) → world_of (command.Run journal) document ≡ world_of command.Audit document
unfolding world_of
same_world journal document = refl

same_settings : (journal : Bool) (head : List ℕ) → settings_of command.Audit head ≡ settings_of (command.Run journal) head
unfolding settings_of values_of world_of
same_settings journal head = refl

-- What was written as a journal is found sound.

audit_opened : (xs head : List ℕ) (lines : List (List ℕ)) (g : Given) (text : List ℕ) → head_of (pieces xs) ≡ Ok (head, lines) → settings_of (command.Run true) head ≡ Ok g
    → opened command.Audit (head ++ codes "---\n" ++ text) ≡ Ok (g, text_lines text)
unfolding opened
audit_opened xs head lines g text h k =
    ap (start_of command.Audit) (read_again xs head lines text h) ∙ ap (with_lines (text_lines text)) (same_settings true head ∙ k)

sound_output : (xs head : List ℕ) (lines : List (List ℕ)) (g : Given) (e : End) → JournalsAreSound → VerdictsAreExact → head_of (pieces xs) ≡ Ok (head, lines) → settings_of (command.Run true) head ≡ Ok g
    → IsRecorded (all_down g.settings) e.history e.world → IsFoundSound true head e
unfolding output_of
sound_output xs head lines g e are_sound are_exact h k recorded =
    let found = (are_exact (all_down g.settings) (text_lines (history_text e.history)) (Sound (length e.history))).1 (are_sound (all_down g.settings) e.world e.history recorded) in
    ap (command_output command.Audit) (audit_opened xs head lines g (history_text e.history) h k) ∙ ap verdict_output found

is_sound : (journal : Bool) (xs head : List ℕ) (lines : List (List ℕ)) (g : Given) (e : End) → JournalsAreSound → VerdictsAreExact → head_of (pieces xs) ≡ Ok (head, lines) → settings_of (command.Run journal) head ≡ Ok g
    → (journal ≡ true → IsRecorded (all_down g.settings) e.history e.world) → IsFoundSound journal head e
is_sound false xs head lines g e are_sound are_exact h k recorded = tt
is_sound true xs head lines g e are_sound are_exact h k recorded = sound_output xs head lines g e are_sound are_exact h k (recorded refl)

tells : (journal : Bool) (xs head : List ℕ) (lines : List (List ℕ)) (g : Given) (old new : Option (List ℕ)) (r : Result ℕ ServeFault) → JournalsAreSound → VerdictsAreExact
    → head_of (pieces xs) ≡ Ok (head, lines) → settings_of (command.Run journal) head ≡ Ok g → TellsEnd journal head g.settings g.wishes old new r → Tells journal head g.settings g.wishes old new r
tells journal xs head lines g old new (Ok status) are_sound are_exact h k p =
    let (e, is_end, written, is_status, recorded) = p in
    (e, is_end, written, is_status, is_sound journal xs head lines g e are_sound are_exact h k recorded)
tells journal xs head lines g old new (Err f) are_sound are_exact h k p = p

tells_by : (journal : Bool) (xs head : List ℕ) (lines : List (List ℕ)) (given : Result Given SettingsFault) (old new : Option (List ℕ)) (r : Result ℕ ServeFault) → JournalsAreSound → VerdictsAreExact
    → head_of (pieces xs) ≡ Ok (head, lines) → settings_of (command.Run journal) head ≡ given → RunsBy journal head given old new r → TellsBy journal head given old new r
tells_by journal xs head lines (Ok g) old new r are_sound are_exact h k p = tells journal xs head lines g old new r are_sound are_exact h k p
tells_by journal xs head lines (Err e) old new r are_sound are_exact h k p = inl p

-- What was told by one of two calls, of which one tells a journal.
pub part_told : {U : Type 0} (journal : Bool) (head : List ℕ) (e : End) (is_journal : Bool) (old new written : Option (List ℕ)) (told said : Result U ServeFault) (f : ServeFault) → journal ≡ is_journal → told ≡ said → told ≡ Err f → new ≡ written
    → Puts old written (run_text is_journal head e) said → AppendsPart old new (run_text journal head e)
part_told {U} journal head e is_journal old new written told said f which same failed there puts =
    let part : AppendsPart old written (run_text is_journal head e) = subst (λ (r : Result U ServeFault). Puts old written (run_text is_journal head e) r) (sym same ∙ failed) puts in
    subst (λ (n : Option (List ℕ)). AppendsPart old n (run_text journal head e)) (sym there) (subst (λ (b : Bool). AppendsPart old written (run_text b head e)) (sym which) part)

-- What is told of settings that were read.

pub told_by : (journal : Bool) (head : List ℕ) (g : Given) (old new : Option (List ℕ)) (r : Result ℕ ServeFault) → settings_of (command.Run journal) head ≡ Ok g → TellsEnd journal head g.settings g.wishes old new r
    → RunsHead journal head old new r
told_by journal head g old new r h p = inl (subst (λ (q : Result Given SettingsFault). RunsBy journal head q old new r) (sym h) p)

-- A head that was read.

behind_head : (journal : Bool) (xs head : List ℕ) (lines : List (List ℕ)) (old new : Option (List ℕ)) (r : Result ℕ ServeFault) → JournalsAreSound → VerdictsAreExact
    → head_of (pieces xs) ≡ Ok (head, lines) → RunsHead journal head old new r → ServesRun (command.Run journal) (Some xs) old new r
behind_head journal xs head lines old new r are_sound are_exact h (inl p) =
    inl (subst (λ (q : Result (List ℕ × List (List ℕ)) SettingsFault). TellsBehind journal q old new r) (sym h)
    (tells_by journal xs head lines (settings_of (command.Run journal) head) old new r are_sound are_exact h refl p))
behind_head journal xs head lines old new r are_sound are_exact h (inr p) = inr p

pub serves : (journal : Bool) (input left old new : Option (List ℕ)) (head text : List ℕ) (a : Unit {0}) (r : Result ℕ ServeFault) → JournalsAreSound → VerdictsAreExact
    → FindsHead input left head (Ok a) → text ≡ head → RunsHead journal text old new r → ServesRun (command.Run journal) input old new r
serves journal None left old new head text a r are_sound are_exact h same p = tt
serves journal (Some xs) None old new head text a r are_sound are_exact h same p = absurd h
serves journal (Some xs) (Some ys) old new head text a r are_sound are_exact h same p =
    behind_head journal xs head (lines_in (pieces ys)) old new r are_sound are_exact h (subst (λ (t : List ℕ). RunsHead journal t old new r) same p)

-- Settings that are refused, or a head that isn't there.

pub settings_refused : (journal : Bool) (head : List ℕ) (e : SettingsFault) (old new : Option (List ℕ)) (r : Result ℕ ServeFault) → Refuses e (settings_of (command.Run journal) head) → Prints (refusal_output e) old new r
    → RunsHead journal head old new r
settings_refused journal head settings.NoEnd old new r h p = inl (subst (λ (q : Result Given SettingsFault). RunsBy journal head q old new r) (sym h) p)
settings_refused journal head settings.NoDocument old new r h p = inl (subst (λ (q : Result Given SettingsFault). RunsBy journal head q old new r) (sym h) p)
settings_refused journal head settings.UnknownKey old new r h p = inl (subst (λ (q : Result Given SettingsFault). RunsBy journal head q old new r) (sym h) p)
settings_refused journal head settings.Value old new r h p = inl (subst (λ (q : Result Given SettingsFault). RunsBy journal head q old new r) (sym h) p)
settings_refused journal head (settings.Ballot f) old new r h p = inl (subst (λ (q : Result Given SettingsFault). RunsBy journal head q old new r) (sym h) p)
settings_refused journal head (settings.Weather f) old new r h p = inl (subst (λ (q : Result Given SettingsFault). RunsBy journal head q old new r) (sym h) p)
settings_refused journal head (settings.Wish f) old new r h p = inl (subst (λ (q : Result Given SettingsFault). RunsBy journal head q old new r) (sym h) p)
settings_refused journal head settings.Memory old new r h p = inr p

head_refused : (journal : Bool) (xs : List ℕ) (e : SettingsFault) (old new : Option (List ℕ)) (r : Result ℕ ServeFault) → Refuses e (head_of (pieces xs)) → Prints (refusal_output e) old new r
    → ServesRun (command.Run journal) (Some xs) old new r
head_refused journal xs settings.NoEnd old new r h p = inl (subst (λ (q : Result (List ℕ × List (List ℕ)) SettingsFault). TellsBehind journal q old new r) (sym h) (inl p))
head_refused journal xs settings.NoDocument old new r h p = inl (subst (λ (q : Result (List ℕ × List (List ℕ)) SettingsFault). TellsBehind journal q old new r) (sym h) (inl p))
head_refused journal xs settings.UnknownKey old new r h p = inl (subst (λ (q : Result (List ℕ × List (List ℕ)) SettingsFault). TellsBehind journal q old new r) (sym h) (inl p))
head_refused journal xs settings.Value old new r h p = inl (subst (λ (q : Result (List ℕ × List (List ℕ)) SettingsFault). TellsBehind journal q old new r) (sym h) (inl p))
head_refused journal xs (settings.Ballot f) old new r h p = inl (subst (λ (q : Result (List ℕ × List (List ℕ)) SettingsFault). TellsBehind journal q old new r) (sym h) (inl p))
head_refused journal xs (settings.Weather f) old new r h p = inl (subst (λ (q : Result (List ℕ × List (List ℕ)) SettingsFault). TellsBehind journal q old new r) (sym h) (inl p))
head_refused journal xs (settings.Wish f) old new r h p = inl (subst (λ (q : Result (List ℕ × List (List ℕ)) SettingsFault). TellsBehind journal q old new r) (sym h) (inl p))
head_refused journal xs settings.Memory old new r h p = inr p

-- Nothing is told after a failed read, and where the run didn't come to its end.

nothing_by : (journal : Bool) (head : List ℕ) (given : Result Given SettingsFault) (old : Option (List ℕ)) → TellsBy journal head given old old (Err fault.Read)
nothing_by journal head (Ok g) old = inl (Keeps-refl old)
nothing_by journal head (Err e) old = inr (refl, refl)

nothing_behind : (journal : Bool) (q : Result (List ℕ × List (List ℕ)) SettingsFault) (old : Option (List ℕ)) → TellsBehind journal q old old (Err fault.Read)
nothing_behind journal (Ok parts) old = nothing_by journal parts.0 (settings_of (command.Run journal) parts.0) old
nothing_behind journal (Err e) old = inr (refl, refl)

read_failed : (journal : Bool) (xs : List ℕ) (old new : Option (List ℕ)) (r : Result ℕ ServeFault) → r ≡ Err fault.Read → new ≡ old → ServesRun (command.Run journal) (Some xs) old new r
read_failed journal xs old new r e same =
    subst (λ (q : Result ℕ ServeFault). ServesRun (command.Run journal) (Some xs) old new q) (sym e)
    (subst (λ (n : Option (List ℕ)). ServesRun (command.Run journal) (Some xs) old n (Err fault.Read)) (sym same) (inl (nothing_behind journal (head_of (pieces xs)) old)))

pub not_started : (journal : Bool) (input left old new : Option (List ℕ)) (head : List ℕ) (f : StartFault) (r : Result ℕ ServeFault) → FindsHead {A = Unit {0}} input left head (Err f) → RefusesStart (command.Run journal) f old new r
    → ServesRun (command.Run journal) input old new r
not_started journal None left old new head f r h p = tt
not_started journal (Some xs) left old new head start.Read r h p = read_failed journal xs old new r p.0 p.1
not_started journal (Some xs) left old new head (start.Settings e) r h p = head_refused journal xs e old new r h p
