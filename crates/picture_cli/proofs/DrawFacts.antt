-- What is found of an input, and what is told of it.
use Rattle.std.proofs.Common.{◌≡◌, ◌⊎◌, inl, inr, ℕ, ◌+◌, List, [], ◌∷◌, ◌++◌, map, Option, Some, None, Result, Ok, Err, refl, sym, ap, subst, ◌∙◌, append_assoc, arith}
use Rattle.std.specs.Prelude.{IsErrOf}
use Rattle.std.specs.List.{range_with_len}
use Rattle.std.proofs.lemmas.List.FromFn.{map-range_with_len_more}
use Rattle.lock_model.specs.Ballots.{node_count}
use Rattle.world_model.specs.declared.exact.ExactWorld.{ExactWorld}
use Rattle.event_lines.specs.Laws.{EventsAreSpelledOnce}
use Rattle.line_streams.specs.Streams.{pieces, lines_in}
use Rattle.journal_audit.specs.declared.faults.AuditFault.{AuditFault}
use Rattle.journal_audit.specs.declared.faults.AuditFault.TheVariants as audit
use Rattle.journal_audit.specs.declared.verdicts.Verdict.{Verdict}
use Rattle.journal_audit.specs.declared.verdicts.Verdict.TheVariants.{Sound, Unsound}
use Rattle.journal_audit.specs.Verdicts.{text_lines, reaches}
use Rattle.journal_audit.specs.Audits.{found_in, IsFound}
use Rattle.journal_audit.proofs.AuditFacts.{verdict_found, length_found}
use Rattle.operator_cli.specs.declared.faults.ServeFault.{ServeFault}
use Rattle.operator_cli.specs.declared.faults.ServeFault.TheVariants as serving
use Rattle.world_settings.specs.declared.faults.SettingsFault.{SettingsFault}
use Rattle.world_settings.specs.declared.faults.SettingsFault.TheVariants as settings
use Rattle.world_settings.specs.declared.commands.Command.TheVariants as command
use Rattle.world_settings.specs.declared.settings.Start.{Start}
use Rattle.world_settings.specs.Openings.{all_down}
use Rattle.operator_cli.specs.Outputs.{output_of, command_output, verdict_output}
use Rattle.world_settings.specs.Heads.{opened, Starts}
use Rattle.world_settings.specs.Settings.{Given, Refuses, given}
use Rattle.operator_cli.proofs.ServeFacts.{is_verdict}
use Rattle.run_picture.specs.declared.marks.Lasting.{Lasting}
use Rattle.run_picture.specs.declared.marks.Part.{Part}
use Rattle.run_picture.specs.declared.marks.Place.{Place}
use Rattle.run_picture.specs.Pictures.{drawn_behind, end_place, opened as opened_drawer}
use Rattle.journal_picture.specs.declared.ending.Drawing.{Drawing}
use Rattle.journal_picture.specs.Drawings.{DrawsJournal, all_marks}
use Rattle.journal_picture.specs.Histories.{history_of}
use Rattle.journal_picture.specs.Strokes.{Stroke, with_strokes}
use Rattle.journal_picture.specs.Strokes as stroke
use Rattle.picture_cli.specs.declared.serving.Shown.{Shown}
use Rattle.picture_cli.specs.declared.serving.Shown.TheVariants as shown
use Rattle.picture_cli.specs.Drawing.{IsFoundBehind, HasRightSettings, ShowsOpened, ShowsInput, KeepsRefused, FindsBehind, DrawsBehind, DrawsOpened, DrawsPart, TellsAsAnAudit, down_at_first, picture_behind, told_verdict, told_shown, unless_sound}

-- the world is that of the settings
behind_so : (s : Start) (ys : List ℕ) (w : ExactWorld) (opening : Result (Given × List (List ℕ)) SettingsFault) (r : Result Verdict AuditFault) → opening ≡ Ok (given s, lines_in (pieces ys)) → w ≡ all_down s.settings → IsFound w (Some ys) r → IsFoundBehind opening r
behind_so s ys w opening r o e h =
    subst (λ (q : Result (Given × List (List ℕ)) SettingsFault). IsFoundBehind q r) (sym o) (subst (λ (v : ExactWorld). found_in v (text_lines ys) ≡ r) e h)

pub verdict_shown : EventsAreSpelledOnce → (s : Start) (w : ExactWorld) (input left : Option (List ℕ)) (v : Verdict) → Starts command.Audit input left (Ok s) → w ≡ all_down s.settings → FindsBehind w left (Ok v) → ShowsInput input (Ok (shown.Drawn v))
verdict_shown spelled s w None left v h e f = tt
verdict_shown spelled s w (Some xs) None v h e f = absurd h
verdict_shown spelled s w (Some xs) (Some ys) v h e f = behind_so s ys w (opened command.Audit xs) (Ok v) h e (verdict_found spelled w (Some ys) v f)

right_so : (s : Start) (ys : List ℕ) (opening : Result (Given × List (List ℕ)) SettingsFault) → opening ≡ Ok (given s, lines_in (pieces ys)) → HasRightSettings opening
right_so s ys opening o = subst HasRightSettings (sym o) tt

-- no memory for a world, whose settings are read
pub unmade_shown : (s : Start) (input left : Option (List ℕ)) → Starts command.Audit input left (Ok s) → ShowsInput input (Err serving.Memory)
unmade_shown s None left h = tt
unmade_shown s (Some xs) None h = absurd h
unmade_shown s (Some xs) (Some ys) h = right_so s ys (opened command.Audit xs) h

pub fault_shown : EventsAreSpelledOnce → (s : Start) (w : ExactWorld) (input left : Option (List ℕ)) (f : ServeFault) → Starts command.Audit input left (Ok s) → w ≡ all_down s.settings → FindsBehind w left (Err f) → ShowsInput input (Err f)
fault_shown spelled s w None left f h e k = tt
fault_shown spelled s w (Some xs) None f h e k = absurd h
fault_shown spelled s w (Some xs) (Some ys) serving.Read h e k = tt
fault_shown spelled s w (Some xs) (Some ys) serving.Write h e k = absurd k
fault_shown spelled s w (Some xs) (Some ys) serving.Memory h e k = right_so s ys (opened command.Audit xs) h
fault_shown spelled s w (Some xs) (Some ys) (serving.Audit audit.Read) h e k = right_so s ys (opened command.Audit xs) h
fault_shown spelled s w (Some xs) (Some ys) (serving.Audit audit.Write) h e k = right_so s ys (opened command.Audit xs) h
fault_shown spelled s w (Some xs) (Some ys) (serving.Audit audit.Memory) h e k = right_so s ys (opened command.Audit xs) h
fault_shown spelled s w (Some xs) (Some ys) (serving.Audit audit.TooManyLines) h e k = behind_so s ys w (opened command.Audit xs) (Err audit.TooManyLines) h e (length_found spelled w (Some ys) k)

-- What stays as it is.

-- where a world isn't drawn for want of memory, no picture was begun
pub fault_kept : {A : Type 0} (w : ExactWorld) (left : Option (List ℕ)) (f : ServeFault) (old new : A) → FindsBehind w left (Err f) → (IsErrOf {T = Verdict} (Err f) serving.Memory → new ≡ old) → KeepsRefused (Err f) old new
fault_kept w left serving.Read old new h k = absurd h
fault_kept w left serving.Write old new h k = tt
fault_kept w left serving.Memory old new h k = k refl
fault_kept w left (serving.Audit e) old new h k = tt

-- then nothing was drawn
pub fault_drawn : (input : Option (List ℕ)) (p : Part) (f : ServeFault) (old new : Option (List Stroke)) → KeepsRefused (Err f) old new → DrawsPart input p old new (Err f)
fault_drawn input p serving.Read old new h = h
fault_drawn input p serving.Write old new h = tt
fault_drawn input p serving.Memory old new h = h
fault_drawn input p (serving.Audit e) old new h = tt

-- what is seen of it stays so too
pub seen_kept : {A B : Type 0} (see : A → B) (r : Result Shown ServeFault) (old new : A) → KeepsRefused r old new → KeepsRefused r (see old) (see new)
seen_kept see (Ok (shown.Drawn v)) old new h = tt
seen_kept see (Ok (shown.Refused e)) old new h = ap see h
seen_kept see (Err serving.Read) old new h = ap see h
seen_kept see (Err serving.Write) old new h = tt
seen_kept see (Err serving.Memory) old new h = ap see h
seen_kept see (Err (serving.Audit e)) old new h = tt

-- What is drawn.

-- one actor more is down
pub down_more : (f : ℕ → Lasting) (before number : ℕ) (first now new : List Lasting) → now ≡ first ++ map f (range_with_len 1 before) → number ≡ before + 1 → new ≡ now ++ f number ∷ []
    → new ≡ first ++ map f (range_with_len 1 (before + 1))
down_more f before number first now new h e g =
    let at : 1 + before ≡ number = omega (arith, e) in
    g ∙ ap (λ (xs : List Lasting). xs ++ f number ∷ []) h ∙ append_assoc first (map f (range_with_len 1 before)) (f number ∷ [])
    ∙ ap (λ (xs : List Lasting). first ++ xs) (sym (map-range_with_len_more f 1 before number at))

strokes_more : (xs ys : List Stroke) (o : Option (List Stroke)) → with_strokes ys (with_strokes xs o) ≡ with_strokes (xs ++ ys) o
strokes_more xs ys None = refl
strokes_more xs ys (Some zs) = ap Some (append_assoc zs xs ys)

-- a beginning, marks and an end are a picture
pub picture_drawn : (w : ExactWorld) (nodes clients : ℕ) (p : Part) (first what : List Lasting) (text : Option (List ℕ)) (old begun marked ended : Option (List Stroke)) (d : Drawing)
    → first ≡ down_at_first nodes clients → what ≡ first → begun ≡ with_strokes (stroke.Begun nodes clients p ∷ []) old → DrawsJournal w (opened_drawer p what) text begun marked (Ok d)
    → ended ≡ with_strokes (stroke.Ended d.end ∷ []) marked → DrawsBehind w nodes clients p text old ended (Ok d.verdict)
picture_drawn w nodes clients p first what None old begun marked ended d down same b m e = tt
picture_drawn w nodes clients p first what (Some xs) old begun marked ended d down same b m e =
    let all : DrawsJournal w (opened_drawer p (down_at_first nodes clients)) (Some xs) begun marked (Ok d) =
    subst (λ (ls : List Lasting). DrawsJournal w (opened_drawer p ls) (Some xs) begun marked (Ok d)) (same ∙ down) m in
    let drawer = opened_drawer p (down_at_first nodes clients) in
    let history = history_of w (text_lines xs) in
    let marks : List Stroke = map stroke.Marked (all_marks w drawer history d.verdict) in
    let end : List Stroke = stroke.Ended (end_place (drawn_behind drawer history) (reaches d.verdict)) ∷ [] in
    e ∙ ap (λ (at : Place). with_strokes (stroke.Ended at ∷ []) marked) all.1 ∙ ap (with_strokes end) (all.0 ∙ ap (with_strokes marks) b)
    ∙ strokes_more marks end (with_strokes (stroke.Begun nodes clients p ∷ []) old) ∙ strokes_more (stroke.Begun nodes clients p ∷ []) (marks ++ end) old

-- the picture is that of the input
pub picture_shown : (s : Start) (w : ExactWorld) (input left : Option (List ℕ)) (p : Part) (old new : Option (List Stroke)) (v : Verdict) → Starts command.Audit input left (Ok s) → w ≡ all_down s.settings
    → DrawsBehind w (node_count s.settings.ballots) s.settings.clients p left old new (Ok v) → DrawsPart input p old new (Ok (shown.Drawn v))
picture_shown s w None left p old new v h e d = tt
picture_shown s w (Some xs) None p old new v h e d = absurd h
picture_shown s w (Some xs) (Some ys) p old new v h e d =
    subst (λ (o : Result (Given × List (List ℕ)) SettingsFault). DrawsOpened o p old new v) (sym h)
    (d ∙ ap (λ (u : ExactWorld). with_strokes (picture_behind u (node_count s.settings.ballots) s.settings.clients p (text_lines ys) v) old) e)

-- What is told is what an audit prints.

told_alike : (v : Verdict) → told_verdict v ≡ unless_sound (verdict_output v)
told_alike (Sound n) = refl
told_alike (Unsound number c) = refl

refused_alike : (opening : Result (Given × List (List ℕ)) SettingsFault) (e : SettingsFault) → opening ≡ Err e → told_shown (shown.Refused e) ≡ unless_sound (command_output command.Audit opening)
refused_alike opening e h = sym (ap (λ (o : Result (Given × List (List ℕ)) SettingsFault). unless_sound (command_output command.Audit o)) h)

refused_told : (opening : Result (Given × List (List ℕ)) SettingsFault) (e : SettingsFault) → Refuses e opening → (told_shown (shown.Refused e) ≡ unless_sound (command_output command.Audit opening)) ⊎ (shown.Refused e ≡ shown.Refused settings.Memory)
refused_told opening settings.NoEnd h = inl (refused_alike opening settings.NoEnd h)
refused_told opening settings.NoDocument h = inl (refused_alike opening settings.NoDocument h)
refused_told opening settings.UnknownKey h = inl (refused_alike opening settings.UnknownKey h)
refused_told opening settings.Value h = inl (refused_alike opening settings.Value h)
refused_told opening (settings.Ballot f) h = inl (refused_alike opening (settings.Ballot f) h)
refused_told opening (settings.Weather f) h = inl (refused_alike opening (settings.Weather f) h)
refused_told opening (settings.Wish f) h = inl (refused_alike opening (settings.Wish f) h)
refused_told opening settings.Memory h = inr refl

verdict_told : (opening : Result (Given × List (List ℕ)) SettingsFault) (v : Verdict) → IsFoundBehind opening (Ok v) → told_verdict v ≡ unless_sound (command_output command.Audit opening)
verdict_told (Err e) v h = absurd h
verdict_told (Ok parts) v h = told_alike v ∙ ap (λ (u : Verdict). unless_sound (verdict_output u)) (sym (is_verdict (all_down parts.0.settings) parts.1 v h).0)

opened_told : (opening : Result (Given × List (List ℕ)) SettingsFault) (s : Shown) → ShowsOpened opening (Ok s) → (told_shown s ≡ unless_sound (command_output command.Audit opening)) ⊎ (s ≡ shown.Refused settings.Memory)
opened_told opening (shown.Drawn v) h = inl (verdict_told opening v h)
opened_told opening (shown.Refused e) h = refused_told opening e h

pub told_as_audited : TellsAsAnAudit
unfolding output_of
told_as_audited input s h = opened_told (opened command.Audit input) s h
