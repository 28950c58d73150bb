-- The journal of a history is sound.
use Rattle.std.proofs.Common.{◌≡◌, ℕ, ◌+◌, ◌-◌, ◌≤◌, List, [], ◌∷◌, length, map, Some, Result, Ok, Err, refl, sym, ap, subst, ◌∙◌, arith, length-append}
use Rattle.lock_messages.specs.declared.messages.Message.{Message}
use Rattle.lock_messages.specs.declared.tickets.Mode.{Mode}
use Rattle.world_model.specs.declared.TheConstants.{MAX_MESSAGES}
use Rattle.world_model.specs.declared.events.Effect.{Effect}
use Rattle.world_model.specs.declared.events.Event.{Event}
use Rattle.world_model.specs.declared.events.Event.TheVariants as event
use Rattle.world_model.specs.declared.exact.ExactWorld.{ExactWorld}
use Rattle.world_model.specs.ExactWorlds.{numbered, one_more, ran_on, ran}
use Rattle.world_model.specs.Forgetting.{IsSound}
use Rattle.world_model.specs.Laws.{Takes, ExactStepsAreAllowed, StepsKeepSound}
use Rattle.world_model.specs.Locality.{IsHistory, EffectsAreOfTheirEvents, MessagesAreAsListed}
use Rattle.world_model.specs.Parts.{message_of}
use Rattle.world_model.specs.StepsOf.{took}
use Rattle.world_model.specs.Worlds.{Client, Setting, Begins, begins}
use Rattle.world_model.specs.Numbered.{numbered-one}
use Rattle.event_lines.specs.Lines.{IsPlace}
use Rattle.event_lines.specs.Events.{event_text, IsEventInRange, AreJournal}
use Rattle.journal_text.specs.Journals.{history_text, IsWellNamed, AreWellNamed, HasFewBallots, IsRecorded}
use Rattle.journal_audit.specs.declared.faults.AuditFault.{AuditFault}
use Rattle.journal_audit.specs.declared.faults.AuditFault.TheVariants as fault
use Rattle.journal_audit.specs.declared.verdicts.TheConstants.{MAX_LINES}
use Rattle.journal_audit.specs.declared.verdicts.Verdict.{Verdict}
use Rattle.journal_audit.specs.declared.verdicts.Verdict.TheVariants.{Sound}
use Rattle.journal_audit.specs.Verdicts.{IsVerdict, IsTooLong, Finds, VerdictsAreExact, text_lines}
use Rattle.journal_laws.specs.Laws.{LinesAreTheEvents, JournalsAreSound, JournalsAreFoundSound, Answers}
use Rattle.journal_laws.proofs.PlainTexts.{AreInRange, lines_of}

number_in_range : (w : ExactWorld) (k : ℕ) (m : Message) (done : Effect) → IsSound w → message_of done ≡ Some m → message_of done ≡ numbered w.sent k → (1 ≤ k) × (k ≤ MAX_MESSAGES)
number_in_range w k m done sound e listed =
    let within = numbered-one w.sent k m (sym listed ∙ e) in
    (within.0, omega (arith, within.1, sound.room))

-- an attempt begins by a ballot of the world's list
place_in_range : (w : ExactWorld) (c : ℕ) (m : Mode) (x : List ℕ) (place : ℕ) (before after : Client) → HasFewBallots w → Begins w.ballots c m x place before after → IsPlace place
place_in_range w c m x place before after few (begins kept tried more there) = (there.0, omega (arith, there.1, few))

-- What is used of the world: its steps are allowed and keep it sound, and their effects and messages are what
-- they have to be.
pub record WorldLaws : Type 0 where
  pub allowed : ExactStepsAreAllowed
  pub keep : StepsKeepSound
  pub kinds : EffectsAreOfTheirEvents
  pub listed : MessagesAreAsListed

-- an event that was taken has its line
in_range : WorldLaws → (w u : ExactWorld) (e : Event) (done : Effect) → IsSound w → HasFewBallots w → Takes w e done u → IsWellNamed e → IsEventInRange e
in_range laws w u (event.Begin c m x place) done sound few t h =
    let (before, after, does, of) = (laws.allowed w u (event.Begin c m x place) done sound t).0 in
    (h.0, (tt, (h.1, (place_in_range w c m x place before after few does, tt))))
in_range laws w u (event.Try who) done sound few t h = (h, tt)
in_range laws w u (event.Kept who) done sound few t h = (h, tt)
in_range laws w u (event.SayTo c n) done sound few t h = (h.0, (h.1, tt))
in_range laws w u (event.Say n) done sound few t h = (h, tt)
in_range laws w u (event.Take n k) done sound few t h =
    let (m, changed, mine, same) = laws.kinds w u (event.Take n k) done t in
    (h, (number_in_range w k m done sound (ap message_of same) (laws.listed w u (event.Take n k) done t), tt))
in_range laws w u (event.Hear c k) done sound few t h =
    let (m, heard, mine, same) = laws.kinds w u (event.Hear c k) done t in
    (h, (number_in_range w k m done sound (ap message_of same) (laws.listed w u (event.Hear c k) done t), tt))
in_range laws w u (event.Enter c) done sound few t h = (h, tt)
in_range laws w u (event.Leave c) done sound few t h = (h, tt)
in_range laws w u (event.Soften c) done sound few t h = (h, tt)
in_range laws w u (event.Fall who) done sound few t h = (h, tt)
in_range laws w u (event.Rise who age) done sound few t h = (h, (tt, tt))
in_range laws w u (event.Switch n p) done sound few t h = (h, (tt, tt))

-- a step leaves the ballots as they are
few_stay : WorldLaws → (w u : ExactWorld) (e : Event) (done : Effect) → IsSound w → HasFewBallots w → Takes w e done u → HasFewBallots u
few_stay laws w u e done sound few t =
    let same : length u.ballots ≡ length w.ballots = ap (λ (s : Setting). length s.ballots) (laws.allowed w u e done sound t).1 in
    omega (arith, same, few)

all_in_range : WorldLaws → (w v : ExactWorld) (history : List (Event × Effect)) → IsSound w → HasFewBallots w → IsHistory w history v → AreWellNamed history → AreInRange history
all_in_range laws w v [] sound few run named = tt
all_in_range laws w v (p ∷ history) sound few run named =
    let (u, t, more) = run in
    (in_range laws w u p.0 p.1 sound few t named.0, all_in_range laws u v history (laws.keep w u p.0 p.1 sound t) (few_stay laws w u p.0 p.1 sound few t) more named.1)

-- the events of a history that can be read back
recorded_in_range : WorldLaws → (w v : ExactWorld) (history : List (Event × Effect)) → IsRecorded w history v → AreInRange history
recorded_in_range laws w v history is = all_in_range laws w v history is.opening is.few_ballots is.run is.named

-- the lines are a journal of a run

abbrev events_of : List (Event × Effect) → List Event
events_of history = map (λ p. p.0) history

abbrev texts_of : List (Event × Effect) → List (List ℕ)
texts_of history = map (λ p. event_text p.0) history

journal : (history : List (Event × Effect)) → AreInRange history → AreJournal (texts_of history) (events_of history)
journal [] h = tt
journal (p ∷ history) h = ((refl, h.0), journal history h.1)

runs : (w v : ExactWorld) (history : List (Event × Effect)) → IsHistory w history v → ran (events_of history) w ≡ took (length (events_of history)) v
runs w v [] h = ap (λ x. took 0 x) (sym h)
runs w v (p ∷ history) h =
    let (u, t, more) = h in
    let es = events_of history in
    let long : length es + 1 ≡ length (p.0 ∷ es) = omega arith in
    ap (λ q. ran_on w q (λ x. ran es x)) t ∙ ap one_more (runs u v history more) ∙ ap (λ n. took n v) long

texts_count : (history : List (Event × Effect)) → length history ≡ length (texts_of history)
texts_count [] = refl
texts_count (p ∷ history) = let more = texts_count history in omega (arith, more)

pub lines_are_events : WorldLaws → LinesAreTheEvents
lines_are_events laws w v history is = lines_of history (recorded_in_range laws w v history is)

pub journals_sound : WorldLaws → JournalsAreSound
journals_sound laws w v history is =
    let ranges = recorded_in_range laws w v history is in
    subst (λ (ls : List (List ℕ)). IsVerdict w ls (Sound (length history))) (sym (lines_of history ranges))
    (texts_count history, (v, (events_of history, journal history ranges, runs w v history is.run)))

too_long : (w : ExactWorld) (lines : List (List ℕ)) → length lines ≤ MAX_LINES → IsTooLong w lines → ⊥
too_long w lines few h =
    let (before, l, behind, v, cut, long, leads) = h in
    let all : length lines ≡ length before + length (l ∷ behind) = ap length cut ∙ length-append before (l ∷ behind) in
    let more : 1 ≤ length (l ∷ behind) = omega arith in
    omega (arith, all, long, few, more)

pub journals_found : WorldLaws → VerdictsAreExact → JournalsAreFoundSound
journals_found laws exact w v history is few found h = go found h
  where
    lines : List (List ℕ)
    lines = text_lines (history_text history)

    right : IsVerdict w lines (Sound (length history))
    right = journals_sound laws w v history is

    short : length lines ≤ MAX_LINES
    short = omega (arith, few, right.0)

    go : (r : Result Verdict AuditFault) → Finds w (Some (history_text history)) r → Answers (Sound (length history)) r
    go (Ok verdict) f = sym ((exact w lines verdict).1 f.0) ∙ (exact w lines (Sound (length history))).1 right
    go (Err fault.Read) f = tt
    go (Err fault.Write) f = tt
    go (Err fault.Memory) f = tt
    go (Err fault.TooManyLines) f = too_long w lines short f
