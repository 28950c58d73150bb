-- What rising makes of a client's part.
use Rattle.std.proofs.Common.{◌≡◌, ◌↔◌, ℕ, Bool, ◌+◌, ◌≤◌, List, refl, ap, ◌∙◌, arith, Some, None, Result, Ok}
use Rattle.lock_messages.specs.declared.ids.Actor.TheVariants as actor
use Rattle.lock_messages.specs.declared.ids.TheConstants.{MAX_ATTEMPT}
use Rattle.lock_model.specs.Ballots.{Ballot}
use Rattle.stable_record.specs.declared.faults.RecordFault.{RecordFault}
use Rattle.stable_record.specs.Records.{client_record_of}
use Rattle.client_core.specs.Clients.{Client}
use Rattle.client_core.specs.Calls.{at_rest}
use Rattle.world_model.specs.declared.events.Age.{Age}
use Rattle.world_model.specs.declared.events.Age.TheVariants.{Old, New}
use Rattle.world_model.specs.declared.events.Effect.TheVariants as effect
use Rattle.world_model.specs.declared.events.Event.TheVariants as event
use Rattle.world_model.specs.declared.exact.ExactClientPhase.TheVariants as client
use Rattle.world_model.specs.Parts.{Part, NoPart, NodePart, ClientPart, after_own}
use Rattle.event_recorders.specs.OwnLogs.{OwnLog, IsAdded, IsDownAtRest, IsUnused, part_now, kept_in}
use Rattle.actor_steps.specs.Steps.{HasFound, IsRisenAgain}
use Rattle.client_loop.specs.Standing.{part_of, Stands, HasTried, KeepsAttempt}

-- what was read is the one attempt of which the bytes are the record
abbrev Reads : List ℕ → ℕ → Type 0
Reads bytes attempt = (a : ℕ) → a ≤ MAX_ATTEMPT → bytes ≡ client_record_of a → attempt ≡ a

reads : (bytes slice : List ℕ) (read : Result ℕ RecordFault) (attempt : ℕ) → slice ≡ bytes → read ≡ Ok attempt →
    ((a : ℕ) → a ≤ MAX_ATTEMPT → slice ≡ client_record_of a → read ≡ Ok a) → Reads bytes attempt
reads bytes slice read attempt same is only a range spelled = let r = only a range (same ∙ spelled) in cc

fallen-part : (l : OwnLog) (finds : List (List ℕ)) (c : Client) (who : ℕ) (h : HasTried l finds c) →
    after_own l.ballots (event.Fall (actor.Client who)) effect.Down (part_now l)
    ≡ ClientPart (record { kept = h.before; tried = Some c.attempt; phase = client.Down })
fallen-part l finds c who h = rw h.part refl

-- the attempt with which a client of this age rises
abbrev risen_attempt : Age → ℕ → ℕ → ℕ
risen_attempt Old before tried = before
risen_attempt New before tried = tried

risen-in : (b : List Ballot) (who : ℕ) (age : Age) (before tried : ℕ) →
    after_own b (event.Rise (actor.Client who) age) effect.Up (ClientPart (record { kept = before; tried = Some tried; phase = client.Down }))
    ≡ ClientPart (record { kept = risen_attempt age before tried; tried = None; phase = client.Idle })
risen-in b who Old before tried = refl
risen-in b who New before tried = refl

risen-part : (l l' : OwnLog) (finds : List (List ℕ)) (c : Client) (who : ℕ) (age : Age) (h : HasTried l finds c) → IsRisenAgain l (actor.Client who) age l' →
    part_now l' ≡ ClientPart (record { kept = risen_attempt age h.before c.attempt; tried = None; phase = client.Idle })
risen-part l l' finds c who age h risen =
    let at_fall = risen.fallen.part ∙ fallen-part l finds c who h in
    risen.risen.part ∙ (rw at_fall (risen-in l.ballots who age h.before c.attempt))

risen-range : (age : Age) (before tried : ℕ) → tried ≡ before + 1 → tried ≤ MAX_ATTEMPT → risen_attempt age before tried ≤ MAX_ATTEMPT
risen-range Old before tried e h = omega arith
risen-range New before tried e h = h

rests-after : (l l' : OwnLog) (finds finds' : List (List ℕ)) (bytes : List ℕ) (stuck : Bool) (c : Client) (who : ℕ) (age : Age) (attempt : ℕ) → c.attempt ≤ MAX_ATTEMPT →
    HasTried l finds c → IsRisenAgain l (actor.Client who) age l' → HasFound bytes l' finds' stuck → Reads bytes attempt → Stands l' finds' (at_rest c.client c.ballots attempt)
rests-after l l' finds finds' bytes stuck c who age attempt range h risen found only =
    let part = risen-part l l' finds c who age h risen in
    let bytes_are : bytes ≡ client_record_of (risen_attempt age h.before c.attempt) = found.kept ∙ ap (λ (p : Part). kept_in p) part in
    let same : attempt ≡ risen_attempt age h.before c.attempt = only _ (risen-range age h.before c.attempt h.next range) bytes_are in
    let at_core : part_now l' ≡ ClientPart (part_of (at_rest c.client c.ballots attempt)) = rw same part in
    record {
      actor = rw risen.risen.log h.actor;
      ballots = rw risen.risen.log h.ballots;
      part = at_core;
      found = rw at_core at found.finds;
    }

-- a client that rose again rests after the attempt that its record has
pub rises-again : (l l' : OwnLog) (finds finds' : List (List ℕ)) (bytes tried slice : List ℕ) (stuck : Bool) (c : Client) (who : ℕ) (read : Result ℕ RecordFault) (attempt : ℕ) →
    c.attempt ≤ MAX_ATTEMPT → HasTried l finds c → ((age : Age) × IsRisenAgain l (actor.Client who) age l' × ((age ≡ New) ↔ (bytes ≡ tried))) → HasFound bytes l' finds' stuck →
    slice ≡ bytes → read ≡ Ok attempt → ((a : ℕ) → a ≤ MAX_ATTEMPT → slice ≡ client_record_of a → read ≡ Ok a) → Stands l' finds' (at_rest c.client c.ballots attempt)
rises-again l l' finds finds' bytes tried slice stuck c who read attempt range h (age, risen, new) found same is only =
    rests-after l l' finds finds' bytes stuck c who age attempt range h risen found (reads bytes slice read attempt same is only)

-- what is found after a fall is the record of an attempt
pub reads-again : (l l' : OwnLog) (finds finds' : List (List ℕ)) (bytes tried slice : List ℕ) (stuck : Bool) (c : Client) (who : ℕ) (read : Result ℕ RecordFault) → c.attempt ≤ MAX_ATTEMPT → HasTried l finds c →
    ((age : Age) × IsRisenAgain l (actor.Client who) age l' × ((age ≡ New) ↔ (bytes ≡ tried))) → HasFound bytes l' finds' stuck → slice ≡ bytes →
    ((a : ℕ) → a ≤ MAX_ATTEMPT → slice ≡ client_record_of a → read ≡ Ok a) → (a : ℕ) × (read ≡ Ok a)
reads-again l l' finds finds' bytes tried slice stuck c who read range h (age, risen, new) found same only =
    let part = risen-part l l' finds c who age h risen in
    let bytes_are : bytes ≡ client_record_of (risen_attempt age h.before c.attempt) = found.kept ∙ ap (λ (p : Part). kept_in p) part in
    (risen_attempt age h.before c.attempt, only _ (risen-range age h.before c.attempt h.next range) (same ∙ bytes_are))

-- what a first rising makes of a part
record FirstRisen (b : List Ballot) (who : ℕ) (p : Part) : Type 0 where
  attempt : ℕ
  range : attempt ≤ MAX_ATTEMPT
  part : after_own b (event.Rise (actor.Client who) Old) effect.Up p ≡ ClientPart (record { kept = attempt; tried = None; phase = client.Idle })

first-risen : (b : List Ballot) (who : ℕ) (p : Part) → IsDownAtRest (actor.Client who) p → KeepsAttempt p → FirstRisen b who p
first-risen b who NoPart down kept = absurd down
first-risen b who (NodePart v) down kept = absurd down
first-risen b who (ClientPart k) down kept = record { attempt = k.kept; range = kept; part = rw down.0 refl }

rests-first : (l l' : OwnLog) (finds' : List (List ℕ)) (bytes : List ℕ) (stuck : Bool) (who : ℕ) (b : List Ballot) (attempt : ℕ) → IsUnused l (actor.Client who) → l.ballots ≡ b →
    KeepsAttempt l.opening → IsAdded l (event.Rise (actor.Client who) Old) effect.Up l' → HasFound bytes l' finds' stuck → Reads bytes attempt → Stands l' finds' (at_rest who b attempt)
rests-first l l' finds' bytes stuck who b attempt unused ballot kept added found only =
    let risen = first-risen l.ballots who l.opening unused.down kept in
    let opening : part_now l ≡ l.opening = rw unused.events refl in
    let part : part_now l' ≡ ClientPart (record { kept = risen.attempt; tried = None; phase = client.Idle }) = added.part ∙ (rw opening risen.part) in
    let bytes_are : bytes ≡ client_record_of risen.attempt = found.kept ∙ ap (λ (p : Part). kept_in p) part in
    let same : attempt ≡ risen.attempt = only _ risen.range bytes_are in
    let at_core : part_now l' ≡ ClientPart (part_of (at_rest who b attempt)) = rw same part in
    record {
      actor = rw added.log unused.actor;
      ballots = rw added.log ballot;
      part = at_core;
      found = rw at_core at found.finds;
    }

-- a client that rises first rests after the attempt that its record has
pub rises-first : (l l' : OwnLog) (finds' : List (List ℕ)) (bytes slice : List ℕ) (stuck : Bool) (who : ℕ) (b : List Ballot) (read : Result ℕ RecordFault) (attempt : ℕ) →
    IsUnused l (actor.Client who) → l.ballots ≡ b → KeepsAttempt l.opening → IsAdded l (event.Rise (actor.Client who) Old) effect.Up l' → HasFound bytes l' finds' stuck →
    slice ≡ bytes → read ≡ Ok attempt → ((a : ℕ) → a ≤ MAX_ATTEMPT → slice ≡ client_record_of a → read ≡ Ok a) → Stands l' finds' (at_rest who b attempt)
rises-first l l' finds' bytes slice stuck who b read attempt unused ballot kept added found same is only =
    rests-first l l' finds' bytes stuck who b attempt unused ballot kept added found (reads bytes slice read attempt same is only)
