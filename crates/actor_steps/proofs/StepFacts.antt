-- What an actor's own part makes of a Try, a Kept, a Fall and a Rise.
use Rattle.std.proofs.Common.{◌≡◌, ◌⊎◌, ◌↔◌, ℕ, Bool, true, false, List, [], ◌∷◌, Option, Some, None, refl, sym, ◌∙◌, ap, subst, inl, inr}
use Rattle.std.proofs.lemmas.Bool.{eq-eqb}
use Rattle.lock_messages.specs.declared.ids.Actor.{Actor}
use Rattle.lock_messages.specs.declared.ids.Actor.TheVariants as actor
use Rattle.lock_model.specs.Ballots.{Ballot}
use Rattle.lock_model.specs.Decisions.{Among}
use Rattle.world_model.specs.declared.events.Age.{Age}
use Rattle.world_model.specs.declared.events.Age.TheVariants.{Old, New}
use Rattle.world_model.specs.declared.events.Effect.{Effect}
use Rattle.world_model.specs.declared.events.Effect.TheVariants as effect
use Rattle.world_model.specs.declared.events.Event.{Event}
use Rattle.world_model.specs.declared.events.Event.TheVariants as event
use Rattle.world_model.specs.declared.exact.ExactStation.{ExactStation}
use Rattle.world_model.specs.declared.exact.ExactNodePhase.{ExactNodePhase}
use Rattle.world_model.specs.declared.exact.ExactNodePhase.TheVariants as node
use Rattle.world_model.specs.declared.exact.ExactClientPhase.{ExactClientPhase}
use Rattle.world_model.specs.declared.exact.ExactClientPhase.TheVariants as client
use Rattle.world_model.specs.ExactWorlds.{actor_of}
use Rattle.world_model.specs.Parts.{place, is_own, Part, NoPart, NodePart, ClientPart, own_refusal, after_own}
use Rattle.event_recorders.specs.OwnLogs.{OwnLog, part_now, IsAdded, kept_in, tried_in, FindsKept, FindsPart, FindsAfter, IsUnused, IsDownAtRest}
use Rattle.actor_steps.specs.declared.keeping.Keeping.{Keeping}
use Rattle.actor_steps.specs.declared.keeping.Keeping.TheVariants as keeping
use Rattle.actor_steps.specs.Steps.{HasFound, HasFailedPut, IsPut, IsKept, IsRisenAgain, IsTrying, IsFallen, IsRising}

-- the events of an actor are its own

is-its : (who a : Actor) (e : Event) → who ≡ a → actor_of e ≡ a → is_own who e ≡ true
is-its who a e same its = eq-eqb (place (actor_of e)) (place who) (ap place (its ∙ sym same))

actor-of-try : (a : Actor) → actor_of (event.Try a) ≡ a
actor-of-try (actor.Node n) = refl
actor-of-try (actor.Client c) = refl

actor-of-kept : (a : Actor) → actor_of (event.Kept a) ≡ a
actor-of-kept (actor.Node n) = refl
actor-of-kept (actor.Client c) = refl

actor-of-fall : (a : Actor) → actor_of (event.Fall a) ≡ a
actor-of-fall (actor.Node n) = refl
actor-of-fall (actor.Client c) = refl

actor-of-rise : (a : Actor) (age : Age) → actor_of (event.Rise a age) ≡ a
actor-of-rise (actor.Node n) age = refl
actor-of-rise (actor.Client c) age = refl

pub try_own : (l : OwnLog) (who : Actor) → l.actor ≡ who → is_own l.actor (event.Try who) ≡ true
try_own l who e = is-its l.actor who (event.Try who) e (actor-of-try who)

pub fall_own : (l : OwnLog) (who : Actor) → l.actor ≡ who → is_own l.actor (event.Fall who) ≡ true
fall_own l who e = is-its l.actor who (event.Fall who) e (actor-of-fall who)

pub kept_own : (l : OwnLog) (who : Actor) (bytes : List ℕ) (strings : List (List ℕ)) → IsTrying l who bytes strings → is_own l.actor (event.Kept who) ≡ true
kept_own l who bytes strings is = is-its l.actor who (event.Kept who) is.actor (actor-of-kept who)

pub rise_own : (l : OwnLog) (who : Actor) (age : Age) (bytes : List ℕ) → IsRising l who age bytes → is_own l.actor (event.Rise who age) ≡ true
rise_own l who age bytes is = is-its l.actor who (event.Rise who age) is.actor (actor-of-rise who age)

-- what a record finds

just : (p : Part) (bytes : List ℕ) (strings : List (List ℕ)) → kept_in p ≡ bytes → tried_in p ≡ None → strings ≡ bytes ∷ [] → FindsPart p strings
just p bytes strings kept nothing found = subst (λ o. FindsKept (kept_in p) o strings) (sym nothing) (found ∙ ap (λ x. x ∷ []) (sym kept))

pub is_one : (kept found : List ℕ) → Among found (kept ∷ []) → found ≡ kept
is_one kept found (inl e) = e
is_one kept found (inr e) = absurd e

one-of-two : (kept tried : List ℕ) (strings : List (List ℕ)) → strings ≡ kept ∷ [] → FindsKept kept (Some tried) strings
one-of-two kept tried strings e = λ found is. inl (is_one kept found (subst (λ s. Among found s) e is))

pub tries_to : (p : Part) (bytes : List ℕ) (strings : List (List ℕ)) → tried_in p ≡ Some bytes → FindsKept (kept_in p) (Some bytes) strings → FindsPart p strings
tries_to p bytes strings tried finds = subst (λ o. FindsKept (kept_in p) o strings) (sym tried) finds

-- Try

record MayKeep (b : List Ballot) (who : Actor) (p : Part) : Type 0 where
  nothing : tried_in p ≡ None
  kept : kept_in (after_own b (event.Try who) effect.Tried p) ≡ kept_in p
  allowed : own_refusal b (event.Kept who) (after_own b (event.Try who) effect.Tried p) ≡ None

node-tries : (b : List Ballot) (n : ℕ) (kept : ExactStation) (tried : Option ExactStation) (phase : ExactNodePhase) →
    own_refusal b (event.Try (actor.Node n)) (NodePart (record { kept = kept; tried = tried; phase = phase })) ≡ None →
    MayKeep b (actor.Node n) (NodePart (record { kept = kept; tried = tried; phase = phase }))
node-tries b n kept tried node.Down h = absurd (cc h)
node-tries b n kept tried node.Idle h = absurd (cc h)
node-tries b n kept None (node.Decided s replies) h = record { nothing = refl; kept = refl; allowed = refl }
node-tries b n kept (Some t) (node.Decided s replies) h = absurd (cc h)
node-tries b n kept tried (node.Stored replies) h = absurd (cc h)

client-tries : (b : List Ballot) (c kept : ℕ) (tried : Option ℕ) (phase : ExactClientPhase) →
    own_refusal b (event.Try (actor.Client c)) (ClientPart (record { kept = kept; tried = tried; phase = phase })) ≡ None →
    MayKeep b (actor.Client c) (ClientPart (record { kept = kept; tried = tried; phase = phase }))
client-tries b c kept tried client.Down h = absurd (cc h)
client-tries b c kept tried client.Idle h = absurd (cc h)
client-tries b c kept None (client.Chosen t place) h = record { nothing = refl; kept = refl; allowed = refl }
client-tries b c kept (Some a) (client.Chosen t place) h = absurd (cc h)
client-tries b c kept tried (client.Asking p) h = absurd (cc h)
client-tries b c kept tried (client.Inside p) h = absurd (cc h)

may-keep : (b : List Ballot) (who : Actor) (p : Part) → own_refusal b (event.Try who) p ≡ None → MayKeep b who p
may-keep b (actor.Node n) NoPart h = absurd (cc h)
may-keep b (actor.Node n) (NodePart v) h = node-tries b n v.kept v.tried v.phase h
may-keep b (actor.Node n) (ClientPart k) h = absurd (cc h)
may-keep b (actor.Client c) NoPart h = absurd (cc h)
may-keep b (actor.Client c) (NodePart v) h = absurd (cc h)
may-keep b (actor.Client c) (ClientPart k) h = client-tries b c k.kept k.tried k.phase h

-- the record finds what is kept, as the actor begins to try
try-finds : (b : List Ballot) (who : Actor) (p : Part) (bytes : List ℕ) (strings : List (List ℕ)) → own_refusal b (event.Try who) p ≡ None → FindsPart p strings →
    FindsKept (kept_in (after_own b (event.Try who) effect.Tried p)) (Some bytes) strings
try-finds b who p bytes strings allowed finds =
    let may = may-keep b who p allowed in
    let just-kept : strings ≡ kept_in p ∷ [] = subst (λ o. FindsKept (kept_in p) o strings) may.nothing finds in
    one-of-two (kept_in (after_own b (event.Try who) effect.Tried p)) bytes strings (just-kept ∙ ap (λ x. x ∷ []) (sym may.kept))

pub try_found : (l : OwnLog) (who : Actor) (bytes : List ℕ) (strings : List (List ℕ)) → own_refusal l.ballots (event.Try who) (part_now l) ≡ None →
    tried_in (after_own l.ballots (event.Try who) effect.Tried (part_now l)) ≡ Some bytes → FindsPart (part_now l) strings → FindsAfter l (event.Try who) strings
try_found l who bytes strings allowed tried finds =
    λ done is. subst (λ d. FindsPart (after_own l.ballots (event.Try who) d (part_now l)) strings) (sym is)
    (tries_to (after_own l.ballots (event.Try who) effect.Tried (part_now l)) bytes strings tried (try-finds l.ballots who (part_now l) bytes strings allowed finds))

pub try_added : (l l' : OwnLog) (who : Actor) (done : Effect) → IsAdded l (event.Try who) done l' → IsAdded l (event.Try who) effect.Tried l'
try_added l l' who done is = subst (λ d. IsAdded l (event.Try who) d l') is.kind is

-- nothing of a log changes but its events
same-actor : (l l' : OwnLog) (e : Event) (done : Effect) → IsAdded l e done l' → l'.actor ≡ l.actor
same-actor l l' e done is = ap (λ (x : OwnLog). x.actor) is.log

same-ballot : (l l' : OwnLog) (e : Event) (done : Effect) → IsAdded l e done l' → l'.ballots ≡ l.ballots
same-ballot l l' e done is = ap (λ (x : OwnLog). x.ballots) is.log

pub trying : (l l' : OwnLog) (who : Actor) (done : Effect) (bytes : List ℕ) (strings : List (List ℕ)) → l.actor ≡ who → own_refusal l.ballots (event.Try who) (part_now l) ≡ None →
    tried_in (after_own l.ballots (event.Try who) effect.Tried (part_now l)) ≡ Some bytes → FindsPart (part_now l) strings → IsAdded l (event.Try who) done l' → IsTrying l' who bytes strings
trying l l' who done bytes strings own allowed tried finds is =
    let added = try_added l l' who done is in
    let may = may-keep l.ballots who (part_now l) allowed in
    let after : part_now l' ≡ after_own l.ballots (event.Try who) effect.Tried (part_now l) = added.part in
    record {
      actor = same-actor l l' (event.Try who) done is ∙ own;
      allowed = ap (λ b. own_refusal b (event.Kept who) (part_now l')) (same-ballot l l' (event.Try who) done is)
          ∙ ap (λ p. own_refusal l.ballots (event.Kept who) p) after ∙ may.allowed;
      tried = ap tried_in after ∙ tried;
      finds = subst (λ p. FindsKept (kept_in p) (Some bytes) strings) (sym after) (try-finds l.ballots who (part_now l) bytes strings allowed finds);
    }

-- Kept

record KeepsThen (b : List Ballot) (who : Actor) (p : Part) (bytes : List ℕ) : Type 0 where
  kept : kept_in (after_own b (event.Kept who) effect.Kept p) ≡ bytes
  nothing : tried_in (after_own b (event.Kept who) effect.Kept p) ≡ None

node-keeps : (b : List Ballot) (n : ℕ) (kept : ExactStation) (tried : Option ExactStation) (phase : ExactNodePhase) (bytes : List ℕ) →
    own_refusal b (event.Kept (actor.Node n)) (NodePart (record { kept = kept; tried = tried; phase = phase })) ≡ None →
    tried_in (NodePart (record { kept = kept; tried = tried; phase = phase })) ≡ Some bytes → KeepsThen b (actor.Node n) (NodePart (record { kept = kept; tried = tried; phase = phase })) bytes
node-keeps b n kept tried node.Down bytes h e = absurd (cc h)
node-keeps b n kept tried node.Idle bytes h e = absurd (cc h)
node-keeps b n kept None (node.Decided s replies) bytes h e = absurd (cc h)
node-keeps b n kept (Some t) (node.Decided s replies) bytes h e = record { kept = cc e; nothing = refl }
node-keeps b n kept tried (node.Stored replies) bytes h e = absurd (cc h)

client-keeps : (b : List Ballot) (c kept : ℕ) (tried : Option ℕ) (phase : ExactClientPhase) (bytes : List ℕ) →
    own_refusal b (event.Kept (actor.Client c)) (ClientPart (record { kept = kept; tried = tried; phase = phase })) ≡ None →
    tried_in (ClientPart (record { kept = kept; tried = tried; phase = phase })) ≡ Some bytes → KeepsThen b (actor.Client c) (ClientPart (record { kept = kept; tried = tried; phase = phase })) bytes
client-keeps b c kept tried client.Down bytes h e = absurd (cc h)
client-keeps b c kept tried client.Idle bytes h e = absurd (cc h)
client-keeps b c kept None (client.Chosen t place) bytes h e = absurd (cc h)
client-keeps b c kept (Some a) (client.Chosen t place) bytes h e = record { kept = cc e; nothing = refl }
client-keeps b c kept tried (client.Asking p) bytes h e = absurd (cc h)
client-keeps b c kept tried (client.Inside p) bytes h e = absurd (cc h)

keeps-then : (b : List Ballot) (who : Actor) (p : Part) (bytes : List ℕ) → own_refusal b (event.Kept who) p ≡ None → tried_in p ≡ Some bytes → KeepsThen b who p bytes
keeps-then b (actor.Node n) NoPart bytes h e = absurd (cc h)
keeps-then b (actor.Node n) (NodePart v) bytes h e = node-keeps b n v.kept v.tried v.phase bytes h e
keeps-then b (actor.Node n) (ClientPart k) bytes h e = absurd (cc h)
keeps-then b (actor.Client c) NoPart bytes h e = absurd (cc h)
keeps-then b (actor.Client c) (NodePart v) bytes h e = absurd (cc h)
keeps-then b (actor.Client c) (ClientPart k) bytes h e = client-keeps b c k.kept k.tried k.phase bytes h e

kept-finds : (l : OwnLog) (who : Actor) (bytes : List ℕ) (before strings : List (List ℕ)) → IsTrying l who bytes before → strings ≡ bytes ∷ [] →
    FindsPart (after_own l.ballots (event.Kept who) effect.Kept (part_now l)) strings
kept-finds l who bytes before strings is found =
    let then = keeps-then l.ballots who (part_now l) bytes is.allowed is.tried in
    just (after_own l.ballots (event.Kept who) effect.Kept (part_now l)) bytes strings then.kept then.nothing found

pub kept_found : (l : OwnLog) (who : Actor) (bytes : List ℕ) (before strings : List (List ℕ)) → IsTrying l who bytes before → strings ≡ bytes ∷ [] → FindsAfter l (event.Kept who) strings
kept_found l who bytes before strings is found =
    λ done e. subst (λ d. FindsPart (after_own l.ballots (event.Kept who) d (part_now l)) strings) (sym e) (kept-finds l who bytes before strings is found)

pub kept_added : (l l' : OwnLog) (who : Actor) (done : Effect) → IsAdded l (event.Kept who) done l' → IsAdded l (event.Kept who) effect.Kept l'
kept_added l l' who done is = subst (λ d. IsAdded l (event.Kept who) d l') is.kind is

pub kept_then : (l l' : OwnLog) (who : Actor) (done : Effect) (bytes : List ℕ) (before strings : List (List ℕ)) (stuck : Bool) → IsTrying l who bytes before → strings ≡ bytes ∷ [] → stuck ≡ false →
    IsAdded l (event.Kept who) done l' → HasFound bytes l' strings stuck
kept_then l l' who done bytes before strings stuck is found free added =
    let after : part_now l' ≡ after_own l.ballots (event.Kept who) effect.Kept (part_now l) = (kept_added l l' who done added).part in
    let then = keeps-then l.ballots who (part_now l) bytes is.allowed is.tried in
    record {
      kept = sym (ap kept_in after ∙ then.kept);
      found = found;
      free = free;
      finds = subst (λ p. FindsPart p strings) (sym after) (kept-finds l who bytes before strings is found);
    }

pub both_kept : (l m l' : OwnLog) (who : Actor) → IsAdded l (event.Try who) effect.Tried m → IsAdded m (event.Kept who) effect.Kept l' → IsKept l who l'
both_kept l m l' who one two = record {
  tried = subst (λ x. IsAdded l (event.Try who) effect.Tried x) one.log one;
  kept = subst (λ x. IsAdded x (event.Kept who) effect.Kept l') one.log two;
}

pub still_added : (l m l' : OwnLog) (e : Event) (done : Effect) → IsAdded l e done m → l' ≡ m → IsAdded l e done l'
still_added l m l' e done is same = subst (λ x. IsAdded l e done x) (sym same) is

-- the record failed as these bytes were tried
pub failed_finds : (l : OwnLog) (who : Actor) (bytes : List ℕ) (before strings : List (List ℕ)) (k : Keeping) (stuck : Bool) (count count' : ℕ) → IsTrying l who bytes before →
    IsPut k bytes before strings stuck count count' → k ≡ keeping.Failed → FindsPart (part_now l) strings
failed_finds l who bytes before strings k stuck count count' is put failed =
    let kept : HasFailedPut bytes before strings stuck count count' = subst (λ (x : Keeping). IsPut x bytes before strings stuck count count') failed put in
    tries_to (part_now l) bytes strings is.tried (λ found there. either found (kept.only found there))
  where
    either : (found : List ℕ) → Among found before ⊎ (found ≡ bytes) → (found ≡ kept_in (part_now l)) ⊎ (found ≡ bytes)
    either found (inl a) = is.finds found a
    either found (inr e) = inr e

-- Fall

record FallsTo (b : List Ballot) (who : Actor) (p q : Part) (bytes : List ℕ) : Type 0 where
  old : own_refusal b (event.Rise who Old) q ≡ None
  new : own_refusal b (event.Rise who New) q ≡ None
  kept : kept_in (after_own b (event.Rise who Old) effect.Up q) ≡ kept_in q
  tried : kept_in (after_own b (event.Rise who New) effect.Up q) ≡ bytes
  same : kept_in q ≡ kept_in p
  tries : tried_in q ≡ Some bytes

node-falls : (b : List Ballot) (n : ℕ) (kept : ExactStation) (tried : Option ExactStation) (phase : ExactNodePhase) (bytes : List ℕ) →
    own_refusal b (event.Fall (actor.Node n)) (NodePart (record { kept = kept; tried = tried; phase = phase })) ≡ None →
    tried_in (NodePart (record { kept = kept; tried = tried; phase = phase })) ≡ Some bytes →
    FallsTo b (actor.Node n) (NodePart (record { kept = kept; tried = tried; phase = phase })) (after_own b (event.Fall (actor.Node n)) effect.Down (NodePart (record { kept = kept; tried = tried; phase = phase }))) bytes
node-falls b n kept None phase bytes h e = absurd (cc e)
node-falls b n kept (Some t) node.Down bytes h e = absurd (cc h)
node-falls b n kept (Some t) node.Idle bytes h e = record { old = refl; new = refl; kept = refl; tried = cc e; same = refl; tries = e }
node-falls b n kept (Some t) (node.Decided s replies) bytes h e = record { old = refl; new = refl; kept = refl; tried = cc e; same = refl; tries = e }
node-falls b n kept (Some t) (node.Stored replies) bytes h e = record { old = refl; new = refl; kept = refl; tried = cc e; same = refl; tries = e }

client-falls : (b : List Ballot) (c kept : ℕ) (tried : Option ℕ) (phase : ExactClientPhase) (bytes : List ℕ) →
    own_refusal b (event.Fall (actor.Client c)) (ClientPart (record { kept = kept; tried = tried; phase = phase })) ≡ None →
    tried_in (ClientPart (record { kept = kept; tried = tried; phase = phase })) ≡ Some bytes →
    FallsTo b (actor.Client c) (ClientPart (record { kept = kept; tried = tried; phase = phase })) (after_own b (event.Fall (actor.Client c)) effect.Down (ClientPart (record { kept = kept; tried = tried; phase = phase }))) bytes
client-falls b c kept None phase bytes h e = absurd (cc e)
client-falls b c kept (Some a) client.Down bytes h e = absurd (cc h)
client-falls b c kept (Some a) client.Idle bytes h e = record { old = refl; new = refl; kept = refl; tried = cc e; same = refl; tries = e }
client-falls b c kept (Some a) (client.Chosen t place) bytes h e = record { old = refl; new = refl; kept = refl; tried = cc e; same = refl; tries = e }
client-falls b c kept (Some a) (client.Asking p) bytes h e = record { old = refl; new = refl; kept = refl; tried = cc e; same = refl; tries = e }
client-falls b c kept (Some a) (client.Inside p) bytes h e = record { old = refl; new = refl; kept = refl; tried = cc e; same = refl; tries = e }

falls-to : (b : List Ballot) (who : Actor) (p : Part) (bytes : List ℕ) → own_refusal b (event.Fall who) p ≡ None → tried_in p ≡ Some bytes → FallsTo b who p (after_own b (event.Fall who) effect.Down p) bytes
falls-to b (actor.Node n) NoPart bytes h e = absurd (cc h)
falls-to b (actor.Node n) (NodePart v) bytes h e = node-falls b n v.kept v.tried v.phase bytes h e
falls-to b (actor.Node n) (ClientPart k) bytes h e = absurd (cc h)
falls-to b (actor.Client c) NoPart bytes h e = absurd (cc h)
falls-to b (actor.Client c) (NodePart v) bytes h e = absurd (cc h)
falls-to b (actor.Client c) (ClientPart k) bytes h e = client-falls b c k.kept k.tried k.phase bytes h e

fall-finds : (b : List Ballot) (who : Actor) (p : Part) (bytes : List ℕ) (strings : List (List ℕ)) → own_refusal b (event.Fall who) p ≡ None → tried_in p ≡ Some bytes → FindsPart p strings →
    FindsKept (kept_in (after_own b (event.Fall who) effect.Down p)) (Some bytes) strings
fall-finds b who p bytes strings allowed tried finds =
    let to = falls-to b who p bytes allowed tried in
    subst (λ k. FindsKept k (Some bytes) strings) (sym to.same) (subst (λ o. FindsKept (kept_in p) o strings) tried finds)

pub fall_found : (l : OwnLog) (who : Actor) (bytes : List ℕ) (strings : List (List ℕ)) → own_refusal l.ballots (event.Fall who) (part_now l) ≡ None → tried_in (part_now l) ≡ Some bytes →
    FindsPart (part_now l) strings → FindsAfter l (event.Fall who) strings
fall_found l who bytes strings allowed tried finds =
    let to = falls-to l.ballots who (part_now l) bytes allowed tried in
    λ done is. subst (λ d. FindsPart (after_own l.ballots (event.Fall who) d (part_now l)) strings) (sym is)
    (tries_to (after_own l.ballots (event.Fall who) effect.Down (part_now l)) bytes strings to.tries (fall-finds l.ballots who (part_now l) bytes strings allowed tried finds))

pub fall_added : (l l' : OwnLog) (who : Actor) (done : Effect) → IsAdded l (event.Fall who) done l' → IsAdded l (event.Fall who) effect.Down l'
fall_added l l' who done is = subst (λ d. IsAdded l (event.Fall who) d l') is.kind is

pub fallen : (l l' : OwnLog) (who : Actor) (done : Effect) (bytes : List ℕ) (strings : List (List ℕ)) → l.actor ≡ who → own_refusal l.ballots (event.Fall who) (part_now l) ≡ None →
    tried_in (part_now l) ≡ Some bytes → FindsPart (part_now l) strings → IsAdded l (event.Fall who) done l' → IsFallen l' who bytes strings
fallen l l' who done bytes strings own allowed tried finds is =
    let to = falls-to l.ballots who (part_now l) bytes allowed tried in
    let after : part_now l' ≡ after_own l.ballots (event.Fall who) effect.Down (part_now l) = (fall_added l l' who done is).part in
    let ballot : l'.ballots ≡ l.ballots = same-ballot l l' (event.Fall who) done is in
    record {
      actor = same-actor l l' (event.Fall who) done is ∙ own;
      old = ap (λ b. own_refusal b (event.Rise who Old) (part_now l')) ballot ∙ ap (λ p. own_refusal l.ballots (event.Rise who Old) p) after ∙ to.old;
      new = ap (λ b. own_refusal b (event.Rise who New) (part_now l')) ballot ∙ ap (λ p. own_refusal l.ballots (event.Rise who New) p) after ∙ to.new;
      kept = ap (λ b. kept_in (after_own b (event.Rise who Old) effect.Up (part_now l'))) ballot ∙ ap (λ p. kept_in (after_own l.ballots (event.Rise who Old) effect.Up p)) after ∙ to.kept ∙ ap kept_in (sym after);
      tried = ap (λ b. kept_in (after_own b (event.Rise who New) effect.Up (part_now l'))) ballot ∙ ap (λ p. kept_in (after_own l.ballots (event.Rise who New) effect.Up p)) after ∙ to.tried;
      tries = ap tried_in after ∙ to.tries;
      finds = subst (λ p. FindsKept (kept_in p) (Some bytes) strings) (sym after) (fall-finds l.ballots who (part_now l) bytes strings allowed tried finds);
    }

-- Rise

node-rises : (b : List Ballot) (n : ℕ) (age : Age) (kept : ExactStation) (tried : Option ExactStation) (phase : ExactNodePhase) →
    own_refusal b (event.Rise (actor.Node n) age) (NodePart (record { kept = kept; tried = tried; phase = phase })) ≡ None →
    tried_in (after_own b (event.Rise (actor.Node n) age) effect.Up (NodePart (record { kept = kept; tried = tried; phase = phase }))) ≡ None
node-rises b n Old kept tried node.Down h = refl
node-rises b n New kept None node.Down h = absurd (cc h)
node-rises b n New kept (Some t) node.Down h = refl
node-rises b n age kept tried node.Idle h = absurd (cc h)
node-rises b n age kept tried (node.Decided s replies) h = absurd (cc h)
node-rises b n age kept tried (node.Stored replies) h = absurd (cc h)

client-rises : (b : List Ballot) (c : ℕ) (age : Age) (kept : ℕ) (tried : Option ℕ) (phase : ExactClientPhase) →
    own_refusal b (event.Rise (actor.Client c) age) (ClientPart (record { kept = kept; tried = tried; phase = phase })) ≡ None →
    tried_in (after_own b (event.Rise (actor.Client c) age) effect.Up (ClientPart (record { kept = kept; tried = tried; phase = phase }))) ≡ None
client-rises b c Old kept tried client.Down h = refl
client-rises b c New kept None client.Down h = absurd (cc h)
client-rises b c New kept (Some t) client.Down h = refl
client-rises b c age kept tried client.Idle h = absurd (cc h)
client-rises b c age kept tried (client.Chosen t place) h = absurd (cc h)
client-rises b c age kept tried (client.Asking p) h = absurd (cc h)
client-rises b c age kept tried (client.Inside p) h = absurd (cc h)

rises : (b : List Ballot) (who : Actor) (age : Age) (p : Part) → own_refusal b (event.Rise who age) p ≡ None → tried_in (after_own b (event.Rise who age) effect.Up p) ≡ None
rises b (actor.Node n) age NoPart h = absurd (cc h)
rises b (actor.Node n) age (NodePart v) h = node-rises b n age v.kept v.tried v.phase h
rises b (actor.Node n) age (ClientPart k) h = absurd (cc h)
rises b (actor.Client c) age NoPart h = absurd (cc h)
rises b (actor.Client c) age (NodePart v) h = absurd (cc h)
rises b (actor.Client c) age (ClientPart k) h = client-rises b c age k.kept k.tried k.phase h

rise-finds : (l : OwnLog) (who : Actor) (age : Age) (bytes : List ℕ) (strings : List (List ℕ)) → IsRising l who age bytes → strings ≡ bytes ∷ [] →
    FindsPart (after_own l.ballots (event.Rise who age) effect.Up (part_now l)) strings
rise-finds l who age bytes strings is found =
    just (after_own l.ballots (event.Rise who age) effect.Up (part_now l)) bytes strings is.kept (rises l.ballots who age (part_now l) is.allowed) found

pub rise_found : (l : OwnLog) (who : Actor) (age : Age) (bytes : List ℕ) (strings : List (List ℕ)) → IsRising l who age bytes → strings ≡ bytes ∷ [] → FindsAfter l (event.Rise who age) strings
rise_found l who age bytes strings is found =
    λ done e. subst (λ d. FindsPart (after_own l.ballots (event.Rise who age) d (part_now l)) strings) (sym e) (rise-finds l who age bytes strings is found)

pub rise_added : (l l' : OwnLog) (who : Actor) (age : Age) (done : Effect) → IsAdded l (event.Rise who age) done l' → IsAdded l (event.Rise who age) effect.Up l'
rise_added l l' who age done is = subst (λ d. IsAdded l (event.Rise who age) d l') is.kind is

pub risen_then : (l l' : OwnLog) (who : Actor) (age : Age) (done : Effect) (bytes : List ℕ) (strings : List (List ℕ)) (stuck : Bool) → IsRising l who age bytes → strings ≡ bytes ∷ [] → stuck ≡ false →
    IsAdded l (event.Rise who age) done l' → HasFound bytes l' strings stuck
risen_then l l' who age done bytes strings stuck is found free added =
    let after : part_now l' ≡ after_own l.ballots (event.Rise who age) effect.Up (part_now l) = (rise_added l l' who age done added).part in
    record {
      kept = sym (ap kept_in after ∙ is.kept);
      found = found;
      free = free;
      finds = subst (λ p. FindsPart p strings) (sym after) (rise-finds l who age bytes strings is found);
    }

-- an actor that has logged nothing rises with what it kept

record AtRest (b : List Ballot) (who : Actor) (p : Part) : Type 0 where
  allowed : own_refusal b (event.Rise who Old) p ≡ None
  kept : kept_in (after_own b (event.Rise who Old) effect.Up p) ≡ kept_in p
  nothing : tried_in p ≡ None

node-rests : (b : List Ballot) (n : ℕ) (kept : ExactStation) (tried : Option ExactStation) (phase : ExactNodePhase) → phase ≡ node.Down → tried ≡ None →
    AtRest b (actor.Node n) (NodePart (record { kept = kept; tried = tried; phase = phase }))
node-rests b n kept None node.Down d t = record { allowed = refl; kept = refl; nothing = refl }
node-rests b n kept (Some s) phase d t = absurd (cc t)
node-rests b n kept None node.Idle d t = absurd (cc d)
node-rests b n kept None (node.Decided s replies) d t = absurd (cc d)
node-rests b n kept None (node.Stored replies) d t = absurd (cc d)

client-rests : (b : List Ballot) (c kept : ℕ) (tried : Option ℕ) (phase : ExactClientPhase) → phase ≡ client.Down → tried ≡ None →
    AtRest b (actor.Client c) (ClientPart (record { kept = kept; tried = tried; phase = phase }))
client-rests b c kept None client.Down d t = record { allowed = refl; kept = refl; nothing = refl }
client-rests b c kept (Some a) phase d t = absurd (cc t)
client-rests b c kept None client.Idle d t = absurd (cc d)
client-rests b c kept None (client.Chosen s place) d t = absurd (cc d)
client-rests b c kept None (client.Asking p) d t = absurd (cc d)
client-rests b c kept None (client.Inside p) d t = absurd (cc d)

at-rest : (b : List Ballot) (who : Actor) (p : Part) → IsDownAtRest who p → AtRest b who p
at-rest b (actor.Node n) NoPart h = absurd h
at-rest b (actor.Node n) (NodePart v) h = node-rests b n v.kept v.tried v.phase h.0 h.1
at-rest b (actor.Node n) (ClientPart k) h = absurd h
at-rest b (actor.Client c) NoPart h = absurd h
at-rest b (actor.Client c) (NodePart v) h = absurd h
at-rest b (actor.Client c) (ClientPart k) h = client-rests b c k.kept k.tried k.phase h.0 h.1

pub rising_first : (l : OwnLog) (who : Actor) (bytes : List ℕ) (strings : List (List ℕ)) → IsUnused l who → FindsPart l.opening strings → Among bytes strings → IsRising l who Old bytes
rising_first l who bytes strings is finds there =
    let rest = at-rest l.ballots who l.opening is.down in
    let just-kept : strings ≡ kept_in l.opening ∷ [] = subst (λ o. FindsKept (kept_in l.opening) o strings) rest.nothing finds in
    let same : bytes ≡ kept_in l.opening = is_one (kept_in l.opening) bytes (subst (λ s. Among bytes s) just-kept there) in
    let now : part_now l ≡ l.opening = ap (λ events. part_now (record { actor = l.actor; ballots = l.ballots; opening = l.opening; events = events })) is.events in
    record {
      actor = is.actor;
      allowed = ap (λ p. own_refusal l.ballots (event.Rise who Old) p) now ∙ rest.allowed;
      kept = ap (λ p. kept_in (after_own l.ballots (event.Rise who Old) effect.Up p)) now ∙ rest.kept ∙ sym same;
    }

-- an actor that fell rises with what was found

pub rising_again : (l : OwnLog) (who : Actor) (age : Age) (bytes tried : List ℕ) (strings : List (List ℕ)) → IsFallen l who tried strings → Among bytes strings → (age ≡ New) ↔ (bytes ≡ tried) → IsRising l who age bytes
rising_again l who New bytes tried strings is there same = record { actor = is.actor; allowed = is.new; kept = is.tried ∙ sym (same.0 refl) }
rising_again l who Old bytes tried strings is there same = record { actor = is.actor; allowed = is.old; kept = is.kept ∙ sym (kept (is.finds bytes there)) }
  where
    kept : (bytes ≡ kept_in (part_now l)) ⊎ (bytes ≡ tried) → bytes ≡ kept_in (part_now l)
    kept (inl e) = e
    kept (inr e) = absurd (let clash : Old ≡ New = same.1 e in cc clash)

pub both_risen : (l m l' : OwnLog) (who : Actor) (age : Age) → IsAdded l (event.Fall who) effect.Down m → IsAdded m (event.Rise who age) effect.Up l' → IsRisenAgain l who age l'
both_risen l m l' who age one two = record {
  fallen = subst (λ x. IsAdded l (event.Fall who) effect.Down x) one.log one;
  risen = subst (λ x. IsAdded x (event.Rise who age) effect.Up l') one.log two;
}
