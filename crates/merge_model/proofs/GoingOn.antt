-- Whatever was merged so far, a merge of the logs goes on from there.
use Rattle.std.proofs.Common.{◌≡◌, ◌==◌, Bool, true, false, cond, List, [], ◌∷◌, ◌++◌, IfSome, Ok, Err, refl, sym, ◌∙◌, ap, subst}
use Rattle.std.proofs.lemmas.Bool.{eqb-true}
use Rattle.lock_messages.specs.declared.ids.Actor.{Actor}
use Rattle.lock_model.specs.Ballots.{Ballot}
use Rattle.lock_model.specs.Decisions.{Among}
use Rattle.world_model.specs.declared.events.Effect.{Effect}
use Rattle.world_model.specs.declared.events.Effect.TheVariants as effect
use Rattle.world_model.specs.declared.events.Event.{Event}
use Rattle.world_model.specs.declared.events.Event.TheVariants as event
use Rattle.world_model.specs.declared.exact.ExactWorld.{ExactWorld}
use Rattle.world_model.specs.Turns.{Acts, Speaks, Reads, Turns}
use Rattle.world_model.specs.ExactWorlds.{actor_of, Deed, NodeDoes, ClientDoes, deed_of}
use Rattle.world_model.specs.Parts.{place, is_own, Part, NoPart, NodePart, ClientPart, part, message_of, after_reading, after_turn, after_in, after_own, said_by}
use Rattle.world_model.specs.Locality.{IsHistory, own_events, EffectsAreOfTheirEvents, MessagesAreAsListed, ChangesOne, StepsChangeOnePart}
use Rattle.world_model.proofs.LocalityFacts.{places-apart}
use Rattle.merge_model.specs.OwnRuns.{IsOwnRun}
use Rattle.merge_model.specs.LongHistories.{IsLongHistory}
use Rattle.merge_model.specs.Merging.{Logs, moved, says, HasSource, IsSourced, IsMerge, unnumbered, unsaid, content_of}
use Rattle.merge_model.proofs.OwnRunFacts.{Pair, own-self, own-rest}
use Rattle.merge_model.proofs.Greed.{sourced-same, comes-first}
use Rattle.merge_model.proofs.Numbers.{by_number, actor-same, same-turn}
use Rattle.merge_model.proofs.TakenTurns.{history-comes, parts-move, ballots-stay}

-- what has the same content does the same

pub by-zero : (e : Event) → by_number e 0 ≡ unnumbered e
by-zero (event.Take n k) = refl
by-zero (event.Hear c k) = refl
by-zero (event.Begin c m x place) = refl
by-zero (event.Try who) = refl
by-zero (event.Kept who) = refl
by-zero (event.SayTo c n) = refl
by-zero (event.Say n) = refl
by-zero (event.Enter c) = refl
by-zero (event.Leave c) = refl
by-zero (event.Soften c) = refl
by-zero (event.Fall who) = refl
by-zero (event.Rise who age) = refl
by-zero (event.Switch n p) = refl

unsaid-message : (d : Effect) → message_of (unsaid d) ≡ message_of d
unsaid-message (effect.Sent k m) = refl
unsaid-message (effect.Said first count) = refl
unsaid-message (effect.Chose a) = refl
unsaid-message effect.Tried = refl
unsaid-message effect.Kept = refl
unsaid-message (effect.Took m changed) = refl
unsaid-message (effect.Heard m heard) = refl
unsaid-message effect.Inside = refl
unsaid-message effect.Outside = refl
unsaid-message effect.Softened = refl
unsaid-message effect.Down = refl
unsaid-message effect.Up = refl
unsaid-message (effect.Switched changed) = refl

pub same-message : (d other : Effect) → unsaid d ≡ unsaid other → message_of d ≡ message_of other
same-message d other same = sym (unsaid-message d) ∙ ap message_of same ∙ unsaid-message other

un-actor : (e : Event) → actor_of (unnumbered e) ≡ actor_of e
un-actor e = ap actor_of (sym (by-zero e)) ∙ actor-same e 0

pub same-actor : (e other : Event) → unnumbered e ≡ unnumbered other → actor_of e ≡ actor_of other
same-actor e other same = sym (un-actor e) ∙ ap actor_of same ∙ un-actor other

un-after : (b : List Ballot) (p : Part) (e : Event) (d : Effect) → after_own b (unnumbered e) d p ≡ after_own b e d p
un-after b p e d = ap (λ x. after_own b x d p) (sym (by-zero e)) ∙ (same-turn b p e 0).after d

un-says : (b : List Ballot) (p : Part) (e : Event) → said_by b (unnumbered e) p ≡ said_by b e p
un-says b p e = ap (λ x. said_by b x p) (sym (by-zero e)) ∙ (same-turn b p e 0).says

turn-by-message : {A : Type 0} (v : A) (t : Turns A) (d other : Effect) → message_of d ≡ message_of other → after_turn v t d ≡ after_turn v t other
turn-by-message v (Err f) d other same = refl
turn-by-message v (Ok (Acts after done)) d other same = refl
turn-by-message v (Ok (Speaks after said done)) d other same = refl
turn-by-message v (Ok (Reads number is_mine after done)) d other same = ap (after_reading v after) same

after-by-message : (b : List Ballot) (deed : Deed) (p : Part) (d other : Effect) → message_of d ≡ message_of other → after_in b deed d p ≡ after_in b deed other p
after-by-message b (NodeDoes n turn) NoPart d other same = refl
after-by-message b (NodeDoes n turn) (NodePart v) d other same = ap NodePart (turn-by-message v (turn v) d other same)
after-by-message b (NodeDoes n turn) (ClientPart k) d other same = refl
after-by-message b (ClientDoes c turn) NoPart d other same = refl
after-by-message b (ClientDoes c turn) (NodePart v) d other same = refl
after-by-message b (ClientDoes c turn) (ClientPart k) d other same = ap ClientPart (turn-by-message k (turn b k) d other same)

pub same-after : (b : List Ballot) (p : Part) (q r : Pair) → unnumbered q.0 ≡ unnumbered r.0 → unsaid q.1 ≡ unsaid r.1 → after_own b q.0 q.1 p ≡ after_own b r.0 r.1 p
same-after b p q r events effects =
    sym (un-after b p q.0 q.1) ∙ ap (λ e. after_own b e q.1 p) events ∙ un-after b p r.0 q.1 ∙ after-by-message b (deed_of r.0) p q.1 r.1 (same-message q.1 r.1 effects)

pub same-says : (b : List Ballot) (p : Part) (e other : Event) → unnumbered e ≡ unnumbered other → said_by b e p ≡ said_by b other p
same-says b p e other same = sym (un-says b p e) ∙ ap (λ x. said_by b x p) same ∙ un-says b p other

same-own : (who : Actor) (e other : Event) → unnumbered e ≡ unnumbered other → is_own who e ≡ is_own who other
same-own who e other same = ap (λ a. place a == place who) (same-actor e other same)

same-moved : (b : List Ballot) (parts : Actor → Part) (q r : Pair) (who : Actor) → unnumbered q.0 ≡ unnumbered r.0 → unsaid q.1 ≡ unsaid r.1 → moved b parts q who ≡ moved b parts r who
same-moved b parts q r who events effects =
    ap (λ t. cond t (after_own b q.0 q.1 (parts who)) (parts who)) (same-own who q.0 r.0 events) ∙ ap (λ p. cond (is_own who r.0) p (parts who)) (same-after b (parts who) q r events effects)

-- the first of two lists with the same content

content-nil : (xs : List Pair) → content_of xs ≡ [] → xs ≡ []
content-nil [] h = refl
content-nil (q ∷ xs) h = absurd (let z : (unnumbered q.0, unsaid q.1) ∷ content_of xs ≡ [] = h in cc)

head-events : (q r : Pair) (xs ys : List Pair) → content_of (q ∷ xs) ≡ content_of (r ∷ ys) → unnumbered q.0 ≡ unnumbered r.0
head-events q r xs ys h =
    let z : (unnumbered q.0, unsaid q.1) ∷ content_of xs ≡ (unnumbered r.0, unsaid r.1) ∷ content_of ys = h in
    let heads : (unnumbered q.0, unsaid q.1) ≡ (unnumbered r.0, unsaid r.1) = cc in
    ap (λ (x : Event × Effect). x.0) heads

head-effects : (q r : Pair) (xs ys : List Pair) → content_of (q ∷ xs) ≡ content_of (r ∷ ys) → unsaid q.1 ≡ unsaid r.1
head-effects q r xs ys h =
    let z : (unnumbered q.0, unsaid q.1) ∷ content_of xs ≡ (unnumbered r.0, unsaid r.1) ∷ content_of ys = h in
    let heads : (unnumbered q.0, unsaid q.1) ≡ (unnumbered r.0, unsaid r.1) = cc in
    ap (λ (x : Event × Effect). x.1) heads

tail-content : (q r : Pair) (xs ys : List Pair) → content_of (q ∷ xs) ≡ content_of (r ∷ ys) → content_of xs ≡ content_of ys
tail-content q r xs ys h = let z : (unnumbered q.0, unsaid q.1) ∷ content_of xs ≡ (unnumbered r.0, unsaid r.1) ∷ content_of ys = h in cc

abbrev GoesOn : ExactWorld → Logs → Type 0
GoesOn v left = (rest : List Pair) × IsMerge v left rest

-- the logs are what was begun and what is left
record Begun (logs begun left : Logs) (told : List Pair) : Type 0 where
  cut : (who : Actor) → logs who ≡ begun who ++ left who
  content : (who : Actor) → content_of (begun who) ≡ content_of (own_events who told)

-- one event that was merged, and a merge of the logs that begins with it
module _ (w u : ExactWorld) (q : Pair) (logs begun left : Logs) (told history : List Pair) (change : ChangesOne w q.0 q.1 u) (source : HasSource w.sent q.1) (m : IsMerge w logs history) (is : Begun logs begun left (q ∷ told)) (first : Pair) (later : List Pair) (begins : begun (actor_of q.0) ≡ first ∷ later) (same : content_of (first ∷ later) ≡ content_of (q ∷ own_events (actor_of q.0) told)) where
  one-event : unnumbered first.0 ≡ unnumbered q.0
  one-event = head-events first q later (own_events (actor_of q.0) told) same

  one-effect : unsaid first.1 ≡ unsaid q.1
  one-effect = head-effects first q later (own_events (actor_of q.0) told) same

  first-source : HasSource w.sent first.1
  first-source = subst (λ o. IfSome o (λ x. Among x w.sent)) (sym (same-message first.1 q.1 one-effect)) source

  first-log : (who : Actor) → who ≡ actor_of q.0 → logs who ≡ first ∷ (later ++ left who)
  first-log who here = is.cut who ∙ ap (λ xs. xs ++ left who) (ap begun here ∙ begins)

  brought : (rest : List Pair) × IsSourced w.ballots (part w) w.sent (first ∷ rest) × ((who : Actor) → own_events who (first ∷ rest) ≡ own_events who history)
  brought =
      comes-first w.ballots history (part w) w.sent first (later ++ left (actor_of first.0)) m.sourced
      (m.interleaved (actor_of first.0) ∙ first-log (actor_of first.0) (same-actor first.0 q.0 one-event)) first-source

  abbrev rest : List Pair
  rest = brought.0

  log-cut : (who : Actor) → cond (is_own who q.0) (first ∷ own_events who rest) (own_events who rest) ≡ logs who
  log-cut who = ap (λ t. cond t (first ∷ own_events who rest) (own_events who rest)) (sym (same-own who first.0 q.0 one-event)) ∙ brought.2 who ∙ m.interleaved who

  part-now : (who : Actor) → part u who ≡ moved w.ballots (part w) first who
  part-now who = parts-move w u q change who (is_own who q.0) refl ∙ sym (same-moved w.ballots (part w) first q who one-event one-effect)

  said-now : u.sent ≡ w.sent ++ says w.ballots (part w) first
  said-now =
      change.sent
      ∙ ap (λ xs. w.sent ++ xs) (ap (λ a. said_by w.ballots q.0 (part w a)) (sym (same-actor first.0 q.0 one-event)) ∙ sym (same-says w.ballots (part w (actor_of first.0)) first.0 q.0 one-event))

  merge-now : IsMerge u (λ who. own_events who rest) rest
  merge-now = record {
    own = λ who. subst (λ b. IsOwnRun b who (part u who) (own_events who rest)) (sym (ballots-stay w u q change))
        (subst (λ p. IsOwnRun w.ballots who p (own_events who rest)) (sym (part-now who))
        (own-rest w.ballots who (part w who) first (own_events who rest) (is_own who first.0) (subst (IsOwnRun w.ballots who (part w who)) (sym (brought.2 who ∙ m.interleaved who)) (m.own who))));
    interleaved = λ who. refl;
    sourced = subst (λ b. IsSourced b (part u) u.sent rest) (sym (ballots-stay w u q change))
        (sourced-same w.ballots rest (moved w.ballots (part w) first) (part u) (w.sent ++ says w.ballots (part w) first) u.sent (λ who. sym (part-now who)) (λ x a. subst (λ xs. Among x xs) (sym said-now) a) brought.1.1);
  }

  abbrev begun-now : Logs
  begun-now who = cond (is_own who q.0) later (begun who)

  cut-now : (who : Actor) (t : Bool) → is_own who q.0 ≡ t → cond t (first ∷ own_events who rest) (own_events who rest) ≡ logs who → own_events who rest ≡ cond t later (begun who) ++ left who
  cut-now who true own e =
      let here : who ≡ actor_of q.0 = sym (places-apart (actor_of q.0) who (eqb-true (place (actor_of q.0)) (place who) own)) in
      let z : first ∷ own_events who rest ≡ first ∷ (later ++ left who) = e ∙ first-log who here in
      cc
  cut-now who false own e = e ∙ is.cut who

  content-now : (who : Actor) (t : Bool) → is_own who q.0 ≡ t → content_of (begun who) ≡ content_of (cond t (q ∷ own_events who told) (own_events who told)) → content_of (cond t later (begun who)) ≡ content_of (own_events who told)
  content-now who true own e =
      let here : actor_of q.0 ≡ who = places-apart (actor_of q.0) who (eqb-true (place (actor_of q.0)) (place who) own) in
      tail-content first q later (own_events (actor_of q.0) told) same ∙ ap (λ a. content_of (own_events a told)) here
  content-now who false own e = e

  begun-on : Begun (λ who. own_events who rest) begun-now left told
  begun-on = record {
    cut = λ who. cut-now who (is_own who q.0) refl (log-cut who);
    content = λ who. content-now who (is_own who q.0) refl (is.content who);
  }

one-told : (w u v : ExactWorld) (q : Pair) (logs begun left : Logs) (told history : List Pair) → ChangesOne w q.0 q.1 u → HasSource w.sent q.1 → IsMerge w logs history → Begun logs begun left (q ∷ told) →
    ((logs' begun' : Logs) (history' : List Pair) → IsMerge u logs' history' → Begun logs' begun' left told → GoesOn v left) → (bs : List Pair) → begun (actor_of q.0) ≡ bs → content_of bs ≡ content_of (q ∷ own_events (actor_of q.0) told) → GoesOn v left
one-told w u v q logs begun left told history change source m is again [] begins same = absurd (let z : [] ≡ (unnumbered q.0, unsaid q.1) ∷ content_of (own_events (actor_of q.0) told) = same in cc)
one-told w u v q logs begun left told history change source m is again (first ∷ later) begins same =
    again (λ who. own_events who (rest w u q logs begun left told history change source m is first later begins same)) (begun-now w u q logs begun left told history change source m is first later begins same) (rest w u q logs begun left told history change source m is first later begins same) (merge-now w u q logs begun left told history change source m is first later begins same) (begun-on w u q logs begun left told history change source m is first later begins same)

goes-on : (told : List Pair) (w v : ExactWorld) (logs begun left : Logs) (history : List Pair) → IsMerge w logs history → IsLongHistory w told v → Begun logs begun left told → GoesOn v left
goes-on [] w v logs begun left history m h is = (
  history,
  subst (λ x. IsMerge x left history) (sym h) (record {
    own = λ who. subst (IsOwnRun w.ballots who (part w who)) (all who) (m.own who);
    interleaved = λ who. m.interleaved who ∙ all who;
    sourced = m.sourced;
  }),
)
  where
    all : (who : Actor) → logs who ≡ left who
    all who = is.cut who ∙ ap (λ xs. xs ++ left who) (content-nil (begun who) (is.content who))
goes-on (q ∷ told) w v logs begun left history m h is =
    one-told w h.0 v q logs begun left told history h.1.change h.1.source m is
    (λ logs' begun' history' m' is'. goes-on told h.0 v logs' begun' left history' m' h.2 is') (begun (actor_of q.0)) refl
    (is.content (actor_of q.0) ∙ ap (λ t. content_of (cond t (q ∷ own_events (actor_of q.0) told) (own_events (actor_of q.0) told))) (own-self q.0))

pub long-go-on : (w v : ExactWorld) (logs begun left : Logs) (told history : List Pair) → IsMerge w logs history → IsLongHistory w told v →
    ((who : Actor) → logs who ≡ begun who ++ left who) → ((who : Actor) → content_of (begun who) ≡ content_of (own_events who told)) → (rest : List Pair) × IsMerge v left rest
long-go-on w v logs begun left told history m h cut content = goes-on told w v logs begun left history m h (record { cut = cut; content = content })

pub merges-go-on : StepsChangeOnePart → EffectsAreOfTheirEvents → MessagesAreAsListed → (w v : ExactWorld) (logs begun left : Logs) (told history : List Pair) → IsMerge w logs history → IsHistory w told v →
    ((who : Actor) → logs who ≡ begun who ++ left who) → ((who : Actor) → content_of (begun who) ≡ content_of (own_events who told)) → (rest : List Pair) × IsMerge v left rest
merges-go-on changes effects messages w v logs begun left told history m h cut content = long-go-on w v logs begun left told history m (history-comes changes effects messages told w v h) cut content
