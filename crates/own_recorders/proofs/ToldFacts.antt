-- The lines of an own run tell the run.
use Rattle.std.proofs.Common.{◌≡◌, ℕ, ◌+◌, Bool, true, false, List, [], ◌∷◌, map, Option, Some, None, Err, cond, refl, sym, ap, subst, ◌∙◌, arith}
use Rattle.std.proofs.lemmas.Bool.{eqb-true}
use Rattle.std.proofs.lemmas.List.Elements.{All-head, All-tail}
use Rattle.lock_messages.specs.declared.ids.Actor.{Actor}
use Rattle.lock_messages.specs.declared.ids.Actor.TheVariants as actor
use Rattle.lock_messages.specs.declared.messages.Message.{Message}
use Rattle.lock_messages.specs.Messages.{is_for_client}
use Rattle.lock_model.specs.Ballots.{Ballot, node_count}
use Rattle.lock_model.specs.ExactHearing.{is_node_of}
use Rattle.world_model.specs.declared.events.Age.{Age}
use Rattle.world_model.specs.declared.events.Age.TheVariants.{Old, New}
use Rattle.world_model.specs.declared.events.Effect.{Effect}
use Rattle.world_model.specs.declared.events.Effect.TheVariants as effect
use Rattle.world_model.specs.declared.events.Event.{Event}
use Rattle.world_model.specs.declared.events.Event.TheVariants as event
use Rattle.world_model.specs.declared.exact.ExactNode.{ExactNode}
use Rattle.world_model.specs.declared.exact.ExactNodePhase.TheVariants as node
use Rattle.world_model.specs.declared.exact.ExactClient.{ExactClient}
use Rattle.world_model.specs.declared.exact.ExactClientPhase.TheVariants as client
use Rattle.world_model.specs.ExactNodes.{tries_station_in, keeps_station_in, says_in, takes_in, switches_in, node_falls_in, node_rises_in, node_rises_with}
use Rattle.world_model.specs.declared.events.StepFault.TheVariants as fault
use Rattle.world_model.specs.ExactClients.{after_hearing, begins_in, client_falls_in, client_rises_in, client_rises_with, enters_in, heard_in, is_down, keeps_attempt_in, leaves_in, softens_in, tells_in, tries_attempt_in}
use Rattle.world_model.specs.Turns.{reads as reading}
use Rattle.world_model.specs.Locality.{IsEffectOf}
use Rattle.world_model.specs.Parts.{Part, NoPart, NodePart, ClientPart, is_own, after_own, message_of}
use Rattle.event_recorders.specs.OwnLogs.{OwnLog, IsDownAtRest, kept_in, reads}
use Rattle.merge_model.specs.OwnRuns.{HasEffect, IsTurn, IsOwnRun}
use Rattle.merge_model.specs.Lives.{only_rises, rises_old}
use Rattle.journal_merge.specs.LineMerges.{TellsLine, TellsLines}
use Rattle.journal_merge.proofs.ContentFacts.{own-kind}
use Rattle.own_journals.specs.declared.lines.OwnLine.TheVariants as own
use Rattle.own_recorders.specs.OwnJournals.{AreRead, IsRead, event_line, life_lines, log_lines}

no_message : {A : Type 0} (m : Message) → None ≡ Some m → A
no_message m h = absurd (cc)

-- an event reads a message exactly if its effect carries one

reads_none : (e : Event) (done : Effect) → IsEffectOf e done → message_of done ≡ None → reads e ≡ false
reads_none (event.Take n k) done kind is = no_message kind.0 (sym is ∙ ap message_of kind.3)
reads_none (event.Hear c k) done kind is = no_message kind.0 (sym is ∙ ap message_of kind.3)
reads_none (event.Begin c m x place) done kind is = refl
reads_none (event.Try who) done kind is = refl
reads_none (event.Kept who) done kind is = refl
reads_none (event.SayTo c n) done kind is = refl
reads_none (event.Say n) done kind is = refl
reads_none (event.Enter c) done kind is = refl
reads_none (event.Leave c) done kind is = refl
reads_none (event.Soften c) done kind is = refl
reads_none (event.Fall who) done kind is = refl
reads_none (event.Rise who age) done kind is = refl
reads_none (event.Switch n p) done kind is = refl

reads_some : (e : Event) (done : Effect) (m : Message) → IsEffectOf e done → message_of done ≡ Some m → reads e ≡ true
reads_some (event.Take n k) done m kind is = refl
reads_some (event.Hear c k) done m kind is = refl
reads_some (event.Begin c n x place) done m kind is = no_message m (sym (ap message_of kind.1) ∙ is)
reads_some (event.Try who) done m kind is = no_message m (sym (ap message_of kind) ∙ is)
reads_some (event.Kept who) done m kind is = no_message m (sym (ap message_of kind) ∙ is)
reads_some (event.SayTo c n) done m kind is = no_message m (sym (ap message_of kind.2) ∙ is)
reads_some (event.Say n) done m kind is = no_message m (sym (ap message_of kind.2) ∙ is)
reads_some (event.Enter c) done m kind is = no_message m (sym (ap message_of kind) ∙ is)
reads_some (event.Leave c) done m kind is = no_message m (sym (ap message_of kind) ∙ is)
reads_some (event.Soften c) done m kind is = no_message m (sym (ap message_of kind) ∙ is)
reads_some (event.Fall who) done m kind is = no_message m (sym (ap message_of kind) ∙ is)
reads_some (event.Rise who age) done m kind is = no_message m (sym (ap message_of kind) ∙ is)
reads_some (event.Switch n p) done m kind is = no_message m (sym (ap message_of kind.1) ∙ is)

-- the line of an event tells the event

event_told : (b : List Ballot) (who : Actor) (p : Part) (q : Event × Effect) → is_own who q.0 ≡ true → IsTurn b p q.0 q.1 → IsRead (message_of q.1) → TellsLine b who p (event_line who q.0 (message_of q.1)) (q ∷ [])
event_told b who p q mine turn good = go (message_of q.1) refl good
  where
    go : (read : Option Message) → message_of q.1 ≡ read → IsRead read → TellsLine b who p (event_line who q.0 read) (q ∷ [])
    go None is good = (q.1, refl, mine, turn, reads_none q.0 q.1 (own-kind b p q.0 q.1 turn) is)
    go (Some m) is good = (q, refl, mine, turn, record { message = m; is = good; spelled = refl; reading = reads_some q.0 q.1 m (own-kind b p q.0 q.1 turn) is; carried = is })

events_told : (b : List Ballot) (who : Actor) (p : Part) (events : List (Event × Effect)) → IsOwnRun b who p events → AreRead events → TellsLines b who p (map (λ q. event_line who q.0 (message_of q.1)) events) events
events_told b who p [] run good = refl
events_told b who p (q ∷ events) run good =
    let P : Event × Effect → Type 0 = λ q. IsRead (message_of q.1) in
    (q ∷ [], events, event_told b who p q run.0 run.1 (All-head P q events good), events_told b who (after_own b q.0 q.1 p) events run.2 (All-tail P q events good), refl)

-- The first event of an actor that is down, with nothing tried, is its rise with what it has kept.

abbrev IsFirstRise : Actor → Event × Effect → Type 0
IsFirstRise who q = q ≡ (event.Rise who Old, effect.Up)

node_rise : (n m : ℕ) (v : ExactNode) (age : Age) (done : Effect) → v.tried ≡ None → n ≡ m → HasEffect (node_rises_with age v.kept v.tried) done → IsFirstRise (actor.Node m) (event.Rise (actor.Node n) age, done)
node_rise n m v Old done nothing same turn = rw same (rw turn refl)
node_rise n m v New done nothing same turn = absurd (subst (λ t. HasEffect (node_rises_with New v.kept t) done) nothing turn)

module _ (b : List Ballot) (n : ℕ) (v : ExactNode) (down : v.phase ≡ node.Down) (nothing : v.tried ≡ None) where
  node_first : (e : Event) (done : Effect) → is_own (actor.Node n) e ≡ true → IsTurn b (NodePart v) e done → IsFirstRise (actor.Node n) (e, done)
  node_first (event.Begin c m x place) done mine turn = absurd turn
  node_first (event.Try (actor.Node m)) done mine turn = absurd (subst (λ ph. HasEffect (tries_station_in v ph) done) down turn)
  node_first (event.Try (actor.Client c)) done mine turn = absurd turn
  node_first (event.Kept (actor.Node m)) done mine turn = absurd (subst (λ ph. HasEffect (keeps_station_in v ph) done) down turn)
  node_first (event.Kept (actor.Client c)) done mine turn = absurd turn
  node_first (event.SayTo c m) done mine turn = absurd turn
  node_first (event.Say m) done mine turn = absurd (subst (λ ph. HasEffect (says_in v ph) done) down turn)
  node_first (event.Take m k) done mine turn = absurd (subst (λ ph. HasEffect (takes_in m k v ph) done) down turn)
  node_first (event.Hear c k) done mine turn = absurd turn
  node_first (event.Enter c) done mine turn = absurd turn
  node_first (event.Leave c) done mine turn = absurd turn
  node_first (event.Soften c) done mine turn = absurd turn
  node_first (event.Fall (actor.Node m)) done mine turn = absurd (subst (λ ph. HasEffect (node_falls_in v ph) done) down turn)
  node_first (event.Fall (actor.Client c)) done mine turn = absurd turn
  node_first (event.Rise (actor.Node m) age) done mine turn =
      node_rise m n v age done nothing (let p = eqb-true (m + m) (n + n) mine in omega (arith, p)) (subst (λ ph. HasEffect (node_rises_in age v ph) done) down turn)
  node_first (event.Rise (actor.Client c) age) done mine turn = absurd turn
  node_first (event.Switch m p) done mine turn = absurd (subst (λ ph. HasEffect (switches_in m p v ph) done) down turn)

client_rise : (c d : ℕ) (k : ExactClient) (age : Age) (done : Effect) → k.tried ≡ None → c ≡ d → HasEffect (client_rises_with age k.kept k.tried) done → IsFirstRise (actor.Client d) (event.Rise (actor.Client c) age, done)
client_rise c d k Old done nothing same turn = rw same (rw turn refl)
client_rise c d k New done nothing same turn = absurd (subst (λ t. HasEffect (client_rises_with New k.kept t) done) nothing turn)

module _ (b : List Ballot) (c : ℕ) (k : ExactClient) (down : k.phase ≡ client.Down) (nothing : k.tried ≡ None) where
  tells_none : (d n : ℕ) (done : Effect) (t : Bool) → HasEffect (cond t (tells_in d n k k.phase) (Err fault.UnknownActor)) done → ⊥
  tells_none d n done true turn = subst (λ ph. HasEffect (tells_in d n k ph) done) down turn
  tells_none d n done false turn = turn

  client_first : (e : Event) (done : Effect) → is_own (actor.Client c) e ≡ true → IsTurn b (ClientPart k) e done → IsFirstRise (actor.Client c) (e, done)
  client_first (event.Begin d m x place) done mine turn = absurd (subst (λ ph. HasEffect (begins_in b d m x place k ph) done) down turn)
  client_first (event.Try (actor.Node n)) done mine turn = absurd turn
  client_first (event.Try (actor.Client d)) done mine turn = absurd (subst (λ ph. HasEffect (tries_attempt_in k ph) done) down turn)
  client_first (event.Kept (actor.Node n)) done mine turn = absurd turn
  client_first (event.Kept (actor.Client d)) done mine turn = absurd (subst (λ ph. HasEffect (keeps_attempt_in k ph) done) down turn)
  client_first (event.SayTo d n) done mine turn = absurd (tells_none d n done (is_node_of (node_count b) n) turn)
  client_first (event.Say n) done mine turn = absurd turn
  client_first (event.Take n j) done mine turn = absurd turn
  client_first (event.Hear d j) done mine turn =
      absurd (subst (λ ph. HasEffect (cond (is_down ph) (Err fault.Down) (reading j (λ m. is_for_client m d) (after_hearing (node_count b) d k) (λ m. effect.Heard m (heard_in (node_count b) d k.kept k.phase m)))) done) down turn)
  client_first (event.Enter d) done mine turn = absurd (subst (λ ph. HasEffect (enters_in b k ph) done) down turn)
  client_first (event.Leave d) done mine turn = absurd (subst (λ ph. HasEffect (leaves_in k ph) done) down turn)
  client_first (event.Soften d) done mine turn = absurd (subst (λ ph. HasEffect (softens_in k ph) done) down turn)
  client_first (event.Fall (actor.Node n)) done mine turn = absurd turn
  client_first (event.Fall (actor.Client d)) done mine turn = absurd (subst (λ ph. HasEffect (client_falls_in k ph) done) down turn)
  client_first (event.Rise (actor.Node n) age) done mine turn = absurd turn
  client_first (event.Rise (actor.Client d) age) done mine turn =
      client_rise d c k age done nothing (let p = eqb-true (d + d + 1) (c + c + 1) mine in omega (arith, p)) (subst (λ ph. HasEffect (client_rises_in age k ph) done) down turn)
  client_first (event.Switch n p) done mine turn = absurd turn

-- the line that opens the life tells the rise

node_life : (b : List Ballot) (n : ℕ) (v : ExactNode) → v.phase ≡ node.Down → TellsLine b (actor.Node n) (NodePart v) (own.Life (actor.Node n) (kept_in (NodePart v))) ((event.Rise (actor.Node n) Old, effect.Up) ∷ [])
node_life b n v down = (refl, only_rises (event.Rise (actor.Node n) Old) down (rises_old refl))

client_life : (b : List Ballot) (c : ℕ) (k : ExactClient) → k.phase ≡ client.Down → TellsLine b (actor.Client c) (ClientPart k) (own.Life (actor.Client c) (kept_in (ClientPart k))) ((event.Rise (actor.Client c) Old, effect.Up) ∷ [])
client_life b c k down = (refl, only_rises (event.Rise (actor.Client c) Old) down (rises_old refl))

life_told : (b : List Ballot) (who : Actor) (p : Part) (q : Event × Effect) → IsDownAtRest who p → is_own who q.0 ≡ true → IsTurn b p q.0 q.1 → TellsLine b who p (own.Life who (kept_in p)) (q ∷ [])
life_told b (actor.Node n) NoPart q down mine turn = absurd down
life_told b (actor.Node n) (NodePart v) q down mine turn =
    subst (λ r. TellsLine b (actor.Node n) (NodePart v) (own.Life (actor.Node n) (kept_in (NodePart v))) (r ∷ [])) (sym (node_first b n v down.0 down.1 q.0 q.1 mine turn)) (node_life b n v down.0)
life_told b (actor.Node n) (ClientPart k) q down mine turn = absurd down
life_told b (actor.Client c) NoPart q down mine turn = absurd down
life_told b (actor.Client c) (NodePart v) q down mine turn = absurd down
life_told b (actor.Client c) (ClientPart k) q down mine turn =
    subst (λ r. TellsLine b (actor.Client c) (ClientPart k) (own.Life (actor.Client c) (kept_in (ClientPart k))) (r ∷ [])) (sym (client_first b c k down.0 down.1 q.0 q.1 mine turn)) (client_life b c k down.0)

-- the lines of an own run tell the run
lines_told : (b : List Ballot) (who : Actor) (p : Part) (events : List (Event × Effect)) → IsDownAtRest who p → IsOwnRun b who p events → AreRead events → TellsLines b who p (life_lines who (kept_in p) events) events
lines_told b who p [] down run good = refl
lines_told b who p (q ∷ events) down run good =
    (q ∷ [], events, life_told b who p q down run.0 run.1, events_told b who (after_own b q.0 q.1 p) events run.2 (All-tail (λ r. IsRead (message_of r.1)) q events good), refl)

pub lines_tell_runs : (l : OwnLog) → IsDownAtRest l.actor l.opening → IsOwnRun l.ballots l.actor l.opening l.events → AreRead l.events → TellsLines l.ballots l.actor l.opening (log_lines l) l.events
lines_tell_runs l down run good = lines_told l.ballots l.actor l.opening l.events down run good
