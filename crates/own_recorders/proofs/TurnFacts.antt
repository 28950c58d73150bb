-- What a node says and a client hears is a turn.
use Rattle.std.proofs.Common.{◌≡◌, ℕ, ◌+◌, Bool, true, false, cond, List, length, Some, None, Err, refl, sym, ◌∙◌, ap, subst, arith}
use Rattle.std.proofs.lemmas.Bool.{eqb-true}
use Rattle.lock_messages.specs.declared.ids.Actor.TheVariants as actor
use Rattle.lock_messages.specs.declared.messages.Message.{Message}
use Rattle.lock_messages.specs.Messages.{is_for, is_for_client}
use Rattle.lock_model.specs.declared.hearing.Heard.{Heard}
use Rattle.lock_model.specs.Ballots.{Ballot, node_count}
use Rattle.world_model.specs.declared.events.Effect.TheVariants as effect
use Rattle.world_model.specs.declared.events.Event.{Event}
use Rattle.world_model.specs.declared.events.Event.TheVariants as event
use Rattle.world_model.specs.declared.events.StepFault.TheVariants as fault
use Rattle.world_model.specs.declared.exact.ExactNode.{ExactNode}
use Rattle.world_model.specs.declared.exact.ExactClient.{ExactClient}
use Rattle.world_model.specs.ExactNodes.{says_in}
use Rattle.world_model.specs.ExactClients.{hears, is_down, after_hearing, heard_in}
use Rattle.world_model.specs.ExactWorlds.{refusal_of}
use Rattle.world_model.specs.Turns.{Turns, speaks, reads}
use Rattle.world_model.specs.Parts.{NodePart, ClientPart, is_own, own_refusal, after_turn, turn_says}
use Rattle.event_recorders.specs.OwnLogs.{reads as is_reading}
use Rattle.merge_model.specs.OwnRuns.{HasEffect}
use Rattle.own_recorders.specs.OwnTurns.{HasTurned}

pub said_turn : (b : List Ballot) (n : ℕ) (v v' : ExactNode) (items : List Message) (first count : ℕ) → says_in v v.phase ≡ speaks v' items (λ k. effect.Said k (length items)) → count ≡ length (turn_says (says_in v v.phase)) →
    HasTurned b (NodePart v) (event.Say n) None (effect.Said first count) (NodePart v')
said_turn b n v v' items first count is long = record {
  kind = (first, count, refl);
  turn = subst (λ t. HasEffect t (effect.Said first count)) (sym is) (first, ap (λ k. effect.Said first k) (long ∙ ap (λ (t : Turns ExactNode). length (turn_says t)) is));
  message = refl;
  part = ap (λ (t : Turns ExactNode). NodePart (after_turn v t (effect.Said first count))) (sym is);
}

no : {A : Type 0} → false ≡ true → A
no q = absurd (let p : false ≡ true = q in cc)

abbrev turn_if : List Ballot → ExactClient → ℕ → ℕ → Bool → Turns ExactClient
turn_if b k x j t = cond t (Err fault.Down) (reads j (λ m. is_for_client m x) (after_hearing (node_count b) x k) (λ m. effect.Heard m (heard_in (node_count b) x k.kept k.phase m)))

pub heard_turn : (b : List Ballot) (c : ℕ) (k k' : ExactClient) (e : Event) (m : Message) (h : Heard) → is_own (actor.Client c) e ≡ true → is_reading e ≡ true → own_refusal b e (ClientPart k) ≡ None → is_for (actor.Client c) m ≡ true →
    h ≡ heard_in (node_count b) c k.kept k.phase m → k' ≡ after_hearing (node_count b) c k m → HasTurned b (ClientPart k) e (Some m) (effect.Heard m h) (ClientPart k')
heard_turn b c k k' (event.Take n j) m h own read allowed mine heard after = absurd (let z = eqb-true (n + n) (c + c + 1) own in omega (arith, z))
heard_turn b c k k' (event.Hear d j) m h own read allowed mine heard after =
    let same : d ≡ c = omega (arith, eqb-true (d + d + 1) (c + c + 1) own) in
    subst (λ x. HasTurned b (ClientPart k) (event.Hear x j) (Some m) (effect.Heard m h) (ClientPart k')) (sym same) (go (is_down k.phase) refl)
  where
    go : (t : Bool) → is_down k.phase ≡ t → HasTurned b (ClientPart k) (event.Hear c j) (Some m) (effect.Heard m h) (ClientPart k')
    go true down = absurd (let z : Some fault.Down ≡ None = sym (ap (λ t. refusal_of (turn_if b k d j t)) down) ∙ allowed in cc)
    go false up =
        let is : hears (node_count b) c j k ≡ turn_if b k c j false = ap (turn_if b k c j) up in
        record {
          kind = (m, h, mine, refl);
          turn = subst (λ t. HasEffect t (effect.Heard m h)) (sym is) (m, mine, ap (λ x. effect.Heard m x) heard);
          message = refl;
          part = ap ClientPart after ∙ ap (λ (t : Turns ExactClient). ClientPart (after_turn k t (effect.Heard m h))) (sym is);
        }
heard_turn b c k k' (event.Begin d m' x place) m h own read allowed mine heard after = no read
heard_turn b c k k' (event.Try who) m h own read allowed mine heard after = no read
heard_turn b c k k' (event.Kept who) m h own read allowed mine heard after = no read
heard_turn b c k k' (event.SayTo d n) m h own read allowed mine heard after = no read
heard_turn b c k k' (event.Say n) m h own read allowed mine heard after = no read
heard_turn b c k k' (event.Enter d) m h own read allowed mine heard after = no read
heard_turn b c k k' (event.Leave d) m h own read allowed mine heard after = no read
heard_turn b c k k' (event.Soften d) m h own read allowed mine heard after = no read
heard_turn b c k k' (event.Fall who) m h own read allowed mine heard after = no read
heard_turn b c k k' (event.Rise who age) m h own read allowed mine heard after = no read
heard_turn b c k k' (event.Switch n p) m h own read allowed mine heard after = no read
