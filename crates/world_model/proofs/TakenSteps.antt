-- What may happen is taken, unless the list of messages is full.
use Rattle.std.proofs.Common.{◌≡◌, ℕ, ◌⊎◌, Bool, true, false, cond, Option, Some, None, Ok, Err, sym, ◌∙◌, ap, subst, inl, inr}
use Rattle.lock_model.specs.Ballots.{node_count}
use Rattle.lock_messages.specs.declared.ids.Actor.TheVariants as actor
use Rattle.lock_messages.specs.declared.messages.Message.{Message}
use Rattle.lock_messages.specs.Messages.{is_for_node, is_for_client}
use Rattle.lock_model.specs.ExactDecisions.{changes}
use Rattle.world_model.specs.declared.events.Effect.{Effect}
use Rattle.world_model.specs.declared.events.Effect.TheVariants as effect
use Rattle.world_model.specs.declared.events.Event.{Event}
use Rattle.world_model.specs.declared.events.Event.TheVariants as event
use Rattle.world_model.specs.declared.events.StepFault.{StepFault}
use Rattle.world_model.specs.declared.events.StepFault.TheVariants as fault
use Rattle.world_model.specs.declared.exact.ExactNode.{ExactNode}
use Rattle.world_model.specs.declared.exact.ExactWorld.{ExactWorld}
use Rattle.world_model.specs.Worlds.{Node, Client, World, Happens, Begins, TriesAttempt, TriesStation, KeepsAttempt, KeepsStation, Tells, Says, Enters, Leaves, Softens, NodeFalls, ClientFalls, NodeRises, ClientRises, Switches}
use Rattle.world_model.specs.Turns.{reads}
use Rattle.world_model.specs.ExactNodes.{tries_station_in, keeps_station_in, says_in, decided_on, takes_in, node_falls_in, node_rises_in, switches_in}
use Rattle.world_model.specs.ExactClients.{begins_in, tries_attempt_in, keeps_attempt_in, tells, heard_in, after_hearing, is_down, hears, enters_in, leaves_in, softens_in, client_falls_in, client_rises_in}
use Rattle.world_model.specs.ExactWorlds.{numbered, actor_of, with_node_at, with_client_at, read_in, finishes, by_actor, Stepped, refusal_of, refusal, step}
use Rattle.world_model.specs.Forgetting.{forget, setting_of, IsSound}
use Rattle.world_model.specs.Parts.{part, own_refusal, IsListFault}
use Rattle.world_model.specs.Laws.{NamesItsMessage}
use Rattle.world_model.proofs.PhaseFacts.{node-idle, hears-needs, takes-needs}
use Rattle.world_model.proofs.Deeds.{ModelLaws}
use Rattle.world_model.proofs.RefusalFacts.{OnlyList, list-second}
use Rattle.world_model.proofs.TakenFacts.{begins-may, tries-attempt-may, keeps-attempt-may, tells-may, awake, enters-may, leaves-may, softens-may, client-falls-may, client-rises-may, tries-station-may, keeps-station-may, says-may, node-falls-may, node-rises-may, switches-may, client-there, node-there, client-free, node-free, by-client-free, by-node-free}

abbrev IsTaken : ExactWorld → Event → Type 0
IsTaken w e = (refusal w e ≡ None) ⊎ (refusal w e ≡ Some fault.SentListFull)

-- where the actor's own part refuses nothing, and the list at most for want of room
unless-full : ModelLaws → (w : ExactWorld) (e : Event) → own_refusal w.ballots e (part w (actor_of e)) ≡ None → ((f : StepFault) → IsListFault e f → f ≡ fault.SentListFull) → IsTaken w e
unless-full laws w e own only = go (list-second laws w e own)
  where
    go : OnlyList e (refusal w e) → IsTaken w e
    go (inl h) = inl h
    go (inr h) = inr (h.1 ∙ ap Some (only h.0 h.2))

-- a message that is there and is for the actor is read

read-free : {A : Type 0} (into : A → ExactWorld) (is_mine : Message → Bool) (after : Message → A) (done : Message → Effect) (found : Option Message) (m : Message) → found ≡ Some m → is_mine m ≡ true →
    refusal_of (read_in into is_mine after done found) ≡ None
read-free into is_mine after done found m there mine =
    ap (λ o. refusal_of (read_in into is_mine after done o)) there ∙ ap (λ b. refusal_of {A = Stepped} (cond b (Ok (record { world = into (after m); effect = done m })) (Err fault.NotAddressed))) mine

pub takes-taken : (w : ExactWorld) (n k : ℕ) (u : World) → IsSound w → Happens (setting_of w) (forget w) (event.Take n k) u → NamesItsMessage w (event.Take n k) → refusal w (event.Take n k) ≡ None
unfolding step
takes-taken w n k u sound h named =
    let before = h.3 in
    let v = node-there w n before.0 before.1 _ u sound before.3 in
    let idle = node-idle v.node.phase (ap (λ (x : Node). x.phase) v.seen ∙ takes-needs before.2) in
    ap (λ o. refusal_of (by_actor w (with_node_at w n) o (λ (x : ExactNode). takes_in n k x x.phase))) v.was
    ∙ ap (λ p. refusal_of (finishes w (with_node_at w n) (takes_in n k v.node p))) idle
    ∙ read-free (with_node_at w n) (λ m. is_for_node m n) (decided_on v.node) (λ m. effect.Took m (changes v.node.kept.problem v.node.kept.entries m)) (numbered w.sent k) named.0 named.1 named.2

pub hears-taken : (w : ExactWorld) (c k : ℕ) (u : World) → Happens (setting_of w) (forget w) (event.Hear c k) u → NamesItsMessage w (event.Hear c k) → refusal w (event.Hear c k) ≡ None
unfolding step
hears-taken w c k u h named =
    let before = h.3 in
    let v = client-there w c before.0 before.1 _ u before.3 in
    let nodes = node_count w.ballots in
    let up : is_down v.client.phase ≡ false = awake v.client.phase (λ e. hears-needs before.2 (sym (ap (λ (x : Client). x.phase) v.seen) ∙ e)) in
    ap (λ o. refusal_of (by_actor w (with_client_at w c) o (hears nodes c k))) v.was
    ∙ ap (λ b. refusal_of (finishes w (with_client_at w c) (cond b (Err fault.Down) (reads k (λ m. is_for_client m c) (after_hearing nodes c v.client) (λ m. effect.Heard m (heard_in nodes c v.client.kept v.client.phase m)))))) up
    ∙ read-free (with_client_at w c) (λ m. is_for_client m c) (after_hearing nodes c v.client) (λ m. effect.Heard m (heard_in nodes c v.client.kept v.client.phase m)) (numbered w.sent k) named.0 named.1 named.2

pub step-taken : ModelLaws → (w : ExactWorld) (e : Event) (u : World) → IsSound w → Happens (setting_of w) (forget w) e u → NamesItsMessage w e → IsTaken w e
step-taken laws w (event.Begin c m x place) u sound h named =
    unless-full laws w (event.Begin c m x place) (by-client-free (Begins w.ballots c m x place) w c (λ b k. begins_in b c m x place k k.phase) u h (begins-may w.ballots c m x place)) (λ f z. absurd z)
step-taken laws w (event.Try (actor.Node n)) u sound h named =
    unless-full laws w (event.Try (actor.Node n)) (by-node-free TriesStation w n (λ v. tries_station_in v v.phase) u sound h tries-station-may) (λ f z. absurd z)
step-taken laws w (event.Try (actor.Client c)) u sound h named =
    unless-full laws w (event.Try (actor.Client c)) (by-client-free TriesAttempt w c (λ b k. tries_attempt_in k k.phase) u h tries-attempt-may) (λ f z. absurd z)
step-taken laws w (event.Kept (actor.Node n)) u sound h named =
    unless-full laws w (event.Kept (actor.Node n)) (by-node-free KeepsStation w n (λ v. keeps_station_in v v.phase) u sound h keeps-station-may) (λ f z. absurd z)
step-taken laws w (event.Kept (actor.Client c)) u sound h named =
    unless-full laws w (event.Kept (actor.Client c)) (by-client-free KeepsAttempt w c (λ b k. keeps_attempt_in k k.phase) u h keeps-attempt-may) (λ f z. absurd z)
step-taken laws w (event.SayTo c n) u sound h named =
    let says = h.1 in
    let k = client-there w c says.0 says.0 says.1 u says.3 in
    unless-full laws w (event.SayTo c n)
    (client-free w c (λ b k. tells b c n k) k.client k.was (tells-may w.ballots c n k.client says.1 h.0 (subst (λ b. Tells c n b says.1) (sym k.seen) says.2))) (λ f z. z)
step-taken laws w (event.Say n) u sound h named =
    let v = node-there w n h.0 h.1 h.2 u sound h.4 in
    unless-full laws w (event.Say n) (node-free w n (λ x. says_in x x.phase) v.node v.was (says-may v.node h.1 h.2 (subst (λ b. Says b h.1 h.2) (sym v.seen) h.3))) (λ f z. z)
step-taken laws w (event.Take n k) u sound h named = inl (takes-taken w n k u sound h named)
step-taken laws w (event.Hear c k) u sound h named = inl (hears-taken w c k u h named)
step-taken laws w (event.Enter c) u sound h named =
    unless-full laws w (event.Enter c) (by-client-free (Enters w.ballots) w c (λ b k. enters_in b k k.phase) u h (enters-may w.ballots)) (λ f z. absurd z)
step-taken laws w (event.Leave c) u sound h named =
    unless-full laws w (event.Leave c) (by-client-free Leaves w c (λ b k. leaves_in k k.phase) u h leaves-may) (λ f z. absurd z)
step-taken laws w (event.Soften c) u sound h named =
    unless-full laws w (event.Soften c) (by-client-free Softens w c (λ b k. softens_in k k.phase) u h softens-may) (λ f z. absurd z)
step-taken laws w (event.Fall (actor.Node n)) u sound h named =
    unless-full laws w (event.Fall (actor.Node n)) (by-node-free NodeFalls w n (λ v. node_falls_in v v.phase) u sound h node-falls-may) (λ f z. absurd z)
step-taken laws w (event.Fall (actor.Client c)) u sound h named =
    unless-full laws w (event.Fall (actor.Client c)) (by-client-free ClientFalls w c (λ b k. client_falls_in k k.phase) u h client-falls-may) (λ f z. absurd z)
step-taken laws w (event.Rise (actor.Node n) age) u sound h named =
    unless-full laws w (event.Rise (actor.Node n) age) (by-node-free (NodeRises age) w n (λ v. node_rises_in age v v.phase) u sound h (node-rises-may age)) (λ f z. absurd z)
step-taken laws w (event.Rise (actor.Client c) age) u sound h named =
    unless-full laws w (event.Rise (actor.Client c) age) (by-client-free (ClientRises age) w c (λ b k. client_rises_in age k k.phase) u h (client-rises-may age)) (λ f z. absurd z)
step-taken laws w (event.Switch n p) u sound h named =
    unless-full laws w (event.Switch n p) (by-node-free (Switches n p) w n (λ v. switches_in n p v v.phase) u sound h (switches-may n p)) (λ f z. absurd z)
