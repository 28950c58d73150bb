-- What comes before the moves of a way in, at the exact world: an actor that is down rises, and the client itself
-- comes to rest where what it has chosen is the greatest attempt.
use Rattle.std.proofs.Common.{◌≡◌, ℕ, ◌-◌, ◌≤◌, Bool, true, false, if◌then◌else◌, None, Some, Ok, refl, sym, ◌∙◌, ap, subst, inl, inr, arith}
use Rattle.std.proofs.lemmas.Bool.{cases_eq}
use Rattle.lock_messages.specs.declared.ids.Actor.TheVariants as actor
use Rattle.world_model.specs.declared.events.Age.TheVariants.{Old}
use Rattle.world_model.specs.declared.events.Effect.TheVariants as effect
use Rattle.world_model.specs.declared.events.Event.TheVariants as event
use Rattle.world_model.specs.declared.exact.ExactClient.{ExactClient}
use Rattle.world_model.specs.declared.exact.ExactClientPhase.{ExactClientPhase}
use Rattle.world_model.specs.declared.exact.ExactClientPhase.TheVariants as client
use Rattle.world_model.specs.declared.exact.ExactNode.{ExactNode}
use Rattle.world_model.specs.declared.exact.ExactNodePhase.TheVariants as node
use Rattle.world_model.specs.declared.exact.ExactWorld.{ExactWorld}
use Rattle.world_model.specs.declared.ways.Want.{Want}
use Rattle.world_model.specs.Worlds.{NodeDown, NodeIdle, ClientDown, ClientIdle, Node, Client, Setting}
use Rattle.world_model.specs.Turns.{acts}
use Rattle.world_model.specs.Advice.{node_numbers}
use Rattle.world_model.specs.ExactNodes.{node_rises_in}
use Rattle.world_model.specs.ExactClients.{client_in, is_down, client_falls_in, client_rises_in}
use Rattle.world_model.specs.ExactWorlds.{numbered, with_node_at, with_client_at, finishes, by_actor, step}
use Rattle.world_model.specs.Forgetting.{node_numbered, client_numbered, node_phase_of, client_phase_of, forget, setting_of, IsSound}
use Rattle.world_model.specs.Numbered.{numbered-one, numbered-set-here, numbered-set-there}
use Rattle.world_model.specs.Ways.{IsUp}
use Rattle.world_model.specs.ExactWays.{total_over, load_at, load}
use Rattle.world_model.proofs.Deeds.{ModelLaws}
use Rattle.world_model.proofs.StepFacts.{step-done, same-clients}
use Rattle.world_model.proofs.Nearer.{total-le}
use Rattle.world_model.proofs.Raises.{Stays, stays-on, same-world}

-- The steps.

pub client-rises-step : (x : ExactWorld) (c : ℕ) (k : ExactClient) → numbered x.clients c ≡ Some k → k.phase ≡ client.Down →
    step x (event.Rise (actor.Client c) Old) ≡ Ok (record { world = with_client_at x c (record { kept = k.kept; tried = None; phase = client.Idle }); effect = effect.Up })
unfolding step
client-rises-step x c k was down =
    ap (λ o. by_actor x (with_client_at x c) o (λ j. client_rises_in Old j j.phase)) was ∙ ap (λ p. finishes x (with_client_at x c) (client_rises_in Old k p)) down

pub node-rises-step : (x : ExactWorld) (n : ℕ) (v : ExactNode) → numbered x.nodes n ≡ Some v → v.phase ≡ node.Down →
    step x (event.Rise (actor.Node n) Old) ≡ Ok (record { world = with_node_at x n (record { kept = v.kept; tried = None; phase = node.Idle }); effect = effect.Up })
unfolding step
node-rises-step x n v was down =
    ap (λ o. by_actor x (with_node_at x n) o (λ j. node_rises_in Old j j.phase)) was ∙ ap (λ p. finishes x (with_node_at x n) (node_rises_in Old v p)) down

pub client-falls-step : (x : ExactWorld) (c : ℕ) (k : ExactClient) → numbered x.clients c ≡ Some k → is_down k.phase ≡ false →
    step x (event.Fall (actor.Client c)) ≡ Ok (record { world = with_client_at x c (client_in k client.Down); effect = effect.Down })
unfolding step
client-falls-step x c k was up =
    ap (λ o. by_actor x (with_client_at x c) o (λ j. client_falls_in j j.phase)) was ∙ ap (finishes x (with_client_at x c)) (falls k.phase up)
  where
    falls : (p : ExactClientPhase) → is_down p ≡ false → client_falls_in k p ≡ acts (client_in k client.Down) effect.Down
    falls client.Down e = absurd (let z : true ≡ false = e in cc)
    falls client.Idle e = refl
    falls (client.Chosen t place) e = refl
    falls (client.Asking p) e = refl
    falls (client.Inside p) e = refl

-- What a way in may have to say is the same behind them.

same-load : (chosen : ℕ → Bool) (a : Want) (x y : ExactWorld) → setting_of y ≡ setting_of x → ((n : ℕ) → load_at (setting_of x) a (numbered y.nodes n) ≤ load_at (setting_of x) a (numbered x.nodes n)) → load chosen a y ≤ load chosen a x
same-load chosen a x y setting le =
    subst (λ (s : Setting). total_over (λ n. if chosen n then load_at s a (numbered y.nodes n) else 0) (node_numbers s) ≤ load chosen a x) (sym setting)
    (total-le (λ n. if chosen n then load_at (setting_of x) a (numbered y.nodes n) else 0) (λ n. if chosen n then load_at (setting_of x) a (numbered x.nodes n) else 0) (node_numbers (setting_of x)) each)
  where
    each : (n : ℕ) → (if chosen n then load_at (setting_of x) a (numbered y.nodes n) else 0) ≤ (if chosen n then load_at (setting_of x) a (numbered x.nodes n) else 0)
    each n = go (chosen n)
      where
        go : (b : Bool) → (if b then load_at (setting_of x) a (numbered y.nodes n) else 0) ≤ (if b then load_at (setting_of x) a (numbered x.nodes n) else 0)
        go true = le n
        go false = omega arith

pub client-load : (chosen : ℕ → Bool) (a : Want) (x : ExactWorld) (c : ℕ) (after : ExactClient) → load chosen a (with_client_at x c after) ≤ load chosen a x
client-load chosen a x c after = same-load chosen a x (with_client_at x c after) (same-clients x c after) (λ n. omega arith)

node-load : (chosen : ℕ → Bool) (a : Want) (x : ExactWorld) (n : ℕ) (v : ExactNode) → numbered x.nodes n ≡ Some v → v.phase ≡ node.Down → load chosen a (with_node_at x n (record { kept = v.kept; tried = None; phase = node.Idle })) ≤ load chosen a x
node-load chosen a x n v was down = same-load chosen a x y refl each
  where
    after : ExactNode
    after = record { kept = v.kept; tried = None; phase = node.Idle }

    y : ExactWorld
    y = with_node_at x n after

    here : load_at (setting_of x) a (numbered y.nodes n) ≤ load_at (setting_of x) a (numbered x.nodes n)
    here =
        subst (λ o. load_at (setting_of x) a o ≤ load_at (setting_of x) a (numbered x.nodes n)) (sym (numbered-set-here x.nodes n v after was))
        (subst (λ o. load_at (setting_of x) a (Some after) ≤ load_at (setting_of x) a o) (sym was)
        (subst (λ p. load_at (setting_of x) a (Some after) ≤ load_at (setting_of x) a (Some (record { kept = v.kept; tried = v.tried; phase = p }))) (sym down) (omega arith)))

    each : (k : ℕ) → load_at (setting_of x) a (numbered y.nodes k) ≤ load_at (setting_of x) a (numbered x.nodes k)
    each k = elim (cases_eq k n) [
      | inl e ↦ subst (λ j. load_at (setting_of x) a (numbered y.nodes j) ≤ load_at (setting_of x) a (numbered x.nodes j)) (sym e) here
      | inr apart ↦ subst (λ o. load_at (setting_of x) a o ≤ load_at (setting_of x) a (numbered x.nodes k)) (sym (numbered-set-there x.nodes n k after (numbered-one x.nodes n v was).0 apart)) (omega arith)
    ]

-- Some have risen, and nothing else has happened.
pub record Risen (a : Want) (x y : ExactWorld) : Type 0 where
  pub setting : setting_of y ≡ setting_of x
  pub sound : IsSound y
  pub sent : y.sent ≡ x.sent
  pub load : (chosen : ℕ → Bool) → load chosen a y ≤ load chosen a x
  pub stays : Stays (forget x) (forget y)

pub none-risen : (a : Want) (x : ExactWorld) → IsSound x → Risen a x x
none-risen a x sound = record { setting = refl; sound = sound; sent = refl; load = λ chosen. omega arith; stays = same-world (forget x) }

pub risen-on : (a : Want) (x y z : ExactWorld) → Risen a x y → Risen a y z → Risen a x z
risen-on a x y z first second = record {
  setting = second.setting ∙ first.setting;
  sound = second.sound;
  sent = second.sent ∙ first.sent;
  load = λ chosen. (let one = first.load chosen in let two = second.load chosen in omega (arith, one, two));
  stays = stays-on (forget x) (forget y) (forget z) first.stays second.stays;
}

pub client-risen : ModelLaws → (a : Want) (x : ExactWorld) (c : ℕ) (k : ExactClient) → IsSound x → numbered x.clients c ≡ Some k → k.phase ≡ client.Down →
    Risen a x (with_client_at x c (record { kept = k.kept; tried = None; phase = client.Idle })) × IsUp (forget (with_client_at x c (record { kept = k.kept; tried = None; phase = client.Idle }))) (actor.Client c)
client-risen laws a x c k sound was down = (
  record {
    setting = same-clients x c after;
    sound = (step-done laws x (event.Rise (actor.Client c) Old) (record { world = with_client_at x c after; effect = effect.Up }) (client-rises-step x c k was down)).sound sound;
    sent = refl;
    load = λ chosen. client-load chosen a x c after;
    stays = record { nodes = λ n up. refl; clients = still };
  },
  λ e. let z : ClientIdle ≡ ClientDown = ap (λ o. (client_numbered o).phase) (sym (numbered-set-here x.clients c k after was)) ∙ e in cc,
)
  where
    after : ExactClient
    after = record { kept = k.kept; tried = None; phase = client.Idle }

    was-down : ((forget x).clients c).phase ≡ ClientDown
    was-down = ap (λ o. (client_numbered o).phase) was ∙ ap client_phase_of down

    still : (d : ℕ) → IsUp (forget x) (actor.Client d) → (forget (with_client_at x c after)).clients d ≡ (forget x).clients d
    still d up = ap client_numbered (numbered-set-there x.clients c d after (numbered-one x.clients c k was).0 (λ e. up (ap (λ j. ((forget x).clients j).phase) e ∙ was-down)))

pub node-risen : ModelLaws → (a : Want) (x : ExactWorld) (n : ℕ) (v : ExactNode) → IsSound x → numbered x.nodes n ≡ Some v → v.phase ≡ node.Down →
    Risen a x (with_node_at x n (record { kept = v.kept; tried = None; phase = node.Idle })) × IsUp (forget (with_node_at x n (record { kept = v.kept; tried = None; phase = node.Idle }))) (actor.Node n)
node-risen laws a x n v sound was down = (
  record {
    setting = refl;
    sound = (step-done laws x (event.Rise (actor.Node n) Old) (record { world = with_node_at x n after; effect = effect.Up }) (node-rises-step x n v was down)).sound sound;
    sent = refl;
    load = λ chosen. node-load chosen a x n v was down;
    stays = record { nodes = still; clients = λ c up. refl };
  },
  λ e. let z : NodeIdle ≡ NodeDown = ap (λ o. (node_numbered o).phase) (sym (numbered-set-here x.nodes n v after was)) ∙ e in cc,
)
  where
    after : ExactNode
    after = record { kept = v.kept; tried = None; phase = node.Idle }

    was-down : ((forget x).nodes n).phase ≡ NodeDown
    was-down = ap (λ o. (node_numbered o).phase) was ∙ ap node_phase_of down

    still : (d : ℕ) → IsUp (forget x) (actor.Node d) → (forget (with_node_at x n after)).nodes d ≡ (forget x).nodes d
    still d up = ap node_numbered (numbered-set-there x.nodes n d after (numbered-one x.nodes n v was).0 (λ e. up (ap (λ j. ((forget x).nodes j).phase) e ∙ was-down)))
