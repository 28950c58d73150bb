-- On a way in the client comes up, those that are down rise, and then nobody else is disturbed.
use Rattle.std.proofs.Common.{◌≡◌, ◌≢◌, ℕ, ◌+◌, ◌<◌, ◌≤◌, ◌⊎◌, Bool, true, List, [], ◌∷◌, ◌++◌, length, None, Some, suc, refl, sym, ◌∙◌, ap, subst, inl, inr, arith}
use Rattle.std.proofs.lemmas.Bool.{cases_eq}
use Rattle.lock_messages.specs.declared.ids.TheConstants.{MAX_ATTEMPT}
use Rattle.lock_messages.specs.declared.ids.Actor.{Actor}
use Rattle.lock_messages.specs.declared.ids.Actor.TheVariants as actor
use Rattle.lock_model.specs.Ballots.{HasAnyNode}
use Rattle.lock_model.specs.Decisions.{Among}
use Rattle.world_model.specs.declared.TheConstants.{MAX_MESSAGES}
use Rattle.world_model.specs.declared.events.Age.TheVariants.{Old}
use Rattle.world_model.specs.declared.events.Effect.TheVariants as effect
use Rattle.world_model.specs.declared.events.Event.{Event}
use Rattle.world_model.specs.declared.events.Event.TheVariants as event
use Rattle.world_model.specs.declared.exact.ExactClient.{ExactClient}
use Rattle.world_model.specs.declared.exact.ExactClientPhase.{ExactClientPhase}
use Rattle.world_model.specs.declared.exact.ExactClientPhase.TheVariants as client
use Rattle.world_model.specs.declared.exact.ExactNode.{ExactNode}
use Rattle.world_model.specs.declared.exact.ExactNodePhase.{ExactNodePhase}
use Rattle.world_model.specs.declared.exact.ExactNodePhase.TheVariants as node
use Rattle.world_model.specs.declared.exact.ExactWorld.{ExactWorld}
use Rattle.world_model.specs.declared.ways.Want.{Want}
use Rattle.world_model.specs.Worlds.{NodeDown, NodeIdle, Decided, Stored, Node, ClientDown, ClientIdle, Chosen, Asking, IsIn, Client, World, Setting, HasClient}
use Rattle.world_model.specs.ExactWorlds.{numbered, with_node_at, with_client_at, Stepped}
use Rattle.world_model.specs.Forgetting.{station_of, present_of, node_phase_of, client_phase_of, node_numbered, client_numbered, forget, setting_of, IsSound}
use Rattle.world_model.specs.Numbered.{numbered-there}
use Rattle.world_model.specs.Advice.{coming_up, node_numbers, client_numbers}
use Rattle.world_model.specs.Ways.{IsUp, HasActor}
use Rattle.world_model.specs.ExactWays.{load, SetsOut, every_node, HasRun, HasBegun, HasAttempt}
use Rattle.world_model.proofs.Deeds.{ModelLaws}
use Rattle.world_model.proofs.Costs.{cost}
use Rattle.world_model.proofs.Nearer.{left-up, node-among, client-among}
use Rattle.world_model.proofs.Searches.{numbers-among, among-clients}
use Rattle.world_model.proofs.Raises.{Stays, still-up}
use Rattle.world_model.proofs.OnTheWay.{run-more, OnTheWay}
use Rattle.world_model.proofs.Prefixes.{Risen, none-risen, risen-on, client-risen, node-risen, client-rises-step, node-rises-step}
use Rattle.world_model.proofs.OwnRests.{CameUp, came-up}
use Rattle.world_model.proofs.OwedFacts.{owed-load}
use Rattle.world_model.proofs.ExactWaysIn.{run-join, leads-in, gets-in, fine-there, out-risen}
use Rattle.world_model.proofs.ListFacts.{among-append}
use Rattle.world_laws.specs.MildWays.{IsRiseOfDown, WaysInAreMild}

-- those of some numbers are up at the end of a run in which nobody rises but who is down, and nothing else happens
record OnlyRisen (a : Want) (y : ExactWorld) (IsRaised : World → Type 0) : Type 0 where
  events : List Event
  world : ExactWorld
  run : HasRun y events world
  risen : Risen a y world
  only : (e : Event) → Among e events → IsRiseOfDown (forget y) e
  raised : IsRaised (forget world)

only-one : (w : World) (who : Actor) → ¬ (IsUp w who) → (e : Event) → Among e (event.Rise who Old ∷ []) → IsRiseOfDown w e
only-one w who down e (inl is) = (who, is, down)
only-one w who down e (inr m) = absurd m

-- who is down later was down before
only-more : (y z : ExactWorld) → Stays (forget y) (forget z) → (es fs : List Event) → ((e : Event) → Among e es → IsRiseOfDown (forget y) e) → ((e : Event) → Among e fs → IsRiseOfDown (forget z) e) →
    (e : Event) → Among e (es ++ fs) → IsRiseOfDown (forget y) e
only-more y z stays es fs first rest e m = elim ((among-append e es fs).0 m) [
  | inl here ↦ first e here
  | inr there ↦ let r = rest e there in (r.0, r.1, λ up. r.2 (still-up (forget y) (forget z) stays r.0 up))
]

raise-node : ModelLaws → (a : Want) (y : ExactWorld) (n : ℕ) → IsSound y → HasAnyNode y.ballots n → OnlyRisen a y (λ w. IsUp w (actor.Node n))
raise-node laws a y n sound known = go v.0 v.1 v.0.phase refl
  where
    v : (v : ExactNode) × (numbered y.nodes n ≡ Some v)
    v = numbered-there y.nodes n known.0 (omega (arith, known.1, sound.nodes))

    up-already : (x : ExactNode) → numbered y.nodes n ≡ Some x → node_phase_of x.phase ≢ NodeDown → OnlyRisen a y (λ w. IsUp w (actor.Node n))
    up-already x was up = record { events = []; world = y; run = refl; risen = none-risen a y sound; only = λ e m. absurd m; raised = λ e. up (sym (ap (λ o. (node_numbered o).phase) was) ∙ e) }

    go : (x : ExactNode) → numbered y.nodes n ≡ Some x → (p : ExactNodePhase) → x.phase ≡ p → OnlyRisen a y (λ w. IsUp w (actor.Node n))
    go x was node.Down is =
        let r = node-risen laws a y n x sound was is in
        let t : Stepped = record { world = with_node_at y n (record { kept = x.kept; tried = None; phase = node.Idle }); effect = effect.Up } in
        record { events = event.Rise (actor.Node n) Old ∷ []; world = t.world; run = run-more y [] y (event.Rise (actor.Node n) Old) t refl (node-rises-step y n x was is); risen = r.0; only = only-one (forget y) (actor.Node n) (λ up. up (ap (λ o. (node_numbered o).phase) was ∙ ap node_phase_of is)); raised = r.1 }
    go x was node.Idle is = up-already x was (λ e. let z : NodeIdle ≡ NodeDown = ap node_phase_of (sym is) ∙ e in cc)
    go x was (node.Decided st replies) is = up-already x was (λ e. let z : Decided (station_of st) replies ≡ NodeDown = ap node_phase_of (sym is) ∙ e in cc)
    go x was (node.Stored replies) is = up-already x was (λ e. let z : Stored replies ≡ NodeDown = ap node_phase_of (sym is) ∙ e in cc)

raise-client : ModelLaws → (a : Want) (y : ExactWorld) (c : ℕ) → IsSound y → HasClient (setting_of y) c → OnlyRisen a y (λ w. IsUp w (actor.Client c))
raise-client laws a y c sound known = go k.0 k.1 k.0.phase refl
  where
    k : (k : ExactClient) × (numbered y.clients c ≡ Some k)
    k = numbered-there y.clients c known.0 known.1

    up-already : (j : ExactClient) → numbered y.clients c ≡ Some j → client_phase_of j.phase ≢ ClientDown → OnlyRisen a y (λ w. IsUp w (actor.Client c))
    up-already j was up = record { events = []; world = y; run = refl; risen = none-risen a y sound; only = λ e m. absurd m; raised = λ e. up (sym (ap (λ o. (client_numbered o).phase) was) ∙ e) }

    go : (j : ExactClient) → numbered y.clients c ≡ Some j → (p : ExactClientPhase) → j.phase ≡ p → OnlyRisen a y (λ w. IsUp w (actor.Client c))
    go j was client.Down is =
        let r = client-risen laws a y c j sound was is in
        let t : Stepped = record { world = with_client_at y c (record { kept = j.kept; tried = None; phase = client.Idle }); effect = effect.Up } in
        record { events = event.Rise (actor.Client c) Old ∷ []; world = t.world; run = run-more y [] y (event.Rise (actor.Client c) Old) t refl (client-rises-step y c j was is); risen = r.0; only = only-one (forget y) (actor.Client c) (λ up. up (ap (λ o. (client_numbered o).phase) was ∙ ap client_phase_of is)); raised = r.1 }
    go j was client.Idle is = up-already j was (λ e. let z : ClientIdle ≡ ClientDown = ap client_phase_of (sym is) ∙ e in cc)
    go j was (client.Chosen t place) is = up-already j was (λ e. let z : Chosen t place ≡ ClientDown = ap client_phase_of (sym is) ∙ e in cc)
    go j was (client.Asking p) is = up-already j was (λ e. let z : Asking (present_of p) ≡ ClientDown = ap client_phase_of (sym is) ∙ e in cc)
    go j was (client.Inside p) is = up-already j was (λ e. let z : IsIn (present_of p) ≡ ClientDown = ap client_phase_of (sym is) ∙ e in cc)

raise-more : (a : Want) (y : ExactWorld) (who : ℕ → Actor) (n : ℕ) (ns : List ℕ) (first : OnlyRisen a y (λ w. IsUp w (who n))) → OnlyRisen a first.world (λ w. (k : ℕ) → Among k ns → IsUp w (who k)) →
    OnlyRisen a y (λ w. (k : ℕ) → Among k (n ∷ ns) → IsUp w (who k))
raise-more a y who n ns first rest = record {
  events = first.events ++ rest.events;
  world = rest.world;
  run = run-join y first.events first.world rest.events rest.world first.run rest.run;
  risen = risen-on a y first.world rest.world first.risen rest.risen;
  only = only-more y first.world first.risen.stays first.events rest.events first.only rest.only;
  raised = each;
}
  where
    each : (k : ℕ) → Among k (n ∷ ns) → IsUp (forget rest.world) (who k)
    each k (inl e) = subst (λ j. IsUp (forget rest.world) (who j)) (sym e) (still-up (forget first.world) (forget rest.world) rest.risen.stays (who n) first.raised)
    each k (inr m) = rest.raised k m

raise-nodes : ModelLaws → (a : Want) (y : ExactWorld) (ns : List ℕ) → IsSound y → ((n : ℕ) → Among n ns → HasAnyNode y.ballots n) → OnlyRisen a y (λ w. (n : ℕ) → Among n ns → IsUp w (actor.Node n))
raise-nodes laws a y [] sound known = record { events = []; world = y; run = refl; risen = none-risen a y sound; only = λ e m. absurd m; raised = λ n m. absurd m }
raise-nodes laws a y (n ∷ ns) sound known =
    let first = raise-node laws a y n sound (known n (inl refl)) in
    raise-more a y actor.Node n ns first (raise-nodes laws a first.world ns first.risen.sound (λ k m. subst (λ (s : Setting). HasAnyNode s.ballots k) (sym first.risen.setting) (known k (inr m))))

raise-clients : ModelLaws → (a : Want) (y : ExactWorld) (cs : List ℕ) → IsSound y → ((c : ℕ) → Among c cs → HasClient (setting_of y) c) → OnlyRisen a y (λ w. (c : ℕ) → Among c cs → IsUp w (actor.Client c))
raise-clients laws a y [] sound known = record { events = []; world = y; run = refl; risen = none-risen a y sound; only = λ e m. absurd m; raised = λ c m. absurd m }
raise-clients laws a y (c ∷ cs) sound known =
    let first = raise-client laws a y c sound (known c (inl refl)) in
    raise-more a y actor.Client c cs first (raise-clients laws a first.world cs first.risen.sound (λ k m. subst (λ s. HasClient s k) (sym first.risen.setting) (known k (inr m))))

raise-all : ModelLaws → (a : Want) (y : ExactWorld) → IsSound y → OnlyRisen a y (λ w. (who : Actor) → HasActor (setting_of y) who → IsUp w who)
raise-all laws a y sound =
    record {
      events = nodes.events ++ clients.events;
      world = clients.world;
      run = run-join y nodes.events nodes.world clients.events clients.world nodes.run clients.run;
      risen = risen-on a y nodes.world clients.world nodes.risen clients.risen;
      only = only-more y nodes.world nodes.risen.stays nodes.events clients.events nodes.only clients.only;
      raised = all;
    }
  where
    s : Setting
    s = setting_of y

    nodes : OnlyRisen a y (λ w. (n : ℕ) → Among n (node_numbers s) → IsUp w (actor.Node n))
    nodes = raise-nodes laws a y (node_numbers s) sound (numbers-among s)

    clients : OnlyRisen a nodes.world (λ w. (c : ℕ) → Among c (client_numbers s) → IsUp w (actor.Client c))
    clients = raise-clients laws a nodes.world (client_numbers s) nodes.risen.sound (λ c m. subst (λ t. HasClient t c) (sym nodes.risen.setting) (among-clients s c m))

    all : (who : Actor) → HasActor s who → IsUp (forget clients.world) who
    all (actor.Node n) known = still-up (forget nodes.world) (forget clients.world) clients.risen.stays (actor.Node n) (nodes.raised n (node-among s n known))
    all (actor.Client c) known = clients.raised c (client-among s c known)

-- who is down once the client has come up was down before
came-down : (a : Want) (x : ExactWorld) (events : List Event) (y : ExactWorld) → CameUp a x events y → (who : Actor) → ¬ (IsUp (forget y) who) → ¬ (IsUp (forget x) who)
came-down a x events y came (actor.Node n) down = λ up. down (λ e. up (ap (λ (v : Node). v.phase) (sym (came.nodes n)) ∙ e))
came-down a x events y came (actor.Client d) down = elim (cases_eq d a.client) [
  | inl same ↦ absurd (down (subst (λ c. IsUp (forget y) (actor.Client c)) (sym same) (left-up a ((forget y).clients a.client).kept ((forget y).clients a.client).phase came.left)))
  | inr apart ↦ λ up. down (λ e. up (ap (λ (k : Client). k.phase) (sym (came.others d apart)) ∙ e))
]

came : ModelLaws → (x : ExactWorld) (a : Want) → IsSound x → HasClient (setting_of x) a.client → HasAttempt (forget x) a → (y : ExactWorld) × CameUp a x (coming_up a ((forget x).clients a.client).phase) y
came laws x a sound known attempt =
    let k = numbered-there x.clients a.client known.0 known.1 in
    let left : k.0.kept < MAX_ATTEMPT ⊎ HasBegun a (client_phase_of k.0.phase) = subst (λ (j : Client). (j.kept < MAX_ATTEMPT) ⊎ HasBegun a j.phase) (ap client_numbered k.1) attempt in
    subst (λ (j : Client). (y : ExactWorld) × CameUp a x (coming_up a j.phase) y) (sym (ap client_numbered k.1)) (came-up laws a x sound k.0 k.1 left)

-- all are up: from here on the way is gentle
gentle-start : (chosen : ℕ → Bool) (a : Want) (z : ExactWorld) → IsSound z → SetsOut chosen a z → OnTheWay true chosen a (length z.sent + load chosen a z) z [] z
gentle-start chosen a z sound out = record {
  run = refl;
  setting = refl;
  sound = sound;
  fine = fine-there chosen a z sound out;
  room = (let owes = owed-load chosen a z in omega (arith, owes));
  such = λ g e m. absurd m;
  ups = λ g who up. inl up;
}

pub mild-ways : ModelLaws → WaysInAreMild
mild-ways laws x a sound possible attempt room =
    let chosen = every_node (setting_of x) in
    let c = came laws x a sound possible.client attempt in
    let all = raise-all laws a c.0 c.1.sound in
    let out = out-risen a x (coming_up a ((forget x).clients a.client).phase) c.0 all.world possible sound.crosses c.1 all.risen (λ who known. all.raised who (subst (λ s. HasActor s who) (sym c.1.setting) known)) in
    let fits : length all.world.sent + load chosen a all.world ≤ MAX_MESSAGES =
    (let one = c.1.load chosen in let two = all.risen.load chosen in let same : length all.world.sent ≡ length x.sent = ap length (all.risen.sent ∙ c.1.sent) in omega (arith, one, two, same, room)) in
    let end = gets-in laws true chosen a (length all.world.sent + load chosen a all.world) fits all.world (suc (cost (setting_of all.world) chosen a (forget all.world))) [] all.world (gentle-start chosen a all.world all.risen.sound out) (omega arith) in
    let up = coming_up a ((forget x).clients a.client).phase in
    record {
      rises = all.events;
      rest = end.0;
      leads = leads-in x a ((up ++ all.events) ++ end.0) end.1 (run-join x (up ++ all.events) all.world end.0 end.1 (run-join x up c.0 all.events all.world c.1.run all.run) end.2.run) end.3;
      only_down = λ e m. (let r = all.only e m in (r.0, r.1, came-down a x up c.0 c.1 r.0 r.2));
      gentle = λ e m. (end.2.such refl e m).0;
    }
