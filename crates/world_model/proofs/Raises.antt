-- Whoever is down may rise, and then all are up; who is up stays as it is.
use Rattle.std.proofs.Common.{◌≡◌, ◌≢◌, ℕ, List, [], ◌∷◌, ◌++◌, Option, None, refl, sym, ◌∙◌, ap, subst, inl, inr}
use Rattle.lock_messages.specs.declared.ids.Actor.{Actor}
use Rattle.lock_messages.specs.declared.ids.Actor.TheVariants as actor
use Rattle.lock_model.specs.Ballots.{HasAnyNode}
use Rattle.lock_model.specs.Stations.{Station}
use Rattle.lock_model.specs.Decisions.{Among}
use Rattle.world_model.specs.declared.events.Age.TheVariants.{Old}
use Rattle.world_model.specs.declared.events.Event.{Event}
use Rattle.world_model.specs.declared.events.Event.TheVariants as event
use Rattle.world_model.specs.Worlds.{NodePhase, NodeDown, NodeIdle, Decided, Stored, Node, ClientPhase, ClientDown, ClientIdle, Chosen, Asking, IsIn, Client, World, Setting, HasClient, Run, node_rises_old, client_rises_old, client_falls}
use Rattle.world_model.specs.Ways.{IsUp}
use Rattle.world_model.proofs.Puts.{put_node, put-node, put_client, put-client}

-- one run after the other
pub run-append : (s : Setting) (events more : List Event) (w v u : World) → Run s w events v → Run s v more u → Run s w (events ++ more) u
run-append s [] more w v u run next = subst (λ x. Run s x more u) run next
run-append s (e ∷ events) more w v u run next = (run.0, run.1, run-append s events more run.0 v u run.2 next)

-- who is up stays as it is
pub record Stays (w v : World) : Type 0 where
  pub nodes : (n : ℕ) → IsUp w (actor.Node n) → v.nodes n ≡ w.nodes n
  pub clients : (c : ℕ) → IsUp w (actor.Client c) → v.clients c ≡ w.clients c

pub still-up : (w v : World) → Stays w v → (who : Actor) → IsUp w who → IsUp v who
still-up w v stays (actor.Node n) up = λ e. up (ap (λ (x : Node). x.phase) (sym (stays.nodes n up)) ∙ e)
still-up w v stays (actor.Client c) up = λ e. up (ap (λ (x : Client). x.phase) (sym (stays.clients c up)) ∙ e)

pub stays-on : (w v u : World) → Stays w v → Stays v u → Stays w u
stays-on w v u first second = record {
  nodes = λ n up. second.nodes n (still-up w v first (actor.Node n) up) ∙ first.nodes n up;
  clients = λ c up. second.clients c (still-up w v first (actor.Client c) up) ∙ first.clients c up;
}

-- a run after which these are up, and who was up is as it was
pub record Raised (s : Setting) (w : World) (IsRaised : World → Type 0) : Type 0 where
  pub events : List Event
  pub world : World
  pub run : Run s w events world
  pub stays : Stays w world
  pub raised : IsRaised world

pub same-world : (w : World) → Stays w w
same-world w = record { nodes = λ n up. refl; clients = λ c up. refl }

-- a node

pub raises-node : (s : Setting) (w : World) (n : ℕ) → HasAnyNode s.ballots n → Raised s w (λ v. IsUp v (actor.Node n))
raises-node s w n known = go (w.nodes n).kept (w.nodes n).tried (w.nodes n).phase refl
  where
    up-already : (phase : NodePhase) → (w.nodes n).phase ≡ phase → phase ≢ NodeDown → Raised s w (λ v. IsUp v (actor.Node n))
    up-already phase is up = record { events = []; world = w; run = refl; stays = same-world w; raised = λ e. up (sym is ∙ e) }

    down : (kept : Station) (tried : Option Station) → w.nodes n ≡ record { kept = kept; tried = tried; phase = NodeDown } → Raised s w (λ v. IsUp v (actor.Node n))
    down kept tried was =
        let before : Node = record { kept = kept; tried = tried; phase = NodeDown } in
        let after : Node = record { kept = kept; tried = None; phase = NodeIdle } in
        let of = put-node s n w before after [] known was in
        record {
          events = event.Rise (actor.Node n) Old ∷ [];
          world = put_node w n after [];
          run = (put_node w n after [], (before, after, node_rises_old kept tried, of), refl);
          stays = record { nodes = λ k up. of.others k (λ e. up (ap (λ j. (w.nodes j).phase) e ∙ ap (λ (x : Node). x.phase) was)); clients = λ c up. of.clients c };
          raised = λ e. let z : NodeIdle ≡ NodeDown = ap (λ (x : Node). x.phase) (sym of.is) ∙ e in cc;
        }

    go : (kept : Station) (tried : Option Station) (phase : NodePhase) → w.nodes n ≡ record { kept = kept; tried = tried; phase = phase } → Raised s w (λ v. IsUp v (actor.Node n))
    go kept tried NodeDown was = down kept tried was
    go kept tried NodeIdle was = up-already NodeIdle (ap (λ (x : Node). x.phase) was) (λ e. let z : NodeIdle ≡ NodeDown = e in cc)
    go kept tried (Decided st replies) was = up-already (Decided st replies) (ap (λ (x : Node). x.phase) was) (λ e. let z : Decided st replies ≡ NodeDown = e in cc)
    go kept tried (Stored replies) was = up-already (Stored replies) (ap (λ (x : Node). x.phase) was) (λ e. let z : Stored replies ≡ NodeDown = e in cc)

-- a client

pub raises-client : (s : Setting) (w : World) (c : ℕ) → HasClient s c → Raised s w (λ v. IsUp v (actor.Client c))
raises-client s w c known = go (w.clients c).kept (w.clients c).tried (w.clients c).phase refl
  where
    up-already : (phase : ClientPhase) → (w.clients c).phase ≡ phase → phase ≢ ClientDown → Raised s w (λ v. IsUp v (actor.Client c))
    up-already phase is up = record { events = []; world = w; run = refl; stays = same-world w; raised = λ e. up (sym is ∙ e) }

    down : (kept : ℕ) (tried : Option ℕ) → w.clients c ≡ record { kept = kept; tried = tried; phase = ClientDown } → Raised s w (λ v. IsUp v (actor.Client c))
    down kept tried was =
        let before : Client = record { kept = kept; tried = tried; phase = ClientDown } in
        let after : Client = record { kept = kept; tried = None; phase = ClientIdle } in
        let of = put-client s c w before after [] known was in
        record {
          events = event.Rise (actor.Client c) Old ∷ [];
          world = put_client w c after [];
          run = (put_client w c after [], (before, after, client_rises_old kept tried, of), refl);
          stays = record { nodes = λ n up. of.nodes n; clients = λ k up. of.others k (λ e. up (ap (λ j. (w.clients j).phase) e ∙ ap (λ (x : Client). x.phase) was)) };
          raised = λ e. let z : ClientIdle ≡ ClientDown = ap (λ (x : Client). x.phase) (sym of.is) ∙ e in cc;
        }

    go : (kept : ℕ) (tried : Option ℕ) (phase : ClientPhase) → w.clients c ≡ record { kept = kept; tried = tried; phase = phase } → Raised s w (λ v. IsUp v (actor.Client c))
    go kept tried ClientDown was = down kept tried was
    go kept tried ClientIdle was = up-already ClientIdle (ap (λ (x : Client). x.phase) was) (λ e. let z : ClientIdle ≡ ClientDown = e in cc)
    go kept tried (Chosen t place) was = up-already (Chosen t place) (ap (λ (x : Client). x.phase) was) (λ e. let z : Chosen t place ≡ ClientDown = e in cc)
    go kept tried (Asking p) was = up-already (Asking p) (ap (λ (x : Client). x.phase) was) (λ e. let z : Asking p ≡ ClientDown = e in cc)
    go kept tried (IsIn p) was = up-already (IsIn p) (ap (λ (x : Client). x.phase) was) (λ e. let z : IsIn p ≡ ClientDown = e in cc)

-- all of some numbers

raised-more : (s : Setting) (w : World) (n : ℕ) (ns : List ℕ) (who : ℕ → Actor) (first : Raised s w (λ v. IsUp v (who n))) → Raised s first.world (λ v. (k : ℕ) → Among k ns → IsUp v (who k)) →
    Raised s w (λ v. (k : ℕ) → Among k (n ∷ ns) → IsUp v (who k))
raised-more s w n ns who first rest = record {
  events = first.events ++ rest.events;
  world = rest.world;
  run = run-append s first.events rest.events w first.world rest.world first.run rest.run;
  stays = stays-on w first.world rest.world first.stays rest.stays;
  raised = each;
}
  where
    each : (k : ℕ) → Among k (n ∷ ns) → IsUp rest.world (who k)
    each k (inl e) = subst (λ j. IsUp rest.world (who j)) (sym e) (still-up first.world rest.world rest.stays (who n) first.raised)
    each k (inr m) = rest.raised k m

pub raises-nodes : (s : Setting) (w : World) (ns : List ℕ) → ((n : ℕ) → Among n ns → HasAnyNode s.ballots n) → Raised s w (λ v. (n : ℕ) → Among n ns → IsUp v (actor.Node n))
raises-nodes s w [] known = record { events = []; world = w; run = refl; stays = same-world w; raised = λ n m. absurd m }
raises-nodes s w (n ∷ ns) known =
    let first = raises-node s w n (known n (inl refl)) in
    raised-more s w n ns actor.Node first (raises-nodes s first.world ns (λ k m. known k (inr m)))

pub raises-clients : (s : Setting) (w : World) (cs : List ℕ) → ((c : ℕ) → Among c cs → HasClient s c) → Raised s w (λ v. (c : ℕ) → Among c cs → IsUp v (actor.Client c))
raises-clients s w [] known = record { events = []; world = w; run = refl; stays = same-world w; raised = λ c m. absurd m }
raises-clients s w (c ∷ cs) known =
    let first = raises-client s w c (known c (inl refl)) in
    raised-more s w c cs actor.Client first (raises-clients s first.world cs (λ k m. known k (inr m)))

-- A client comes to rest at once where it may fall: what it has kept stays.
pub record Rested (s : Setting) (w : World) (c : ℕ) : Type 0 where
  pub events : List Event
  pub world : World
  pub run : Run s w events world
  pub kept : (world.clients c).kept ≡ (w.clients c).kept
  pub idle : (world.clients c).phase ≡ ClientIdle

rises-old : (s : Setting) (w : World) (c : ℕ) (kept : ℕ) (tried : Option ℕ) → HasClient s c → w.clients c ≡ record { kept = kept; tried = tried; phase = ClientDown } → Rested s w c
rises-old s w c kept tried known was =
    let before : Client = record { kept = kept; tried = tried; phase = ClientDown } in
    let after : Client = record { kept = kept; tried = None; phase = ClientIdle } in
    let of = put-client s c w before after [] known was in
    record {
      events = event.Rise (actor.Client c) Old ∷ [];
      world = put_client w c after [];
      run = (put_client w c after [], (before, after, client_rises_old kept tried, of), refl);
      kept = ap (λ (x : Client). x.kept) of.is ∙ sym (ap (λ (x : Client). x.kept) was);
      idle = ap (λ (x : Client). x.phase) of.is;
    }

pub rests-at-once : (s : Setting) (w : World) (c : ℕ) → HasClient s c → Rested s w c
rests-at-once s w c known = go (w.clients c).kept (w.clients c).tried (w.clients c).phase refl
  where
    falls : (kept : ℕ) (tried : Option ℕ) (phase : ClientPhase) → w.clients c ≡ record { kept = kept; tried = tried; phase = phase } → phase ≢ ClientDown → Rested s w c
    falls kept tried phase was up =
        let before : Client = record { kept = kept; tried = tried; phase = phase } in
        let after : Client = record { kept = kept; tried = tried; phase = ClientDown } in
        let of = put-client s c w before after [] known was in
        let v = put_client w c after [] in
        let r = rises-old s v c kept tried known of.is in
        record {
          events = event.Fall (actor.Client c) ∷ r.events;
          world = r.world;
          run = (v, (before, after, client_falls kept tried phase up, of), r.run);
          kept = r.kept ∙ ap (λ (x : Client). x.kept) of.is ∙ sym (ap (λ (x : Client). x.kept) was);
          idle = r.idle;
        }

    go : (kept : ℕ) (tried : Option ℕ) (phase : ClientPhase) → w.clients c ≡ record { kept = kept; tried = tried; phase = phase } → Rested s w c
    go kept tried ClientDown was = rises-old s w c kept tried known was
    go kept tried ClientIdle was = record { events = []; world = w; run = refl; kept = refl; idle = ap (λ (x : Client). x.phase) was }
    go kept tried (Chosen t place) was = falls kept tried (Chosen t place) was (λ e. let z : Chosen t place ≡ ClientDown = e in cc)
    go kept tried (Asking p) was = falls kept tried (Asking p) was (λ e. let z : Asking p ≡ ClientDown = e in cc)
    go kept tried (IsIn p) was = falls kept tried (IsIn p) was (λ e. let z : IsIn p ≡ ClientDown = e in cc)
