-- Tickets listed one entry after the other, and what is asked of an actor.
use Rattle.std.proofs.Common.{◌≡◌, ◌↔◌, ℕ, ◌+◌, ◌<◌, Bool, true, false, cond, List, [], ◌∷◌, ◌++◌, length, take, map, suc, Option, Some, None, Result, Ok, Err, refl, sym, ◌∙◌, ap, subst, arith}
use Rattle.std.specs.Prelude.{slice_get, IfOk, IfSome}
use Rattle.std.specs.List.{flat_map}
use Rattle.std.specs.Option.{option_map}
use Rattle.std.proofs.Math.Seq.{take-suc}
use Rattle.std.proofs.lemmas.List.{append-nil}
use Rattle.std.proofs.lemmas.Grind.{flat_map-append}
use Rattle.std.proofs.lemmas.Option.{slice_get_within, get_or_from_slice_get}
use Rattle.lock_messages.specs.declared.tickets.Mode.{Mode}
use Rattle.lock_messages.specs.declared.tickets.Mode.TheVariants.{Read}
use Rattle.lock_messages.specs.declared.tickets.Ticket.{Ticket}
use Rattle.lock_messages.specs.declared.messages.Message.{Message}
use Rattle.lock_model.specs.Ballots.{Ballot}
use Rattle.lock_model.specs.Decisions.{Among}
use Rattle.lock_model.specs.Stations.{Station, Waits, Cause}
use Rattle.world_actors.specs.Acting.{ActingNode, ActingClient}
use Rattle.world_model.specs.declared.events.StepFault.{StepFault}
use Rattle.world_model.specs.declared.exact.ExactNode.{ExactNode}
use Rattle.world_model.specs.declared.exact.ExactClient.{ExactClient}
use Rattle.world_model.specs.declared.exact.ExactClientPhase.{ExactClientPhase}
use Rattle.world_model.specs.declared.exact.ExactClientPhase.TheVariants as client
use Rattle.world_model.specs.declared.exact.ExactWorld.{ExactWorld}
use Rattle.world_model.specs.ExactWorlds.{numbered}
use Rattle.world_model.specs.Exclusion.{IsExclusive}
use Rattle.world_model.specs.Forgetting.{station_of, present_of, client_phase_of, node_numbered, client_numbered, forget, IsSound}
use Rattle.world_model.specs.Invariants.{IsSafeTicket, IsSafeClient}
use Rattle.world_model.specs.Views.{softened_ticket, present_ticket, ticket_in, ticket_at, ticket_inside}
use Rattle.world_model.specs.Worlds.{World, Present, ClientPhase, ClientDown, ClientIdle, Chosen, Asking, IsIn, present_mode}
use Rattle.world_machine.specs.Listing.{Tells, IsInsideBy, AreWaiting}
use Rattle.world_machine.specs.Machines.{node_part, client_part, world_view}
use Rattle.world_model.specs.Numbered.{numbered-map}
use Rattle.world_opening.proofs.JudgingFacts.{there}

-- one element more
flat_map-next : {A B : Type 0} (f : A → List B) (xs : List A) (i : ℕ) (x : A) → slice_get xs i ≡ Some x → flat_map f (take (i + 1) xs) ≡ flat_map f (take i xs) ++ f x
flat_map-next f xs i x h =
    ap (λ n. flat_map f (take n xs)) (let e : i + 1 ≡ suc i = omega arith in e)
    ∙ ap (flat_map f) (take-suc xs i x (slice_get_within xs i x h) ∙ ap (λ y. take i xs ++ y ∷ []) (get_or_from_slice_get xs i x x h))
    ∙ flat_map-append f (take i xs) (x ∷ []) ∙ ap (λ ys. flat_map f (take i xs) ++ ys) (append-nil (f x))

-- what the element at a place gives is what comes behind that of those before it
pub flat_map-more : {A B : Type 0} (f : A → List B) (xs : List A) (i : ℕ) (ys : List B) → i < length xs → ((x : A) → slice_get xs i ≡ Some x → ys ≡ f x) →
    flat_map f (take i xs) ++ ys ≡ flat_map f (take (i + 1) xs)
flat_map-more f xs i ys within gives =
    let at = there xs i within in
    ap (λ zs. flat_map f (take i xs) ++ zs) (gives at.0 at.1) ∙ sym (flat_map-next f xs i at.0 at.1)

-- the part of a client under its number
pub client-at : (w : ExactWorld) (cs : List ActingClient) (c : ℕ) (k : ActingClient) → w.clients ≡ map client_part cs → numbered cs c ≡ Some k → numbered w.clients c ≡ Some k.part
client-at w cs c k is at = ap (λ xs. numbered xs c) is ∙ numbered-map client_part cs c ∙ ap (option_map client_part) at

-- the actors of a world, from the lists that it is seen by
pub nodes-of : (w : ExactWorld) (b : List Ballot) (ns : List ActingNode) (cs : List ActingClient) (sent : List Message) (seen : List ActingNode) → world_view b ns cs sent ≡ w → seen ≡ ns → w.nodes ≡ map node_part seen
nodes-of w b ns cs sent seen is same = ap (λ (v : ExactWorld). v.nodes) (sym is) ∙ ap (map node_part) (sym same)

pub clients-of : (w : ExactWorld) (b : List Ballot) (ns : List ActingNode) (cs : List ActingClient) (sent : List Message) (seen : List ActingClient) → world_view b ns cs sent ≡ w → seen ≡ cs → w.clients ≡ map client_part seen
clients-of w b ns cs sent seen is same = ap (λ (v : ExactWorld). v.clients) (sym is) ∙ ap (map client_part) (sym same)

-- what is answered is such, where all that is there is
pub tells-such : {A B : Type 0} (view : A → B) (there : Option B) (P : B → Type 0) (r : Result A StepFault) → ((b : B) → there ≡ Some b → P b) → Tells view there r → IfOk r (λ a. P (view a))
tells-such view there P (Ok a) such told = such (view a) told
tells-such view there P (Err f) such told = tt

-- a list made of what a node has kept is such, where that of each such station is
pub listed-such : (f : ExactNode → List Ticket) (P : Station → List Ticket → Type 0) (w : ExactWorld) (n : ℕ) (l : List Ticket) → ((v : ExactNode) → numbered w.nodes n ≡ Some v → P (station_of v.kept) (f v)) →
    option_map f (numbered w.nodes n) ≡ Some l → P ((forget w).nodes n).kept l
listed-such f P w n l each = go (numbered w.nodes n) refl
  where
    go : (o : Option ExactNode) → numbered w.nodes n ≡ o → option_map f o ≡ Some l → P (node_numbered o).kept l
    go None is h = absurd (let q : None ≡ Some l = h in cc)
    go (Some v) is h =
        let q : Some (f v) ≡ Some l = h in
        let same : f v ≡ l = cc in subst (P (station_of v.kept)) same (each v is)

-- the ticket that is shown of an attempt, softened or not

mode-shown : (soft : Bool) (t : Ticket) → (cond soft (softened_ticket t) t).mode ≡ cond soft Read t.mode
mode-shown true t = refl
mode-shown false t = refl

resource-shown : (soft : Bool) (t : Ticket) → (cond soft (softened_ticket t) t).resource ≡ t.resource
resource-shown true t = refl
resource-shown false t = refl

client-shown : (soft : Bool) (t : Ticket) → (cond soft (softened_ticket t) t).client ≡ t.client
client-shown true t = refl
client-shown false t = refl

-- a client is inside by the ticket of its phase

abbrev InsideBy : ClientPhase → Option Ticket → Mode → List ℕ → Type 0
InsideBy phase found m x =
    ((p : Present) × (phase ≡ IsIn p) × (present_mode p ≡ m) × (p.ticket.resource ≡ x)) ↔ ((t : Ticket) × (found ≡ Some t) × (t.mode ≡ m) × (t.resource ≡ x))

nobody-by : (phase : ClientPhase) (m : Mode) (x : List ℕ) → ((p : Present) → phase ≡ IsIn p → ⊥) → InsideBy phase None m x
nobody-by phase m x none = (λ h. absurd (none h.0 h.1), λ h. absurd (let q : None ≡ Some h.0 = h.1 in cc))

phase-by : (p : ExactClientPhase) (m : Mode) (x : List ℕ) → InsideBy (client_phase_of p) (ticket_in p) m x
phase-by client.Down m x = nobody-by ClientDown m x (λ a e. let q : ClientDown ≡ IsIn a = e in cc)
phase-by client.Idle m x = nobody-by ClientIdle m x (λ a e. let q : ClientIdle ≡ IsIn a = e in cc)
phase-by (client.Chosen u place) m x = nobody-by (Chosen u place) m x (λ a e. let q : Chosen u place ≡ IsIn a = e in cc)
phase-by (client.Asking p) m x = nobody-by (Asking (present_of p)) m x (λ a e. let q : Asking (present_of p) ≡ IsIn a = e in cc)
phase-by (client.Inside p) m x = (
  λ h.
      let q : IsIn (present_of p) ≡ IsIn h.0 = h.1 in
      let same : present_of p ≡ h.0 = cc in
      (present_ticket p, refl, mode-shown p.softened p.ticket ∙ ap present_mode same ∙ h.2, resource-shown p.softened p.ticket ∙ ap (λ (a : Present). a.ticket.resource) same ∙ h.3),
  λ h.
      let q : Some (present_ticket p) ≡ Some h.0 = h.1 in
      let same : present_ticket p ≡ h.0 = cc in
      (present_of p, refl, sym (mode-shown p.softened p.ticket) ∙ ap (λ (t : Ticket). t.mode) same ∙ h.2, sym (resource-shown p.softened p.ticket) ∙ ap (λ (t : Ticket). t.resource) same ∙ h.3),
)

pub inside-by : (w : ExactWorld) (c : ℕ) → IsInsideBy (forget w) c (ticket_inside c w)
inside-by w c m x = go (numbered w.clients c)
  where
    go : (o : Option ExactClient) → InsideBy (client_numbered o).phase (ticket_at o) m x
    go None = nobody-by ClientDown m x (λ a e. let q : ClientDown ≡ IsIn a = e in cc)
    go (Some k) = phase-by k.phase m x

-- the ticket of a client that is inside is its own
own_ticket_in : (b : List Ballot) (w : World) (c kept : ℕ) (p : ExactClientPhase) (t : Ticket) → IsSafeTicket b w c kept (client_phase_of p) → ticket_in p ≡ Some t → t.client ≡ c
own_ticket_in b w c kept client.Down t safe is = absurd (let q : None ≡ Some t = is in cc)
own_ticket_in b w c kept client.Idle t safe is = absurd (let q : None ≡ Some t = is in cc)
own_ticket_in b w c kept (client.Chosen u place) t safe is = absurd (let q : None ≡ Some t = is in cc)
own_ticket_in b w c kept (client.Asking p) t safe is = absurd (let q : None ≡ Some t = is in cc)
own_ticket_in b w c kept (client.Inside p) t safe is =
    let q : Some (present_ticket p) ≡ Some t = is in
    let same : present_ticket p ≡ t = cc in
    ap (λ (x : Ticket). x.client) (sym same) ∙ client-shown p.softened p.ticket ∙ safe.0.client

own_ticket_at : (b : List Ballot) (w : World) (c : ℕ) (o : Option ExactClient) (t : Ticket) → IsSafeClient b w c (client_numbered o) → ticket_at o ≡ Some t → t.client ≡ c
own_ticket_at b w c None t safe is = absurd (let q : None ≡ Some t = is in cc)
own_ticket_at b w c (Some k) t safe is = own_ticket_in b w c k.kept k.phase t safe.ticket is

pub own_ticket : (w : ExactWorld) (c : ℕ) → IsSound w → IfSome (ticket_inside c w) (λ t. t.client ≡ c)
own_ticket w c sound = go (ticket_inside c w) (λ t is. own_ticket_at w.ballots (forget w) c (numbered w.clients c) t (sound.safe.clients c) is)
  where
    go : (o : Option Ticket) → ((t : Ticket) → o ≡ Some t → t.client ≡ c) → IfSome o (λ t. t.client ≡ c)
    go None own = tt
    go (Some t) own = own t refl

-- each reader among those that wait has a cause
pub readers_caused : (w : World) (n : ℕ) (x : List ℕ) (tickets : List Ticket) → IsExclusive w → AreWaiting (w.nodes n).kept x tickets → (t : Ticket) → Among t tickets → t.mode ≡ Read → Cause (w.nodes n).kept Read x
readers_caused w n x tickets exclusive waiting t among reads =
    let waits : Waits (w.nodes n).kept t.client t.mode x = ((waiting t).0 among).0 in
    (exclusive.readers n).kept t.client x (subst (λ (m : Mode). Waits (w.nodes n).kept t.client m x) reads waits)
