-- The refusal of an event, cut in two: what the actor's own part refuses, and what the list does.
use Rattle.std.proofs.Common.{◌≡◌, ◌+◌, ◌-◌, ◌<◌, ◌⊎◌, Bool, true, false, cond, List, length, arith, Option, Some, None, Ok, Err, refl, sym, ◌∙◌, subst, inl, inr}
use Rattle.std.proofs.lemmas.Bool.Decides.{nat_tests}
use Rattle.lock_messages.specs.declared.messages.Message.{Message}
use Rattle.world_model.specs.declared.TheConstants.{MAX_MESSAGES}
use Rattle.world_model.specs.declared.events.Event.{Event}
use Rattle.world_model.specs.declared.events.Event.TheVariants as event
use Rattle.world_model.specs.declared.events.StepFault.{StepFault}
use Rattle.world_model.specs.declared.events.StepFault.TheVariants as fault
use Rattle.world_model.specs.declared.exact.ExactNode.{ExactNode}
use Rattle.world_model.specs.declared.exact.ExactClient.{ExactClient}
use Rattle.world_model.specs.declared.exact.ExactWorld.{ExactWorld}
use Rattle.world_model.specs.Worlds.{Setting}
use Rattle.world_model.specs.Turns.{Turn, Acts, Speaks, Reads, Turns}
use Rattle.world_model.specs.ExactWorlds.{numbered, Deed, NodeDoes, ClientDoes, deed_of, actor_of, actor_in, Stepped, next_number, has_room, sending, with_node_at, with_client_at, read_in, finished, finishes, by_actor, done_by, refusal_of, refusal, step}
use Rattle.world_model.specs.Forgetting.{setting_of}
use Rattle.world_model.specs.Parts.{part, node_part, client_part, refused_in, own_refusal, is_own_fault, IsListFault, turn_says, said_in, said_by}
use Rattle.world_model.proofs.Told.{Kind, TurnTold, Told}
use Rattle.world_model.proofs.ClientTurns.{clients}
use Rattle.world_model.proofs.NodeTurns.{nodes}
use Rattle.world_model.proofs.Deeds.{ModelLaws, DeedTold, deed-told}

-- of one turn

own-of-turn : (A : Type 0) (q : Kind A) (st : Setting) (e : Event) (w : ExactWorld) (into : A → ExactWorld) (before : A) (ts : Turns A) (f : StepFault) → Told A q st e before ts →
    refusal_of ts ≡ Some f → (refusal_of (finishes w into ts) ≡ Some f) × (is_own_fault f ≡ true)
own-of-turn A q st e w into before (Err g) f told h = (h, (let p : Some g ≡ Some f = h in let same : g ≡ f = cc in subst (λ x. is_own_fault x ≡ true) same told))
own-of-turn A q st e w into before (Ok t) f told h = absurd (let p : None ≡ Some f = h in cc)

-- what is left to the list of messages
abbrev pub OnlyList : Event → Option StepFault → Type 0
OnlyList e o = (o ≡ None) ⊎ ((f : StepFault) × (o ≡ Some f) × IsListFault e f)

list-of-turn : (A : Type 0) (q : Kind A) (st : Setting) (e : Event) (w : ExactWorld) (into : A → ExactWorld) (before : A) (t : Turn A) → TurnTold A q st e before t → OnlyList e (refusal_of (finished w into t))
list-of-turn A q st e w into before (Acts after done) told = inl refl
list-of-turn A q st e w into before (Speaks after says effect) told = go (has_room w says)
  where
    go : (room : Bool) → OnlyList e (refusal_of {A = Stepped} (cond room (Ok (record { world = sending says (into after); effect = effect (next_number w) })) (Err fault.SentListFull)))
    go true = inl refl
    go false = inr (fault.SentListFull, refl, told.full)
list-of-turn A q st e w into before (Reads number is_mine after effect) told = go (numbered w.sent number)
  where
    mine : (m : Message) (yours : Bool) → OnlyList e (refusal_of {A = Stepped} (cond yours (Ok (record { world = into (after m); effect = effect m })) (Err fault.NotAddressed)))
    mine m true = inl refl
    mine m false = inr (fault.NotAddressed, refl, told.not_mine)

    go : (o : Option Message) → OnlyList e (refusal_of (read_in into is_mine after effect o))
    go None = inr (fault.NoSuchMessage, refl, told.no_such)
    go (Some m) = mine m (is_mine m)

-- of a deed

deed-own : (w : ExactWorld) (e : Event) (d : Deed) (f : StepFault) → DeedTold (setting_of w) e d → refused_in w.ballots d (part w (actor_in d)) ≡ Some f →
    (refusal_of (done_by w d) ≡ Some f) × (is_own_fault f ≡ true)
deed-own w e (NodeDoes n turn) f told h = go (numbered w.nodes n) h
  where
    go : (o : Option ExactNode) → refused_in w.ballots (NodeDoes n turn) (node_part o) ≡ Some f → (refusal_of (by_actor w (with_node_at w n) o turn) ≡ Some f) × (is_own_fault f ≡ true)
    go None z = (z, (let p : Some fault.UnknownActor ≡ Some f = z in let same : fault.UnknownActor ≡ f = cc in subst (λ x. is_own_fault x ≡ true) same refl))
    go (Some v) z = own-of-turn ExactNode (nodes (setting_of w) n) (setting_of w) e w (with_node_at w n) v (turn v) f (told v) z
deed-own w e (ClientDoes c turn) f told h = go (numbered w.clients c) h
  where
    go : (o : Option ExactClient) → refused_in w.ballots (ClientDoes c turn) (client_part o) ≡ Some f → (refusal_of (by_actor w (with_client_at w c) o (turn w.ballots)) ≡ Some f) × (is_own_fault f ≡ true)
    go None z = (z, (let p : Some fault.UnknownActor ≡ Some f = z in let same : fault.UnknownActor ≡ f = cc in subst (λ x. is_own_fault x ≡ true) same refl))
    go (Some k) z = own-of-turn ExactClient (clients (setting_of w) c) (setting_of w) e w (with_client_at w c) k (turn w.ballots k) f (told k) z

deed-list : (w : ExactWorld) (e : Event) (d : Deed) → DeedTold (setting_of w) e d → refused_in w.ballots d (part w (actor_in d)) ≡ None → OnlyList e (refusal_of (done_by w d))
deed-list w e (NodeDoes n turn) told h = go (numbered w.nodes n) h
  where
    turned : (v : ExactNode) (ts : Turns ExactNode) → Told ExactNode (nodes (setting_of w) n) (setting_of w) e v ts → refusal_of ts ≡ None → OnlyList e (refusal_of (finishes w (with_node_at w n) ts))
    turned v (Err f) t z = absurd (let p : Some f ≡ None = z in cc)
    turned v (Ok x) t z = list-of-turn ExactNode (nodes (setting_of w) n) (setting_of w) e w (with_node_at w n) v x t

    go : (o : Option ExactNode) → refused_in w.ballots (NodeDoes n turn) (node_part o) ≡ None → OnlyList e (refusal_of (by_actor w (with_node_at w n) o turn))
    go None z = absurd (let p : Some fault.UnknownActor ≡ None = z in cc)
    go (Some v) z = turned v (turn v) (told v) z
deed-list w e (ClientDoes c turn) told h = go (numbered w.clients c) h
  where
    turned : (k : ExactClient) (ts : Turns ExactClient) → Told ExactClient (clients (setting_of w) c) (setting_of w) e k ts → refusal_of ts ≡ None → OnlyList e (refusal_of (finishes w (with_client_at w c) ts))
    turned k (Err f) t z = absurd (let p : Some f ≡ None = z in cc)
    turned k (Ok x) t z = list-of-turn ExactClient (clients (setting_of w) c) (setting_of w) e w (with_client_at w c) k x t

    go : (o : Option ExactClient) → refused_in w.ballots (ClientDoes c turn) (client_part o) ≡ None → OnlyList e (refusal_of (by_actor w (with_client_at w c) o (turn w.ballots)))
    go None z = absurd (let p : Some fault.UnknownActor ≡ None = z in cc)
    go (Some k) z = turned k (turn w.ballots k) (told k) z

-- the whole

pub own-first : ModelLaws → (w : ExactWorld) (e : Event) (f : StepFault) → own_refusal w.ballots e (part w (actor_of e)) ≡ Some f → (refusal w e ≡ Some f) × (is_own_fault f ≡ true)
unfolding step
own-first laws w e f h = deed-own w e (deed_of e) f (deed-told laws (setting_of w) e) h

pub list-second : ModelLaws → (w : ExactWorld) (e : Event) → own_refusal w.ballots e (part w (actor_of e)) ≡ None → OnlyList e (refusal w e)
unfolding step
list-second laws w e h = deed-list w e (deed_of e) (deed-told laws (setting_of w) e) h

-- the list is full only where it can't hold what is said

no-room : (w : ExactWorld) (says : List Message) → has_room w says ≡ false → MAX_MESSAGES < length w.sent + length says
no-room w says full = let over : MAX_MESSAGES - length w.sent < length says = grind (arith, nat_tests) in omega (arith, over)

abbrev LacksRoom : ExactWorld → List Message → Type 0
LacksRoom w says = MAX_MESSAGES < length w.sent + length says

full-turn : (A : Type 0) (w : ExactWorld) (into : A → ExactWorld) (t : Turn A) → refusal_of (finished w into t) ≡ Some fault.SentListFull → LacksRoom w (turn_says (Ok t))
full-turn A w into (Acts after done) h = absurd (let p : None ≡ Some fault.SentListFull = h in cc)
full-turn A w into (Speaks after says effect) h = go (has_room w says) refl h
  where
    go : (room : Bool) → has_room w says ≡ room → refusal_of {A = Stepped} (cond room (Ok (record { world = sending says (into after); effect = effect (next_number w) })) (Err fault.SentListFull)) ≡ Some fault.SentListFull → LacksRoom w says
    go true is z = absurd (let p : None ≡ Some fault.SentListFull = z in cc)
    go false is z = no-room w says is
full-turn A w into (Reads number is_mine after effect) h = absurd (go (numbered w.sent number) h)
  where
    mine : (m : Message) (yours : Bool) → refusal_of {A = Stepped} (cond yours (Ok (record { world = into (after m); effect = effect m })) (Err fault.NotAddressed)) ≡ Some fault.SentListFull → ⊥
    mine m true z = let p : None ≡ Some fault.SentListFull = z in cc
    mine m false z = let p : Some fault.NotAddressed ≡ Some fault.SentListFull = z in cc

    go : (o : Option Message) → refusal_of (read_in into is_mine after effect o) ≡ Some fault.SentListFull → ⊥
    go None z = let p : Some fault.NoSuchMessage ≡ Some fault.SentListFull = z in cc
    go (Some m) z = mine m (is_mine m) z

full-turns : (A : Type 0) (q : Kind A) (st : Setting) (e : Event) (w : ExactWorld) (into : A → ExactWorld) (before : A) (ts : Turns A) → Told A q st e before ts → refusal_of (finishes w into ts) ≡ Some fault.SentListFull → LacksRoom w (turn_says ts)
full-turns A q st e w into before (Err f) told h =
    absurd (let p : Some f ≡ Some fault.SentListFull = h in let same : f ≡ fault.SentListFull = cc in let z : false ≡ true = subst (λ x. is_own_fault x ≡ true) same told in cc)
full-turns A q st e w into before (Ok t) told h = full-turn A w into t h

deed-full : (w : ExactWorld) (e : Event) (d : Deed) → DeedTold (setting_of w) e d → refusal_of (done_by w d) ≡ Some fault.SentListFull → LacksRoom w (said_in w.ballots d (part w (actor_in d)))
deed-full w e (NodeDoes n turn) told h = go (numbered w.nodes n) h
  where
    go : (o : Option ExactNode) → refusal_of (by_actor w (with_node_at w n) o turn) ≡ Some fault.SentListFull → LacksRoom w (said_in w.ballots (NodeDoes n turn) (node_part o))
    go None z = absurd (let p : Some fault.UnknownActor ≡ Some fault.SentListFull = z in cc)
    go (Some v) z = full-turns ExactNode (nodes (setting_of w) n) (setting_of w) e w (with_node_at w n) v (turn v) (told v) z
deed-full w e (ClientDoes c turn) told h = go (numbered w.clients c) h
  where
    go : (o : Option ExactClient) → refusal_of (by_actor w (with_client_at w c) o (turn w.ballots)) ≡ Some fault.SentListFull → LacksRoom w (said_in w.ballots (ClientDoes c turn) (client_part o))
    go None z = absurd (let p : Some fault.UnknownActor ≡ Some fault.SentListFull = z in cc)
    go (Some k) z = full-turns ExactClient (clients (setting_of w) c) (setting_of w) e w (with_client_at w c) k (turn w.ballots k) (told k) z

pub full-without-room : ModelLaws → (w : ExactWorld) (e : Event) → refusal w e ≡ Some fault.SentListFull → LacksRoom w (said_by w.ballots e (part w (actor_of e)))
unfolding step
full-without-room laws w e h = deed-full w e (deed_of e) (deed-told laws (setting_of w) e) h

-- want of memory is no refusal of a step

list-has-memory : (e : Event) → IsListFault e fault.Memory → ⊥
list-has-memory (event.Begin c m x place) h = h
list-has-memory (event.Try who) h = h
list-has-memory (event.Kept who) h = h
list-has-memory (event.SayTo c n) h = cc
list-has-memory (event.Say n) h = cc
list-has-memory (event.Take n k) (inl h) = cc
list-has-memory (event.Take n k) (inr h) = cc
list-has-memory (event.Hear c k) (inl h) = cc
list-has-memory (event.Hear c k) (inr h) = cc
list-has-memory (event.Enter c) h = h
list-has-memory (event.Leave c) h = h
list-has-memory (event.Soften c) h = h
list-has-memory (event.Fall who) h = h
list-has-memory (event.Rise who age) h = h
list-has-memory (event.Switch n p) h = h

pub never-memory : ModelLaws → (w : ExactWorld) (e : Event) → refusal w e ≡ Some fault.Memory → ⊥
never-memory laws w e h = go (own_refusal w.ballots e (part w (actor_of e))) refl
  where
    listed : OnlyList e (refusal w e) → ⊥
    listed (inl none) = let p : None ≡ Some fault.Memory = sym none ∙ h in cc
    listed (inr some) =
        let p : Some some.0 ≡ Some fault.Memory = sym some.1 ∙ h in
        let same : some.0 ≡ fault.Memory = cc in
        list-has-memory e (subst (IsListFault e) same some.2)

    go : (o : Option StepFault) → own_refusal w.ballots e (part w (actor_of e)) ≡ o → ⊥
    go None own = listed (list-second laws w e own)
    go (Some f) own =
        let first = own-first laws w e f own in
        let p : Some f ≡ Some fault.Memory = sym first.0 ∙ h in
        let same : f ≡ fault.Memory = cc in
        let z : false ≡ true = subst (λ x. is_own_fault x ≡ true) same first.1 in
        cc
