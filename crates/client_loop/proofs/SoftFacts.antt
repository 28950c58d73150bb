-- What softening makes of a client's part.
use Rattle.std.proofs.Common.{◌≡◌, ℕ, zero, suc, ◌+◌, ◌-◌, ◌≤◌, Bool, true, false, List, [], ◌∷◌, ◌++◌, filter, Option, None, Some, refl, sym, ap, ◌∙◌, subst, if◌then◌else◌, append_assoc, append-nil, arith}
use Rattle.std.specs.List.{range_with_len}
use Rattle.std.proofs.lemmas.List.Elements.{filter-append}
use Rattle.lock_messages.specs.declared.messages.Message.{Message}
use Rattle.lossy_link.specs.declared.parcels.Sending.{Sending}
use Rattle.lock_model.specs.Ballots.{node_count}
use Rattle.vote_weights.specs.Sets.{has_node}
use Rattle.client_core.specs.declared.phases.State.{State}
use Rattle.client_core.specs.declared.phases.State.TheVariants.{Idle, Chosen, Asking, Inside}
use Rattle.client_core.specs.Clients.{Client}
use Rattle.client_core.specs.Calls.{MaySoften, MaySoftenIn, softened, softens_in, message_for, SoftensAll}
use Rattle.world_model.specs.declared.events.Effect.{Effect}
use Rattle.world_model.specs.declared.events.Effect.TheVariants as effect
use Rattle.world_model.specs.declared.events.Event.TheVariants as event
use Rattle.world_model.specs.declared.exact.ExactClient.{ExactClient}
use Rattle.world_model.specs.ExactClients.{client_in, softens_in as softens_part}
use Rattle.world_model.specs.ExactWorlds.{refusal_of}
use Rattle.world_model.specs.Parts.{Part, ClientPart, own_refusal, after_own, after_turn}
use Rattle.world_model.specs.Turns.{acts}
use Rattle.world_actors.specs.Clients.{phase_of as part_phase}
use Rattle.event_recorders.specs.OwnLogs.{OwnLog, IsAdded, part_now}
use Rattle.client_loop.specs.Sendings.{sent_of, sending_to, Tells, AreToldEach, TellsEach, nodes_of, soften_of}
use Rattle.client_loop.specs.Standing.{Stands, part_of}

-- softening is allowed to who may, and leaves its part softened
softens_so : (k : ExactClient) (s : State) → MaySoftenIn s → softens_part k (part_phase s) ≡ acts (client_in k (part_phase (softens_in s))) effect.Softened
softens_so k Idle may = absurd may
softens_so k (Chosen t place) may = absurd may
softens_so k (Asking p) may = absurd may
softens_so k (Inside p) may = rw (may.mode, may.unsoftened) refl

pub soften_allowed : (l : OwnLog) (finds : List (List ℕ)) (c : Client) (who : ℕ) → MaySoften c → Stands l finds c → own_refusal l.ballots (event.Soften who) (part_now l) ≡ None
soften_allowed l finds c who may h =
    ap (λ (p : Part). own_refusal l.ballots (event.Soften who) p) h.part
    ∙ ap refusal_of (softens_so (part_of c) c.state may)

pub soften_stands : (l l' : OwnLog) (finds : List (List ℕ)) (c : Client) (who : ℕ) (done : Effect) → MaySoften c → Stands l finds c → IsAdded l (event.Soften who) done l' → Stands l' finds (softened c)
soften_stands l l' finds c who done may h added = record {
  actor = ap (λ (x : OwnLog). x.actor) added.log ∙ h.actor;
  ballots = ap (λ (x : OwnLog). x.ballots) added.log ∙ h.ballots;
  part = added.part ∙ ap (λ (p : Part). after_own l.ballots (event.Soften who) done p) h.part ∙ ap (λ t. ClientPart (after_turn (part_of c) t done)) (softens_so (part_of c) c.state may);
  found = h.found;
}

-- What telling one node after the other has told.

each_more : (nodes : List ℕ) (message : ℕ → Message) (told : List Sending) (n number : ℕ) → AreToldEach nodes message told → AreToldEach (nodes ++ n ∷ []) message (told ++ sending_to n number (message n) ∷ [])
each_more [] message [] n number h = ((number, refl), tt)
each_more [] message (s ∷ told) n number h = absurd h
each_more (k ∷ nodes) message [] n number h = absurd h
each_more (k ∷ nodes) message (s ∷ told) n number h = (h.0, each_more nodes message told n number h.1)

tells_one : (nodes : List ℕ) (message : ℕ → Message) (l m l' : OwnLog) (n : ℕ) (said : Option Message) → said ≡ Some (message n) → TellsEach nodes message l m → Tells said n m l' → TellsEach (nodes ++ n ∷ []) message l l'
tells_one nodes message l m l' n said is before told =
    let one : Tells (Some (message n)) n m l' = subst (λ (o : Option Message). Tells o n m l') is told in
    record {
      more = before.more ++ sending_to n one.0 (message n) ∷ [];
      sent = one.1 ∙ ap (λ (xs : List Sending). xs ++ sending_to n one.0 (message n) ∷ []) before.sent ∙ append_assoc (sent_of l) before.more (sending_to n one.0 (message n) ∷ []);
      each = each_more nodes message before.more n one.0 before.each;
    }

-- the nodes of a set below one number more
range_more : (a n : ℕ) → range_with_len a (suc n) ≡ range_with_len a n ++ (a + n) ∷ []
range_more a zero = ap (λ (k : ℕ). k ∷ []) (omega arith)
range_more a (suc n) = ap (λ (ks : List ℕ). a ∷ ks) (range_more (a + 1) n ∙ ap (λ (k : ℕ). range_with_len (a + 1) n ++ k ∷ []) (omega arith))

nodes_so : (set : List ℕ) (before number : ℕ) (has : Bool) → before + 1 ≡ number → has_node set number ≡ has → nodes_of set number ≡ nodes_of set before ++ (if has then number ∷ [] else [])
nodes_so set before number has next is =
    ap (λ (k : ℕ). nodes_of set k) (let more : number ≡ suc before = omega (arith, next) in more)
    ∙ ap (λ (ks : List ℕ). filter (λ (n : ℕ). has_node set n) ks) (range_more 1 before)
    ∙ filter-append (λ (n : ℕ). has_node set n) (range_with_len 1 before) ((1 + before) ∷ [])
    ∙ ap (λ (k : ℕ). nodes_of set before ++ filter (λ (n : ℕ). has_node set n) (k ∷ [])) (let same : 1 + before ≡ number = omega (arith, next) in same)
    ∙ ap (λ (ks : List ℕ). nodes_of set before ++ ks) (one_node set number has is)
  where
    one_node : (set : List ℕ) (number : ℕ) (has : Bool) → has_node set number ≡ has → filter (λ (n : ℕ). has_node set n) (number ∷ []) ≡ (if has then number ∷ [] else [])
    one_node set number true is = rw is refl
    one_node set number false is = rw is refl

tells_if : (set : List ℕ) (message : ℕ → Message) (l m l' : OwnLog) (before number : ℕ) (has : Bool) (said : Option Message) → before + 1 ≡ number → has_node set number ≡ has →
    said ≡ Some (message number) → TellsEach (nodes_of set before) message l m → Tells (if has then said else None) number m l' → TellsEach (nodes_of set number) message l l'
tells_if set message l m l' before number true said next is same told now =
    subst (λ (ns : List ℕ). TellsEach ns message l l') (sym (nodes_so set before number true next is)) (tells_one (nodes_of set before) message l m l' number said same told now)
tells_if set message l m l' before number false said next is same told now =
    subst (λ (ns : List ℕ). TellsEach ns message l l') (sym (nodes_so set before number false next is ∙ append-nil (nodes_of set before)))
    (record { more = told.more; sent = now ∙ told.sent; each = told.each })

-- one node more, which the client tells that it has softened
pub tells_next : (set : List ℕ) (c : Client) (l m l' : OwnLog) (number node : ℕ) → 1 ≤ number → number ≤ node_count c.ballots → node ≡ number → SoftensAll c c.attempt →
    TellsEach (nodes_of set (number - 1)) (soften_of c.client c.attempt) l m → Tells (if has_node set node then message_for c node else None) node m l' →
    TellsEach (nodes_of set (number + 1 - 1)) (soften_of c.client c.attempt) l l'
tells_next set c l m l' number node low high same softens told now =
    let here : TellsEach (nodes_of set number) (soften_of c.client c.attempt) l l' =
    tells_if set (soften_of c.client c.attempt) l m l' (number - 1) number (has_node set number) (message_for c number) (omega (arith, low)) refl (softens number (low, high)) told (rw same at now) in
    subst (λ (k : ℕ). TellsEach (nodes_of set k) (soften_of c.client c.attempt) l l') (omega arith) here
