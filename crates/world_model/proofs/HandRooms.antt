-- The two hands pay what they say: one message by the client, and what the node decides to reply.
use Rattle.std.proofs.Common.{◌≡◌, ℕ, ◌+◌, ◌≤◌, Bool, true, false, cond, if◌then◌else◌, List, [], ◌∷◌, length, Option, None, Some, Ok, Err, refl, sym, ◌∙◌, ap, subst, inl, inr, arith}
use Rattle.std.specs.List.{list_any}
use Rattle.std.proofs.lemmas.Bool.{cases_eq}
use Rattle.lock_messages.specs.declared.tickets.Ticket.{Ticket}
use Rattle.lock_messages.specs.declared.messages.Message.{Message}
use Rattle.lock_messages.specs.declared.messages.Message.TheVariants.{Request, Release}
use Rattle.lock_messages.specs.Messages.{is_for_node}
use Rattle.lock_model.specs.declared.problems.Problem.{Problem}
use Rattle.lock_model.specs.declared.entries.Entry.{Entry}
use Rattle.lock_model.specs.Ballots.{HasAnyNode}
use Rattle.lock_model.specs.Stations.{Station}
use Rattle.lock_model.specs.Decisions.{Decides, IsReleased, IsAsked}
use Rattle.lock_model.specs.ExactStations.{entry_of, meaning}
use Rattle.lock_model.specs.ExactDecisions.{Outcome, decision, changes, reply_to_known}
use Rattle.world_model.specs.declared.events.Effect.TheVariants as effect
use Rattle.world_model.specs.declared.events.Event.TheVariants as event
use Rattle.world_model.specs.declared.events.StepFault.{StepFault}
use Rattle.world_model.specs.declared.events.StepFault.TheVariants as fault
use Rattle.world_model.specs.declared.exact.ExactStation.{ExactStation}
use Rattle.world_model.specs.declared.exact.ExactNode.{ExactNode}
use Rattle.world_model.specs.declared.exact.ExactNodePhase.TheVariants as node
use Rattle.world_model.specs.declared.exact.ExactClient.{ExactClient}
use Rattle.world_model.specs.declared.exact.ExactWorld.{ExactWorld}
use Rattle.world_model.specs.declared.ways.Want.{Want}
use Rattle.world_model.specs.Worlds.{NodePhase, NodeDown, NodeIdle, Present, ClientPhase, ClientIdle, Asking, Setting, HasClient, Tells}
use Rattle.world_model.specs.ExactNodes.{node_in, decided_on}
use Rattle.world_model.specs.ExactWorlds.{numbered, Stepped, next_number, has_room, sending, with_client_at, step}
use Rattle.world_model.specs.Numbered.{numbered-next, numbered-one, numbered-there, numbered-set-here, numbered-set-there}
use Rattle.world_model.specs.Forgetting.{station_of, node_phase_of, client_of, client_numbered, node_numbered, forget, setting_of, IsSoundNode, IsSound}
use Rattle.world_model.specs.Advice.{coming, blocks, asks_for, is_grant, client_numbers}
use Rattle.world_model.specs.ExactWays.{total_over, to_say, coming_station, waiting_count, block_load}
use Rattle.world_model.proofs.Costs.{block_cost, promises, ask_cost}
use Rattle.world_model.proofs.Nearer.{Fine, client-among}
use Rattle.world_model.proofs.Deeds.{ModelLaws}
use Rattle.world_model.proofs.StepFacts.{same-clients}
use Rattle.world_model.proofs.StepShapes.{TookSo, take-shape, says-shape}
use Rattle.world_model.proofs.PhaseFacts.{node-idle}
use Rattle.world_model.proofs.HandSteps.{tells-release, tells-request}
use Rattle.world_model.proofs.HandFacts as Hand
use Rattle.world_model.proofs.Owed.{vote_owed, node_owed, owed_at, owed}
use Rattle.world_model.proofs.GrantCounts.{released-count, asked-count}
use Rattle.world_model.proofs.OwedFacts.{own_phase, vote-owed-le, vote-owed-whole, vote-owed-none, blocks-double, total-least, owed-least}
use Rattle.world_model.proofs.SaidFacts.{NodeDid, said-grows}
use Rattle.world_model.proofs.AloneRooms.{node-pays}
use Rattle.world_model.proofs.ExactMoves.{last-got}

-- What a node comes to by a decision: it says the replies, and is to have the entries of the decision.
record ComesTo (p : Problem) (o : Outcome) (after : ExactNode) : Type 0 where
  says : to_say after.phase ≡ length o.replies
  station : coming_station after.kept after.phase ≡ record { problem = p; entries = o.entries }
  promised : (n : ℕ) (t : Ticket) → promises n t (node_phase_of after.phase) ≡ list_any (is_grant n t) o.replies

comes-to : ModelLaws → (v : ExactNode) (m : Message) → ComesTo v.kept.problem (decision v.kept.problem v.kept.entries m) (decided_on v m)
comes-to laws v m = go (changes p entries m) refl
  where
    p : Problem
    p = v.kept.problem

    entries : List Entry
    entries = v.kept.entries

    o : Outcome
    o = decision p entries m

    go : (b : Bool) → changes p entries m ≡ b → ComesTo p o (cond b (node_in v (node.Decided (record { problem = p; entries = o.entries }) o.replies)) (node_in v (node.Stored o.replies)))
    go true is = record { says = refl; station = refl; promised = λ n t. refl }
    go false is = record { says = refl; station = ap (λ (es : List Entry). record { problem = p; entries = es }) (sym ((laws.deciding.seen p entries m).0 is)); promised = λ n t. refl }

-- A message was handed to a node: it was idle, decided on it, and all else is as it was.
record Handed (x u : ExactWorld) (n : ℕ) (m : Message) : Type 0 where
  taker : ExactNode
  was : numbered x.nodes n ≡ Some taker
  idle : taker.phase ≡ node.Idle
  mine : is_for_node m n ≡ true
  did : NodeDid x u n (decided_on taker m) (m ∷ [])

said-world : (b : Bool) (it t : Stepped) (f : StepFault) → cond b (Ok it) (Err f) ≡ Ok t → t.world ≡ it.world
said-world true it t f h = let q : Ok it ≡ Ok t = h in let same : it ≡ t = cc in ap (λ (s : Stepped). s.world) (sym same)
said-world false it t f h = absurd (let q : Err f ≡ Ok t = h in cc)

handed : (x : ExactWorld) (d n : ℕ) (k : ExactClient) (m : Message) (t u : Stepped) → HasAnyNode x.ballots n → numbered x.clients d ≡ Some k → Tells d n (client_of k) (m ∷ []) →
    step x (event.SayTo d n) ≡ Ok t → step t.world (event.Take n (next_number x)) ≡ Ok u → Handed x u.world n m
handed x d n k m t u known was tells said taken =
    record {
      taker = took.taker;
      was = took.was;
      idle = took.idle;
      mine = took.mine;
      did = subst (λ w. NodeDid x w n (decided_on took.taker m) (m ∷ [])) (sym took.is) (record {
        setting = same-clients x d k;
        now = numbered-set-here x.nodes n took.taker (decided_on took.taker m) took.was;
        others = λ j apart. numbered-set-there x.nodes n j (decided_on took.taker m) (numbered-one x.nodes n took.taker took.was).0 apart;
        clients = clients;
        sent = refl;
      });
    }
  where
    between : ExactWorld
    between = sending (m ∷ []) (with_client_at x d k)

    is : t.world ≡ between
    is = said-world (has_room x (m ∷ [])) (record { world = between; effect = effect.Sent (next_number x) m }) t fault.SentListFull (sym (says-shape x d n k m known was tells) ∙ said)

    took : TookSo between n m u.world
    took = take-shape between n (next_number x) m u (numbered-next between.sent (length x.sent) ∙ last-got x.sent m) (subst (λ w. step w (event.Take n (next_number x)) ≡ Ok u) is taken)

    clients : (c : ℕ) → numbered between.clients c ≡ numbered x.clients c
    clients c = elim (cases_eq c d) [
      | inl e ↦ subst (λ j. numbered between.clients j ≡ numbered x.clients j) (sym e) (numbered-set-here x.clients d k k was ∙ sym was)
      | inr apart ↦ numbered-set-there x.clients d c k (numbered-one x.clients d k was).0 apart
    ]

-- what the node decides, on the station that it has kept
abbrev outcome : {x u : ExactWorld} {n : ℕ} {m : Message} → Handed x u n m → Outcome
outcome {x} {u} {n} {m} h = decision h.taker.kept.problem h.taker.kept.entries m

abbrev here : {x u : ExactWorld} {n : ℕ} {m : Message} → Handed x u n m → Station
here h = station_of h.taker.kept

abbrev decided : {x u : ExactWorld} {n : ℕ} {m : Message} → Handed x u n m → Station
decided h = meaning h.taker.kept.problem (outcome h).entries

abbrev phase_then : {x u : ExactWorld} {n : ℕ} {m : Message} → Handed x u n m → NodePhase
phase_then {x} {u} {n} {m} h = node_phase_of (decided_on h.taker m).phase

kept-here : {x u : ExactWorld} {n : ℕ} {m : Message} (h : Handed x u n m) → ((forget x).nodes n).kept ≡ here h
kept-here h = ap (λ o. (node_numbered o).kept) h.was

-- the decision is one that it may take
decides : ModelLaws → {x u : ExactWorld} {n : ℕ} {m : Message} (h : Handed x u n m) → IsSound x → Decides (here h) m (decided h) (outcome h).replies
decides laws {x} {u} {n} {m} h ok =
    let sound : IsSoundNode h.taker = ok.each_node n h.taker h.was in
    let all = laws.deciding.allowed h.taker.kept.problem h.taker.kept.entries m n h.mine sound.kept.well_formed sound.kept.lawful sound.kept.caused in
    all.decides

-- what is owed at an idle node
idle-owed : (s : Setting) (a : Want) (k : ClientPhase) (sent : List Message) (n : ℕ) (v : ExactNode) → v.phase ≡ node.Idle →
    node_owed s a k sent n v ≡ 0 + (waiting_count v.kept.entries + (total_over (block_load a v.kept) (client_numbers s) + vote_owed a k sent n NodeIdle))
idle-owed s a k sent n v idle =
    ap (λ phase. to_say phase + (waiting_count (coming_station v.kept phase).entries + (total_over (block_load a (coming_station v.kept phase)) (client_numbers s) + vote_owed a k sent n (node_phase_of phase)))) idle

-- The hand pays, where the decision does: what is said, who waits then and who blocks then, against who waits and
-- blocks now and the vote.
hand-pays-so : ModelLaws → (chosen : ℕ → Bool) (a : Want) (x u : ExactWorld) (n : ℕ) (m : Message) (h : Handed x u n m) → chosen n ≡ true → HasAnyNode x.ballots n →
    length (outcome h).replies + waiting_count (outcome h).entries ≤ waiting_count h.taker.kept.entries + 1 →
    total_over (block_cost a (decided h)) (client_numbers (setting_of x)) + (vote_owed a (own_phase a x) u.sent n (phase_then h) + vote_owed a (own_phase a x) u.sent n (phase_then h)) + 4
    ≤ total_over (block_cost a (here h)) (client_numbers (setting_of x)) + (vote_owed a (own_phase a x) x.sent n NodeIdle + vote_owed a (own_phase a x) x.sent n NodeIdle) →
    length u.sent + owed chosen a u ≤ length x.sent + owed chosen a x
hand-pays-so laws chosen a x u n m h is known counts pays =
    node-pays chosen a x u n v after (m ∷ []) h.did known is h.was (omega (arith, idle-owed s a k x.sent n v h.idle, owed-after, counts, pays, blocks-double s a v.kept (here h) refl, blocks-double s a then_at (decided h) refl))
  where
    s : Setting
    s = setting_of x

    k : ClientPhase
    k = own_phase a x

    v : ExactNode
    v = h.taker

    o : Outcome
    o = outcome h

    after : ExactNode
    after = decided_on v m

    then_at : ExactStation
    then_at = record { problem = v.kept.problem; entries = o.entries }

    comes : ComesTo v.kept.problem o after
    comes = comes-to laws v m

    owed-after : node_owed s a k u.sent n after ≡ length o.replies + (waiting_count o.entries + (total_over (block_load a then_at) (client_numbers s) + vote_owed a k u.sent n (phase_then h)))
    owed-after =
        ap (λ said. said + (waiting_count (coming_station after.kept after.phase).entries + (total_over (block_load a (coming_station after.kept after.phase)) (client_numbers s) + vote_owed a k u.sent n (phase_then h)))) comes.says
        ∙ ap (λ (st : ExactStation). length o.replies + (waiting_count st.entries + (total_over (block_load a st) (client_numbers s) + vote_owed a k u.sent n (phase_then h)))) comes.station

-- Who stands in the way hands in its release.
module _ (laws : ModelLaws) (chosen : ℕ → Bool) (a : Want) (x : ExactWorld) (n d : ℕ) (ok : IsSound x) (fine : Fine (setting_of x) chosen a (forget x)) (is : chosen n ≡ true) (node_there : HasAnyNode x.ballots n) (idle : ((forget x).nodes n).phase ≡ NodeIdle)
    (blocking : blocks a (coming ((forget x).nodes n)) d ≡ true) (resting : ((forget x).clients d).phase ≡ ClientIdle) where
  abbrev s : Setting
  s = setting_of x

  client_there : HasClient s d
  client_there = Hand.known s chosen a (forget x) n d fine is node_there idle blocking resting

  pub away-pays : (t u : Stepped) → step x (event.SayTo d n) ≡ Ok t → step t.world (event.Take n (next_number x)) ≡ Ok u → length u.world.sent + owed chosen a u.world ≤ length x.sent + owed chosen a x
  away-pays t u said taken = let found = numbered-there x.clients d client_there.0 client_there.1 in go found.0 found.1
    where
      go : (k : ExactClient) → numbered x.clients d ≡ Some k → length u.world.sent + owed chosen a u.world ≤ length x.sent + owed chosen a x
      go k was =
          hand-pays-so laws chosen a x u.world n m h is node_there (released-count n h.taker.kept.problem h.taker.kept.entries d k.kept)
          (let drops = away-drops in let vote = vote-le in let same = st-here in omega (arith, drops, vote, same))
        where
          m : Message
          m = Release n d k.kept

          last : ((forget x).clients d).kept ≡ k.kept
          last = ap (λ o. (client_numbered o).kept) was

          tells : Tells d n (client_of k) (m ∷ [])
          tells =
              tells-release d n (client_of k) (ap (λ o. (client_numbered o).phase) (sym was) ∙ resting)
              (let below = Hand.below s chosen a (forget x) n d fine is node_there idle blocking resting in omega (arith, below, last))

          h : Handed x u.world n m
          h = handed x d n k m t u node_there was tells said taken

          released : IsReleased n ((forget x).nodes n).kept d ((forget x).clients d).kept (decided h) (outcome h).replies
          released =
              subst (λ st. IsReleased n st d ((forget x).clients d).kept (decided h) (outcome h).replies) (sym (kept-here h))
              (subst (λ b. IsReleased n (here h) d b (decided h) (outcome h).replies) (sym last) (decides laws h ok))

          away-drops : total_over (block_cost a (decided h)) (client_numbers s) + 4 ≤ total_over (block_cost a ((forget x).nodes n).kept) (client_numbers s)
          away-drops = Hand.away-drops s chosen a (forget x) n d fine is node_there idle blocking resting (decided h) (outcome h).replies released

          st-here : total_over (block_cost a ((forget x).nodes n).kept) (client_numbers s) ≡ total_over (block_cost a (here h)) (client_numbers s)
          st-here = ap (λ st. total_over (block_cost a st) (client_numbers s)) (kept-here h)

          vote-le : vote_owed a (own_phase a x) u.world.sent n (phase_then h) ≤ vote_owed a (own_phase a x) x.sent n NodeIdle
          vote-le =
              vote-owed-le (ask_cost a (own_phase a x) u.world.sent n (phase_then h)) (ask_cost a (own_phase a x) x.sent n NodeIdle)
              (Hand.away-asks s chosen a (forget x) n d fine is node_there idle blocking resting (forget u.world) (said-grows x u.world (m ∷ []) h.did.sent) (phase_then h))

  -- the release and the reply to it are owed for who stands in the way
  pub away-owed : 2 ≤ owed chosen a x
  away-owed = go (numbered x.nodes n) refl
    where
      there : Station
      there = ((forget x).nodes n).kept

      blocked : 4 ≤ total_over (block_cost a there) (client_numbers s)
      blocked =
          let one : block_cost a there d ≡ 4 = ap (λ b. if b then 4 else 0) (Hand.blocking s chosen a (forget x) n d fine is node_there idle blocking resting) in
          omega (arith, one, total-least (block_cost a there) (client_numbers s) d (client-among s d client_there))

      go : (o : Option ExactNode) → numbered x.nodes n ≡ o → 2 ≤ owed chosen a x
      go None none = absurd (let z : NodeDown ≡ NodeIdle = sym (ap (λ o. (node_numbered o).phase) none) ∙ idle in cc)
      go (Some v) was =
          let phase : v.phase ≡ node.Idle = node-idle v.phase (ap (λ o. (node_numbered o).phase) (sym was) ∙ idle) in
          let half = blocks-double s a v.kept (station_of v.kept) refl in
          let all : 4 ≤ total_over (block_cost a (station_of v.kept)) (client_numbers s) = subst (λ o. 4 ≤ total_over (block_cost a (node_numbered o).kept) (client_numbers s)) was blocked in
          let least : owed_at s a (own_phase a x) x.sent n (Some v) ≤ owed chosen a x = subst (λ o. owed_at s a (own_phase a x) x.sent n o ≤ owed chosen a x) was (owed-least chosen a x n node_there is) in
          omega (arith, half, all, least, idle-owed s a (own_phase a x) x.sent n v phase)

-- The client that wants in hands in its request.
module _ (laws : ModelLaws) (chosen : ℕ → Bool) (a : Want) (x : ExactWorld) (n : ℕ) (q : Present) (ok : IsSound x) (fine : Fine (setting_of x) chosen a (forget x)) (is : chosen n ≡ true) (node_there : HasAnyNode x.ballots n) (idle : ((forget x).nodes n).phase ≡ NodeIdle)
    (none : (d : ℕ) → blocks a (coming ((forget x).nodes n)) d ≡ false) (asking : own_phase a x ≡ Asking q) (wanted : asks_for a q ≡ true) (ungranted : q.granted n ≡ false) (unsent : list_any (is_grant n q.ticket) x.sent ≡ false) where
  abbrev settings : Setting
  settings = setting_of x

  -- the whole vote is owed
  in-vote : vote_owed a (own_phase a x) x.sent n NodeIdle ≡ 2
  in-vote = vote-owed-whole a (own_phase a x) x.sent n NodeIdle (Hand.in-before settings chosen a (forget x) n q fine is node_there idle none asking wanted ungranted unsent)

  pub in-pays : (t u : Stepped) → step x (event.SayTo a.client n) ≡ Ok t → step t.world (event.Take n (next_number x)) ≡ Ok u → length u.world.sent + owed chosen a u.world ≤ length x.sent + owed chosen a x
  in-pays t u said taken = let found = numbered-there x.clients a.client fine.possible.client.0 fine.possible.client.1 in go found.0 found.1
    where
      go : (k : ExactClient) → numbered x.clients a.client ≡ Some k → length u.world.sent + owed chosen a u.world ≤ length x.sent + owed chosen a x
      go k was =
          hand-pays-so laws chosen a x u.world n m h is node_there
          (asked-count n h.taker.kept.problem h.taker.kept.entries q.ticket (reply_to_known n q.ticket (entry_of h.taker.kept.entries q.ticket.client)) sound.kept.well_formed won.2)
          (let same = st-here in let vote = vote-none in let blocked = no-more in omega (arith, blocked, in-vote, vote, same))
        where
          m : Message
          m = Request n q.ticket

          tells : Tells a.client n (client_of k) (m ∷ [])
          tells = tells-request a.client n (client_of k) q (ap (λ o. (client_numbered o).phase) (sym was) ∙ asking)

          h : Handed x u.world n m
          h = handed x a.client n k m t u node_there was tells said taken

          sound : IsSoundNode h.taker
          sound = ok.each_node n h.taker h.was

          asked : IsAsked n ((forget x).nodes n).kept q.ticket (decided h) (outcome h).replies
          asked = subst (λ st. IsAsked n st q.ticket (decided h) (outcome h).replies) (sym (kept-here h)) (decides laws h ok)

          won : Hand.Wins settings chosen a (forget x) n q fine is node_there idle none asking wanted (decided h) (outcome h).replies
          won = Hand.wins settings chosen a (forget x) n q fine is node_there idle none asking wanted (decided h) (outcome h).replies asked

          no-more : total_over (block_cost a (decided h)) (client_numbers settings) ≤ total_over (block_cost a ((forget x).nodes n).kept) (client_numbers settings)
          no-more = Hand.in-blocks settings chosen a (forget x) n q fine is node_there idle none asking wanted (decided h) (outcome h).replies won

          st-here : total_over (block_cost a ((forget x).nodes n).kept) (client_numbers settings) ≡ total_over (block_cost a (here h)) (client_numbers settings)
          st-here = ap (λ st. total_over (block_cost a st) (client_numbers settings)) (kept-here h)

          comes : ComesTo h.taker.kept.problem (outcome h) (decided_on h.taker m)
          comes = comes-to laws h.taker m

          -- the Grant is promised then
          vote-none : vote_owed a (own_phase a x) u.world.sent n (phase_then h) ≡ 0
          vote-none =
              vote-owed-none a (own_phase a x) u.world.sent n (phase_then h)
              (Hand.in-after settings chosen a (forget x) n q fine is node_there idle none asking wanted (forget u.world) (decided h) (outcome h).replies won (phase_then h) (comes.promised n q.ticket))

  pub in-owed : 2 ≤ owed chosen a x
  in-owed = go (numbered x.nodes n) refl
    where
      go : (o : Option ExactNode) → numbered x.nodes n ≡ o → 2 ≤ owed chosen a x
      go None missing = absurd (let z : NodeDown ≡ NodeIdle = sym (ap (λ o. (node_numbered o).phase) missing) ∙ idle in cc)
      go (Some v) was =
          let phase : v.phase ≡ node.Idle = node-idle v.phase (ap (λ o. (node_numbered o).phase) (sym was) ∙ idle) in
          let least : owed_at settings a (own_phase a x) x.sent n (Some v) ≤ owed chosen a x = subst (λ o. owed_at settings a (own_phase a x) x.sent n o ≤ owed chosen a x) was (owed-least chosen a x n node_there is) in
          omega (arith, in-vote, least, idle-owed settings a (own_phase a x) x.sent n v phase)
