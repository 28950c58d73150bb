-- Wherever the client is not inside yet there is a next move, which can be made and brings it nearer.
use Rattle.std.proofs.Common.{◌≡◌, ◌≢◌, ℕ, ◌==◌, ◌⊎◌, Bool, true, false, cond, not, ◌&&◌, ◌||◌, Option, None, Some, refl, sym, ◌∙◌, ap, subst, inl, inr}
use Rattle.std.specs.List.{list_any}
use Rattle.std.proofs.lemmas.Bool.{eq-eqb, eqb-true, cases_Bool, and_parts}
use Rattle.std.proofs.lemmas.Slice.Eq.{bytes_eq-Decides}
use Rattle.std.specs.Str.{bytes_eq}
use Rattle.lock_messages.specs.declared.ids.Actor.TheVariants as actor
use Rattle.lock_messages.specs.declared.tickets.Mode.{Mode}
use Rattle.lock_messages.specs.declared.tickets.Mode.TheVariants.{Read, Write}
use Rattle.lock_model.specs.declared.entries.Status.{Status}
use Rattle.lock_model.specs.ExactStations.{is_write}
use Rattle.lock_model.specs.ExactDecisions.{same_mode}
use Rattle.lock_model.proofs.HearingFacts.{mode-to}
use Rattle.lock_model.specs.Ballots.{HasAnyNode}
use Rattle.lock_model.specs.Stations.{Claim, Free, Has, Standing, Station, stranger}
use Rattle.lock_model.specs.Decisions.{Among}
use Rattle.world_model.specs.declared.events.Event.{Event}
use Rattle.world_model.specs.declared.events.Event.TheVariants as event
use Rattle.world_model.specs.Worlds.{NodePhase, NodeDown, NodeIdle, Decided, Stored, Node, Present, present_mode, ClientPhase, ClientDown, ClientIdle, Chosen, Asking, IsIn, Client, World, Setting, HasClient}
use Rattle.world_model.specs.ExactWorlds.{actor_of}
use Rattle.world_model.specs.declared.ways.Move.{Move}
use Rattle.world_model.specs.declared.ways.Move.TheVariants.{Alone, Hand, HearFrom}
use Rattle.world_model.specs.declared.ways.Want.{Want}
use Rattle.world_model.specs.Advice.{search, found, node_numbers, client_numbers, finishing, finishing_in, coming, is_in_way, blocks, resting, resting_in, going, asks_for, is_inside_as, beginning, beginning_in, is_grant, asking_of, entering, only, alone, finish_move, clear_at, clear_move, own_in, own_move, next_move}
use Rattle.world_model.specs.Ways.{IsGentle, IsUp, IsInsideAs, StandsInWay}
use Rattle.world_model.specs.ExactWays.{IsLeft}
use Rattle.world_model.proofs.Nearer.{Fine, Goes, Nears, node-among, client-among}
use Rattle.world_model.proofs.MoveKinds as kind
use Rattle.world_model.proofs.MoveKinds.{MoveKind}
use Rattle.world_model.proofs.FineFacts.{cases-client, safe-coming, stranger-stands}
use Rattle.world_model.proofs.FinishMoves.{finishes}
use Rattle.world_model.proofs.RestMoves.{rests}
use Rattle.world_model.proofs.OwnMoves.{begins-own}
use Rattle.world_model.proofs.VoteMoves.{hears-grant, enters-own}
use Rattle.world_model.proofs.HandFacts.{hand-away, hand-in}
use Rattle.world_model.proofs.Searches.{found-either, found-none, search-some, search-none, only-some, only-none, numbers-among}

-- nobody is disturbed by the move, and who makes it is up
abbrev pub IsGentleMove : World → Want → Move → Type 0
IsGentleMove w a (Alone e) = IsGentle (λ who. ⊥) a.client e × IsUp w (actor_of e)
IsGentleMove w a (Hand d n) = IsUp w (actor.Client d) × IsUp w (actor.Node n)
IsGentleMove w a (HearFrom n) = IsUp w (actor.Client a.client)

-- the move, and what is known of it
pub record IsNext (s : Setting) (chosen : ℕ → Bool) (a : Want) (w : World) (mv : Move) : Type 0 where
  pub goes : Goes s a w mv
  pub nears : Nears s chosen a w mv
  pub gentle : IsGentleMove w a mv
  pub kind : MoveKind s chosen a w mv

-- the client has arrived, or there is a next move
abbrev pub Goes-on : Setting → (ℕ → Bool) → Want → World → Option Move → Type 0
Goes-on s chosen a w None = IsInsideAs w a
Goes-on s chosen a w (Some mv) = IsNext s chosen a w mv

alone-some : (o : Option Event) (mv : Move) → alone o ≡ Some mv → (e : Event) × (o ≡ Some e) × (mv ≡ Alone e)
alone-some None mv h = absurd (let q : None ≡ Some mv = h in cc)
alone-some (Some e) mv h = (e, refl, (let q : Some (Alone e) ≡ Some mv = h in let same : mv ≡ Alone e = cc in same))

alone-none : (o : Option Event) → alone o ≡ None → o ≡ None
alone-none None h = refl
alone-none (Some e) h = absurd (let q : Some (Alone e) ≡ None = h in cc)

module _ (s : Setting) (chosen : ℕ → Bool) (a : Want) (w : World) (fine : Fine s chosen a w) where
  -- a chosen node that has nothing to finish is idle
  idle-node : (n : ℕ) → chosen n ≡ true → finishing n (w.nodes n) ≡ None → (w.nodes n).phase ≡ NodeIdle
  idle-node n is next = go (w.nodes n).phase (w.nodes n).tried ((fine.ready n is).up) next
    where
      go : (phase : NodePhase) (tried : Option Station) → phase ≢ NodeDown → finishing_in n phase tried ≡ None → phase ≡ NodeIdle
      go NodeDown tried up h = absurd (up refl)
      go NodeIdle tried up h = refl
      go (Decided st replies) None up h = absurd (let q : Some (event.Try (actor.Node n)) ≡ None = h in cc)
      go (Decided st replies) (Some u) up h = absurd (let q : Some (event.Kept (actor.Node n)) ≡ None = h in cc)
      go (Stored replies) tried up h = absurd (let q : Some (event.Say n) ≡ None = h in cc)

  all-idle : finish_move s chosen w ≡ None → (n : ℕ) → Among n (node_numbers s) → chosen n ≡ true → (w.nodes n).phase ≡ NodeIdle
  all-idle none n m is =
      idle-node n is (alone-none (finishing n (w.nodes n)) (only-none chosen (λ k. alone (finishing k (w.nodes k))) n (search-none (only chosen (λ k. alone (finishing k (w.nodes k)))) (node_numbers s) none n m) is))

  -- a node's event is gentle
  gentle-finish : (n : ℕ) (e : Event) → chosen n ≡ true → finishing n (w.nodes n) ≡ Some e → IsGentleMove w a (Alone e)
  gentle-finish n e is next = go (w.nodes n).phase (w.nodes n).tried next
    where
      made : (x : Event) → Some x ≡ Some e → IsGentleMove w a (Alone x) → IsGentleMove w a (Alone e)
      made x q h = let same : x ≡ e = cc in subst (λ y. IsGentleMove w a (Alone y)) same h

      go : (phase : NodePhase) (tried : Option Station) → finishing_in n phase tried ≡ Some e → IsGentleMove w a (Alone e)
      go NodeDown tried h = absurd (let q : None ≡ Some e = h in cc)
      go NodeIdle tried h = absurd (let q : None ≡ Some e = h in cc)
      go (Decided st replies) None h = made (event.Try (actor.Node n)) h (tt, (fine.ready n is).up)
      go (Decided st replies) (Some u) h = made (event.Kept (actor.Node n)) h (tt, (fine.ready n is).up)
      go (Stored replies) tried h = made (event.Say n) h (tt, (fine.ready n is).up)

  -- The first kind of move: a node finishes.
  by-finishing : (mv : Move) → finish_move s chosen w ≡ Some mv → IsNext s chosen a w mv
  by-finishing mv h =
      let f = search-some (only chosen (λ n. alone (finishing n (w.nodes n)))) (node_numbers s) mv h in
      let o = only-some chosen (λ n. alone (finishing n (w.nodes n))) f.0 mv f.2 in
      let e = alone-some (finishing f.0 (w.nodes f.0)) mv o.1 in
      let both = finishes s chosen a w f.0 e.0 fine o.0 (numbers-among s f.0 f.1) e.1 in
      subst (IsNext s chosen a w) (sym e.2) (record { goes = both.0; nears = both.1; gentle = gentle-finish f.0 e.0 o.0 e.1; kind = kind.finishes f.0 e.0 o.0 (numbers-among s f.0 f.1) e.1 })

  -- the client that wants in is up
  own-up : IsUp w (actor.Client a.client)
  own-up e = subst (IsLeft a (w.clients a.client).kept) e fine.left

  -- The second kind: who stands in the way comes to rest, or says its release.

  -- whose ticket stands in the way is another client, and up
  other-client : (st : Station) (d : ℕ) → blocks a st d ≡ true → d ≢ a.client
  other-client st d h e = let z : not (d == a.client) ≡ true = (and_parts (not (d == a.client)) (is_in_way a (st.at d).claim) h).0 in absurd (not-itself z (eq-eqb d a.client e))
    where
      not-itself : not (d == a.client) ≡ true → (d == a.client) ≡ true → ⊥
      not-itself z q = let y : not true ≡ true = subst (λ b. not b ≡ true) q z in cc

  blocks-stands : (st : Station) (d : ℕ) → blocks a st d ≡ true → StandsInWay a st d
  blocks-stands st d h = (other-client st d h, claims (st.at d).claim refl ((and_parts (not (d == a.client)) (is_in_way a (st.at d).claim) h).1))
    where
      writers : (m n : Mode) → (is_write m || is_write n) ≡ true → (m ≡ Write) ⊎ (n ≡ Write)
      writers Write n z = inl refl
      writers Read Write z = inr refl
      writers Read Read z = absurd (let q : false ≡ true = z in cc)

      claims : (claim : Claim) → (st.at d).claim ≡ claim → is_in_way a claim ≡ true → (m : Mode) × (status : Status) × ((st.at d).claim ≡ Has m a.resource status) × ((a.mode ≡ Write) ⊎ (m ≡ Write))
      claims Free is z = absurd (let q : false ≡ true = z in cc)
      claims (Has m x status) is z =
          let both = and_parts (is_write a.mode || is_write m) (bytes_eq x a.resource) z in
          let same : x ≡ a.resource = (bytes_eq-Decides x a.resource).0 both.1 in
          (m, status, is ∙ ap (λ y. Has m y status) same, writers a.mode m both.0)

  known-client : (n d : ℕ) → blocks a (coming (w.nodes n)) d ≡ true → HasClient s d
  known-client n d h =
      elim (cases-client s d) [
        | inl has ↦ has
        | inr nobody ↦ absurd (free (stranger-stands s chosen a w n (coming (w.nodes n)) fine (safe-coming s w n fine.safe) d nobody))
      ]
    where
      free : (coming (w.nodes n)).at d ≡ stranger → ⊥
      free e = let z : is_in_way a Free ≡ true = subst (λ (t : Standing). is_in_way a t.claim ≡ true) e (and_parts (not (d == a.client)) (is_in_way a ((coming (w.nodes n)).at d).claim) h).1 in cc

  -- a client that is up and has nothing to finish is idle
  idle-client : (d : ℕ) → IsUp w (actor.Client d) → resting d (w.clients d) ≡ None → (w.clients d).phase ≡ ClientIdle
  idle-client d up next = go (w.clients d).phase (w.clients d).tried up next
    where
      go : (phase : ClientPhase) (tried : Option ℕ) → phase ≢ ClientDown → resting_in d phase tried ≡ None → phase ≡ ClientIdle
      go ClientDown tried up h = absurd (up refl)
      go ClientIdle tried up h = refl
      go (Chosen t place) None up h = absurd (let q : Some (event.Try (actor.Client d)) ≡ None = h in cc)
      go (Chosen t place) (Some b) up h = absurd (let q : Some (event.Kept (actor.Client d)) ≡ None = h in cc)
      go (Asking p) tried up h = absurd (let q : Some (event.Leave d) ≡ None = h in cc)
      go (IsIn p) tried up h = absurd (let q : Some (event.Leave d) ≡ None = h in cc)

  gentle-rest : (d : ℕ) (e : Event) → IsUp w (actor.Client d) → resting d (w.clients d) ≡ Some e → IsGentleMove w a (Alone e)
  gentle-rest d e is next = go (w.clients d).phase (w.clients d).tried next
    where
      made : (x : Event) → Some x ≡ Some e → IsGentleMove w a (Alone x) → IsGentleMove w a (Alone e)
      made x q h = let same : x ≡ e = cc in subst (λ y. IsGentleMove w a (Alone y)) same h

      go : (phase : ClientPhase) (tried : Option ℕ) → resting_in d phase tried ≡ Some e → IsGentleMove w a (Alone e)
      go ClientDown tried h = absurd (let q : None ≡ Some e = h in cc)
      go ClientIdle tried h = absurd (let q : None ≡ Some e = h in cc)
      go (Chosen t place) None h = made (event.Try (actor.Client d)) h (tt, is)
      go (Chosen t place) (Some b) h = made (event.Kept (actor.Client d)) h (tt, is)
      go (Asking p) tried h = made (event.Leave d) h (tt, is)
      go (IsIn p) tried h = made (event.Leave d) h (tt, is)

  clears : (n d : ℕ) (o : Option Event) → chosen n ≡ true → HasAnyNode s.ballots n → (w.nodes n).phase ≡ NodeIdle → blocks a (coming (w.nodes n)) d ≡ true → resting d (w.clients d) ≡ o → IsNext s chosen a w (going n d o)
  clears n d None is known idle h next =
      let up = (fine.ready n is).in_way d (blocks-stands (coming (w.nodes n)) d h) in
      let both = hand-away s chosen a w n d fine is known idle h (idle-client d up next) in
      record { goes = both.0; nears = both.1; gentle = (up, (fine.ready n is).up); kind = kind.hands_away n d is known idle h (idle-client d up next) }
  clears n d (Some e) is known idle h next =
      let up = (fine.ready n is).in_way d (blocks-stands (coming (w.nodes n)) d h) in
      let both = rests s chosen a w d e fine (known-client n d h) (other-client (coming (w.nodes n)) d h) up next in
      record { goes = both.0; nears = both.1; gentle = gentle-rest d e up next; kind = kind.rests d e (known-client n d h) (other-client (coming (w.nodes n)) d h) up next }

  cleared-some : (n d : ℕ) (mv : Move) → clear_at a w n d ≡ Some mv → (blocks a (coming (w.nodes n)) d ≡ true) × (mv ≡ going n d (resting d (w.clients d)))
  cleared-some n d mv h = go (blocks a (coming (w.nodes n)) d) refl h
    where
      go : (b : Bool) → blocks a (coming (w.nodes n)) d ≡ b → cond b (Some (going n d (resting d (w.clients d)))) None ≡ Some mv → (blocks a (coming (w.nodes n)) d ≡ true) × (mv ≡ going n d (resting d (w.clients d)))
      go true is q = (is, let same : mv ≡ going n d (resting d (w.clients d)) = cc in same)
      go false is q = absurd (let z : None ≡ Some mv = q in cc)

  by-clearing : (mv : Move) → finish_move s chosen w ≡ None → clear_move s chosen a w ≡ Some mv → IsNext s chosen a w mv
  by-clearing mv finished h =
      let f = search-some (only chosen (λ n. search (clear_at a w n) (client_numbers s))) (node_numbers s) mv h in
      let o = only-some chosen (λ n. search (clear_at a w n) (client_numbers s)) f.0 mv f.2 in
      let d = search-some (clear_at a w f.0) (client_numbers s) mv o.1 in
      let c = cleared-some f.0 d.0 mv d.2 in
      subst (IsNext s chosen a w) (sym c.1) (clears f.0 d.0 (resting d.0 (w.clients d.0)) o.0 (numbers-among s f.0 f.1) (all-idle finished f.0 f.1 o.0) c.0 refl)

  -- where nobody has to be cleared, nobody stands in the way
  cleared-none : (n d : ℕ) → clear_at a w n d ≡ None → blocks a (coming (w.nodes n)) d ≡ false
  cleared-none n d h = go (blocks a (coming (w.nodes n)) d) h
    where
      go : (b : Bool) → cond b (Some (going n d (resting d (w.clients d)))) None ≡ None → b ≡ false
      go true q = absurd (let z : Some (going n d (resting d (w.clients d))) ≡ None = q in cc)
      go false q = refl

  none-blocks : clear_move s chosen a w ≡ None → (n : ℕ) → Among n (node_numbers s) → chosen n ≡ true → (d : ℕ) → blocks a (coming (w.nodes n)) d ≡ false
  none-blocks none n m is d =
      elim (cases_Bool (blocks a (coming (w.nodes n)) d)) [
        | inl h ↦ cleared-none n d (search-none (clear_at a w n) (client_numbers s) here d (client-among s d (known-client n d h)))
        | inr h ↦ h
      ]
    where
      here : search (clear_at a w n) (client_numbers s) ≡ None
      here = only-none chosen (λ k. search (clear_at a w k) (client_numbers s)) n (search-none (only chosen (λ k. search (clear_at a w k) (client_numbers s))) (node_numbers s) none n m) is

  -- The third kind: the client itself.

  gentle-own : (e : Event) → beginning a (w.clients a.client) ≡ Some e → IsGentleMove w a (Alone e)
  gentle-own e next = go (w.clients a.client).phase (w.clients a.client).tried own-up next
    where
      made : (x : Event) → Some x ≡ Some e → IsGentleMove w a (Alone x) → IsGentleMove w a (Alone e)
      made x q h = let same : x ≡ e = cc in subst (λ y. IsGentleMove w a (Alone y)) same h

      leaving : (b : Bool) → IsUp w (actor.Client a.client) → cond b None (Some (event.Leave a.client)) ≡ Some e → IsGentleMove w a (Alone e)
      leaving true up h = absurd (let q : None ≡ Some e = h in cc)
      leaving false up h = made (event.Leave a.client) h (tt, up)

      go : (phase : ClientPhase) (tried : Option ℕ) → IsUp w (actor.Client a.client) → beginning_in a phase tried ≡ Some e → IsGentleMove w a (Alone e)
      go ClientDown tried up h = absurd (let q : None ≡ Some e = h in cc)
      go ClientIdle tried up h = made (event.Begin a.client a.mode a.resource a.place) h (refl, up)
      go (Chosen t place) None up h = made (event.Try (actor.Client a.client)) h (tt, up)
      go (Chosen t place) (Some b) up h = made (event.Kept (actor.Client a.client)) h (tt, up)
      go (Asking p) tried up h = leaving (asks_for a p) up h
      go (IsIn p) tried up h = leaving (is_inside_as a p) up h

  -- the client asks for what it wants: nothing has to be begun
  asks-already : (p : Present) → (w.clients a.client).phase ≡ Asking p → beginning a (w.clients a.client) ≡ None → asks_for a p ≡ true
  asks-already p asking h = go (asks_for a p) (subst (λ (phase : ClientPhase). beginning_in a phase (w.clients a.client).tried ≡ None) asking h)
    where
      go : (b : Bool) → cond b None (Some (event.Leave a.client)) ≡ None → b ≡ true
      go true q = refl
      go false q = absurd (let z : Some (event.Leave a.client) ≡ None = q in cc)

  asked-some : (p : Present) (n : ℕ) (mv : Move) → asking_of a p w.sent n ≡ Some mv → (p.granted n ≡ false) × (mv ≡ cond (list_any (is_grant n p.ticket) w.sent) (HearFrom n) (Hand a.client n))
  asked-some p n mv h = go (p.granted n) refl h
    where
      it : Move
      it = cond (list_any (is_grant n p.ticket) w.sent) (HearFrom n) (Hand a.client n)

      go : (b : Bool) → p.granted n ≡ b → cond b None (Some it) ≡ Some mv → (p.granted n ≡ false) × (mv ≡ it)
      go true is q = absurd (let z : None ≡ Some mv = q in cc)
      go false is q = (is, (let same : mv ≡ it = cc in same))

  asked-none : (p : Present) (n : ℕ) → asking_of a p w.sent n ≡ None → p.granted n ≡ true
  asked-none p n h = go (p.granted n) h
    where
      it : Move
      it = cond (list_any (is_grant n p.ticket) w.sent) (HearFrom n) (Hand a.client n)

      go : (b : Bool) → cond b None (Some it) ≡ None → b ≡ true
      go true q = refl
      go false q = absurd (let z : Some it ≡ None = q in cc)

  asks-node : (p : Present) (n : ℕ) (b : Bool) → (w.clients a.client).phase ≡ Asking p → asks_for a p ≡ true → finish_move s chosen w ≡ None → clear_move s chosen a w ≡ None → Among n (node_numbers s) → chosen n ≡ true →
      p.granted n ≡ false → list_any (is_grant n p.ticket) w.sent ≡ b → IsNext s chosen a w (cond b (HearFrom n) (Hand a.client n))
  asks-node p n true asking for finished cleared m is ungranted said =
      let both = hears-grant s chosen a w n p fine is (numbers-among s n m) asking for ungranted said in
      record { goes = both.0; nears = both.1; gentle = own-up; kind = kind.hears n p is (numbers-among s n m) asking for ungranted said }
  asks-node p n false asking for finished cleared m is ungranted said =
      let both = hand-in s chosen a w n p fine is (numbers-among s n m) (all-idle finished n m is) (none-blocks cleared n m is) asking for ungranted said in
      record { goes = both.0; nears = both.1; gentle = (own-up, (fine.ready n is).up); kind = kind.hands_in n p is (numbers-among s n m) (all-idle finished n m is) (none-blocks cleared n m is) asking for ungranted said }

  by-asking : (p : Present) (o : Option Move) (mv : Move) → (w.clients a.client).phase ≡ Asking p → asks_for a p ≡ true → finish_move s chosen w ≡ None → clear_move s chosen a w ≡ None →
      search (only chosen (asking_of a p w.sent)) (node_numbers s) ≡ o → entering a o ≡ Some mv → IsNext s chosen a w mv
  by-asking p (Some it) mv asking for finished cleared found h =
      let same : it ≡ mv = cc in
      let f = search-some (only chosen (asking_of a p w.sent)) (node_numbers s) mv (found ∙ ap Some same) in
      let o = only-some chosen (asking_of a p w.sent) f.0 mv f.2 in
      let asked = asked-some p f.0 mv o.1 in
      subst (IsNext s chosen a w) (sym asked.1) (asks-node p f.0 (list_any (is_grant f.0 p.ticket) w.sent) asking for finished cleared f.1 o.0 asked.0 refl)
  by-asking p None mv asking for finished cleared found h =
      let same : Alone (event.Enter a.client) ≡ mv = cc in
      let all : (n : ℕ) → HasAnyNode s.ballots n → chosen n ≡ true → p.granted n ≡ true =
      λ n known is. asked-none p n (only-none chosen (asking_of a p w.sent) n (search-none (only chosen (asking_of a p w.sent)) (node_numbers s) found n (node-among s n known)) is) in
      let both = enters-own s chosen a w p fine asking for all in
      subst (IsNext s chosen a w) same (record { goes = both.0; nears = both.1; gentle = (refl, own-up); kind = kind.enters p asking for all })

  by-own : (mv : Move) → finish_move s chosen w ≡ None → clear_move s chosen a w ≡ None → own_move s chosen a w ≡ Some mv → IsNext s chosen a w mv
  by-own mv finished cleared h =
      elim (found-either (alone (beginning a (w.clients a.client))) (own_in s chosen a w (w.clients a.client).phase) mv h) [
        | inl e ↦
            let f = alone-some (beginning a (w.clients a.client)) mv e in
            let both = begins-own s chosen a w f.0 fine f.1 in
            subst (IsNext s chosen a w) (sym f.2) (record { goes = both.0; nears = both.1; gentle = gentle-own f.0 f.1; kind = kind.begins f.0 f.1 })
        | inr e ↦ go (w.clients a.client).phase refl (alone-none (beginning a (w.clients a.client)) e.0) e.1
      ]
    where
      go : (phase : ClientPhase) → (w.clients a.client).phase ≡ phase → beginning a (w.clients a.client) ≡ None → own_in s chosen a w phase ≡ Some mv → IsNext s chosen a w mv
      go ClientDown is begun q = absurd (let z : None ≡ Some mv = q in cc)
      go ClientIdle is begun q = absurd (let z : None ≡ Some mv = q in cc)
      go (Chosen t place) is begun q = absurd (let z : None ≡ Some mv = q in cc)
      go (Asking p) is begun q = by-asking p (search (only chosen (asking_of a p w.sent)) (node_numbers s)) mv is (asks-already p is begun) finished cleared refl q
      go (IsIn p) is begun q = absurd (let z : None ≡ Some mv = q in cc)

  -- Where there is no move left, the client has arrived.
  inside-as : (p : Present) → (w.clients a.client).phase ≡ IsIn p → is_inside_as a p ≡ true → IsInsideAs w a
  inside-as p is h =
      let first = and_parts (same_mode (present_mode p) a.mode) (bytes_eq p.ticket.resource a.resource && (p.place == a.place)) h in
      let second = and_parts (bytes_eq p.ticket.resource a.resource) (p.place == a.place) first.1 in
      (p, is, mode-to (present_mode p) a.mode first.0, (bytes_eq-Decides p.ticket.resource a.resource).0 second.0, eqb-true p.place a.place second.1)

  arrived : own_move s chosen a w ≡ None → IsInsideAs w a
  arrived h =
      let none = found-none (alone (beginning a (w.clients a.client))) (own_in s chosen a w (w.clients a.client).phase) h in
      go (w.clients a.client).phase (w.clients a.client).tried refl (alone-none (beginning a (w.clients a.client)) none.0) none.1
    where
      never : (o : Option Move) → entering a o ≡ None → ⊥
      never None q = let z : Some (Alone (event.Enter a.client)) ≡ None = q in cc
      never (Some mv) q = let z : Some mv ≡ None = q in cc

      inside : (p : Present) (b : Bool) → (w.clients a.client).phase ≡ IsIn p → is_inside_as a p ≡ b → cond b None (Some (event.Leave a.client)) ≡ None → IsInsideAs w a
      inside p true is for q = inside-as p is for
      inside p false is for q = absurd (let z : Some (event.Leave a.client) ≡ None = q in cc)

      go : (phase : ClientPhase) (tried : Option ℕ) → (w.clients a.client).phase ≡ phase → beginning_in a phase tried ≡ None → own_in s chosen a w phase ≡ None → IsInsideAs w a
      go ClientDown tried is begun q = absurd (own-up is)
      go ClientIdle tried is begun q = absurd (let z : Some (event.Begin a.client a.mode a.resource a.place) ≡ None = begun in cc)
      go (Chosen t place) None is begun q = absurd (let z : Some (event.Try (actor.Client a.client)) ≡ None = begun in cc)
      go (Chosen t place) (Some b) is begun q = absurd (let z : Some (event.Kept (actor.Client a.client)) ≡ None = begun in cc)
      go (Asking p) tried is begun q = absurd (never (search (only chosen (asking_of a p w.sent)) (node_numbers s)) q)
      go (IsIn p) tried is begun q = inside p (is_inside_as a p) is refl begun

  -- the whole
  pub progress : (o : Option Move) → next_move s chosen a w ≡ o → Goes-on s chosen a w o
  progress None h =
      let none = found-none (finish_move s chosen w) (found (clear_move s chosen a w) (own_move s chosen a w)) h in
      arrived (found-none (clear_move s chosen a w) (own_move s chosen a w) none.1).1
  progress (Some mv) h =
      elim (found-either (finish_move s chosen w) (found (clear_move s chosen a w) (own_move s chosen a w)) mv h) [
        | inl e ↦ by-finishing mv e
        | inr e ↦ elim (found-either (clear_move s chosen a w) (own_move s chosen a w) mv e.1) [
          | inl f ↦ by-clearing mv e.0 f
          | inr f ↦ by-own mv e.0 f.0 f.1
        ]
      ]
