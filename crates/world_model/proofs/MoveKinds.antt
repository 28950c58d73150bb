-- What a next move may be, with all that is known where it is one.
use Rattle.std.proofs.Common.{◌≡◌, ◌≢◌, ℕ, Bool, true, false, Some}
use Rattle.std.specs.List.{list_any}
use Rattle.lock_messages.specs.declared.ids.Actor.TheVariants as actor
use Rattle.lock_model.specs.Ballots.{HasAnyNode}
use Rattle.world_model.specs.declared.events.Event.{Event}
use Rattle.world_model.specs.declared.events.Event.TheVariants as event
use Rattle.world_model.specs.declared.ways.Move.{Move}
use Rattle.world_model.specs.declared.ways.Move.TheVariants.{Alone, Hand, HearFrom}
use Rattle.world_model.specs.declared.ways.Want.{Want}
use Rattle.world_model.specs.Worlds.{NodeIdle, Present, ClientIdle, Asking, World, Setting, HasClient}
use Rattle.world_model.specs.Advice.{finishing, coming, blocks, resting, asks_for, beginning, is_grant}
use Rattle.world_model.specs.Ways.{IsUp}

pub data MoveKind (s : Setting) (chosen : ℕ → Bool) (a : Want) (w : World) : Move → Type 0 where
  -- a chosen node finishes
  finishes : (n : ℕ) (e : Event) → chosen n ≡ true → HasAnyNode s.ballots n → finishing n (w.nodes n) ≡ Some e → MoveKind s chosen a w (Alone e)
  -- who stands in the way comes to rest
  rests : (d : ℕ) (e : Event) → HasClient s d → d ≢ a.client → IsUp w (actor.Client d) → resting d (w.clients d) ≡ Some e → MoveKind s chosen a w (Alone e)
  -- and hands in its release
  hands_away : (n d : ℕ) → chosen n ≡ true → HasAnyNode s.ballots n → (w.nodes n).phase ≡ NodeIdle → blocks a (coming (w.nodes n)) d ≡ true → (w.clients d).phase ≡ ClientIdle → MoveKind s chosen a w (Hand d n)
  -- the client begins
  begins : (e : Event) → beginning a (w.clients a.client) ≡ Some e → MoveKind s chosen a w (Alone e)
  -- it hands in its request, where nobody stands in the way
  hands_in : (n : ℕ) (p : Present) → chosen n ≡ true → HasAnyNode s.ballots n → (w.nodes n).phase ≡ NodeIdle → ((d : ℕ) → blocks a (coming (w.nodes n)) d ≡ false) → (w.clients a.client).phase ≡ Asking p → asks_for a p ≡ true →
      p.granted n ≡ false → list_any (is_grant n p.ticket) w.sent ≡ false → MoveKind s chosen a w (Hand a.client n)
  -- it hears a Grant
  hears : (n : ℕ) (p : Present) → chosen n ≡ true → HasAnyNode s.ballots n → (w.clients a.client).phase ≡ Asking p → asks_for a p ≡ true → p.granted n ≡ false → list_any (is_grant n p.ticket) w.sent ≡ true →
      MoveKind s chosen a w (HearFrom n)
  -- it enters
  enters : (p : Present) → (w.clients a.client).phase ≡ Asking p → asks_for a p ≡ true → ((n : ℕ) → HasAnyNode s.ballots n → chosen n ≡ true → p.granted n ≡ true) → MoveKind s chosen a w (Alone (event.Enter a.client))
