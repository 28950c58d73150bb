-- Every world of a run from a lawful opening is safe.
use Rattle.std.proofs.Common.{◌≡◌, ℕ, ◌+◌, List, [], ◌∷◌, IfSome, sym, subst, inl, inr}
use Rattle.lock_messages.specs.declared.ids.Actor.TheVariants as actor
use Rattle.lock_messages.specs.declared.tickets.Ticket.{Ticket}
use Rattle.lock_messages.specs.declared.messages.Message.{Message}
use Rattle.lock_messages.specs.declared.messages.Message.TheVariants.{Request, Release, Grant, Muddled, Soften}
use Rattle.lock_model.specs.Decisions.{Among}
use Rattle.world_model.specs.declared.events.Event.{Event}
use Rattle.world_model.specs.declared.events.Event.TheVariants as event
use Rattle.world_model.specs.Worlds.{World, Setting, IfDecided, Happens, Run, IsLawfulOpening}
use Rattle.world_model.specs.Invariants.{IsPresentIn, IsPresent, IsUnsoftenedIn, IsUnsoftened, WasAsked, IsSafeStation, IsSafePhase, IsSafeNode, IsSafeTicket, IsSafeClient, IsSafe}
use Rattle.world_model.proofs.NodeEvents as nodes
use Rattle.world_model.proofs.ClientSpeaks as speaks
use Rattle.world_model.proofs.ClientEvents as clients

-- a lawful opening is safe: nothing was sent, and nobody asks

module _ (s : Setting) (w : World) (lawful : IsLawfulOpening s w) where
  none-sent : (m : Message) → Among m w.sent → ⊥
  none-sent m h = subst (Among m) lawful.nothing_sent h

  none-present : (c : ℕ) (t : Ticket) → IsPresent w c t → ⊥
  none-present c t p = subst (IsPresentIn t) (lawful.clients_down c) p

  none-unsoftened : (c a : ℕ) → IsUnsoftened w c a → ⊥
  none-unsoftened c a un = subst (IsUnsoftenedIn a) (lawful.clients_down c) un

  none-asked : (t : Ticket) → WasAsked w t → ⊥
  none-asked t (inl h) = none-sent (Request h.0 t) h.1
  none-asked t (inr p) = none-present t.client t p

  opening-station : (n : ℕ) → IsSafeStation w n (w.nodes n).kept
  opening-station n = record {
    lawful = lawful.lawful n;
    caused = lawful.caused n;
    honors = λ t sent. absurd (none-sent (Grant n t) sent);
    owes = λ c. record {
      within = lawful.within n c;
      present = λ t p. absurd (none-present c t p);
      agrees = λ t m x status claim asked client attempt. absurd (none-asked t asked);
      softened = λ m x claim. none-unsoftened c (((w.nodes n).kept.at c).floor + 1);
    };
  }

  opening-node : (n : ℕ) → IsSafeNode w n (w.nodes n)
  opening-node n = record {
    stations = record {
      kept = opening-station n;
      tried = subst (λ o. IfSome o (IsSafeStation w n)) (sym (lawful.no_station_tried n)) tt;
      decided = subst (λ p. IfDecided p (IsSafeStation w n)) (sym (lawful.nodes_down n)) tt;
    };
    phase = subst (IsSafePhase n (w.nodes n).kept (w.nodes n).tried) (sym (lawful.nodes_down n)) tt;
  }

  opening-client : (c : ℕ) → IsSafeClient s.ballots w c (w.clients c)
  opening-client c = record {
    tried = subst (λ o. IfSome o (λ a. a ≡ (w.clients c).kept + 1)) (sym (lawful.no_attempt_tried c)) tt;
    ticket = subst (IsSafeTicket s.ballots w c (w.clients c).kept) (sym (lawful.clients_down c)) tt;
  }

pub opening-safe : (s : Setting) (w : World) → IsLawfulOpening s w → IsSafe s w
opening-safe s w lawful = record {
  nodes = opening-node s w lawful;
  clients = opening-client s w lawful;
  one_ticket = λ t u h k client attempt. absurd (none-asked s w lawful t h);
  asked = λ t h. absurd (none-asked s w lawful t h);
  released = λ n c a m. absurd (none-sent s w lawful (Release n c a) m);
  over = λ n c a t m p. absurd (none-sent s w lawful (Release n c a) m);
  softening = λ n c a m. absurd (none-sent s w lawful (Soften n c a) m);
  softened = λ n c a m un. none-unsoftened s w lawful c a un;
  none_muddled = λ n c a m. none-sent s w lawful (Muddled n c a) m;
}

-- whatever happens keeps a safe world safe
pub happens-safe : (s : Setting) (w : World) (e : Event) (v : World) → IsSafe s w → Happens s w e v → IsSafe s v
happens-safe s w (event.Begin c m x place) v safe h = clients.begins-keeps s c m x place w v safe h
happens-safe s w (event.Try (actor.Node n)) v safe h = nodes.tries-keeps s n w v safe h
happens-safe s w (event.Try (actor.Client c)) v safe h = clients.tries-keeps s c w v safe h
happens-safe s w (event.Kept (actor.Node n)) v safe h = nodes.keeps-keeps s n w v safe h
happens-safe s w (event.Kept (actor.Client c)) v safe h = clients.keeps-keeps s c w v safe h
happens-safe s w (event.SayTo c n) v safe h = let says = h.1 in speaks.tells-keeps s c n w says.0 says.1 v safe says.2 says.3
happens-safe s w (event.Say n) v safe h = nodes.speaks-keeps s n w h.0 h.1 h.2 v safe h.3 h.4
happens-safe s w (event.Take n k) v safe h = nodes.takes-keeps s n h.0 w v safe h.1 h.2 h.3
happens-safe s w (event.Hear c k) v safe h = clients.hears-keeps s c h.0 w v safe h.1 h.3
happens-safe s w (event.Enter c) v safe h = clients.enters-keeps s c w v safe h
happens-safe s w (event.Leave c) v safe h = clients.leaves-keeps s c w v safe h
happens-safe s w (event.Soften c) v safe h = clients.softens-keeps s c w v safe h
happens-safe s w (event.Fall (actor.Node n)) v safe h = nodes.falls-keeps s n w v safe h
happens-safe s w (event.Fall (actor.Client c)) v safe h = clients.falls-keeps s c w v safe h
happens-safe s w (event.Rise (actor.Node n) age) v safe h = nodes.rises-keeps s n age w v safe h
happens-safe s w (event.Rise (actor.Client c) age) v safe h = clients.rises-keeps s c age w v safe h
happens-safe s w (event.Switch n p) v safe h = nodes.switches-keeps s n p w v safe h

pub run-safe : (s : Setting) (events : List Event) (w v : World) → IsSafe s w → Run s w events v → IsSafe s v
run-safe s [] w v safe run = subst (IsSafe s) (sym run) safe
run-safe s (e ∷ events) w v safe run = run-safe s events run.0 v (happens-safe s w e run.0 safe run.1) run.2
