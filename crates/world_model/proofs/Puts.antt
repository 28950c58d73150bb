-- Worlds in which one actor was put elsewhere: they are what an event leads to.
use Rattle.std.proofs.Common.{◌≡◌, ℕ, ◌==◌, ◌⊎◌, cond, List, ◌++◌, refl, sym, ap, subst, inl, inr}
use Rattle.std.proofs.lemmas.Bool.{eq-eqb, ne_eqb}
use Rattle.lock_messages.specs.declared.messages.Message.{Message}
use Rattle.lock_model.specs.Ballots.{HasAnyNode}
use Rattle.lock_model.specs.Decisions.{Among}
use Rattle.lock_model.proofs.GrantFacts.{among-left, among-right, among-cases}
use Rattle.world_model.specs.Worlds.{Node, Client, World, Setting, HasClient, Sends, OfNode, OfClient}

-- the messages before and what was said
said-sends : (w : World) (said : List Message) (v : World) → v.sent ≡ w.sent ++ said → Sends w said v
said-sends w said v is m = (λ h. among-cases m w.sent said (subst (Among m) is h), λ h. subst (Among m) (sym is) (from h))
  where
    from : Among m w.sent ⊎ Among m said → Among m (w.sent ++ said)
    from (inl h) = among-left m w.sent said h
    from (inr h) = among-right m w.sent said h

-- the world with this node at n, which has said this
abbrev pub put_node : World → ℕ → Node → List Message → World
put_node w n after said = record { nodes = λ k. cond (k == n) after (w.nodes k); clients = w.clients; sent = w.sent ++ said }

pub put-node : (s : Setting) (n : ℕ) (w : World) (before after : Node) (said : List Message) → HasAnyNode s.ballots n → w.nodes n ≡ before → OfNode s n w before after said (put_node w n after said)
put-node s n w before after said known was = record {
  known = known;
  was = was;
  is = ap (λ b. cond b after (w.nodes n)) (eq-eqb n n refl);
  others = λ k apart. ap (λ b. cond b after (w.nodes k)) (ne_eqb k n apart);
  clients = λ c. refl;
  sends = said-sends w said (put_node w n after said) refl;
}

-- the world with this client at c, which has said this
abbrev pub put_client : World → ℕ → Client → List Message → World
put_client w c after said = record { nodes = w.nodes; clients = λ k. cond (k == c) after (w.clients k); sent = w.sent ++ said }

pub put-client : (s : Setting) (c : ℕ) (w : World) (before after : Client) (said : List Message) → HasClient s c → w.clients c ≡ before → OfClient s c w before after said (put_client w c after said)
put-client s c w before after said known was = record {
  known = known;
  was = was;
  is = ap (λ b. cond b after (w.clients c)) (eq-eqb c c refl);
  others = λ k apart. ap (λ b. cond b after (w.clients k)) (ne_eqb k c apart);
  nodes = λ k. refl;
  sends = said-sends w said (put_client w c after said) refl;
}
