use Rattle.std.specs.Prelude.{◌≡◌, ◌≤◌, ℕ, List, Option, [], length}
use Rattle.lossy_link.specs.declared.parcels.Post.{Post}
use Rattle.node_batches.specs.Batches.{then_coming}
use Rattle.node_batches.proofs.batches.gather.Given as goal

-- The link brought these posts, of which there is one at least, and at most as many as were counted. Nothing was given to it.
pub record Gathers {Y Z : Type 0} (coming coming' : Option (List Post)) (given given' : Y) (refused refused' : Z) (posts : List Post) (taken : ℕ) : Type 0 where
  pub brought : coming ≡ then_coming posts coming'
  pub few : length posts ≤ taken
  pub some : posts ≡ [] → ⊥
  pub gives_none : given' ≡ given
  pub refuses_as : refused' ≡ refused

abbrev pub invariant-loop : goal.invariant-loop
invariant-loop g l = Gathers (g.L.Link.coming l.fn.link) (g.L.Link.coming l.link) (g.L.Link.given l.fn.link) (g.L.Link.given l.link) (g.L.Link.refused l.fn.link) (g.L.Link.refused l.link) l.posts.items l.counter
