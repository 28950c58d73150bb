use Rattle.std.proofs.Common.{sym, ◌∙◌, ap, subst}
use Rattle.std.specs.List.{flat_map}
use Rattle.std.proofs.lemmas.List.Folds.{flat_map-map}
use Rattle.lock_model.specs.Decisions.{Among}
use Rattle.world_model.specs.Forgetting.{forget, IsSound}
use Rattle.world_model.specs.Views.{ticket_in, ticket_for, inside}
use Rattle.world_machine.specs.Listing.{AreInside}
use Rattle.world_machine.specs.Machines.{client_part}
use Rattle.world_machine.proofs.world.World.inside.Goals as goal

pub returns-clause-inside : goal.returns-clause-inside
returns-clause-inside g c =
    let x = c.args.resource.now in
    c.in-Ok.ensures ∙ ap (flat_map (λ k. ticket_for x (ticket_in k.part.phase))) c.deref.ensures.value
    ∙ sym (flat_map-map (λ k. ticket_for x (ticket_in k.phase)) client_part c.self.inside.clients.items) ∙ ap (inside x) c.self.view_is

-- the list is that of a sound world
pub returns-clause-alone : goal.returns-clause-alone
returns-clause-alone g c t there writes =
    let w = c.args.self.now in
    let x = c.args.resource.now in
    let is = returns-clause-inside g c in
    let sound = subst IsSound c.self.view_is c.self.invariant.sound in
    is ∙ c.lists_are_the_sets.ensures.writer w sound x t (subst (Among t) is there) writes

pub returns-clause-set : goal.returns-clause-set
returns-clause-set g c =
    let w = c.args.self.now in
    let x = c.args.resource.now in
    let sound = subst IsSound c.self.view_is c.self.invariant.sound in
    subst (AreInside (forget w) x) (sym (returns-clause-inside g c)) (c.lists_are_the_sets.ensures.inside w sound x)
