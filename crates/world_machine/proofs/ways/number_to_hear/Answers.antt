use Rattle.std.proofs.Common.{◌≡◌, List, true, false, Some, IfSome, sym, ◌∙◌, ap, subst}
use Rattle.std.specs.List.{list_any}
use Rattle.lock_messages.specs.declared.messages.Message.{Message}
use Rattle.world_actors.specs.Acting.{ActingClient}
use Rattle.world_model.specs.declared.exact.ExactWorld.{ExactWorld}
use Rattle.world_model.specs.Worlds.{Present, Asking}
use Rattle.world_model.specs.Advice.{is_grant}
use Rattle.world_model.specs.ExactWorlds.{numbered}
use Rattle.world_model.specs.Forgetting.{forget}
use Rattle.world_machine.specs.Advising.{asking_if, grant_if}
use Rattle.world_machine.specs.Machines.{world_view}
use Rattle.world_machine.proofs.AdvisingFacts.{hears-first, hears-none}
use Rattle.world_machine.proofs.ways.number_to_hear.Goals as goal

pub returns-clause-some : goal.returns-clause-some
returns-clause-some g c =
    let s = c.world.inside in
    let a = c.args.want.now in
    let n = c.args.node in
    let is : c.grant_for.result ≡ grant_if n (asking_if (numbered s.clients.items a.client)) s.sent.items =
    c.grant_for.ensures ∙ ap (λ (ks : List ActingClient). grant_if n (asking_if (numbered ks a.client)) c.deref-2.result.now) c.deref.ensures.value ∙ ap (grant_if n (asking_if (numbered s.clients.items a.client))) c.deref-2.ensures.value in
    subst (λ (w : ExactWorld). IfSome c.grant_for.result (λ k. (m : Message) × (p : Present) × (((forget w).clients a.client).phase ≡ Asking p) × (numbered w.sent k ≡ Some m) × (is_grant n p.ticket m ≡ true))) c.world.view_is
    (subst (λ o. IfSome o (λ k. (m : Message) × (p : Present) × (((forget (world_view s.ballots s.nodes.items s.clients.items s.sent.items)).clients a.client).phase ≡ Asking p) × (numbered s.sent.items k ≡ Some m) × (is_grant n p.ticket m ≡ true))) (sym is)
    (hears-first s.ballots s.nodes.items s.clients.items s.sent.items a.client n))

pub returns-clause-none : goal.returns-clause-none
returns-clause-none g c = λ none.
    (let s = c.world.inside in
    let a = c.args.want.now in
    let n = c.args.node in
    let is : c.grant_for.result ≡ grant_if n (asking_if (numbered s.clients.items a.client)) s.sent.items =
    c.grant_for.ensures ∙ ap (λ (ks : List ActingClient). grant_if n (asking_if (numbered ks a.client)) c.deref-2.result.now) c.deref.ensures.value ∙ ap (grant_if n (asking_if (numbered s.clients.items a.client))) c.deref-2.ensures.value in
    subst (λ (w : ExactWorld). (p : Present) → ((forget w).clients a.client).phase ≡ Asking p → list_any (is_grant n p.ticket) w.sent ≡ false) c.world.view_is
    (hears-none s.ballots s.nodes.items s.clients.items s.sent.items a.client n (sym is ∙ none)))
