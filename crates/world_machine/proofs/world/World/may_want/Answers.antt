use Rattle.std.proofs.Common.{List, Some, refl, sym, ◌∙◌, ap, subst, inl, inr}
use Rattle.world_actors.specs.Acting.{ActingClient}
use Rattle.world_model.specs.declared.exact.ExactWorld.{ExactWorld}
use Rattle.world_model.specs.ExactWorlds.{numbered}
use Rattle.world_machine.specs.Going.{AttemptIs}
use Rattle.world_machine.proofs.LeadFacts.{Judged, judged, may-then, no-place-then}
use Rattle.world_machine.proofs.world.World.may_want.Goals as goal

pub returns-in-Some-true-clause-may : goal.returns-in-Some-true-clause-may
returns-in-Some-true-clause-may g c =
    let s = c.self.inside in
    let a = c.args.want.now in
    let j = subst (λ (w : ExactWorld). Judged a w c.attempt_of.result) c.self.view_is (judged s.ballots s.nodes.items s.clients.items s.sent.items a c.attempt_of.result (subst (λ (ks : List ActingClient). AttemptIs a (numbered ks a.client) c.attempt_of.result) c.deref.ensures.value c.attempt_of.ensures)) in
    may-then a c.args.self.now s.ballots c.ballot_of.result (sym (ap (λ (w : ExactWorld). w.ballots) c.self.view_is)) (j.left (c.in-Some-true.is ∙ ap Some c.in-Some-true.field-0-test)) c.ballot_of.ensures.ballot

pub returns-in-Some-true-clause-refused : goal.returns-in-Some-true-clause-refused
returns-in-Some-true-clause-refused g c =
    let s = c.self.inside in
    let a = c.args.want.now in
    let j = subst (λ (w : ExactWorld). Judged a w c.attempt_of.result) c.self.view_is (judged s.ballots s.nodes.items s.clients.items s.sent.items a c.attempt_of.result (subst (λ (ks : List ActingClient). AttemptIs a (numbered ks a.client) c.attempt_of.result) c.deref.ensures.value c.attempt_of.ensures)) in
    no-place-then a c.args.self.now s.ballots c.ballot_of.result (sym (ap (λ (w : ExactWorld). w.ballots) c.self.view_is)) (j.left (c.in-Some-true.is ∙ ap Some c.in-Some-true.field-0-test)) c.ballot_of.ensures.none

pub returns-in-Some-false-clause-refused : goal.returns-in-Some-false-clause-refused
returns-in-Some-false-clause-refused g c =
    let s = c.self.inside in
    let a = c.args.want.now in
    let j = subst (λ (w : ExactWorld). Judged a w c.attempt_of.result) c.self.view_is (judged s.ballots s.nodes.items s.clients.items s.sent.items a c.attempt_of.result (subst (λ (ks : List ActingClient). AttemptIs a (numbered ks a.client) c.attempt_of.result) c.deref.ensures.value c.attempt_of.ensures)) in
    let it = j.spent (c.in-Some-false.is ∙ ap Some c.in-Some-false.field-0-test) in
    inr (inl (refl, it.0, it.1))

pub returns-in-None-clause-refused : goal.returns-in-None-clause-refused
returns-in-None-clause-refused g c =
    let s = c.self.inside in
    let a = c.args.want.now in
    let j = subst (λ (w : ExactWorld). Judged a w c.attempt_of.result) c.self.view_is (judged s.ballots s.nodes.items s.clients.items s.sent.items a c.attempt_of.result (subst (λ (ks : List ActingClient). AttemptIs a (numbered ks a.client) c.attempt_of.result) c.deref.ensures.value c.attempt_of.ensures)) in
    inl (refl, j.nobody c.in-None.is)
