use Rattle.std.proofs.Common.{subst, Some}
use Rattle.world_actors.specs.Acting.{ActingClient}
use Rattle.world_model.specs.declared.events.Effect.TheVariants as effect
use Rattle.world_model.specs.Parts.{ClientPart}
use Rattle.own_recorders.specs.OwnTurns.{HasTurned}
use Rattle.own_recorders.proofs.TurnFacts.{heard_turn}
use Rattle.own_recorders.proofs.clients.OwnClientOwnActor.read.Goals as goal

pub returns-clause-turned : goal.returns-clause-turned
returns-clause-turned c =
    let k : ActingClient = c.self.inside.client in
    let e = c.args.event in
    let m = c.args.message.now in
    let h = c.hear-heard.result in
    let after = c.hear-heard.new.self.part in
    subst (λ (k : ActingClient). HasTurned k.ballots (ClientPart k.part) e (Some m) (effect.Heard m h) (ClientPart after)) c.self.view_is
    (heard_turn k.ballots k.number k.part after e m h (rw c.self.view_is c.requires.own) c.requires.reading (rw c.self.view_is c.requires.allowed) (rw c.self.view_is c.requires.addressed) c.hear-heard.ensures.heard c.hear-heard.ensures.exact)
