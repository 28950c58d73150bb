use Rattle.std.proofs.Common.{List, Option, ◌∙◌, ap}
use Rattle.world_model.specs.declared.ways.Move.{Move}
use Rattle.lock_messages.specs.declared.messages.Message.{Message}
use Rattle.vote_weights.specs.Sets.{has_node}
use Rattle.world_actors.specs.Acting.{ActingNode, ActingClient}
use Rattle.world_model.specs.declared.exact.ExactWorld.{ExactWorld}
use Rattle.world_model.specs.Advice.{next_move}
use Rattle.world_model.specs.Forgetting.{forget, setting_of}
use Rattle.world_machine.specs.Machines.{world_view}
use Rattle.world_machine.proofs.world.World.next_move.Goals as goal

pub returns : goal.returns
returns g c =
    let s = c.self.inside in
    let a = c.args.want.now in
    let chosen = has_node c.args.chosen in
    let next : ExactWorld → Option Move = λ w. next_move (setting_of w) chosen a (forget w) in
    c.next_move.ensures
    ∙ ap (λ (ns : List ActingNode). next (world_view s.ballots ns c.deref-2.result.now c.deref-3.result.now)) c.deref.ensures.value
    ∙ ap (λ (ks : List ActingClient). next (world_view s.ballots s.nodes.items ks c.deref-3.result.now)) c.deref-2.ensures.value
    ∙ ap (λ (sent : List Message). next (world_view s.ballots s.nodes.items s.clients.items sent)) c.deref-3.ensures.value
    ∙ ap next c.self.view_is
