use Rattle.std.proofs.Common.{◌≡◌, ◌<◌, length, Some, arith}
use Rattle.vote_weights.specs.Sets.{has_node}
use Rattle.world_machine.specs.Advising.{ask_node}
use Rattle.world_machine.proofs.AdvisingFacts.{found-here}
use Rattle.world_machine.proofs.advising.ask_move.Goals as goal

pub returns-in-Some : goal.returns-in-Some
returns-in-Some g c =
    let f = ask_node (has_node c.args.chosen) c.args.want.now c.args.sent.now c.args.asked.now.0 c.args.asked.now.1 in
    let x = c.node-item.result in
    let within : c.loop-node.node-index < length c.args.nodes.now = omega (arith, c.loop-node-test.true) in
    let is = c.in-Some.is in
    let gives = c.ask_node.ensures in
    let here : f x ≡ Some c.in-Some.next = cc in
    found-here f c.args.nodes.now c.loop-node.node-index x c.in-Some.next within c.node-item.is here c.loop-node.invariant
