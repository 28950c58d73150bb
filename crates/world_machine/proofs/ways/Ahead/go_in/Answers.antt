use Rattle.std.proofs.Common.{[], sym}
use Rattle.std.proofs.Common.{append-nil}
use Rattle.vote_weights.specs.Sets.{has_node}
use Rattle.world_model.specs.ExactWays.{follows_none}
use Rattle.world_machine.proofs.GoingFacts.{made-more, made-less}
use Rattle.world_machine.proofs.ways.Ahead.go_in.Goals as goal

pub loop-next-init : goal.loop-next-init
loop-next-init g c = ([], follows_none, sym (append-nil c.args.self.now.events.items))

pub loop-next-smaller : goal.loop-next-smaller
loop-next-smaller g c =
    made-less (has_node c.args.chosen) c.args.want.now c.args.self.now.world c.args.self.now.events.items c.loop-next.self.world c.loop-next.self.events.items c.in-Some.next c.make.new.self.world c.make.new.self.events.items c.soundness.ensures.sound c.requires
    c.loop-next.invariant (sym c.in-Some.ensures) c.in_default-make.ensures.made

pub loop-next-preserved : goal.loop-next-preserved
loop-next-preserved g c =
    made-more (has_node c.args.chosen) c.args.want.now c.args.self.now.world c.args.self.now.events.items c.loop-next.self.world c.loop-next.self.events.items c.in-Some.next c.make.new.self.world c.make.new.self.events.items
    c.loop-next.invariant (sym c.in-Some.ensures) c.in_default-make.ensures.made
