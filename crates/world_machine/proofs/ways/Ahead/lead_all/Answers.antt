use Rattle.vote_weights.specs.Sets.{has_node}
use Rattle.world_machine.proofs.LeadFacts.{from-none, came-stops, raised-out, raised-inside, raised-stops}
use Rattle.world_machine.proofs.ways.Ahead.lead_all.Goals as goal

pub returns-in-Err-clause-refused : goal.returns-in-Err-clause-refused
returns-in-Err-clause-refused g c = came-stops c.args.self.world c.args.want.now c.soundness.ensures.sound c.requires.may c.in-Err.fault c.in-Err.ensures.refused

pub go_in-requires : goal.go_in-requires
go_in-requires g c =
    raised-out c.args.self.world c.args.want.now c.soundness.ensures.sound c.requires.may c.come_up.new.self.world c.come_up.new.self.events.items (from-none c.args.self.world _ _ c.come_up.new.self.world c.come_up.new.self.events.items c.requires.start c.in_default.ensures.up)
    c.raise_nodes.new.self.world c.raise_clients.new.self.world c.raise_nodes.new.self.events.items c.raise_clients.new.self.events.items c.in_default-raise_nodes.ensures.raised c.in_default-raise_clients.ensures.raised (has_node c.every_node-every.result)
    c.every_node-every.ensures

pub returns-in-Ok-clause-inside : goal.returns-in-Ok-clause-inside
returns-in-Ok-clause-inside g c =
    raised-inside c.args.self.world c.args.want.now c.soundness.ensures.sound c.requires.may c.come_up.new.self.world c.come_up.new.self.events.items (from-none c.args.self.world _ _ c.come_up.new.self.world c.come_up.new.self.events.items c.requires.start c.in_default.ensures.up)
    c.raise_nodes.new.self.world c.raise_clients.new.self.world c.raise_nodes.new.self.events.items c.raise_clients.new.self.events.items c.in_default-raise_nodes.ensures.raised c.in_default-raise_clients.ensures.raised (has_node c.every_node-every.result)
    c.every_node-every.ensures c.go_in.new.self.world c.go_in.new.self.events.items c.in-Ok.ensures.arrived

pub returns-in-Err-go_in-clause-refused : goal.returns-in-Err-go_in-clause-refused
returns-in-Err-go_in-clause-refused g c =
    raised-stops c.args.self.world c.args.want.now c.soundness.ensures.sound c.requires.may c.come_up.new.self.world c.come_up.new.self.events.items (from-none c.args.self.world _ _ c.come_up.new.self.world c.come_up.new.self.events.items c.requires.start c.in_default.ensures.up)
    c.raise_nodes.new.self.world c.raise_clients.new.self.world c.raise_nodes.new.self.events.items c.raise_clients.new.self.events.items c.in_default-raise_nodes.ensures.raised c.in_default-raise_clients.ensures.raised (has_node c.every_node-every.result)
    c.every_node-every.ensures c.in-Err-go_in.fault c.in-Err-go_in.ensures.stops
