use Rattle.vote_weights.specs.Sets.{has_node}
use Rattle.world_machine.proofs.LeadFacts.{from-none, came-stops, lead-out, lead-inside, lead-stops}
use Rattle.world_machine.proofs.ways.Ahead.lead.Goals as goal

pub returns-in-Err-clause-refused : goal.returns-in-Err-clause-refused
returns-in-Err-clause-refused g c = came-stops c.args.self.world c.args.want.now c.soundness.ensures.sound c.requires.may c.in-Err.fault c.in-Err.ensures.refused

pub go_in-requires : goal.go_in-requires
go_in-requires g c =
    lead-out c.args.self.world c.args.want.now c.soundness.ensures.sound c.requires.may c.come_up.new.self.world c.come_up.new.self.events.items (from-none c.args.self.world _ _ c.come_up.new.self.world c.come_up.new.self.events.items c.requires.start c.in_default.ensures.up)
    (has_node c.args.chosen) c.requires.won c.requires.enough

pub returns-in-Ok-clause-inside : goal.returns-in-Ok-clause-inside
returns-in-Ok-clause-inside g c =
    (lead-inside c.args.self.world c.args.want.now c.soundness.ensures.sound c.requires.may c.come_up.new.self.world c.come_up.new.self.events.items (from-none c.args.self.world _ _ c.come_up.new.self.world c.come_up.new.self.events.items c.requires.start c.in_default.ensures.up)
    (has_node c.args.chosen) c.requires.won c.requires.enough c.go_in.new.self.world c.go_in.new.self.events.items c.in-Ok.ensures.arrived).0

pub returns-in-Ok-clause-gentle : goal.returns-in-Ok-clause-gentle
returns-in-Ok-clause-gentle g c =
    (lead-inside c.args.self.world c.args.want.now c.soundness.ensures.sound c.requires.may c.come_up.new.self.world c.come_up.new.self.events.items (from-none c.args.self.world _ _ c.come_up.new.self.world c.come_up.new.self.events.items c.requires.start c.in_default.ensures.up)
    (has_node c.args.chosen) c.requires.won c.requires.enough c.go_in.new.self.world c.go_in.new.self.events.items c.in-Ok.ensures.arrived).1

pub returns-in-Err-go_in-clause-refused : goal.returns-in-Err-go_in-clause-refused
returns-in-Err-go_in-clause-refused g c =
    lead-stops c.args.self.world c.args.want.now c.soundness.ensures.sound c.requires.may c.come_up.new.self.world c.come_up.new.self.events.items (from-none c.args.self.world _ _ c.come_up.new.self.world c.come_up.new.self.events.items c.requires.start c.in_default.ensures.up)
    (has_node c.args.chosen) c.requires.won c.requires.enough c.in-Err-go_in.fault c.in-Err-go_in.ensures.stops
