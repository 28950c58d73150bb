use Rattle.std.proofs.Common.{◌≡◌, take}
use Rattle.world_model.specs.ExactWorlds.{ran}
use Rattle.world_model.specs.Forgetting.{forget, setting_of}
use Rattle.world_model.specs.StepsOf.{took}
use Rattle.world_model.specs.Worlds.{Run}
use Rattle.world_machine.proofs.world.World.run.Given as goal

abbrev pub invariant-loop-taken : goal.invariant-loop-taken
invariant-loop-taken g l =
    let w = l.initial.self in (ran (take l.taken l.events) w ≡ took l.taken l.self) × Run (setting_of w) (forget w) (take l.taken l.events) (forget l.self) × (setting_of l.self ≡ setting_of w)
