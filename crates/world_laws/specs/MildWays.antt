-- What others do on a way in, also where it isn't gentle. The statement is proved as the contract of a function of
-- `laws`.
use Rattle.std.specs.Prelude.{◌≡◌, List, ◌++◌}
use Rattle.lock_messages.specs.declared.ids.Actor.{Actor}
use Rattle.lock_messages.specs.declared.ids.Actor.TheVariants as actor
use Rattle.lock_model.specs.Decisions.{Among}
use Rattle.world_model.specs.declared.events.Age.TheVariants.{Old}
use Rattle.world_model.specs.declared.events.Event.{Event}
use Rattle.world_model.specs.declared.events.Event.TheVariants as event
use Rattle.world_model.specs.declared.exact.ExactWorld.{ExactWorld}
use Rattle.world_model.specs.declared.ways.Want.{Want}
use Rattle.world_model.specs.Worlds.{World}
use Rattle.world_model.specs.Advice.{coming_up}
use Rattle.world_model.specs.ExactWays.{LeadsIn, HasAttempt, HasRoomFor, every_node}
use Rattle.world_model.specs.Forgetting.{forget, setting_of, IsSound}
use Rattle.world_model.specs.Ways.{IsPossible, IsGentle, IsUp}

-- an actor that is down rises with what it has kept
abbrev pub IsRiseOfDown : World → Event → Type 0
IsRiseOfDown w e = (who : Actor) × (e ≡ event.Rise who Old) × ¬ (IsUp w who)

-- A way in of three parts. First the client comes up. Then some of those that are down rise. After that nobody else
-- begins, hears, enters or softens, no node takes another problem, and nobody falls or rises but the client: the others
-- finish what they do, say it, and leave.
pub record MildWay (w : ExactWorld) (a : Want) : Type 0 where
  pub rises : List Event
  pub rest : List Event
  pub leads : LeadsIn w a ((coming_up a ((forget w).clients a.client).phase ++ rises) ++ rest)
  pub only_down : (e : Event) → Among e rises → IsRiseOfDown (forget w) e
  pub gentle : (e : Event) → Among e rest → IsGentle (λ who. who ≡ actor.Client a.client) a.client e

-- In a sound world there is such a way in for each client that is there and has an attempt left, where there is room
-- for what it takes to win all nodes.
abbrev pub WaysInAreMild : Type 0
WaysInAreMild = (w : ExactWorld) (a : Want) → IsSound w → IsPossible (setting_of w) a → HasAttempt (forget w) a → HasRoomFor (every_node (setting_of w)) a w → MildWay w a
