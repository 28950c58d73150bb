-- The exclusion theorem: after every run a writer inside a resource is there alone, and a reader waits
-- only with a cause.
use Rattle.std.specs.Prelude.{◌≡◌, ℕ, List}
use Rattle.lock_messages.specs.declared.tickets.Mode.{Mode}
use Rattle.lock_messages.specs.declared.tickets.Mode.TheVariants.{Read, Write}
use Rattle.lock_messages.specs.declared.messages.Message.TheVariants.{Muddled}
use Rattle.lock_model.specs.Ballots.{AllCross}
use Rattle.lock_model.specs.Stations.{Station, Waits, IsLawful, Cause, IsCaused}
use Rattle.lock_model.specs.Decisions.{Among}
use Rattle.world_model.specs.declared.events.Event.{Event}
use Rattle.world_model.specs.Worlds.{World, Setting, EachStation, Run, IsInside, IsLawfulOpening}

-- each reader waits only where a writer holds the node's vote for the resource or, under problem 2, waits
-- for it there
abbrev pub ReadersHaveCause : Station → Type 0
ReadersHaveCause s = (c : ℕ) (x : List ℕ) → Waits s c Read x → Cause s Read x

-- In this world a writer inside a resource is the only client inside it, and in every station of every
-- node, the kept one, the tried one and the decided one, each reader that waits has a cause.
pub record IsExclusive (w : World) : Type 0 where
  pub alone : (c d : ℕ) (m : Mode) (x : List ℕ) → IsInside w c Write x → IsInside w d m x → d ≡ c
  pub readers : (n : ℕ) → EachStation ReadersHaveCause (w.nodes n)

-- The theorem. The events are any list that is a run: messages may be lost, taken again and in any order,
-- and actors may fall and rise at any time.
abbrev pub WritersAreAlone : Type 0
WritersAreAlone = (s : Setting) (w v : World) (events : List Event) → AllCross s.ballots → IsLawfulOpening s w → Run s w events v → IsExclusive v

-- every station stays lawful and caused
pub record HasSoundStations (w : World) : Type 0 where
  pub lawful : (n : ℕ) → EachStation IsLawful (w.nodes n)
  pub caused : (n : ℕ) → EachStation IsCaused (w.nodes n)

abbrev pub StationsStaySound : Type 0
StationsStaySound = (s : Setting) (w v : World) (events : List Event) → IsLawfulOpening s w → Run s w events v → HasSoundStations v

-- no Muddled is ever sent
abbrev pub NothingIsMuddled : Type 0
NothingIsMuddled = (s : Setting) (w v : World) (events : List Event) → IsLawfulOpening s w → Run s w events v → (n c a : ℕ) → ¬ (Among (Muddled n c a) v.sent)
