-- How the status of a service is shown.
use Rattle.std.specs.Prelude.{◌⊎◌, ℕ, List}
use Rattle.lock_model.specs.Ballots.{node_count}
use Rattle.service_folders.specs.Folders.{Opened}
use Rattle.program_ends.specs.declared.ending.Ended.{Ended}
use Rattle.program_ends.specs.Endings.{Writers, Shows, LacksMemory}
use Rattle.service_status.specs.declared.sights.Sight.{Sight}
use Rattle.service_status.specs.Sights.{IsSight}
use Rattle.service_status.specs.Texts.{SaysSight}

-- a text says what was seen of a service of so many nodes and clients
abbrev pub SaysFolder : ℕ → ℕ → List ℕ → Type 0
SaysFolder nodes clients text = (s : Sight) × IsSight nodes clients s × SaysSight s text

-- Such a text is shown, unless memory runs out before anything is written.
abbrev pub ShowsFolder : ℕ → ℕ → Writers → Ended → Type 0
ShowsFolder nodes clients w e = ((text : List ℕ) × SaysFolder nodes clients text × Shows text w e) ⊎ LacksMemory w e

-- It is of the nodes and clients that the settings of a service's directory say.
abbrev pub ShowsStatus : Opened → Writers → Ended → Type 0
ShowsStatus o w e = ShowsFolder (node_count o.says.ballots) o.says.clients w e
