-- Parts of an output: what the functions of a run owe one another, and who reads settings himself. Who reads
-- what `serve` promises has no need of them.
use Rattle.std.specs.Prelude.{◌≡◌, ◌⊎◌, ℕ, ◌-◌, Vec, Bool, true, if◌then◌else◌, List, [], ◌++◌, replicate, Option, Some, None, Result, Ok, Err}
use Rattle.std.specs.Global.{Global}
use Rattle.std.specs.Io.KnownBytes.{Appends}
use Rattle.lock_model.specs.Ballots.{node_count}
use Rattle.lock_messages.specs.declared.tickets.Ticket.{Ticket}
use Rattle.world_model.specs.declared.events.StepFault.{StepFault}
use Rattle.world_model.specs.declared.events.StepFault.TheVariants as refusal
use Rattle.world_model.specs.declared.exact.ExactWorld.{ExactWorld}
use Rattle.world_model.specs.Faults.{fault_number}
use Rattle.world_model.specs.Openings.{empty_station, down_node, down_client}
use Rattle.operator_cli.specs.declared.faults.ServeFault.{ServeFault}
use Rattle.operator_cli.specs.declared.faults.ServeFault.TheVariants.{Memory}
use Rattle.operator_cli.specs.declared.faults.ServeFault.TheVariants as fault
use Rattle.world_settings.specs.declared.heads.StartFault.{StartFault}
use Rattle.world_settings.specs.declared.heads.StartFault.TheVariants as start
use Rattle.journal_audit.specs.Verdicts.{verdict_of}
use Rattle.world_settings.specs.declared.commands.Command.{Command}
use Rattle.world_settings.specs.declared.settings.Settings.{Settings}
use Rattle.operator_cli.specs.Openings.{risen_node, risen_client}
use Rattle.line_streams.specs.Streams.{pieces, lines_in, AppendsBeginning}
use Rattle.operator_cli.specs.Texts.{refused_text}
use Rattle.operator_cli.specs.Outputs.{Prints, Told, lines_output, settings_output, verdict_output, KeepsLimit, IsLimited, refused_output, Writes}

-- The world of the settings in which so many nodes, and so many clients, have risen, the first ones
-- first, and the others are down.
abbrev pub rising : Settings → ℕ → ℕ → ExactWorld
rising s nodes clients = record {
  ballots = s.ballots;
  nodes = replicate nodes (risen_node s.problem) ++ replicate (node_count s.ballots - nodes) (down_node (empty_station s.problem));
  clients = replicate clients risen_client ++ replicate (s.clients - clients) (down_client 0);
  sent = [];
}

-- What a call found of the tickets that a query asks for: these; or that the node isn't there; or
-- memory was refused, and it is.
abbrev pub Finds : Option (List Ticket) → Result (Vec Ticket Global) StepFault → Type 0
Finds there (Ok tickets) = there ≡ Some tickets.items
Finds there (Err f) = ((f ≡ refusal.UnknownActor) × (there ≡ None)) ⊎ (f ≡ refusal.Memory)

-- What a call added to a text, of what there was to tell; after want of memory nothing is said.
abbrev pub AddsAnswer : Told → List ℕ → List ℕ → Result Bool ServeFault → ExactWorld → Type 0
AddsAnswer t old new (Ok refused) w = (new ≡ old ++ t.text) × (refused ≡ t.refused) × (w ≡ t.world)
AddsAnswer t old new (Err e) w = e ≡ Memory

-- The same of a refusal.
abbrev pub AddsRefusal : StepFault → List ℕ → List ℕ → Result Bool ServeFault → Type 0
AddsRefusal f old new (Ok refused) = (new ≡ old ++ refused_text (fault_number f)) × (refused ≡ true)
AddsRefusal f old new (Err e) = e ≡ Memory

-- An answer, written.
abbrev pub WritesAnswer : Told → Option (List ℕ) → Option (List ℕ) → Result Bool ServeFault → ExactWorld → Type 0
WritesAnswer t old new (Ok refused) w = Appends old new t.text × (refused ≡ t.refused) × (w ≡ t.world)
WritesAnswer t old new (Err e) w = AppendsBeginning old new t.text

abbrev pub status_of : Bool → ℕ
status_of refused = if refused then 1 else 0

-- The same of the lines of known bytes.
abbrev pub WritesLines : ExactWorld → Option (List ℕ) → Option (List ℕ) → Option (List ℕ) → Result ℕ ServeFault → Type 0
WritesLines w None old new r = Unit {0}
WritesLines w (Some xs) old new r = Writes (lines_output w 1 (lines_in (pieces xs))) old new r

-- How a run ended, with its answer so far: what was gathered was written, or after a fault a
-- beginning of it.
abbrev pub Finishes : Option (List ℕ) → Option (List ℕ) → List ℕ → Result ℕ ServeFault → Result ℕ ServeFault → Type 0
Finishes old new gathered came (Ok status) = (came ≡ Ok status) × Appends old new gathered
Finishes old new gathered came (Err e) = AppendsBeginning old new gathered

-- How a run ends that has no settings. Refused ones are told without memory.
abbrev pub RefusesStart : Command → StartFault → Option (List ℕ) → Option (List ℕ) → Result ℕ ServeFault → Type 0
RefusesStart c start.Read old new r = (r ≡ Err fault.Read) × (new ≡ old)
RefusesStart c (start.Settings e) old new r = Prints (refused_output c e) old new r

-- How a run ends that has settings, with what is left of known bytes.
abbrev pub WritesBehind : Command → Settings → Option (List ℕ) → Option (List ℕ) → Option (List ℕ) → Result ℕ ServeFault → Type 0
WritesBehind c s None old new r = Unit {0}
WritesBehind c s (Some xs) old new r = Writes (settings_output c s (lines_in (pieces xs))) old new r × IsLimited c s (lines_in (pieces xs)) r

-- The verdict on the lines of known bytes, written.
abbrev pub WritesVerdict : ExactWorld → Option (List ℕ) → Option (List ℕ) → Option (List ℕ) → Result ℕ ServeFault → Type 0
WritesVerdict w None old new r = Unit {0}
WritesVerdict w (Some xs) old new r = let v = verdict_of w (lines_in (pieces xs)) in Writes (verdict_output v) old new r × KeepsLimit v r
