-- What a service's directory has, by the bytes of its files.
use Rattle.std.specs.Prelude.{◌≡◌, ℕ, ◌≤◌, nat_le, Bool, if◌then◌else◌, List, [], ◌∷◌, ◌++◌, length, Result, Ok, Err, codes}
use Rattle.std.specs.List.{slice_split}
use Rattle.hex.specs.Hex.{encode_lower}
use Rattle.lock_messages.specs.declared.ids.TheConstants.{MAX_CLIENTS}
use Rattle.lock_messages.specs.declared.ids.Actor.{Actor}
use Rattle.lock_messages.specs.declared.ids.Actor.TheVariants as actor
use Rattle.lock_messages.specs.Texts.{actor_text}
use Rattle.lock_model.specs.declared.problems.Problem.{Problem}
use Rattle.lock_model.specs.Ballots.{node_count}
use Rattle.stable_record.specs.Records.{node_record_of, client_record_of}
use Rattle.world_settings.specs.declared.commands.Command.TheVariants as command
use Rattle.world_settings.specs.declared.settings.Settings.{Settings}
use Rattle.world_settings.specs.declared.faults.SettingsFault.{SettingsFault}
use Rattle.world_settings.specs.declared.faults.SettingsFault.TheVariants as fault
use Rattle.world_settings.specs.Settings.{Given, settings_of}
use Rattle.service_folders.specs.declared.keys.TheConstants.{MIN_KEY_LEN, RANDOM_LEN}
use Rattle.service_folders.specs.declared.services.TheConstants.{MAX_SETTINGS_LEN}
use Rattle.service_folders.specs.Cuts.{is_byte, first_of}

-- the path of a file in a directory: a slash, which is 47, is between them
abbrev pub file_path : List ℕ → List ℕ → List ℕ
file_path folder name = folder ++ 47 ∷ name

-- the path of an actor's file
abbrev pub actor_path : List ℕ → Actor → List ℕ → List ℕ
actor_path folder who end = file_path folder (actor_text who ++ end)

abbrev pub record_end : List ℕ
record_end = codes ".record"

abbrev pub journal_end : List ℕ
journal_end = codes ".journal"

abbrev pub batch_end : List ℕ
batch_end = codes ".batch"

-- the record of a node that has kept its problem and no entry
abbrev pub new_node_record : Problem → List ℕ
new_node_record p = node_record_of (record { problem = p; entries = [] })

-- the record of a new actor: a client has kept no attempt
abbrev pub new_record : Problem → Actor → List ℕ
new_record problem (actor.Node n) = new_node_record problem
new_record problem (actor.Client c) = client_record_of 0

-- the service of these settings has the actor
abbrev pub service_has : Settings → Actor → Bool
service_has s (actor.Node n) = nat_le n (node_count s.ballots)
service_has s (actor.Client c) = nat_le c s.clients

-- what settings say of the service, of all that they say
abbrev pub service_part : Result Given SettingsFault → Result Settings SettingsFault
service_part (Ok g) = Ok g.settings
service_part (Err f) = Err f

-- What the text of settings says of the service, or why it is refused. It is judged as the head of a script. So a text
-- that is too long for a head is refused as one that nothing ends.
abbrev pub text_says : List ℕ → Result Settings SettingsFault
text_says text = if nat_le (length text) MAX_SETTINGS_LEN then service_part (settings_of command.Script text) else Err fault.NoEnd

-- the key in the content of its file: the first line, without its line feed, which is 10
abbrev pub key_in : List ℕ → List ℕ
key_in content = first_of (slice_split (is_byte 10) content)

-- there are 1 to 1,024 clients
abbrev pub HasClients : Settings → Type 0
HasClients s = (1 ≤ s.clients) × (s.clients ≤ MAX_CLIENTS)

-- A service as its directory has it: the path, the text of the settings and what it says, and the content of the file
-- of the key.
pub record Opened : Type 0 where
  pub path : List ℕ
  pub text : List ℕ
  pub says : Settings
  pub content : List ℕ

-- the text says that, and the key has enough bytes
pub record IsOpened (o : Opened) : Type 0 where
  pub says : text_says o.text ≡ Ok o.says
  pub clients : HasClients o.says
  pub key : MIN_KEY_LEN ≤ length (key_in o.content)

-- the content of the file of a new key: digits for 32 bytes, and a line feed
abbrev pub IsNewSecret : List ℕ → Type 0
IsNewSecret content = (bytes : List ℕ) × (length bytes ≡ RANDOM_LEN) × (content ≡ encode_lower bytes ++ codes "\n")
