-- When a new service is refused before a file is made, and by which faults.
use Rattle.std.specs.Prelude.{◌≡◌, ◌⊎◌, ℕ, List, Bool, true, false, Option, Some, None, Result, Ok, Err, IsOk}
use Rattle.std.specs.Borrow.{Bor}
use Rattle.lock_messages.specs.declared.ids.Actor.{Actor}
use Rattle.lock_messages.specs.declared.ids.Actor.TheVariants as actor
use Rattle.lock_messages.specs.Ids.{IsNode, IsClient}
use Rattle.world_settings.specs.declared.faults.SettingsFault.{SettingsFault}
use Rattle.world_settings.specs.declared.faults.SettingsFault.TheVariants as fault
use Rattle.world_settings.specs.declared.settings.Settings.{Settings}
use Rattle.service_folders.specs.declared.faults.ServiceFault.{ServiceFault}
use Rattle.service_folders.specs.declared.faults.ServiceFault.TheVariants as service
use Rattle.service_folders.specs.Folders.{service_has, text_says, HasClients}
use Rattle.service_folders.specs.Parts.{Members, part_has}

-- a part, as it is seen
abbrev pub seen : Option (Bor Members) → Option Members
seen None = None
seen (Some p) = Some p.now

-- without a part each actor is meant
abbrev pub is_meant : Option Members → Actor → Bool
is_meant None who = true
is_meant (Some p) who = part_has p who

-- the service has each node of the part, or lacks one of them
abbrev pub HasNodes : Settings → Members → Type 0
HasNodes s p = (n : ℕ) → IsNode n → part_has p (actor.Node n) ≡ true → service_has s (actor.Node n) ≡ true

abbrev pub LacksNode : Settings → Members → Type 0
LacksNode s p = (n : ℕ) × IsNode n × (part_has p (actor.Node n) ≡ true) × (service_has s (actor.Node n) ≡ false)

-- and so with clients
abbrev pub HasClientsOf : Settings → Members → Type 0
HasClientsOf s p = (c : ℕ) → IsClient c → part_has p (actor.Client c) ≡ true → service_has s (actor.Client c) ≡ true

abbrev pub LacksClient : Settings → Members → Type 0
LacksClient s p = (c : ℕ) × IsClient c × (part_has p (actor.Client c) ≡ true) × (service_has s (actor.Client c) ≡ false)

-- the service has each actor that is named, or lacks one of them; without a part none is named
abbrev pub HasAll : Settings → Option Members → Type 0
HasAll s None = Unit {0}
HasAll s (Some p) = HasNodes s p × HasClientsOf s p

abbrev pub LacksOne : Settings → Option Members → Type 0
LacksOne s None = ⊥
LacksOne s (Some p) = LacksNode s p ⊎ LacksClient s p

-- this fault is returned, unless there is no memory for settings
abbrev pub RefusedBy : {A : Type 0} → ServiceFault → Result A ServiceFault → Type 0
RefusedBy e result = (result ≡ Err e) ⊎ (result ≡ Err (service.Settings fault.Memory))

-- What the settings and the part make of a new service. It is refused if the settings are, and then if they lack an actor
-- of the part.
pub record Judges {A : Type 0} (text : List ℕ) (part : Option Members) (result : Result A ServiceFault) : Type 0 where
  pub good : IsOk result → (s : Settings) × (text_says text ≡ Ok s) × HasAll s part
  pub refused : (f : SettingsFault) → text_says text ≡ Err f → RefusedBy (service.Settings f) result
  pub lacking : (s : Settings) → text_says text ≡ Ok s → LacksOne s part → RefusedBy service.NoActor result

-- the faults of making a service
abbrev pub is_make_fault : ServiceFault → Bool
is_make_fault service.NotEmpty = true
is_make_fault service.Unwritable = true
is_make_fault service.NoService = false
is_make_fault service.NoSecret = true
is_make_fault service.NoActor = true
is_make_fault service.AllHeld = false
is_make_fault service.NoInbox = false
is_make_fault service.NoJournal = false
is_make_fault service.NoStreams = false
is_make_fault service.NotTaken = false
is_make_fault (service.Record f) = true
is_make_fault (service.Settings f) = true
is_make_fault service.Memory = true

-- and of opening one
abbrev pub is_open_fault : ServiceFault → Bool
is_open_fault service.NotEmpty = false
is_open_fault service.Unwritable = false
is_open_fault service.NoService = true
is_open_fault service.NoSecret = true
is_open_fault service.NoActor = false
is_open_fault service.AllHeld = false
is_open_fault service.NoInbox = false
is_open_fault service.NoJournal = false
is_open_fault service.NoStreams = false
is_open_fault service.NotTaken = false
is_open_fault (service.Record f) = false
is_open_fault (service.Settings f) = true
is_open_fault service.Memory = true

-- the faults of reading the text of settings
abbrev pub IsTextFault : ServiceFault → Type 0
IsTextFault e = (e ≡ service.NoService) ⊎ ((e ≡ service.Settings fault.NoEnd) ⊎ (e ≡ service.Memory))

-- the faults of reading or making the key
abbrev pub IsKeyFault : ServiceFault → Type 0
IsKeyFault e = (e ≡ service.NoSecret) ⊎ (e ≡ service.Memory)

-- What the text of settings says, or its fault, unless there is no memory.
pub record JudgesText (text : List ℕ) (result : Result Settings ServiceFault) : Type 0 where
  pub good : (s : Settings) → result ≡ Ok s → (text_says text ≡ Ok s) × HasClients s
  pub refused : (e : ServiceFault) → result ≡ Err e → (f : SettingsFault) × (e ≡ service.Settings f) × ((f ≡ fault.Memory) ⊎ (text_says text ≡ Err f))
