-- Reading a frame from the front: the message, or the first fault that is met.
use Rattle.std.specs.Prelude.{ℕ, ◌==◌, if◌then◌else◌, List, [], ◌∷◌, length, Result, Ok, Err}
use Rattle.std.specs.Int.{w32, w64}
use Rattle.lock_messages.specs.declared.ids.TheConstants.{MAX_NODES, MAX_CLIENTS, MAX_ATTEMPT}
use Rattle.lock_messages.specs.declared.names.TheConstants.{MAX_NAME_LEN}
use Rattle.lock_messages.specs.declared.kinds.TheConstants.{VERSION, SOFTENING_VERSION}
use Rattle.lock_messages.specs.declared.kinds.Kind.{Kind}
use Rattle.lock_messages.specs.declared.kinds.Kind.TheVariants as kinds
use Rattle.lock_messages.specs.declared.faults.FrameFault.{FrameFault}
use Rattle.lock_messages.specs.declared.faults.FrameFault.TheVariants as faults
use Rattle.lock_messages.specs.declared.tickets.Ticket.{Ticket}
use Rattle.lock_messages.specs.declared.messages.Message.{Message}
use Rattle.lock_messages.specs.declared.messages.Message.TheVariants.{Request, Release, Grant, Busy, Over, Done, Muddled, Soften, Softened}
use Rattle.lock_messages.specs.Fields.{◌>>=◌, byte_at, number_at, mode_at, name_at}

abbrev pub fault_number : FrameFault → ℕ
fault_number faults.Short = 101
fault_number faults.Version = 102
fault_number faults.Kind = 103
fault_number faults.Node = 104
fault_number faults.Client = 105
fault_number faults.Attempt = 106
fault_number faults.Mode = 107
fault_number faults.NameLength = 108
fault_number faults.NameByte = 109
fault_number faults.Trailing = 110
fault_number faults.Memory = 111

abbrev pub version_at : List ℕ → Result (ℕ × List ℕ) FrameFault
version_at bytes = byte_at VERSION SOFTENING_VERSION faults.Short faults.Version bytes

-- a kind of version 1
abbrev pub first_kind : ℕ → Result Kind FrameFault
first_kind b =
    if b == 1 then Ok kinds.Request
    else (if b == 2 then Ok kinds.Release
    else (if b == 3 then Ok kinds.Grant
    else (if b == 4 then Ok kinds.Busy
    else (if b == 5 then Ok kinds.Over
    else (if b == 6 then Ok kinds.Done
    else (if b == 7 then Ok kinds.Muddled
    else Err faults.Kind))))))

-- a kind of the version of softening
abbrev pub softening_kind : ℕ → Result Kind FrameFault
softening_kind b =
    if b == 8 then Ok kinds.Soften
    else (if b == 9 then Ok kinds.Softened
    else Err faults.Kind)

-- a kind of this version
abbrev pub kind_at : ℕ → List ℕ → Result (Kind × List ℕ) FrameFault
kind_at version [] = Err faults.Short
kind_at version (b ∷ rest) = (if version == SOFTENING_VERSION then softening_kind b else first_kind b) >>= λ kind. Ok (kind, rest)

abbrev pub node_at : List ℕ → Result (ℕ × List ℕ) FrameFault
node_at bytes = byte_at 1 MAX_NODES faults.Short faults.Node bytes

abbrev pub client_at : List ℕ → Result (ℕ × List ℕ) FrameFault
client_at bytes = number_at w32 1 MAX_CLIENTS faults.Short faults.Client bytes

abbrev pub attempt_at : List ℕ → Result (ℕ × List ℕ) FrameFault
attempt_at bytes = number_at w64 1 MAX_ATTEMPT faults.Short faults.Attempt bytes

abbrev pub length_at : List ℕ → Result (ℕ × List ℕ) FrameFault
length_at bytes = byte_at 1 MAX_NAME_LEN faults.Short faults.NameLength bytes

unfoldable pub ticket_at : ℕ → ℕ → List ℕ → Result (Ticket × List ℕ) FrameFault
ticket_at c a bytes = do
  mode ← mode_at faults.Short faults.Mode bytes
  size ← length_at mode.1
  name ← name_at faults.Short faults.NameByte size.0 size.1
  Ok (record { client = c; attempt = a; mode = mode.0; resource = name.0 }, name.1)

-- the message of this kind from this node, client and attempt, with its ticket where it has one
abbrev pub body_at : Kind → ℕ → ℕ → ℕ → List ℕ → Result (Message × List ℕ) FrameFault
body_at kinds.Request n c a bytes = ticket_at c a bytes >>= λ t. Ok (Request n t.0, t.1)
body_at kinds.Release n c a bytes = Ok (Release n c a, bytes)
body_at kinds.Grant n c a bytes = ticket_at c a bytes >>= λ t. Ok (Grant n t.0, t.1)
body_at kinds.Busy n c a bytes = ticket_at c a bytes >>= λ t. Ok (Busy n t.0, t.1)
body_at kinds.Over n c a bytes = Ok (Over n c a, bytes)
body_at kinds.Done n c a bytes = Ok (Done n c a, bytes)
body_at kinds.Muddled n c a bytes = Ok (Muddled n c a, bytes)
body_at kinds.Soften n c a bytes = Ok (Soften n c a, bytes)
body_at kinds.Softened n c a bytes = Ok (Softened n c a, bytes)

unfoldable pub message_at : List ℕ → Result (Message × List ℕ) FrameFault
message_at bytes = do
  version ← version_at bytes
  kind ← kind_at version.0 version.1
  node ← node_at kind.1
  client ← client_at node.1
  attempt ← attempt_at client.1
  body_at kind.0 node.0 client.0 attempt.0 attempt.1

-- all of the bytes
unfoldable pub reading : List ℕ → Result Message FrameFault
reading bytes = do
  message ← message_at bytes
  if length message.1 == 0 then Ok message.0 else Err faults.Trailing
