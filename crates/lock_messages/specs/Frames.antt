-- Messages as bytes. A number of several bytes has its highest byte first.
use Rattle.std.specs.Prelude.{ℕ, List, [], ◌∷◌, ◌++◌, length}
use Rattle.std.specs.Int.{w32, w64, to_be_bytes}
use Rattle.lock_messages.specs.declared.kinds.TheConstants.{VERSION, SOFTENING_VERSION}
use Rattle.lock_messages.specs.declared.kinds.Kind.{Kind}
use Rattle.lock_messages.specs.declared.kinds.Kind.TheVariants as kinds
use Rattle.lock_messages.specs.declared.tickets.Mode.{Mode}
use Rattle.lock_messages.specs.declared.tickets.Ticket.{Ticket}
use Rattle.lock_messages.specs.declared.messages.Message.{Message}
use Rattle.lock_messages.specs.declared.messages.Message.TheVariants.{Request, Release, Grant, Busy, Over, Done, Muddled, Soften, Softened}
use Rattle.lock_messages.specs.Fields.{mode_number}

abbrev pub kind_number : Kind → ℕ
kind_number kinds.Request = 1
kind_number kinds.Release = 2
kind_number kinds.Grant = 3
kind_number kinds.Busy = 4
kind_number kinds.Over = 5
kind_number kinds.Done = 6
kind_number kinds.Muddled = 7
kind_number kinds.Soften = 8
kind_number kinds.Softened = 9

-- the version of the frames of a kind
abbrev pub version_of : Kind → ℕ
version_of kinds.Request = VERSION
version_of kinds.Release = VERSION
version_of kinds.Grant = VERSION
version_of kinds.Busy = VERSION
version_of kinds.Over = VERSION
version_of kinds.Done = VERSION
version_of kinds.Muddled = VERSION
version_of kinds.Soften = SOFTENING_VERSION
version_of kinds.Softened = SOFTENING_VERSION

-- one byte each for the version, the kind and the node, four for the client, eight for the attempt
abbrev pub head : Kind → ℕ → ℕ → ℕ → List ℕ
head kind n c a = version_of kind ∷ kind_number kind ∷ n ∷ [] ++ to_be_bytes w32 c ++ to_be_bytes w64 a

-- one byte each for the mode and the name's length, then the name
abbrev pub wish : Mode → List ℕ → List ℕ
wish mode name = mode_number mode ∷ length name ∷ name

abbrev pub with_ticket : Kind → ℕ → Ticket → List ℕ
with_ticket kind n t = head kind n t.client t.attempt ++ wish t.mode t.resource

-- the spelling of a message
abbrev pub frame_of : Message → List ℕ
frame_of (Request n t) = with_ticket kinds.Request n t
frame_of (Release n c a) = head kinds.Release n c a
frame_of (Grant n t) = with_ticket kinds.Grant n t
frame_of (Busy n t) = with_ticket kinds.Busy n t
frame_of (Over n c a) = head kinds.Over n c a
frame_of (Done n c a) = head kinds.Done n c a
frame_of (Muddled n c a) = head kinds.Muddled n c a
frame_of (Soften n c a) = head kinds.Soften n c a
frame_of (Softened n c a) = head kinds.Softened n c a
