-- What a client hears, and what it remembers of it.
use Rattle.std.specs.Prelude.{◌≡◌, ◌⊎◌, ℕ, Bool, true, List}
use Rattle.lock_messages.specs.declared.messages.Message.{Message}
use Rattle.lock_messages.specs.Frames.{frame_of}
use Rattle.lock_messages.specs.Messages.{IsMessage, is_for_client, named_node}
use Rattle.lock_model.specs.declared.hearing.Heard.{Heard}
use Rattle.lock_model.specs.declared.hearing.Heard.TheVariants as heard
use Rattle.vote_weights.specs.Sets.{with_node}
use Rattle.client_core.specs.Clients.{Client}
use Rattle.client_core.specs.Calls.{heard_by, after_hearing}
use Rattle.world_model.specs.declared.events.Effect.TheVariants as effect
use Rattle.world_model.specs.declared.events.Event.TheVariants as event
use Rattle.client_loop.specs.declared.progress.Progress.{Progress}
use Rattle.event_recorders.specs.OwnLogs.{OwnLog, IsAdded}

-- the bytes are the frame of a message for the client
pub record IsFrameFor (frame : List ℕ) (client : ℕ) : Type 0 where
  pub message : Message
  pub ranges : IsMessage message
  pub spelled : frame ≡ frame_of message
  pub addressed : is_for_client message client ≡ true

-- The client heard the message that its log has under the number: it made of it, and is after it, what its
-- core makes of that message.
pub record Hears (number : ℕ) (l l' : OwnLog) (before after : Client) (message : Message) (answer : Heard) : Type 0 where
  pub told : Heard
  pub logged : IsAdded l (event.Hear before.client number) (effect.Heard message told) l'
  pub made : answer ≡ heard_by before message
  pub core : after ≡ after_hearing before message

-- the same of some message that names the node
pub record HearsOf (number : ℕ) (l l' : OwnLog) (before after : Client) (node : ℕ) (answer : Heard) : Type 0 where
  pub message : Message
  pub hears : Hears number l l' before after message answer
  pub named : node ≡ named_node message

-- the client heard nothing
pub record HearsNothing (l l' : OwnLog) (before after : Client) : Type 0 where
  pub log : l' ≡ l
  pub core : after ≡ before

-- the nodes that granted, and those that answered the release, once this was made of a message of the node
abbrev pub granted_after : Heard → ℕ → List ℕ → List ℕ
granted_after heard.Counted n granted = with_node granted n
granted_after heard.Known n granted = granted
granted_after heard.Busy n granted = granted
granted_after heard.Done n granted = granted
granted_after heard.Softened n granted = granted
granted_after heard.NotMine n granted = granted

abbrev pub released_after : Heard → ℕ → List ℕ → List ℕ
released_after heard.Counted n released = released
released_after heard.Known n released = released
released_after heard.Busy n released = released
released_after heard.Done n released = with_node released n
released_after heard.Softened n released = released
released_after heard.NotMine n released = released

-- whether a node let it wait, once this was made of a message
abbrev pub busy_after : Heard → Bool → Bool
busy_after heard.Counted busy = busy
busy_after heard.Known busy = busy
busy_after heard.Busy busy = true
busy_after heard.Done busy = busy
busy_after heard.Softened busy = busy
busy_after heard.NotMine busy = busy

-- what was heard is remembered: a vote that was counted, a release that was answered, and that it is to wait
pub record Remembers (number : ℕ) (l l' : OwnLog) (before after : Progress) : Type 0 where
  pub node : ℕ
  pub answer : Heard
  pub hears : HearsOf number l l' before.core after.core node answer
  pub kept : after ≡ record before { core = after.core; granted = granted_after answer node before.granted; released = released_after answer node before.released; busy = busy_after answer before.busy }

-- the client heard nothing, or it remembers what it heard
abbrev pub TakesParcel : ℕ → OwnLog → OwnLog → Progress → Progress → Type 0
TakesParcel number l l' before after = ((l' ≡ l) × (after ≡ before)) ⊎ Remembers number l l' before after
