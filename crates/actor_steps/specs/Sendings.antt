-- What an actor sends, as its own log tells it.
use Rattle.std.specs.Prelude.{◌≡◌, ℕ, ◌+◌, ◌%◌, ◌^◌, List, [], ◌∷◌, map, Option}
use Rattle.lock_messages.specs.declared.ids.Actor.TheVariants as actor
use Rattle.lock_messages.specs.declared.messages.Message.{Message}
use Rattle.lock_messages.specs.Frames.{frame_of}
use Rattle.lock_messages.specs.Messages.{addressee}
use Rattle.lock_model.specs.Ballots.{Ballot}
use Rattle.lossy_link.specs.declared.parcels.Post.TheVariants as post
use Rattle.lossy_link.specs.declared.parcels.Sending.{Sending}
use Rattle.lossy_link.specs.declared.parcels.Sending.TheVariants as sending
use Rattle.lossy_link.specs.Links.{all_more}
use Rattle.world_model.specs.declared.events.Effect.{Effect}
use Rattle.world_model.specs.declared.events.Event.{Event}
use Rattle.world_model.specs.declared.events.Event.TheVariants as event
use Rattle.world_model.specs.Parts.{Part, said_by, number_of}
use Rattle.event_recorders.specs.OwnLogs.{OwnLog, in_log}

-- a message to a node, as its frame and under its number
abbrev pub sending_to : ℕ → ℕ → Message → Sending
sending_to n number m = sending.Sent (actor.Node n) (record { number = number; frame = frame_of m })

-- Each of the messages as its frame, to whom it goes, numbered from this number on. The numbers are of 32
-- bits and go round; no list of messages reaches the greatest.
abbrev pub sendings : ℕ → List Message → List Sending
sendings number [] = []
sendings number (m ∷ messages) = sending.Sent (addressee m) (record { number = number; frame = frame_of m }) ∷ sendings ((number + 1) % 2 ^ 32) messages

-- What an actor sends for an event of its own: a client what it says to a node, a node its replies, and once a node
-- has fallen the nudge of that node, since its replies are lost.
abbrev pub sent_for : List Ballot → Event → Effect → Part → List Sending
sent_for b (event.SayTo c n) done p = map (sending_to n (number_of done)) (said_by b (event.SayTo c n) p)
sent_for b (event.Say n) done p = sendings (number_of done) (said_by b (event.Say n) p)
sent_for b (event.Fall (actor.Node n)) done p = sending.Told (post.Nudge n) ∷ []
sent_for b (event.Fall (actor.Client c)) done p = []
sent_for b (event.Begin c m x place) done p = []
sent_for b (event.Try who) done p = []
sent_for b (event.Kept who) done p = []
sent_for b (event.Take n k) done p = []
sent_for b (event.Hear c k) done p = []
sent_for b (event.Enter c) done p = []
sent_for b (event.Leave c) done p = []
sent_for b (event.Soften c) done p = []
sent_for b (event.Rise who age) done p = []
sent_for b (event.Switch n q) done p = []

-- what an actor has sent, as its own log tells it
abbrev pub sent_of : OwnLog → List Sending
sent_of l = in_log sent_for l

-- Where what was given to a link before is what one log tells, on top of what was there, what was given
-- since is what the other log tells.
pub record SentFollows (l l' : OwnLog) (given given' : Option (List Sending)) : Type 0 where
  pub follows : (before : Option (List Sending)) → given ≡ all_more before (sent_of l) → given' ≡ all_more before (sent_of l')
