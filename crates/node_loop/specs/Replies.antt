-- What a node sends.
use Rattle.std.specs.Prelude.{◌≡◌, ℕ, [], ◌∷◌, ◌++◌}
use Rattle.lossy_link.specs.declared.parcels.Post.TheVariants as post
use Rattle.lossy_link.specs.declared.parcels.Sending.TheVariants as sending
use Rattle.event_recorders.specs.OwnLogs.{OwnLog}
use Rattle.actor_steps.specs.declared.keeping.Keeping.{Keeping}
use Rattle.actor_steps.specs.declared.keeping.Keeping.TheVariants as keeping
pub use Rattle.actor_steps.specs.Sendings.{sendings, sent_for, sent_of, SentFollows}

-- nothing is sent by what the log tells since
abbrev pub SendsNothing : OwnLog → OwnLog → Type 0
SendsNothing l l' = sent_of l' ≡ sent_of l

-- only the nudge of the node is sent, to every client
abbrev pub SendsNudge : ℕ → OwnLog → OwnLog → Type 0
SendsNudge n l l' = sent_of l' ≡ sent_of l ++ sending.Told (post.Nudge n) ∷ []

-- what the node's log tells of a keep: nothing is sent; or, where it failed, the nudge of the node
abbrev pub IsSentIn : Keeping → ℕ → OwnLog → OwnLog → Type 0
IsSentIn keeping.Kept n l l' = SendsNothing l l'
IsSentIn keeping.Failed n l l' = SendsNudge n l l'
