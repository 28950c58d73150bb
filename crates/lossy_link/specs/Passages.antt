-- What a link hands over for each parcel, by its fate.
use Rattle.std.specs.Prelude.{ℕ, ◌==◌, Bool, false, List, [], ◌∷◌, ◌++◌, Option, Some, None, option_to_list}
use Rattle.lock_messages.specs.declared.ids.Actor.{Actor}
use Rattle.lock_messages.specs.declared.ids.Actor.TheVariants.{Node, Client}
use Rattle.lossy_link.specs.declared.fates.Fate.{Fate}
use Rattle.lossy_link.specs.declared.fates.Fate.TheVariants.{Lost, Twice, Late, Plain}
use Rattle.lossy_link.specs.declared.parcels.Parcel.{Parcel}
use Rattle.lossy_link.specs.declared.parcels.Post.{Post}
use Rattle.lossy_link.specs.declared.parcels.Post.TheVariants as posts
use Rattle.lossy_link.specs.declared.passages.Mail.{Mail}
use Rattle.lossy_link.specs.declared.passages.Departure.{Departure}

-- whether two actors are one
abbrev pub same_actor : Actor → Actor → Bool
same_actor (Node m) (Node n) = m == n
same_actor (Client c) (Client d) = c == d
same_actor (Node m) (Client d) = false
same_actor (Client c) (Node n) = false

-- a post with its address
abbrev pub mail : Actor → Post → Mail
mail to post = record { to = to; post = post }

abbrev pub mail_of : Actor → Parcel → Mail
mail_of to parcel = mail to (posts.Parcel parcel)

-- the nudge to a client that names a node
abbrev pub nudge_to : ℕ → ℕ → Mail
nudge_to client node = mail (Client client) (posts.Nudge node)

-- the nudge for a parcel from one actor to another: to the client of the two, naming the node
abbrev pub nudge_of : Actor → Actor → Option Mail
nudge_of (Node n) (Client c) = Some (nudge_to c n)
nudge_of (Client c) (Node n) = Some (nudge_to c n)
nudge_of (Node m) (Node n) = None
nudge_of (Client c) (Client d) = None

-- what goes for a parcel of this fate itself
abbrev pub sent_for : Fate → Actor → Actor → Parcel → List Mail
sent_for Lost from to parcel = option_to_list (nudge_of from to)
sent_for Twice from to parcel = mail_of to parcel ∷ mail_of to parcel ∷ []
sent_for Late from to parcel = option_to_list (nudge_of from to)
sent_for Plain from to parcel = mail_of to parcel ∷ []

-- what a link hands over for a parcel, in order: what goes for it, and then what was held
abbrev pub handed : Fate → Actor → Actor → Parcel → Option Mail → List Mail
handed fate from to parcel held = sent_for fate from to parcel ++ option_to_list held

-- what is held then: a late parcel, and nothing else
abbrev pub held_after : Fate → Mail → Option Mail
held_after Lost m = None
held_after Twice m = None
held_after Late m = Some m
held_after Plain m = None

-- the mails of a departure, in order
abbrev pub mails_of : Departure → List Mail
mails_of d = (option_to_list d.first ++ option_to_list d.second) ++ option_to_list d.late
