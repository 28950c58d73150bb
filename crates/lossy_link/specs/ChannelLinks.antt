-- What a link between threads knows of itself. What its channels bring, nobody knows.
use Rattle.std.specs.Prelude.{◌≡◌, ◌⊎◌, ℕ, ◌+◌, ◌-◌, nat_lt, if◌then◌else◌, Bool, true, false, List, [], ◌∷◌, ◌++◌, Option, Some, None, Result, Ok, Err}
use Rattle.lock_messages.specs.declared.ids.Actor.{Actor}
use Rattle.lock_messages.specs.declared.ids.Actor.TheVariants.{Node, Client}
use Rattle.lossy_link.specs.declared.fates.Fate.TheVariants.{Twice}
use Rattle.lossy_link.specs.declared.parcels.Parcel.{Parcel}
use Rattle.lossy_link.specs.declared.parcels.Post.{Post}
use Rattle.lossy_link.specs.declared.faults.LinkFault.{LinkFault}
use Rattle.lossy_link.specs.declared.faults.LinkFault.TheVariants.{Closed}
use Rattle.lossy_link.specs.declared.passages.Mail.{Mail}
use Rattle.lossy_link.specs.Weathers.{Climate, climate_at, next_fate, after_fate}
use Rattle.lossy_link.specs.Passages.{same_actor, mail_of, handed, held_after}

-- a link: whose it is, its weather, the late parcel that it holds, the posts that wait in it for its own
-- actor, and whether it has told it that nothing comes any more
pub record Channeled : Type 0 where
  pub actor : Actor
  pub climate : Climate
  pub held : Option Mail
  pub own : List Post
  pub closed : Bool

-- the actor at a place: nodes first
abbrev pub actor_at : ℕ → ℕ → Actor
actor_at nodes place = if nat_lt place nodes then Node (place + 1) else Client (place - nodes + 1)

-- the place of an actor among those that another one reaches: clients for a node, nodes for a client
abbrev pub place_among : Actor → Actor → Option ℕ
place_among (Node m) (Client d) = Some (d - 1)
place_among (Client c) (Node n) = Some (n - 1)
place_among (Node m) (Node n) = None
place_among (Client c) (Client d) = None

-- the link at a place, before anything was sent
abbrev pub link_at : ℕ → Climate → ℕ → Channeled
link_at nodes w place = record { actor = actor_at nodes place; climate = climate_at w place; held = None; own = []; closed = false }

-- the posts of these mails that are for the actor itself
abbrev pub own_posts : Actor → List Mail → List Post
own_posts actor [] = []
own_posts actor (m ∷ ms) = if same_actor m.to actor then m.post ∷ own_posts actor ms else own_posts actor ms

-- the link after these mails were handed over
abbrev pub after_handing : Channeled → List Mail → Channeled
after_handing link mails = record { actor = link.actor; climate = link.climate; held = link.held; own = link.own ++ own_posts link.actor mails; closed = link.closed }

-- the link after a parcel has met the weather, before anything is handed over
abbrev pub after_weather : Channeled → Actor → Parcel → Channeled
after_weather link to parcel = record { actor = link.actor; climate = after_fate link.climate; held = held_after (next_fate link.climate) (mail_of to parcel); own = link.own; closed = link.closed }

-- the link after a parcel was sent over it
abbrev pub after_sending : Channeled → Actor → Parcel → Channeled
after_sending link to parcel = after_handing (after_weather link to parcel) (handed (next_fate link.climate) link.actor to parcel link.held)

-- not all of these mails were handed over: one was refused, and just those before it went
pub record HandsPart (link : Channeled) (mails : List Mail) (link' : Channeled) : Type 0 where
  pub front : List Mail
  pub refused : Mail
  pub back : List Mail
  pub all : mails ≡ front ++ refused ∷ back
  pub went : link' ≡ after_handing link front

-- the link after a parcel of which nothing went or is held: it is as before, but the fate is used up
abbrev pub after_refusal : Channeled → Channeled
after_refusal link = record { actor = link.actor; climate = after_fate link.climate; held = link.held; own = link.own; closed = link.closed }

-- A parcel was not sent whole. Either it should go twice, nothing went, and what was held stays; or a beginning
-- of what should go went, perhaps none of it. What was held goes last, so it is lost then; a late parcel is held.
abbrev pub SendsPart : Channeled → Actor → Parcel → Channeled → Type 0
SendsPart link to parcel link' =
    ((next_fate link.climate ≡ Twice) × (link' ≡ after_refusal link))
    ⊎ HandsPart (after_weather link to parcel) (handed (next_fate link.climate) link.actor to parcel link.held) link'

-- the link after a post was told to every client: a client's own link tells its own client
abbrev pub told_own : Actor → Post → List Post
told_own (Node n) post = []
told_own (Client c) post = post ∷ []

abbrev pub after_telling : Channeled → Post → Channeled
after_telling link post = record { actor = link.actor; climate = link.climate; held = link.held; own = link.own ++ told_own link.actor post; closed = link.closed }

-- what comes over the channel: any post or none and, once none has come, none
abbrev pub Comes : Bool → Result Post LinkFault → Bool → Type 0
Comes true answer closed = (answer ≡ Err Closed) × (closed ≡ true)
Comes false (Ok post) closed = closed ≡ false
Comes false (Err fault) closed = closed ≡ true

-- posts that wait in the link come first, and then what comes over the channel
abbrev pub Receives : List Post → Bool → Result Post LinkFault → List Post → Bool → Type 0
Receives [] before answer own closed = (own ≡ []) × Comes before answer closed
Receives (post ∷ posts) before answer own closed = (answer ≡ Ok post) × (own ≡ posts) × (closed ≡ before)
