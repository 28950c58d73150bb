-- What links say of themselves.
use Rattle.std.specs.Prelude.{◌≡◌, Bool, true, List, [], ◌∷◌, ◌++◌, Option, Some, None, Result, Ok, Err}
use Rattle.lossy_link.specs.declared.parcels.Post.{Post}
use Rattle.lossy_link.specs.declared.parcels.Sending.{Sending}
use Rattle.lossy_link.specs.declared.faults.LinkFault.{LinkFault}
use Rattle.lossy_link.specs.declared.faults.LinkFault.TheVariants.{Closed}

-- a link that knows what comes, and remembers what was given to it
pub record Listed : Type 0 where
  -- the posts that it will bring, in order
  pub coming : List Post
  -- what was sent and told over it, in order
  pub given : List Sending
  -- whether memory was refused in a call
  pub refused : Bool

-- the list one longer, where it is known
abbrev pub one_more : {X : Type 0} → Option (List X) → X → Option (List X)
one_more None x = None
one_more (Some xs) x = Some (xs ++ x ∷ [])

-- the list longer by these, where it is known
abbrev pub all_more : {X : Type 0} → Option (List X) → List X → Option (List X)
all_more None more = None
all_more (Some xs) more = Some (xs ++ more)

-- whether memory was refused in a call, after one more call, where that is known
abbrev pub refused_after : {X : Type 0} → Option Bool → Result X LinkFault → Option Bool
refused_after None answer = None
refused_after (Some before) (Ok x) = Some before
refused_after (Some before) (Err fault) = Some true

-- memory was refused in a call, as far as that is known
abbrev pub IsRefused : Option Bool → Type 0
IsRefused None = Unit {0}
IsRefused (Some refused) = refused ≡ true

-- where it is known what comes, the first of it is brought, and the rest is still to come; where
-- nothing comes, the link is closed
abbrev pub Brings : Option (List Post) → Result Post LinkFault → Option (List Post) → Type 0
Brings None answer after = after ≡ None
Brings (Some []) answer after = (answer ≡ Err Closed) × (after ≡ Some [])
Brings (Some (post ∷ posts)) answer after = (answer ≡ Ok post) × (after ≡ Some posts)

-- a link that says that a post has come brings one, as far as it is known what comes
abbrev pub HasMore : Bool → Option (List Post) → Type 0
HasMore more coming = more ≡ true → coming ≡ Some [] → ⊥
