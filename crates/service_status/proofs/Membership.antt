-- The claims that are listed are those that a record says.
use Rattle.std.proofs.Common.{◌≡◌, ◌↔◌, ◌++◌, ℕ, zero, suc, Bool, List, [], ◌∷◌, Option, Some, None, ◌⊎◌, inl, inr, refl, sym, subst, arith}
use Rattle.std.specs.List.{flat_map, Contains}
use Rattle.std.specs.List.Sorted.{IsPermutation}
use Rattle.std.proofs.lemmas.List.Sorted.{Contains-permutation, IsPermutation-sym}
use Rattle.std.proofs.lemmas.List.Elements.{Contains-append_right}
use Rattle.lock_model.specs.Decisions.{Among}
use Rattle.lock_model.specs.declared.entries.Entry.{Entry}
use Rattle.lock_model.specs.declared.entries.Live.{Live}
use Rattle.stable_record.specs.declared.node_records.NodeRecord.{NodeRecord}
use Rattle.service_status.specs.declared.sights.NodeState.{NodeState}
use Rattle.service_status.specs.declared.sights.NodeState.TheVariants.{Seen, Faulty, Elsewhere}
use Rattle.service_status.specs.declared.sights.SeenNode.{SeenNode}
use Rattle.service_status.specs.declared.claims.Claim.{Claim}
use Rattle.service_status.specs.Claims.{claim_of, claims_of_live, claims_of_entry, claims_of_state, claims_of_node, IsClaim}

-- an element of a list has a place in it, and what has a place is an element
among_of_contained : {X : Type 0} (xs : List X) (x : X) → Contains xs x → Among x xs
among_of_contained [] x h = absurd (omega (arith, h.1))
among_of_contained (y ∷ ys) x (zero, below, is) = inl (sym is)
among_of_contained (y ∷ ys) x (suc k, below, is) = inr (among_of_contained ys x (k, omega (arith, below), is))

contained_of_among : {X : Type 0} (xs : List X) (x : X) → Among x xs → Contains xs x
contained_of_among [] x h = absurd h
contained_of_among (y ∷ ys) x (inl e) = (0, omega arith, sym e)
contained_of_among (y ∷ ys) x (inr h) = Contains-append_right (y ∷ []) ys x (contained_of_among ys x h)

-- an element of joined lists is one of theirs
among_left : {A : Type 0} (xs ys : List A) (y : A) → Among y xs → Among y (xs ++ ys)
among_left [] ys y h = absurd h
among_left (x ∷ xs) ys y (inl e) = inl e
among_left (x ∷ xs) ys y (inr h) = inr (among_left xs ys y h)

among_right : {A : Type 0} (xs ys : List A) (y : A) → Among y ys → Among y (xs ++ ys)
among_right [] ys y h = h
among_right (x ∷ xs) ys y h = inr (among_right xs ys y h)

either_more : {A : Type 0} (x : A) (xs ys : List A) (y : A) → Among y xs ⊎ Among y ys → Among y (x ∷ xs) ⊎ Among y ys
either_more x xs ys y (inl h) = inl (inr h)
either_more x xs ys y (inr h) = inr h

among_either : {A : Type 0} (xs ys : List A) (y : A) → Among y (xs ++ ys) → Among y xs ⊎ Among y ys
among_either [] ys y h = inr h
among_either (x ∷ xs) ys y (inl e) = inl (inl e)
among_either (x ∷ xs) ys y (inr h) = either_more x xs ys y (among_either xs ys y h)

module _ {X A : Type 0} (f : X → List A) where
  among_pieces : (xs : List X) (x : X) (y : A) → Among x xs → Among y (f x) → Among y (flat_map f xs)
  among_pieces [] x y h g = absurd h
  among_pieces (z ∷ zs) x y (inl e) g = among_left (f z) (flat_map f zs) y (subst (λ (w : X). Among y (f w)) e g)
  among_pieces (z ∷ zs) x y (inr h) g = among_right (f z) (flat_map f zs) y (among_pieces zs x y h g)

  abbrev HasPiece : List X → A → Type 0
  HasPiece xs y = (x : X) × Among x xs × Among y (f x)

  first_or_later : (z : X) (zs : List X) (y : A) → Among y (f z) ⊎ Among y (flat_map f zs) → (Among y (flat_map f zs) → HasPiece zs y) → HasPiece (z ∷ zs) y
  first_or_later z zs y (inl a) later = (z, inl refl, a)
  first_or_later z zs y (inr b) later = let found = later b in (found.0, inr found.1, found.2)

  piece_of : (xs : List X) (y : A) → Among y (flat_map f xs) → HasPiece xs y
  piece_of [] y h = absurd h
  piece_of (z ∷ zs) y h = first_or_later z zs y (among_either (f z) (flat_map f zs) y h) (piece_of zs y)

-- what is said of an entry is said of its live ticket
abbrev IsOfLive : ℕ → ℕ → Option Live → Claim → Type 0
IsOfLive n k live claim = (l : Live) × (live ≡ Some l) × (claim ≡ claim_of n k l)

of_live : (n k : ℕ) (live : Option Live) (claim : Claim) → Among claim (claims_of_live n k live) → IsOfLive n k live claim
of_live n k None claim h = absurd h
of_live n k (Some l) claim (inl e) = (l, refl, e)
of_live n k (Some l) claim (inr h) = absurd h

from_live : (n k : ℕ) (live : Option Live) (claim : Claim) → IsOfLive n k live claim → Among claim (claims_of_live n k live)
from_live n k live claim h = subst (λ (o : Option Live). Among claim (claims_of_live n k o)) (sym h.1) (inl h.2)

-- what is said of a node is said by an entry of its record
record IsOfState (n : ℕ) (state : NodeState) (claim : Claim) : Type 0 where
  up : Bool
  kept : NodeRecord
  entry : Entry
  ticket : Live
  read : state ≡ Seen up kept
  listed : Among entry kept.entries
  live : entry.live ≡ Some ticket
  is : claim ≡ claim_of n entry.client ticket

of_entry : (n : ℕ) (up : Bool) (r : NodeRecord) (claim : Claim) → HasPiece (claims_of_entry n) r.entries claim → IsOfState n (Seen up r) claim
of_entry n up r claim h =
    let found = of_live n h.0.client h.0.live claim h.2 in
    record { up = up; kept = r; entry = h.0; ticket = found.0; read = refl; listed = h.1; live = found.1; is = found.2 }

of_state : (n : ℕ) (state : NodeState) (claim : Claim) → Among claim (claims_of_state n state) → IsOfState n state claim
of_state n (Seen up r) claim h = of_entry n up r claim (piece_of (claims_of_entry n) r.entries claim h)
of_state n (Faulty f) claim h = absurd h
of_state n Elsewhere claim h = absurd h

of_nodes : (nodes : List SeenNode) (claim : Claim) → Among claim (flat_map claims_of_node nodes) → IsClaim nodes claim
of_nodes nodes claim h =
    let node = piece_of claims_of_node nodes claim h in
    let found = of_state node.0.node node.0.state claim node.2 in
    record { at = node.0; up = found.up; kept = found.kept; entry = found.entry; ticket = found.ticket; seen = node.1; read = found.read; listed = found.listed; live = found.live; is = found.is }

from_nodes : (nodes : List SeenNode) (claim : Claim) → IsClaim nodes claim → Among claim (flat_map claims_of_node nodes)
from_nodes nodes claim h =
    let said = from_live h.at.node h.entry.client h.entry.live claim (h.ticket, h.live, h.is) in
    let listed = among_pieces (claims_of_entry h.at.node) h.kept.entries h.entry claim h.listed said in
    among_pieces claims_of_node nodes h.at claim h.seen (subst (λ (state : NodeState). Among claim (claims_of_state h.at.node state)) (sym h.read) listed)

pub claims_exact : (nodes : List SeenNode) (listed sorted : List Claim) → listed ≡ flat_map claims_of_node nodes → IsPermutation listed sorted → (claim : Claim) → Contains sorted claim ↔ IsClaim nodes claim
claims_exact nodes listed sorted is moved claim = (
  (λ h. of_nodes nodes claim (subst (λ (l : List Claim). Among claim l) is (among_of_contained listed claim (Contains-permutation sorted listed claim (IsPermutation-sym listed sorted moved) h)))),
  (λ h. Contains-permutation listed sorted claim moved (contained_of_among listed claim (subst (λ (l : List Claim). Among claim l) (sym is) (from_nodes nodes claim h)))),
)
