-- A link is given more, and so is its carrier.
use Rattle.std.proofs.Common.{◌≡◌, ℕ, Bool, true, false, if◌then◌else◌, List, [], ◌∷◌, ◌++◌, Option, refl, sym, ap, ◌∙◌, subst, Contains}
use Rattle.lock_messages.specs.declared.ids.Actor.{Actor}
use Rattle.lossy_link.specs.declared.parcels.Parcel.{Parcel}
use Rattle.lossy_link.specs.declared.parcels.Post.{Post}
use Rattle.lossy_link.specs.declared.parcels.Sending.{Sending}
use Rattle.lossy_link.specs.declared.parcels.Sending.TheVariants.{Sent, Told}
use Rattle.lossy_link.specs.Links.{one_more}
use Rattle.line_link.specs.Carried.{Given, line_for, lines_given, sendings, given_before, AreAmong, Repeats, none, again, GivesLines, nothing, next, repeated}
use Rattle.std.proofs.lemmas.List.Elements.{All-weaker, All-push, All-contains, Contains-append_left}

lines_sent : (block : List ℕ) (given : List Sending) (to : Actor) (parcel : Parcel) → lines_given block (given ++ Sent to parcel ∷ []) ≡ lines_given block given ++ line_for block to parcel.frame ∷ []
lines_sent block [] to parcel = refl
lines_sent block (Sent whom other ∷ given) to parcel = ap (λ (ls : Given). line_for block whom other.frame ∷ ls) (lines_sent block given to parcel)
lines_sent block (Told post ∷ given) to parcel = lines_sent block given to parcel

lines_told : (block : List ℕ) (given : List Sending) (post : Post) → lines_given block (given ++ Told post ∷ []) ≡ lines_given block given
lines_told block [] post = refl
lines_told block (Sent whom other ∷ given) post = ap (λ (ls : Given). line_for block whom other.frame ∷ ls) (lines_told block given post)
lines_told block (Told other ∷ given) post = lines_told block given post

pub sendings_on : (made : List (Sending × Actor)) (s : Sending × Actor) → sendings (made ++ s ∷ []) ≡ sendings made ++ s.0 ∷ []
sendings_on [] s = refl
sendings_on (r ∷ made) s = ap (λ (ss : List Sending). r.0 ∷ ss) (sendings_on made s)

pub lines_after_sent : (block : List ℕ) (made more : List (Sending × Actor)) (to by : Actor) (parcel : Parcel) → more ≡ made ++ (Sent to parcel, by) ∷ [] → lines_given block (sendings more) ≡ lines_given block (sendings made) ++ line_for block to parcel.frame ∷ []
lines_after_sent block made more to by parcel grown =
    ap (λ (m : List (Sending × Actor)). lines_given block (sendings m)) grown ∙ ap (lines_given block) (sendings_on made (Sent to parcel, by)) ∙ lines_sent block (sendings made) to parcel

-- a parcel is sent
pub gives_sent : (block : List ℕ) (before old new : Option Given) (made more : List (Sending × Actor)) (to by : Actor) (parcel : Parcel) → GivesLines before (lines_given block (sendings made)) old → new ≡ one_more old (line_for block to parcel.frame) →
    more ≡ made ++ (Sent to parcel, by) ∷ [] → GivesLines before (lines_given block (sendings more)) new
gives_sent block before old new made more to by parcel was is grown =
    let line = line_for block to parcel.frame in
    let lines = lines_given block (sendings made) in
    subst (λ (n : Option Given). GivesLines before (lines_given block (sendings more)) n) (sym is)
    (subst (λ (ls : Given). GivesLines before ls (one_more old line)) (sym (lines_after_sent block made more to by parcel grown)) (next lines line old was))

-- something is told to all clients
pub lines_after_told : (block : List ℕ) (made more : List (Sending × Actor)) (by : Actor) (post : Post) → more ≡ made ++ (Told post, by) ∷ [] → lines_given block (sendings more) ≡ lines_given block (sendings made)
lines_after_told block made more by post grown =
    ap (λ (m : List (Sending × Actor)). lines_given block (sendings m)) grown ∙ ap (lines_given block) (sendings_on made (Told post, by)) ∙ lines_told block (sendings made) post

-- lines that are kept are still among the lines when one more is sent
pub among_more : (kept lines : Given) (line : Actor × List ℕ) → AreAmong kept lines → AreAmong kept (lines ++ line ∷ [])
among_more kept lines line is = All-weaker (λ (l : Actor × List ℕ). Contains lines l) (λ (l : Actor × List ℕ). Contains (lines ++ line ∷ []) l) (λ (l : Actor × List ℕ) (h : Contains lines l). Contains-append_left lines (line ∷ []) l h) kept is

-- lines of those that were given are given again
pub gives_repeats : (before : Option Given) (lines kept : Given) (old new : Option Given) → GivesLines before lines old → AreAmong kept lines → Repeats kept old new → GivesLines before lines new
gives_repeats before lines kept old new was among none = was
gives_repeats before lines kept old new was among (again line mid more is) = repeated lines line mid (gives_repeats before lines kept old mid was among more) (All-contains (λ (l : Actor × List ℕ). Contains lines l) kept line among is)

-- before anything was sent
pub gives_nothing : {C : Type 0} (given : C → Option Given) (carrier : C) (own : Actor) (block : List ℕ) (first opened : List (C × Actor)) (made : List (Sending × Actor)) → first ≡ [] → opened ≡ first ++ (carrier, own) ∷ [] → made ≡ [] →
    GivesLines (given_before given opened) (lines_given block (sendings made)) (given carrier)
gives_nothing {C} given carrier own block first opened made empty was unmade =
    subst (λ (o : List (C × Actor)). GivesLines (given_before given o) (lines_given block (sendings made)) (given carrier)) (sym (was ∙ ap (λ (f : List (C × Actor)). f ++ (carrier, own) ∷ []) empty))
    (subst (λ (m : List (Sending × Actor)). GivesLines (given carrier) (lines_given block (sendings m)) (given carrier)) (sym unmade) nothing)

-- a line is kept, if there is memory
pub among_pushed : (is : Bool) (kept lines : Given) (line : Actor × List ℕ) → AreAmong kept lines → Contains lines line → AreAmong (if is then kept ++ line ∷ [] else kept) lines
among_pushed true kept lines line are one = All-push (λ (l : Actor × List ℕ). Contains lines l) kept line are one
among_pushed false kept lines line are one = are

-- lines are given again, and then some more
pub repeats_on : (some : Given) (before mid now : Option Given) → Repeats some before mid → Repeats some mid now → Repeats some before now
repeats_on some before mid now first none = first
repeats_on some before mid now first (again line last more is) = again line last (repeats_on some before mid last first more) is
