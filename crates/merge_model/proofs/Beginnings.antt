-- What begins a merge is a merge.
use Rattle.std.proofs.Common.{◌≡◌, Bool, true, false, cond, List, [], ◌∷◌, ◌++◌, refl, sym, ◌∙◌, ap, subst}
use Rattle.lock_messages.specs.declared.ids.Actor.{Actor}
use Rattle.lock_messages.specs.declared.messages.Message.{Message}
use Rattle.lock_model.specs.Ballots.{Ballot}
use Rattle.world_model.specs.declared.exact.ExactWorld.{ExactWorld}
use Rattle.world_model.specs.Parts.{Part, part, is_own}
use Rattle.world_model.specs.Locality.{own_events}
use Rattle.merge_model.specs.OwnRuns.{IsOwnRun}
use Rattle.merge_model.specs.Merging.{Logs, moved, says, IsSourced, IsMerge}
use Rattle.merge_model.proofs.OwnRunFacts.{Pair, run-begins}

one-more : (q : Pair) (all begun rest : List Pair) (t : Bool) → all ≡ begun ++ rest → cond t (q ∷ all) all ≡ cond t (q ∷ begun) begun ++ rest
one-more q all begun rest true e = ap (λ xs. q ∷ xs) e
one-more q all begun rest false e = e

own-joined : (who : Actor) (begun rest : List Pair) → own_events who (begun ++ rest) ≡ own_events who begun ++ own_events who rest
own-joined who [] rest = refl
own-joined who (q ∷ begun) rest = one-more q (own_events who (begun ++ rest)) (own_events who begun) (own_events who rest) (is_own who q.0) (own-joined who begun rest)

sourced-begins : (b : List Ballot) (parts : Actor → Part) (said : List Message) (begun rest : List Pair) → IsSourced b parts said (begun ++ rest) → IsSourced b parts said begun
sourced-begins b parts said [] rest s = tt
sourced-begins b parts said (q ∷ begun) rest s = (s.0, sourced-begins b (moved b parts q) (said ++ says b parts q) begun rest s.1)

pub merge-begins : (w : ExactWorld) (logs : Logs) (begun rest : List Pair) → IsMerge w logs (begun ++ rest) →
    IsMerge w (λ who. own_events who begun) begun × ((who : Actor) → logs who ≡ own_events who begun ++ own_events who rest)
merge-begins w logs begun rest m = (
  record {
    own = λ who. run-begins w.ballots who (part w who) (own_events who begun) (own_events who rest) (subst (IsOwnRun w.ballots who (part w who)) (cut who) (m.own who));
    interleaved = λ who. refl;
    sourced = sourced-begins w.ballots (part w) w.sent begun rest m.sourced;
  },
  cut,
)
  where
    cut : (who : Actor) → logs who ≡ own_events who begun ++ own_events who rest
    cut who = sym (m.interleaved who) ∙ own-joined who begun rest
