-- Histories, one event longer.
use Rattle.std.proofs.Common.{◌≡◌, ◌+◌, ◌≤◌, length, arith, List, [], ◌∷◌, ◌++◌, refl, subst}
use Rattle.world_model.specs.declared.events.Effect.{Effect}
use Rattle.world_model.specs.declared.events.Event.{Event}
use Rattle.world_model.specs.declared.exact.ExactWorld.{ExactWorld}
use Rattle.world_model.specs.declared.events.Event.TheVariants as event
use Rattle.history_book.specs.Books.{enters, enters_by}
use Rattle.world_model.specs.Laws.{Takes}
use Rattle.world_model.specs.Forgetting.{IsSound}
use Rattle.world_model.specs.Locality.{IsHistory, HistoriesAreRuns}
use Rattle.world_model.specs.Worlds.{Setting}
use Rattle.vote_weights.specs.declared.lists.TheConstants.{MAX_BALLOTS}
use Rattle.journal_text.specs.Journals.{HasFewBallots}

pub history_more : (w v u : ExactWorld) (history : List (Event × Effect)) (e : Event) (done : Effect) → IsHistory w history v → Takes v e done u → IsHistory w (history ++ (e, done) ∷ []) u
history_more w v u [] e done h t = (u, subst (λ (x : ExactWorld). Takes x e done u) h t, refl)
history_more w v u (p ∷ history) e done h t = (h.0, h.1, history_more h.0 v u history e done h.2 t)

pub enters_once : (e : Event) → enters_by e ≤ 1
enters_once (event.Enter c) = omega arith
enters_once _ = omega arith

pub enters_within : (history : List (Event × Effect)) → enters history ≤ length history
enters_within [] = omega arith
enters_within (p ∷ history) = let one = enters_once p.0 in let rest = enters_within history in omega arith

pub enters_more : (history : List (Event × Effect)) (e : Event) (done : Effect) → enters (history ++ (e, done) ∷ []) ≡ enters history + enters_by e
enters_more [] e done = omega arith
enters_more (p ∷ history) e done = let rest = enters_more history e done in omega arith

-- a history leaves the ballots as they are, so its opening has no more than the world that it leaves
pub few_ballots : HistoriesAreRuns → (w v : ExactWorld) (history : List (Event × Effect)) → IsSound w → IsHistory w history v → length v.ballots ≤ MAX_BALLOTS → HasFewBallots w
few_ballots law w v history sound run few = subst (λ (s : Setting). length s.ballots ≤ MAX_BALLOTS) (law w v history sound run).setting few
