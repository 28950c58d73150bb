-- The exact switch is one that the node may take.
use Rattle.std.proofs.Common.{◌≡◌, ℕ, Bool, true, false, ◌&&◌, cond, List, [], ◌∷◌, ◌++◌, Option, Some, None, refl, ◌∙◌, ap}
use Rattle.lock_model.specs.declared.entries.Entry.{Entry}
use Rattle.lock_model.specs.declared.entries.Live.{Live}
use Rattle.lock_model.specs.declared.entries.Status.{Status}
use Rattle.lock_model.specs.declared.entries.Status.TheVariants.{Waiting, Holding, Softened}
use Rattle.lock_model.specs.declared.problems.Problem.TheVariants.{First, Second}
use Rattle.lock_model.specs.ExactStations.{is_waiting, is_holding, if_live, settled}
use Rattle.lock_model.specs.ExactDecisions.{grant_of, told, grants}
use Rattle.lock_model.specs.Laws.{ExactSwitchIsAllowed, SwitchToTheSame, ProblemsAreCompared}
use Rattle.lock_model.proofs.SettlingFacts.{settled-settles, settled-still}
use Rattle.lock_model.proofs.EntryEdits.{settled-well}
use Rattle.lock_model.proofs.GrantFacts.{settle-in-step, grants-are}

pub switch-allowed : ExactSwitchIsAllowed
switch-allowed p q es n w l =
    let settles = settled-settles q es w.once (record { alone = l.alone }) in
    let settled_well = settled-well q es w in
    record {
      switched = record {
        settles = settles;
        replies_are = grants-are n q es (settled q es) (settle-in-step q [] es) w.once settled_well.attempts settles;
      };
      well_formed = settled_well;
      lawful = settles.lawful;
      caused = settles.caused;
    }

-- who waits doesn't hold, so nobody becomes a holder where nothing changes
pub not-both-at : (s : Status) → (is_waiting s && is_holding s) ≡ false
not-both-at Waiting = refl
not-both-at Holding = refl
not-both-at Softened = refl

told-same : (n : ℕ) (e : Entry) → told n e e ≡ []
told-same n e = go e.live
  where
    go : (o : Option Live) → cond (if_live (λ l. is_waiting l.status) o && if_live (λ l. is_holding l.status) o) (grant_of n e.client o) [] ≡ []
    go None = refl
    go (Some l) = ap (λ b. cond b (grant_of n e.client (Some l)) []) (not-both-at l.status)

pub grants-same : (n : ℕ) (es : List Entry) → grants n es es ≡ []
grants-same n [] = refl
grants-same n (e ∷ es) = ap (λ m. m ++ grants n es es) (told-same n e) ∙ grants-same n es

pub switch-to-the-same : SwitchToTheSame
switch-to-the-same p es n w c =
    let still : settled p es ≡ es = settled-still p es w.once c in
    ap (λ fs. record { entries = fs; replies = grants n es fs }) still ∙ ap (λ rs. record { entries = es; replies = rs }) (grants-same n es)

pub problems-are-compared : ProblemsAreCompared
problems-are-compared First First = (λ h. refl, λ h. refl)
problems-are-compared First Second = (λ h. absurd (let z : false ≡ true = h in cc), λ h. absurd (let z : First ≡ Second = h in cc))
problems-are-compared Second First = (λ h. absurd (let z : false ≡ true = h in cc), λ h. absurd (let z : Second ≡ First = h in cc))
problems-are-compared Second Second = (λ h. refl, λ h. refl)
