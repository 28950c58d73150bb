-- What c1 has kept in a world that is opened from records.
use Rattle.std.proofs.Common.{◌≡◌, ℕ, ◌∙◌, refl, sym, ap, subst, List, [], ◌∷◌, Some, arith}
use Rattle.lock_messages.specs.declared.ids.Actor.TheVariants as actor
use Rattle.lock_model.specs.Ballots.{Ballot}
use Rattle.stable_record.specs.Records.{client_record_of}
use Rattle.world_model.specs.declared.exact.ExactStation.{ExactStation}
use Rattle.world_model.specs.declared.exact.ExactWorld.{ExactWorld}
use Rattle.world_model.specs.Openings.{resumed}
use Rattle.world_model.specs.Parts.{part}
use Rattle.world_opening.specs.Openings.{AreAttempts, stations_in}
use Rattle.world_machine.specs.Opened.{IsResumed}
use Rattle.loop_tests.specs.Clients.{IsDown, HasKept}

keeps-first : (b : List Ballot) (stations : List ExactStation) (first second : List ℕ) (attempt : ℕ) (attempts : List ℕ) → AreAttempts (first ∷ second ∷ []) attempts → first ≡ client_record_of attempt →
    IsDown attempt (part (resumed b stations attempts) (actor.Client 1))
keeps-first b stations first second attempt [] each spelled = absurd (let none : 0 ≡ 2 = each.count_is in omega (arith, none))
keeps-first b stations first second attempt (a ∷ rest) each spelled =
    let found = each.each 1 a refl in
    let same : Some first ≡ Some found.bytes = found.finds in
    let bytes : first ≡ found.bytes = cc in
    record {
      kept = a;
      in_range = found.reads.in_range;
      spelled = sym spelled ∙ bytes ∙ found.reads.spelled;
      part = refl;
    }

-- the first client has made the attempt of which the first record is
pub resumed_keeps : (b : List Ballot) (nodes clients : List (List ℕ)) (first second : List ℕ) (attempt : ℕ) (w : ExactWorld) → IsResumed b nodes clients w → clients ≡ first ∷ second ∷ [] →
    first ≡ client_record_of attempt → HasKept b attempt w
resumed_keeps b nodes clients first second attempt w resumed listed spelled =
    let h : IsResumed b nodes (first ∷ second ∷ []) w = subst (λ (cs : List (List ℕ)). IsResumed b nodes cs w) listed resumed in
    record {
      ballots = ap (λ (v : ExactWorld). v.ballots) h.world;
      down = rw h.world (keeps-first b (stations_in h.records) first second attempt h.attempts h.clients_keep spelled);
    }
