-- What a life begins with, and what holds of it at its end.
use Rattle.std.proofs.Common.{◌≡◌, ℕ, List, [], ◌∷◌, Option, sym, ap, ◌∙◌, subst, refl}
use Rattle.lock_messages.specs.declared.ids.Actor.TheVariants as who
use Rattle.stable_record.specs.declared.node_records.NodeRecord.{NodeRecord}
use Rattle.lock_messages.specs.declared.ids.Actor.{Actor}
use Rattle.lock_model.specs.Ballots.{Ballot}
use Rattle.world_model.specs.declared.events.Effect.{Effect}
use Rattle.world_model.specs.declared.events.Event.{Event}
use Rattle.world_model.specs.Parts.{Part}
use Rattle.event_recorders.specs.OwnLogs.{OwnLog, IsDownAtRest}
use Rattle.lossy_link.specs.declared.parcels.Sending.{Sending}
use Rattle.lossy_link.specs.Links.{all_more}
use Rattle.event_recorders.specs.declared.faults.RunFault.{RunFault}
use Rattle.actor_steps.specs.Sendings.{sent_of}
use Rattle.actor_steps.proofs.SendingFacts.{all_told}
use Rattle.client_loop.specs.Sendings.{ToldUnlessMemory}
use Rattle.client_loop.proofs.SentFacts.{told_unless}
use Rattle.node_loop.specs.Standing.{IsReady, as_opened}
use Rattle.lock_session.specs.Sessions.{SessionValue, IsSessionOf, IsSameSession}
use Rattle.actor_lives.specs.Lives.{IsOpened, IsLogOf}
use Rattle.actor_lives.specs.Serving.{GoesOn, IsOverBy}

-- an opened node that has logged nothing is what its loop needs
pub node_ready : (l : OwnLog) (n : ℕ) (found : List ℕ) (strings : List (List ℕ)) → l.actor ≡ who.Node n → l.events ≡ [] → IsOpened found l.opening → strings ≡ found ∷ [] → (kept : NodeRecord) × IsReady l n kept strings
node_ready l n found strings actor none opened finds = (
  opened.kept,
  record {
    unused = record { actor = actor; events = none; down = subst (IsDownAtRest (who.Node n)) (sym opened.part) (refl, refl) };
    opening = opened.part;
    good = opened.good;
    finds = finds ∙ ap (λ (s : List ℕ). s ∷ []) opened.spelled;
  },
)

-- a log that was opened as this one is the same actor's, with the same ballots and the same opening
pub log_of : (l l' : OwnLog) (actor : Actor) (b : List Ballot) (opening : Part) (events : List (Event × Effect)) → as_opened l' ≡ as_opened l → l ≡ record { actor = actor; ballots = b; opening = opening; events = events } → IsLogOf actor b opening l'
log_of l l' actor b opening events same is =
    let at : as_opened l' ≡ record { actor = actor; ballots = b; opening = opening; events = [] } = same ∙ ap as_opened is in
    record { actor = ap (λ (x : OwnLog). x.actor) at; ballots = ap (λ (x : OwnLog). x.ballots) at; opening = ap (λ (x : OwnLog). x.opening) at }

-- a log that is as it was opened
pub log_is : (l l' : OwnLog) (actor : Actor) (b : List Ballot) (opening : Part) (events : List (Event × Effect)) → l' ≡ l → l ≡ record { actor = actor; ballots = b; opening = opening; events = events } → IsLogOf actor b opening l'
log_is l l' actor b opening events same is = log_of l l' actor b opening events (ap as_opened same) is

-- the log of a session that rose with this log, and went on
pub risen_log : (l l' : OwnLog) (client : ℕ) (b ballots : List Ballot) (opening : Part) (v v' : SessionValue) (events : List (Event × Effect)) → l ≡ record { actor = who.Client client; ballots = b; opening = opening; events = events } →
    IsSessionOf client ballots l.opening v → IsSameSession v v' → l' ≡ v'.log → (l'.actor ≡ who.Client v'.client) × (l'.ballots ≡ v'.ballots) → IsLogOf (who.Client client) ballots opening l'
risen_log l l' client b ballots opening v v' events is of same log whose = record {
  actor = whose.0 ∙ ap who.Client (same.client ∙ of.client);
  ballots = whose.1 ∙ same.ballots ∙ of.ballots;
  opening = ap (λ (x : OwnLog). x.opening) log ∙ same.opening ∙ of.opening ∙ ap (λ (x : OwnLog). x.opening) is;
}

-- what was sent over a life whose first log sends nothing
pub all_sent : (given : Option (List Sending)) (v v' : SessionValue) → (sent_of v.log ≡ []) × (v.given ≡ given) → GoesOn v v' → v'.given ≡ all_more given (sent_of v'.log)
all_sent given v v' silent on = all_told v.log v'.log v.given v'.given silent.0 on.sent ∙ ap (λ (g : Option (List Sending)). all_more g (sent_of v'.log)) silent.1

pub sent_unless : (f : RunFault) (given : Option (List Sending)) (v v' : SessionValue) → (sent_of v.log ≡ []) × (v.given ≡ given) → IsOverBy f v v' → ToldUnlessMemory f v'.log given v'.given
sent_unless f given v v' silent over = subst (λ (g : Option (List Sending)). ToldUnlessMemory f v'.log g v'.given) silent.1 (told_unless f v.log v'.log v.given v'.given silent.0 over.sent)
