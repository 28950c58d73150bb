-- An actor that has logged nothing, with a record of what it has kept, is what its loop needs.
use Rattle.std.proofs.Common.{◌≡◌, ℕ, List, [], ◌∷◌, sym, ap, ◌∙◌, subst, refl, arith}
use Rattle.lock_messages.specs.declared.ids.Actor.TheVariants as actor
use Rattle.lock_model.specs.declared.problems.Problem.{Problem}
use Rattle.lock_model.specs.Ballots.{Ballot}
use Rattle.stable_record.specs.declared.node_records.NodeRecord.{NodeRecord}
use Rattle.stable_record.specs.Records.{IsNodeRecord, node_record_of}
use Rattle.history_book.specs.Books.{BookValue, BerthValue}
use Rattle.event_recorders.specs.OwnLogs.{OwnLog, IsDownAtRest}
use Rattle.book_recorders.specs.Sharing.{log_of}
use Rattle.event_lines.specs.declared.wishes.Wish.{Wish}
use Rattle.client_loop.specs.Visits.{ArePlaced}
use Rattle.node_loop.specs.Standing.{IsReady}
use Rattle.loop_tests.specs.Clients.{IsClientOf}
use Rattle.test_support.specs.Fresh.{empty_record}
use Rattle.book_support.specs.Fresh.{IsUnlogged}
use Rattle.loop_tests.specs.Fresh.{IsNewNode, two_nodes}

pub node_log : (b : List Ballot) (p : Problem) (n : ℕ) (k : BerthValue) (book : BookValue) → b ≡ two_nodes → IsUnlogged b p 3 (actor.Node n) k book → n ≡ 1 → IsNewNode p (log_of k)
node_log b p n k book votes unlogged one =
    let here : IsUnlogged two_nodes p 3 (actor.Node n) k book = subst (λ (c : List Ballot). IsUnlogged c p 3 (actor.Node n) k book) votes unlogged in
    let at : IsUnlogged two_nodes p 3 (actor.Node 1) k book = subst (λ (m : ℕ). IsUnlogged two_nodes p 3 (actor.Node m) k book) one here in
    record {
      actor = ap (λ (l : OwnLog). l.actor) at.log;
      opening = ap (λ (l : OwnLog). l.opening) at.log;
      events = ap (λ (l : OwnLog). l.events) at.log;
    }

pub client_log : (b : List Ballot) (p : Problem) (n : ℕ) (k : BerthValue) (book : BookValue) → IsUnlogged b p 3 (actor.Client n) k book → n ≡ 1 → IsClientOf b 0 (log_of k)
client_log b p n k book unlogged one =
    let at : IsUnlogged b p 3 (actor.Client 1) k book = subst (λ (m : ℕ). IsUnlogged b p 3 (actor.Client m) k book) one unlogged in
    record {
      actor = ap (λ (l : OwnLog). l.actor) at.log;
      ballots = ap (λ (l : OwnLog). l.ballots) at.log;
      events = ap (λ (l : OwnLog). l.events) at.log;
      down = record { kept = 0; in_range = omega arith; spelled = refl; part = ap (λ (l : OwnLog). l.opening) at.log };
    }

-- wishes that are placed in the list of the test are so in the one that the client has
pub placed : (b : List Ballot) (ws vs : List Wish) → b ≡ two_nodes → vs ≡ ws → ArePlaced two_nodes ws → ArePlaced b vs
placed b ws vs listed same h =
    subst (λ (us : List Wish). ArePlaced b us) (sym same) (subst (λ (d : List Ballot). ArePlaced d ws) (sym listed) h)

pub node_ready : (l : OwnLog) (n : ℕ) (p : Problem) (strings : List (List ℕ)) → IsNewNode p l → IsNodeRecord (empty_record p) → n ≡ 1 → strings ≡ node_record_of (empty_record p) ∷ [] → (kept : NodeRecord) × IsReady l n kept strings
node_ready l n p strings new good one finds = (
  empty_record p,
  record {
    unused = record { actor = new.actor ∙ ap (λ (m : ℕ). actor.Node m) (sym one); events = new.events; down = subst (IsDownAtRest (actor.Node n)) (sym new.opening) (refl, refl) };
    opening = new.opening;
    good = good;
    finds = finds;
  },
)
