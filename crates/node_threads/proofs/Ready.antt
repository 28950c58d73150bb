-- An actor's berth, with the actor's record, is what its thread needs.
use Rattle.std.proofs.Common.{◌≡◌, ◌==◌, ℕ, ◌≤◌, List, sym, ap, ◌∙◌, subst, refl, length, get_or, All, le_trans, eqb-true, arith}
use Rattle.std.proofs.lemmas.List.Elements.{filter_passes, All-filter}
use Rattle.std.proofs.lemmas.List.Sums.{length-filter, count_by-le-length}
use Rattle.lock_messages.specs.declared.ids.Actor.{Actor}
use Rattle.lock_messages.specs.declared.ids.Actor.TheVariants as actor
use Rattle.lock_model.specs.Ballots.{Ballot, HasPlace}
use Rattle.event_lines.specs.declared.wishes.Wish.{Wish}
use Rattle.history_book.specs.Books.{BookValue, BerthValue, IsGiven}
use Rattle.world_model.specs.Openings.{down_node, down_client}
use Rattle.world_model.specs.Parts.{Part, NodePart, ClientPart, part}
use Rattle.world_actors.specs.Nodes.{station_in}
use Rattle.event_recorders.specs.OwnLogs.{IsDownAtRest, FindsPart}
use Rattle.book_recorders.specs.Sharing.{log_of}
use Rattle.event_lines.specs.declared.wishes.TheConstants.{MAX_WISHES}
use Rattle.client_loop.specs.Standing.{KeepsAttempt}
use Rattle.client_loop.specs.Visits.{ArePlaced}
use Rattle.node_threads.specs.Actors.{IsNodeReady, IsClientReady}
use Rattle.node_threads.specs.Tasks.{IsNodeTask, IsClientBerth, IsClientTask, own_wishes}

-- the part of the world that the berth tells is that of its actor in the book's opening
opens : (who : Actor) (b b' : BookValue) (k : BerthValue) → IsGiven who b k b' → part k.opening k.actor ≡ part b.opening who
opens who b b' k given = ap (λ w. part w k.actor) given.opening ∙ ap (part b.opening) given.actor

pub node_ready : (n : ℕ) (strings : List (List ℕ)) (b b' : BookValue) (k : BerthValue) → IsNodeReady b.opening n strings → IsGiven (actor.Node n) b k b' → IsNodeTask b.table n k strings
node_ready n strings b b' k ready given =
    let at : (log_of k).opening ≡ NodePart (down_node (station_in ready.kept)) = opens (actor.Node n) b b' k given ∙ ready.part in record {
      table = given.table;
      kept = ready.kept;
      ready = record {
        unused = record { actor = given.actor; events = given.own; down = subst (IsDownAtRest (actor.Node n)) (sym at) (refl, refl) };
        opening = at;
        good = ready.good;
        finds = ready.finds;
      };
    }

each_own : (c : ℕ) (all : List Wish) → All (λ w. w.client ≡ c) (own_wishes c all)
each_own c all i d within = eqb-true (get_or (own_wishes c all) i d).client c (filter_passes (λ w. w.client == c) all i d within)

own_within : (c : ℕ) (all : List Wish) → length (own_wishes c all) ≤ length all
own_within c all = omega (arith, length-filter (λ w. w.client == c) all, count_by-le-length (λ w. w.client == c) all)

each_placed : (ballots : List Ballot) (c : ℕ) (all : List Wish) → ArePlaced ballots all → ArePlaced ballots (own_wishes c all)
each_placed ballots c all placed = All-filter (λ w. w.client == c) (λ w. HasPlace ballots w.place) all placed

pub client_berth : (c : ℕ) (strings : List (List ℕ)) (b b' : BookValue) (k : BerthValue) → IsClientReady b.opening c strings → IsGiven (actor.Client c) b k b' → IsClientBerth b.table c b.opening.ballots k strings
client_berth c strings b b' k ready given =
    let at : (log_of k).opening ≡ ClientPart (down_client ready.attempt) = opens (actor.Client c) b b' k given ∙ ready.part in record {
      table = given.table;
      unused = record { actor = given.actor; events = given.own; down = subst (IsDownAtRest (actor.Client c)) (sym at) (refl, refl) };
      ballots = ap (λ w. w.ballots) given.opening;
      found = subst (λ (q : Part). FindsPart q strings) (sym at) ready.finds;
      kept = subst KeepsAttempt (sym at) ready.range;
    }

pub client_ready : (c : ℕ) (ballots : List Ballot) (wishes : List Wish) (strings : List (List ℕ)) (b b' : BookValue) (k : BerthValue) → IsClientReady b.opening c strings → IsGiven (actor.Client c) b k b' → b.opening.ballots ≡ ballots
    → (all : List Wish) → wishes ≡ own_wishes c all → length all ≤ MAX_WISHES → ArePlaced ballots all → IsClientTask b.table c ballots wishes k strings
client_ready c ballots wishes strings b b' k ready given same all own few placed = record {
  berth = subst (λ (l : List Ballot). IsClientBerth b.table c l k strings) same (client_berth c strings b b' k ready given);
  own = subst (All (λ w. w.client ≡ c)) (sym own) (each_own c all);
  few = subst (λ ws. length ws ≤ MAX_WISHES) (sym own) (le_trans (own_within c all) few);
  placed = subst (ArePlaced ballots) (sym own) (each_placed ballots c all placed);
}
