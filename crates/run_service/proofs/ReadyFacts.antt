-- A world in which all are down and nothing is kept may run, with empty records and a pair of policies a
-- node.
use Rattle.std.proofs.Common.{◌≡◌, ℕ, ◌≤◌, true, nat_le, List, [], ◌∷◌, ◌++◌, length, get_or, map, replicate, All, sym, ap, subst, ◌∙◌, arith}
use Rattle.std.proofs.lemmas.List.{length-replicate}
use Rattle.std.proofs.lemmas.Bool.Decides.{nat_tests}
use Rattle.lock_model.specs.Ballots.{node_count}
use Rattle.lock_messages.specs.declared.ids.Actor.TheVariants as actor
use Rattle.lock_model.specs.declared.problems.Problem.{Problem}
use Rattle.stable_record.specs.Records.{client_record_of}
use Rattle.event_lines.specs.declared.wishes.Wish.{Wish}
use Rattle.world_model.specs.declared.exact.ExactStation.{ExactStation}
use Rattle.world_model.specs.declared.exact.ExactWorld.{ExactWorld}
use Rattle.world_model.specs.Openings.{down_client, empty_station}
use Rattle.world_machine.specs.Listing.{has_actor, station_bytes}
use Rattle.world_settings.specs.declared.settings.Settings.{Settings}
use Rattle.world_settings.specs.Openings.{all_down}
use Rattle.world_settings.specs.Settings.{AreAmong}
use Rattle.operator_cli.proofs.OpeningFacts.{map_same}
use Rattle.node_threads.specs.Conditions.{MayRun}
use Rattle.run_service.specs.Empty.{empty_node, empty_client}

abbrev stations_of : ℕ → Problem → List ExactStation
stations_of n p = map empty_station (replicate n p)

stations_are : (n : ℕ) (p : Problem) → stations_of n p ≡ replicate n (empty_station p)
stations_are n p = map_same empty_station n p

so_many : (n : ℕ) (p : Problem) → n ≡ length (stations_of n p)
so_many n p = sym (ap length (stations_are n p) ∙ length-replicate n (empty_station p))

nodes_are : (n : ℕ) (p : Problem) → replicate n (empty_node p) ≡ map (λ s. station_bytes s ∷ []) (stations_of n p)
nodes_are n p = sym (ap (map (λ (s : ExactStation). station_bytes s ∷ [])) (stations_are n p) ∙ map_same (λ (s : ExactStation). station_bytes s ∷ []) n (empty_station p))

clients_are : (k : ℕ) → replicate k empty_client ≡ map (λ a. client_record_of a ∷ []) (replicate k 0)
clients_are k = sym (map_same (λ (a : ℕ). client_record_of a ∷ []) k 0)

pub may_run : (s : Settings) (w : ExactWorld) (n pairs : ℕ) (found : List (List (List ℕ))) → w ≡ all_down s → n ≡ node_count s.ballots
    → pairs ≡ n → found ≡ replicate n (empty_node s.problem) ++ replicate s.clients empty_client → MayRun w s.ballots pairs found
may_run s w n pairs found is_world count all_pairs all_records =
    let votes = node_count s.ballots in
    let p = s.problem in record {
      stations = stations_of votes p;
      attempts = replicate s.clients 0;
      world = is_world;
      paired = all_pairs ∙ count ∙ so_many votes p;
      records = all_records ∙ ap (λ m. replicate m (empty_node p) ++ replicate s.clients empty_client) count ∙ ap (λ rs. rs ++ replicate s.clients empty_client) (nodes_are votes p)
          ∙ ap (λ rs. map (λ (t : ExactStation). station_bytes t ∷ []) (stations_of votes p) ++ rs) (clients_are s.clients);
    }

-- what empty records find, by how many nodes there are
pub found_both : (s : Settings) (n : ℕ) (nodes clients : List (List (List ℕ))) → n ≡ node_count s.ballots → nodes ≡ replicate (node_count s.ballots) (empty_node s.problem) → clients ≡ replicate s.clients empty_client
    → nodes ++ clients ≡ replicate n (empty_node s.problem) ++ replicate s.clients empty_client
found_both s n nodes clients count of_nodes of_clients =
    ap (λ xs. xs ++ clients) (of_nodes ∙ ap (λ m. replicate m (empty_node s.problem)) (sym count))
    ∙ ap (λ xs. replicate n (empty_node s.problem) ++ xs) of_clients

-- each wish is of a client of the world
client_count : (s : Settings) → length (all_down s).clients ≡ s.clients
client_count s = ap length (map_same down_client s.clients 0) ∙ length-replicate s.clients (down_client 0)

there_is : (c n : ℕ) → c ≤ n → nat_le c n ≡ true
there_is c n h = grind (arith, nat_tests)

pub theirs : (s : Settings) (w : ExactWorld) (wishes : List Wish) → w ≡ all_down s → AreAmong s.clients s.ballots wishes → All (λ wish. has_actor w (actor.Client wish.client) ≡ true) wishes
theirs s w wishes is_world among = λ k d below.
    let count = ap (λ (v : ExactWorld). length v.clients) is_world ∙ client_count s in
    there_is (get_or wishes k d).client (length w.clients) (subst (λ n. (get_or wishes k d).client ≤ n) (sym count) (among.theirs k d below))
