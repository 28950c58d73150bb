use Rattle.std.proofs.Common.{◌≡◌, ◌+◌, ◌-◌, ◌≤◌, length, map, sym, ◌∙◌, ap, subst, arith}
use Rattle.std.specs.List.{All, range_with_len}
use Rattle.lock_messages.specs.declared.ids.TheConstants.{MAX_CLIENTS, MAX_NODES}
use Rattle.lossy_link.specs.ChannelLinks.{link_at}
use Rattle.node_threads.specs.Actors.{AreClientsReady}
use Rattle.node_threads.specs.Conditions.{finds_station, finds_attempt}
use Rattle.node_threads.specs.Tasks.{IsNodeTask, IsClientTask}
use Rattle.node_threads.proofs.Openings.{ready_nodes, ready_clients, front, back, as_many, as_many_both, at_stations, few_stations, few_attempts, many_nodes, many_clients}
use Rattle.node_threads.proofs.Places.{joined_links}
use Rattle.node_threads.proofs.running.tasks_of.Goals as goal

pub overflow_sub-others : goal.overflow_sub-others
overflow_sub-others g c =
    let may = c.requires.may in
    let count : length c.args.pairs.items ≡ length may.stations = may.paired in
    let all : length c.args.records.items ≡ length may.stations + length may.attempts =
    as_many_both (λ r. (goal.StableRecord-dyn g (r.vtable, r.value)).finds r.value) finds_station finds_attempt c.args.records.items may.stations may.attempts may.records in
    omega (arith, count, all, c.args.pairs.ok, c.args.records.ok, c.len-count.ensures, c.len.ensures)

-- there are as many records as actors, and as many policies as nodes, so as many others as clients
pub links_of-requires-clause-few_clients : goal.links_of-requires-clause-few_clients
links_of-requires-clause-few_clients g c =
    let may = c.requires.may in
    let opening = c.args.book.now.opening in
    let count : length c.args.pairs.items ≡ length may.stations = may.paired in
    let all : length c.args.records.items ≡ length may.stations + length may.attempts =
    as_many_both (λ r. (goal.StableRecord-dyn g (r.vtable, r.value)).finds r.value) finds_station finds_attempt c.args.records.items may.stations may.attempts may.records in
    let few : length may.attempts ≤ MAX_CLIENTS = few_attempts opening c.args.ballots may.stations may.attempts may.world c.requires.keeps in
    omega (arith, count, all, few, c.args.pairs.ok, c.args.records.ok, c.len-count.ensures, c.len.ensures)

pub split_off-requires : goal.split_off-requires
split_off-requires g c =
    let may = c.requires.may in
    let count : length c.args.pairs.items ≡ length may.stations = may.paired in
    let all : length c.args.records.items ≡ length may.stations + length may.attempts =
    as_many_both (λ r. (goal.StableRecord-dyn g (r.vtable, r.value)).finds r.value) finds_station finds_attempt c.args.records.items may.stations may.attempts may.records in
    omega (arith, count, all, c.args.pairs.ok, c.args.records.ok, c.len-count.ensures)

pub node_tasks-requires-clause-few : goal.node_tasks-requires-clause-few
node_tasks-requires-clause-few g c =
    let may = c.requires.may in
    let count : length c.args.pairs.items ≡ length may.stations = may.paired in
    subst (λ n. n ≤ MAX_NODES) (sym count) (few_stations c.args.book.now.opening c.args.ballots may.stations may.attempts may.world c.requires.keeps)

pub node_tasks-requires-clause-ready : goal.node_tasks-requires-clause-ready
node_tasks-requires-clause-ready g c =
    let may = c.requires.may in
    let count : length c.args.pairs.items ≡ length may.stations = may.paired in
    let place : c.len-count.result ≡ length (map finds_station may.stations) = at_stations c.len-count.result (length c.args.pairs.items) may.stations (c.len-count.ensures ∙ c.args.pairs.ok.0) count in
    let found : map (λ r. (goal.StableRecord-dyn g (r.vtable, r.value)).finds r.value) c.split_off.new.self.items ≡ map finds_station may.stations =
    ap (map (λ r. (goal.StableRecord-dyn g (r.vtable, r.value)).finds r.value)) c.in-Ok-split_off.ensures.items
    ∙ front (λ r. (goal.StableRecord-dyn g (r.vtable, r.value)).finds r.value) c.args.records.items (map finds_station may.stations) (map finds_attempt may.attempts) c.len-count.result may.records place in
    ready_nodes c.args.book.now.opening c.args.ballots may.stations may.attempts
    (map (λ r. (goal.StableRecord-dyn g (r.vtable, r.value)).finds r.value) c.split_off.new.self.items) may.world c.requires.keeps found

pub client_tasks-requires-clause-few : goal.client_tasks-requires-clause-few
client_tasks-requires-clause-few g c =
    let may = c.requires.may in
    let count : length c.args.pairs.items ≡ length may.stations = may.paired in
    let place : c.len-count.result ≡ length (map finds_station may.stations) = at_stations c.len-count.result (length c.args.pairs.items) may.stations (c.len-count.ensures ∙ c.args.pairs.ok.0) count in
    let found : map (λ r. (goal.StableRecord-dyn g (r.vtable, r.value)).finds r.value) c.in-Ok-split_off.client_records.items ≡ map finds_attempt may.attempts =
    ap (map (λ r. (goal.StableRecord-dyn g (r.vtable, r.value)).finds r.value)) c.in-Ok-split_off.ensures.tail
    ∙ back (λ r. (goal.StableRecord-dyn g (r.vtable, r.value)).finds r.value) c.args.records.items (map finds_station may.stations) (map finds_attempt may.attempts) c.len-count.result may.records place in
    subst (λ n. n ≤ MAX_CLIENTS) (sym (as_many (λ r. (goal.StableRecord-dyn g (r.vtable, r.value)).finds r.value) finds_attempt c.in-Ok-split_off.client_records.items may.attempts found))
    (few_attempts c.args.book.now.opening c.args.ballots may.stations may.attempts may.world c.requires.keeps)

pub client_tasks-requires-clause-ready : goal.client_tasks-requires-clause-ready
client_tasks-requires-clause-ready g c =
    let may = c.requires.may in
    let count : length c.args.pairs.items ≡ length may.stations = may.paired in
    let place : c.len-count.result ≡ length (map finds_station may.stations) = at_stations c.len-count.result (length c.args.pairs.items) may.stations (c.len-count.ensures ∙ c.args.pairs.ok.0) count in
    let found : map (λ r. (goal.StableRecord-dyn g (r.vtable, r.value)).finds r.value) c.in-Ok-split_off.client_records.items ≡ map finds_attempt may.attempts =
    ap (map (λ r. (goal.StableRecord-dyn g (r.vtable, r.value)).finds r.value)) c.in-Ok-split_off.ensures.tail
    ∙ back (λ r. (goal.StableRecord-dyn g (r.vtable, r.value)).finds r.value) c.args.records.items (map finds_station may.stations) (map finds_attempt may.attempts) c.len-count.result may.records place in
    subst (λ w. AreClientsReady 0 w (map (λ r. (goal.StableRecord-dyn g (r.vtable, r.value)).finds r.value) c.in-Ok-split_off.client_records.items)) (sym c.in-Ok-node_tasks.ensures.opening)
    (ready_clients c.args.book.now.opening c.args.ballots may.stations may.attempts (map (λ r. (goal.StableRecord-dyn g (r.vtable, r.value)).finds r.value) c.in-Ok-split_off.client_records.items) may.world c.requires.sound found)

pub returns-clause-nodes : goal.returns-clause-nodes
returns-clause-nodes g c =
    subst (λ b. All (λ t. IsNodeTask b t.node t.berth ((goal.StableRecord-dyn g (t.stable.vtable, t.stable.value)).finds t.stable.value)) c.in-Ok-node_tasks.nodes.items)
    (sym (c.in-Ok-client_tasks.ensures.table ∙ c.in-Ok-node_tasks.ensures.table)) c.in-Ok-node_tasks.ensures.tasks

pub returns-clause-clients : goal.returns-clause-clients
returns-clause-clients g c =
    subst (λ b. All (λ t. IsClientTask b t.client t.ballots t.wishes.items t.berth ((goal.StableRecord-dyn g (t.stable.vtable, t.stable.value)).finds t.stable.value)) c.in-Ok-client_tasks.clients.items)
    (sym c.in-Ok-client_tasks.ensures.table) c.in-Ok-client_tasks.ensures.tasks

pub returns-clause-all_nodes : goal.returns-clause-all_nodes
returns-clause-all_nodes g c =
    let may = c.requires.may in
    let count : length c.args.pairs.items ≡ length may.stations = may.paired in
    c.in-Ok-node_tasks.ensures.all_nodes ∙ ap (range_with_len 1) (count ∙ sym (many_nodes c.args.book.now.opening c.args.ballots may.stations may.attempts may.world))

pub returns-clause-all_clients : goal.returns-clause-all_clients
returns-clause-all_clients g c =
    let may = c.requires.may in
    let count : length c.args.pairs.items ≡ length may.stations = may.paired in
    let place : c.len-count.result ≡ length (map finds_station may.stations) = at_stations c.len-count.result (length c.args.pairs.items) may.stations (c.len-count.ensures ∙ c.args.pairs.ok.0) count in
    let found : map (λ r. (goal.StableRecord-dyn g (r.vtable, r.value)).finds r.value) c.in-Ok-split_off.client_records.items ≡ map finds_attempt may.attempts =
    ap (map (λ r. (goal.StableRecord-dyn g (r.vtable, r.value)).finds r.value)) c.in-Ok-split_off.ensures.tail
    ∙ back (λ r. (goal.StableRecord-dyn g (r.vtable, r.value)).finds r.value) c.args.records.items (map finds_station may.stations) (map finds_attempt may.attempts) c.len-count.result may.records place in
    let many : length c.in-Ok-split_off.client_records.items ≡ length may.attempts =
    as_many (λ r. (goal.StableRecord-dyn g (r.vtable, r.value)).finds r.value) finds_attempt c.in-Ok-split_off.client_records.items may.attempts found in
    c.in-Ok-client_tasks.ensures.all_clients ∙ ap (range_with_len 1) (many ∙ sym (many_clients c.args.book.now.opening c.args.ballots may.stations may.attempts may.world))

pub returns-clause-links : goal.returns-clause-links
returns-clause-links g c =
    let may = c.requires.may in
    let opening = c.args.book.now.opening in
    let stations : length opening.nodes ≡ length may.stations = many_nodes opening c.args.ballots may.stations may.attempts may.world in
    let attempts : length opening.clients ≡ length may.attempts = many_clients opening c.args.ballots may.stations may.attempts may.world in
    let policies : length c.args.pairs.items ≡ length may.stations = may.paired in
    let records : length c.args.records.items ≡ length may.stations + length may.attempts =
    as_many_both (λ r. (goal.StableRecord-dyn g (r.vtable, r.value)).finds r.value) finds_station finds_attempt c.args.records.items may.stations may.attempts may.records in
    let count : c.len-count.result ≡ length c.args.pairs.items = c.len-count.ensures ∙ c.args.pairs.ok.0 in
    let long : c.len.result ≡ length c.args.records.items = c.len.ensures ∙ c.args.records.ok.0 in
    let nodes : c.len-count.result ≡ length opening.nodes = omega (arith, count, policies, stations) in
    let all : c.len-count.result + (c.len.result - c.len-count.result) ≡ length opening.nodes + length opening.clients = omega (arith, long, records, nodes, stations, attempts) in
    joined_links (λ t. t.link) (λ t. t.link) c.in-Ok-node_tasks.nodes.items c.in-Ok-client_tasks.clients.items c.in-Ok.node_links.items c.in-Ok.client_links.items (λ n. link_at n c.args.weather.now)
    c.len-count.result (length opening.nodes) _ (length opening.nodes + length opening.clients) c.in-Ok-node_tasks.ensures.links c.in-Ok-client_tasks.ensures.links c.in-Ok.ensures.links nodes all
