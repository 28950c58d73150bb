use Rattle.std.proofs.Common.{◌≡◌, ◌+◌, ◌≤◌, length, map, sym, ◌∙◌, ap, subst, arith}
use Rattle.std.specs.List.{All, range_with_len}
use Rattle.lock_messages.specs.declared.ids.TheConstants.{MAX_CLIENTS}
use Rattle.lossy_link.specs.ChannelLinks.{link_at}
use Rattle.node_threads.specs.Actors.{AreClientsReady}
use Rattle.node_threads.specs.Conditions.{finds_attempt}
use Rattle.node_threads.specs.Tasks.{IsNodeTask, IsClientBerth}
use Rattle.node_threads.proofs.Openings.{both_found, ready_nodes, ready_clients, as_many, few_attempts, many_nodes, many_clients}
use Rattle.node_threads.proofs.Places.{joined_links}
use Rattle.node_threads.proofs.services.service_tasks.Goals as goal

-- there are as many records of clients as clients
pub links_of-requires-clause-few_clients : goal.links_of-requires-clause-few_clients
links_of-requires-clause-few_clients g c =
    let may = c.requires.may in
    let opening = c.args.book.now.opening in
    let both = both_found (λ r. (goal.StableRecord-dyn g (r.vtable, r.value)).finds r.value) (λ r. g.S.StableRecord.finds r) opening opening.ballots _ c.args.node_records.items c.args.client_records.items may c.requires.records in
    let many : length c.args.client_records.items ≡ length may.attempts = as_many (λ r. g.S.StableRecord.finds r) finds_attempt c.args.client_records.items may.attempts both.1 in
    let few : length may.attempts ≤ MAX_CLIENTS = few_attempts opening opening.ballots may.stations may.attempts may.world c.requires.keeps in
    omega (arith, c.len-others.ensures, c.args.client_records.ok.0, many, few)

pub node_tasks-requires-clause-ready : goal.node_tasks-requires-clause-ready
node_tasks-requires-clause-ready g c =
    let may = c.requires.may in
    let opening = c.args.book.now.opening in
    let both = both_found (λ r. (goal.StableRecord-dyn g (r.vtable, r.value)).finds r.value) (λ r. g.S.StableRecord.finds r) opening opening.ballots _ c.args.node_records.items c.args.client_records.items may c.requires.records in
    ready_nodes opening opening.ballots may.stations may.attempts (map (λ r. (goal.StableRecord-dyn g (r.vtable, r.value)).finds r.value) c.args.node_records.items) may.world c.requires.keeps both.0

pub session_tasks-requires-clause-few : goal.session_tasks-requires-clause-few
session_tasks-requires-clause-few g c =
    let may = c.requires.may in
    let opening = c.args.book.now.opening in
    let both = both_found (λ r. (goal.StableRecord-dyn g (r.vtable, r.value)).finds r.value) (λ r. g.S.StableRecord.finds r) opening opening.ballots _ c.args.node_records.items c.args.client_records.items may c.requires.records in
    subst (λ n. n ≤ MAX_CLIENTS) (sym (as_many (λ r. g.S.StableRecord.finds r) finds_attempt c.args.client_records.items may.attempts both.1))
    (few_attempts opening opening.ballots may.stations may.attempts may.world c.requires.keeps)

pub session_tasks-requires-clause-ready : goal.session_tasks-requires-clause-ready
session_tasks-requires-clause-ready g c =
    let may = c.requires.may in
    let opening = c.args.book.now.opening in
    let both = both_found (λ r. (goal.StableRecord-dyn g (r.vtable, r.value)).finds r.value) (λ r. g.S.StableRecord.finds r) opening opening.ballots _ c.args.node_records.items c.args.client_records.items may c.requires.records in
    subst (λ w. AreClientsReady 0 w (map (λ r. g.S.StableRecord.finds r) c.args.client_records.items)) (sym c.in-Ok-node_tasks.ensures.opening)
    (ready_clients opening opening.ballots may.stations may.attempts (map (λ r. g.S.StableRecord.finds r) c.args.client_records.items) may.world c.requires.sound both.1)

pub returns-clause-nodes : goal.returns-clause-nodes
returns-clause-nodes g c =
    subst (λ b. All (λ t. IsNodeTask b t.node t.berth ((goal.StableRecord-dyn g (t.stable.vtable, t.stable.value)).finds t.stable.value)) c.in-Ok-node_tasks.nodes.items)
    (sym (c.in-Ok-session_tasks.ensures.table ∙ c.in-Ok-node_tasks.ensures.table)) c.in-Ok-node_tasks.ensures.tasks

pub returns-clause-clients : goal.returns-clause-clients
returns-clause-clients g c =
    subst (λ w. All (λ t. IsClientBerth c.session_tasks.new.book.table t.client w.ballots t.berth (g.S.StableRecord.finds t.stable)) c.in-Ok-session_tasks.clients.items) c.in-Ok-node_tasks.ensures.opening
    (subst (λ b. All (λ t. IsClientBerth b t.client c.node_tasks.new.book.opening.ballots t.berth (g.S.StableRecord.finds t.stable)) c.in-Ok-session_tasks.clients.items)
    (sym c.in-Ok-session_tasks.ensures.table) c.in-Ok-session_tasks.ensures.tasks)

pub returns-clause-all_clients : goal.returns-clause-all_clients
returns-clause-all_clients g c =
    let may = c.requires.may in
    let opening = c.args.book.now.opening in
    let both = both_found (λ r. (goal.StableRecord-dyn g (r.vtable, r.value)).finds r.value) (λ r. g.S.StableRecord.finds r) opening opening.ballots _ c.args.node_records.items c.args.client_records.items may c.requires.records in
    let many : length c.args.client_records.items ≡ length may.attempts = as_many (λ r. g.S.StableRecord.finds r) finds_attempt c.args.client_records.items may.attempts both.1 in
    c.in-Ok-session_tasks.ensures.all_clients ∙ ap (range_with_len 1) (many ∙ sym (many_clients opening opening.ballots may.stations may.attempts may.world))

pub returns-clause-links : goal.returns-clause-links
returns-clause-links g c =
    let may = c.requires.may in
    let opening = c.args.book.now.opening in
    let both = both_found (λ r. (goal.StableRecord-dyn g (r.vtable, r.value)).finds r.value) (λ r. g.S.StableRecord.finds r) opening opening.ballots _ c.args.node_records.items c.args.client_records.items may c.requires.records in
    let many : length c.args.client_records.items ≡ length may.attempts = as_many (λ r. g.S.StableRecord.finds r) finds_attempt c.args.client_records.items may.attempts both.1 in
    let stations : length opening.nodes ≡ length may.stations = many_nodes opening opening.ballots may.stations may.attempts may.world in
    let attempts : length opening.clients ≡ length may.attempts = many_clients opening opening.ballots may.stations may.attempts may.world in
    let count : c.len-count.result ≡ length c.args.pairs.items = c.len-count.ensures ∙ c.args.pairs.ok.0 in
    let others : c.len-others.result ≡ length c.args.client_records.items = c.len-others.ensures ∙ c.args.client_records.ok.0 in
    let nodes : c.len-count.result ≡ length opening.nodes = omega (arith, count, may.paired, stations) in
    let all : c.len-count.result + c.len-others.result ≡ length opening.nodes + length opening.clients = omega (arith, nodes, others, many, attempts) in
    joined_links (λ t. t.link) (λ t. t.link) c.in-Ok-node_tasks.nodes.items c.in-Ok-session_tasks.clients.items c.in-Ok.node_links.items c.in-Ok.client_links.items (λ n. link_at n c.args.weather.now)
    c.len-count.result (length opening.nodes) _ (length opening.nodes + length opening.clients) c.in-Ok-node_tasks.ensures.links c.in-Ok-session_tasks.ensures.links c.in-Ok.ensures.links nodes all
