use Rattle.std.proofs.Common.{◌≡◌, ◌+◌, ◌<◌, ◌≤◌, length, map, sym, ◌∙◌, ap, subst, arith, All}
use Rattle.std.specs.List.{filter_map, range_with_len}
use Rattle.std.specs.Prelude.{IfOk}
use denote.Param.Send.{sendable}
use denote.Param.Sent.{Sends}
use Rattle.book_recorders.proofs.Sending.{book_send}
use Rattle.world_model.specs.declared.exact.ExactWorld.{ExactWorld}
use Rattle.history_book.specs.Books.{BookValue}
use Rattle.node_threads.specs.Ends.{AreNodeEnds, node_fault}
use Rattle.node_threads.specs.SessionEnds.{AreSessionEnds}
use Rattle.node_threads.specs.Sessions.{AreRecords}
use Rattle.node_threads.specs.Tasks.{IsClientBerth}
use Rattle.node_threads.proofs.Openings.{as_counted}
use Rattle.node_threads.proofs.Orders.{InOrder, range_in_order, range_within}
use Rattle.node_threads.proofs.Returned.{image_of_image, are_records}
use Rattle.node_threads.proofs.Telling.{faults_in_order}
use Rattle.node_threads.proofs.services.with_sessions.Goals as goal

pub opened_service-shared-requires-send-K : goal.opened_service-shared-requires-send-K
opened_service-shared-requires-send-K g c κs within = let policies : Sends g.dyn-2.0 = g.dyn-2.2 in search (sendable, book_send) depth 20

pub opened_service-shared-requires-clause-few : goal.opened_service-shared-requires-clause-few
opened_service-shared-requires-clause-few g c κs within =
    let tasks = c.in-Ok-service_tasks.tasks in
    let many : length tasks.clients.items ≡ length c.in-Ok.book.opening.clients = as_counted (λ t. t.client) tasks.clients.items (length c.in-Ok.book.opening.clients) c.in-Ok-service_tasks.ensures.all_clients in
    let same : length c.in-Ok.book.opening.clients ≡ length c.args.world.clients = ap (λ (w : ExactWorld). length w.clients) c.in-Ok.ensures.ok.opening in
    omega (arith, many, same, c.keeping.ensures.few_clients)

pub opened_service-shared-requires-clause-clients : goal.opened_service-shared-requires-clause-clients
opened_service-shared-requires-clause-clients g c κs within =
    let tasks = c.in-Ok-service_tasks.tasks in
    let same = ap (λ (w : ExactWorld). w.ballots) (c.in-Ok.ensures.ok.opening ∙ c.requires.may.world) in
    subst (λ l. All (λ t. IsClientBerth c.service_tasks.new.book.table t.client l t.berth (g.S.StableRecord.finds t.stable)) tasks.clients.items) same c.in-Ok-service_tasks.ensures.clients

pub opened_service-shared-requires-clause-all_clients : goal.opened_service-shared-requires-clause-all_clients
opened_service-shared-requires-clause-all_clients g c κs within =
    let tasks = c.in-Ok-service_tasks.tasks in
    let count = length c.in-Ok.book.opening.clients in
    c.in-Ok-service_tasks.ensures.all_clients ∙ ap (range_with_len 1) (sym (as_counted (λ t. t.client) tasks.clients.items count c.in-Ok-service_tasks.ensures.all_clients))

pub told-requires : goal.told-requires
told-requires g c =
    let ends = c.in-Ok-served.served.clients.items in
    let of_clients = subst (λ r. IfOk r (λ s. AreSessionEnds g.S.StableRecord.finds c.service_tasks.new.book.table (length c.in-Ok-service_tasks.tasks.clients.items) s.clients.items)) c.in-Ok-served.is c.opened_service-shared.ensures.clients in
    subst (λ b. All (λ e. e.berth.table ≡ b) ends) (sym c.opened_service-shared.ensures.table) of_clients.tables

pub returns-clause-faults : goal.returns-clause-faults
returns-clause-faults g c =
    let w = c.args.world in
    let tasks = c.in-Ok-service_tasks.tasks in
    let nodes = c.in-Ok-served.served.nodes.items in
    let ends = c.in-Ok-served.served.clients.items in
    let of_nodes = subst (λ r. IfOk r (λ s. AreNodeEnds (map (λ t. t.node) tasks.nodes.items) s.nodes.items)) c.in-Ok-served.is c.opened_service-shared.ensures.nodes in
    let of_clients = subst (λ r. IfOk r (λ s. AreSessionEnds g.S.StableRecord.finds c.service_tasks.new.book.table (length tasks.clients.items) s.clients.items)) c.in-Ok-served.is c.opened_service-shared.ensures.clients in
    let opening = c.in-Ok.ensures.ok.opening in
    let many : length tasks.clients.items ≡ length w.clients =
    as_counted (λ t. t.client) tasks.clients.items (length c.in-Ok.book.opening.clients) c.in-Ok-service_tasks.ensures.all_clients ∙ ap (λ (v : ExactWorld). length v.clients) opening in
    let named = of_clients.clients ∙ ap (range_with_len 1) many in
    let order = subst InOrder (sym named) (range_in_order 1 (length w.clients)) in
    let within = subst (All (λ n. (1 ≤ n) × (n < 1 + length w.clients))) (sym named) (range_within 1 (length w.clients)) in
    faults_in_order (λ e. e.client) (λ e. e.fault) w nodes ends c.in-Ok-told.end.faults.items
    (of_nodes.named ∙ c.in-Ok-service_tasks.ensures.all_nodes ∙ ap (λ (v : ExactWorld). range_with_len 1 (length v.nodes)) opening) of_nodes.each order within c.in-Ok-told.ensures.faults

pub returns-clause-records : goal.returns-clause-records
returns-clause-records g c =
    let w = c.args.world in
    let tasks = c.in-Ok-service_tasks.tasks in
    let book = c.opened_service-shared.result.0.book in
    let nodes = c.in-Ok-served.served.nodes.items in
    let ends = c.in-Ok-served.served.clients.items in
    let faults = c.in-Ok-told.end.faults.items in
    let of_clients = subst (λ r. IfOk r (λ s. AreSessionEnds g.S.StableRecord.finds c.service_tasks.new.book.table (length tasks.clients.items) s.clients.items)) c.in-Ok-served.is c.opened_service-shared.ensures.clients in
    let many : length tasks.clients.items ≡ length w.clients =
    as_counted (λ t. t.client) tasks.clients.items (length c.in-Ok.book.opening.clients) c.in-Ok-service_tasks.ensures.all_clients ∙ ap (λ (v : ExactWorld). length v.clients) c.in-Ok.ensures.ok.opening in
    let back = ap (map (λ r. (r.0, g.S.StableRecord.finds r.1))) c.in-Ok-told.ensures.records ∙ image_of_image (λ e. (e.client, e.stable)) (λ r. (r.0, g.S.StableRecord.finds r.1)) ends in
    subst (λ (b : BookValue). AreRecords w b.world faults (map (λ r. (r.0, g.S.StableRecord.finds r.1)) c.in-Ok-told.end.records.items)) (sym c.in-Ok-told.ensures.book)
    (subst (λ rs. AreRecords w book.world faults rs) (sym back)
    (are_records (λ e. e.client) (λ e. e.fault) (λ e. e.berth) (λ e. g.S.StableRecord.finds e.stable) w book ends faults (filter_map node_fault nodes) (length tasks.clients.items) (sym many)
    of_clients.clients of_clients.each c.in-Ok-told.ensures.tied c.in-Ok-told.ensures.faults))
