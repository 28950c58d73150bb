use Rattle.std.specs.Prelude.{IfOk, map}
use Rattle.std.proofs.Common.{◌≡◌, sym, ◌∙◌, subst}
use denote.Param.Send.{sendable}
use denote.Param.Sent.{Sends}
use Rattle.book_recorders.proofs.Sending.{book_send}
use Rattle.node_threads.specs.Ends.{AreNodeEnds, AreClientEnds, with_wishes}
use Rattle.history_book.specs.Books.{BookValue}
use Rattle.node_threads.specs.Tasks.{IsClientTask}
use Rattle.node_threads.specs.Wishes.{AllDidAsWished}
use Rattle.node_threads.proofs.Telling.{faults_are}
use Rattle.node_threads.proofs.Wishing.{all_did, tables_are, tasks_of_book}
use Rattle.node_threads.proofs.running.run_all.Goals as goal

pub opened-shared-requires-send-K : goal.opened-shared-requires-send-K
opened-shared-requires-send-K g c κs = let policies : Sends g.dyn-2.0 = g.dyn-2.2 in search (sendable, book_send) depth 20

pub returns-clause-faults : goal.returns-clause-faults
returns-clause-faults g c =
    let tasks = c.in-Ok-tasks_of.tasks in
    let ends = c.in-Ok-ended.ends in
    let of_nodes = subst (λ r. IfOk r (λ e. AreNodeEnds (map (λ t. t.node) tasks.nodes.items) e.nodes.items)) c.in-Ok-ended.is c.opened-shared.ensures.nodes in
    let of_clients = subst (λ r. IfOk r (λ e. AreClientEnds (map (λ t. with_wishes t.client t.wishes.items t.berth.table) tasks.clients.items) e.clients.items)) c.in-Ok-ended.is c.opened-shared.ensures.clients in
    faults_are (λ t. t.node) (λ t. t.client) (λ t. t.wishes.items) (λ t. t.berth.table) c.args.world c.in-Ok.book.opening tasks.nodes.items tasks.clients.items ends.nodes.items ends.clients.items c.in-Ok-faults_of.faults.items
    c.in-Ok.ensures.ok.opening c.in-Ok-tasks_of.ensures.all_nodes c.in-Ok-tasks_of.ensures.all_clients of_nodes of_clients c.in-Ok-faults_of.ensures

pub tie_all-requires : goal.tie_all-requires
tie_all-requires g c =
    let tasks = c.in-Ok-tasks_of.tasks in
    let ends = c.in-Ok-ended.ends in
    let of_clients = subst (λ r. IfOk r (λ e. AreClientEnds (map (λ t. with_wishes t.client t.wishes.items t.berth.table) tasks.clients.items) e.clients.items)) c.in-Ok-ended.is c.opened-shared.ensures.clients in
    tables_are (λ t. t.client) (λ t. t.wishes.items) (λ t. t.berth.table) c.opened-shared.result.0.book.table tasks.clients.items ends.clients.items of_clients
    (tasks_of_book (λ t. t.berth.table) _ c.opened-shared.result.0.book.table
    (λ b t. IsClientTask b t.client t.ballots t.wishes.items t.berth ((goal.StableRecord-dyn g (t.stable.vtable, t.stable.value)).finds t.stable.value)) tasks.clients.items
    (λ t is. is.berth.table) c.opened-shared.ensures.table c.in-Ok-tasks_of.ensures.clients)

pub returns-clause-wished : goal.returns-clause-wished
returns-clause-wished g c =
    let tasks = c.in-Ok-tasks_of.tasks in
    let ends = c.in-Ok-ended.ends in
    let book = c.opened-shared.result.0.book in
    let of_clients = subst (λ r. IfOk r (λ e. AreClientEnds (map (λ t. with_wishes t.client t.wishes.items t.berth.table) tasks.clients.items) e.clients.items)) c.in-Ok-ended.is c.opened-shared.ensures.clients in
    let opening : book.opening ≡ c.args.world = c.opened-shared.ensures.opening ∙ c.in-Ok-tasks_of.ensures.opening ∙ c.in-Ok.ensures.ok.opening in
    subst (λ (b : BookValue). AllDidAsWished c.args.world b.history c.args.wishes.now c.in-Ok-faults_of.faults.items) (sym c.tie_all.ensures.book)
    (all_did (λ t. t.client) (λ t. t.wishes.items) (λ t. t.berth.table) c.args.world c.in-Ok.book.opening book c.args.wishes.now tasks.clients.items ends.clients.items c.in-Ok-faults_of.faults.items _
    opening c.in-Ok.ensures.ok.opening c.in-Ok-tasks_of.ensures.all_clients of_clients c.in-Ok-tasks_of.ensures.own c.tie_all.ensures.tied c.in-Ok-faults_of.ensures)
