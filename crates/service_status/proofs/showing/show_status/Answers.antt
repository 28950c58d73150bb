use Rattle.service_status.proofs.ShowingFacts.{shows_status}
use Rattle.service_status.proofs.showing.show_status.Goals as goal

pub returns : goal.returns
returns g c =
    shows_status c.args.service.now c.nodes-nodes.result c.clients-clients.result
    (record { old = g.W.Write.contents c.args.output.now; new = g.W.Write.contents c.show_folder.new.output; errors_old = g.E.Write.contents c.args.errors.now; errors_new = g.E.Write.contents c.show_folder.new.errors }) c.show_folder.result
    c.nodes-nodes.ensures.nodes c.clients-clients.ensures.clients c.show_folder.ensures
