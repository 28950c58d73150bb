use Rattle.std.proofs.Common.{string_bytes}
use Rattle.service_status.proofs.ShowingFacts.{shows_folder}
use Rattle.service_status.proofs.showing.show_folder.Goals as goal

pub returns-in-Ok : goal.returns-in-Ok
returns-in-Ok g c =
    shows_folder c.args.nodes c.args.clients (string_bytes c.in-Ok.text) c.as_str.result.now
    (record { old = g.W.Write.contents c.args.output.now; new = g.W.Write.contents c.show.new.output; errors_old = g.E.Write.contents c.args.errors.now; errors_new = g.E.Write.contents c.show.new.errors }) c.show.result
    c.in-Ok.ensures c.as_str.ensures.value c.show.ensures
