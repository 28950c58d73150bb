use Rattle.node_threads.proofs.Ready.{client_ready}
use Rattle.node_threads.proofs.berths.client_task.Goals as goal

pub returns-clause-task : goal.returns-clause-task
returns-clause-task g c =
    client_ready c.args.client c.args.ballots c.in_ok-wishes.wishes.items _ c.args.book.now _ c.in_ok-berth.berth c.requires.ready c.in_ok-berth.ensures.given c.requires.ballots c.args.wishes.now c.in_ok-wishes.ensures.own c.requires.few c.requires.placed
