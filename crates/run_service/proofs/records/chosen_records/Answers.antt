use Rattle.run_service.specs.Empty.{empty_client}
use Rattle.run_service.proofs.ListFacts.{first_ones, then_ones}
use Rattle.run_service.proofs.records.chosen_records.Goals as goal

pub returns : goal.returns
returns g c = then_ones _ _ _ _ _ _ c.in_ok-append.ensures.items c.of_nodes-all.ensures (first_ones _ _ _ empty_client c.args.clients _ c.front-others.ensures c.requires.clients c.requires.few_clients)
