use Rattle.std.proofs.Common.{sym}
use Rattle.toml.specs.View.{table_view}
use Rattle.world_settings.proofs.WishFacts.{among}
use Rattle.world_settings.proofs.settings.values_of.Goals as goal

pub returns-clause-wishes : goal.returns-clause-wishes
returns-clause-wishes c =
    let wishes = rw c.count.ensures.count at c.in_ok-wishes.ensures in
    among c.in_ok-settings.settings.clients c.in_ok-settings.settings.ballots (table_view c.args.table.now) c.in_ok-run.run' c.in_ok-wishes.wishes.items (sym c.in_ok-run.ensures) wishes
