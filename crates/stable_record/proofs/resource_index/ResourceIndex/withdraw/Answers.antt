use Rattle.std.proofs.Common.{sym, subst, Some}
use Rattle.std.specs.Option.{option_map}
use Rattle.stable_record.specs.Indexing.{IndexesWith, without_last}
use Rattle.stable_record.specs.Lines.{line_in}
use Rattle.stable_record.proofs.IndexFacts.{puts-settled, indexes-withdrawn}
use Rattle.stable_record.proofs.resource_index.ResourceIndex.withdraw.Goals as goal

pub returns : goal.returns
returns c client es h =
    let x = c.args.resource.now in
    let old = c.self.inside.map.entries in
    let new = c.drop_empty.new.lines.entries in
    indexes-withdrawn old new client x es (subst (λ lines. IndexesWith (Some (client, x)) lines es) (sym c.self.view_is) h)
    (puts-settled x (option_map without_last (line_in old x)) old c.withdraw.new.lines.entries new c.withdraw.ensures c.drop_empty.ensures)
