use Rattle.std.proofs.Common.{sym, subst}
use Rattle.std.proofs.lemmas.Result.{on_ok_weaker}
use Rattle.stable_record.specs.Lines.{line_in, Indexes, AreFew, or_none}
use Rattle.stable_record.proofs.LineFacts.{indexed-few, indexes-joined}
use Rattle.stable_record.proofs.resource_index.ResourceIndex.add.Goals as goal

pub join-requires : goal.join-requires
join-requires c =
    subst (λ lines. AreFew (or_none (line_in lines c.in-Some.live.resource))) (sym c.self.view_is)
    (indexed-few c.args.self.now c.requires.0 c.requires.1 c.requires.2 c.in-Some.live.resource)

pub returns-in-Some : goal.returns-in-Some
returns-in-Some c =
    on_ok_weaker c.join.result (λ joined es h.
    indexes-joined c.self.inside.map.entries c.join.new.lines.entries c.args.entry.now c.in-Some.live c.in-Some.is joined es
    (subst (λ lines. Indexes lines es) (sym c.self.view_is) h)) c.join.ensures.joined
