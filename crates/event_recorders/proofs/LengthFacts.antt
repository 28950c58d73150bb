-- How long records are.
use Rattle.std.proofs.Common.{◌*◌, ◌≤◌, List, [], ◌∷◌, length, Option, Some, None, arith}
use Rattle.std.proofs.Math.ListN.{length-append}
use Rattle.std.specs.Prelude.{IfSome}
use Rattle.std.specs.List.{flat_map, AllByRecursion}
use Rattle.lock_model.specs.declared.entries.Entry.{Entry}
use Rattle.lock_model.specs.declared.entries.Live.{Live}
use Rattle.stable_record.specs.Records.{live_bytes, entry_bytes, IsTicketOf, IsEntry}
use Rattle.event_recorders.specs.Laws.{NodeRecordsFit, ClientRecordsFit}

live-fits : (o : Option Live) → IfSome o IsTicketOf → length (live_bytes o) ≤ 43
live-fits None is = omega arith
live-fits (Some l) is = omega (arith, is.resource.fits)

entry-fits : (e : Entry) → IsEntry e → length (entry_bytes e) ≤ 55
entry-fits e is = omega (arith, live-fits e.live is.live)

entries-fit : (entries : List Entry) → AllByRecursion IsEntry entries → length (flat_map entry_bytes entries) ≤ 55 * length entries
entries-fit [] all = omega arith
entries-fit (e ∷ entries) all = omega (arith, length-append (entry_bytes e) (flat_map entry_bytes entries), entry-fits e all.0, entries-fit entries all.1)

pub node-records-fit : NodeRecordsFit
node-records-fit r is = omega (arith, is.few, entries-fit r.entries is.entries)

pub client-records-fit : ClientRecordsFit
client-records-fit attempt = omega arith
