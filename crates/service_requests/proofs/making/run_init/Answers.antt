use Rattle.std.proofs.Common.{List, ℕ, Option, option_map, subst, sym}
use Rattle.std.specs.Borrow.{Bor}
use Rattle.service_requests.specs.Requests.{RunsInit}
use Rattle.service_requests.proofs.making.run_init.Goals as goal

pub returns-in-None : goal.returns-in-None
returns-in-None g c =
    subst (λ (o : Option (Bor (List ℕ))). RunsInit (option_map (λ t. t.now) o) (g.R.Read.remaining c.args.reader) (g.E.Write.contents c.args.errors.now) (g.E.Write.contents c.make_read.new.errors) c.make_read.result)
    (sym c.in-None.is) c.make_read.ensures
