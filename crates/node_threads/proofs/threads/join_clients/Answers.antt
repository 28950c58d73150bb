use Rattle.std.proofs.Common.{◌≡◌, length, vec_len, sym, ◌∙◌, arith}
use Rattle.node_threads.specs.Ends.{client_in, with_wishes}
use Rattle.node_threads.proofs.Promises.{same_by_place}
use Rattle.node_threads.proofs.threads.join_clients.Goals as goal

-- each thread's end is what was promised of it
pub returns : goal.returns
returns g c =
    let each = c.in-Ok.ensures.each in
    let many : vec_len c.args.threads ≡ length c.args.threads.items = c.args.threads.ok.0 in
    let long : length c.in-Ok.ends.items ≡ length c.args.threads.items = sym c.in-Ok.ends.ok.0 ∙ c.in-Ok.ensures.len ∙ many in record {
      ends = record {
        named = same_by_place client_in (λ t. with_wishes t.promise.client t.promise.wishes.value.items t.promise.berth.value.table) c.in-Ok.ends.items c.args.threads.items long
            (λ i d within. let at = (each i d (omega (arith, many))).1 in (at.handle, at.handle_is, at.kept.0));
        each = λ i d within. (each i d (omega (arith, many, long))).1.kept.1;
      };
      err = tt;
    }
