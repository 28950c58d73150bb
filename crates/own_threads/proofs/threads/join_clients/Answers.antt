use Rattle.std.proofs.Common.{◌≡◌, length, vec_len, sym, ◌∙◌, arith}
use Rattle.own_threads.specs.Ends.{IsClientEnd}
use Rattle.own_threads.proofs.Promises.{same_by_place, each_of_images, image_of_image}
use Rattle.own_threads.proofs.threads.join_clients.Goals as goal

-- each thread's end is what was promised of it
pub returns : goal.returns
returns g c =
    let log = g.C.Recorder.own_log in
    let began = g.C.ActorRecorder.beginning in
    let finds = g.S.StableRecord.finds in
    let each = c.in-Ok.ensures.each in
    let many : vec_len c.args.threads ≡ length c.args.threads.items = c.args.threads.ok.0 in
    let long : length c.in-Ok.ends.items ≡ length c.args.threads.items = sym c.in-Ok.ends.ok.0 ∙ c.in-Ok.ensures.len ∙ many in record {
      ends = record {
        began = image_of_image (λ e. (log e.recorder, began e.recorder, e.fault, finds e.stable)) (λ p. p.1) c.in-Ok.ends.items
            ∙ same_by_place (λ e. began e.recorder) (λ t. began t.promise.recorder.value) c.in-Ok.ends.items c.args.threads.items long
            (λ i d within. let at = (each i d (omega (arith, many))).1 in (at.handle, at.handle_is, at.kept.0));
        each = each_of_images (λ e. (log e.recorder, began e.recorder, e.fault, finds e.stable)) (λ p. IsClientEnd p.0 p.1 p.2 p.3) c.in-Ok.ends.items
            (λ i d within. (each i d (omega (arith, many, long))).1.kept.1);
      };
      err = tt;
    }
