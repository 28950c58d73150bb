use Rattle.std.proofs.Common.{◌≡◌, ◌+◌, ◌<◌, length, sym, ◌∙◌, refl, subst, arith}
use Rattle.own_threads.specs.Tasks.{IsClientTask}
use Rattle.own_threads.proofs.Lists.{first_client, rest_clients, one_fewer, all_and_one}
use Rattle.own_threads.proofs.Places.{one_more_made, one_more_linked, all_linked}
use Rattle.own_threads.proofs.Promises.{all_started}
use Rattle.own_threads.proofs.tasks.client_tasks.Goals as goal

pub unreachable-requires : goal.unreachable-requires
unreachable-requires g c =
    let many : c.len-count.result ≡ length c.args.starts.items = c.len-count.ensures ∙ c.args.starts.ok.0 in
    c.in_default.ensures (omega arith, omega (arith, many, c.loop-place-test.true, c.requires.few))

pub loop-place-preserved : goal.loop-place-preserved
loop-place-preserved g c =
    let some : 0 < length c.loop-place.starts.items = omega (arith, c.loop-place-test.true, c.loop-place.invariant.starts) in
    let linked : 0 < length c.loop-place.links.items = omega (arith, c.loop-place-test.true, c.loop-place.invariant.links) in
    let named : c.loop-place.place + 1 ≡ c.in-Some.client = sym c.in-Some.ensures.1 in
    let start = c.remove-recorder.result in
    let first = first_client (λ s. (g.C.Recorder.own_log s.recorder, g.S.StableRecord.finds s.stable)) c.args.ballots (c.loop-place.place + 1) c.loop-place.starts.items start
    c.loop-place.invariant.ready some c.remove-recorder.ensures.value in
    record {
      ready = rest_clients (λ s. (g.C.Recorder.own_log s.recorder, g.S.StableRecord.finds s.stable)) c.args.ballots (c.loop-place.place + 1) c.loop-place.starts.items c.remove-recorder.new.self.items
          c.loop-place.invariant.ready some c.remove-recorder.ensures.items;
      starts = one_fewer c.loop-place.starts.items c.remove-recorder.new.self.items c.loop-place.place c.len-count.result c.remove-recorder.ensures.items some c.loop-place.invariant.starts;
      links = one_fewer c.loop-place.links.items c.remove-link.new.self.items c.loop-place.place c.len-count.result c.remove-link.ensures.items linked c.loop-place.invariant.links;
      tasks = all_and_one (λ t. IsClientTask t.client t.ballots (g.C.Recorder.own_log t.recorder) (g.S.StableRecord.finds t.stable)) c.loop-place.tasks.items c.push.new.self.items _ c.loop-place.invariant.tasks
          (subst (λ n. IsClientTask n c.args.ballots (g.C.Recorder.own_log start.recorder) (g.S.StableRecord.finds start.stable)) named first) c.in-Ok.ensures.items;
      begun = one_more_made (λ t. g.C.ActorRecorder.beginning t.recorder) (λ s. g.C.ActorRecorder.beginning s.recorder) c.loop-place.tasks.items c.push.new.self.items _ c.loop-place.starts.items c.remove-recorder.new.self.items _ start
          c.loop-place.invariant.begun c.in-Ok.ensures.items refl some c.remove-recorder.ensures.value c.remove-recorder.ensures.items;
      linked = one_more_linked (λ t. t.link) c.loop-place.tasks.items c.push.new.self.items _ c.loop-place.links.items c.remove-link.new.self.items c.args.links.items c.remove-link.result
          c.loop-place.invariant.linked c.in-Ok.ensures.items refl linked c.remove-link.ensures.value c.remove-link.ensures.items;
    }

pub returns-clause-begun : goal.returns-clause-begun
returns-clause-begun g c =
    all_started (λ t. g.C.ActorRecorder.beginning t.recorder) (λ s. g.C.ActorRecorder.beginning s.recorder) c.loop-place.tasks.items c.loop-place.starts.items _ c.loop-place.invariant.begun
    (omega (arith, c.loop-place-test.false, c.loop-place.invariant.starts))

pub returns-clause-links : goal.returns-clause-links
returns-clause-links g c = all_linked (λ t. t.link) c.loop-place.tasks.items c.loop-place.links.items c.args.links.items (omega (arith, c.loop-place-test.false, c.loop-place.invariant.links)) c.loop-place.invariant.linked
