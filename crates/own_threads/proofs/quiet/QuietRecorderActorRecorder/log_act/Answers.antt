use Rattle.std.proofs.Common.{◌≡◌, true, None, sym, subst}
use Rattle.world_model.specs.Parts.{is_own}
use Rattle.event_recorders.specs.OwnLogs.{OwnLog}
use Rattle.own_recorders.specs.OwnJournals.{opening_of}
use Rattle.own_threads.proofs.RecorderFacts.{quiet_on}
use Rattle.own_threads.proofs.quiet.QuietRecorderActorRecorder.log_act.Goals as goal

-- the log goes on by the turn that the actor took
pub invariant_of-self-2 : goal.invariant_of-self-2
invariant_of-self-2 g c =
    let who = g.K.OwnActor.actor in
    let ballots = g.K.OwnActor.ballots in
    let part = g.K.OwnActor.part in
    let before = c.self.inside.actor in
    let after = c.act.new.self in
    let own : is_own (who before) c.args.event ≡ true = subst (λ (l : OwnLog). is_own l.actor c.args.event ≡ true) (sym c.self.view_is) c.requires.own in
    quiet_on (who before) (who after) (ballots before) (ballots after) (opening_of part c.self.inside.opened.items) c.self.inside.made.items c.and-self-inside.result.items (part before) (part after) c.args.event None c.in-Ok.done
    c.in-Ok.ensures.actor c.in-Ok.ensures.ballots c.and-self-inside.ensures c.self.invariant own c.in-Ok.ensures.turned
