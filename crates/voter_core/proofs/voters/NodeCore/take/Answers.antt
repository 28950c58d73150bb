use Rattle.std.proofs.Common.{◌≡◌, ◌≤◌, ◌+◌, ap, ◌∙◌, subst}
use Rattle.std.specs.Vec.{vec_capacity}
use Rattle.voter_core.specs.Freed.{waiting_for}
use Rattle.lock_model.specs.ExactDecisions.{changes}
use Rattle.voter_core.specs.Voters.{Voter, taken, state_of, state_after}
use Rattle.voter_core.proofs.ChangeFacts.{taken-is}
use Rattle.voter_core.proofs.voters.NodeCore.take.Goals as goal

pub returns-clause-changes : goal.returns-clause-changes
returns-clause-changes g c =
    c.stays_a_record.ensures.changes c.in-Ok-decide.changed c.in-Ok-decide.ensures.changed
    ∙ ap (λ (v : Voter). changes v.problem v.entries c.args.message.now) c.self.view_is

pub returns-clause-exact : goal.returns-clause-exact
returns-clause-exact g c =
    let m = c.args.message.now in
    let s = c.self.inside in
    let p = s.station.problem in
    let es = s.station.entries in
    let same : c.in-Ok-decide.changed ≡ changes p es m = c.stays_a_record.ensures.changes c.in-Ok-decide.changed c.in-Ok-decide.ensures.changed in
    taken-is s.id p es (state_of s.about s.told.items) m c.decide.new.entries _ c.in-Ok-decide.ensures.entries
    (c.phase_after-self-inside.ensures c.decide.new.replies.items ∙ ap (λ b. state_after b c.decide.new.replies.items) same ∙ ap (state_after (changes p es m)) c.in-Ok-decide.ensures.replies)
    ∙ ap (λ (v : Voter). taken v m) c.self.view_is

pub room_for-requires : goal.room_for-requires
room_for-requires g c = (c.self.inside.station.entries, c.self.invariant.indexed, c.is_caused.ensures.few)

pub decide-requires-clause-room : goal.decide-requires-clause-room
decide-requires-clause-room g c =
    let es = c.self.inside.station.entries in
    subst (λ f. waiting_for f es + 1 ≤ vec_capacity c.in-Ok.replies) c.freed_by-freed.ensures (c.in-Ok.ensures.room es c.self.invariant.indexed)
