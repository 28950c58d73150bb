use Rattle.std.proofs.Common.{◌≡◌, true, sym, subst, inr}
use Rattle.world_model.specs.Parts.{is_own}
use Rattle.event_recorders.specs.OwnLogs.{kept_in}
use Rattle.own_recorders.specs.OwnJournals.{IsRead, OwnKeeper, HasLogged, HasTorn, IsLine, held_before, line_behind, next_line, opening_of}
use Rattle.own_recorders.proofs.KeepFacts.{breaks, goes_on, keeper, logged, torn}
use Rattle.own_recorders.proofs.recorders.OwnRecorder.add.Goals as goal

pub invariant_of-self-in_default-write_text : goal.invariant_of-self-in_default-write_text
invariant_of-self-in_default-write_text g c =
    let who = g.K.OwnActor.actor c.self.inside.actor in
    let who' = g.K.OwnActor.actor c.take_turn.new.actor in
    let b = g.K.OwnActor.ballots c.self.inside.actor in
    let b' = g.K.OwnActor.ballots c.take_turn.new.actor in
    let o = opening_of g.K.OwnActor.part c.self.inside.opened.items in
    let events = c.self.inside.made.items in
    let before = held_before g.W.Write.contents c.self.inside.opened.items in
    let old = g.W.Write.contents c.self.inside.journal in
    let now = g.W.Write.contents c.write_text.new.writer in
    let stuck = c.self.inside.is_stuck in
    let begun = c.self.inside.is_begun in
    let p = g.K.OwnActor.part c.self.inside.actor in
    let p' = g.K.OwnActor.part c.take_turn.new.actor in
    let e = c.args.event in
    let read = c.args.read in
    let line = c.as_bytes.result.now in
    let done = c.in-Ok-take_turn.done in
    let text : IsLine (line_behind who (kept_in o) events e read) line =
    subst (λ (k : OwnKeeper). IsLine (next_line k.log e read) line) (sym c.self.view_is) (rw c.as_bytes.ensures.value c.in-Ok.ensures) in
    breaks who who' b b' o events before old now stuck begun p p' e read line c.take_turn.ensures.actor c.take_turn.ensures.ballots c.self.invariant c.if-self.false text c.in_default-write_text.ensures.text

pub returns-in_default-write_text : goal.returns-in_default-write_text
returns-in_default-write_text g c =
    let who = g.K.OwnActor.actor c.self.inside.actor in
    let who' = g.K.OwnActor.actor c.take_turn.new.actor in
    let b = g.K.OwnActor.ballots c.self.inside.actor in
    let b' = g.K.OwnActor.ballots c.take_turn.new.actor in
    let o = opening_of g.K.OwnActor.part c.self.inside.opened.items in
    let events = c.self.inside.made.items in
    let before = held_before g.W.Write.contents c.self.inside.opened.items in
    let old = g.W.Write.contents c.self.inside.journal in
    let now = g.W.Write.contents c.write_text.new.writer in
    let stuck = c.self.inside.is_stuck in
    let begun = c.self.inside.is_begun in
    let p = g.K.OwnActor.part c.self.inside.actor in
    let p' = g.K.OwnActor.part c.take_turn.new.actor in
    let e = c.args.event in
    let read = c.args.read in
    let line = c.as_bytes.result.now in
    let done = c.in-Ok-take_turn.done in
    let text : IsLine (line_behind who (kept_in o) events e read) line =
    subst (λ (k : OwnKeeper). IsLine (next_line k.log e read) line) (sym c.self.view_is) (rw c.as_bytes.ensures.value c.in-Ok.ensures) in
    inr (subst (λ (k : OwnKeeper). HasTorn k e read (keeper who' b' o events before now true)) c.self.view_is
    (torn who who' b b' o events before old now stuck begun p p' e read line c.take_turn.ensures.actor c.take_turn.ensures.ballots c.self.invariant c.if-self.false text c.in_default-write_text.ensures.text))

pub invariant_of-self-2 : goal.invariant_of-self-2
invariant_of-self-2 g c =
    let who = g.K.OwnActor.actor c.self.inside.actor in
    let who' = g.K.OwnActor.actor c.take_turn.new.actor in
    let b = g.K.OwnActor.ballots c.self.inside.actor in
    let b' = g.K.OwnActor.ballots c.take_turn.new.actor in
    let o = opening_of g.K.OwnActor.part c.self.inside.opened.items in
    let events = c.self.inside.made.items in
    let before = held_before g.W.Write.contents c.self.inside.opened.items in
    let old = g.W.Write.contents c.self.inside.journal in
    let now = g.W.Write.contents c.write_text.new.writer in
    let stuck = c.self.inside.is_stuck in
    let begun = c.self.inside.is_begun in
    let p = g.K.OwnActor.part c.self.inside.actor in
    let p' = g.K.OwnActor.part c.take_turn.new.actor in
    let e = c.args.event in
    let read = c.args.read in
    let line = c.as_bytes.result.now in
    let done = c.in-Ok-take_turn.done in
    let text : IsLine (line_behind who (kept_in o) events e read) line =
    subst (λ (k : OwnKeeper). IsLine (next_line k.log e read) line) (sym c.self.view_is) (rw c.as_bytes.ensures.value c.in-Ok.ensures) in
    let events' = c.and-self-inside.result.items in
    let own : is_own who e ≡ true = subst (λ (k : OwnKeeper). is_own k.log.actor e ≡ true) (sym c.self.view_is) c.requires.own in
    let good : IsRead read = c.requires.good in
    goes_on who who' b b' o events events' before old now stuck begun p p' e read line done c.take_turn.ensures.actor c.take_turn.ensures.ballots c.and-self-inside.ensures c.self.invariant c.if-self.false text good own
    c.in-Ok-take_turn.ensures.turned c.in-Ok-write_text.ensures.text

pub returns : goal.returns
returns g c =
    let who = g.K.OwnActor.actor c.self.inside.actor in
    let who' = g.K.OwnActor.actor c.take_turn.new.actor in
    let b = g.K.OwnActor.ballots c.self.inside.actor in
    let b' = g.K.OwnActor.ballots c.take_turn.new.actor in
    let o = opening_of g.K.OwnActor.part c.self.inside.opened.items in
    let events = c.self.inside.made.items in
    let before = held_before g.W.Write.contents c.self.inside.opened.items in
    let old = g.W.Write.contents c.self.inside.journal in
    let now = g.W.Write.contents c.write_text.new.writer in
    let stuck = c.self.inside.is_stuck in
    let begun = c.self.inside.is_begun in
    let p = g.K.OwnActor.part c.self.inside.actor in
    let p' = g.K.OwnActor.part c.take_turn.new.actor in
    let e = c.args.event in
    let read = c.args.read in
    let line = c.as_bytes.result.now in
    let done = c.in-Ok-take_turn.done in
    let text : IsLine (line_behind who (kept_in o) events e read) line =
    subst (λ (k : OwnKeeper). IsLine (next_line k.log e read) line) (sym c.self.view_is) (rw c.as_bytes.ensures.value c.in-Ok.ensures) in
    let events' = c.and-self-inside.result.items in
    subst (λ (k : OwnKeeper). HasLogged k e read done (keeper who' b' o events' before now stuck)) c.self.view_is
    (logged who who' b b' o events events' before old now stuck begun p p' e read line done c.take_turn.ensures.actor c.take_turn.ensures.ballots c.and-self-inside.ensures c.self.invariant c.if-self.false text
    c.in-Ok-take_turn.ensures.turned c.in-Ok-write_text.ensures.text)
