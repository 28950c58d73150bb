use Rattle.std.proofs.Common.{◌≡◌, ◌-◌, [], Bool, Some, None, IfSome, cond, refl, sym, ap, subst, ◌∙◌, arith}
use Rattle.lock_model.specs.declared.entries.Entry.{Entry}
use Rattle.lock_model.specs.declared.entries.Live.{Live}
use Rattle.lock_model.specs.declared.entries.Status.TheVariants.{Waiting, Holding}
use Rattle.lock_model.specs.ExactStations.{knows, entry_of}
use Rattle.std.specs.DynBox.{dyn_box_with}
use Rattle.stable_record.specs.Indexing.{IndexesWith}
use Rattle.voter_core.specs.Freed.{freed}
use Rattle.voter_core.proofs.EndFacts.{knows-ended}
use Rattle.voter_core.proofs.ChangeFacts.{knows-settle, note-reader, note-writer, asked-is}
use Rattle.voter_core.proofs.FreedFacts.{others-freed, waiting-ended}
use Rattle.voter_core.proofs.TakingFacts.{taken-none, taken-entries, taken-replies}
use Rattle.voter_core.proofs.deciding.take_up.Goals as goal

pub waiting_beside-waiting-requires : goal.waiting_beside-waiting-requires
waiting_beside-waiting-requires g c = (c.args.ticket.now.client, c.make_way.new.entries, c.in_ok-make_way.ensures.announced)

pub settle-requires-clause-others : goal.settle-requires-clause-others
settle-requires-clause-others g c =
    let t = c.args.ticket.now in
    others-freed c.args.problem t.client (t.attempt - 1) c.args.entries.now c.freed-freed.result c.make_way.new.entries c.in_ok-make_way.ensures.once c.requires.caused
    (c.freed-freed.ensures.freed ∙ ap (λ n. freed (n - 1) (entry_of c.args.entries.now c.args.ticket.now.client)) c.get-last.ensures.number) c.in_ok-make_way.ensures.entries

pub settle-requires-clause-waiting : goal.settle-requires-clause-waiting
settle-requires-clause-waiting g c = c.waiting_beside-waiting.ensures c.args.ticket.now.client c.make_way.new.entries c.in_ok-make_way.ensures.announced

pub settle-requires-clause-indexed : goal.settle-requires-clause-indexed
settle-requires-clause-indexed g c = (Some (c.args.ticket.now.client, c.args.ticket.now.resource), c.in_ok-make_way.ensures.announced)

pub settle-requires-clause-room : goal.settle-requires-clause-room
settle-requires-clause-room g c =
    let es = c.args.entries.now in
    let w = waiting-ended c.args.ticket.now.client (c.args.ticket.now.attempt - 1) es c.freed-freed.result c.make_way.new.entries c.in_ok-make_way.ensures.once
    (c.freed-freed.ensures.freed ∙ ap (λ n. freed (n - 1) (entry_of es c.args.ticket.now.client)) c.get-last.ensures.number) c.in_ok-make_way.ensures.entries in
    let same = c.waiting_beside-waiting.ensures c.args.ticket.now.client c.make_way.new.entries c.in_ok-make_way.ensures.announced in
    omega (arith, w, same, c.push_reserved.ensures.len, c.push_reserved.ensures.capacity, c.requires.room, c.requires.none.1)

pub put_last-requires-clause-known : goal.put_last-requires-clause-known
put_last-requires-clause-known g c =
    let t = c.args.ticket.now in
    ap (λ (e : Entry). knows e.client c.settle.new.entries) c.new_entry.ensures ∙ ap (knows t.client) c.settle.ensures.entries ∙ knows-settle c.args.problem t.client [] c.make_way.new.entries
    ∙ ap (knows t.client) c.in_ok-make_way.ensures.entries ∙ knows-ended t.client (t.attempt - 1) c.args.entries.now

pub put_last-requires-clause-none : goal.put_last-requires-clause-none
put_last-requires-clause-none g c =
    subst (λ (e : Entry). IfSome (entry_of c.settle.new.entries e.client) (λ d. d.live ≡ None)) (sym c.new_entry.ensures)
    (taken-none c.args.problem c.args.node c.args.ticket.now c.args.entries.now c.make_way.new.entries c.settle.new.entries c.in_ok-make_way.ensures.once c.requires.attempts c.requires.new
    c.in_ok-make_way.ensures.entries c.settle.ensures.entries)

pub put_last-requires-clause-indexed : goal.put_last-requires-clause-indexed
put_last-requires-clause-indexed g c =
    let t = c.args.ticket.now in
    subst (λ (e : Entry). (live : Live) × (e.live ≡ Some live) × IndexesWith (Some (e.client, live.resource)) c.settle.new.index c.settle.new.entries) (sym c.new_entry.ensures) (
      record { attempt = t.attempt; mode = t.mode; resource = t.resource; status = cond c.admits-admitted.result Holding Waiting },
      refl,
      c.settle.ensures.indexed (Some (c.args.ticket.now.client, c.args.ticket.now.resource)) c.in_ok-make_way.ensures.announced,
    )

pub returns-clause-entries : goal.returns-clause-entries
returns-clause-entries g c =
    let t = c.args.ticket.now in
    taken-entries c.args.node c.args.problem c.args.entries.now t c.new_entry.result c.make_way.new.entries c.settle.new.entries c.put_last.new.entries c.admits-admitted.result
    c.put_last.ensures.entries c.new_entry.ensures c.settle.ensures.entries c.in_ok-make_way.ensures.entries
    (c.admits-admitted.ensures (Some (t.client, t.resource)) c.settle.new.entries (c.settle.ensures.indexed (Some (t.client, t.resource)) c.in_ok-make_way.ensures.announced))

pub returns-clause-replies : goal.returns-clause-replies
returns-clause-replies g c =
    let t = c.args.ticket.now in
    taken-replies c.args.node c.args.problem c.args.entries.now t c.args.replies.now.items c.push_reserved.new.self.items c.settle.new.replies.items c.answer.new.replies.items
    c.make_way.new.entries c.settle.new.entries c.admits-admitted.result c.requires.none.0 c.push_reserved.ensures.items c.settle.ensures.replies c.answer.ensures
    c.in_ok-make_way.ensures.entries c.settle.ensures.entries
    (c.admits-admitted.ensures (Some (t.client, t.resource)) c.settle.new.entries (c.settle.ensures.indexed (Some (t.client, t.resource)) c.in_ok-make_way.ensures.announced))

pub returns-clause-told_first : goal.returns-clause-told_first
returns-clause-told_first g c = λ here b h.
    let t = c.args.ticket.now in
    let s = note-reader t.mode _ b h in
    let asked = c.admits-admitted.ensures (Some (c.args.ticket.now.client, c.args.ticket.now.resource)) c.settle.new.entries
    (c.settle.ensures.indexed (Some (c.args.ticket.now.client, c.args.ticket.now.resource)) c.in_ok-make_way.ensures.announced) in
    let is = asked-is c.args.problem t c.args.entries.now c.make_way.new.entries c.settle.new.entries c.admits-admitted.result b c.in_ok-make_way.ensures.entries c.settle.ensures.entries asked s.1 in
    subst (λ (k : Bool). IfSome c.args.policies.now.first (λ p. (after : _) × (goal.Admission-dyn g (p.vtable, p.value)).notes p.value k after × (c.note.new.policies ≡ record { first = Some (dyn_box_with p p.vtable after); second = c.args.policies.now.second }))) is (c.note.ensures.first s.0 here)

pub returns-clause-told_second : goal.returns-clause-told_second
returns-clause-told_second g c = λ here b h.
    let t = c.args.ticket.now in
    let s = note-reader t.mode _ b h in
    let asked = c.admits-admitted.ensures (Some (c.args.ticket.now.client, c.args.ticket.now.resource)) c.settle.new.entries
    (c.settle.ensures.indexed (Some (c.args.ticket.now.client, c.args.ticket.now.resource)) c.in_ok-make_way.ensures.announced) in
    let is = asked-is c.args.problem t c.args.entries.now c.make_way.new.entries c.settle.new.entries c.admits-admitted.result b c.in_ok-make_way.ensures.entries c.settle.ensures.entries asked s.1 in
    subst (λ (k : Bool). IfSome c.args.policies.now.second (λ p. (after : _) × (goal.Admission-dyn g (p.vtable, p.value)).notes p.value k after × (c.note.new.policies ≡ record { first = c.args.policies.now.first; second = Some (dyn_box_with p p.vtable after) }))) is (c.note.ensures.second s.0 here)

pub returns-clause-untold : goal.returns-clause-untold
returns-clause-untold g c = λ h. c.note.ensures.writer (note-writer c.args.ticket.now.mode _ h)
