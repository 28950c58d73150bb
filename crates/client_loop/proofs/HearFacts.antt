-- What hearing makes of a client's part, and what a client remembers of it.
use Rattle.std.proofs.Common.{◌≡◌, inl, inr, ℕ, Bool, true, false, List, None, refl, ap, ◌∙◌, subst, if◌then◌else◌}
use Rattle.lock_messages.specs.declared.ids.Actor.TheVariants as actor
use Rattle.lock_messages.specs.declared.messages.Message.{Message}
use Rattle.lock_messages.specs.Messages.{named_node}
use Rattle.lock_model.specs.declared.hearing.Heard.{Heard}
use Rattle.lock_model.specs.declared.hearing.Heard.TheVariants as heard
use Rattle.lock_model.specs.Ballots.{node_count}
use Rattle.lock_model.specs.ExactHearing.{is_counted}
use Rattle.client_core.specs.declared.phases.State.{State}
use Rattle.client_core.specs.declared.phases.State.TheVariants.{Idle, Chosen, Asking, Inside}
use Rattle.client_core.specs.Clients.{Client}
use Rattle.client_core.specs.Calls.{after_hearing, heard_by, counted, counts_in, heard_in}
use Rattle.world_model.specs.declared.events.Effect.TheVariants as effect
use Rattle.world_model.specs.declared.events.Event.TheVariants as event
use Rattle.world_model.specs.declared.exact.ExactClientPhase.TheVariants as client
use Rattle.world_model.specs.ExactClients.{client_in, is_down, counts_in as counts_part, heard_in as part_heard, hears}
use Rattle.world_model.specs.Parts.{Part, ClientPart, after_own, after_turn}
use Rattle.world_actors.specs.Clients.{phase_of as part_phase}
use Rattle.event_recorders.specs.OwnLogs.{OwnLog, IsAdded, FindsPart}
use Rattle.client_loop.specs.declared.progress.Progress.{Progress}
use Rattle.client_loop.specs.Hearing.{HearsOf, HearsNothing, TakesParcel, granted_after, released_after, busy_after}
use Rattle.client_loop.specs.Standing.{Stands, part_of}

-- a client that is up makes the same of a message as its part
is_up : (s : State) → is_down (part_phase s) ≡ false
is_up Idle = refl
is_up (Chosen t place) = refl
is_up (Asking p) = refl
is_up (Inside p) = refl

heard_so : (nodes who attempt : ℕ) (s : State) (m : Message) → part_heard nodes who attempt (part_phase s) m ≡ heard_in nodes who attempt s m
heard_so nodes who attempt Idle m = refl
heard_so nodes who attempt (Chosen t place) m = refl
heard_so nodes who attempt (Asking p) m = refl
heard_so nodes who attempt (Inside p) m = refl

counts_so : (n : ℕ) (s : State) → counts_part n (part_phase s) ≡ part_phase (counts_in n s)
counts_so n Idle = refl
counts_so n (Chosen t place) = refl
counts_so n (Asking p) = refl
counts_so n (Inside p) = refl

counts_if : (c : Client) (n : ℕ) (counts : Bool) → (if counts then client_in (part_of c) (counts_part n (part_phase c.state)) else part_of c) ≡ part_of (if counts then counted c n else c)
counts_if c n true = ap (client_in (part_of c)) (counts_so n c.state)
counts_if c n false = refl

hears_so : (c : Client) (number : ℕ) (m : Message) (told : Heard) → after_turn (part_of c) (hears (node_count c.ballots) c.client number (part_of c)) (effect.Heard m told) ≡ part_of (after_hearing c m)
hears_so c number m told =
    rw (is_up c.state, heard_so (node_count c.ballots) c.client c.attempt c.state m)
    (counts_if c (named_node m) (is_counted (heard_in (node_count c.ballots) c.client c.attempt c.state m)))

client_if : (c : Client) (n : ℕ) (counts : Bool) → c.client ≡ (if counts then counted c n else c).client
client_if c n true = refl
client_if c n false = refl

ballots_if : (c : Client) (n : ℕ) (counts : Bool) → c.ballots ≡ (if counts then counted c n else c).ballots
ballots_if c n true = refl
ballots_if c n false = refl

attempt_if : (c : Client) (n : ℕ) (counts : Bool) → c.attempt ≡ (if counts then counted c n else c).attempt
attempt_if c n true = refl
attempt_if c n false = refl

pub hear_stands : (l l' : OwnLog) (finds : List (List ℕ)) (c : Client) (who number : ℕ) (m : Message) (told : Heard) → Stands l finds c → who ≡ c.client →
    IsAdded l (event.Hear who number) (effect.Heard m told) l' → Stands l' finds (after_hearing c m)
hear_stands l l' finds c who number m told h same added =
    let counts : Bool = is_counted (heard_by c m) in
    let part : after_own l.ballots (event.Hear who number) (effect.Heard m told) (ClientPart (part_of c)) ≡ ClientPart (part_of (after_hearing c m)) =
    rw (h.ballots, same) (ap ClientPart (hears_so c number m told)) in
    record {
      actor = ap (λ (x : OwnLog). x.actor) added.log ∙ h.actor ∙ ap actor.Client (client_if c (named_node m) counts);
      ballots = ap (λ (x : OwnLog). x.ballots) added.log ∙ h.ballots ∙ ballots_if c (named_node m) counts;
      part = added.part ∙ ap (λ (p : Part). after_own l.ballots (event.Hear who number) (effect.Heard m told) p) h.part ∙ part;
      found = subst (λ (a : ℕ). FindsPart (ClientPart (record { kept = a; tried = None; phase = client.Down })) finds) (attempt_if c (named_node m) counts) h.found;
    }

-- what was heard is remembered
pub remembers : (number : ℕ) (l l' : OwnLog) (before after : Progress) (core : Client) (node : ℕ) (answer : Heard) → HearsOf number l l' before.core core node answer →
    after ≡ record before { core = core; granted = granted_after answer node before.granted; released = released_after answer node before.released; busy = busy_after answer before.busy } → TakesParcel number l l' before after
remembers number l l' before after core node answer h a = inr (record { node = node; answer = answer; hears = rw a h; kept = rw a refl })

-- where nothing was heard, all is as it was
pub stays : (l l' : OwnLog) (before : Progress) (core : Client) → HearsNothing l l' before.core core → (record before { core = core } ≡ before) × (l' ≡ l)
stays l l' before core h = (rw h.core refl, h.log)

pub takes_nothing : (number : ℕ) (l l' : OwnLog) (before : Progress) (core : Client) → HearsNothing l l' before.core core → TakesParcel number l l' before (record before { core = core })
takes_nothing number l l' before core h = inl (h.log, rw h.core refl)

-- what lets it wait is not forgotten by what comes behind it
pub busy_still : (h : Heard) (busy : Bool) → busy ≡ true → busy_after h busy ≡ true
busy_still heard.Counted busy is = is
busy_still heard.Known busy is = is
busy_still heard.Busy busy is = refl
busy_still heard.Done busy is = is
busy_still heard.Softened busy is = is
busy_still heard.NotMine busy is = is
