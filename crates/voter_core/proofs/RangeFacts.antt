-- What a decision leaves is in range.
use Rattle.std.proofs.Common.{ℕ, ◌+◌, ◌-◌, ◌≤◌, ◌==◌, Bool, true, false, not, ◌&&◌, cond, nat_lt, List, [], ◌∷◌, ◌++◌, filter, map, Option, Some, None, arith}
use Rattle.std.specs.List.{AllByRecursion}
use Rattle.lock_messages.specs.declared.ids.TheConstants.{MAX_ATTEMPT}
use Rattle.lock_messages.specs.declared.messages.Message.{Message}
use Rattle.lock_messages.specs.declared.messages.Message.TheVariants.{Request, Release, Grant, Busy, Over, Done, Muddled, Soften}
use Rattle.lock_messages.specs.declared.messages.Message.TheVariants as message
use Rattle.lock_messages.specs.declared.tickets.Ticket.{Ticket}
use Rattle.lock_messages.specs.Ids.{IsClient}
use Rattle.lock_messages.specs.Messages.{IsTicket, IsMessage}
use Rattle.lock_model.specs.declared.entries.Entry.{Entry}
use Rattle.lock_model.specs.declared.entries.Live.{Live}
use Rattle.lock_model.specs.declared.entries.Status.{Status}
use Rattle.lock_model.specs.declared.entries.Status.TheVariants.{Waiting, Holding, Softened}
use Rattle.lock_model.specs.declared.problems.Problem.{Problem}
use Rattle.lock_model.specs.ExactStations.{is_of, knows, entry_of, is_waiting, is_write, admits, promoted, settled_entry, settle, settled}
use Rattle.lock_model.specs.ExactDecisions.{ended_entry, ended, reply_to_known, new_entry, answered, takes_up, softened_writer, softened_entry, softened, decision}
use Rattle.stable_record.specs.Records.{IsEntry}

abbrev pub InRange : List Entry → Type 0
InRange es = AllByRecursion IsEntry es

range-append : (es fs : List Entry) → InRange es → InRange fs → InRange (es ++ fs)
range-append [] fs h k = k
range-append (e ∷ es) fs h k = (h.0, range-append es fs h.1 k)

range-filter : (test : Entry → Bool) (es : List Entry) → InRange es → InRange (filter test es)
range-filter test [] h = tt
range-filter test (e ∷ es) h = go (test e) (range-filter test es h.1)
  where
    go : (b : Bool) → InRange (filter test es) → InRange (cond b (e ∷ filter test es) (filter test es))
    go true k = (h.0, k)
    go false k = k

range-fresh : (c a : ℕ) → IsClient c → a ≤ MAX_ATTEMPT → IsEntry (record { client = c; floor = a; live = None })
range-fresh c a client low = record { client = client; floor = low; live = tt }

range-ends : (c a : ℕ) (es : List Entry) → a ≤ MAX_ATTEMPT → InRange es → InRange (map (λ e. cond (is_of c e) (ended_entry a e) e) es)
range-ends c a [] low h = tt
range-ends c a (e ∷ es) low h = (go (is_of c e) (nat_lt e.floor a), range-ends c a es low h.1)
  where
    go : (b l : Bool) → IsEntry (cond b (cond l (record { client = e.client; floor = a; live = None }) e) e)
    go true true = range-fresh e.client a h.0.client low
    go true false = h.0
    go false l = h.0

range-ended : (c a : ℕ) (es : List Entry) → IsClient c → a ≤ MAX_ATTEMPT → InRange es → InRange (ended c a es)
range-ended c a es client low h = go (knows c es)
  where
    go : (b : Bool) → InRange (cond b (map (λ e. cond (is_of c e) (ended_entry a e) e) es) (es ++ record { client = c; floor = a; live = None } ∷ []))
    go true = range-ends c a es low h
    go false = range-append es (record { client = c; floor = a; live = None } ∷ []) h (range-fresh c a client low, tt)

range-entry : (p : Problem) (es : List Entry) (client floor : ℕ) (live : Option Live) → IsEntry (record { client = client; floor = floor; live = live }) → IsEntry (settled_entry p es (record { client = client; floor = floor; live = live }))
range-entry p es client floor None h = h
range-entry p es client floor (Some l) h = go (is_waiting l.status && admits p l.mode l.resource es)
  where
    go : (b : Bool) → IsEntry (record { client = client; floor = floor; live = Some (cond b (promoted l) l) })
    go true = record { client = h.client; floor = h.floor; live = record { attempt = h.live.attempt; resource = h.live.resource } }
    go false = h

pub range-settle : (p : Problem) (front es : List Entry) → InRange es → InRange (settle p front es)
range-settle p front [] h = tt
range-settle p front (e ∷ es) h =
    (range-entry p (front ++ e ∷ es) e.client e.floor e.live h.0, range-settle p (front ++ settled_entry p (front ++ e ∷ es) e ∷ []) es h.1)

range-softened-entry : (a client floor : ℕ) (live : Option Live) → IsEntry (record { client = client; floor = floor; live = live }) → IsEntry (softened_entry a (record { client = client; floor = floor; live = live }))
range-softened-entry a client floor None h = h
range-softened-entry a client floor (Some l) h = go ((l.attempt == a) && is_write l.mode) l.status
  where
    go : (b : Bool) (s : Status) → IsEntry (record { client = client; floor = floor; live = cond b (softened_writer l s) (Some l) })
    go true Waiting = record { client = h.client; floor = h.floor; live = tt }
    go true Holding = record { client = h.client; floor = h.floor; live = record { attempt = h.live.attempt; resource = h.live.resource } }
    go true Softened = h
    go false s = h

range-softened : (c a : ℕ) (es : List Entry) → InRange es → InRange (softened c a es)
range-softened c a [] h = tt
range-softened c a (e ∷ es) h = (go (is_of c e), range-softened c a es h.1)
  where
    go : (b : Bool) → IsEntry (cond b (softened_entry a e) e)
    go true = range-softened-entry a e.client e.floor e.live h.0
    go false = h.0

range-new : (t : Ticket) (admitted : Bool) → IsTicket t → IsEntry (new_entry t admitted)
range-new t admitted h = record { client = h.client; floor = let top = h.attempt.1 in omega (arith, top); live = record { attempt = h.attempt; resource = h.resource } }

range-taken : (n : ℕ) (p : Problem) (es : List Entry) (t : Ticket) → IsTicket t → InRange es → InRange (takes_up n p es t).entries
range-taken n p es t h k =
    let low : t.attempt - 1 ≤ MAX_ATTEMPT = let top = h.attempt.1 in omega (arith, top) in
    let before = ended t.client (t.attempt - 1) es in
    let after = range-settle p [] before (range-ended t.client (t.attempt - 1) es h.client low k) in
    range-append (filter (λ e. not (is_of t.client e)) (settled p before)) _ (range-filter (λ e. not (is_of t.client e)) (settled p before) after) (range-new t (admits p t.mode t.resource (settled p before)) h, tt)

range-answered : (n : ℕ) (p : Problem) (es : List Entry) (t : Ticket) (o : Option Message) → IsTicket t → InRange es → InRange (answered n p es t o).entries
range-answered n p es t None h k = range-taken n p es t h k
range-answered n p es t (Some m) h k = k

-- entries in range stay so
pub range-decision : (p : Problem) (es : List Entry) (m : Message) → IsMessage m → InRange es → InRange (decision p es m).entries
range-decision p es (Request n t) h k = range-answered n p es t (reply_to_known n t (entry_of es t.client)) h.1 k
range-decision p es (Release n c a) h k = range-settle p [] (ended c a es) (range-ended c a es h.1 h.2.1 k)
range-decision p es (Grant n t) h k = k
range-decision p es (Busy n t) h k = k
range-decision p es (Over n c a) h k = k
range-decision p es (Done n c a) h k = k
range-decision p es (Muddled n c a) h k = k
range-decision p es (Soften n c a) h k = range-settle p [] (softened c a es) (range-softened c a es k)
range-decision p es (message.Softened n c a) h k = k
