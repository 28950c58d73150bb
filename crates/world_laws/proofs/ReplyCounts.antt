-- How many replies a decision has: one, and a Grant at most for each ticket that waited.
use Rattle.std.proofs.Common.{◌≡◌, ℕ, ◌+◌, ◌-◌, ◌≤◌, Bool, true, false, ◌&&◌, cond, if◌then◌else◌, map, length, List, [], ◌∷◌, ◌++◌, ◌==◌, Option, None, Some, refl, arith}
use Rattle.std.proofs.Math.ListN.{length-append}
use Rattle.lock_messages.specs.declared.tickets.Ticket.{Ticket}
use Rattle.lock_messages.specs.declared.messages.Message.{Message}
use Rattle.lock_messages.specs.declared.messages.Message.TheVariants.{Request, Release, Grant, Busy, Over, Done, Muddled, Soften}
use Rattle.lock_messages.specs.declared.messages.Message.TheVariants as message
use Rattle.lock_model.specs.declared.entries.Entry.{Entry}
use Rattle.lock_model.specs.declared.entries.Live.{Live}
use Rattle.lock_model.specs.declared.entries.Status.{Status}
use Rattle.lock_model.specs.declared.entries.Status.TheVariants.{Waiting, Holding}
use Rattle.lock_model.specs.declared.entries.Status.TheVariants as status
use Rattle.lock_model.specs.declared.problems.Problem.{Problem}
use Rattle.lock_model.specs.ExactStations.{is_of, knows, entry_of, is_write, is_waiting, is_holding, if_live, waits_in, settled}
use Rattle.lock_model.specs.ExactDecisions.{grant_of, told, grants, ended_entry, ended, softened_writer, softened_in, softened_entry, softened, reply_to_known, answered, switches, decision}
use Rattle.world_model.specs.ExactWays.{waiting_count}

-- one entry's part of the count
abbrev pub waits_one : Entry → ℕ
waits_one e = if waits_in (Some e) then 1 else 0

grant-one : (n c : ℕ) (o : Option Live) → length (grant_of n c o) ≤ 1
grant-one n c None = omega arith
grant-one n c (Some l) = omega arith

told-few : (n : ℕ) (e f : Entry) → length (told n e f) ≤ waits_one e
told-few n e f = go (if_live (λ l. is_waiting l.status) e.live) (if_live (λ l. is_holding l.status) f.live)
  where
    go : (a b : Bool) → length (cond (a && b) (grant_of n f.client f.live) []) ≤ cond a 1 0
    go true true = grant-one n f.client f.live
    go true false = omega arith
    go false b = omega arith

pub grants-few : (n : ℕ) (es fs : List Entry) → length (grants n es fs) ≤ waiting_count es
grants-few n [] fs = omega arith
grants-few n (e ∷ es) [] = omega arith
grants-few n (e ∷ es) (f ∷ fs) = omega (arith, told-few n e f, grants-few n es fs, length-append (told n e f) (grants n es fs))

-- Ending attempts, and softening one, makes nobody wait.

count-append : (es fs : List Entry) → waiting_count (es ++ fs) ≡ waiting_count es + waiting_count fs
count-append [] fs = omega arith
count-append (e ∷ es) fs = omega (arith, count-append es fs)

count-map : (g : Entry → Entry) → ((e : Entry) → waits_one (g e) ≤ waits_one e) → (es : List Entry) → waiting_count (map g es) ≤ waiting_count es
count-map g le [] = omega arith
count-map g le (e ∷ es) = omega (arith, le e, count-map g le es)

ended-count : (c a : ℕ) (es : List Entry) → waiting_count (ended c a es) ≤ waiting_count es
ended-count c a es = go (knows c es)
  where
    end : (e : Entry) (b : Bool) → waits_one (cond b (record { client = e.client; floor = a; live = None }) e) ≤ waits_one e
    end e true = omega arith
    end e false = omega arith

    one : (e : Entry) (b : Bool) → waits_one (cond b (ended_entry a e) e) ≤ waits_one e
    one e true = end e _
    one e false = omega arith

    go : (b : Bool) → waiting_count (cond b (map (λ e. if is_of c e then ended_entry a e else e) es) (es ++ record { client = c; floor = a; live = None } ∷ [])) ≤ waiting_count es
    go true = count-map (λ e. if is_of c e then ended_entry a e else e) (λ e. one e (is_of c e)) es
    go false = omega (arith, count-append es (record { client = c; floor = a; live = None } ∷ []))

-- whether a live ticket waits, as a number
abbrev live_waits : Option Live → ℕ
live_waits o = if if_live (λ l. is_waiting l.status) o then 1 else 0

soft-writer : (l : Live) (s : Status) → l.status ≡ s → live_waits (softened_writer l s) ≤ live_waits (Some l)
soft-writer l Waiting is = omega arith
soft-writer l Holding is = omega arith
soft-writer l status.Softened is = omega arith

soft-live : (a : ℕ) (o : Option Live) → live_waits (softened_in a o) ≤ live_waits o
soft-live a None = omega arith
soft-live a (Some l) = go ((l.attempt == a) && is_write l.mode)
  where
    go : (b : Bool) → live_waits (cond b (softened_writer l l.status) (Some l)) ≤ live_waits (Some l)
    go true = soft-writer l l.status refl
    go false = omega arith

softened-count : (c a : ℕ) (es : List Entry) → waiting_count (softened c a es) ≤ waiting_count es
softened-count c a es = count-map (λ e. if is_of c e then softened_entry a e else e) (λ e. one e (is_of c e)) es
  where
    one : (e : Entry) (b : Bool) → waits_one (cond b (softened_entry a e) e) ≤ waits_one e
    one e true = soft-live a e.live
    one e false = omega arith

-- The replies of a decision, and of a switch.

answered-few : (n : ℕ) (p : Problem) (es : List Entry) (t : Ticket) (o : Option Message) → length (answered n p es t o).replies ≤ waiting_count es + 1
answered-few n p es t (Some reply) = omega arith
answered-few n p es t None =
    let before = ended t.client (t.attempt - 1) es in
    omega (arith, grants-few n before (settled p before), ended-count t.client (t.attempt - 1) es)

pub replies-few : (p : Problem) (es : List Entry) (m : Message) → length (decision p es m).replies ≤ waiting_count es + 1
replies-few p es (Request n t) = answered-few n p es t (reply_to_known n t (entry_of es t.client))
replies-few p es (Release n c a) = omega (arith, grants-few n (ended c a es) (settled p (ended c a es)), ended-count c a es)
replies-few p es (Grant n t) = omega arith
replies-few p es (Busy n t) = omega arith
replies-few p es (Over n c a) = omega arith
replies-few p es (Done n c a) = omega arith
replies-few p es (Muddled n c a) = omega arith
replies-few p es (Soften n c a) = omega (arith, grants-few n (softened c a es) (settled p (softened c a es)), softened-count c a es)
replies-few p es (message.Softened n c a) = omega arith

pub switch-few : (n : ℕ) (p : Problem) (es : List Entry) → length (switches n p es).replies ≤ waiting_count es + 1
switch-few n p es = omega (arith, grants-few n es (settled p es))
