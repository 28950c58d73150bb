-- What a restart finds in the record of a client by whose core its log stands.
use Rattle.std.proofs.Common.{◌≡◌, ℕ, List, sym, subst}
use Rattle.client_core.specs.Clients.{Client}
use Rattle.event_recorders.specs.OwnLogs.{OwnLog, part_now, FindsPart, FindsItsOwn}
use Rattle.actor_steps.proofs.FindingFacts.{part_own, still_own}
use Rattle.client_loop.specs.Standing.{Stands, HasLeft}

pub stands_own : (l : OwnLog) (strings : List (List ℕ)) (core : Client) → Stands l strings core → FindsItsOwn (part_now l) strings
stands_own l strings core is = part_own (part_now l) strings (subst (λ p. FindsPart p strings) (sym is.part) is.found)

pub stands_still : (l l' : OwnLog) (strings : List (List ℕ)) (core : Client) → Stands l strings core → l' ≡ l → FindsItsOwn (part_now l') strings
stands_still l l' strings core is same = still_own l l' strings (stands_own l strings core is) same

pub left_still : (l l' : OwnLog) (strings : List (List ℕ)) (core : Client) → HasLeft l strings core → l' ≡ l → FindsItsOwn (part_now l') strings
left_still l l' strings core is same = stands_still l l' strings is.before is.stands same
