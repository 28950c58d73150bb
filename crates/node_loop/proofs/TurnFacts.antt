-- How the steps and the turns of a node follow one another.
use Rattle.std.proofs.Common.{ℕ, Bool, List, Result, Ok, Err, inl, arith, ◌∙◌}
use Rattle.lock_messages.specs.declared.ids.Actor.{Actor}
use Rattle.event_recorders.specs.declared.faults.RunFault.{RunFault}
use Rattle.event_recorders.specs.OwnLogs.{OwnLog, IsUnused}
use Rattle.actor_steps.specs.Endings.{falls_of, EndsBy}
use Rattle.actor_steps.proofs.EndFacts.{failures_stay, failures_on, ends_on, failed_since}
use Rattle.actor_steps.proofs.SendingFacts.{follows_on}
use Rattle.node_loop.specs.Endings.{HasRun, EndsSomehow}
use Rattle.node_loop.specs.Standing.{StaysUp, GoesOn}
use Rattle.node_loop.specs.Turns.{Moment, WentOn, Sends, Turns}
use Rattle.node_loop.proofs.UnsentFacts.{far_on}

-- a node that stays up goes on
pub up_goes : (l l' : OwnLog) (strings : List (List ℕ)) (count : ℕ) → StaysUp l l' strings → GoesOn (falls_of l) l l' strings count count
up_goes l l' strings count up = let same = up.falls in record { opened = up.opened; falls = failures_stay _ _ _ _ (omega (arith, same)) (inl (omega arith)); own = up.own }

-- one step after the other
pub goes_after : (failed : ℕ) (l m l' : OwnLog) (strings strings' : List (List ℕ)) (a b c : ℕ) → GoesOn failed l m strings a b → GoesOn (falls_of m) m l' strings' b c → GoesOn failed l l' strings' a c
goes_after failed l m l' strings strings' a b c first second = record { opened = second.opened ∙ first.opened; falls = failures_on _ _ _ _ _ _ first.falls second.falls; own = second.own }

-- all steps since the log was unused
pub has_run : (l l' : OwnLog) (who : Actor) (strings : List (List ℕ)) (before now : ℕ) → IsUnused l who → GoesOn (falls_of l) l l' strings before now → HasRun l l' strings before now
has_run l l' who strings before now unused goes = record { opened = goes.opened; falls = failed_since l l' _ _ _ unused goes.falls; own = goes.own }

-- turns, after a step or after turns
pub turns_after : (r : Result (Unit {0}) RunFault) (v m v' : Moment) → WentOn v m → Sends v m → Turns r m v' → Turns r v v'
turns_after (Ok done) v m v' goes sends turns =
    record { goes = goes_after _ _ _ _ _ _ _ _ _ goes turns.goes; taken = record { idle = turns.taken.idle; sent = follows_on _ m.log _ _ _ _ sends turns.taken.sent }; ended = tt }
turns_after (Err f) v m v' goes sends turns = record {
  goes = goes_after _ _ _ _ _ _ _ _ _ goes turns.goes;
  taken = tt;
  ended = record { which = turns.ended.which; sent = far_on f _ m.log _ _ _ _ sends turns.ended.sent; cause = ends_on f _ _ _ _ _ _ _ _ goes.falls turns.ended.cause };
}

-- what a record answers is some answer
pub ends_somehow : (f : RunFault) (l : OwnLog) (stuck spent : Bool) (before now : ℕ) → EndsBy f l stuck spent before now → EndsSomehow f l
ends_somehow f l stuck spent before now ends = record { stuck = stuck; spent = spent; before = before; now = now; ends = ends }
