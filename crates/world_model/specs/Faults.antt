-- The numbers of refusals.
use Rattle.std.specs.Prelude.{ℕ}
use Rattle.world_model.specs.declared.events.StepFault.{StepFault}
use Rattle.world_model.specs.declared.events.StepFault.TheVariants.{UnknownActor, Down, Up, WrongPhase, NotStored, NothingToSay, NoSuchMessage, NotAddressed, NoQuorum, AttemptsSpent, NothingTried, SentListFull, Memory, NoSuchPlace}

abbrev pub fault_number : StepFault → ℕ
fault_number UnknownActor = 601
fault_number Down = 602
fault_number Up = 603
fault_number WrongPhase = 604
fault_number NotStored = 605
fault_number NothingToSay = 606
fault_number NoSuchMessage = 607
fault_number NotAddressed = 608
fault_number NoQuorum = 609
fault_number AttemptsSpent = 610
fault_number NothingTried = 611
fault_number SentListFull = 612
fault_number Memory = 613
fault_number NoSuchPlace = 614
