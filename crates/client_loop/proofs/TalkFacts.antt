-- One step of a client that talks after the other.
use Rattle.std.proofs.Common.{◌≡◌, refl, ℕ, List, Option, Result, Ok, Err, ap, ◌∙◌}
use Rattle.lossy_link.specs.declared.parcels.Sending.{Sending}
use Rattle.client_core.specs.Clients.{Client}
use Rattle.event_recorders.specs.declared.faults.RunFault.{RunFault}
use Rattle.event_recorders.specs.OwnLogs.{OwnLog}
use Rattle.actor_steps.specs.Endings.{falls_of}
use Rattle.actor_steps.specs.Sendings.{sent_of, SentFollows}
use Rattle.actor_steps.proofs.SendingFacts.{follows_on, follows_none}
use Rattle.client_loop.specs.Sendings.{SendsBy}
use Rattle.client_loop.specs.Standing.{Stands}
use Rattle.client_loop.specs.Talking.{TalksBy, Talks, Listens}
use Rattle.client_loop.specs.Visits.{visits_of}
use Rattle.client_loop.proofs.SentFacts.{unless_none, unless_on}

-- what was sent, however it ended
sends_none : {A : Type 0} (r : Result A RunFault) (l l' : OwnLog) (given given' : Option (List Sending)) → sent_of l' ≡ sent_of l → given' ≡ given → SendsBy r l l' given given'
sends_none (Ok a) l l' given given' same still = rw still (record { all = follows_none l l' given same; faulted = tt })
sends_none (Err f) l l' given given' same still = record { all = tt; faulted = unless_none f l l' given given' same still }

sends_on : {A : Type 0} (r : Result A RunFault) (l m l' : OwnLog) (given between given' : Option (List Sending)) → SentFollows l m given between → SendsBy r m l' between given' → SendsBy r l l' given given'
sends_on (Ok a) l m l' given between given' first then = record { all = follows_on l m l' given between given' first then.all; faulted = tt }
sends_on (Err f) l m l' given between given' first then = record { all = tt; faulted = unless_on f l m l' given between given' first then.faulted }

-- nothing more was logged, nor given
pub talks_still : {A : Type 0} (r : Result A RunFault) (l l' : OwnLog) (given given' : Option (List Sending)) (finds : List (List ℕ)) (core : Client) → l' ≡ l → given' ≡ given → Stands l' finds core → TalksBy r l l' given given' finds core
talks_still r l l' given given' finds core same still stands = record { sent = sends_none _ _ _ _ _ (ap sent_of same) still; stands = stands; quiet = record { visits = ap visits_of same; falls = ap falls_of same } }

-- it heard something, and sent nothing
pub talks_hearing : {A : Type 0} (r : Result A RunFault) (l l' : OwnLog) (given given' : Option (List Sending)) (finds : List (List ℕ)) (core core' : Client) → given' ≡ given → Listens l l' finds core core' → TalksBy r l l' given given' finds core'
talks_hearing r l l' given given' finds core core' still listens = record { sent = sends_none _ _ _ _ _ listens.silent still; stands = listens.stands; quiet = listens.quiet }

-- it talked, and then ended so
pub talks_on : {A : Type 0} (r : Result A RunFault) (l m l' : OwnLog) (given between given' : Option (List Sending)) (finds : List (List ℕ)) (core core' : Client) →
    Talks l m given between finds core → TalksBy r m l' between given' finds core' → TalksBy r l l' given given' finds core'
talks_on r l m l' given between given' finds core core' first then = record {
  sent = sends_on _ _ _ _ _ _ _ first.sent.all then.sent;
  stands = then.stands;
  quiet = record { visits = then.quiet.visits ∙ first.quiet.visits; falls = then.quiet.falls ∙ first.quiet.falls };
}

-- it talked, and ended so with nothing more, in a core by which its log stands too
pub talks_as : {A : Type 0} (r : Result A RunFault) (l l' : OwnLog) (given given' : Option (List Sending)) (finds : List (List ℕ)) (core core' : Client) → Talks l l' given given' finds core → Stands l' finds core' → TalksBy r l l' given given' finds core'
talks_as r l l' given given' finds core core' first stands = talks_on _ _ _ _ _ _ _ _ _ _ first (talks_still r l' l' given' given' finds core' refl refl stands)
