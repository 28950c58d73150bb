-- Sets of lemmas by which one step of a client follows another.
use Rattle.actor_steps.proofs.EndFacts.{failures_stay, failures_on}
use Rattle.actor_steps.proofs.FindingFacts.{part_own}
use Rattle.actor_steps.proofs.SendingFacts.{follows_none, follows_on, follows_from, all_told, first_rise_sends_nothing, unused_sends_nothing}
use Rattle.client_loop.proofs.AttemptFacts.{nothing_silently, silently_on, silently_then, agrees_on, ends_since}
use Rattle.client_loop.proofs.BeginFacts.{begins_still, begins_no_more, nothing_begun, nothing_after, none_begun, still_client, risen_client}
use Rattle.client_loop.proofs.EndFacts.{client_ends, client_ends_on, asking_ends, book_ends, failures_same, is_outside}
use Rattle.client_loop.proofs.FindingFacts.{stands_own, stands_still, left_still}
use Rattle.client_loop.proofs.NudgeFacts.{book_has_none, last_ended}
use Rattle.client_loop.proofs.SentFacts.{unless_none, unless_on, unless_from, told_unless, told_nothing}
use Rattle.client_loop.proofs.TalkFacts.{talks_still, talks_on, talks_as}
use Rattle.client_loop.proofs.TallyFacts.{adds_nothing, adds_use, adds_half}

pub ruleset talking = (talks_still, talks_on, talks_as)

pub ruleset choosing = (nothing_silently, book_ends, part_own, stands_own)

pub ruleset rising = (client_ends, failures_stay, part_own)

pub ruleset keeping = (client_ends, ends_since, failures_stay, part_own)

pub ruleset attempting = (silently_on, silently_then, agrees_on, ends_since, failures_on, failures_same)

pub ruleset rising_first = (first_rise_sends_nothing, unused_sends_nothing, client_ends, failures_stay, risen_client)

pub ruleset entering = (follows_from, follows_on, follows_none, unless_none, unless_on, nothing_begun, nothing_after, last_ended, book_has_none, stands_own, stands_still)

pub ruleset giving_up = (follows_from, unless_none, unless_from, is_outside, stands_own, stands_still)

pub ruleset leaving = (follows_from, unless_none, unless_from, still_client, last_ended, stands_own, left_still)

pub ruleset fulfilling = (follows_none, follows_on, follows_from, unless_none, unless_on, unless_from, client_ends_on, asking_ends, book_ends, failures_same, failures_on, begins_still, begins_no_more, adds_nothing, adds_use, adds_half, book_has_none)

pub ruleset fulfilling_all = (follows_on, unless_on, client_ends_on, is_outside, failures_on, stands_own)

pub ruleset running = (all_told, told_unless, told_nothing, failures_on, none_begun)
