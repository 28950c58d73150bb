-- Sets of lemmas by which one step of a session follows another.
use Rattle.client_loop.proofs.BeginFacts.{begins_none}
use Rattle.client_loop.proofs.FindingFacts.{stands_own}
use Rattle.lock_session.proofs.EndFacts.{over_before, goes_free, leaving_ends, softening_ends, settling_ends, ends_later, more_since, nothing_left, releases_then, released_at, says_over, says_out, says_then}

pub ruleset leaving = (leaving_ends, goes_free)

pub ruleset settling = (says_over, says_out, nothing_left)

pub ruleset releasing = (releases_then, says_then, released_at)

pub ruleset entering = (settling_ends, ends_later, more_since, begins_none)

pub ruleset softening = (over_before, softening_ends, stands_own)
