-- Sets of lemmas by which one step of a life follows another.
use Rattle.client_loop.proofs.SentFacts.{told_nothing}
use Rattle.actor_lives.proofs.LifeFacts.{log_is, risen_log, all_sent, sent_unless}
use Rattle.actor_lives.proofs.ServingFacts.{inside_rests, inside_over, busy_rests, entering_rests, entering_over, rests_none, rests_on, expecting_rests, releasing_rests, releasing_over, released_again, owing_to, over_again, all_owe, none_owe}

pub ruleset living = (log_is, risen_log, all_sent, sent_unless, told_nothing)

pub ruleset entering = (inside_rests, inside_over, entering_rests, entering_over)

pub ruleset trying = (inside_rests, inside_over, busy_rests, entering_rests, entering_over)

pub ruleset releasing = (rests_none, expecting_rests, releasing_rests, releasing_over, released_again, owing_to)

pub ruleset serving = (rests_none, rests_on, over_again, all_owe, none_owe)
