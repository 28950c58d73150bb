use Rattle.session_tests.proofs.meeting.readers_meet.Given as goal

abbrev pub ghosts-meet_in : goal.ghosts-meet_in
ghosts-meet_in g a = record { table = a.book.table }
