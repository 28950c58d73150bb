use Rattle.own_threads.proofs.lives.do_client.Given as goal

-- the beginning of the recorder that is handed in
abbrev pub ghosts-live_as_client : goal.ghosts-live_as_client
ghosts-live_as_client g a = record { beginning = g.C.ActorRecorder.beginning a.recorder }
