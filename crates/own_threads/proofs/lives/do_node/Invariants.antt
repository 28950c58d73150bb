use Rattle.own_threads.proofs.lives.do_node.Given as goal

-- the beginning of the recorder that is handed in
abbrev pub ghosts-live_as_node : goal.ghosts-live_as_node
ghosts-live_as_node g a = record { beginning = g.N.ActorRecorder.beginning a.recorder }
