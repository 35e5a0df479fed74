use Rattle.dap_reader.proofs.serving.serve_worker_input.Given as goal

abbrev pub ghosts-item_queue : goal.ghosts-item_queue
ghosts-item_queue g a = record { supply = g.I.Source.supply a._input.now }
