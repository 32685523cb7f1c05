use Rattle.scripts.proofs.program.run_pipe.Goals as goal

pub pipe-requires-clause-from : goal.pipe-requires-clause-from
pipe-requires-clause-from g c = c.in_ok-options.ensures.revision.1

pub pipe-requires-clause-to : goal.pipe-requires-clause-to
pipe-requires-clause-to g c = c.in_ok-options.ensures.revision.2
