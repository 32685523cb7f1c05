use Rattle.world.proofs.server.Server.on_new.Goals as goal

pub returns : goal.returns
returns c = λ s serves.
    let opened = c.in_ok-on.ensures.steps s serves in
    let came = c.in_ok-on-2.ensures.steps opened.0 opened.2 in
    (opened.0, came.0, opened.1, came.1, came.2, λ begin since. came.3 begin (opened.3 begin since))
