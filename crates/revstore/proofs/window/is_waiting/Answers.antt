use Rattle.std.proofs.Common.{◌≡◌, Option, drop, sym, ap, ◌∙◌}
use Rattle.std.specs.List.{list_any}
use Rattle.history.specs.Read.{key_of}
use Rattle.revstore.specs.Waiting.{is_key, waiting_in, write_in}
use Rattle.revstore.specs.declared.window.ChangeWindow.{ChangeWindow}
use Rattle.revstore.proofs.Behind.{list_any-map}
use Rattle.revstore.proofs.window.is_waiting.Goals as goal

pub returns-in-Some : goal.returns-in-Some
returns-in-Some c =
    let found : c.has_key.result ≡ list_any (λ w. is_key (key_of c.args.key.now) (write_in w).0) c.waiting.result.now = c.has_key.ensures in
    found ∙ ap (list_any (λ w. is_key (key_of c.args.key.now) (write_in w).0)) c.waiting.ensures ∙ list_any-map (λ w. is_key (key_of c.args.key.now) w.0) write_in (drop c.in-Some.all.written c.in-Some.all.latest.items)
    ∙ ap (λ (o : Option ChangeWindow). list_any (λ w. is_key (key_of c.args.key.now) w.0) (waiting_in o)) (sym c.in-Some.is)
