use Rattle.std.proofs.Common.{ap, bytes_eq, option_map, sym, ◌∙◌}
use Rattle.history.specs.Page.{is_within}
use Rattle.history.specs.Read.{key_of}
use Rattle.revstore.proofs.Latest.{named_within}
use Rattle.revstore.proofs.window.is_of_kind.Goals as goal

pub returns-in-Some : goal.returns-in-Some
returns-in-Some c =
    named_within c.args.kind c.in-Some.namespace.now (key_of c.args.key.now) c.eq.result c.if-key-kind.false (c.eq.ensures ∙ ap (λ s. bytes_eq s c.in-Some.namespace.now) c.as_str.ensures.value)
    ∙ ap (λ o. is_within c.args.kind (option_map (λ b. b.now) o) (key_of c.args.key.now)) (sym c.in-Some.is)
