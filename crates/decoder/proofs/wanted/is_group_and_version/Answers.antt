use Rattle.std.proofs.Common.{codes, ap, sym, ◌++◌, ◌∙◌, append_assoc}
use Rattle.std.specs.Str.{bytes_eq}
use Rattle.decoder.proofs.Joined.{joined_where_found, joined_nowhere}
use Rattle.decoder.proofs.wanted.is_group_and_version.Goals as goal

pub returns-in-Some : goal.returns-in-Some
returns-in-Some c =
    c.is_joined.ensures
    ∙ joined_where_found c.args.group.now (codes "/" ++ c.args.version.now) c.args.text.now c.strip_prefix.result c.in-Some.rest c.strip_prefix.ensures.cases c.in-Some.is
    ∙ ap (bytes_eq c.args.text.now) (sym (append_assoc c.args.group.now (codes "/") c.args.version.now))

pub returns-in-None : goal.returns-in-None
returns-in-None c =
    joined_nowhere c.args.group.now (codes "/" ++ c.args.version.now) c.args.text.now c.strip_prefix.result c.strip_prefix.ensures.cases c.in-None.is
    ∙ ap (bytes_eq c.args.text.now) (sym (append_assoc c.args.group.now (codes "/") c.args.version.now))
