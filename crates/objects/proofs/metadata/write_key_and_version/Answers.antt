use Rattle.std.proofs.Common.{◌++◌, ap, ◌∙◌, codes, decimal}
use Rattle.std.proofs.lemmas.Result.{on_ok_weaker}
use Rattle.serde_json.specs.Data.{member, string}
use Rattle.serde_json.specs.Written.{members_text}
use Rattle.objects.proofs.metadata.write_key_and_version.Goals as goal

pub returns : goal.returns
returns c =
    let of = c.args.envelope.of in
    let two = c.write_string-2.new.out in
    on_ok_weaker c.write_string-3.result (λ last rest.
    let numbered = member (codes "resourceVersion") (string (decimal c.args.envelope.stamp.version)) rest in
    last rest ∙ ap (λ t. two.text ++ members_text two.later (member (codes "resourceVersion") (string t) rest)) (c.as_str.ensures.value ∙ c.in_ok-version.ensures.ok)
    ∙ c.in_ok-write_string-2.ensures numbered ∙ c.in_ok-write_string.ensures (member (codes "namespace") (string of.namespace.now) numbered)) c.write_string-3.ensures
