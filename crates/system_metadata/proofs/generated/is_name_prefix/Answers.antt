use Rattle.std.proofs.Common.{◌≡◌, ap, refl, ◌∙◌, lit<, le-leb}
use Rattle.std.proofs.lemmas.Str.Pattern.{strip_suffix_char}
use Rattle.names.specs.Names.{is_dns_subdomain}
use Rattle.system_metadata.specs.GeneratedNames.{without_dash}
use Rattle.system_metadata.proofs.Borders.{left_by_strip}
use Rattle.system_metadata.proofs.generated.is_name_prefix.Goals as goal

pub returns-then-text-le-MAX_PREFIX : goal.returns-then-text-le-MAX_PREFIX
returns-then-text-le-MAX_PREFIX c =
    let stripped = strip_suffix_char 45 c.args.text.now c.strip_suffix.result c.strip_suffix.ensures.cases (lit< tt) in
    let rest : c.unwrap_or.result.now ≡ without_dash c.args.text.now = ap (λ b. b.now) c.unwrap_or.ensures ∙ left_by_strip c.args.text.now c.strip_suffix.result c.args.text refl stripped in
    rw (le-leb _ _ c.if-text-le-MAX_PREFIX.true) (c.is_dns_subdomain.ensures ∙ ap is_dns_subdomain rest)
