use Rattle.std.proofs.Common.{rules, tests, ◌∙◌}
use Rattle.std.proofs.lemmas.Iterator.{YieldsList-from_slice}
use Rattle.std.proofs.lemmas.Iterator.Search.{all_from_yields_List}
use Rattle.names.specs.Names.{is_dns_byte}
use Rattle.names.proofs.Found.{both}
use Rattle.names.proofs.dns.is_dns_part.Goals as goal

pub returns-then-has_alphanumeric_ends : goal.returns-then-has_alphanumeric_ends
returns-then-has_alphanumeric_ends c =
    both c.has_alphanumeric_ends.result c.all.result c.if-has_alphanumeric_ends.true c.has_alphanumeric_ends.ensures
    (all_from_yields_List is_dns_byte _ _ c.all.result c.all.ensures.ran (YieldsList-from_slice c.args.text.now (c.iter.ensures.rest ∙ c.as_bytes.ensures.value)) (λ x b q k. search (rules, tests)))
