use Rattle.std.proofs.Common.{rules, tests, lit<, le-leb, refl}
use Rattle.std.proofs.lemmas.Iterator.Search.{all_from_yields_List}
use Rattle.std.proofs.lemmas.Iterator.Splits.{YieldsList-from_str_split}
use Rattle.names.specs.Names.{is_dns_part}
use Rattle.names.proofs.Found.{both}
use Rattle.names.proofs.dns.is_dns_subdomain.Goals as goal

pub returns-then-text-le-MAX_SUBDOMAIN : goal.returns-then-text-le-MAX_SUBDOMAIN
returns-then-text-le-MAX_SUBDOMAIN c =
    both _ c.all.result (le-leb _ _ c.if-text-le-MAX_SUBDOMAIN.true) refl
    (all_from_yields_List is_dns_part _ _ c.all.result c.all.ensures.ran (YieldsList-from_str_split 46 c.args.text.now (lit< tt) c.split.ensures.text c.split.ensures.has_more c.split.ensures.pattern) (λ x b q k. search (rules, tests)))
