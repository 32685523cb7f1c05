use Rattle.std.proofs.Common.{codes}
use Rattle.names.specs.Names.{is_dns_label, is_dns_subdomain}
use Rattle.api_request.specs.Validated.{require_at}
use Rattle.api_validation.proofs.Required.{required_by, required_then}
use Rattle.api_validation.proofs.naming.validate_path.Goals as goal

pub returns : goal.returns
returns c =
    let r = c.require_at-2.result in
    let is_label = is_dns_label c.args.namespace.now in
    required_then r c.is_dns_subdomain.result (is_dns_subdomain c.args.name.now) (codes "metadata.name") (codes "bad name") c.in_ok-require_at.field-0
    (require_at is_label (codes "metadata.namespace") (codes "bad namespace")) c.is_dns_subdomain.ensures c.in_ok-require_at.ensures
    (required_by r c.is_dns_label.result is_label (codes "metadata.namespace") (codes "bad namespace") c.is_dns_label.ensures c.require_at-2.ensures)
