-- The type of summaries can be served.
use Rattle.std.proofs.Common.{refl}
use Rattle.schema.specs.ObjectShape.{metadata}
use Rattle.schema.proofs.Metadata.{metadata_is}
use Rattle.settling_laws.specs.SummaryType.{SummariesCanBeServed}

pub summaries_can_be_served : SummariesCanBeServed
summaries_can_be_served = (refl, refl, (refl, refl, (metadata, refl, metadata_is), refl, refl))
