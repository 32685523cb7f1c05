-- What the crate's values stand for, and what its checks find.
use Rattle.std.specs.Prelude.{ℕ, Option, codes, option_and_then, option_map}
use Rattle.serde_json.specs.Data.{Data, Members}
use Rattle.serde_json.specs.Find.{as_object, get_member}
use Rattle.api_types.specs.Served.{served}
use Rattle.typed.specs.Without.{without}
use Rattle.api_validation.specs.declared.envelope.Expected.{Expected as TheExpected}
use Rattle.api_validation.specs.Envelope.{Expected, Envelope, left_out, rest_of}

abbrev pub expected_of : TheExpected → Expected
expected_of e = record { served = served e.served.now; namespace = e.namespace.now; name = option_map (λ s. s.now) e.name; verb = e.verb; subresource = e.subresource }

-- the body less its envelope is read from the body itself
abbrev pub rest_seen : Data → Data
rest_seen body = without left_out body

-- the members of an object's metadata, if that is an object
abbrev pub metadata_there : Members → Option Members
metadata_there top = option_and_then as_object (get_member (codes "metadata") top)

abbrev pub envelope_with : Members → Option Members → Option ℕ → Envelope
envelope_with top metadata version = record { version = version; rest = rest_of top metadata }

abbrev pub envelope_seen : Data → Option ℕ → Envelope
envelope_seen body version = record { version = version; rest = rest_seen body }
