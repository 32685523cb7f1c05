-- What the crate's values say, without where they lie in memory.
use Rattle.std.specs.Prelude.{option_map}
use Rattle.programs.specs.Resources as resources
use Rattle.programs.specs.declared.resource.Resource.{Resource}

abbrev pub resource_of : Resource → resources.Resource
resource_of r = record { group = r.group.now; version = r.version.now; plural = r.plural.now }
