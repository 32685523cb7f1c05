use Rattle.api_types.proofs.Naming.{all_follow}
use Rattle.api_types.proofs.Profiles.{discovery_is_a_mark, refused_alike}
use Rattle.api_types.proofs.profile_laws.profiles_are_read.Goals as goal

pub returns-clause-follow : goal.returns-clause-follow
returns-clause-follow c = all_follow

pub returns-clause-mark : goal.returns-clause-mark
returns-clause-mark c = discovery_is_a_mark

pub returns-clause-refused : goal.returns-clause-refused
returns-clause-refused c = refused_alike
