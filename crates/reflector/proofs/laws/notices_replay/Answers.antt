use Rattle.reflector.proofs.Replays.{all_notify, empty_under_key}
use Rattle.reflector.proofs.laws.notices_replay.Goals as goal

pub returns : goal.returns
returns c = record { received = λ wanted c xs under_key. all_notify wanted c xs under_key; fresh = λ p s is. empty_under_key p s is }
