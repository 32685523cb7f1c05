use Rattle.httpedge.proofs.Untaken.{all_out, all_written, none_out, one_out, one_written}
use Rattle.httpedge.proofs.laws.all_is_out.Goals as goal

pub returns : goal.returns
returns c = record { start = none_out; stays = all_out; written = all_written; one_stays = one_out; one_written = one_written }
