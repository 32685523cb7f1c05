use Rattle.std.proofs.Common.{refl}
use Rattle.reflector.proofs.Exactly.{all_notify, still_lead, fresh_read, closed_read}
use Rattle.reflector.proofs.laws.notices_replay_exactly.Goals as goal

pub returns : goal.returns
returns c = record {
  received = λ wanted c xs read. all_notify wanted c xs read;
  waiting = λ wanted o c xs read lead. still_lead wanted o c xs read lead;
  fresh = λ wanted. (fresh_read wanted, (tt, refl));
  asked = λ wanted o c read lead. (record { objects = read.objects; paged_list = read.paged_list }, lead);
  closed = λ wanted o c read lead. closed_read wanted o c read lead;
  given_up = λ wanted o c read lead. (record { objects = read.objects; paged_list = tt }, lead);
  taken = λ wanted c read. (record { objects = read.objects; paged_list = read.paged_list }, (tt, refl));
}
