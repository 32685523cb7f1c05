use Rattle.world_laws.proofs.Pages.{answer_utf8, first_read, next_read}
use Rattle.world_laws.proofs.listing.pages_are_answered.Goals as goal

pub returns : goal.returns
returns c = record {
  first = λ types task machine call is machine_is asks. first_read types task is machine machine_is call asks;
  next = λ types task machine revision k call is machine_is asks own low high. next_read types task is machine machine_is revision k call own low high asks;
  texts = λ types task machine token revision call is machine_is asks at unicode. answer_utf8 types task is machine machine_is token call asks unicode revision at;
}
