use Rattle.reflector.proofs.Follows.{given_up, items_received, is_asked, is_closed, is_fresh, is_taken}
use Rattle.reflector.proofs.Reached.{reaches}
use Rattle.reflector.proofs.Grows.{follows_later, watches-append}
use Rattle.reflector.proofs.laws.follows_the_server.Goals as goal

pub returns : goal.returns
returns c = record {
  received = λ server wanted m c xs ys p is. items_received server wanted m c xs ys p is;
  asked = λ server wanted m c xs ys p q is comes. is_asked server wanted m c xs ys p q is comes;
  closed = λ server wanted m c xs ys p q is. is_closed server wanted m c xs ys p q is;
  given_up = λ server wanted m c xs ys p q is. given_up server wanted m c ys q is.low is.cache;
  restarted = λ server wanted m c ys q low. is_fresh server wanted m ys q low;
  taken = λ server wanted m c xs p is. is_taken server wanted m c xs p is;
  later = λ server later wanted m c xs p is_later is. follows_later server later wanted is_later m c xs p is;
  written = λ server wanted r p q xs ys is more. watches-append server wanted r p q xs ys is more;
  reached = λ server wanted m c xs p is sync e. reaches server wanted m c xs p is sync e;
}
