use Rattle.std.proofs.Common.{arith, refl}
use Rattle.liveness_laws.proofs.both_ends.Goals as goal

pub returns : goal.returns
returns c = record {
  bytes = record {
    client = record {
      is_received = c.follows_the_server.ensures.received;
      is_asked = c.follows_the_server.ensures.asked;
      is_closed = c.follows_the_server.ensures.closed;
      is_restarted = c.follows_the_server.ensures.restarted;
      is_taken = c.follows_the_server.ensures.taken;
      is_later = c.follows_the_server.ensures.later;
      is_written = c.follows_the_server.ensures.written;
    };
    one = c.one_reading.ensures.items;
    same = c.prefixes_stand.ensures.same;
    closed = c.prefixes_stand.ensures.closed;
    watch = λ texts has_ended plain. c.watches_are_read.ensures.lines 200 texts has_ended (omega arith) plain;
    asked = λ types bytes d asks. (_, c.refusals_are_read.ensures.asked types bytes d asks);
    full = (_, c.refusals_are_read.ensures.full _ refl);
    grows = c.machines_grow.ensures.one;
    stays = c.machines_grow.ensures.stays;
    lasts = c.machines_last.ensures;
  };
  pages = record {
    asks = c.requests_ask.ensures.without_body;
    planned_so = c.lists_are_planned.ensures.pages;
    replies = c.replies_are_read.ensures.replies;
    short = c.replies_are_read.ensures.short;
    first = c.pages_are_answered.ensures.first;
    next = c.pages_are_answered.ensures.next;
    texts = c.pages_are_answered.ensures.texts;
  };
  lasts = record {
    begins = λ types shapes. c.machines_stay.ensures.begins types 1 shapes (omega arith) (omega arith);
    machines = c.machines_last.ensures;
    tasks = c.tasks_last.ensures;
  };
  headline = c.headline.ensures;
}
