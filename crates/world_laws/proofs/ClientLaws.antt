-- What the client makes of what comes, whatever the server is, as the proofs here use it (`reflector::follows_the_server`).
use Rattle.std.specs.Prelude.{ℕ, ◌≤◌, List, ◌++◌}
use Rattle.decoder.specs.Wanted.{Wanted}
use Rattle.reflector.specs.Client.{Client}
use Rattle.reflector.specs.FollowsLaws.{Follows, FollowsFrom, IsLater, IsReplyTo, IsWatchReply, Server}
use Rattle.reflector.specs.Run.{asked, closed, receives_all, restarted, taken}
use Rattle.wireclient.specs.Reply.{ReplyItem}

pub record ClientLaws : Type 0 where
  pub is_received : (server : Server) (wanted : Wanted) (m : ℕ) (c : Client) (xs ys : List ReplyItem) (p : ℕ) → Follows server wanted m c (xs ++ ys) p → FollowsFrom server wanted m (receives_all wanted c xs) ys p
  pub is_asked : (server : Server) (wanted : Wanted) (m : ℕ) (c : Client) (xs ys : List ReplyItem) (p q : ℕ) → Follows server wanted m c xs p → IsReplyTo server wanted m c.sync c.cache ys q → Follows server wanted m (asked c) ys q
  pub is_closed : (server : Server) (wanted : Wanted) (m : ℕ) (c : Client) (xs ys : List ReplyItem) (p q : ℕ) → Follows server wanted m c xs p → Follows server wanted m (closed c) ys q
  pub is_restarted : (server : Server) (wanted : Wanted) (m : ℕ) (c : Client) (ys : List ReplyItem) (q : ℕ) → m ≤ server.top → Follows server wanted m (restarted c) ys q
  pub is_taken : (server : Server) (wanted : Wanted) (m : ℕ) (c : Client) (xs : List ReplyItem) (p : ℕ) → Follows server wanted m c xs p → Follows server wanted m (taken c) xs p
  pub is_later : (server later : Server) (wanted : Wanted) (m : ℕ) (c : Client) (xs : List ReplyItem) (p : ℕ) → IsLater server later → Follows server wanted m c xs p → Follows later wanted m c xs p
  pub is_written : (server : Server) (wanted : Wanted) (r p q : ℕ) (xs ys : List ReplyItem) → IsWatchReply server wanted r xs p → IsWatchReply server wanted p ys q → IsWatchReply server wanted r (xs ++ ys) q
