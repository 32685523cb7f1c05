-- Items of a watch that fit are taken.
use Rattle.std.proofs.Common.{◌≡◌, ℕ, ◌≤◌, Bool, true, cond, ◌&&◌, List, [], ◌∷◌, ◌++◌, refl, sym, ap, ap₂, subst, ◌∙◌, Option, Some, None, le-leb, lt-ltb}
use Rattle.std.specs.Prelude.{nat_lt, nat_le, is_some}
use Rattle.std.specs.FinMap as fin
use Rattle.wireclient.specs.Reply.{ReplyItem}
use Rattle.decoder.specs.Wanted.{Wanted}
use Rattle.decoder.specs.Lines.{put, deleted, bookmark, error}
use Rattle.reflector.specs.Client.{Objects, place_in, max_objects, Notice, Cache, SyncPhase, streaming, Client, notice_of}
use Rattle.reflector.specs.FittingLaws.{IsFitting, AreFitting, revision_after, revision_after_all}
use Rattle.reflector.specs.FollowsLaws.{Server, IsCacheOf, IsSyncSound, IsReplyTo, Follows, IsWatchStep, IsWatchReply}
use Rattle.reflector.specs.Items.{Response, begun, page, line, over, unexpected, said_of_watch}
use Rattle.reflector.specs.Run.{relisting, moved, with_watch, receives_all}

module _ (server : Server) (wanted : Wanted) (few : (r : ℕ) → r ≤ server.top → fin.len (server.at r) ≤ max_objects) where
  abbrev cache_at : ℕ → Cache
  cache_at r = record { revision = r; objects = server.at r }

  abbrev watching_at : ℕ → List Notice → Client
  watching_at r notices = record { cache = Some (cache_at r); sync = streaming; is_awaiting_reply = true; notices = notices }

  -- it still asks, and has the objects at p, to which the line of revision r led
  abbrev Reaches : Client → ℕ → ℕ → Type 0
  Reaches c r p = (c.is_awaiting_reply ≡ true) × (c.cache ≡ Some (record { revision = r; objects = server.at p }))

  -- what comes after these items, whatever was told before
  abbrev Goes : List ReplyItem → ℕ → Type 0
  Goes xs p = (r : ℕ) (notices : List Notice) → IsWatchReply server wanted r xs p → Reaches (receives_all wanted (watching_at r notices) xs) (revision_after_all wanted r xs) p

  after_change : (xs : List ReplyItem) (p r q : ℕ) (before emitted : List Notice) (objects : Objects) (b : Bool) → b ≡ true → objects ≡ server.at q → IsWatchReply server wanted q xs p → Goes xs p
      → Reaches (receives_all wanted (cond b (moved (watching_at r before) q objects emitted) (relisting (watching_at r before))) xs) (revision_after_all wanted q xs) p
  after_change xs p r q before emitted objects b good same leads goes =
      subst (λ (t : Bool). Reaches (receives_all wanted (cond t (moved (watching_at r before) q objects emitted) (relisting (watching_at r before))) xs) (revision_after_all wanted q xs) p) (sym good)
      (subst (λ (os : Objects). Reaches (receives_all wanted (moved (watching_at r before) q os emitted) xs) (revision_after_all wanted q xs) p) (sym same) (goes q (before ++ emitted) leads))

  one_fits : (response : Response) (xs : List ReplyItem) (p r : ℕ) (notices : List Notice) → IsWatchStep server r response (λ q. IsWatchReply server wanted q xs p) → IsFitting response → Goes xs p
      → Reaches (receives_all wanted (with_watch (watching_at r notices) (Some (cache_at r)) response) xs) (revision_after_all wanted (revision_after r response) xs) p
  one_fits begun xs p r notices leads fits goes = goes r notices leads
  one_fits (page q) xs p r notices leads fits goes = absurd fits
  one_fits (line (put o)) xs p r notices leads fits goes =
      let room : fin.len (fin.insert (server.at r) (place_in o) o) ≤ max_objects = subst (λ (os : Objects). fin.len os ≤ max_objects) (sym leads.2) (few o.revision leads.1) in
      after_change xs p r o.revision notices (notice_of (fin.get (server.at r) (place_in o)) (Some o)) (fin.insert (server.at r) (place_in o) o)
      (nat_lt r o.revision && nat_le (fin.len (fin.insert (server.at r) (place_in o) o)) max_objects) (ap₂ (λ x y. x && y) (lt-ltb _ _ leads.0) (le-leb _ _ room)) leads.2 leads.3 goes
  one_fits (line (deleted o)) xs p r notices leads fits goes =
      after_change xs p r o.revision notices (notice_of (fin.get (server.at r) (place_in o)) None) (fin.remove (server.at r) (place_in o)) (nat_lt r o.revision) (lt-ltb _ _ leads.0) leads.2 leads.3 goes
  one_fits (line (bookmark q)) xs p r notices leads fits goes = after_change xs p r q notices [] (server.at r) (nat_le r q) (le-leb _ _ leads.0) leads.2 leads.3 goes
  one_fits (line error) xs p r notices leads fits goes = absurd fits
  one_fits over xs p r notices leads fits goes = absurd fits
  one_fits unexpected xs p r notices leads fits goes = absurd fits

  all_fit : (xs : List ReplyItem) (p : ℕ) → AreFitting wanted xs → Goes xs p
  all_fit [] p fits r notices leads = (refl, ap (λ (os : Objects). Some (record { revision = r; objects = os })) leads.2)
  all_fit (x ∷ xs) p fits r notices leads = one_fits (said_of_watch wanted x) xs p r notices leads fits.0 (all_fit xs p fits.1)

  from_cache : (m : ℕ) (cache : Option Cache) (notices : List Notice) (xs : List ReplyItem) (p : ℕ) → IsCacheOf server m cache → is_some cache ≡ true → IsReplyTo server wanted m streaming cache xs p → AreFitting wanted xs
      → Reaches (receives_all wanted (record { cache = cache; sync = streaming; is_awaiting_reply = true; notices = notices }) xs) (revision_after_all wanted m xs) p
  from_cache m None notices xs p held known comes fits = absurd cc
  from_cache m (Some now) notices xs p held known comes fits =
      let same : now ≡ cache_at m = ap₂ (λ (q : ℕ) (os : Objects). record { revision = q; objects = os }) held.0 (held.1 ∙ ap (λ (q : ℕ). server.at q) held.0) in
      subst (λ (c : Cache). Reaches (receives_all wanted (record { cache = Some c; sync = streaming; is_awaiting_reply = true; notices = notices }) xs) (revision_after_all wanted m xs) p) (sym same)
      (all_fit xs p fits m notices (subst (λ (q : ℕ). IsWatchReply server wanted q xs p) held.0 comes))

  pub fitting_taken : (m : ℕ) (c : Client) (xs : List ReplyItem) (p : ℕ) → Follows server wanted m c xs p → c.sync ≡ streaming → c.is_awaiting_reply ≡ true → AreFitting wanted xs
      → Reaches (receives_all wanted c xs) (revision_after_all wanted m xs) p
  fitting_taken m c xs p is sync awaiting_reply fits =
      let known : IsSyncSound server m streaming c.cache = subst (λ (a : SyncPhase). IsSyncSound server m a c.cache) sync is.sync in
      let comes : IsReplyTo server wanted m streaming c.cache xs p = subst (λ (a : SyncPhase). IsReplyTo server wanted m a c.cache xs p) sync (is.coming awaiting_reply) in
      let same : c ≡ record { cache = c.cache; sync = streaming; is_awaiting_reply = true; notices = c.notices } = ap₂ (λ (a : SyncPhase) (b : Bool). record { cache = c.cache; sync = a; is_awaiting_reply = b; notices = c.notices }) sync awaiting_reply in
      subst (λ (d : Client). Reaches (receives_all wanted d xs) (revision_after_all wanted m xs) p) (sym same) (from_cache m c.cache c.notices xs p is.cache known comes fits)
