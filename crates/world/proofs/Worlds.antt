-- Worlds, event by event.
use Rattle.std.proofs.Common.{ap₂, append-nil, cond, zero, suc, ◌≡◌, ◌∙◌, ◌<◌, ◌≤◌, ◌+◌, ◌-◌, ◌^◌, ◌==◌, ℕ, min, ap, refl, sym, subst, arith, List, [], ◌∷◌, ◌++◌, length, map, take, drop, Bool, true, false, Option, Some, None, append_assoc}
use Rattle.std.specs.Prelude.{is_some, option_map}
use Rattle.std.specs.List.{slice_index_or}
use Rattle.std.specs.FinMap as fin
use Rattle.std.proofs.Math.Seq.{drop-drop, take-add, take-append_seam}
use Rattle.std.proofs.lemmas.List.{length-append, length-drop, length-take, map_more, take-append-drop, take-append-le}
use Rattle.decoder.specs.Wanted.{Wanted}
use Rattle.httpedge.specs.Connections.{written_on}
use Rattle.httpedge.specs.Runs as runs
use Rattle.httpedge.specs.Steps as edge
use Rattle.reflector.specs.Client.{Cache, Client, Objects, fresh, kept}
use Rattle.reflector.specs.ReadingViews.{IsRead}
use Rattle.reflector.specs.Run.{after_cut, asked, closed, receives_all, taken}
use Rattle.reflector.proofs.Exactly.{all_notify, closed_read, fresh_read, still_lead}
use Rattle.wireclient.specs.Reads.{Items}
use Rattle.wireclient.specs.Reply.{State, ReplyItem}
use Rattle.world_laws.specs.Tasks.{Task}
use Rattle.world_laws.specs.Reports.{Report, Runs, reports_after}
use Rattle.summary.specs.Apply.{apply_request}
use Rattle.summary.specs.Counts.{summed_of}
use Rattle.world_laws.specs.World.{ClientConnection, ComesInOnePiece, Cuts, Delivers, Hands, Leaves, Receives, Reconciles, Steps, TakesUnless, World, WorldEvent, after_move, reply_on}
use Rattle.world.specs.Serving.{Left}
use Rattle.world.specs.Represents.{IsHanded, NoticesReach}
use Rattle.world.proofs.AtMost.{few_closed, few_fresh, few_received}

-- ---- what was written grows

abbrev pub Grows : Type 0
Grows = (s t : edge.State) (h : runs.Action) (id : ℕ) → runs.Follows s h t → (more : List ℕ) × (written_on t.connections id ≡ written_on s.connections id ++ more)

abbrev pub Grown : edge.State → edge.State → Type 0
Grown s t = (id : ℕ) → (more : List ℕ) × (written_on t.connections id ≡ written_on s.connections id ++ more)

pub grown : Grows → (s t : edge.State) (e : edge.Event) → runs.Steps s e t → Grown s t
grown law s t e steps id = law s t (runs.happens e) id steps

pub grown_twice : (s m t : edge.State) → Grown s m → Grown m t → Grown s t
grown_twice s m t first second id =
    let a = first id in
    let b = second id in
    (a.0 ++ b.0, b.1 ∙ ap (λ (xs : List ℕ). xs ++ b.0) a.1 ∙ append_assoc (written_on s.connections id) a.0 b.0)

-- ---- what came to the client

pub handed_stays : (b : Bool) (bytes : List ℕ) (own : Option ClientConnection) (s t : edge.State) → Grown s t → IsHanded b bytes own s → IsHanded b bytes own t
handed_stays false bytes own s t more h = tt
handed_stays true bytes None s t more h = absurd h
handed_stays true bytes (Some l) s t more h =
    let old = written_on s.connections l.id in
    let m = more l.id in
    let long = length-append old m.0 in
    let within : l.handed ≤ length old = h.0 in
    (subst (λ (xs : List ℕ). l.handed ≤ length xs) (sym m.1) (omega (arith, within, long)), h.1 ∙ sym (ap (take l.handed) m.1 ∙ take-append-le l.handed old m.0 within))

-- what is unsent doesn't matter
pub handed_still : (b : Bool) (bytes : List ℕ) (id handed : ℕ) (unsent left : List ℕ) (s : edge.State)
    → IsHanded b bytes (Some (record { id = id; unsent = unsent; handed = handed })) s → IsHanded b bytes (Some (record { id = id; unsent = left; handed = handed })) s
handed_still false bytes id handed unsent left s h = tt
handed_still true bytes id handed unsent left s h = h

pub handed_if : (b : Bool) (bytes : List ℕ) (l : ClientConnection) (s : edge.State) → l.handed ≤ length (written_on s.connections l.id) → bytes ≡ take l.handed (written_on s.connections l.id) → IsHanded b bytes (Some l) s
handed_if false bytes l s within is = tt
handed_if true bytes l s within is = (within, is)

-- a client that doesn't ask reads nothing
pub handed_none : (b : Bool) (bytes : List ℕ) (own : Option ClientConnection) (s : edge.State) → b ≡ false → IsHanded b bytes own s
handed_none false bytes own s is = tt
handed_none true bytes own s is = absurd cc

pub closed_asks : (c : Client) → (closed c).is_awaiting_reply ≡ false
closed_asks c = go c.is_awaiting_reply refl
  where
    go : (b : Bool) → c.is_awaiting_reply ≡ b → (cond b (record { cache = c.cache; sync = after_cut c.sync; is_awaiting_reply = false; notices = c.notices }) c).is_awaiting_reply ≡ false
    go true is = refl
    go false is = is

pub handed_over : (over : Bool) (c : Client) (bytes : List ℕ) (own : Option ClientConnection) (s : edge.State) → IsHanded c.is_awaiting_reply bytes own s → IsHanded (cond over (closed c) c).is_awaiting_reply bytes own s
handed_over false c bytes own s h = h
handed_over true c bytes own s h = handed_none (closed c).is_awaiting_reply bytes own s (closed_asks c)

-- ---- pieces

pub not_nil : (n : ℕ) (bs : List ℕ) → (n == 0) ≡ false → n ≡ length bs → bs ≡ [] → ⊥
not_nil n bs some is none = let bad : true ≡ false = sym (ap (λ (k : ℕ). k == 0) (is ∙ ap length none)) ∙ some in cc

pub nil : (n : ℕ) (bs : List ℕ) → (n == 0) ≡ true → n ≡ length bs → bs ≡ []
nil n [] none is = refl
nil n (b ∷ bs) none is = let bad : true ≡ false = sym none ∙ ap (λ (k : ℕ). k == 0) is ∙ not_zero (length bs) in absurd cc
  where
    not_zero : (k : ℕ) → (suc k == 0) ≡ false
    not_zero k = grind arith

taken_again : (n : ℕ) (xs : List ℕ) → take (length (take n xs)) xs ≡ take n xs
taken_again n xs = sym (ap (take (length (take n xs))) (take-append-drop n xs)) ∙ take-append_seam (take n xs) (drop n xs)

dropped_again : (n : ℕ) (xs : List ℕ) → drop (length (take n xs)) xs ≡ drop n xs
dropped_again zero xs = refl
dropped_again (suc n) [] = refl
dropped_again (suc n) (x ∷ xs) = dropped_again n xs

fits : (n from : ℕ) (xs piece : List ℕ) → piece ≡ take n (drop from xs) → (piece ≡ [] → ⊥) → from + length piece ≤ length xs
fits n from xs [] is some = absurd (some refl)
fits n from xs (b ∷ bs) is some =
    let a = length-take n (drop from xs) in
    let d = length-drop from xs in
    let long : suc (length bs) ≡ length (take n (drop from xs)) = ap length is in
    omega (arith, a, d, long)

saturated : (a sum : ℕ) → sum ≡ min a (2 ^ 64 - 1) → a < 2 ^ 64 → sum ≡ a
saturated a sum is lt = omega (arith, is, lt)

joined : (n from : ℕ) (xs piece : List ℕ) → piece ≡ take n (drop from xs) → take from xs ++ piece ≡ take (from + length piece) xs
joined n from xs piece is =
    ap (λ (ys : List ℕ). take from xs ++ ys) (is ∙ sym (taken_again n (drop from xs)) ∙ ap (λ (ys : List ℕ). take (length ys) (drop from xs)) (sym is))
    ∙ sym (take-add from (length piece) xs)

-- as many bytes more as the piece has
pub sent_more : (n from : ℕ) (xs piece : List ℕ) (long sum : ℕ) → piece ≡ take n (drop from xs) → (piece ≡ [] → ⊥) → sum ≡ min (from + long) (2 ^ 64 - 1) → long ≡ length piece → length xs < 2 ^ 64
    → sum ≡ from + length piece
sent_more n from xs piece long sum at some is same lt =
    let within = fits n from xs piece at some in
    saturated (from + length piece) sum (is ∙ ap (λ (k : ℕ). min (from + k) (2 ^ 64 - 1)) same) (omega (arith, within, lt))

pub left_after : (n from : ℕ) (xs piece : List ℕ) (sum : ℕ) → piece ≡ take n (drop from xs) → sum ≡ from + length piece → drop sum xs ≡ drop n (drop from xs)
left_after n from xs piece sum at is =
    ap (λ (k : ℕ). drop k xs) is ∙ sym (drop-drop (length piece) from xs) ∙ ap (λ (ys : List ℕ). drop (length ys) (drop from xs)) at ∙ dropped_again n (drop from xs)

-- ---- the hub

pub unless_by : (b : Bool) (w : World) (e : edge.Event) (t : edge.State) → b ≡ false → runs.Steps w.hub e t → TakesUnless b w e (record w { hub = t })
unless_by true w e t is steps = absurd cc
unless_by false w e t is steps = (t, steps, refl)

pub not_by : (b : Bool) (w : World) (e : edge.Event) → b ≡ true → TakesUnless b w e w
not_by true w e is = refl
not_by false w e is = absurd cc

pub in_one_piece : (w : World) (id : ℕ) (bytes : List ℕ) (mid t : edge.State) → runs.Steps w.hub (edge.opens id) mid → runs.Steps mid (edge.comes id bytes) t
    → ComesInOnePiece w id bytes (record w { hub = t })
in_one_piece w id bytes mid t opens comes = (record w { hub = mid }, (mid, opens, refl), (t, comes, refl))

-- it leaves the connection that it had
pub leaves : (w : World) (own : Option ClientConnection) (t : edge.State) → own ≡ w.connection → Left own w.hub t → Leaves w own (record w { hub = t; connection = None })
leaves w None t is same = ap (λ (s : edge.State). record w { hub = s; connection = None }) same ∙ ap (λ (o : Option ClientConnection). record w { connection = o }) is
leaves w (Some own) t is steps = (t, steps, refl)

abbrev Has : {A : Type 0} → Option A → Type 0
Has o = is_some o ≡ true

-- the connection is cut, if there is one
pub no_cut : {A : Type 0} (w : World) (f : A → ClientConnection) (o : Option A) → is_some o ≡ false → Cuts w (option_map f o) w
no_cut w f None is = refl
no_cut w f (Some own) is = absurd cc

pub cuts : {A : Type 0} (w : World) (f : A → ClientConnection) (o : Option A) (t : edge.State) → Has o → Left (option_map f o) w.hub t
    → Cuts w (option_map f o) (record w { client = closed w.client; hub = t; connection = None })
cuts w f None t is left = absurd cc
cuts w f (Some own) t is left = (t, left, refl)

-- ---- counts that are applied

pub no_counts : (task : Task) (w : World) (cache : Option Cache) (id revision : Option ℕ) → revision ≡ option_map (λ now. now.revision) cache → is_some revision ≡ false → Reconciles task w cache id w
no_counts task w None id revision is none = refl
no_counts task w (Some now) id revision is none = let bad : false ≡ true = sym none ∙ ap is_some is in absurd cc

pub no_id : (task : Task) (w : World) (cache : Option Cache) → Reconciles task w cache None w
no_id task w None = refl
no_id task w (Some now) = refl

pub reconciles : (task : Task) (w : World) (cache : Option Cache) (id : ℕ) (bytes : List ℕ) (v : World) (revision : Option ℕ) → revision ≡ option_map (λ now. now.revision) cache → Has revision
    → bytes ≡ apply_request (summed_of task.settings.label (kept cache)) task.settings.summary.0 task.settings.summary.1 → ComesInOnePiece w id bytes v → Reconciles task w cache (Some id) v
reconciles task w None id bytes v revision is has said comes = let bad : true ≡ false = sym has ∙ ap is_some is in absurd cc
reconciles task w (Some now) id bytes v revision is has said comes = subst (λ (bs : List ℕ). ComesInOnePiece w id bs v) said comes

-- ---- pieces that move

pub delivers : (w : World) (own : ClientConnection) (n : ℕ) (piece : List ℕ) (t : edge.State) → (piece ≡ [] → ⊥) → runs.Steps w.hub (edge.comes own.id piece) t
    → Delivers w own n piece (after_move (record w { hub = t }) (record own { unsent = drop n own.unsent }))
delivers w own n [] t some steps = absurd (some refl)
delivers w own n (b ∷ bs) t some steps = (record w { hub = t }, (t, steps, refl), refl)

pub hands : (wanted : Wanted) (w : World) (own : ClientConnection) (piece : List ℕ) (d : Client) → (piece ≡ [] → ⊥)
    → Receives w.client.is_awaiting_reply wanted w.client (take own.handed (reply_on w own)) piece d
    → Hands wanted w own piece (after_move (record w { client = d }) (record own { handed = own.handed + length piece }))
hands wanted w own [] d some receives = absurd (some refl)
hands wanted w own (b ∷ bs) d some receives = (d, receives, refl)

pub due_asks : (b : Bool) (r : List ℕ) → None ≡ cond b None (Some r) → b ≡ true
due_asks true r is = refl
due_asks false r is = absurd cc

pub due_waits : (b : Bool) (r bytes : List ℕ) → Some bytes ≡ cond b None (Some r) → b ≡ false
due_waits true r bytes is = absurd cc
due_waits false r bytes is = refl

pub items_read : (reader : Option (Option State)) (b : Bool) (bytes : List ℕ) (emitted : List ReplyItem) → is_some reader ≡ b → b ≡ true → IsRead reader bytes emitted → Items bytes emitted
items_read None b bytes emitted is asks read = let bad : false ≡ true = is ∙ asks in absurd cc
items_read (Some reader) b bytes emitted is asks read = read.1

-- what the client receives of a piece; P: what is to be shown of the client, of the bytes that it read and of the items that it was told
pub received : (P : Client → List ℕ → List ReplyItem → Type 0) (Q : Client → Type 0) (b : Bool) (wanted : Wanted) (c : Client) (bytes piece : List ℕ) (emitted : List ReplyItem) (n : ℕ) (l : ClientConnection) (s : edge.State)
    → c.is_awaiting_reply ≡ b → piece ≡ take n (drop l.handed (written_on s.connections l.id)) → (piece ≡ [] → ⊥) → IsHanded b bytes (Some l) s
    → (b ≡ true → Items bytes emitted)
    → (b ≡ true → (response : List ReplyItem) × Items (bytes ++ piece) (emitted ++ response) × P (receives_all wanted c response) (bytes ++ piece) (emitted ++ response))
    → (b ≡ false → P c bytes emitted)
    → Q c → ((response : List ReplyItem) → Q (receives_all wanted c response))
    → (d : Client) × Receives b wanted c (take l.handed (written_on s.connections l.id)) piece d
    × ((all : List ℕ) × (items : List ReplyItem) × P d all items × IsHanded d.is_awaiting_reply all (Some (record { id = l.id; unsent = l.unsent; handed = l.handed + length piece })) s × Q d)
received P Q false wanted c bytes piece emitted n l s asks is some at read receive idle now more =
    (c, refl, (bytes, emitted, idle refl, handed_none c.is_awaiting_reply bytes (Some (record { id = l.id; unsent = l.unsent; handed = l.handed + length piece })) s asks, now))
received P Q true wanted c bytes piece emitted n l s asks is some at read receive idle now more =
    let written = written_on s.connections l.id in
    let h = receive refl in
    let whole : bytes ++ piece ≡ take (l.handed + length piece) written = ap (λ (xs : List ℕ). xs ++ piece) at.1 ∙ joined n l.handed written piece is in (
      receives_all wanted c h.0,
      (emitted, h.0, subst (λ (xs : List ℕ). Items xs emitted) at.1 (read refl), subst (λ (xs : List ℕ). Items (xs ++ piece) (emitted ++ h.0)) at.1 h.1, refl),
      (
        bytes ++ piece,
        emitted ++ h.0,
        h.2,
        handed_if (receives_all wanted c h.0).is_awaiting_reply (bytes ++ piece) (record { id = l.id; unsent = l.unsent; handed = l.handed + length piece }) s (fits n l.handed written piece is some) whole,
        more h.0,
      ),
    )

-- ---- events in turn

pub runs_more : (task : Task) (i n : ℕ) (w : World) (es : List WorldEvent) (e : WorldEvent) (mid v : World) (rs : List Report) → n ≡ i + length es → Runs task i w es mid rs → Steps task mid e v
    → Runs task i w (es ++ e ∷ []) v (rs ++ reports_after n mid v)
runs_more task i n w [] e mid v rs at (is, none) steps = (
  v,
  [],
  subst (λ (x : World). Steps task x e v) is steps,
  (refl, refl),
  ap₂ (λ (xs ys : List Report). xs ++ ys) none (ap₂ (λ (k : ℕ) (x : World). reports_after k x v) (at ∙ omega arith) is) ∙ sym (append-nil (reports_after i w v)),
)
runs_more task i n w (x ∷ es) e mid v rs at (p, others, did, ran, is) steps = (
  p,
  others ++ reports_after n mid v,
  did,
  runs_more task (suc i) n p es e mid v others (at ∙ omega arith) ran steps,
  ap (λ (xs : List Report). xs ++ reports_after n mid v) is ∙ append_assoc (reports_after i w p) others (reports_after n mid v),
)

pub events_more : {A B : Type 0} (f : A → B) (xs : List A) (i : ℕ) (x : A) → i < length xs → x ≡ slice_index_or xs i x
    → map f (take i xs) ++ f x ∷ [] ≡ map f (take (i + 1) xs)
events_more f xs i x lt is = ap (λ y. map f (take i xs) ++ f y ∷ []) is ∙ sym (map_more f xs i x lt)

-- ---- the notices that wait

pub reaches_fresh : (wanted : Wanted) → NoticesReach wanted fin.empty fresh
reaches_fresh wanted = record { read = fresh_read wanted; lead = (tt, refl); few = few_fresh }

pub reaches_received : (wanted : Wanted) (o : Objects) (c : Client) (xs : List ReplyItem) → NoticesReach wanted o c → NoticesReach wanted o (receives_all wanted c xs)
reaches_received wanted o c xs l = record { read = (all_notify wanted c xs l.read).has_read; lead = still_lead wanted o c xs l.read l.lead; few = few_received wanted c xs l.few }

pub reaches_asked : (wanted : Wanted) (o : Objects) (c : Client) → NoticesReach wanted o c → NoticesReach wanted o (asked c)
reaches_asked wanted o c l = record { read = record { objects = l.read.objects; paged_list = l.read.paged_list }; lead = l.lead; few = l.few }

pub reaches_closed : (wanted : Wanted) (o : Objects) (c : Client) → NoticesReach wanted o c → NoticesReach wanted o (closed c)
reaches_closed wanted o c l = let r = closed_read wanted o c l.read l.lead in record { read = r.0; lead = r.1; few = few_closed c l.few }

pub reaches_over : (over : Bool) (wanted : Wanted) (o : Objects) (c : Client) → NoticesReach wanted o c → NoticesReach wanted o (cond over (closed c) c)
reaches_over false wanted o c l = l
reaches_over true wanted o c l = reaches_closed wanted o c l

pub reaches_taken : (wanted : Wanted) (o : Objects) (c : Client) → NoticesReach wanted o c → NoticesReach wanted (kept c.cache) (taken c)
reaches_taken wanted o c l = record { read = record { objects = l.read.objects; paged_list = l.read.paged_list }; lead = (tt, refl); few = l.few }
