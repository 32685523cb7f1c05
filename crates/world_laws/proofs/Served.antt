-- The client is served on: after a turn of its watch, after a change of the machine, and after bytes that it gets.
use Rattle.std.proofs.Common.{◌≡◌, ◌⊎◌, inl, inr, ℕ, ◌+◌, ◌≤◌, Bool, true, false, List, [], ◌∷◌, ◌++◌, length, flat_map, map, take, drop, Option, Some, None, refl, sym, ap, ap₂, subst, ◌∙◌, arith, append-nil, append_assoc, length-append, take-append-drop}
use Rattle.std.proofs.lemmas.Grind.{flat_map-append}
use Rattle.std.proofs.lemmas.List.{length-take-le, map-append, take-append-le}
use Rattle.std.proofs.lemmas.List.Elements.{All-append, All-weaker}
use Rattle.std.specs.List.{All}
use Rattle.std.specs.FinMap as fin
use Rattle.std.proofs.Math.Seq.{take-append_seam}
use Rattle.history.specs.History.{History, up_to}
use Rattle.history.specs.History as history
use Rattle.history.specs.Seen.{selected}
use Rattle.requests.specs.ReplyBytes.{chunk, chunks, end_bytes, watch_head}
use Rattle.httpedge.specs.Connections.{Connection, Phase, ended, gone, waiting, watching, with_written}
use Rattle.httpedge.specs.Steps.{has_no_next, phase_after, turn_bytes}
use Rattle.httpedge.specs.Watches.{Turn, Watch}
use Rattle.reflector.proofs.Reached.{all_stay}
use Rattle.reflector.specs.Client.{Client, streaming}
use Rattle.reflector.specs.FollowsLaws.{Follows, FollowsFrom, IsLater, IsWatchReply}
use Rattle.reflector.specs.Run.{receives_all}
use Rattle.wireclient.specs.LineLaws.{HasNoFeed, IsLine, with_feed}
use Rattle.wireclient.specs.Reads.{Items, has_closed}
use Rattle.wireclient.specs.Reply.{ReplyItem, head, line}
use Rattle.wire_laws.specs.Watched.{end_sent, lines_sent}
use Rattle.world_laws.proofs.RunInvariant.{IsRead, IsServed, ReadInvariant}
use Rattle.world_laws.proofs.Mirror.{mirrored, server_of}
use Rattle.world_laws.proofs.OneWorld.{same_rest}
use Rattle.world_laws.proofs.Passes.{GoesOnAt, IsTaskWatch, TurnComes}
use Rattle.world_laws.proofs.ClientLaws.{ClientLaws}
use Rattle.world_laws.proofs.Laws.{Laws}
use Rattle.world_laws.proofs.Sending.{FitOrClose, closed_behind, fit_or_close, follows_more, lines_are_sent}
use Rattle.world_laws.specs.Tasks.{Task, selection, wanted_by}
use Rattle.world_laws.specs.World.{ClientConnection, Receives}

-- ---- the machine grows

pub later_server : (task : Task) (h g : History) → h.current ≤ g.current → ((r : ℕ) → r ≤ h.current → up_to r g.changes ≡ up_to r h.changes) → IsLater (server_of task h) (server_of task g)
later_server task h g higher same =
    record { same = λ r come. ap (λ cs. mirrored (wanted_by task) (selected (selection task) (history.changed fin.empty cs))) (same r come); higher = higher; tokens = λ r objects token come. refl }

represents_later : (task : Task) (h g : History) (c : Client) (unsent : List ℕ) (to : ℕ) (items : List ReplyItem) (written : List ℕ) (st : Phase) → h.current ≤ g.current
    → ReadInvariant task h c unsent to items written st → ReadInvariant task g c unsent to items written st
represents_later task h g c unsent to items written (waiting prefix) higher is = is
represents_later task h g c unsent to items written (watching w) higher (inl is) =
    let come : to ≤ h.current = is.come in
    inl (record { own = is.own; position = is.position; come = omega (arith, come, higher); sync = is.sync; texts = is.texts; lines = is.lines; is_written = is.is_written; are = is.are })
represents_later task h g c unsent to items written (watching w) higher (inr closed) = inr closed
represents_later task h g c unsent to items written ended higher is = tt
represents_later task h g c unsent to items written (gone had_ended) higher is = tt

pub served_later : (laws : ClientLaws) (task : Task) (h g : History) (m : ℕ) (c : Client) (own : ClientConnection) (conn : Connection) → h.current ≤ g.current → IsLater (server_of task h) (server_of task g)
    → IsServed task h m c own conn → IsServed task g m c own conn
served_later laws task h g m c own conn higher is_later is =
    record {
      within = is.within;
      sent = is.sent;
      coming = is.coming;
      to = is.to;
      read = is.read;
      all = is.all;
      follows = laws.is_later (server_of task h) (server_of task g) (wanted_by task) m c is.coming is.to is_later is.follows;
      represents = represents_later task h g c own.unsent is.to (is.sent ++ is.coming) conn.written conn.phase higher is.represents;
    }

-- ---- its watch has a turn

chunks_more : (xs ys : List (List ℕ)) (b : Bool) → chunks xs false ++ chunks ys b ≡ chunks (xs ++ ys) b
chunks_more xs ys b =
    ap (λ (l : List ℕ). l ++ chunks ys b) (append-nil (flat_map chunk xs)) ∙ sym (append_assoc (flat_map chunk xs) (flat_map chunk ys) (end_bytes b))
    ∙ ap (λ (l : List ℕ). l ++ end_bytes b) (sym (flat_map-append chunk xs ys))

-- the bytes of the head, of these texts and of a turn
written_more : (written : List ℕ) (texts more lines : List (List ℕ)) (b : Bool) → written ≡ watch_head 200 ++ chunks (map with_feed texts) false → lines ≡ map with_feed more
    → written ++ chunks lines b ≡ watch_head 200 ++ chunks (map with_feed (texts ++ more)) b
written_more written texts more lines b is are =
    ap₂ (λ (w : List ℕ) (l : List (List ℕ)). w ++ chunks l b) is are ∙ append_assoc (watch_head 200) (chunks (map with_feed texts) false) (chunks (map with_feed more) b)
    ∙ ap (λ (l : List ℕ). watch_head 200 ++ l)
    (chunks_more (map with_feed texts) (map with_feed more) b ∙ ap (λ (l : List (List ℕ)). chunks l b) (sym (map-append with_feed texts more)))

-- what was handed over stays so
handed_still : (n : ℕ) (written more : List ℕ) (sent : List ReplyItem) → n ≤ length written → Items (take n written) sent → Items (take n (written ++ more)) sent
handed_still n written more sent within read = subst (λ (l : List ℕ). Items l sent) (sym (take-append-le n written more within)) read

within_still : (n : ℕ) (written more : List ℕ) → n ≤ length written → n ≤ length (written ++ more)
within_still n written more within = let both : length (written ++ more) ≡ length written + length more = length-append written more in omega (arith, within, both)

-- the watch goes on behind these texts, or the client reads no more
goes_on : (task : Task) (h : History) (c : Client) (unsent : List ℕ) (to : ℕ) (items : List ReplyItem) (written : List ℕ) (texts more : List (List ℕ)) (next : Option Watch) → c.sync ≡ streaming → All IsLine texts
    → FitOrClose more (end_sent (has_no_next next)) → GoesOnAt task h to next → written ≡ watch_head 200 ++ chunks (map with_feed (texts ++ more)) (has_no_next next)
    → items ≡ head 200 ∷ (map line texts ++ lines_sent more (end_sent (has_no_next next))) → ReadInvariant task h c unsent to items written (phase_after next)
goes_on task h c unsent to items written texts more None asks lines fit next is are = tt
goes_on task h c unsent to items written texts more (Some w) asks lines (inl fit) next is are =
    inl (record {
      own = next.0;
      position = next.1;
      come = next.2;
      sync = asks;
      texts = texts ++ more;
      lines = All-append IsLine texts more lines fit;
      is_written = is;
      are = are ∙ ap (λ (l : List ReplyItem). head 200 ∷ l) (sym (lines_are_sent texts more [] lines) ∙ ap (λ (l : List (List ℕ)). lines_sent l []) (sym (append-nil (texts ++ more))) ∙ lines_are_sent (texts ++ more) [] [] (All-append IsLine texts more lines fit) ∙ append-nil (map line (texts ++ more)));
    })
goes_on task h c unsent to items written texts more (Some w) asks lines (inr closed) next is are =
    inr (ap has_closed are ∙ closed_behind (head 200 ∷ map line texts) (lines_sent more []) closed)

turn_of : (laws : Laws) (task : Task) (h : History) (m : ℕ) (c : Client) (own : ClientConnection) (conn : Connection) (w : Watch) (turn : Turn) (is : IsServed task h m c own conn)
    → (IsTaskWatch task w → w.cursor.position ≤ h.current → TurnComes task h w.cursor.position turn)
    → IsRead task h c is.to (is.sent ++ is.coming) conn.written w ⊎ (has_closed (is.sent ++ is.coming) ≡ true) → IsServed task h m c own (with_written conn (turn_bytes turn) (phase_after turn.next))
turn_of laws task h m c own conn w turn is will (inr closed) =
    record {
      within = within_still own.handed conn.written (turn_bytes turn) is.within;
      sent = is.sent;
      coming = is.coming;
      to = is.to;
      read = handed_still own.handed conn.written (turn_bytes turn) is.sent is.within is.read;
      all = laws.closed conn.written (turn_bytes turn) (is.sent ++ is.coming) is.all closed;
      follows = is.follows;
      represents = still turn.next;
    }
  where
    still : (next : Option Watch) → ReadInvariant task h c own.unsent is.to (is.sent ++ is.coming) (conn.written ++ turn_bytes turn) (phase_after next)
    still None = tt
    still (Some w) = inr closed
turn_of laws task h m c own conn w turn is will (inl reads_on) =
    let comes : TurnComes task h w.cursor.position turn = will reads_on.own (subst (λ (p : ℕ). p ≤ h.current) (sym reads_on.position) reads_on.come) in
    let last : List ReplyItem = end_sent (has_no_next turn.next) in
    let news : List ReplyItem = lines_sent comes.texts last in
    let written = written_more conn.written reads_on.texts comes.texts turn.lines (has_no_next turn.next) reads_on.is_written comes.lines in
    let plain : All HasNoFeed (reads_on.texts ++ comes.texts) = All-append HasNoFeed reads_on.texts comes.texts (All-weaker IsLine HasNoFeed (λ text is. is.one) reads_on.texts reads_on.lines) comes.plain in
    let items : head 200 ∷ lines_sent (reads_on.texts ++ comes.texts) last ≡ is.sent ++ (is.coming ++ news) =
    ap (λ (l : List ReplyItem). head 200 ∷ l) (lines_are_sent reads_on.texts comes.texts last reads_on.lines) ∙ ap (λ (l : List ReplyItem). l ++ news) (sym reads_on.are) ∙ append_assoc is.sent is.coming news in
    let watches : IsWatchReply (server_of task h) (wanted_by task) is.to news comes.to = subst (λ (p : ℕ). IsWatchReply (server_of task h) (wanted_by task) p news comes.to) reads_on.position comes.watches in
    record {
      within = within_still own.handed conn.written (turn_bytes turn) is.within;
      sent = is.sent;
      coming = is.coming ++ news;
      to = comes.to;
      read = handed_still own.handed conn.written (turn_bytes turn) is.sent is.within is.read;
      all = subst (λ (bytes : List ℕ). Items bytes (is.sent ++ (is.coming ++ news))) (sym written)
          (subst (Items (watch_head 200 ++ chunks (map with_feed (reads_on.texts ++ comes.texts)) (has_no_next turn.next))) items (laws.watch (reads_on.texts ++ comes.texts) (has_no_next turn.next) plain));
      follows = follows_more (server_of task h) (wanted_by task) laws.client m c is.coming news is.to comes.to reads_on.sync is.follows watches;
      represents = goes_on task h c own.unsent comes.to (is.sent ++ (is.coming ++ news)) (conn.written ++ turn_bytes turn) reads_on.texts comes.texts turn.next reads_on.sync reads_on.lines
          (fit_or_close comes.texts last comes.plain) comes.next written (sym items ∙ ap (λ (l : List ReplyItem). head 200 ∷ l) (lines_are_sent reads_on.texts comes.texts last reads_on.lines));
    }

pub served_turn : (laws : Laws) (task : Task) (h : History) (m : ℕ) (c : Client) (own : ClientConnection) (conn : Connection) (w : Watch) (turn : Turn) → conn.phase ≡ watching w
    → (IsTaskWatch task w → w.cursor.position ≤ h.current → TurnComes task h w.cursor.position turn)
    → IsServed task h m c own conn → IsServed task h m c own (with_written conn (turn_bytes turn) (phase_after turn.next))
served_turn laws task h m c own conn w turn watches will is =
    turn_of laws task h m c own conn w turn is will (subst (ReadInvariant task h c own.unsent is.to (is.sent ++ is.coming) conn.written) watches is.represents)

-- ---- the client gets a piece of the reply

-- a piece behind so many bytes, and what stands behind it
piece_parts : (k n : ℕ) (written piece : List ℕ) → take n (drop k written) ≡ piece → written ≡ (take k written ++ piece) ++ drop n (drop k written)
piece_parts k n written piece is =
    sym (take-append-drop k written)
    ∙ ap (λ (l : List ℕ). take k written ++ l) (sym (take-append-drop n (drop k written)) ∙ ap (λ (l : List ℕ). l ++ drop n (drop k written)) is)
    ∙ sym (append_assoc (take k written) piece (drop n (drop k written)))

piece_length : (k : ℕ) (written piece : List ℕ) → k ≤ length written → length (take k written ++ piece) ≡ k + length piece
piece_length k written piece within =
    let both : length (take k written ++ piece) ≡ length (take k written) + length piece = length-append (take k written) piece in
    let first : length (take k written) ≡ k = length-take-le k written within in
    omega (arith, both, first)

piece_within : (k n : ℕ) (written piece : List ℕ) → k ≤ length written → take n (drop k written) ≡ piece → k + length piece ≤ length written
piece_within k n written piece within is =
    let all : length written ≡ length ((take k written ++ piece) ++ drop n (drop k written)) = ap length (piece_parts k n written piece is) in
    let both : length ((take k written ++ piece) ++ drop n (drop k written)) ≡ length (take k written ++ piece) + length (drop n (drop k written)) = length-append (take k written ++ piece) (drop n (drop k written)) in
    let first : length (take k written ++ piece) ≡ k + length piece = piece_length k written piece within in
    omega (arith, all, both, first)

piece_prefix : (k n : ℕ) (written piece : List ℕ) → k ≤ length written → take n (drop k written) ≡ piece → take (k + length piece) written ≡ take k written ++ piece
piece_prefix k n written piece within is =
    ap (take (k + length piece)) (piece_parts k n written piece is)
    ∙ ap (λ (i : ℕ). take i ((take k written ++ piece) ++ drop n (drop k written))) (sym (piece_length k written piece within))
    ∙ take-append_seam (take k written ++ piece) (drop n (drop k written))

-- the client goes on after bytes that it got, and is served on if it still asks
pub record IsReceived (task : Task) (h : History) (m : ℕ) (own : ClientConnection) (conn : Connection) (d : Client) : Type 0 where
  pub highest : ℕ
  pub higher : m ≤ highest
  pub coming : List ReplyItem
  pub to : ℕ
  pub follows : Follows (server_of task h) (wanted_by task) highest d coming to
  pub served : d.is_awaiting_reply ≡ true → IsServed task h highest d own conn

represents_received : (task : Task) (h : History) (c d : Client) (unsent : List ℕ) (to : ℕ) (items others : List ReplyItem) (written : List ℕ) (st : Phase) → (written ≡ [] → ⊥) → (c.sync ≡ streaming → d.sync ≡ streaming)
    → items ≡ others → ReadInvariant task h c unsent to items written st → ReadInvariant task h d unsent to others written st
represents_received task h c d unsent to items others written (waiting prefix) some asks same is = absurd (some is.0)
represents_received task h c d unsent to items others written (watching w) some asks same (inl reads_on) =
    inl (record {
      own = reads_on.own;
      position = reads_on.position;
      come = reads_on.come;
      sync = asks reads_on.sync;
      texts = reads_on.texts;
      lines = reads_on.lines;
      is_written = reads_on.is_written;
      are = sym same ∙ reads_on.are;
    })
represents_received task h c d unsent to items others written (watching w) some asks same (inr closed) = inr (ap has_closed (sym same) ∙ closed)
represents_received task h c d unsent to items others written ended some asks same is = tt
represents_received task h c d unsent to items others written (gone had_ended) some asks same is = tt

pub served_on : (laws : Laws) (task : Task) (h : History) (m : ℕ) (c : Client) (own : ClientConnection) (conn : Connection) (n b : ℕ) (bs : List ℕ) (d : Client) → take n (drop own.handed conn.written) ≡ b ∷ bs
    → Receives true (wanted_by task) c (take own.handed conn.written) (b ∷ bs) d → IsServed task h m c own conn → IsReceived task h m (record own { handed = own.handed + length (b ∷ bs) }) conn d
served_on laws task h m c own conn n b bs d piece (sent, news, before, after, received) is =
    let prefix : List ℕ = take own.handed conn.written in
    let rest : List ℕ = drop n (drop own.handed conn.written) in
    let second : Items (prefix ++ b ∷ bs) (is.sent ++ news) =
    subst (λ (l : List ReplyItem). Items (prefix ++ b ∷ bs) (l ++ news)) (laws.one prefix sent is.sent before is.read) after in
    let whole : Items ((prefix ++ b ∷ bs) ++ rest) (is.sent ++ is.coming) =
    subst (λ (bytes : List ℕ). Items bytes (is.sent ++ is.coming)) (piece_parts own.handed n conn.written (b ∷ bs) piece) is.all in
    let behind = laws.same (prefix ++ b ∷ bs) rest (is.sent ++ news) (is.sent ++ is.coming) second whole in
    let parted : is.coming ≡ news ++ behind.0 = same_rest is.sent is.coming (news ++ behind.0) (behind.1 ∙ append_assoc is.sent news behind.0) in
    let followed : Follows (server_of task h) (wanted_by task) m c (news ++ behind.0) is.to = subst (λ (l : List ReplyItem). Follows (server_of task h) (wanted_by task) m c l is.to) parted is.follows in
    let on : FollowsFrom (server_of task h) (wanted_by task) m (receives_all (wanted_by task) c news) behind.0 is.to = laws.client.is_received (server_of task h) (wanted_by task) m c news behind.0 is.to followed in
    let most : own.handed + length (b ∷ bs) ≤ length conn.written = piece_within own.handed n conn.written (b ∷ bs) is.within piece in
    let some : conn.written ≡ [] → ⊥ = λ none. let long : length conn.written ≡ 0 = ap length none in omega (arith, most, long) in
    subst (IsReceived task h m (record own { handed = own.handed + length (b ∷ bs) }) conn) (sym received) (record {
      highest = on.0;
      higher = on.1;
      coming = behind.0;
      to = is.to;
      follows = on.2;
      served = λ asks. record {
        within = most;
        sent = is.sent ++ news;
        coming = behind.0;
        to = is.to;
        read = subst (λ (bytes : List ℕ). Items bytes (is.sent ++ news)) (sym (piece_prefix own.handed n conn.written (b ∷ bs) is.within piece)) second;
        all = subst (Items conn.written) behind.1 is.all;
        follows = on.2;
        represents = represents_received task h c (receives_all (wanted_by task) c news) own.unsent is.to (is.sent ++ is.coming) ((is.sent ++ news) ++ behind.0) conn.written conn.phase some
            (λ follows. all_stay (wanted_by task) c news follows asks) behind.1 is.represents;
      };
    })
