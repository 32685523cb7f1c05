-- What a watch over a machine writes at its turn are lines to a client.
use Rattle.std.proofs.Common.{ℕ, Bool, true, false, cond, List, [], ◌∷◌, map, take, Option, Some, None, IsUtf8, refl, ap, ap₂, ◌∙◌}
use Rattle.std.specs.Prelude.{IfSome, ◌==◌, decimal, nat_lt, slice_get}
use Rattle.std.specs.List.{AllByRecursion, list_any}
use Rattle.std.proofs.lemmas.List.Elements.{All-cons, All-nil}
use Rattle.serde_json.specs.Written.{compact_text}
use Rattle.api_types.specs.TypesFile.{ServedShape}
use Rattle.history.specs.History.{Change, History, Key, Object, object_by}
use Rattle.history.specs.Seen.{SeenChange, SeenKind}
use Rattle.objects.specs.State.{State}
use Rattle.objects.specs.SystemMetadata.{stamped}
use Rattle.objects.specs.ObjectText.{Identity, object_value}
use Rattle.watchline.specs.declared.event.EventType.{EventType}
use Rattle.watchline.specs.declared.event.EventType.TheVariants as event
use Rattle.watchline.specs.Lines.{bookmark_value, error_line, expired_message, expired_value, line, line_of, text_shown, type_of}
use Rattle.watchline.specs.Watches.{Cursor, bookmarked, coming, expiring, from_history, is_bookmark_due, sending}
use Rattle.line_laws.specs.Shown.{shown, stamp_shown}
use Rattle.line_laws.proofs.Feeds.{text_has_none}
use Rattle.line_laws.proofs.Renumbered.{has_room}
use Rattle.line_laws.proofs.Said.{bookmark_fits, expired_fits, shown_counted, shown_text}
use Rattle.line_laws.proofs.Sent.{marked_line as with_mark, unmarked}
use Rattle.line_laws.proofs.SeenBodies.{AllSeen, Leaves, Stays, all_coming, all_taken}
use Rattle.api_validation.specs.Envelope.{api_version_of}
use Rattle.verbs.specs.Machine.{AreUnicode, IsMachine, IsOfTypes, IsSomeTextAt, identity_of}
use Rattle.verbs.specs.Watching.{bookmarked_as}
use Rattle.httpedge.specs.Watches.{Watch, line_list, bookmark_turned, pumped, ticked, turned}
use Rattle.wireclient.specs.LineLaws.{HasNoFeed}
use Rattle.wire_laws.specs.TurnLines.{AreLines}
use Rattle.wire_laws.proofs.LineTexts.{plain, with_its_feed}

no_lines : AreLines []
no_lines = ([], All-nil HasNoFeed, refl)

one_more : (what : EventType) (text : List ℕ) (lines : List (List ℕ)) → HasNoFeed text → AreLines lines → AreLines (line what text ∷ lines)
one_more what text lines none others = (shown what text ∷ others.0, All-cons HasNoFeed (shown what text) others.0 (plain what text none) others.1, ap₂ (λ x xs. x ∷ xs) (with_its_feed what text) others.2)

-- ---- objects and changes

-- its text is that of some object of a type, under the schema of its time, at a revision that there may be
abbrev IsSent : List ServedShape → Object → Type 0
IsSent types o = (k : Key) × (r : ℕ) × IsSomeTextAt types k r o.body

sent_stays : (types : List ServedShape) → Stays (IsSent types) (λ r. Unit {0})
sent_stays types = record { holds = λ o r low sent. sent }

left_sent : (types : List ServedShape) (k : Key) (r : ℕ) (body : Option (List ℕ)) → IfSome body (IsSomeTextAt types k r) → IfSome (object_by r body) (IsSent types)
left_sent types k r None is = tt
left_sent types k r (Some text) is = (k, r, is)

changes_sent : (types : List ServedShape) (cs : List Change) → AllByRecursion (IsOfTypes types) cs → AllByRecursion (Leaves (IsSent types) (λ r. Unit {0})) cs
changes_sent types [] are = tt
changes_sent types (c ∷ cs) are = ((tt, left_sent types c.key c.revision c.body are.0), changes_sent types cs are.1)

pub coming_sent : (types : List ServedShape) (m : History) (w : Cursor) → IsMachine types m → AllSeen (IsSent types) (coming (from_history m) w)
coming_sent types m w is = all_coming (IsSent types) (λ r. Unit {0}) (sent_stays types) m w (changes_sent types m.changes is.texts)

pub plain_text : (types : List ServedShape) (o : Object) → IsSent types o → (kind : SeenKind) → HasNoFeed (text_shown kind o)
plain_text types o (k, r, text) kind =
    let of : Identity = identity_of text.t k in
    let stood = stamped r text.is_text.system in
    let stamp = stamp_shown kind stood o.revision in
    let state : State = text.is_text.state in
    ap (list_any (λ b. b == 10)) (shown_text kind text.shape of stood state o text.shaped text.is_text.says)
    ∙ text_has_none (object_value text.shape of stamp state) (has_room text.shape of stamp state text.shaped.1 text.is_text.says.well_typed.0 (shown_counted kind stood o.revision text.is_text.says.counted)).encodable

sent_lines : (types : List ServedShape) (xs : List SeenChange) → AllSeen (IsSent types) xs → AreLines (map line_of xs)
sent_lines types [] sent = no_lines
sent_lines types (x ∷ xs) sent = one_more (type_of x.kind) (text_shown x.kind x.object) (map line_of xs) (plain_text types x.object sent.0 x.kind) (sent_lines types xs sent.1)

-- ---- a turn at a pump

expired_line : (position compacted : ℕ) → AreLines (error_line position compacted ∷ [])
expired_line position compacted =
    let value = expired_value (expired_message position compacted) in
    one_more event.Error (compact_text value) [] (text_has_none value (expired_fits (expired_message position compacted)).encodable) no_lines

pub pumped_lines : (types : List ServedShape) (m : History) (max : ℕ) (w : Watch) → IsMachine types m → AreLines (pumped m max w).lines
pumped_lines types m max w is = by_test (nat_lt w.cursor.position m.compacted)
  where
    by_test : (b : Bool) → AreLines (turned w (cond b (expiring (from_history m) w.cursor) (sending (from_history m) max w.cursor))).lines
    by_test true = expired_line w.cursor.position m.compacted
    by_test false =
        sent_lines types (take max (coming (from_history m) w.cursor)) (all_taken (λ (x : SeenChange). IsSent types x.object) max (coming (from_history m) w.cursor) (coming_sent types m w.cursor is))

-- ---- a turn at a tick

marked_line : (api_version kind : List ℕ) (w : Cursor) → AreLines (line_list (bookmarked api_version kind w).line)
marked_line api_version kind w = by_due (is_bookmark_due w)
  where
    by_due : (b : Bool) → AreLines (line_list (cond b (with_mark api_version kind w) (unmarked w)).line)
    by_due true =
        let version = decimal w.position in
        let value = bookmark_value api_version kind version in
        one_more event.Bookmark (compact_text value) [] (text_has_none value (bookmark_fits api_version kind version).encodable) no_lines
    by_due false = no_lines

pub ticked_lines : (types : List ServedShape) (ms : ℕ) (w : Watch) → AreLines (ticked types ms w).lines
ticked_lines types ms w = by_type (slice_get types w.cursor.kind)
  where
    by_type : (o : Option ServedShape) → AreLines (bookmark_turned ms w (bookmarked_as o w.cursor)).lines
    by_type None = no_lines
    by_type (Some t) = marked_line (api_version_of t) t.kind w.cursor

-- ---- texts

unicode_stays : Stays (λ o. IsUtf8 o.body) (λ r. Unit {0})
unicode_stays = record { holds = λ o r low text. text }

left_unicode : (r : ℕ) (body : Option (List ℕ)) → IfSome body IsUtf8 → IfSome (object_by r body) (λ o. IsUtf8 o.body)
left_unicode r None is = tt
left_unicode r (Some text) is = is

changes_unicode : (cs : List Change) → AreUnicode cs → AllByRecursion (Leaves (λ o. IsUtf8 o.body) (λ r. Unit {0})) cs
changes_unicode [] are = tt
changes_unicode (c ∷ cs) are = ((tt, left_unicode c.revision c.body are.0), changes_unicode cs are.1)

pub coming_unicode : (m : History) (w : Cursor) → AreUnicode m.changes → AllByRecursion (λ x. IsUtf8 x.object.body) (coming (from_history m) w)
coming_unicode m w are = all_coming (λ o. IsUtf8 o.body) (λ r. Unit {0}) unicode_stays m w (changes_unicode m.changes are)
