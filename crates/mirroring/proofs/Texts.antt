-- Texts that are written one after another, beside the client whose notices wait.
use Rattle.std.proofs.Common.{◌≡◌, ℕ, true, false, List, [], ◌++◌, Option, Some, None, Result, Ok, Err, is_some, refl, sym, ap, ap₂, subst, ◌∙◌, append_assoc, append-nil}
use Rattle.std.specs.Prelude.{IfErr, IsErrAnd, OnErr, OnOk, flat_map, is_ok}
use Rattle.std.specs.Io.KnownBytes.{Appends, Consumes}
use Rattle.std.proofs.KnownBytes.{Appends-nil, Appends-trans, Consumes-nil, Consumes-trans}
use Rattle.std.proofs.lemmas.Grind.{flat_map-append}
use Rattle.indexer.specs.Objects.{Stored}
use Rattle.wireclient.specs.Reads.{Items, start}
use Rattle.wireclient.specs.Reply.{ReplyItem}
use Rattle.decoder.specs.Wanted.{Wanted}
use Rattle.reflector.specs.Client.{Cache, Client, Notice}
use Rattle.reflector.specs.InformerViews.{InformerRepresents, relist_reason_in}
use Rattle.reflector.specs.Run.{asked, receives_all, taken}
use Rattle.reflector.specs.RelistReasons.{relist_reason_after}
use Rattle.reflector.specs.declared.informer.Informer.{Informer}
use Rattle.reflector.proofs.RelistReasons.{none_while_awaiting_reply, relist_reason_then}
use Rattle.mirroring.specs.Printing.{mirror_text, notice_line, synced_line}
use Rattle.mirroring.specs.Turns.{WritesPrefix, first_with, synced_by, text_between}
use Rattle.mirroring.specs.Pieces.{ReceivedPrefix, ReceivedSoFar, Emits, EmitsPrefix}
use Rattle.mirroring.proofs.Ahead.{ahead, all_ahead, all_taken, received_then, relist_reason_taken}
use Rattle.mirroring.proofs.FirstList.{IsBefore, all_before, all_kept}

-- ---- results

pub on_err : {T E : Type 0} (r : Result T E) (P : Type 0) → P → OnErr r P
on_err (Ok x) P p = tt
on_err (Err e) P p = p

pub on_ok : {T E : Type 0} (r : Result T E) (P : Type 0) → P → OnOk r P
on_ok (Ok x) P p = p
on_ok (Err e) P p = tt

pub ok_then : {T U E F : Type 0} (r : Result T E) (s : Result U F) (P Q : Type 0) → is_ok s ≡ is_ok r → (P → Q) → OnOk r P → OnOk s Q
ok_then (Ok x) (Ok y) P Q same f p = f p
ok_then (Ok x) (Err e) P Q same f p = tt
ok_then (Err e) (Ok y) P Q same f p = absurd cc
ok_then (Err e) (Err d) P Q same f p = tt

-- the error that is handed on
pub error_is : {T E : Type 0} (r : Result T E) (e : E) (P : E → Type 0) → IsErrAnd r (λ x. x ≡ e) → P e → IfErr r P
error_is (Ok x) e P is p = tt
error_is (Err x) e P is p = subst P (sym is) p

-- ---- prefixes

pub prefix_none : (a : Option (List ℕ)) (text : List ℕ) → WritesPrefix a a text
prefix_none a text = ([], text, refl, Appends-nil a)

pub prefix_after : (a b c : Option (List ℕ)) (before more text : List ℕ) → before ++ more ≡ text → Appends a b before → WritesPrefix b c more → WritesPrefix a c text
prefix_after a b c before more text joins first (emitted, rest, is, written) =
    (before ++ emitted, rest, sym joins ∙ ap (λ (t : List ℕ). before ++ t) is ∙ sym (append_assoc before emitted rest), Appends-trans a b c before emitted first written)

pub written_after : (a b c : Option (List ℕ)) (before more text : List ℕ) → before ++ more ≡ text → Appends a b before → Appends b c more → Appends a c text
written_after a b c before more text joins first next = subst (Appends a c) joins (Appends-trans a b c before more first next)

-- ---- two texts

-- the notices of the next text, where the first list comes before all notices
pub text_after : (first : Option ℕ) (b z : Option Cache) (ns ms : List Notice) → (b ≡ None → (first ≡ None) × (ns ≡ []))
    → mirror_text first ns ++ mirror_text (synced_by b z) ms ≡ mirror_text (first_with first b z) (ns ++ ms)
text_after first None z ns ms before =
    let is = before refl in
    ap₂ (λ (f : Option ℕ) (l : List Notice). mirror_text f l ++ mirror_text (synced_by None z) ms) is.0 is.1
    ∙ sym (ap₂ (λ (f : Option ℕ) (l : List Notice). mirror_text (first_with f None z) (l ++ ms)) is.0 is.1)
text_after None (Some now) z ns ms before = sym (flat_map-append notice_line ns ms)
text_after (Some r) (Some now) z ns ms before =
    append_assoc (synced_line (Some r)) (flat_map notice_line ns) (flat_map notice_line ms) ∙ ap (λ (t : List ℕ). synced_line (Some r) ++ t) (sym (flat_map-append notice_line ns ms))

pub kept_not_none : (o : Option Cache) → is_some o ≡ true → o ≡ None → (P : Type 0) → P
kept_not_none None is none P = absurd cc
kept_not_none (Some now) is none P = absurd cc

-- the first list of a part is that of the whole
pub first_still : (a b z : Option Cache) → (is_some a ≡ true → is_some b ≡ true) → (a ≡ None → b ≡ None) → first_with (synced_by a b) b z ≡ synced_by a z
first_still None None z stays none = refl
first_still None (Some now) z stays none = let is : Some now ≡ None = none refl in absurd cc
first_still (Some was) None z stays none = let is : false ≡ true = stays refl in absurd cc
first_still (Some was) (Some now) z stays none = refl

-- nothing is told of what was only asked
pub nothing_emitted : (c : Client) → c.notices ≡ [] → text_between c (asked c) ≡ []
nothing_emitted c none = go c.cache
  where
    go : (o : Option Cache) → mirror_text (synced_by o o) c.notices ≡ []
    go None = ap (mirror_text None) none
    go (Some now) = ap (mirror_text None) none

-- ---- a part of a reply, and more of it

module _ (wanted : Wanted) (c : Client) (items response : List ReplyItem) (none : c.notices ≡ []) where
  abbrev now : Client
  now = receives_all wanted (asked c) items

  abbrev later : Client
  later = receives_all wanted (taken now) response

  abbrev whole : Client
  whole = receives_all wanted (asked c) (items ++ response)

  pub is_ahead : whole ≡ ahead now.notices later
  is_ahead = received_then wanted (asked c) items response ∙ ap (λ (d : Client). receives_all wanted d response) (sym (all_taken now)) ∙ all_ahead now.notices wanted (taken now) response

  before_now : c.cache ≡ None → IsBefore now
  before_now is = all_before wanted (asked c) items (λ _. none, λ _. is)

  stays_now : is_some c.cache ≡ true → is_some now.cache ≡ true
  stays_now is = all_kept wanted (asked c) items is

  -- no notice comes before the first list
  pub none_before : now.cache ≡ None → now.notices ≡ []
  none_before is = go c.cache refl
    where
      go : (o : Option Cache) → c.cache ≡ o → now.notices ≡ []
      go None at = (before_now at).0 is
      go (Some x) at = kept_not_none now.cache (stays_now (ap is_some at)) is _

  pub synced_none : now.cache ≡ None → synced_by c.cache now.cache ≡ None
  synced_none is = go c.cache refl
    where
      go : (o : Option Cache) → c.cache ≡ o → synced_by o now.cache ≡ None
      go None at = ap (synced_by None) is
      go (Some x) at = refl

  pub texts_join : now.is_awaiting_reply ≡ true → text_between c now ++ text_between (taken now) later ≡ text_between c whole
  texts_join asks =
      text_after (synced_by c.cache now.cache) now.cache later.cache now.notices later.notices (λ is. (synced_none is, none_before is))
      ∙ ap (λ (f : Option ℕ). mirror_text f (now.notices ++ later.notices)) (first_still c.cache now.cache later.cache stays_now (λ is. (before_now is).1 asks))
      ∙ sym (ap (text_between c) is_ahead)

  -- the trouble of all is that of what came last
  pub relist_reasons_join : now.is_awaiting_reply ≡ true → relist_reason_after wanted (taken now) None response ≡ relist_reason_after wanted (asked c) None (items ++ response)
  relist_reasons_join asks =
      relist_reason_taken wanted now None response ∙ ap (λ t. relist_reason_after wanted now t response) (sym (none_while_awaiting_reply wanted (asked c) items asks))
      ∙ sym (relist_reason_then wanted (asked c) None items response)

-- ---- a piece

pub gives_up : {T E : Type 0} (r : Result T E) (wanted : Wanted) (c : Client) (bytes : List ℕ) (items : List ReplyItem) (a : Option (List ℕ)) → Items bytes items
    → OnErr r (EmitsPrefix wanted c bytes items a a)
gives_up r wanted c bytes items a is =
    on_err r _
    ([], [], subst (λ (bs : List ℕ). Items bs (items ++ [])) (sym (append-nil bytes)) (subst (Items bytes) (sym (append-nil items)) is), prefix_none a (text_between c c))

pub emits_prefix : {T E : Type 0} (r : Result T E) (wanted : Wanted) (c : Client) (bytes : List ℕ) (items : List ReplyItem) (piece : List ℕ) (response : List ReplyItem) (a b : Option (List ℕ)) (text : List ℕ)
    → Items (bytes ++ piece) (items ++ response) → text ≡ text_between c (receives_all wanted c response) → OnErr r (WritesPrefix a b text) → OnErr r (EmitsPrefix wanted c bytes items a b)
emits_prefix (Ok t) wanted c bytes items piece response a b text is same prefix = tt
emits_prefix (Err f) wanted c bytes items piece response a b text is same prefix = (piece, response, is, subst (WritesPrefix a b) same prefix)

pub emits_all : {I T U E F : Type 0} (r : Result T E) (s : Result U F) (keys : I → Stored → List (List ℕ)) (wanted : Wanted) (c : Client) (bytes : List ℕ) (items : List ReplyItem) (piece : List ℕ) (i : Informer I)
    (response : List ReplyItem) (a b : Option (List ℕ)) (text : List ℕ) → is_ok s ≡ is_ok r → Items (bytes ++ piece) (items ++ response) → InformerRepresents keys i (taken (receives_all wanted c response)) (bytes ++ piece) (items ++ response)
    → text ≡ text_between c (receives_all wanted c response) → relist_reason_in i ≡ relist_reason_after wanted c None response → OnOk r (Appends a b text) → OnOk s (Emits keys wanted c bytes items piece i a b)
emits_all r s keys wanted c bytes items piece i response a b text same is runs emitted why written =
    ok_then r s (Appends a b text) _ same (λ all. (response, is, runs, subst (Appends a b) emitted all, why)) written

-- ---- all that came so far, and more

pub received_none : {I : Type 0} (keys : I → Stored → List (List ℕ)) (wanted : Wanted) (c : Client) (i : Informer I) (x a : Option (List ℕ)) → c.notices ≡ [] → InformerRepresents keys i (asked c) [] []
    → relist_reason_in i ≡ None → ReceivedSoFar keys wanted c i x x a a
received_none keys wanted c i x a none runs calm = (
  [],
  [],
  (start, (refl, refl)),
  Consumes-nil x,
  subst (λ (ns : List Notice). InformerRepresents keys i (record { cache = c.cache; sync = c.sync; is_awaiting_reply = true; notices = ns }) [] []) none runs,
  subst (Appends a a) (sym (nothing_emitted c none)) (Appends-nil a),
  calm,
)

pub received_more : {I : Type 0} (keys : I → Stored → List (List ℕ)) (wanted other : Wanted) (c : Client) (i : Informer I) (x y z a b d : Option (List ℕ)) (bytes : List ℕ) (items : List ReplyItem) (piece : List ℕ)
    → other ≡ wanted → c.notices ≡ [] → (receives_all wanted (asked c) items).is_awaiting_reply ≡ true → Consumes x y bytes → Appends a b (text_between c (receives_all wanted (asked c) items)) → Consumes y z piece
    → Emits keys other (taken (receives_all wanted (asked c) items)) bytes items piece i b d → ReceivedSoFar keys wanted c i x z a d
received_more keys wanted other c i x y z a b d bytes items piece same none asks read emitted more emits =
    go (subst (λ (w : Wanted). Emits keys w (taken (receives_all wanted (asked c) items)) bytes items piece i b d) same emits)
  where
    go : Emits keys wanted (taken (receives_all wanted (asked c) items)) bytes items piece i b d → ReceivedSoFar keys wanted c i x z a d
    go (response, is, runs, written, why) = (
      bytes ++ piece,
      items ++ response,
      is,
      Consumes-trans x y z bytes piece read more,
      subst (λ (e : Client). InformerRepresents keys i (taken e) (bytes ++ piece) (items ++ response)) (sym (is_ahead wanted c items response none)) runs,
      written_after a b d _ _ _ (texts_join wanted c items response none asks) emitted written,
      why ∙ relist_reasons_join wanted c items response none asks,
    )

pub prefix_more : (wanted other : Wanted) (c : Client) (a b d : Option (List ℕ)) (bytes : List ℕ) (items : List ReplyItem) → other ≡ wanted → c.notices ≡ [] → (receives_all wanted (asked c) items).is_awaiting_reply ≡ true
    → Appends a b (text_between c (receives_all wanted (asked c) items)) → EmitsPrefix other (taken (receives_all wanted (asked c) items)) bytes items b d → ReceivedPrefix wanted c a d
prefix_more wanted other c a b d bytes items same none asks emitted emits =
    let (more, response, is, prefix) = subst (λ (w : Wanted). EmitsPrefix w (taken (receives_all wanted (asked c) items)) bytes items b d) same emits in
    (bytes ++ more, items ++ response, is, prefix_after a b d _ _ _ (texts_join wanted c items response none asks) emitted prefix)

pub prefix_all : {I : Type 0} (keys : I → Stored → List (List ℕ)) (wanted : Wanted) (c : Client) (i : Informer I) (x y a b : Option (List ℕ)) → ReceivedSoFar keys wanted c i x y a b → ReceivedPrefix wanted c a b
prefix_all keys wanted c i x y a b (bytes, items, is, read, runs, written, why) =
    let text = text_between c (receives_all wanted (asked c) items) in
    (bytes, items, is, (text, [], sym (append-nil text), written))
