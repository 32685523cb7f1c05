-- Lines and their events.
use Rattle.std.proofs.Common.{◌≡◌, ◌≢◌, ◌∙◌, ◌<◌, ◌+◌, ◌&&◌, ◌≤◌, ◌==◌, ℕ, suc, Bool, true, false, cond, not, nat_le, ap, ap₂, refl, sym, subst, arith, inl, inr, List, [], ◌∷◌, ◌++◌, length, map, take, drop, Option, Some, None, Result, Ok, Err, option_map, codes}
use Rattle.std.specs.Prelude.{option_and_then, slice_index_or}
use Rattle.std.specs.Borrow.{Bor}
use Rattle.std.specs.List.{AllZip, filter}
use Rattle.std.specs.Result.{result_ok}
use Rattle.std.specs.Str.{bytes_eq}
use Rattle.std.proofs.lemmas.Bool.{le-leb}
use Rattle.std.proofs.lemmas.Bool.Decides.{eqb_tells, leb_tells}
use Rattle.std.proofs.lemmas.List.{take_more, take-append-drop, map-append, length-map, length-take-le}
use Rattle.std.proofs.Common.{drop-cons, append-nil}
use Rattle.std.proofs.lemmas.List.Elements.{filter-append}
use Rattle.std.proofs.lemmas.List.Sums.{AllPass-from_list_all, list_all-from_AllPass}
use Rattle.std.proofs.lemmas.Slice.Eq.{bytes_eq-Decides}
use Rattle.serde_json.specs.Data.{unsigned, negative, float, Data, null, boolean, number, string, array, object, Items, no_items, item, Members, no_members, member}
use Rattle.serde_json.specs.Find.{as_array, as_bool, as_object, as_str}
use Rattle.serde_json.specs.Read.{read as read_json}
use Rattle.hex.specs.Hex.{decode_of}
use Rattle.hex.specs.declared.error.FromHexError.{FromHexError}
use Rattle.httpedge.specs.Steps.{opens, comes, goes, pumps, ticks, compacts, retypes}
use Rattle.world_laws.specs.World.{WorldEvent, other, request, send, to_server, to_client, cut, restart, reconcile}
use Rattle.scripts.specs.Requests.{Apply}
use Rattle.scripts.specs.Script.{AreEvents, IsFirstBad, IsTarget, IsEventLine, IsEventObject, ReadsLine, apply_object, is_filled, only, pair, whole}
use Rattle.scripts.specs.ScriptSteps.{Line, Makes, applies, apply_in, brings, client_named, comes_in, digits_in, event_named, happens, if_target, is_last, is_last_item, is_target, line_in, line_named, line_of, next_item, next_named, number_in, numbered, only_member, pumps_in, text_in, with_items, with_rest}

some≢none : {X : Type 0} (x : X) → Some x ≡ None → ⊥
some≢none x e = cc

-- ---- what a step found

and_then-Some : {X Y : Type 0} (f : X → Option Y) (o : Option X) (y : Y) → option_and_then f o ≡ Some y → (x : X) × (o ≡ Some x) × (f x ≡ Some y)
and_then-Some f None y e = cc
and_then-Some f (Some x) y e = (x, refl, e)

map-Some : {X Y : Type 0} (f : X → Y) (o : Option X) (y : Y) → option_map f o ≡ Some y → (x : X) × (o ≡ Some x) × (f x ≡ y)
map-Some f None y e = cc
map-Some f (Some x) y e = (x, refl, cc)

named : (name : List ℕ) (ms : Members) (p : Data × Members) → next_named name ms ≡ Some p → ms ≡ member name p.0 p.1
named name no_members p e = cc
named name (member k d ms) p e = go (bytes_eq k name) refl
  where
    go : (b : Bool) → bytes_eq k name ≡ b → member k d ms ≡ member name p.0 p.1
    go true t =
        let same : Some (d, ms) ≡ Some p = rw t at e in
        let is : (d, ms) ≡ p = cc in
        ap₂ (λ (l : List ℕ) (q : Data × Members). member l q.0 q.1) ((bytes_eq-Decides k name).0 t) is
    go false t =
        let bad : None ≡ Some p = rw t at e in
        cc

-- the member of this name whose data show x, and the members after it
found : {X : Type 0} (f : Data → Option X) (name : List ℕ) (ms : Members) (q : X × Members) → with_rest f (next_named name ms) ≡ Some q
    → (d : Data) × (ms ≡ member name d q.1) × (f d ≡ Some q.0)
found f name ms q e =
    let p = and_then-Some (λ (p : Data × Members). option_map (λ x. (x, p.1)) (f p.0)) (next_named name ms) q e in
    let x = map-Some (λ x. (x, p.0.1)) (f p.0.0) q p.2 in
    (p.0.0, named name ms p.0 p.1 ∙ ap (λ r. member name p.0.0 r) (ap (λ y. y.1) x.2), x.1 ∙ ap (λ y. Some y.0) x.2)

truth : (d : Data) (b : Bool) → as_bool d ≡ Some b → d ≡ boolean b
truth null b e = cc
truth (boolean c) b e = cc
truth (number n) b e = cc
truth (string s) b e = cc
truth (array ds) b e = cc
truth (object ms) b e = cc

text : (d : Data) (s : List ℕ) → as_str d ≡ Some s → d ≡ string s
text null s e = cc
text (boolean c) s e = cc
text (number n) s e = cc
text (string t) s e = cc
text (array ds) s e = cc
text (object ms) s e = cc

inner : (d : Data) (ms : Members) → as_object d ≡ Some ms → d ≡ object ms
inner null ms e = cc
inner (boolean c) ms e = cc
inner (number n) ms e = cc
inner (string t) ms e = cc
inner (array ds) ms e = cc
inner (object ns) ms e = cc

last : {X : Type 0} (x y : X) (ms : Members) → is_last x ms ≡ Some y → (ms ≡ no_members) × (x ≡ y)
last x y no_members e = (refl, cc)
last x y (member k d ms) e = cc

-- ---- targets

byte_passes : (b : ℕ) → (nat_le 33 b && nat_le b 126 && not (b == 63)) ≡ true → (33 ≤ b) × (b ≤ 126) × (b ≢ 63)
byte_passes b e = elim (leb_tells 33 b) [
  | inl low ↦ elim (leb_tells b 126) [
    | inl high ↦ elim (eqb_tells b 63) [
      | inl same ↦
          let bad : false ≡ true = rw (low.0, high.0, same.0) at e in
          cc
      | inr differ ↦ (low.1, high.1, differ.1)
    ]
    | inr high ↦
        let bad : false ≡ true = rw (low.0, high.0) at e in
        cc
  ]
  | inr low ↦
      let bad : false ≡ true = rw low.0 at e in
      cc
]

byte_fits : (b : ℕ) → (33 ≤ b) × (b ≤ 126) × (b ≢ 63) → (nat_le 33 b && nat_le b 126 && not (b == 63)) ≡ true
byte_fits b h = elim (eqb_tells b 63) [
  | inl same ↦ absurd (h.2 same.1)
  | inr differ ↦ rw (le-leb 33 b h.0, le-leb b 126 h.1, differ.0) refl
]

target_is : (s : List ℕ) → is_target s ≡ true → IsTarget s
target_is s e = λ k d lt. byte_passes _ (AllPass-from_list_all _ s e k d lt)

is_target_of : (s : List ℕ) → IsTarget s → is_target s ≡ true
is_target_of s h = list_all-from_AllPass _ s (λ k d lt. byte_fits _ (h k d lt))

-- ---- whose line a line is

checked : (a b : Apply) → if_target a ≡ Some b → (a ≡ b) × IsTarget b.target
checked a b e = go (is_target a.target) refl
  where
    go : (t : Bool) → is_target a.target ≡ t → (a ≡ b) × IsTarget b.target
    go true t =
        let same : Some a ≡ Some b = rw t at e in
        let is : a ≡ b = cc in
        (is, subst (λ (x : Apply). IsTarget x.target) is (target_is a.target t))
    go false t =
        let bad : None ≡ Some b = rw t at e in
        cc

abbrev members_of_apply : Apply → Members
members_of_apply a = member (codes "body") a.body (member (codes "force") (boolean a.force) (member (codes "manager") (string a.manager) (member (codes "target") (string a.target) no_members)))

apply_is : (ms : Members) (a : Apply) → apply_in ms ≡ Some a → (ms ≡ members_of_apply a) × IsTarget a.target
apply_is ms a e =
    let b = and_then-Some _ _ a e in
    let body = named (codes "body") ms b.0 b.1 in
    let f = and_then-Some _ _ a b.2 in
    let force = found as_bool (codes "force") b.0.1 f.0 f.1 in
    let m = and_then-Some _ _ a f.2 in
    let manager = found as_str (codes "manager") f.0.1 m.0 m.1 in
    let t = and_then-Some _ _ a m.2 in
    let target = found as_str (codes "target") m.0.1 t.0 t.1 in
    let l = and_then-Some if_target _ a t.2 in
    let end = last _ l.0 t.0.1 l.1 in
    let fit = checked l.0 a l.2 in
    let is : record { body = b.0.0; force = f.0.0; manager = m.0.0; target = t.0.0 } ≡ a = end.1 ∙ fit.0 in
    let tail : t.0.1 ≡ no_members = end.0 in
    let all : ms ≡ member (codes "body") b.0.0 (member (codes "force") (boolean f.0.0) (member (codes "manager") (string m.0.0) (member (codes "target") (string t.0.0) no_members))) =
    body ∙ ap (member (codes "body") b.0.0) (force.1 ∙ ap₂ (member (codes "force")) (truth force.0 f.0.0 force.2)
    (manager.1 ∙ ap₂ (member (codes "manager")) (text manager.0 m.0.0 manager.2)
    (target.1 ∙ ap₂ (member (codes "target")) (text target.0 t.0.0 target.2) tail))) in
    (all ∙ ap members_of_apply is, fit.1)

counted : (d : Data) (n : ℕ) → number_in d ≡ Some n → d ≡ number (unsigned n)
counted null n e = cc
counted (boolean c) n e = cc
counted (number (unsigned m)) n e = cc
counted (number (negative z)) n e = cc
counted (number (float x)) n e = cc
counted (string t) n e = cc
counted (array ds) n e = cc
counted (object ms) n e = cc

listed : (d : Data) (ds : Items) → as_array d ≡ Some ds → d ≡ array ds
listed null ds e = cc
listed (boolean c) ds e = cc
listed (number n) ds e = cc
listed (string t) ds e = cc
listed (array es) ds e = cc
listed (object ms) ds e = cc

-- the first item, whose data show x, and the items after it
leading : {X : Type 0} (f : Data → Option X) (ds : Items) (q : X × Items) → with_items f (next_item ds) ≡ Some q → (d : Data) × (ds ≡ item d q.1) × (f d ≡ Some q.0)
leading f no_items q e = cc
leading f (item d ds) q e = let x = map-Some (λ x. (x, ds)) (f d) q e in (d, ap (item d) (ap (λ y. y.1) x.2), x.1 ∙ ap (λ y. Some y.0) x.2)

last_item : {X : Type 0} (x y : X) (ds : Items) → is_last_item x ds ≡ Some y → (ds ≡ no_items) × (x ≡ y)
last_item x y no_items e = (refl, cc)
last_item x y (item d ds) e = cc

comes_is : (ds : Items) (p : ℕ × List ℕ) → comes_in ds ≡ Some p → array ds ≡ pair (whole p.0) (string p.1)
comes_is ds p is =
    let k = and_then-Some _ _ p is in
    let first = leading number_in ds k.0 k.1 in
    let t = and_then-Some _ _ p k.2 in
    let second = leading as_str k.0.1 t.0 t.1 in
    let end = last_item _ p t.0.1 t.2 in
    let all : ds ≡ item (whole k.0.0) (item (string t.0.0) no_items) = first.1 ∙ ap₂ item (counted first.0 k.0.0 first.2) (second.1 ∙ ap₂ item (text second.0 t.0.0 second.2) end.0) in
    ap array all ∙ ap (λ (q : ℕ × List ℕ). pair (whole q.0) (string q.1)) end.1

text_is : (ds : Items) (e : WorldEvent) → text_in ds ≡ Some e → IsEventObject (only (codes "in") (array ds)) e
text_is ds e is =
    let p = map-Some (λ (q : ℕ × List ℕ). other (comes q.0 q.1)) (comes_in ds) e is in
    subst (IsEventObject (only (codes "in") (array ds))) p.2 (inl (ap (only (codes "in")) (comes_is ds p.0 p.1)))

digits_made : (d : Data) (k : ℕ) (digits : List ℕ) (e : WorldEvent) (r : Result (List ℕ) FromHexError) → d ≡ pair (whole k) (string digits) → decode_of digits ≡ r
    → Some e ≡ option_map (λ bytes. other (comes k bytes)) (result_ok r) → IsEventObject (only (codes "bytes") d) e
digits_made d k digits e (Ok bytes) is decoded made =
    let same : other (comes k bytes) ≡ e = cc in
    subst (IsEventObject (only (codes "bytes") d)) same (inr (digits, ap (only (codes "bytes")) is, decoded))
digits_made d k digits e (Err why) is decoded made = cc

digits_are : (ds : Items) (l : Line) (e : WorldEvent) → digits_in ds ≡ Some l → Makes l (Some e) → IsEventObject (only (codes "bytes") (array ds)) e
digits_are ds l e is makes =
    let p = map-Some (λ (q : ℕ × List ℕ). brings q.0 q.1) (comes_in ds) l is in
    digits_made (array ds) p.0.0 p.0.1 e (decode_of p.0.1) (comes_is ds p.0 p.1) refl (subst (λ (x : Line). Makes x (Some e)) (sym p.2) makes)

pumps_is : (ds : Items) (e : WorldEvent) → pumps_in ds ≡ Some e → IsEventObject (only (codes "pump") (array ds)) e
pumps_is ds e is =
    let k = and_then-Some _ _ e is in
    let first = leading number_in ds k.0 k.1 in
    let n = and_then-Some _ _ e k.2 in
    let second = leading number_in k.0.1 n.0 n.1 in
    let end = last_item _ e n.0.1 n.2 in
    let all : ds ≡ item (whole k.0.0) (item (whole n.0.0) no_items) = first.1 ∙ ap₂ item (counted first.0 k.0.0 first.2) (second.1 ∙ ap₂ item (counted second.0 n.0.0 second.2) end.0) in
    subst (IsEventObject (only (codes "pump") (array ds))) end.1 (ap (λ (items : Items). only (codes "pump") (array items)) all)

the_only : (ms : Members) (p : List ℕ × Data) → only_member ms ≡ Some p → object ms ≡ only p.0 p.1
the_only no_members p e = cc
the_only (member k d ms) p e = let l = last (k, d) p ms e in ap₂ (λ (q : List ℕ × Data) r. object (member q.0 q.1 r)) l.1 l.0

-- the member has the name and the value of the event's object
named_so : (name k : List ℕ) (d x : Data) (e : WorldEvent) → bytes_eq name k ≡ true → d ≡ x → IsEventObject (only k x) e → IsEventObject (only name d) e
named_so name k d x e named value says =
    subst (λ (n : List ℕ). IsEventObject (only n d) e) (sym ((bytes_eq-Decides name k).0 named)) (subst (λ (v : Data). IsEventObject (only k v) e) (sym value) says)

numbered_is : (name : List ℕ) (n : ℕ) (e : WorldEvent) → numbered name n ≡ Some e → IsEventObject (only name (whole n)) e
numbered_is name n e is =
    go (bytes_eq name (codes "open")) (bytes_eq name (codes "gone")) (bytes_eq name (codes "tick")) (bytes_eq name (codes "compact")) (bytes_eq name (codes "toServer")) (bytes_eq name (codes "toClient"))
    refl refl refl refl refl refl is
  where
    one : (k : List ℕ) (f : WorldEvent) → bytes_eq name k ≡ true → f ≡ e → IsEventObject (only k (whole n)) f → IsEventObject (only name (whole n)) e
    one k f named is says = named_so name k (whole n) (whole n) e named refl (subst (IsEventObject (only k (whole n))) is says)

    go : (o g t p s c : Bool) → bytes_eq name (codes "open") ≡ o → bytes_eq name (codes "gone") ≡ g → bytes_eq name (codes "tick") ≡ t → bytes_eq name (codes "compact") ≡ p
        → bytes_eq name (codes "toServer") ≡ s → bytes_eq name (codes "toClient") ≡ c
        → cond o (Some (other (opens n))) (cond g (Some (other (goes n))) (cond t (Some (other (ticks n))) (cond p (Some (other (compacts n))) (cond s (Some (to_server n)) (cond c (Some (to_client n)) None))))) ≡ Some e
        → IsEventObject (only name (whole n)) e
    go true g t p s c ot gt it pt st ct h = one (codes "open") (other (opens n)) ot (cc) refl
    go false true t p s c ot gt it pt st ct h = one (codes "gone") (other (goes n)) gt (cc) refl
    go false false true p s c ot gt it pt st ct h = one (codes "tick") (other (ticks n)) it (cc) refl
    go false false false true s c ot gt it pt st ct h = one (codes "compact") (other (compacts n)) pt (cc) refl
    go false false false false true c ot gt it pt st ct h = one (codes "toServer") (to_server n) st (cc) refl
    go false false false false false true ot gt it pt st ct h = one (codes "toClient") (to_client n) ct (cc) refl
    go false false false false false false ot gt it pt st ct h = cc

client_is : (name : List ℕ) (e : WorldEvent) → client_named name ≡ Some e → IsEventObject (only (codes "client") (string name)) e
client_is name e is =
    go (bytes_eq name (codes "send")) (bytes_eq name (codes "cut")) (bytes_eq name (codes "restart")) (bytes_eq name (codes "reconcile")) refl refl refl refl is
  where
    one : (k : List ℕ) (f : WorldEvent) → bytes_eq name k ≡ true → f ≡ e → IsEventObject (only (codes "client") (string k)) f → IsEventObject (only (codes "client") (string name)) e
    one k f named is says =
        subst (IsEventObject (only (codes "client") (string name))) is
        (subst (λ (n : List ℕ). IsEventObject (only (codes "client") (string n)) f) (sym ((bytes_eq-Decides name k).0 named)) says)

    go : (s c r y : Bool) → bytes_eq name (codes "send") ≡ s → bytes_eq name (codes "cut") ≡ c → bytes_eq name (codes "restart") ≡ r → bytes_eq name (codes "reconcile") ≡ y
        → cond s (Some send) (cond c (Some cut) (cond r (Some restart) (cond y (Some reconcile) None))) ≡ Some e → IsEventObject (only (codes "client") (string name)) e
    go true c r y st ct rt yt h = one (codes "send") send st (cc) refl
    go false true r y st ct rt yt h = one (codes "cut") cut ct (cc) refl
    go false false true y st ct rt yt h = one (codes "restart") restart rt (cc) refl
    go false false false true st ct rt yt h = one (codes "reconcile") reconcile yt (cc) refl
    go false false false false st ct rt yt h = cc

named_is : (name : List ℕ) (d : Data) (e : WorldEvent) → event_named name d ≡ Some e → IsEventObject (only name d) e
named_is name d e is = go (bytes_eq name (codes "in")) (bytes_eq name (codes "pump")) (bytes_eq name (codes "client")) refl refl refl is
  where
    go : (i p c : Bool) → bytes_eq name (codes "in") ≡ i → bytes_eq name (codes "pump") ≡ p → bytes_eq name (codes "client") ≡ c
        → cond i (option_and_then text_in (as_array d))
        (cond p (option_and_then pumps_in (as_array d)) (cond c (option_and_then client_named (as_str d)) (option_and_then (numbered name) (number_in d)))) ≡ Some e
        → IsEventObject (only name d) e
    go true p c it pt ct h =
        let ds = and_then-Some text_in _ e h in
        named_so name (codes "in") d (array ds.0) e it (listed d ds.0 ds.1) (text_is ds.0 e ds.2)
    go false true c it pt ct h =
        let ds = and_then-Some pumps_in _ e h in
        named_so name (codes "pump") d (array ds.0) e pt (listed d ds.0 ds.1) (pumps_is ds.0 e ds.2)
    go false false true it pt ct h =
        let s = and_then-Some client_named _ e h in
        named_so name (codes "client") d (string s.0) e ct (text d s.0 s.1) (client_is s.0 e s.2)
    go false false false it pt ct h =
        let n = and_then-Some (numbered name) _ e h in
        subst (λ (v : Data). IsEventObject (only name v) e) (sym (counted d n.0 n.1)) (numbered_is name n.0 e n.2)

some_one : {X : Type 0} (x y : X) → Some x ≡ Some y → x ≡ y
some_one x y e = cc

named_line_is : (name : List ℕ) (d : Data) (l : Line) (e : WorldEvent) → line_named name d ≡ Some l → Makes l (Some e) → IsEventObject (only name d) e
named_line_is name d l e is makes = go (bytes_eq name (codes "apply")) (bytes_eq name (codes "bytes")) (bytes_eq name (codes "types")) refl refl refl is
  where
    go : (a b t : Bool) → bytes_eq name (codes "apply") ≡ a → bytes_eq name (codes "bytes") ≡ b → bytes_eq name (codes "types") ≡ t
        → cond a (option_map applies (option_and_then apply_in (as_object d))) (cond b (option_and_then digits_in (as_array d)) (cond t (Some (happens (other (retypes d)))) (option_map happens (event_named name d)))) ≡ Some l
        → IsEventObject (only name d) e
    go true b t at bt yt h =
        let a = map-Some applies _ l h in
        let ms = and_then-Some apply_in _ a.0 a.1 in
        let said = apply_is ms.0 a.0 ms.2 in
        let made = subst (λ (x : Line). Makes x (Some e)) (sym a.2) makes in
        subst (IsEventObject (only name d)) (sym (some_one e (request made.0) made.2))
        (named_so name (codes "apply") d (apply_object a.0) (request made.0) at (inner d ms.0 ms.1 ∙ ap object said.0) (a.0, refl, said.1, made.1))
    go false true t at bt yt h =
        let ds = and_then-Some digits_in _ l h in
        named_so name (codes "bytes") d (array ds.0) e bt (listed d ds.0 ds.1) (digits_are ds.0 l e ds.2 makes)
    go false false true at bt yt h =
        let same : happens (other (retypes d)) ≡ l = cc in
        let made = subst (λ (x : Line). Makes x (Some e)) (sym same) makes in
        subst (IsEventObject (only name d)) (sym (some_one e (other (retypes d)) made)) (ap (λ (n : List ℕ). only n d) ((bytes_eq-Decides name (codes "types")).0 yt))
    go false false false at bt yt h =
        let x = map-Some happens _ l h in
        let made = subst (λ (y : Line). Makes y (Some e)) (sym x.2) makes in
        subst (IsEventObject (only name d)) (sym (some_one e x.0 made)) (named_is name d x.0 x.1)

line_is : (d : Data) (l : Line) (e : WorldEvent) → line_in d ≡ Some l → Makes l (Some e) → IsEventObject d e
line_is d l e is makes =
    let p = and_then-Some _ _ l is in
    let ms = and_then-Some only_member _ p.0 p.1 in
    subst (λ (x : Data). IsEventObject x e) (sym (inner d ms.0 ms.1 ∙ the_only ms.0 p.0 ms.2)) (named_line_is p.0.0 p.0.1 l e p.2 makes)

says_event : (text : List ℕ) (l : Line) (e : WorldEvent) → line_of text ≡ Some l → Makes l (Some e) → IsEventLine text e
says_event text l e is makes =
    let d = and_then-Some line_in (read_json text) l is in
    (d.0, d.1, line_is d.0 l e d.2 makes)

-- a line that is an event's says what makes it
Says : List ℕ → WorldEvent → Type 0
Says text e = (l : Line) × (line_of text ≡ Some l) × Makes l (Some e)

brought : (text digits : List ℕ) (k : ℕ) (bytes : List ℕ) (d : Data) → read_json text ≡ Some d → d ≡ only (codes "bytes") (pair (whole k) (string digits)) → decode_of digits ≡ Ok bytes → Says text (other (comes k bytes))
unfolding Says
brought text digits k bytes d reads is decoded =
    (brings k digits, rw (reads, is) refl, sym (ap (λ (r : Result (List ℕ) FromHexError). option_map (λ bs. other (comes k bs)) (result_ok r)) decoded))

event_said : (text : List ℕ) (e : WorldEvent) → IsEventLine text e → Says text e
unfolding Says
event_said text (other (opens k)) (d, reads, is) = (happens (other (opens k)), rw (reads, is) refl, refl)
event_said text (other (comes k bytes)) (d, reads, inl is) = (happens (other (comes k bytes)), rw (reads, is) refl, refl)
event_said text (other (comes k bytes)) (d, reads, inr (digits, is, decoded)) = brought text digits k bytes d reads is decoded
event_said text (other (goes k)) (d, reads, is) = (happens (other (goes k)), rw (reads, is) refl, refl)
event_said text (other (pumps k max)) (d, reads, is) = (happens (other (pumps k max)), rw (reads, is) refl, refl)
event_said text (other (ticks ms)) (d, reads, is) = (happens (other (ticks ms)), rw (reads, is) refl, refl)
event_said text (other (compacts c)) (d, reads, is) = (happens (other (compacts c)), rw (reads, is) refl, refl)
event_said text (other (retypes file)) (d, reads, is) = (happens (other (retypes file)), rw (reads, is) refl, refl)
event_said text (request bytes) (d, reads, (a, is, target, asked)) = (applies a, rw (reads, is, is_target_of a.target target) refl, (bytes, asked, refl))
event_said text send (d, reads, is) = (happens send, rw (reads, is) refl, refl)
event_said text (to_server n) (d, reads, is) = (happens (to_server n), rw (reads, is) refl, refl)
event_said text (to_client n) (d, reads, is) = (happens (to_client n), rw (reads, is) refl, refl)
event_said text cut (d, reads, is) = (happens cut, rw (reads, is) refl, refl)
event_said text restart (d, reads, is) = (happens restart, rw (reads, is) refl, refl)
event_said text reconcile (d, reads, is) = (happens reconcile, rw (reads, is) refl, refl)

-- what makes no event makes none
makes_one : (l : Line) (e : WorldEvent) → Makes l None → Makes l (Some e) → ⊥
makes_one (applies a) e none one = some≢none _ (sym none.2)
makes_one (brings k digits) e none one = some≢none e (one ∙ sym none)
makes_one (happens x) e none one = some≢none x (sym none)

same_line : (l m : Line) → Some l ≡ Some m → l ≡ m
same_line l m e = cc

pub reads_some : (text : List ℕ) (l : Line) (o : Option WorldEvent) → line_of text ≡ Some l → Makes l o → ReadsLine text o
unfolding Says
reads_some text l (Some e) is makes = says_event text l e is makes
reads_some text l None is makes = λ e says.
    let said = event_said text e says in
    makes_one l e makes (subst (λ (x : Line). Makes x (Some e)) (same_line said.0 l (sym said.1 ∙ is)) said.2)

pub reads_none : (text : List ℕ) → line_of text ≡ None → ReadsLine text None
unfolding Says
reads_none text none = λ e says. let said = event_said text e says in some≢none said.0 (sym said.1 ∙ none)

-- ---- lists of lines

zip_push : (xs : List (List ℕ)) (ys : List WorldEvent) (x : List ℕ) (y : WorldEvent) → AllZip IsEventLine xs ys → IsEventLine x y → AllZip IsEventLine (xs ++ x ∷ []) (ys ++ y ∷ [])
zip_push [] [] x y h r = (r, tt)
zip_push [] (z ∷ ys) x y h r = absurd h
zip_push (w ∷ xs) [] x y h r = absurd h
zip_push (w ∷ xs) (z ∷ ys) x y h r = (h.0, zip_push xs ys x y h.1 r)

abbrev pub texts : List (Bor (List ℕ)) → List (List ℕ)
texts = map (λ l. l.now)

one_more : (lines : List (Bor (List ℕ))) (i : ℕ) (d : Bor (List ℕ)) → i < length lines → texts (take (i + 1) lines) ≡ texts (take i lines) ++ (slice_index_or lines i d).now ∷ []
one_more lines i d lt = ap texts (take_more lines i d lt) ∙ map-append (λ (l : Bor (List ℕ)). l.now) (take i lines) (slice_index_or lines i d ∷ [])

-- an empty line is read past
pub past_empty : (lines : List (Bor (List ℕ))) (i : ℕ) (d : Bor (List ℕ)) (events : List WorldEvent) → i < length lines → is_filled (slice_index_or lines i d).now ≡ false
    → AreEvents (texts (take i lines)) events → AreEvents (texts (take (i + 1) lines)) events
past_empty lines i d events lt empty before =
    let line = (slice_index_or lines i d).now in
    let same : filter is_filled (texts (take (i + 1) lines)) ≡ filter is_filled (texts (take i lines)) =
    ap (filter is_filled) (one_more lines i d lt) ∙ filter-append is_filled (texts (take i lines)) (line ∷ [])
    ∙ ap (λ xs. filter is_filled (texts (take i lines)) ++ xs) (rw empty refl) ∙ append-nil _ in
    subst (λ xs. AllZip IsEventLine xs events) (sym same) before

-- an event's line adds it
pub with_event : (lines : List (Bor (List ℕ))) (i : ℕ) (d : Bor (List ℕ)) (events : List WorldEvent) (a : WorldEvent) → i < length lines → is_filled (slice_index_or lines i d).now ≡ true
    → IsEventLine (slice_index_or lines i d).now a → AreEvents (texts (take i lines)) events → AreEvents (texts (take (i + 1) lines)) (events ++ a ∷ [])
with_event lines i d events a lt full says before =
    let line = (slice_index_or lines i d).now in
    let same : filter is_filled (texts (take (i + 1) lines)) ≡ filter is_filled (texts (take i lines)) ++ line ∷ [] =
    ap (filter is_filled) (one_more lines i d lt) ∙ filter-append is_filled (texts (take i lines)) (line ∷ [])
    ∙ ap (λ xs. filter is_filled (texts (take i lines)) ++ xs) (rw full refl) in
    subst (λ xs. AllZip IsEventLine xs (events ++ a ∷ [])) (sym same) (zip_push _ events line a before says)

-- a line that isn't empty and is no event's is the first bad one
pub first_bad : (lines : List (Bor (List ℕ))) (i : ℕ) (d : Bor (List ℕ)) (events : List WorldEvent) (n : ℕ) → i < length lines → is_filled (slice_index_or lines i d).now ≡ true
    → ReadsLine (slice_index_or lines i d).now None → AreEvents (texts (take i lines)) events → n ≡ i + 1 → IsFirstBad (texts lines) n
first_bad lines i d events n lt full none before counted = record {
  before = texts (take i lines);
  line = (slice_index_or lines i d).now;
  after = texts (drop (suc i) lines);
  events = events;
  split = ap texts (sym (take-append-drop i lines) ∙ ap (λ xs. take i lines ++ xs) (drop-cons lines i d lt)) ∙ map-append (λ (l : Bor (List ℕ)). l.now) (take i lines) (slice_index_or lines i d ∷ drop (suc i) lines);
  good = before;
  place = counted ∙ ap (λ k. k + 1) (sym (length-map (take i lines) (λ (l : Bor (List ℕ)). l.now) ∙ length-take-le i lines (omega arith)));
  filled = λ e. let bad : true ≡ false = sym full ∙ ap is_filled e in cc;
  bad = none;
}
