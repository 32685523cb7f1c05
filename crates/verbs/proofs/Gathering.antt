-- What is gathered to be written where other types are to be served: of each object, and of one type after the other.
use Rattle.std.proofs.Common.{◌≡◌, ◌<◌, ◌≤◌, ◌+◌, ℕ, suc, Bool, true, false, cond, not, List, [], ◌∷◌, ◌++◌, length, filter, refl, sym, ap, subst, ◌∙◌, Option, Some, None, arith, append-nil, append_assoc, ◌⊎◌, inl, inr, get_or, length-append, true≢false}
use Rattle.std.proofs.lemmas.List.{length-map}
use Rattle.std.proofs.lemmas.List.Elements.{filter-append}
use Rattle.std.proofs.lemmas.Option.{slice_get_cases, slice_get_within}
use Rattle.std.specs.Prelude.{is_some, option_and_then, option_map, slice_get, IfSome}
use Rattle.std.specs.List.{AllByRecursion}
use Rattle.std.specs.Str.{bytes_eq}
use Rattle.std.specs.FinMap as fin
use Rattle.api_types.specs.Served.{served, types_view}
use Rattle.schema.specs.Shape.{Shape}
use Rattle.api_types.specs.declared.types.Types.{Types}
use Rattle.api_types.specs.TypesFile.{ServedShape}
use Rattle.history.specs.History.{Key, Object, Objects, last_revision, left_by, put_or_remove}
use Rattle.history.specs.Page.{listed}
use Rattle.history.specs.Whole.{AreThere}
use Rattle.history.specs.Writes.{changes_by}
use Rattle.history.proofs.Lists.{all-filter}
use Rattle.objects.specs.ReadBack.{IsObjectText}
use Rattle.objects.specs.State.{State}
use Rattle.objects.specs.SystemMetadata.{System, stamped}
use Rattle.objects.proofs.Taken.{no_some, same_some}
use Rattle.ownership.specs.Carry.{carried_state}
use Rattle.verbs.specs.declared.fault.RetypeFault.{RetypeFault}
use Rattle.verbs.specs.GatheredViews.{AreReadable, AreWritable, IsReadableEntry, IsTooMany, carried_at, gathered}
use Rattle.verbs.specs.Machine.{AreTexts, IsReadable, identity_of, decoded_state, decoded_system}
use Rattle.verbs.specs.Retyping.{RetypeRefusal, is_changed, text_unchanged, carried_text_at, too_few_revisions, writes_from}
use Rattle.verbs.specs.Views.{retype_refusal}
use Rattle.verbs.specs.Step.{text_stamped}
use Rattle.verbs.proofs.Changes.{all_push}
use Rattle.verbs.proofs.ByTypes.{all_entries, all_types, is_before, no_type, of_types_before, one_more_type}

abbrev Entries : Type 0
Entries = List (Key × Object)

abbrev Writes : Type 0
Writes = List (Key × Option (List ℕ))

-- ---- one object

-- what it is carried to, by the schemas of its two types
pub carried_is : (a b : Option ServedShape) (t : ServedShape) (s n : Shape) (body : List ℕ) (state new : State) → Some t ≡ a → Some s ≡ option_map (λ x. x.shape) a → Some n ≡ option_map (λ x. x.shape) b
    → state ≡ decoded_state t.shape body → new ≡ carried_state s n state
    → option_and_then (λ x. option_map (λ u. carried_state x.shape u.shape (decoded_state x.shape body)) b) a ≡ Some new
carried_is None b t s n body state new there old next said is = no_some t there
carried_is (Some x) None t s n body state new there old next said is = no_some n next
carried_is (Some x) (Some u) t s n body state new there old next said is =
    let same : t ≡ x = same_some t x there in
    ap (λ (y : Shape). Some (carried_state y u.shape (decoded_state x.shape body))) (sym (same_some s x.shape old))
    ∙ ap (λ (y : Shape). Some (carried_state s y (decoded_state x.shape body))) (sym (same_some n u.shape next))
    ∙ ap (λ (y : State). Some (carried_state s n y)) (ap (λ (y : ServedShape). decoded_state y.shape body) (sym same) ∙ sym said)
    ∙ ap Some (sym is)

-- it has no type where its new one isn't there
pub has_new_type : (a b : Option ServedShape) (body : List ℕ) (new : State) → option_and_then (λ x. option_map (λ u. carried_state x.shape u.shape (decoded_state x.shape body)) b) a ≡ Some new → None ≡ b → ⊥
has_new_type None b body new is none = no_some new (sym is)
has_new_type (Some x) None body new is none = no_some new (sym is)
has_new_type (Some x) (Some u) body new is none = no_some u (sym none)

module _ (types next_types : List ServedShape) (e : Key × Object) (new : State × Option System) (u : ServedShape) (carries : carried_at types next_types e ≡ Some new) (there : slice_get next_types e.0.kind ≡ Some u) where
  abbrev of_types : ServedShape → ServedShape → State × Option System
  of_types x v = (carried_state x.shape v.shape (decoded_state x.shape e.1.body), decoded_system x.shape e.1.body)

  -- its text under its new type
  pub text_is : (r : ℕ) → carried_text_at types next_types r e.0 e.1 ≡ Some (text_stamped u e.0 (stamped r new.1) new.0)
  text_is r = go (slice_get types e.0.kind) (slice_get next_types e.0.kind) carries there
    where
      go : (a b : Option ServedShape) → option_and_then (λ x. option_map (λ v. of_types x v) b) a ≡ Some new → b ≡ Some u
          → option_and_then (λ x. option_map (λ v. text_stamped v e.0 (stamped r (of_types x v).1) (of_types x v).0) b) a ≡ Some (text_stamped u e.0 (stamped r new.1) new.0)
      go None b is same = no_some new (sym is)
      go (Some x) None is same = no_some new (sym is)
      go (Some x) (Some v) is same =
          ap (λ (y : State × Option System). Some (text_stamped v e.0 (stamped r y.1) y.0)) (same_some (of_types x v) new is)
          ∙ ap (λ (y : ServedShape). Some (text_stamped y e.0 (stamped r new.1) new.0)) (same_some v u same)

  -- whether it changes, by what is printed at its own revision
  pub change_is : (text : List ℕ) → text ≡ text_stamped u e.0 (stamped e.1.revision new.1) new.0 → is_changed types next_types e ≡ not (bytes_eq text e.1.body)
  change_is text printed = ap (λ o. not (text_unchanged o e.1.body)) (text_is e.1.revision ∙ ap Some (sym printed))

pub same_shape : (a : Option ServedShape) (t : ServedShape) (s : Shape) → Some t ≡ a → Some s ≡ option_map (λ x. x.shape) a → s ≡ t.shape
same_shape None t s there is = no_some t there
same_shape (Some x) t s there is = same_some s x.shape is ∙ ap (λ (y : ServedShape). y.shape) (sym (same_some t x there))

-- ---- one that is readable has a type

pub no_type_there : (a : Option ServedShape) (t : ServedShape) → a ≡ Some t → None ≡ a → ⊥
no_type_there a t is none = no_some t (sym (none ∙ is))

pub no_shape_there : (a : Option ServedShape) (t : ServedShape) → a ≡ Some t → None ≡ option_map (λ x. x.shape) a → ⊥
no_shape_there None t is none = no_some t (sym is)
no_shape_there (Some x) t is none = no_some x.shape (sym none)

pub readable_entry : (types : List ServedShape) (e : Key × Object) (t : ServedShape) → Some t ≡ slice_get types e.0.kind → IsReadableEntry types e → IsReadable t e.0 (Some e.1)
readable_entry types e t there x =
    let stamp = stamped e.1.revision x.is_text.system in
    (stamp, x.is_text.state, subst (λ (u : ServedShape). IsObjectText u.shape (identity_of u e.0) stamp x.is_text.state e.1.body) (same_some x.t t (sym x.served ∙ sym there)) x.is_text.says)

-- ---- several

pub more_too_many : (fault : RetypeFault) (a b : ℕ) → a ≤ b → IsTooMany a fault → IsTooMany b fault
more_too_many fault a b le many = go (retype_refusal fault) many
  where
    go : (o : Option RetypeRefusal) → IfSome o (λ why. (why ≡ too_few_revisions) × (last_revision < a)) → IfSome o (λ why. (why ≡ too_few_revisions) × (last_revision < b))
    go None none = tt
    go (Some why) some = let high : last_revision < a = some.1 in (some.0, omega (arith, le, high))

module _ (types next_types : List ServedShape) where
  abbrev pub Gathered : ℕ → Entries → Writes
  Gathered = gathered types next_types

  writes_length : (r : ℕ) (es : Entries) → length (writes_from types next_types r es) ≡ length es
  writes_length r [] = refl
  writes_length r (e ∷ es) = ap suc (writes_length (suc r) es)

  writes_append : (r : ℕ) (es fs : Entries) → writes_from types next_types r (es ++ fs) ≡ writes_from types next_types r es ++ writes_from types next_types (r + length es) fs
  writes_append r [] fs = let same : r ≡ r + 0 = omega arith in ap (λ (n : ℕ). writes_from types next_types n fs) same
  writes_append r (e ∷ es) fs =
      let same : suc r + length es ≡ r + suc (length es) = omega arith in
      ap (λ ws. (e.0, carried_text_at types next_types (suc r) e.0 e.1) ∷ ws)
      (writes_append (suc r) es fs ∙ ap (λ (n : ℕ). writes_from types next_types (suc r) es ++ writes_from types next_types n fs) same)

  pub gathered_length : (r : ℕ) (es : Entries) → length (Gathered r es) ≡ length (filter (is_changed types next_types) es)
  gathered_length r es = writes_length r (filter (is_changed types next_types) es)

  pub gathered_append : (r : ℕ) (es fs : Entries) → Gathered r (es ++ fs) ≡ Gathered r es ++ Gathered (r + length (Gathered r es)) fs
  gathered_append r es fs =
      ap (writes_from types next_types r) (filter-append (is_changed types next_types) es fs)
      ∙ writes_append r (filter (is_changed types next_types) es) (filter (is_changed types next_types) fs)
      ∙ ap (λ (n : ℕ). Gathered r es ++ writes_from types next_types (r + n) (filter (is_changed types next_types) fs)) (sym (gathered_length r es))

  gathered_one : (r : ℕ) (e : Key × Object) (b : Bool) → is_changed types next_types e ≡ b → Gathered r (e ∷ []) ≡ cond b ((e.0, carried_text_at types next_types (suc r) e.0 e.1) ∷ []) []
  gathered_one r e true is = ap (λ b. writes_from types next_types r (cond b (e ∷ []) [])) is
  gathered_one r e false is = ap (λ b. writes_from types next_types r (cond b (e ∷ []) [])) is

  -- nothing is added where the text stays
  pub one_stays : (r : ℕ) (ws : Writes) (e : Key × Object) → is_changed types next_types e ≡ false → ws ≡ ws ++ Gathered r (e ∷ [])
  one_stays r ws e is = sym (ap (λ l. ws ++ l) (gathered_one r e false is) ∙ append-nil ws)

  -- and else its new text
  pub one_changes : (r next : ℕ) (e : Key × Object) (text : List ℕ) → next ≡ suc r → is_changed types next_types e ≡ true → carried_text_at types next_types next e.0 e.1 ≡ Some text → Gathered r (e ∷ []) ≡ (e.0, Some text) ∷ []
  one_changes r next e text is changes said =
      gathered_one r e true changes ∙ ap (λ o. (e.0, o) ∷ []) (ap (λ (n : ℕ). carried_text_at types next_types n e.0 e.1) (sym is) ∙ said)

  -- ---- one type after the other

  pub none_yet : (r : ℕ) (s : Objects) → [] ≡ Gathered r (of_types_before 0 s)
  none_yet r s = sym (ap (Gathered r) (no_type s))

  -- the objects of one more type
  pub type_added : (r kind : ℕ) (s : Objects) (ws more : Writes) → ws ≡ Gathered r (of_types_before kind s) → more ≡ ws ++ Gathered (r + length ws) (listed kind None None s) → more ≡ Gathered r (of_types_before (suc kind) s)
  type_added r kind s ws more so_far added =
      added ∙ ap (λ l. l ++ Gathered (r + length l) (listed kind None None s)) so_far
      ∙ sym (gathered_append r (of_types_before kind s) (listed kind None None s))
      ∙ ap (Gathered r) (sym (one_more_type kind s))

  fewer : (p q : Key × Object → Bool) (es : Entries) → length (filter p (filter q es)) ≤ length (filter p es)
  fewer p q [] = omega arith
  fewer p q (e ∷ es) = go (q e) (p e) refl (fewer p q es)
    where
      go : (a b : Bool) → p e ≡ b → length (filter p (filter q es)) ≤ length (filter p es) → length (filter p (cond a (e ∷ filter q es) (filter q es))) ≤ length (cond b (e ∷ filter p es) (filter p es))
      go true true is rest = rw is (omega (arith, rest))
      go true false is rest = rw is rest
      go false true is rest = omega (arith, rest)
      go false false is rest = rest

  length_added : (ws more : Writes) → length (ws ++ more) ≡ length ws + length more
  length_added ws more = length-append ws more

  -- too many of some types are too many of all
  pub too_many : (r kind : ℕ) (s : Objects) (ws : Writes) (fault : RetypeFault) → ws ≡ Gathered r (of_types_before kind s)
      → IsTooMany (r + length ws + length (Gathered (r + length ws) (listed kind None None s))) fault → IsTooMany (r + length (Gathered r (fin.entries s))) fault
  too_many r kind s ws fault so_far is = more_too_many fault _ _ counted is
    where
      added : Writes
      added = Gathered (r + length ws) (listed kind None None s)

      counted : r + length ws + length added ≤ r + length (Gathered r (fin.entries s))
      counted =
          let parts : length (ws ++ added) ≡ length ws + length added = length_added ws added in
          let whole : length (ws ++ added) ≡ length (filter (is_changed types next_types) (of_types_before (suc kind) s)) = ap length (type_added r kind s ws (ws ++ added) so_far refl) ∙ gathered_length r (of_types_before (suc kind) s) in
          let under : length (filter (is_changed types next_types) (of_types_before (suc kind) s)) ≤ length (filter (is_changed types next_types) (fin.entries s)) = fewer (is_changed types next_types) (is_before (suc kind)) (fin.entries s) in
          let all : length (Gathered r (fin.entries s)) ≡ length (filter (is_changed types next_types) (fin.entries s)) = gathered_length r (fin.entries s) in
          omega (arith, parts, whole, under, all)

  -- ---- one object after the other

  split : (r : ℕ) (e : Key × Object) (es : Entries) → Gathered r (e ∷ es) ≡ Gathered r (e ∷ []) ++ Gathered (r + length (Gathered r (e ∷ []))) es
  split r e es = gathered_append r (e ∷ []) es

  pub entry_added : (r : ℕ) (ws more all : Writes) (e : Key × Object) (es : Entries) → more ≡ ws ++ Gathered (r + length ws) (e ∷ []) → ws ++ Gathered (r + length ws) (e ∷ es) ≡ all
      → more ++ Gathered (r + length more) es ≡ all
  entry_added r ws more all e es added reported =
      let one : Writes = Gathered (r + length ws) (e ∷ []) in
      let place : r + length (ws ++ one) ≡ r + length ws + length one = (let n : length (ws ++ one) ≡ length ws + length one = length_added ws one in omega (arith, n)) in
      ap (λ (l : Writes). l ++ Gathered (r + length l) es) added
      ∙ ap (λ (n : ℕ). (ws ++ one) ++ Gathered n es) place
      ∙ append_assoc ws one (Gathered (r + length ws + length one) es)
      ∙ ap (λ (l : Writes). ws ++ l) (sym (split (r + length ws) e es))
      ∙ reported

  -- too many with one of these objects are too many with all
  pub too_many_entries : (r : ℕ) (ws first : Writes) (e : Key × Object) (es all : Entries) (fault : RetypeFault) → ws ++ Gathered (r + length ws) (e ∷ es) ≡ first ++ Gathered (r + length first) all
      → IsTooMany (r + length ws + length (Gathered (r + length ws) (e ∷ []))) fault → IsTooMany (r + length first + length (Gathered (r + length first) all)) fault
  too_many_entries r ws first e es all fault reported is = more_too_many fault _ _ counted is
    where
      one : Writes
      one = Gathered (r + length ws) (e ∷ [])

      rest : Writes
      rest = Gathered (r + length ws + length one) es

      counted : r + length ws + length one ≤ r + length first + length (Gathered (r + length first) all)
      counted =
          let parts : length (one ++ rest) ≡ length one + length rest = length_added one rest in
          let left : length (ws ++ Gathered (r + length ws) (e ∷ es)) ≡ length ws + length (Gathered (r + length ws) (e ∷ es)) = length_added ws (Gathered (r + length ws) (e ∷ es)) in
          let here : length (Gathered (r + length ws) (e ∷ es)) ≡ length (one ++ rest) = ap length (split (r + length ws) e es) in
          let coherent : length (first ++ Gathered (r + length first) all) ≡ length first + length (Gathered (r + length first) all) = length_added first (Gathered (r + length first) all) in
          let same : length (ws ++ Gathered (r + length ws) (e ∷ es)) ≡ length (first ++ Gathered (r + length first) all) = ap length reported in
          omega (arith, parts, left, here, coherent, same)

-- ---- where each type that has an object is there

module _ (types : List ServedShape) (s : Objects) (texts : AreTexts types s) where
  pub readable_all : AreReadable types (fin.entries s)
  readable_all = all_entries (IsReadableEntry types) s texts

  -- all objects are of the types before this number
  pub all_of_types : (kind : ℕ) → length types ≤ kind → of_types_before kind s ≡ fin.entries s
  all_of_types kind past =
      all_types kind (fin.entries s)
      (all_entries (λ e. e.0.kind < kind) s (λ k o there.
      let x = texts k o there in
      let within : k.kind < length types = slice_get_within types k.kind x.t x.served in omega (arith, within, past)))

  -- those of one type
  pub readable_of : (kind : ℕ) → AreReadable types (listed kind None None s)
  readable_of kind = all-filter (IsReadableEntry types) _ (fin.entries s) readable_all

pub past_all : (types : List ServedShape) (kind : ℕ) → slice_get types kind ≡ None → length types ≤ kind
past_all types kind none = go (slice_get_cases types kind).1
  where
    go : ((x : ServedShape) × (kind < length types) × (slice_get types kind ≡ Some x) × (get_or types kind x ≡ x)) ⊎ ((length types ≤ kind) × (slice_get types kind ≡ None)) → length types ≤ kind
    go (inl h) = no_some h.0 (sym h.2 ∙ none)
    go (inr h) = h.0

-- ---- what may be written

pub none_writable : (current : ℕ) → current ≤ last_revision → AreWritable current []
none_writable current low = record { fits = omega (arith, low); bodies = tt }

pub one_writable : (current : ℕ) (ws more : Writes) (k : Key) (text : List ℕ) → AreWritable current ws → suc (current + length ws) ≤ last_revision → more ≡ ws ++ (k, Some text) ∷ [] → AreWritable current more
one_writable current ws more k text is left pushed =
    let longer : length (ws ++ (k, Some text) ∷ []) ≡ length ws + 1 = length-append ws ((k, Some text) ∷ []) in
    subst (AreWritable current) (sym pushed) (record { fits = omega (arith, left, longer); bodies = all_push (λ w. is_some w.1 ≡ true) ws (k, Some text) is.bodies refl })

AreThere-bodies : (s : Objects) (r : ℕ) (ws : List (Key × Option (List ℕ))) → AllByRecursion (λ w. is_some w.1 ≡ true) ws → AreThere s (changes_by r ws)
AreThere-bodies s r [] all = tt
AreThere-bodies s r (w ∷ ws) all = (λ none. absurd (true≢false (sym all.0 ∙ ap is_some none)), AreThere-bodies (put_or_remove s w.0 (left_by (record { revision = suc r; key = w.0; body = w.1 }))) (suc r) ws all.1)

-- none of them is a deletion
pub writes_there : (s : Objects) (current : ℕ) (ws : List (Key × Option (List ℕ))) → AreWritable current ws → AreThere s (changes_by current ws)
writes_there s current ws is = AreThere-bodies s current ws is.bodies

-- ---- how many types there are

pub few_types : (ts : Types) → length (types_view ts) ≤ 4294967295
few_types ts =
    let n : length (types_view ts) ≡ length ts.all.items = length-map ts.all.items served in
    let long : ts.all.len ≡ length ts.all.items = ts.all.ok.0 in
    let few : ts.all.len ≤ 4294967295 = ts.few in omega (arith, n, long, few)

pub none_found : {A B : Type 0} (o : Option A) (f : A → B) (found : Option B) (b : Bool) → option_map f o ≡ found → is_some o ≡ not b → b ≡ true → found ≡ None
none_found None f found b is none true_is = sym is
none_found (Some x) f found b is none true_is = absurd (true≢false (none ∙ ap not true_is))
