-- The cache as a whole list has it, beside the client that takes the list.
use Rattle.std.proofs.Common.{◌≡◌, ℕ, Bool, true, false, cond, ◌&&◌, T, List, [], ◌∷◌, ◌++◌, length, map, Option, Some, None, refl, sym, ap, ap₂, subst, ◌∙◌}
use Rattle.std.proofs.lemmas.List.{length-map}
use Rattle.std.specs.Prelude.{option_map, nat_le}
use Rattle.std.specs.Ordering.{eq_by_cmp, is_lt}
use Rattle.std.specs.FinMap as fin
use Rattle.std.specs.FinMap.Entries.{find, below_all, is_sorted}
use Rattle.indexer.specs.Kept.{IndexedObjects, objects_in}
use Rattle.indexer.specs.Objects.{Place, place_cmp, Stored}
use Rattle.indexer.specs.PutAll.{put_all}
use Rattle.reflector.specs.BetweenViews.{between}
use Rattle.reflector.specs.Client.{Objects, place_in, by_place, max_objects, Notice, Client, kept}
use Rattle.reflector.specs.MirrorViews.{Keys, with_keys, keyed, Mirrors}
use Rattle.reflector.specs.Run.{relisting, ascends_within_limit, listed, keep_paged, with_page}
use Rattle.reflector.specs.MirrorRepresentsViews.{keys_in}
use Rattle.reflector.specs.RelistReasons.{page_reason}
use Rattle.reflector.specs.declared.relist_reason.RelistReason.{RelistReason}
use Rattle.reflector.specs.declared.relist_reason.RelistReason.TheVariants.{NotAscending, TooManyObjects}
use Rattle.decoder.specs.Pages.{Page}
use Rattle.reflector.proofs.Places.{place_total}
use Rattle.reflector.proofs.Keyed.{Entries, beside, place_antisymmetric, keyed-get, keyed-entries}
use Rattle.reflector.proofs.Between.{fst, snd, find_low, of_entries}

abbrev Row : Type 0
Row = Stored × List (List (List ℕ))

abbrev or_held : Option Row → Option Row → Option Row
or_held (Some h) other = Some h
or_held None other = other

or_none : (o : Option Row) → or_held o None ≡ o
or_none (Some h) = refl
or_none None = refl

put_gets : (ks : Keys) (os : List Stored) (held : IndexedObjects) → T (is_sorted place_cmp (by_place os)) → (q : Place)
    → fin.get (put_all ks os held) q ≡ or_held (option_map (beside ks) (find place_cmp q (by_place os))) (fin.get held q)
put_gets ks [] held h q = refl
put_gets ks (o ∷ os) held h q =
    put_gets ks os (fin.insert held (place_in o) (beside ks o)) (snd _ _ h) q
    ∙ ap (or_held (option_map (beside ks) (find place_cmp q (by_place os)))) (fin.get-insert place_total held (place_in o) (beside ks o) q)
    ∙ go (eq_by_cmp place_cmp q (place_in o)) refl
  where
    go : (b : Bool) → eq_by_cmp place_cmp q (place_in o) ≡ b
        → or_held (option_map (beside ks) (find place_cmp q (by_place os))) (cond b (Some (beside ks o)) (fin.get held q))
        ≡ or_held (option_map (beside ks) (cond b (Some o) (find place_cmp q (by_place os)))) (fin.get held q)
    go true e = ap (λ f. or_held (option_map (beside ks) f) (Some (beside ks o))) (find_low (place_in o) q (by_place os) (fst _ _ h) e)
    go false e = refl

relisted : (ks : Keys) (all : List Stored) → T (is_sorted place_cmp (by_place all)) → put_all ks all fin.empty ≡ keyed ks (fin.from_sorted {R = place_cmp} (by_place all))
relisted ks all h =
    fin.same_map place_total place_antisymmetric (put_all ks all fin.empty) (keyed ks (fin.from_sorted {R = place_cmp} (by_place all))) (λ q.
    put_gets ks all fin.empty h q
    ∙ ap (or_held (option_map (beside ks) (find place_cmp q (by_place all)))) (fin.get-empty place_cmp q)
    ∙ or_none (option_map (beside ks) (find place_cmp q (by_place all)))
    ∙ sym (keyed-get ks (fin.from_sorted {R = place_cmp} (by_place all)) q ∙ ap (option_map (beside ks)) (fin.get-from_sorted place_cmp (by_place all) q h)))

bare : (ks : Keys) (es : Entries) → map (λ e. (e.0, e.1.0)) (with_keys ks es) ≡ es
bare ks [] = refl
bare ks (e ∷ es) = ap (λ fs. e ∷ fs) (bare ks es)

keyed-objects : (ks : Keys) (o : Objects) → objects_in (keyed ks o) ≡ fin.entries o
keyed-objects ks o = ap (map (λ e. (e.0, e.1.0))) (keyed-entries ks o) ∙ bare ks (fin.entries o)

-- the objects that are held are in order
below_bare : (p : Place) (es : List (Place × Row)) → below_all place_cmp p (map (λ e. (e.0, e.1.0)) es) ≡ below_all place_cmp p es
below_bare p [] = refl
below_bare p (e ∷ es) = ap (λ (b : Bool). is_lt (place_cmp p e.0) && b) (below_bare p es)

sorted_bare : (es : List (Place × Row)) → is_sorted place_cmp (map (λ e. (e.0, e.1.0)) es) ≡ is_sorted place_cmp es
sorted_bare [] = refl
sorted_bare (e ∷ es) = ap₂ (λ (a b : Bool). a && b) (below_bare e.0 es) (sorted_bare es)

truth : (b : Bool) → T b → b ≡ true
truth true h = refl
truth false h = absurd h

pub held_ascends : (held : IndexedObjects) (es : Entries) → es ≡ objects_in held → is_sorted place_cmp es ≡ true
held_ascends held es is = ap (is_sorted place_cmp) is ∙ sorted_bare (fin.entries held) ∙ truth _ (fin.entries_sorted held)

pub held_length : {A : Type 0} (held : IndexedObjects) (olds : List A) (f : A → Place × Stored) → map f olds ≡ objects_in held → length olds ≡ fin.len held
held_length held olds f is =
    sym (length-map olds f) ∙ ap length is ∙ length-map (fin.entries held) (λ e. (e.0, e.1.0)) ∙ sym (fin.len-entries held)

pub list_ascends : (all : List Stored) → ascends_within_limit all ≡ true → is_sorted place_cmp (by_place all) ≡ true
list_ascends all is = truth _ (fst _ _ (subst T (sym is) tt))

pub list_kept : {I : Type 0} (keys : I → Stored → List (List ℕ)) (before after : List I) (held held_now : IndexedObjects) (r : Option ℕ) (notes notes_now : List Notice) (revision : ℕ) (all : List Stored)
    → after ≡ before → ascends_within_limit all ≡ true → held_now ≡ put_all (keys_in keys before) all fin.empty → notes_now ≡ notes ++ between (objects_in held) (by_place all)
    → (c : Client) → Mirrors (keys_in keys before) held r notes c → Mirrors (keys_in keys after) held_now (Some revision) notes_now (listed c revision (fin.from_sorted {R = place_cmp} (by_place all)))
list_kept keys before after held held_now r notes notes_now revision all same fits puts notifies c m =
    let h : T (is_sorted place_cmp (by_place all)) = fst _ _ (subst T (sym fits) tt) in
    let o : Objects = fin.from_sorted {R = place_cmp} (by_place all) in
    subst (λ is. Mirrors (keys_in keys is) held_now (Some revision) notes_now (listed c revision o)) (sym same) (record {
      objects = puts ∙ relisted (keys_in keys before) all h;
      revision = refl;
      notices = notifies
          ∙ ap₂ (λ ns es. ns ++ between es (by_place all)) m.notices (ap objects_in m.objects ∙ keyed-objects (keys_in keys before) (kept c.cache))
          ∙ ap (λ ns. c.notices ++ ns) (ap (between (fin.entries (kept c.cache))) (sym (fin.entries-from_sorted place_cmp (by_place all) h)) ∙ of_entries (kept c.cache) o);
    })

-- a page that goes on behind what is set aside, whatever is to be shown of the client after it, and of what is wrong with it
pub page_taken : (c : Client) (paged_list all : List Stored) (p : Page) (fits : Bool) → fits ≡ ascends_within_limit (paged_list ++ p.objects) → fits ≡ true → all ≡ paged_list ++ p.objects → (P : Client → Option RelistReason → Type 0)
    → P (keep_paged c p.revision all p.token) None → P (with_page c paged_list p) (page_reason paged_list p)
page_taken c paged_list all p fits is holds same P h =
    let is_so : ascends_within_limit (paged_list ++ p.objects) ≡ true = sym is ∙ holds in
    let wrong = Some (cond (nat_le (length (paged_list ++ p.objects)) max_objects) NotAscending TooManyObjects) in
    subst (P (with_page c paged_list p)) (sym (ap (λ b. cond b None wrong) is_so))
    (subst (λ d. P d None) (ap (λ t. keep_paged c p.revision t p.token) same ∙ sym (ap (λ b. cond b (keep_paged c p.revision (paged_list ++ p.objects) p.token) (relisting c)) is_so)) h)
