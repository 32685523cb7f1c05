-- Notices replayed on the objects before them give the objects after them.
use Rattle.std.proofs.Common.{◌≡◌, ℕ, Bool, true, false, cond, ◌&&◌, ◌||◌, List, [], ◌∷◌, ◌++◌, refl, sym, ap, ap₂, subst, ◌∙◌, ◌⊎◌, inl, inr, Option, Some, None, is_some, option_map, T, append_assoc, append-nil, flat_map}
use Rattle.std.specs.Prelude.{nat_lt, nat_le, nat_eq}
use Rattle.std.specs.List.{list_any}
use Rattle.std.specs.Str.{bytes_eq}
use Rattle.std.specs.Ordering.{eq_by_cmp}
use Rattle.std.specs.FinMap as fin
use Rattle.std.specs.FinMap.Entries.{find, is_some-find}
use Rattle.std.proofs.lemmas.List.{map-append}
use Rattle.std.proofs.lemmas.List.Folds.{list_any-append}
use Rattle.std.proofs.lemmas.Slice.Eq.{bytes_eq-Decides}
use Rattle.indexer.specs.Objects.{Place, place_cmp, Stored}
use Rattle.wireclient.specs.Reply.{ReplyItem}
use Rattle.decoder.specs.Wanted.{Wanted}
use Rattle.decoder.specs.Pages.{Page}
use Rattle.decoder.specs.Lines.{Line, put, error}
use Rattle.decoder.specs.Lines as lines
use Rattle.reflector.specs.Client.{Objects, place_in, by_place, max_objects, Notice, added, updated, deleted, Cache, SyncPhase, first, next, streaming, Client, kept, notice_of, places_of, differences}
use Rattle.reflector.specs.Items.{Response, begun, page, line, over, unexpected, said_of_list, said_of_watch}
use Rattle.reflector.specs.Run.{relisting, keep_paged, ascends_within_limit, with_page, moved, with_line, with_list, with_next, with_watch, with_item, receives, receives_all}
use Rattle.reflector.specs.ReplayLaws.{with_notice, replayed, text_at, AreAlike, AreUnderKey, Notifies}
use Rattle.reflector.proofs.Places.{place_total, same_place}

-- ---- texts of changed objects

map_cond : (b : Bool) (x y : Option Stored) → option_map (λ s. s.text) (cond b x y) ≡ cond b (option_map (λ s. s.text) x) (option_map (λ s. s.text) y)
map_cond true x y = refl
map_cond false x y = refl

text-insert : (o : Objects) (p : Place) (s : Stored) (q : Place) → text_at (fin.insert o p s) q ≡ cond (eq_by_cmp place_cmp q p) (Some s.text) (text_at o q)
text-insert o p s q = ap (option_map (λ s. s.text)) (fin.get-insert place_total o p s q) ∙ map_cond (eq_by_cmp place_cmp q p) (Some s) (fin.get o q)

text-remove : (o : Objects) (p q : Place) → text_at (fin.remove o p) q ≡ cond (eq_by_cmp place_cmp q p) None (text_at o q)
text-remove o p q = ap (option_map (λ s. s.text)) (fin.get-remove place_total o p q) ∙ map_cond (eq_by_cmp place_cmp q p) None (fin.get o q)

alike_notice : (o q : Objects) → AreAlike o q → (n : Notice) → AreAlike (with_notice o n) (with_notice q n)
alike_notice o q h (added new) = λ p. text-insert o (place_in new) new p ∙ ap (cond (eq_by_cmp place_cmp p (place_in new)) (Some new.text)) (h p) ∙ sym (text-insert q (place_in new) new p)
alike_notice o q h (updated old new) = λ p. text-insert o (place_in new) new p ∙ ap (cond (eq_by_cmp place_cmp p (place_in new)) (Some new.text)) (h p) ∙ sym (text-insert q (place_in new) new p)
alike_notice o q h (deleted old) = λ p. text-remove o (place_in old) p ∙ ap (cond (eq_by_cmp place_cmp p (place_in old)) None) (h p) ∙ sym (text-remove q (place_in old) p)

alike_replayed : (o q : Objects) (ns : List Notice) → AreAlike o q → AreAlike (replayed o ns) (replayed q ns)
alike_replayed o q [] h = h
alike_replayed o q (n ∷ ns) h = alike_replayed (with_notice o n) (with_notice q n) ns (alike_notice o q h n)

pub replayed-append : (o : Objects) (xs ys : List Notice) → replayed o (xs ++ ys) ≡ replayed (replayed o xs) ys
replayed-append o [] ys = refl
replayed-append o (x ∷ xs) ys = replayed-append (with_notice o x) xs ys

equal_texts : (xs ys : List ℕ) → bytes_eq xs ys ≡ true → xs ≡ ys
equal_texts xs ys e = (bytes_eq-Decides xs ys).0 e

-- ---- one place

-- x stands at the place, what else there is stays
quiet : (o now : Objects) (p q : Place) → (q ≡ p → text_at o q ≡ text_at now q) → text_at o q ≡ cond (eq_by_cmp place_cmp q p) (text_at now q) (text_at o q)
quiet o now p q is = go (eq_by_cmp place_cmp q p) refl
  where
    go : (t : Bool) → eq_by_cmp place_cmp q p ≡ t → text_at o q ≡ cond t (text_at now q) (text_at o q)
    go true e = is (same_place q p e)
    go false e = refl

settled : (o now : Objects) (p q : Place) (x : Option (List ℕ)) → (q ≡ p → x ≡ text_at now q) → cond (eq_by_cmp place_cmp q p) x (text_at o q) ≡ cond (eq_by_cmp place_cmp q p) (text_at now q) (text_at o q)
settled o now p q x is = go (eq_by_cmp place_cmp q p) refl
  where
    go : (t : Bool) → eq_by_cmp place_cmp q p ≡ t → cond t x (text_at o q) ≡ cond t (text_at now q) (text_at o q)
    go true e = is (same_place q p e)
    go false e = refl

abbrev IsBetween : Objects → Objects → Objects → Type 0
IsBetween before now o = (q : Place) → (text_at o q ≡ text_at before q) ⊎ (text_at o q ≡ text_at now q)

module _ (before now : Objects) (under_key_before : AreUnderKey before) (under_key_now : AreUnderKey now) where
  -- what stands at the place now, where it is the same in both
  reached : (o : Objects) → IsBetween before now o → (q : Place) → text_at before q ≡ text_at now q → text_at o q ≡ text_at now q
  reached o between q same = go (between q)
    where
      go : (text_at o q ≡ text_at before q) ⊎ (text_at o q ≡ text_at now q) → text_at o q ≡ text_at now q
      go (inl is) = is ∙ same
      go (inr is) = is

  one_place : (o : Objects) → IsBetween before now o → (p q : Place) → text_at (replayed o (notice_of (fin.get before p) (fin.get now p))) q ≡ cond (eq_by_cmp place_cmp q p) (text_at now q) (text_at o q)
  one_place o between p q = go (fin.get before p) (fin.get now p) refl refl
    where
      same_texts : (x y : Option Stored) → fin.get before p ≡ x → fin.get now p ≡ y → option_map (λ s. s.text) x ≡ option_map (λ s. s.text) y → q ≡ p → text_at before q ≡ text_at now q
      same_texts x y a b same e =
          ap (text_at before) e ∙ ap (option_map (λ s. s.text)) a ∙ same ∙ sym (ap (text_at now) e ∙ ap (option_map (λ s. s.text)) b)

      put_at : (n : Stored) → fin.get now p ≡ Some n → text_at (fin.insert o (place_in n) n) q ≡ cond (eq_by_cmp place_cmp q p) (text_at now q) (text_at o q)
      put_at n b =
          text-insert o (place_in n) n q ∙ ap (λ z. cond (eq_by_cmp place_cmp q z) (Some n.text) (text_at o q)) (under_key_now p n b)
          ∙ settled o now p q (Some n.text) (λ e. sym (ap (text_at now) e ∙ ap (option_map (λ s. s.text)) b))

      both_there : (s n : Stored) → fin.get before p ≡ Some s → fin.get now p ≡ Some n → (t : Bool) → bytes_eq s.text n.text ≡ t
          → text_at (replayed o (cond t [] (updated s n ∷ []))) q ≡ cond (eq_by_cmp place_cmp q p) (text_at now q) (text_at o q)
      both_there s n a b true t = quiet o now p q (λ e. reached o between q (same_texts (Some s) (Some n) a b (ap Some (equal_texts s.text n.text t)) e))
      both_there s n a b false t = put_at n b

      go : (x y : Option Stored) → fin.get before p ≡ x → fin.get now p ≡ y → text_at (replayed o (notice_of x y)) q ≡ cond (eq_by_cmp place_cmp q p) (text_at now q) (text_at o q)
      go None None a b = quiet o now p q (λ e. reached o between q (same_texts None None a b refl e))
      go None (Some n) a b = put_at n b
      go (Some s) None a b =
          text-remove o (place_in s) q ∙ ap (λ z. cond (eq_by_cmp place_cmp q z) None (text_at o q)) (under_key_before p s a)
          ∙ settled o now p q None (λ e. sym (ap (text_at now) e ∙ ap (option_map (λ s. s.text)) b))
      go (Some s) (Some n) a b = both_there s n a b (bytes_eq s.text n.text) refl

  still_between : (o : Objects) → IsBetween before now o → (p : Place) → IsBetween before now (replayed o (notice_of (fin.get before p) (fin.get now p)))
  still_between o between p q = go (eq_by_cmp place_cmp q p) (one_place o between p q) (between q)
    where
      after : Objects
      after = replayed o (notice_of (fin.get before p) (fin.get now p))

      go : (t : Bool) → text_at after q ≡ cond t (text_at now q) (text_at o q) → (text_at o q ≡ text_at before q) ⊎ (text_at o q ≡ text_at now q)
          → (text_at after q ≡ text_at before q) ⊎ (text_at after q ≡ text_at now q)
      go true is was = inr is
      go false is (inl was) = inl (is ∙ was)
      go false is (inr was) = inr (is ∙ was)

  all_places : (ps : List Place) (o : Objects) → IsBetween before now o → (q : Place)
      → text_at (replayed o (flat_map (λ p. notice_of (fin.get before p) (fin.get now p)) ps)) q ≡ cond (list_any (eq_by_cmp place_cmp q) ps) (text_at now q) (text_at o q)
  all_places [] o between q = refl
  all_places (p ∷ ps) o between q =
      ap (λ s. text_at s q) (replayed-append o (notice_of (fin.get before p) (fin.get now p)) (flat_map (λ p. notice_of (fin.get before p) (fin.get now p)) ps))
      ∙ all_places ps (replayed o (notice_of (fin.get before p) (fin.get now p))) (still_between o between p) q
      ∙ ap (cond (list_any (eq_by_cmp place_cmp q) ps) (text_at now q)) (one_place o between p q)
      ∙ either (eq_by_cmp place_cmp q p) (list_any (eq_by_cmp place_cmp q) ps)
    where
      either : (t u : Bool) → cond u (text_at now q) (cond t (text_at now q) (text_at o q)) ≡ cond (t || u) (text_at now q) (text_at o q)
      either true true = refl
      either true false = refl
      either false true = refl
      either false false = refl

  in_places : (q : Place) → list_any (eq_by_cmp place_cmp q) (places_of before now) ≡ (is_some (fin.get before q) || is_some (fin.get now q))
  in_places q =
      let es : List (Place × Stored) = fin.entries before in
      let fs : List (Place × Stored) = fin.entries now in
      sym (fin.contains_key-keys (fin.from_entries {R = place_cmp} (es ++ fs)) q)
      ∙ ap is_some (fin.get-from_entries place_total (es ++ fs) q)
      ∙ is_some-find place_cmp q (es ++ fs)
      ∙ ap (list_any (eq_by_cmp place_cmp q)) (map-append (λ e. e.0) es fs)
      ∙ list_any-append (eq_by_cmp place_cmp q) (fin.keys before) (fin.keys now)
      ∙ ap₂ (λ x y. x || y) (sym (fin.contains_key-keys before q)) (sym (fin.contains_key-keys now q))

  pub differences_replay : AreAlike (replayed before (differences before now)) now
  differences_replay q =
      all_places (places_of before now) before (λ p. inl refl) q ∙ ap (λ t. cond t (text_at now q) (text_at before q)) (in_places q) ∙ go (fin.get before q) (fin.get now q)
    where
      go : (x y : Option Stored) → cond (is_some x || is_some y) (option_map (λ s. s.text) y) (option_map (λ s. s.text) x) ≡ option_map (λ s. s.text) y
      go None None = refl
      go None (Some n) = refl
      go (Some s) y = refl

-- ---- one line

-- x stands at the place already
stays : (o : Objects) (p q : Place) (x : Option (List ℕ)) → text_at o p ≡ x → (u : Bool) → eq_by_cmp place_cmp q p ≡ u → cond u x (text_at o q) ≡ text_at o q
stays o p q x is true e = sym (ap (text_at o) (same_place q p e) ∙ is)
stays o p q x is false e = refl

same_or_put : (o : Objects) (s old : Stored) (q : Place) → fin.get o (place_in s) ≡ Some old → (t : Bool) → bytes_eq old.text s.text ≡ t
    → text_at (replayed o (cond t [] (updated old s ∷ []))) q ≡ text_at (fin.insert o (place_in s) s) q
same_or_put o s old q is true t =
    sym (text-insert o (place_in s) s q ∙ stays o (place_in s) q (Some s.text) (ap (option_map (λ s. s.text)) is ∙ ap Some (equal_texts old.text s.text t)) (eq_by_cmp place_cmp q (place_in s)) refl)
same_or_put o s old q is false t = refl

pub put_replays : (o : Objects) (s : Stored) → AreAlike (replayed o (notice_of (fin.get o (place_in s)) (Some s))) (fin.insert o (place_in s) s)
put_replays o s q = go (fin.get o (place_in s)) refl
  where
    go : (x : Option Stored) → fin.get o (place_in s) ≡ x → text_at (replayed o (notice_of x (Some s))) q ≡ text_at (fin.insert o (place_in s) s) q
    go None is = refl
    go (Some old) is = same_or_put o s old q is (bytes_eq old.text s.text) refl

pub remove_replays : (o : Objects) (s : Stored) → AreUnderKey o → AreAlike (replayed o (notice_of (fin.get o (place_in s)) None)) (fin.remove o (place_in s))
remove_replays o s under_key q = go (fin.get o (place_in s)) refl
  where
    go : (x : Option Stored) → fin.get o (place_in s) ≡ x → text_at (replayed o (notice_of x None)) q ≡ text_at (fin.remove o (place_in s)) q
    go None is = sym (text-remove o (place_in s) q ∙ stays o (place_in s) q None (ap (option_map (λ s. s.text)) is) (eq_by_cmp place_cmp q (place_in s)) refl)
    go (Some old) is = ap (λ p. text_at (fin.remove o p) q) (under_key (place_in s) old is)

-- ---- places

pub some_is : (x y : Stored) → Some x ≡ Some y → x ≡ y
some_is x y e = cc

pub nothing_is : (x : Option Stored) (p : Place) (s : Stored) → x ≡ None → x ≡ Some s → place_in s ≡ p
nothing_is x p s e f = absurd cc

pub empty_under_key : AreUnderKey fin.empty
empty_under_key p s is = nothing_is (fin.get fin.empty p) p s (fin.get-empty place_cmp p) is

pub insert_under_key : (o : Objects) (s : Stored) → AreUnderKey o → AreUnderKey (fin.insert o (place_in s) s)
insert_under_key o s under_key q t is = go (eq_by_cmp place_cmp q (place_in s)) refl (sym (fin.get-insert place_total o (place_in s) s q) ∙ is)
  where
    go : (u : Bool) → eq_by_cmp place_cmp q (place_in s) ≡ u → cond u (Some s) (fin.get o q) ≡ Some t → place_in t ≡ q
    go true e same = ap place_in (sym (some_is s t same)) ∙ sym (same_place q (place_in s) e)
    go false e same = under_key q t same

pub remove_under_key : (o : Objects) (p : Place) → AreUnderKey o → AreUnderKey (fin.remove o p)
remove_under_key o p under_key q t is = go (eq_by_cmp place_cmp q p) (sym (fin.get-remove place_total o p q) ∙ is)
  where
    go : (u : Bool) → cond u None (fin.get o q) ≡ Some t → place_in t ≡ q
    go true same = absurd cc
    go false same = under_key q t same

found_under_key : (all : List Stored) (q : Place) (t : Stored) → find place_cmp q (by_place all) ≡ Some t → place_in t ≡ q
found_under_key [] q t is = absurd cc
found_under_key (s ∷ all) q t is = go (eq_by_cmp place_cmp q (place_in s)) refl (λ h. found_under_key all q t h) is
  where
    go : (u : Bool) → eq_by_cmp place_cmp q (place_in s) ≡ u → (find place_cmp q (by_place all) ≡ Some t → place_in t ≡ q) → cond u (Some s) (find place_cmp q (by_place all)) ≡ Some t → place_in t ≡ q
    go true e others same = ap place_in (sym (some_is s t same)) ∙ sym (same_place q (place_in s) e)
    go false e others same = others same

pub list_under_key : (all : List Stored) → T (fin.is_sorted place_cmp (by_place all)) → AreUnderKey (fin.from_sorted {R = place_cmp} (by_place all))
list_under_key all sorted q t is = found_under_key all q t (sym (fin.get-from_sorted place_cmp (by_place all) q sorted) ∙ is)

-- ---- steps

joined : (c d e : Client) → Notifies c d → Notifies d e → Notifies c e
joined c d e one more =
    record {
      since = one.since ++ more.since;
      waiting = more.waiting ∙ ap (λ ns. ns ++ more.since) one.waiting ∙ append_assoc c.notices one.since more.since;
      replay = λ q. ap (λ s. text_at s q) (replayed-append (kept c.cache) one.since more.since) ∙ alike_replayed (replayed (kept c.cache) one.since) (kept d.cache) more.since one.replay q ∙ more.replay q;
      under_key = more.under_key;
    }

-- the same cache and notices
same : (c : Client) (sync : SyncPhase) (b : Bool) → AreUnderKey (kept c.cache) → Notifies c (record { cache = c.cache; sync = sync; is_awaiting_reply = b; notices = c.notices })
same c sync b under_key = record { since = []; waiting = sym (append-nil c.notices); replay = λ q. refl; under_key = under_key }

checks : (b : Bool) (c good : Client) → AreUnderKey (kept c.cache) → Notifies c good → Notifies c (cond b good (relisting c))
checks true c good under_key is = is
checks false c good under_key is = same c first false under_key

line_notifies : (c : Client) (now : Cache) (l : Line) → c.cache ≡ Some now → AreUnderKey (kept c.cache) → Notifies c (with_line c now l)
line_notifies c now (put o) is under_key =
    let held : kept c.cache ≡ now.objects = ap kept is in
    checks (nat_lt now.revision o.revision && nat_le (fin.len (fin.insert now.objects (place_in o) o)) max_objects) c
    (moved c o.revision (fin.insert now.objects (place_in o) o) (notice_of (fin.get now.objects (place_in o)) (Some o))) under_key
    (record {
      since = notice_of (fin.get now.objects (place_in o)) (Some o);
      waiting = refl;
      replay = λ q. ap (λ s. text_at (replayed s (notice_of (fin.get now.objects (place_in o)) (Some o))) q) held ∙ put_replays now.objects o q;
      under_key = insert_under_key now.objects o (subst AreUnderKey held under_key);
    })
line_notifies c now (lines.deleted o) is under_key =
    let held : kept c.cache ≡ now.objects = ap kept is in
    let there : AreUnderKey now.objects = subst AreUnderKey held under_key in
    checks (nat_lt now.revision o.revision) c (moved c o.revision (fin.remove now.objects (place_in o)) (notice_of (fin.get now.objects (place_in o)) None)) under_key
    (record {
      since = notice_of (fin.get now.objects (place_in o)) None;
      waiting = refl;
      replay = λ q. ap (λ s. text_at (replayed s (notice_of (fin.get now.objects (place_in o)) None)) q) held ∙ remove_replays now.objects o there q;
      under_key = remove_under_key now.objects (place_in o) there;
    })
line_notifies c now (lines.bookmark r) is under_key =
    let held : kept c.cache ≡ now.objects = ap kept is in
    checks (nat_le now.revision r) c (moved c r now.objects []) under_key
    (record { since = []; waiting = refl; replay = λ q. ap (λ s. text_at s q) held; under_key = subst AreUnderKey held under_key })
line_notifies c now error is under_key = same c first false under_key

part_notifies : (c : Client) (r : ℕ) (all : List Stored) (token : Option (List ℕ)) → ascends_within_limit all ≡ true → AreUnderKey (kept c.cache) → Notifies c (keep_paged c r all token)
part_notifies c r all (Some token) fits under_key = same c (next r token all) false under_key
part_notifies c r all None fits under_key =
    let there : AreUnderKey (fin.from_sorted {R = place_cmp} (by_place all)) = list_under_key all (first_of (fin.is_sorted place_cmp (by_place all)) _ fits) in
    record { since = differences (kept c.cache) (fin.from_sorted {R = place_cmp} (by_place all)); waiting = refl; replay = differences_replay (kept c.cache) (fin.from_sorted {R = place_cmp} (by_place all)) under_key there; under_key = there }
  where
    first_of : (a b : Bool) → (a && b) ≡ true → T a
    first_of true b e = tt
    first_of false b e = absurd cc

page_notifies : (c : Client) (emitted : List Stored) (p : Page) → AreUnderKey (kept c.cache) → Notifies c (with_page c emitted p)
page_notifies c emitted p under_key = go (ascends_within_limit (emitted ++ p.objects)) refl
  where
    go : (b : Bool) → ascends_within_limit (emitted ++ p.objects) ≡ b → Notifies c (cond b (keep_paged c p.revision (emitted ++ p.objects) p.token) (relisting c))
    go true fits = part_notifies c p.revision (emitted ++ p.objects) p.token fits under_key
    go false fits = same c first false under_key

list_notifies : (c : Client) (on_page : Page → Client) (response : Response) → ((p : Page) → Notifies c (on_page p)) → AreUnderKey (kept c.cache) → Notifies c (with_list c on_page response)
list_notifies c on_page begun h under_key = same c c.sync c.is_awaiting_reply under_key
list_notifies c on_page (page p) h under_key = h p
list_notifies c on_page (line l) h under_key = same c first false under_key
list_notifies c on_page over h under_key = same c first false under_key
list_notifies c on_page unexpected h under_key = same c first false under_key

watch_notifies : (c : Client) (cache : Option Cache) (response : Response) → c.cache ≡ cache → AreUnderKey (kept c.cache) → Notifies c (with_watch c cache response)
watch_notifies c None begun is under_key = same c c.sync c.is_awaiting_reply under_key
watch_notifies c (Some now) begun is under_key = same c c.sync c.is_awaiting_reply under_key
watch_notifies c None (page p) is under_key = same c first false under_key
watch_notifies c (Some now) (page p) is under_key = same c first false under_key
watch_notifies c None (line l) is under_key = same c first false under_key
watch_notifies c (Some now) (line l) is under_key = line_notifies c now l is under_key
watch_notifies c None over is under_key = same c streaming false under_key
watch_notifies c (Some now) over is under_key = same c streaming false under_key
watch_notifies c None unexpected is under_key = same c first false under_key
watch_notifies c (Some now) unexpected is under_key = same c first false under_key

module _ (wanted : Wanted) where
  item_notifies : (c : Client) (sync : SyncPhase) (x : ReplyItem) → AreUnderKey (kept c.cache) → Notifies c (with_item wanted c sync x)
  item_notifies c first x under_key = list_notifies c (with_page c []) (said_of_list wanted x) (λ p. page_notifies c [] p under_key) under_key
  item_notifies c (next r token paged_list) x under_key =
      list_notifies c (with_next c r paged_list) (said_of_list wanted x) (λ p. checks (nat_eq p.revision r) c (with_page c paged_list p) under_key (page_notifies c paged_list p under_key)) under_key
  item_notifies c streaming x under_key = watch_notifies c c.cache (said_of_watch wanted x) refl under_key

  step_notifies : (c : Client) (x : ReplyItem) → AreUnderKey (kept c.cache) → Notifies c (receives wanted c x)
  step_notifies c x under_key = go c.is_awaiting_reply
    where
      go : (b : Bool) → Notifies c (cond b (with_item wanted c c.sync x) c)
      go true = item_notifies c c.sync x under_key
      go false = same c c.sync c.is_awaiting_reply under_key

  pub all_notify : (c : Client) (xs : List ReplyItem) → AreUnderKey (kept c.cache) → Notifies c (receives_all wanted c xs)
  all_notify c [] under_key = same c c.sync c.is_awaiting_reply under_key
  all_notify c (x ∷ xs) under_key =
      let one : Notifies c (receives wanted c x) = step_notifies c x under_key in
      joined c (receives wanted c x) (receives_all wanted (receives wanted c x) xs) one (all_notify (receives wanted c x) xs one.under_key)
