-- The pages of a list make the list.
use Rattle.std.proofs.Common.{◌≡◌, ℕ, ◌+◌, ◌≤◌, Bool, true, false, cond, ◌&&◌, T, List, [], ◌∷◌, ◌++◌, length, refl, sym, ap, ap₂, subst, ◌∙◌, Option, Some, None, Ok, arith, append_assoc, le-leb, length-append, eq-eqb}
use Rattle.std.proofs.lemmas.List.{map-append, length-map}
use Rattle.std.specs.FinMap as fin
use Rattle.std.specs.FinMap.Entries.{below_all}
use Rattle.indexer.specs.Objects.{Place, place_cmp, Stored}
use Rattle.wireclient.specs.Reply.{head, whole, end}
use Rattle.decoder.specs.Wanted.{Wanted}
use Rattle.decoder.specs.Pages.{Page, page_in}
use Rattle.reflector.specs.Client.{Objects, place_in, by_place, max_objects, Notice, Cache, SyncPhase, first, next, streaming, Client}
use Rattle.reflector.specs.Items.{page_or_unexpected}
use Rattle.reflector.specs.Run.{relisting, keep_paged, ascends_within_limit, with_page, with_list, with_next, receives, receives_all}
use Rattle.reflector.specs.ListLaws.{answered, IsLastPageOr, ArePages}
use Rattle.reflector.proofs.Follows.{all_of}

both : (a b : Bool) → T a → T b → T (a && b)
both true b p q = q
both false b p q = p

fst : (a b : Bool) → T (a && b) → T a
fst true b p = tt
fst false b p = p

snd : (a b : Bool) → T (a && b) → T b
snd true b p = p
snd false b p = absurd p

is_true : (b : Bool) → T b → b ≡ true
is_true true h = refl
is_true false h = absurd h

below_prefix : (k : Place) (xs ys : List (Place × Stored)) → T (below_all place_cmp k (xs ++ ys)) → T (below_all place_cmp k xs)
below_prefix k [] ys h = tt
below_prefix k (x ∷ xs) ys h = both _ _ (fst _ _ h) (below_prefix k xs ys (snd _ _ h))

sorted_prefix : (xs ys : List (Place × Stored)) → T (fin.is_sorted place_cmp (xs ++ ys)) → T (fin.is_sorted place_cmp xs)
sorted_prefix [] ys h = tt
sorted_prefix (x ∷ xs) ys h = both _ _ (below_prefix x.0 xs ys (fst _ _ h)) (sorted_prefix xs ys (snd _ _ h))

-- a prefix of the objects is a list that is taken
prefix_fits : (o : Objects) (emitted : List Stored) (rest : List (Place × Stored)) → fin.entries o ≡ by_place emitted ++ rest → fin.len o ≤ max_objects → ascends_within_limit emitted ≡ true
prefix_fits o emitted rest is few =
    let sorted : fin.is_sorted place_cmp (by_place emitted) ≡ true = is_true _ (sorted_prefix (by_place emitted) rest (subst (λ xs. T (fin.is_sorted place_cmp xs)) is (fin.entries_sorted o))) in
    let a : fin.len o ≡ length (fin.entries o) = fin.len-entries o in
    let b : length (fin.entries o) ≡ length (by_place emitted ++ rest) = ap length is in
    let c : length (by_place emitted ++ rest) ≡ length (by_place emitted) + length rest = length-append (by_place emitted) rest in
    let d : length (by_place emitted) ≡ length emitted = length-map emitted (λ o. (place_in o, o)) in
    let e : length emitted ≤ max_objects = omega arith in
    ap₂ (λ x y. x && y) sorted (le-leb _ _ e)

module _ (wanted : Wanted) (o : Objects) (r : ℕ) where
  -- what was told is a prefix of the objects
  prefix_of : (emitted : List Stored) (bodies : List (List ℕ)) → ArePages wanted o r emitted bodies → (rest : List (Place × Stored)) × (fin.entries o ≡ by_place emitted ++ rest)
  prefix_of emitted [] is = absurd is
  prefix_of emitted (body ∷ bodies) is = go is.0.token is.3 (λ pages. prefix_of (emitted ++ is.0.objects) bodies pages)
    where
      go : (token : Option (List ℕ)) → IsLastPageOr o (emitted ++ is.0.objects) token bodies (ArePages wanted o r (emitted ++ is.0.objects) bodies)
          → (ArePages wanted o r (emitted ++ is.0.objects) bodies → (rest : List (Place × Stored)) × (fin.entries o ≡ by_place (emitted ++ is.0.objects) ++ rest))
          → (rest : List (Place × Stored)) × (fin.entries o ≡ by_place emitted ++ rest)
      go None left others = (by_place is.0.objects, left.1 ∙ map-append (λ s. (place_in s, s)) emitted is.0.objects)
      go (Some token) left others =
          let more : (rest : List (Place × Stored)) × (fin.entries o ≡ by_place (emitted ++ is.0.objects) ++ rest) = others left in
          (by_place is.0.objects ++ more.0, more.1 ∙ ap (λ xs. xs ++ more.0) (map-append (λ s. (place_in s, s)) emitted is.0.objects) ∙ append_assoc (by_place emitted) (by_place is.0.objects) more.0)

  prefix_with : (emitted : List Stored) (p : Page) (bodies : List (List ℕ)) (token : Option (List ℕ)) → IsLastPageOr o (emitted ++ p.objects) token bodies (ArePages wanted o r (emitted ++ p.objects) bodies)
      → (rest : List (Place × Stored)) × (fin.entries o ≡ by_place (emitted ++ p.objects) ++ rest)
  prefix_with emitted p bodies None left = ([], left.1 ∙ sym (nothing_behind (by_place (emitted ++ p.objects))))
    where
      nothing_behind : (xs : List (Place × Stored)) → xs ++ [] ≡ xs
      nothing_behind [] = refl
      nothing_behind (x ∷ xs) = ap (λ ys. x ∷ ys) (nothing_behind xs)
  prefix_with emitted p bodies (Some token) left = prefix_of (emitted ++ p.objects) bodies left

-- a client that asks this
abbrev awaiting_reply : Bool → SyncPhase → Option Cache → List Notice → Client
awaiting_reply b sync cache notices = record { cache = cache; sync = sync; is_awaiting_reply = b; notices = notices }

-- it asks for what comes behind these objects of the list at r
abbrev GoesFrom : ℕ → SyncPhase → List Stored → Type 0
GoesFrom r first emitted = emitted ≡ []
GoesFrom r (next q token paged_list) emitted = (q ≡ r) × (paged_list ≡ emitted)
GoesFrom r streaming emitted = ⊥

module _ (wanted : Wanted) where
  -- what ends a request isn't followed by anything
  ended : (c : Client) (r : ℕ) (all : List Stored) (token : Option (List ℕ)) → receives wanted (keep_paged c r all token) end ≡ keep_paged c r all token
  ended c r all None = refl
  ended c r all (Some token) = refl

  body_received : (sync : SyncPhase) (cache : Option Cache) (notices : List Notice) (r : ℕ) (emitted : List Stored) (body : List ℕ) (p : Page) → GoesFrom r sync emitted → page_in wanted body ≡ Ok p → p.revision ≡ r → ascends_within_limit (emitted ++ p.objects) ≡ true
      → receives wanted (awaiting_reply true sync cache notices) (whole body) ≡ keep_paged (awaiting_reply true sync cache notices) p.revision (emitted ++ p.objects) p.token
  body_received first cache notices r emitted body p from is same fits =
      let c : Client = awaiting_reply true first cache notices in
      ap (λ read. with_list c (with_page c []) (page_or_unexpected read)) is
      ∙ ap (λ t. with_page c t p) (sym from)
      ∙ ap (λ b. cond b (keep_paged c p.revision (emitted ++ p.objects) p.token) (relisting c)) fits
  body_received (next q token paged_list) cache notices r emitted body p from is same fits =
      let c : Client = awaiting_reply true (next q token paged_list) cache notices in
      ap (λ read. with_list c (with_next c q paged_list) (page_or_unexpected read)) is
      ∙ ap (λ b. cond b (with_page c paged_list p) (relisting c)) (eq-eqb _ _ (same ∙ sym from.0))
      ∙ ap (λ t. with_page c t p) from.1
      ∙ ap (λ b. cond b (keep_paged c p.revision (emitted ++ p.objects) p.token) (relisting c)) fits
  body_received streaming cache notices r emitted body p from is same fits = absurd from

  head_received : (sync : SyncPhase) (cache : Option Cache) (notices : List Notice) → receives wanted (awaiting_reply true sync cache notices) (head 200) ≡ awaiting_reply true sync cache notices
  head_received first cache notices = refl
  head_received (next q token paged_list) cache notices = refl
  head_received streaming cache notices = refl

  page_received : (sync : SyncPhase) (cache : Option Cache) (notices : List Notice) (r : ℕ) (emitted : List Stored) (body : List ℕ) (p : Page) → GoesFrom r sync emitted → page_in wanted body ≡ Ok p → p.revision ≡ r → ascends_within_limit (emitted ++ p.objects) ≡ true
      → receives_all wanted (awaiting_reply true sync cache notices) (head 200 ∷ whole body ∷ end ∷ []) ≡ keep_paged (awaiting_reply true sync cache notices) p.revision (emitted ++ p.objects) p.token
  page_received sync cache notices r emitted body p from is same fits =
      ap (λ d. receives wanted (receives wanted d (whole body)) end) (head_received sync cache notices)
      ∙ ap (λ d. receives wanted d end) (body_received sync cache notices r emitted body p from is same fits)
      ∙ ended (awaiting_reply true sync cache notices) p.revision (emitted ++ p.objects) p.token

  module _ (o : Objects) (r : ℕ) (few : fin.len o ≤ max_objects) where
    all_received : (bodies : List (List ℕ)) (b : Bool) (sync : SyncPhase) (cache : Option Cache) (notices : List Notice) (emitted : List Stored) → GoesFrom r sync emitted → ArePages wanted o r emitted bodies
        → (answered wanted (awaiting_reply b sync cache notices) bodies).cache ≡ Some (record { revision = r; objects = o })
    all_received [] b sync cache notices emitted from is = absurd is
    all_received (body ∷ bodies) b sync cache notices emitted from is =
        let p : Page = is.0 in
        let prefix : (rest : List (Place × Stored)) × (fin.entries o ≡ by_place (emitted ++ p.objects) ++ rest) = prefix_with wanted o r emitted p bodies p.token is.3 in
        ap (λ d. (answered wanted d bodies).cache) (page_received sync cache notices r emitted body p from is.1 is.2 (prefix_fits o (emitted ++ p.objects) prefix.0 prefix.1 few))
        ∙ go p p.token is.2 is.3 (λ token pages. all_received bodies false (next p.revision token (emitted ++ p.objects)) cache notices (emitted ++ p.objects) (is.2, refl) pages)
      where
        go : (p : Page) (token : Option (List ℕ)) → p.revision ≡ r → IsLastPageOr o (emitted ++ p.objects) token bodies (ArePages wanted o r (emitted ++ p.objects) bodies)
            → ((token : List ℕ) → ArePages wanted o r (emitted ++ p.objects) bodies → (answered wanted (awaiting_reply false (next p.revision token (emitted ++ p.objects)) cache notices) bodies).cache ≡ Some (record { revision = r; objects = o }))
            → (answered wanted (keep_paged (awaiting_reply true sync cache notices) p.revision (emitted ++ p.objects) token) bodies).cache ≡ Some (record { revision = r; objects = o })
        go p None same left others =
            ap (λ bs. (answered wanted (keep_paged (awaiting_reply true sync cache notices) p.revision (emitted ++ p.objects) None) bs).cache) left.0
            ∙ ap₂ (λ q s. Some (record { revision = q; objects = s })) same (all_of o (emitted ++ p.objects) left.1)
        go p (Some token) same left others = others token left

    pub list_taken : (bodies : List (List ℕ)) (c : Client) → c.sync ≡ first → ArePages wanted o r [] bodies → (answered wanted c bodies).cache ≡ Some (record { revision = r; objects = o })
    list_taken bodies c is pages =
        ap (λ a. (answered wanted (awaiting_reply c.is_awaiting_reply a c.cache c.notices) bodies).cache) is ∙ all_received bodies c.is_awaiting_reply first c.cache c.notices [] refl pages
