-- What paths lead where, by their parts between slashes.
use Rattle.matchit.proofs.OnLiterals.{matchit_on_literals}
use Rattle.std.proofs.Common.{◌≡◌, ℕ, ◌<◌, inl, inr, Bool, true, false, cond, ◌&&◌, ◌==◌, List, [], ◌∷◌, ◌++◌, ◌+◌, drop, length, Some, None, refl, sym, ap, ◌∙◌, arith, true≢false, ltb-true}
use Rattle.std.proofs.lemmas.Bool.Decides.{nat_tests}
use Rattle.std.specs.Prelude.{option_and_then, codes}
use Rattle.std.specs.Char.{is_ascii}
use Rattle.std.specs.List.{list_all}
use Rattle.matchit.specs.Rows.{RowsOf, param_token}
use Rattle.matchit.specs.Router.{RouteOf}
use Rattle.matchit.specs.Params.{part_of, walk}
use Rattle.matchit.specs.Seek.{first, seek, segment, slash, step, with_suffix}
use Rattle.api_types.specs.TypesFile.{ServedShape}
use Rattle.api_request.specs.declared.resource.Resource.{Resource}
use Rattle.api_request.specs.declared.resource.Resource.TheVariants.{AllNamespaces, Collection, Object, Status}
use Rattle.api_request.specs.Admit.{Parts, all_path, collection_path, object_path, parts_by, place_by, place_in, place_of, routes, status_path}
use Rattle.api_request.specs.RouteLaws.{IsPart, PathsOfAll, PathsOfCollections, PathsOfObjects, PathsOfStatus, path_of_all, path_of_collection, path_of_object, path_of_status}
use Rattle.api_request.proofs.Seeking.{first_whole, params_none, rest_whole, seek_end, seek_literals, seek_part, slashed_none, steps}
use Rattle.api_request.proofs.Walking.{AreBytes, Left, goes_on, left_all, left_past, walk_end, walk_mid}

-- ---- parts

no_part : {A : Type 0} → IsPart [] → A
no_part is = let h : 0 < 0 = is.some in absurd (omega (arith, h))

head_byte : (b : ℕ) (s : List ℕ) → IsPart (b ∷ s) → (param_token == b) ≡ false
head_byte b s is = by (is_ascii b) refl is.ascii
  where
    by : (v : Bool) → is_ascii b ≡ v → (v && list_all is_ascii s) ≡ true → (param_token == b) ≡ false
    by true e f = let low : b < 128 = ltb-true b 128 e in grind (arith, nat_tests)
    by false e f = absurd (true≢false (sym f))

all_both : (xs ys : List ℕ) → list_all is_ascii xs ≡ true → list_all is_ascii ys ≡ true → list_all is_ascii (xs ++ ys) ≡ true
all_both [] ys h k = k
all_both (x ∷ xs) ys h k = by (is_ascii x) h (λ e. all_both xs ys e k)
  where
    by : (v : Bool) → (v && list_all is_ascii xs) ≡ true → (list_all is_ascii xs ≡ true → list_all is_ascii (xs ++ ys) ≡ true) → (v && list_all is_ascii (xs ++ ys)) ≡ true
    by true h later = later h
    by false h later = h

-- ---- the routes

abbrev RouteRows : Type 0
RouteRows = RowsOf (RouteOf Resource)

abbrev all_route : RouteOf Resource
all_route = record { pattern = codes "/apis/" ++ param_token ∷ slash ∷ param_token ∷ slash ∷ param_token ∷ []; text = all_path; names = (7, 12) ∷ (15, 22) ∷ (25, 31) ∷ []; value = AllNamespaces }

abbrev collection_route : RouteOf Resource
collection_route = record {
  pattern = codes "/apis/" ++ param_token ∷ slash ∷ param_token ∷ codes "/namespaces/" ++ param_token ∷ slash ∷ param_token ∷ [];
  text = collection_path;
  names = (7, 12) ∷ (15, 22) ∷ (36, 45) ∷ (48, 54) ∷ [];
  value = Collection;
}

abbrev object_route : RouteOf Resource
object_route = record {
  pattern = codes "/apis/" ++ param_token ∷ slash ∷ param_token ∷ codes "/namespaces/" ++ param_token ∷ slash ∷ param_token ∷ slash ∷ param_token ∷ [];
  text = object_path;
  names = (7, 12) ∷ (15, 22) ∷ (36, 45) ∷ (48, 54) ∷ (57, 61) ∷ [];
  value = Object;
}

abbrev status_route : RouteOf Resource
status_route = record {
  pattern = codes "/apis/" ++ param_token ∷ slash ∷ param_token ∷ codes "/namespaces/" ++ param_token ∷ slash ∷ param_token ∷ slash ∷ param_token ∷ codes "/status";
  text = status_path;
  names = (7, 12) ∷ (15, 22) ∷ (36, 45) ∷ (48, 54) ∷ (57, 61) ∷ [];
  value = Status;
}

-- all of them, in their order
abbrev table : RouteRows
table = (status_route.pattern, status_route) ∷ (object_route.pattern, object_route) ∷ (collection_route.pattern, collection_route) ∷ (all_route.pattern, all_route) ∷ []

routes_are : routes ≡ table
unfolding routes matchit_on_literals
routes_are = refl

-- the rows behind a part and its slash
abbrev past : RouteRows → RouteRows
past rs = steps (slash ∷ []) (with_suffix (slash ∷ []) (step param_token rs))

abbrev grouped : RouteRows
grouped = steps (codes "/apis/") table

abbrev versioned : RouteRows
versioned = past grouped

abbrev typed : RouteRows
typed = past versioned

abbrev spaced : RouteRows
spaced = steps (codes "namespaces/") typed

-- behind a group and a version
behind : (g v rest : List ℕ) (k : RouteOf Resource) → IsPart g → IsPart v → seek 0 typed rest ≡ Some k → first table (codes "/apis/" ++ (g ++ slash ∷ (v ++ slash ∷ rest))) ≡ Some k
behind [] v rest k ig iv found = no_part ig
behind (a ∷ g) [] rest k ig iv found = no_part iv
behind (a ∷ g) (c ∷ v) rest k ig iv found =
    seek_literals (codes "/apis/") table (a ∷ g ++ slash ∷ (c ∷ v ++ slash ∷ rest)) k
    (seek_part grouped a g (c ∷ v ++ slash ∷ rest) k ig.whole (head_byte a g ig) (refl, (refl, (refl, (refl, tt)))) (refl, (inl refl, (inl refl, (inl refl, tt))))
    (seek_part versioned c v rest k iv.whole (head_byte c v iv) (refl, (refl, (refl, (refl, tt)))) (refl, (inl refl, (inl refl, (inl refl, tt)))) found))

found_all : (g v p : List ℕ) → IsPart g → IsPart v → IsPart p → first table (path_of_all g v p) ≡ Some all_route
found_all g v [] ig iv ip = no_part ip
found_all g v (d ∷ p) ig iv ip =
    behind g v (d ∷ p) all_route ig iv
    (seek_end typed d p all_route ip.whole (slashed_none d typed p (first_whole d p ip.whole) (head_byte d p ip) (rest_whole d p ip.whole) (inl refl, (inl refl, (inl refl, (inr refl, tt))))) (inr refl, tt) refl)

found_collection : (g v n p : List ℕ) → IsPart g → IsPart v → IsPart n → IsPart p → first table (path_of_collection g v n p) ≡ Some collection_route
found_collection g v [] p ig iv inn ip = no_part inn
found_collection g v (b ∷ n) [] ig iv inn ip = no_part ip
found_collection g v (b ∷ n) (d ∷ p) ig iv inn ip =
    behind g v (codes "namespaces/" ++ (b ∷ n ++ slash ∷ d ∷ p)) collection_route ig iv
    (seek_literals (codes "namespaces/") typed (b ∷ n ++ slash ∷ d ∷ p) collection_route
    (seek_part spaced b n (d ∷ p) collection_route inn.whole (head_byte b n inn) (refl, (refl, (refl, tt))) (refl, (inl refl, (inl refl, tt)))
    (seek_end (past spaced) d p collection_route ip.whole (params_none d (past spaced) p (head_byte d p ip) (refl, (refl, (refl, tt)))) (inl refl, (inl refl, (inr refl, tt))) refl)))

found_object : (g v n p o : List ℕ) → IsPart g → IsPart v → IsPart n → IsPart p → IsPart o → first table (path_of_object g v n p o) ≡ Some object_route
found_object g v [] p o ig iv inn ip io = no_part inn
found_object g v (b ∷ n) [] o ig iv inn ip io = no_part ip
found_object g v (b ∷ n) (d ∷ p) [] ig iv inn ip io = no_part io
found_object g v (b ∷ n) (d ∷ p) (e ∷ o) ig iv inn ip io =
    behind g v (codes "namespaces/" ++ (b ∷ n ++ slash ∷ (d ∷ p ++ slash ∷ e ∷ o))) object_route ig iv
    (seek_literals (codes "namespaces/") typed (b ∷ n ++ slash ∷ (d ∷ p ++ slash ∷ e ∷ o)) object_route
    (seek_part spaced b n (d ∷ p ++ slash ∷ e ∷ o) object_route inn.whole (head_byte b n inn) (refl, (refl, (refl, tt))) (refl, (inl refl, (inl refl, tt)))
    (seek_part (past spaced) d p (e ∷ o) object_route ip.whole (head_byte d p ip) (refl, (refl, (refl, tt))) (refl, (inl refl, (inr refl, tt)))
    (seek_end (past (past spaced)) e o object_route io.whole (params_none e (past (past spaced)) o (head_byte e o io) (refl, (refl, tt))) (inl refl, (inr refl, tt)) refl))))

found_last : seek 0 (past (past (past spaced))) (codes "status") ≡ Some status_route
unfolding seek
found_last = refl

found_status : (g v n p o : List ℕ) → IsPart g → IsPart v → IsPart n → IsPart p → IsPart o → first table (path_of_status g v n p o) ≡ Some status_route
found_status g v [] p o ig iv inn ip io = no_part inn
found_status g v (b ∷ n) [] o ig iv inn ip io = no_part ip
found_status g v (b ∷ n) (d ∷ p) [] ig iv inn ip io = no_part io
found_status g v (b ∷ n) (d ∷ p) (e ∷ o) ig iv inn ip io =
    let last = e ∷ o ++ codes "/status" in
    behind g v (codes "namespaces/" ++ (b ∷ n ++ slash ∷ (d ∷ p ++ slash ∷ last))) status_route ig iv
    (seek_literals (codes "namespaces/") typed (b ∷ n ++ slash ∷ (d ∷ p ++ slash ∷ last)) status_route
    (seek_part spaced b n (d ∷ p ++ slash ∷ last) status_route inn.whole (head_byte b n inn) (refl, (refl, (refl, tt))) (refl, (inl refl, (inl refl, tt)))
    (seek_part (past spaced) d p last status_route ip.whole (head_byte d p ip) (refl, (refl, (refl, tt))) (refl, (inl refl, (inr refl, tt)))
    (seek_part (past (past spaced)) e o (codes "status") status_route io.whole (head_byte e o io) (refl, (refl, tt)) (refl, (inr refl, tt)) found_last))))

-- ---- what the names of a route take

-- the place behind a group and a version
abbrev second : List ℕ → List ℕ → ℕ
second g v = 0 + length (codes "/apis/") + length g + length (slash ∷ []) + length v

left_second : (g v rest : List ℕ) → Left (codes "/apis/" ++ (g ++ slash ∷ (v ++ slash ∷ rest))) (second g v) (slash ∷ rest)
left_second g v rest =
    let path = codes "/apis/" ++ (g ++ slash ∷ (v ++ slash ∷ rest)) in
    let grouped = left_past path 0 (codes "/apis/") (g ++ slash ∷ (v ++ slash ∷ rest)) (left_all path) in
    let slashed = left_past path (0 + length (codes "/apis/")) g (slash ∷ v ++ slash ∷ rest) grouped in
    let versioned = left_past path (0 + length (codes "/apis/") + length g) (slash ∷ []) (v ++ slash ∷ rest) slashed in
    left_past path (0 + length (codes "/apis/") + length g + length (slash ∷ [])) v (slash ∷ rest) versioned

apis_bytes : AreBytes (codes "/apis/")
apis_bytes = (refl, (refl, (refl, (refl, (refl, (refl, tt))))))

namespaces_bytes : AreBytes (codes "/namespaces/")
namespaces_bytes = (refl, (refl, (refl, (refl, (refl, (refl, (refl, (refl, (refl, (refl, (refl, (refl, tt))))))))))))

two_parts : (pattern text g v rest pat more : List ℕ) (n m : ℕ × ℕ) (names : List (ℕ × ℕ)) → IsPart g → IsPart v
    → drop 0 pattern ≡ codes "/apis/" ++ param_token ∷ pat → goes_on pattern 6 ≡ true → segment (drop 7 pattern) ≡ slash ∷ []
    → drop 7 pattern ≡ slash ∷ param_token ∷ more → goes_on pattern 8 ≡ true → segment (drop 9 pattern) ≡ slash ∷ []
    → walk pattern text (codes "/apis/" ++ (g ++ slash ∷ (v ++ slash ∷ rest))) (n ∷ m ∷ names) 0 0
    ≡ (part_of text n.0 n.1, g) ∷ (part_of text m.0 m.1, v) ∷ walk pattern text (codes "/apis/" ++ (g ++ slash ∷ (v ++ slash ∷ rest))) names 9 (second g v)
two_parts pattern text g v rest pat more n m names ig iv tokens inner after tokens' inner' after' =
    let path = codes "/apis/" ++ (g ++ slash ∷ (v ++ slash ∷ rest)) in
    let grouped = left_past path 0 (codes "/apis/") (g ++ slash ∷ (v ++ slash ∷ rest)) (left_all path) in
    let slashed = left_past path (0 + length (codes "/apis/")) g (slash ∷ v ++ slash ∷ rest) grouped in
    walk_mid pattern text path n (m ∷ names) 0 0 (codes "/apis/") g pat (v ++ slash ∷ rest) tokens apis_bytes ig.whole inner after (left_all path)
    ∙ ap (λ ps. (part_of text n.0 n.1, g) ∷ ps)
    (walk_mid pattern text path m names 7 (0 + length (codes "/apis/") + length g) (slash ∷ []) v more rest tokens' (refl, tt) iv.whole inner' after' slashed)

-- the place behind a namespace
abbrev third : List ℕ → List ℕ → List ℕ → ℕ
third g v n = second g v + length (codes "/namespaces/") + length n

left_third : (g v n rest : List ℕ) → Left (codes "/apis/" ++ (g ++ slash ∷ (v ++ (codes "/namespaces/" ++ (n ++ slash ∷ rest))))) (third g v n) (slash ∷ rest)
left_third g v n rest =
    let path = codes "/apis/" ++ (g ++ slash ∷ (v ++ (codes "/namespaces/" ++ (n ++ slash ∷ rest)))) in
    let spaced = left_past path (second g v) (codes "/namespaces/") (n ++ slash ∷ rest) (left_second g v (codes "namespaces/" ++ (n ++ slash ∷ rest))) in
    left_past path (second g v + length (codes "/namespaces/")) n (slash ∷ rest) spaced

parts_all : (g v p : List ℕ) → IsPart g → IsPart v → parts_by (path_of_all g v p) all_route ≡ (codes "group", g) ∷ (codes "version", v) ∷ (codes "plural", p) ∷ []
parts_all g v p ig iv =
    two_parts all_route.pattern all_path g v p (slash ∷ param_token ∷ slash ∷ param_token ∷ []) (slash ∷ param_token ∷ []) (7, 12) (15, 22) ((25, 31) ∷ []) ig iv refl refl refl refl refl refl
    ∙ ap (λ ps. (codes "group", g) ∷ (codes "version", v) ∷ ps)
    (walk_end all_route.pattern all_path (path_of_all g v p) (25, 31) 9 (second g v) (slash ∷ []) p [] refl (refl, tt) refl (left_second g v p))

-- of the routes with a namespace, up to it
three_parts : (pattern text g v n rest pat more last : List ℕ) (names : List (ℕ × ℕ)) → IsPart g → IsPart v → IsPart n
    → drop 0 pattern ≡ codes "/apis/" ++ param_token ∷ pat → goes_on pattern 6 ≡ true → segment (drop 7 pattern) ≡ slash ∷ []
    → drop 7 pattern ≡ slash ∷ param_token ∷ more → goes_on pattern 8 ≡ true → segment (drop 9 pattern) ≡ slash ∷ []
    → drop 9 pattern ≡ codes "/namespaces/" ++ param_token ∷ last → goes_on pattern 21 ≡ true → segment (drop 22 pattern) ≡ slash ∷ []
    → walk pattern text (codes "/apis/" ++ (g ++ slash ∷ (v ++ (codes "/namespaces/" ++ (n ++ slash ∷ rest))))) ((7, 12) ∷ (15, 22) ∷ (36, 45) ∷ names) 0 0
    ≡ (part_of text 7 12, g) ∷ (part_of text 15 22, v) ∷ (part_of text 36 45, n)
    ∷ walk pattern text (codes "/apis/" ++ (g ++ slash ∷ (v ++ (codes "/namespaces/" ++ (n ++ slash ∷ rest))))) names 22 (third g v n)
three_parts pattern text g v n rest pat more last names ig iv inn a b c d e f tokens inner after =
    let path = codes "/apis/" ++ (g ++ slash ∷ (v ++ (codes "/namespaces/" ++ (n ++ slash ∷ rest)))) in
    two_parts pattern text g v (codes "namespaces/" ++ (n ++ slash ∷ rest)) pat more (7, 12) (15, 22) ((36, 45) ∷ names) ig iv a b c d e f
    ∙ ap (λ ps. (part_of text 7 12, g) ∷ (part_of text 15 22, v) ∷ ps)
    (walk_mid pattern text path (36, 45) names 9 (second g v) (codes "/namespaces/") n last rest tokens namespaces_bytes inn.whole inner after (left_second g v (codes "namespaces/" ++ (n ++ slash ∷ rest))))

parts_collection : (g v n p : List ℕ) → IsPart g → IsPart v → IsPart n
    → parts_by (path_of_collection g v n p) collection_route ≡ (codes "group", g) ∷ (codes "version", v) ∷ (codes "namespace", n) ∷ (codes "plural", p) ∷ []
parts_collection g v n p ig iv inn =
    three_parts collection_route.pattern collection_path g v n p
    (slash ∷ param_token ∷ codes "/namespaces/" ++ param_token ∷ slash ∷ param_token ∷ []) (codes "/namespaces/" ++ param_token ∷ slash ∷ param_token ∷ []) (slash ∷ param_token ∷ [])
    ((48, 54) ∷ []) ig iv inn refl refl refl refl refl refl refl refl refl
    ∙ ap (λ ps. (codes "group", g) ∷ (codes "version", v) ∷ (codes "namespace", n) ∷ ps)
    (walk_end collection_route.pattern collection_path (path_of_collection g v n p) (48, 54) 22 (third g v n) (slash ∷ []) p [] refl (refl, tt) refl (left_third g v n p))

parts_object : (g v n p o : List ℕ) → IsPart g → IsPart v → IsPart n → IsPart p
    → parts_by (path_of_object g v n p o) object_route ≡ (codes "group", g) ∷ (codes "version", v) ∷ (codes "namespace", n) ∷ (codes "plural", p) ∷ (codes "name", o) ∷ []
parts_object g v n p o ig iv inn ip =
    let path = path_of_object g v n p o in
    let left = left_third g v n (p ++ slash ∷ o) in
    let named = left_past path (third g v n) (slash ∷ []) (p ++ slash ∷ o) left in
    three_parts object_route.pattern object_path g v n (p ++ slash ∷ o)
    (slash ∷ param_token ∷ codes "/namespaces/" ++ param_token ∷ slash ∷ param_token ∷ slash ∷ param_token ∷ [])
    (codes "/namespaces/" ++ param_token ∷ slash ∷ param_token ∷ slash ∷ param_token ∷ []) (slash ∷ param_token ∷ slash ∷ param_token ∷ [])
    ((48, 54) ∷ (57, 61) ∷ []) ig iv inn refl refl refl refl refl refl refl refl refl
    ∙ ap (λ ps. (codes "group", g) ∷ (codes "version", v) ∷ (codes "namespace", n) ∷ ps)
    (walk_mid object_route.pattern object_path path (48, 54) ((57, 61) ∷ []) 22 (third g v n) (slash ∷ []) p (slash ∷ param_token ∷ []) o refl (refl, tt) ip.whole refl refl left
    ∙ ap (λ ps. (codes "plural", p) ∷ ps)
    (walk_end object_route.pattern object_path path (57, 61) 24 (third g v n + length (slash ∷ []) + length p) (slash ∷ []) o [] refl (refl, tt) refl
    (left_past path (third g v n + length (slash ∷ [])) p (slash ∷ o) named)))

parts_status : (g v n p o : List ℕ) → IsPart g → IsPart v → IsPart n → IsPart p → IsPart o
    → parts_by (path_of_status g v n p o) status_route ≡ (codes "group", g) ∷ (codes "version", v) ∷ (codes "namespace", n) ∷ (codes "plural", p) ∷ (codes "name", o) ∷ []
parts_status g v n p o ig iv inn ip io =
    let path = path_of_status g v n p o in
    let last = o ++ codes "/status" in
    let left = left_third g v n (p ++ slash ∷ last) in
    let named = left_past path (third g v n) (slash ∷ []) (p ++ slash ∷ last) left in
    three_parts status_route.pattern status_path g v n (p ++ slash ∷ last)
    (slash ∷ param_token ∷ codes "/namespaces/" ++ param_token ∷ slash ∷ param_token ∷ slash ∷ param_token ∷ codes "/status")
    (codes "/namespaces/" ++ param_token ∷ slash ∷ param_token ∷ slash ∷ param_token ∷ codes "/status") (slash ∷ param_token ∷ slash ∷ param_token ∷ codes "/status")
    ((48, 54) ∷ (57, 61) ∷ []) ig iv inn refl refl refl refl refl refl refl refl refl
    ∙ ap (λ ps. (codes "group", g) ∷ (codes "version", v) ∷ (codes "namespace", n) ∷ ps)
    (walk_mid status_route.pattern status_path path (48, 54) ((57, 61) ∷ []) 22 (third g v n) (slash ∷ []) p (slash ∷ param_token ∷ codes "/status") last refl (refl, tt) ip.whole refl refl left
    ∙ ap (λ ps. (codes "plural", p) ∷ ps)
    (walk_mid status_route.pattern status_path path (57, 61) [] 24 (third g v n + length (slash ∷ []) + length p) (slash ∷ []) o (codes "/status") (codes "status") refl (refl, tt) io.whole refl refl
    (left_past path (third g v n + length (slash ∷ [])) p (slash ∷ last) named)))

-- ---- places

led : (types : List ServedShape) (path : List ℕ) (route : RouteOf Resource) (parts : Parts) → list_all is_ascii path ≡ true → first table path ≡ Some route → parts_by path route ≡ parts
    → place_of types path ≡ place_in types route.value parts
led types path route parts ascii found parts_are =
    ap (λ b. cond b (option_and_then (place_by types path) (first routes path)) None) ascii
    ∙ ap (option_and_then (place_by types path)) (ap (λ rs. first rs path) routes_are ∙ found)
    ∙ ap (place_in types route.value) parts_are

pub paths_of_all : PathsOfAll
paths_of_all types g v p ig iv ip =
    led types (path_of_all g v p) all_route _
    (all_both (codes "/apis/") (g ++ slash ∷ (v ++ slash ∷ p)) refl (all_both g (slash ∷ v ++ slash ∷ p) ig.ascii (all_both v (slash ∷ p) iv.ascii ip.ascii)))
    (found_all g v p ig iv ip) (parts_all g v p ig iv)

pub paths_of_collections : PathsOfCollections
paths_of_collections types g v n p ig iv inn ip =
    led types (path_of_collection g v n p) collection_route _
    (all_both (codes "/apis/") (g ++ slash ∷ (v ++ (codes "/namespaces/" ++ (n ++ slash ∷ p)))) refl
    (all_both g (slash ∷ (v ++ (codes "/namespaces/" ++ (n ++ slash ∷ p)))) ig.ascii
    (all_both v (codes "/namespaces/" ++ (n ++ slash ∷ p)) iv.ascii (all_both n (slash ∷ p) inn.ascii ip.ascii))))
    (found_collection g v n p ig iv inn ip) (parts_collection g v n p ig iv inn)

pub paths_of_objects : PathsOfObjects
paths_of_objects types g v n p o ig iv inn ip io =
    led types (path_of_object g v n p o) object_route _
    (all_both (codes "/apis/") (g ++ slash ∷ (v ++ (codes "/namespaces/" ++ (n ++ slash ∷ (p ++ slash ∷ o))))) refl
    (all_both g (slash ∷ (v ++ (codes "/namespaces/" ++ (n ++ slash ∷ (p ++ slash ∷ o))))) ig.ascii
    (all_both v (codes "/namespaces/" ++ (n ++ slash ∷ (p ++ slash ∷ o))) iv.ascii (all_both n (slash ∷ p ++ slash ∷ o) inn.ascii (all_both p (slash ∷ o) ip.ascii io.ascii)))))
    (found_object g v n p o ig iv inn ip io) (parts_object g v n p o ig iv inn ip)

pub paths_of_status : PathsOfStatus
paths_of_status types g v n p o ig iv inn ip io =
    let last = o ++ codes "/status" in
    led types (path_of_status g v n p o) status_route _
    (all_both (codes "/apis/") (g ++ slash ∷ (v ++ (codes "/namespaces/" ++ (n ++ slash ∷ (p ++ slash ∷ last))))) refl
    (all_both g (slash ∷ (v ++ (codes "/namespaces/" ++ (n ++ slash ∷ (p ++ slash ∷ last))))) ig.ascii
    (all_both v (codes "/namespaces/" ++ (n ++ slash ∷ (p ++ slash ∷ last))) iv.ascii (all_both n (slash ∷ p ++ slash ∷ last) inn.ascii
    (all_both p (slash ∷ last) ip.ascii (all_both o (codes "/status") io.ascii refl))))))
    (found_status g v n p o ig iv inn ip io) (parts_status g v n p o ig iv inn ip io)
