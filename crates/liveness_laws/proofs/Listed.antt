-- The objects that are read of a beginning of the list are a list that the client takes.
use Rattle.std.proofs.Common.{◌≡◌, ℕ, ◌+◌, ◌≤◌, Bool, true, false, ◌&&◌, T, List, [], ◌∷◌, ◌++◌, length, refl, sym, ap, ap₂, subst, ◌∙◌, arith, le-leb, length-append}
use Rattle.std.proofs.lemmas.List.{map-append}
use Rattle.std.specs.FinMap as fin
use Rattle.std.specs.FinMap.Entries.{below_all}
use Rattle.history.specs.History as history
use Rattle.indexer.specs.Objects.{Place, Stored, place_cmp}
use Rattle.decoder.specs.Wanted.{Wanted}
use Rattle.line_laws.specs.Listed.{AreReadAs}
use Rattle.reflector.specs.Client.{by_place, max_objects, place_in}
use Rattle.reflector.specs.Run.{ascends_within_limit}
use Rattle.world_laws.proofs.Mirrored.{AllRead, AreRead, Entries, each_read, entries-mirrored, read_all}
use Rattle.world_laws.proofs.Parts.{all_left, read_both}
use Rattle.world_laws.proofs.Mirror.{mirrored}

both : (a b : Bool) → T a → T b → T (a && b)
both true b p q = q
both false b p q = p

fst : (a b : Bool) → T (a && b) → T a
fst true b p = tt
fst false b p = p

snd : (a b : Bool) → T (a && b) → T b
snd true b p = p
snd false b p = absurd p

truly : (b : Bool) → T b → b ≡ true
truly true h = refl
truly false h = absurd h

below_prefix : (k : Place) (xs ys : List (Place × Stored)) → T (below_all place_cmp k (xs ++ ys)) → T (below_all place_cmp k xs)
below_prefix k [] ys h = tt
below_prefix k (x ∷ xs) ys h = both _ _ (fst _ _ h) (below_prefix k xs ys (snd _ _ h))

sorted_prefix : (xs ys : List (Place × Stored)) → T (fin.is_sorted place_cmp (xs ++ ys)) → T (fin.is_sorted place_cmp xs)
sorted_prefix [] ys h = tt
sorted_prefix (x ∷ xs) ys h = both _ _ (below_prefix x.0 xs ys (fst _ _ h)) (sorted_prefix xs ys (snd _ _ h))

as_many : (wanted : Wanted) (es : Entries) (xs : List Stored) → AreReadAs wanted es xs → length es ≡ length xs
as_many wanted [] [] read = refl
as_many wanted [] (x ∷ xs) read = absurd read
as_many wanted (e ∷ es) [] read = absurd read
as_many wanted (e ∷ es) (x ∷ xs) read = let rest : length es ≡ length xs = as_many wanted es xs read.1 in omega (arith, rest)

pub is_list_of : (wanted : Wanted) (kind : ℕ) (s : history.Objects) → AreRead wanted kind s → fin.len s ≤ max_objects
    → (prefix rest : Entries) (xs : List Stored) → fin.entries s ≡ prefix ++ rest → AreReadAs wanted prefix xs → ascends_within_limit xs ≡ true
is_list_of wanted kind s are few prefix rest xs is read =
    let left : AllRead wanted kind rest = all_left _ prefix rest (subst (AllRead wanted kind) is (each_read wanted kind s are)) in
    let others = read_all wanted kind rest left in
    let whole : AreReadAs wanted (fin.entries s) (xs ++ others.0) = subst (λ es. AreReadAs wanted es (xs ++ others.0)) (sym is) (read_both wanted prefix rest xs others.0 read others.1) in
    let entries : fin.entries (mirrored wanted s) ≡ by_place xs ++ by_place others.0 =
    entries-mirrored wanted kind s are (xs ++ others.0) whole ∙ map-append (λ (x : Stored). (place_in x, x)) xs others.0 in
    let sorted : fin.is_sorted place_cmp (by_place xs) ≡ true =
    truly _ (sorted_prefix (by_place xs) (by_place others.0) (subst (λ es. T (fin.is_sorted place_cmp es)) entries (fin.entries_sorted (mirrored wanted s)))) in
    let a : fin.len s ≡ length (fin.entries s) = fin.len-entries s in
    let b : length (fin.entries s) ≡ length prefix + length rest = ap length is ∙ length-append prefix rest in
    let c : length prefix ≡ length xs = as_many wanted prefix xs read in
    let low : length xs ≤ max_objects = omega (arith, few, a, b, c) in
    ap₂ (λ x y. x && y) sorted (le-leb _ _ low)
