-- Other types in the place of those that are served: when they are refused, and what stands then.
use Rattle.std.proofs.Common.{◌≡◌, ◌<◌, ◌≤◌, ◌+◌, ℕ, suc, Bool, true, false, cond, List, [], ◌∷◌, ◌++◌, length, map, refl, sym, ap, subst, ◌∙◌, Option, Some, None, Ok, Err, le-leb}
use Rattle.std.proofs.lemmas.Bool.{lt-leb}
use Rattle.std.proofs.lemmas.Result.{IfErr-weaker, IfOk-weaker}
use Rattle.std.proofs.lemmas.List.Sums.{list_all-from_AllPass}
use Rattle.std.specs.Prelude.{IfErr, IfOk, IfSome, IsUtf8}
use Rattle.std.specs.List.{All, AllByRecursion, list_all}
use Rattle.std.specs.declared.result.Result.{Result}
use Rattle.std.specs.FinMap as fin
use Rattle.serde_json.specs.Data.{Data}
use Rattle.api_types.specs.Retyping.{types_may_become}
use Rattle.schema.specs.ObjectShape.{IsObjectShape}
use Rattle.schema.specs.ObjectTest.{is_object_shape}
use Rattle.api_types.specs.Refusals as schemas
use Rattle.api_types.specs.Discovered.{declared_after}
use Rattle.api_types.specs.TypesFile.{ServedShape, declared_types}
use Rattle.api_types.specs.Views.{FailsWith}
use Rattle.api_types.specs.declared.fault.TypesFault.{TypesFault}
use Rattle.api_types.specs.declared.fault.TypesFault.TheVariants as types_fault
use Rattle.api_types.specs.declared.profile.Profile.TheVariants.{Plain}
use Rattle.schema.proofs.ObjectTests.{test}
use Rattle.history.specs.History.{Change, History, Key, Object, Objects, last_revision, current_objects}
use Rattle.history.specs.Read.{write_of}
use Rattle.history.specs.View.{View, view}
use Rattle.history.specs.Writes.{changes_by, written_all_in}
use Rattle.history.specs.declared.write.Write.{Write}
use Rattle.history.proofs.Writes.{changes_all, view_all}
use Rattle.verbs.specs.declared.api.Api.{Api}
use Rattle.verbs.specs.declared.fault.RetypeFault.{RetypeFault}
use Rattle.verbs.specs.declared.fault.Fault.TheVariants as call_fault
use Rattle.verbs.specs.declared.fault.RetypeFault.TheVariants as retype_fault
use Rattle.verbs.specs.GatheredViews.{AreWritable, IsTooMany, file_fault, gathered}
use Rattle.verbs.specs.Machine.{AreTexts, AreUnicode, IsMachine}
use Rattle.verbs.specs.Retyping.{RetypeRefusal, changed_objects, if_declared, if_compatible, if_revisions_left, not_lawful, not_types, retyped, retyping, retyping_writes, too_few_revisions}
use Rattle.verbs.specs.Views.{IsFileFault, ApiRepresents, objects_in, retype_refusal, reported_of_file, types_of}
use Rattle.verbs.proofs.Gathering.{gathered_length}
use Rattle.verbs.proofs.Machines.{current_objects_seen}
use Rattle.verbs.proofs.Planning.{strings_utf8}
use Rattle.verbs.proofs.Retypings.{retypings_keep_machines}

-- ---- when they are refused

are_shaped : (ts : List ServedShape) → All (λ t. IsObjectShape t.shape) ts → list_all (λ t. is_object_shape t.shape) ts ≡ true
are_shaped ts shaped = list_all-from_AllPass (λ t. is_object_shape t.shape) ts (λ i d lt. test _ (shaped i d lt))

module _ (types : List ServedShape) (m : History) (file : Data) where
  -- a value that is no types file
  pub no_file : (e : schemas.Refusal) → declared_after types file ≡ Err e → retyping types m file ≡ Err not_types
  unfolding retyping
  no_file e is = ap (if_declared types m) is

  -- types of objects
  pub declared_is : (next_types : List ServedShape) → declared_after types file ≡ Ok next_types → All (λ t. IsObjectShape t.shape) next_types → retyping types m file ≡ if_compatible types m next_types
  unfolding retyping
  declared_is next_types is shaped =
      ap (if_declared types m) is ∙ ap (λ (b : Bool). cond b (if_compatible types m next_types) (Err not_types)) (are_shaped next_types shaped)

-- a fault that isn't of memory tells of it
pub no_types : (fault : TypesFault) (types : List ServedShape) (m : History) (file : Data) → FailsWith fault (declared_after types file) → IfSome (retype_refusal (file_fault fault)) (λ why. retyping types m file ≡ Err why)
no_types types_fault.UnknownKeyword types m file is = no_file types m file _ is
no_types types_fault.UnknownType types m file is = no_file types m file _ is
no_types types_fault.Misfit types m file is = no_file types m file _ is
no_types types_fault.TooDeep types m file is = no_file types m file _ is
no_types types_fault.SameNames types m file is = no_file types m file _ is
no_types types_fault.NotTheForm types m file is = no_file types m file _ is
no_types types_fault.Memory types m file is = tt

-- which refusal of the file it is
pub tells_file : (fault : TypesFault) (file : Data) → FailsWith fault (declared_types Plain file) → IfSome (reported_of_file (file_fault fault)) (IsFileFault file)
tells_file types_fault.UnknownKeyword file is = ((λ e. absurd cc), is)
tells_file types_fault.UnknownType file is = ((λ e. absurd cc), is)
tells_file types_fault.Misfit file is = ((λ e. absurd cc), is)
tells_file types_fault.TooDeep file is = ((λ e. absurd cc), is)
tells_file types_fault.SameNames file is = ((λ e. absurd cc), is)
tells_file types_fault.NotTheForm file is = ((λ e. absurd cc), is)
tells_file types_fault.Memory file is = tt

-- too few revisions are no fault of a file
pub none_reported : (revision : ℕ) (fault : RetypeFault) → IsTooMany revision fault → reported_of_file fault ≡ None
none_reported revision (retype_fault.NotTypes why) many = let same = many.0 in absurd cc
none_reported revision retype_fault.NotLawful many = refl
none_reported revision retype_fault.TooFewRevisions many = refl
none_reported revision (retype_fault.Failed fault) many = refl

pub never_unreadable : (fault : TypesFault) → file_fault fault ≡ retype_fault.Failed call_fault.Unreadable → ⊥
never_unreadable types_fault.UnknownKeyword is = absurd cc
never_unreadable types_fault.UnknownType is = absurd cc
never_unreadable types_fault.Misfit is = absurd cc
never_unreadable types_fault.TooDeep is = absurd cc
never_unreadable types_fault.SameNames is = absurd cc
never_unreadable types_fault.NotTheForm is = absurd cc
never_unreadable types_fault.Memory is = absurd cc

module _ (types next_types : List ServedShape) (m : History) where
  pub not_lawful_is : types_may_become types next_types ≡ false → if_compatible types m next_types ≡ Err not_lawful
  not_lawful_is is = ap (λ (b : Bool). cond b (if_revisions_left (m.current + length (changed_objects types next_types (current_objects m))) next_types) (Err not_lawful)) is

  lawful_is : types_may_become types next_types ≡ true → if_compatible types m next_types ≡ if_revisions_left (m.current + length (changed_objects types next_types (current_objects m))) next_types
  lawful_is is = ap (λ (b : Bool). cond b (if_revisions_left (m.current + length (changed_objects types next_types (current_objects m))) next_types) (Err not_lawful)) is

  counted : length (retyping_writes types next_types m) ≡ length (changed_objects types next_types (current_objects m))
  counted = gathered_length types next_types m.current (fin.entries (current_objects m))

  -- as many revisions as objects that change
  pub left_is : types_may_become types next_types ≡ true → m.current + length (retyping_writes types next_types m) ≤ last_revision → if_compatible types m next_types ≡ Ok next_types
  left_is is fits =
      lawful_is is ∙ ap (λ (b : Bool). cond b (Ok next_types) (Err too_few_revisions)) (le-leb _ _ (subst (λ (n : ℕ). m.current + n ≤ last_revision) counted fits))

  pub too_few_is : (fault : RetypeFault) → types_may_become types next_types ≡ true → IsTooMany (m.current + length (retyping_writes types next_types m)) fault
      → IfSome (retype_refusal fault) (λ why. if_compatible types m next_types ≡ Err why)
  too_few_is fault is many = go (retype_refusal fault) many
    where
      go : (o : Option RetypeRefusal) → IfSome o (λ why. (why ≡ too_few_revisions) × (last_revision < m.current + length (retyping_writes types next_types m))) → IfSome o (λ why. if_compatible types m next_types ≡ Err why)
      go None h = tt
      go (Some why) h =
          lawful_is is ∙ ap (λ (b : Bool). cond b (Ok next_types) (Err too_few_revisions)) (lt-leb _ _ (subst (λ (n : ℕ). last_revision < m.current + n) counted h.1)) ∙ ap Err (sym h.0)

-- ---- by what is seen of the machine

module _ (types next_types ts us : List ServedShape) (old : ts ≡ types) (new : us ≡ next_types) (m : History) (is : IsMachine types m) (v : View) (store : v ≡ view m) (current : ℕ) (now : current ≡ v.current) where
  objects_seen : objects_in v ≡ current_objects m
  objects_seen = ap objects_in store ∙ current_objects_seen types m is

  current_seen : current ≡ m.current
  current_seen = now ∙ ap (λ (w : View). w.current) store

  abbrev seen_entries : List (Key × Object)
  seen_entries = fin.entries (objects_in v)

  reported : gathered ts us current seen_entries ≡ retyping_writes types next_types m
  reported =
      ap (λ (l : List ServedShape). gathered l us current seen_entries) old
      ∙ ap (λ (l : List ServedShape). gathered types l current seen_entries) new
      ∙ ap (λ (n : ℕ). gathered types next_types n seen_entries) current_seen
      ∙ ap (λ (s : Objects). gathered types next_types m.current (fin.entries s)) objects_seen

  texts : AreTexts ts (objects_in v)
  texts = subst (λ (l : List ServedShape). AreTexts l (objects_in v)) (sym old) (subst (AreTexts types) (sym objects_seen) is.stand)

  module _ {W : Type 0} (see : W → List (Key × Option (List ℕ))) (r : Result W RetypeFault) where
    pub writes_seen : (AreTexts ts (objects_in v) → IfOk r (λ w. see w ≡ gathered ts us current seen_entries)) → IfOk r (λ w. see w ≡ retyping_writes types next_types m)
    writes_seen ok = IfOk-weaker r _ _ (λ w same. same ∙ reported) (ok texts)

    pub lawful_seen : types_may_become types next_types ≡ true → (AreTexts ts (objects_in v) → IfOk r (λ w. see w ≡ gathered ts us current seen_entries)) → IfOk r (λ w. AreWritable current (see w)) → IfOk r (λ w. if_compatible types m next_types ≡ Ok next_types)
    lawful_seen may ok writable = go r (writes_seen ok) writable
      where
        go : (answer : Result W RetypeFault) → IfOk answer (λ w. see w ≡ retyping_writes types next_types m) → IfOk answer (λ w. AreWritable current (see w)) → IfOk answer (λ w. if_compatible types m next_types ≡ Ok next_types)
        go (Err e) same fits = tt
        go (Ok w) same fits =
            left_is types next_types m may
            (subst (λ (l : List (Key × Option (List ℕ))). m.current + length l ≤ last_revision) same (subst (λ (n : ℕ). n + length (see w) ≤ last_revision) current_seen fits.fits))

    pub refused_seen : types_may_become types next_types ≡ true → IfErr r (IsTooMany (current + length (gathered ts us current seen_entries))) → IfErr r (λ e. IfSome (retype_refusal e) (λ why. if_compatible types m next_types ≡ Err why))
    refused_seen may refused =
        IfErr-weaker r _ _
        (λ e many. too_few_is types next_types m e may
        (subst (λ (l : List (Key × Option (List ℕ))). IsTooMany (m.current + length l) e) reported (subst (λ (n : ℕ). IsTooMany (n + length (gathered ts us current seen_entries)) e) current_seen many)))
        refused

-- ---- what stands then

pub all_append : {X : Type 0} (P : X → Type 0) (xs ys : List X) → AllByRecursion P xs → AllByRecursion P ys → AllByRecursion P (xs ++ ys)
all_append P [] ys all more = more
all_append P (x ∷ xs) ys all more = (all.0, all_append P xs ys all.1 more)

-- each body that is written is a string
pub writes_utf8 : (r : ℕ) (ws : List Write) → AreUnicode (changes_by r (map write_of ws))
writes_utf8 r [] = tt
writes_utf8 r (w ∷ ws) = (strings_utf8 (λ s. s) w.body, writes_utf8 (suc r) ws)

pub represents_retyped : (api new : Api) (types next_types : List ServedShape) (m : History) (file : Data) (ws : List Write) → ApiRepresents api types m → retyping types m file ≡ Ok next_types
    → map write_of ws ≡ retyping_writes types next_types m → types_of new ≡ next_types → new.store ≡ written_all_in api.store (map write_of ws) → ApiRepresents new next_types (retyped types next_types m)
unfolding retyped
represents_retyped api new types next_types m file ws represents lawful are serves store = record {
  is_machine = retypings_keep_machines types next_types m file represents.is_machine lawful;
  serves = serves;
  store = store ∙ ap (λ (v : View). written_all_in v (map write_of ws)) represents.store ∙ ap (written_all_in (view m)) are ∙ sym (view_all m (retyping_writes types next_types m) represents.is_machine.whole.low);
  unicode = subst AreUnicode (sym (changes_all m (retyping_writes types next_types m)))
      (all_append (λ (c : Change). IfSome c.body IsUtf8) m.changes (changes_by m.current (retyping_writes types next_types m)) represents.unicode
      (subst (λ l. AreUnicode (changes_by m.current l)) are (writes_utf8 m.current ws)));
}

-- what is said of the types that are served and of those of the file is said of the values that the code has of them
pub said_of : (P : List ServedShape → List ServedShape → Type 0) (ts us types next_types : List ServedShape) → ts ≡ types → us ≡ next_types → P ts us → P types next_types
said_of P ts us types next_types old new is = subst (P types) new (subst (λ (l : List ServedShape). P l us) old is)

pub retypes : (api new : Api) (types next_types : List ServedShape) (m : History) (file : Data) (ws : List Write) → ApiRepresents api types m → declared_after types file ≡ Ok next_types → All (λ t. IsObjectShape t.shape) next_types
    → if_compatible types m next_types ≡ Ok next_types → map write_of ws ≡ retyping_writes types next_types m → types_of new ≡ next_types → new.store ≡ written_all_in api.store (map write_of ws)
    → (let answer : Result (List ServedShape) RetypeRefusal = Ok next_types in retyping types m file ≡ answer) × ApiRepresents new next_types (retyped types next_types m)
retypes api new types next_types m file ws represents declared shaped lawful are serves store =
    let is = declared_is types m file next_types declared shaped ∙ lawful in (is, represents_retyped api new types next_types m file ws represents is are serves store)

-- refused for what is no types file, the refusal is that of the whole
pub refused_file : (types next_types : List ServedShape) (m : History) (file : Data) (fault : RetypeFault) → declared_after types file ≡ Ok next_types → All (λ t. IsObjectShape t.shape) next_types
    → IfSome (retype_refusal fault) (λ why. if_compatible types m next_types ≡ Err why) → IfSome (retype_refusal fault) (λ why. retyping types m file ≡ Err why)
refused_file types next_types m file fault declared shaped refused = go (retype_refusal fault) refused
  where
    go : (o : Option RetypeRefusal) → IfSome o (λ why. if_compatible types m next_types ≡ Err why) → IfSome o (λ why. retyping types m file ≡ Err why)
    go None h = tt
    go (Some why) h = declared_is types m file next_types declared shaped ∙ h
