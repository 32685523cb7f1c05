-- What the line of a change that the client's watch sees says.
use Rattle.std.proofs.Common.{◌≡◌, ℕ, ◌≤◌, true, List, [], ◌∷◌, map, Option, refl, ap, ap₂, ◌∙◌}
use Rattle.std.specs.List.{All, AllByRecursion}
use Rattle.std.proofs.lemmas.Bool.{and_parts}
use Rattle.std.proofs.lemmas.List.Elements.{All-cons, All-nil}
use Rattle.api_types.specs.TypesFile.{ServedShape}
use Rattle.history.specs.History.{Key, Object}
use Rattle.history.specs.Page.{is_within}
use Rattle.history.specs.Seen.{Added, Deleted, Modified, SeenChange, SeenKind}
use Rattle.objects.specs.ObjectText.{object_value}
use Rattle.objects.specs.ReadBack.{max_version}
use Rattle.objects.specs.SystemMetadata.{System, stamped}
use Rattle.selector.specs.Requirement.{selects}
use Rattle.indexer.specs.Objects.{Stored}
use Rattle.lists.specs.Body.{Collection}
use Rattle.lists.specs.Labels.{attributes_of}
use Rattle.decoder.specs.Objects.{object_of}
use Rattle.decoder.specs.Wanted.{Wanted}
use Rattle.watchline.specs.Lines.{line_of, text_shown, type_of}
use Rattle.line_laws.specs.Listed.{IsKept, IsReadAs, IsWanted, identity_of}
use Rattle.line_laws.specs.Shown.{shown, stamp_shown, taken}
use Rattle.line_laws.proofs.Kept.{one_fits}
use Rattle.line_laws.proofs.Objects.{object_read}
use Rattle.line_laws.proofs.Pages.{one_read, place, taken_as}
use Rattle.line_laws.proofs.Said.{SaysLine, change_says}
use Rattle.verbs.specs.Machine.{IsSomeTextAt}
use Rattle.reflector.specs.Client.{place_in}
use Rattle.wireclient.specs.LineLaws.{HasNoFeed, with_feed}
use Rattle.wire_laws.proofs.LineTexts.{plain, with_its_feed}
use Rattle.wire_laws.proofs.Listings.{text_kept}
use Rattle.wire_laws.proofs.TurnTexts.{plain_text}
use Rattle.world_laws.proofs.Mirrored.{place_of}
use Rattle.world_laws.proofs.SeenTexts.{HasText, IsSeenText}
use Rattle.world_laws.proofs.TaskObjects.{listed_for, wants}
use Rattle.world_laws.specs.Tasks.{IsTask, Task, selection, wanted_by}

-- the line of a change, without its line feed
abbrev pub line_text : SeenChange → List ℕ
line_text x = shown (type_of x.kind) (text_shown x.kind x.object)

-- ---- lines

module _ (types : List ServedShape) where
  -- it has the text of its key at some version
  some_text : (kind : SeenKind) (k : Key) (o : Object) → HasText types kind k o → (version : ℕ) × IsSomeTextAt types k version o.body
  some_text Added k o text = (o.revision, text)
  some_text Modified k o text = (o.revision, text)
  some_text Deleted k o text = text

  plain_line : (x : SeenChange) → HasText types x.kind x.key x.object → HasNoFeed (line_text x)
  plain_line x says =
      let text = some_text x.kind x.key x.object says in
      plain (type_of x.kind) (text_shown x.kind x.object) (plain_text types x.object (x.key, text.0, text.1) x.kind)

  module _ (task : Task) where
    pub plain_lines : (xs : List SeenChange) → AllByRecursion (IsSeenText types (selection task)) xs → All HasNoFeed (map line_text xs)
    plain_lines [] are = All-nil HasNoFeed
    plain_lines (x ∷ xs) are = All-cons HasNoFeed (line_text x) (map line_text xs) (plain_line x are.0.says) (plain_lines xs are.1)

pub with_feeds : (xs : List SeenChange) → map line_of xs ≡ map with_feed (map line_text xs)
with_feeds [] = refl
with_feeds (x ∷ xs) = ap₂ (λ (l : List ℕ) (ls : List (List ℕ)). l ∷ ls) (with_its_feed (type_of x.kind) (text_shown x.kind x.object)) (with_feeds xs)

-- ---- objects

-- what is read of it is the object that stands after it, or the place of the one that is deleted
abbrev pub IsIt : Wanted → SeenKind → Key → Object → Stored → Type 0
IsIt wanted Added k o x = IsReadAs wanted k o x
IsIt wanted Modified k o x = IsReadAs wanted k o x
IsIt wanted Deleted k o x = (place_in x ≡ place_of k) × (x.revision ≡ o.revision)

pub record IsReadLine (wanted : Wanted) (kind : SeenKind) (k : Key) (o : Object) : Type 0 where
  pub stored : Stored
  pub says : SaysLine wanted (shown (type_of kind) (text_shown kind o)) (taken kind stored)
  pub is_it : IsIt wanted kind k o stored

module _ (types : List ServedShape) (task : Task) (is : IsTask types task) where
  abbrev wanted : Wanted
  wanted = wanted_by task

  kept : (k : Key) (o : Object) → k.kind ≡ task.settings.kind → IsSomeTextAt types k o.revision o.body → IsKept (listed_for task) k o
  kept k o own text = text_kept types task.t task.settings.kind task.settings.namespace k o is.served own text

  module _ (k : Key) (o : Object) (within : is_within task.settings.kind task.settings.namespace k ≡ true) (low : o.revision ≤ max_version) where
    abbrev of : Collection
    of = listed_for task

    asks : IsWanted wanted of
    asks = wants types task is

    -- put, as it stands
    represents_read : (kind : SeenKind) → ((system : Option System) → stamp_shown kind (stamped o.revision system) o.revision ≡ stamped o.revision system) → IsSomeTextAt types k o.revision o.body
        → (x : Stored) × SaysLine wanted (shown (type_of kind) (text_shown kind o)) (taken kind x) × IsReadAs wanted k o x
    represents_read kind same text =
        let fits = one_fits wanted of asks (k, o) (λ own. kept k o own text) within in
        let shape = fits.0.shape in
        let state = fits.0.state in
        let found = taken_as wanted of asks k o fits.0 fits.1 in (
          found.0,
          change_says wanted shape (identity_of of k) (stamped o.revision fits.0.system) state (record { kind = kind; key = k; object = o }) found.0 fits.0.shaped fits.0.says
              (ap (λ v. object_of wanted (object_value shape (identity_of of k) v state)) (same fits.0.system) ∙ found.1),
          one_read wanted of asks k o fits.0 fits.1,
        )

    -- deleted: as it stood before, at the deletion's revision
    gone_read : (version : ℕ) → IsSomeTextAt types k version o.body
        → (x : Stored) × SaysLine wanted (shown (type_of Deleted) (text_shown Deleted o)) (taken Deleted x) × (place_in x ≡ place_of k) × (x.revision ≡ o.revision)
    gone_read version text =
        let before : Object = record { revision = version; body = o.body } in
        let fits = one_fits wanted of asks (k, before) (λ own. kept k before own text) within in
        let shape = fits.0.shape in
        let state = fits.0.state in
        let found = object_read wanted shape (identity_of of k) (stamped o.revision fits.0.system) state fits.0.shaped fits.0.says.well_typed low (place wanted of asks k before fits.0 fits.1) in (
          found.0,
          change_says wanted shape (identity_of of k) (stamped version fits.0.system) state (record { kind = Deleted; key = k; object = o }) found.0 fits.0.shaped fits.0.says found.1,
          ap₂ (λ (a b : List ℕ). (a, b)) found.2.of_namespace found.2.of_name,
          found.2.of_revision,
        )

    read_as : (kind : SeenKind) → HasText types kind k o → IsReadLine wanted kind k o
    read_as Added text = let found = represents_read Added (λ system. refl) text in record { stored = found.0; says = found.1; is_it = found.2 }
    read_as Modified text = let found = represents_read Modified (λ system. refl) text in record { stored = found.0; says = found.1; is_it = found.2 }
    read_as Deleted (version, text) = let found = gone_read version text in record { stored = found.0; says = found.1; is_it = (found.2, found.3) }

  -- it is of the type, and in the namespace, if one is asked for
  pub is_own : (x : SeenChange) → IsSeenText types (selection task) x → is_within task.settings.kind task.settings.namespace x.key ≡ true
  is_own x text = (and_parts (is_within task.settings.kind task.settings.namespace x.key) (selects task.requirements (attributes_of x.key x.object.body)) text.is_wanted).0

  pub line_read : (x : SeenChange) → IsSeenText types (selection task) x → x.object.revision ≤ max_version → IsReadLine wanted x.kind x.key x.object
  line_read x text low = read_as x.key x.object (is_own x text) low x.kind text.says
