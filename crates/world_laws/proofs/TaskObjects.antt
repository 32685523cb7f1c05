-- What the client of a task asks for, and the task's objects as it reads them.
use Rattle.std.proofs.Common.{◌≡◌, ℕ, true, true≢false, ◌&&◌, ◌++◌, List, [], IsUtf8, codes, refl, sym, ap, ◌∙◌}
use Rattle.std.proofs.lemmas.Bool.{and_parts}
use Rattle.std.proofs.lemmas.Str.{IsUtf8-append}
use Rattle.std.specs.FinMap as fin
use Rattle.std.specs.List.{AllByRecursion}
use Rattle.names.specs.Names.{is_dns_label, is_dns_subdomain}
use Rattle.api_types.specs.Names.{is_kind_name, is_plural}
use Rattle.api_types.specs.TypesFile.{ServedShape}
use Rattle.history.specs.History.{History, Objects, state_at}
use Rattle.lists.specs.Body.{Collection}
use Rattle.line_laws.specs.Listed.{AreKept, IsWanted}
use Rattle.line_laws.proofs.Kept.{each_entry}
use Rattle.verbs.specs.Machine.{IsMachine, IsNamed}
use Rattle.verbs.specs.Step.{collection_of}
use Rattle.verbs.proofs.Promise.{texts_say_states}
use Rattle.wire_laws.proofs.Listings.{machine_keeps}
use Rattle.world_laws.specs.Tasks.{IsTask, Task, selected_at, selection, wanted_by}
use Rattle.world_laws.proofs.Mirrored.{AreRead}
use Rattle.world_laws.proofs.Names.{ascii_utf8, kind_utf8, label_utf8, subdomain_utf8}
use Rattle.world_laws.proofs.Selected.{selected_from, selection_read}

-- the collection that the client asks for
abbrev pub listed_for : Task → Collection
listed_for task = collection_of task.t task.settings.kind task.settings.namespace

no_kind : (kind : List ℕ) → is_kind_name kind ≡ true → kind ≡ [] → ⊥
no_kind kind named none = true≢false (sym named ∙ ap is_kind_name none)

module _ (types : List ServedShape) (task : Task) (is : IsTask types task) where
  names : (is_dns_subdomain task.t.group ≡ true) × (is_dns_label task.t.version ≡ true) × (is_kind_name task.t.kind ≡ true)
  names =
      let group = and_parts (is_dns_subdomain task.t.group) (is_dns_label task.t.version && (is_kind_name task.t.kind && is_plural task.t.plural)) is.named in
      let version = and_parts (is_dns_label task.t.version) (is_kind_name task.t.kind && is_plural task.t.plural) group.1 in
      (group.0, version.0, (and_parts (is_kind_name task.t.kind) (is_plural task.t.plural) version.1).0)

  pub wants : IsWanted (wanted_by task) (listed_for task)
  wants = record { of_version = refl; of_kind = refl; of_namespace = refl; has_kind = no_kind task.t.kind names.2 }

  pub version_utf8 : IsUtf8 (listed_for task).api_version
  version_utf8 =
      IsUtf8-append (task.t.group ++ codes "/") task.t.version (IsUtf8-append task.t.group (codes "/") (subdomain_utf8 task.t.group names.0) (ascii_utf8 (codes "/") refl))
      (label_utf8 task.t.version names.1)

  pub type_utf8 : IsUtf8 task.t.kind
  type_utf8 = kind_utf8 task.t.kind names.2

  module _ (machine : History) (machine_is : IsMachine types machine) where
    -- at each revision its objects are kept, and so are read
    pub objects_kept : (r : ℕ) → AreKept (listed_for task) (state_at machine.changes r)
    objects_kept r = machine_keeps texts_say_states types machine task.t task.settings.kind task.settings.namespace r machine_is is.served

    pub selected_read : (r : ℕ) → AreRead (wanted_by task) task.settings.kind (selected_at task machine r)
    selected_read r = selection_read (wanted_by task) (listed_for task) task.requirements (state_at machine.changes r) wants (objects_kept r)

    -- under names that objects may have
    pub named_at : (r : ℕ) → AllByRecursion (λ e. IsNamed e.0) (fin.entries (selected_at task machine r))
    named_at r =
        let s : Objects = selected_at task machine r in
        each_entry (λ k o. IsNamed k) (fin.entries s) (fin.entries_sorted s)
        (λ k o there. (texts_say_states types machine r k o machine_is (selected_from (selection task) (state_at machine.changes r) k o (fin.get-entries s k ∙ there)).0).0.is_text.named)
