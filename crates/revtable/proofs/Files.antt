-- Files in memory are never in doubt, and two empty ones hold an empty database.
use Rattle.std.proofs.Common.{◌≡◌, inl, inr, List, [], ◌∷◌, length, refl, sym, ap, subst, ◌∙◌, arith, IsTrue}
use Rattle.std.specs.List.{AllZip}
use Rattle.std.proofs.lemmas.Bool.{and_from}
use Rattle.sqlite_disk.specs.declared.Disk.{Ghosts}
use Rattle.sqlite_disk.specs.declared.Files.{Files}
use Rattle.sqlite_pool.proofs.StateLemmas.{clean_is}
use Rattle.sqlite_trees.proofs.Doubt.{no_doubt}
use Rattle.sqlite_trees.specs.Tree.{Trees}
use Rattle.sqlite_trees.specs.Objects.{catalog_tree}
use Rattle.sqlite_store.specs.declared.store.FileStore.{FileStore}
use Rattle.sqlite_schema.specs.declared.schema.Index.{Index}
use Rattle.sqlite_schema.specs.declared.schema.Schema.{Schema}
use Rattle.sqlite_schema.specs.declared.schema.Table.{Table}
use Rattle.sqlite_schema.specs.declared.schema.View.{View}
use Rattle.sqlite_catalog.specs.Listing.{IsSound, IsTableRow, IsIndexRow, IsViewRow}
use Rattle.sqlite.specs.Effect.{Database}
use Rattle.sqlite.specs.State.{HasCleanDisk}
use Rattle.sqlite.specs.Held.{Held}
use Rattle.sqlite.specs.Steps.{IsEmpty}
use Rattle.sqlite.specs.Files.{file_state, AreFound, Finds, IsOpened}
use Rattle.revtable.specs.Rows.{no_schema}

pub always_clean : {D : Type 0} {g : Ghosts D} → ((d : D) → IsTrue (g.is_clean d)) → (c : Held (FileStore D g)) → HasCleanDisk (file_state c)
always_clean honest c = no_doubt _ (subst IsTrue (sym (clean_is c.store.pool)) (and_from _ _ (honest _) (honest _)))

-- an empty file has no page to recover
none_found : {D : Type 0} (g : Ghosts D) (files : Files D) (db : Trees) → g.seen files.db ≡ [] → AreFound g files db → db catalog_tree ≡ []
none_found g files db none (inl found) = absurd (let some = found.3.found.present in omega (arith, some, ap length none))
none_found g files db none (inr blank) = blank.1.1

unlisted : {A B : Type 0} (R : A → B → Type 0) (ys : List B) → AllZip R [] ys → ys ≡ []
unlisted R [] h = refl
unlisted R (y ∷ ys) h = absurd h

listed_none : (schema : Schema) (db : Trees) → db catalog_tree ≡ [] → IsSound schema db → schema ≡ no_schema
listed_none schema db none sound =
    let lists = (rw none at sound.lists).listed in
    same schema.tables schema.indexes schema.views (unlisted IsTableRow schema.tables lists.tables) (unlisted (IsIndexRow schema.tables) schema.indexes lists.indexes) (unlisted IsViewRow schema.views lists.views)
  where
    same : (tables : List Table) (indexes : List Index) (views : List View) → tables ≡ [] → indexes ≡ [] → views ≡ [] → ◌≡◌ {A = Schema} (record { tables = tables; indexes = indexes; views = views }) no_schema
    same tables indexes views a b c = rw (a, b, c) refl

pub opens_empty : {D : Type 0} {g : Ghosts D} (files : Files D) (c : Held (FileStore D g)) → g.seen files.db ≡ [] → IsOpened c → Finds files c → IsEmpty (file_state c)
opens_empty {D} {g} files c none opened finds =
    let trees = ap (λ (d : Database). d.trees catalog_tree) opened.0.clean ∙ none_found g files _ none finds.reads in
    (opened.0, opened.1, listed_none _ _ trees (opened.1 opened.0.is_open).0)
