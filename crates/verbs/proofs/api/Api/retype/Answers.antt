use Rattle.std.proofs.Common.{rules, ◌≡◌, ◌≤◌, ◌+◌, ◌∙◌, List, Ok, Err, None, ap, length, map, refl, subst, sym}
use Rattle.std.specs.Prelude.{IfSome}
use Rattle.std.proofs.lemmas.Result.{IfErr-weaker}
use Rattle.serde_json.specs.View as value
use Rattle.api_types.specs.Discovered.{declared_after}
use Rattle.api_types.specs.Served.{types_view}
use Rattle.api_types.specs.TypesFile.{ServedShape}
use Rattle.history.specs.History.{last_revision}
use Rattle.history.specs.Read.{write_of}
use Rattle.history.specs.View.{View}
use Rattle.history.specs.Whole.{AreThere}
use Rattle.history.specs.Writes.{changes_by, written_all_in}
use Rattle.history.specs.declared.write.Write.{Write}
use Rattle.verbs.specs.declared.api.Api.{Api}
use Rattle.verbs.specs.GatheredViews.{AreWritable}
use Rattle.verbs.specs.Machine.{AreTexts, IsMachine}
use Rattle.verbs.specs.Retyping.{if_compatible, retyping_writes}
use Rattle.verbs.specs.Views.{IsFileFault, objects_in, retype_refusal, reported_of_file}
use Rattle.verbs.proofs.Gathering.{writes_there}
use Rattle.verbs.proofs.Machines.{current_objects_seen}
use Rattle.verbs.proofs.Served.{refused_file, retypes}
use Rattle.verbs.proofs.api.Api.retype.Goals as goal

pub returns-in_err-catalog-clause-refused : goal.returns-in_err-catalog-clause-refused
returns-in_err-catalog-clause-refused c = λ types m represents.
    let refused = c.catalog_in.ensures.refused types m in search (rules, refused)

pub returns-in_err-writes-clause-refused : goal.returns-in_err-writes-clause-refused
returns-in_err-writes-clause-refused c = λ types m represents.
    let next_types = c.in_ok-catalog.catalog in
    let old : types_view c.types-old.result.now ≡ types = c.types-old.ensures ∙ represents.serves in
    let new : types_view c.types-new.result.now ≡ next_types = c.types-new.ensures in
    let declared = subst (λ (l : List ServedShape). declared_after l (value.view c.args.file.now) ≡ Ok next_types) old c.in_ok-catalog.ensures.types in
    let refused = c.writes_under.ensures.refused m (subst (λ (l : List ServedShape). IsMachine l m) (sym old) represents.is_machine) represents.store in
    IfErr-weaker c.from_residual-in_err-writes.result (λ e. IfSome (retype_refusal e) (λ why. if_compatible (types_view c.types-old.result.now) m (types_view c.types-new.result.now) ≡ Err why)) _
    (λ e h. refused_file types next_types m (value.view c.args.file.now) e declared c.in_ok-catalog.ensures.shaped
    (subst (λ (l : List ServedShape). IfSome (retype_refusal e) (λ why. if_compatible l m next_types ≡ Err why)) old
    (subst (λ (l : List ServedShape). IfSome (retype_refusal e) (λ why. if_compatible (types_view c.types-old.result.now) m l ≡ Err why)) new h)))
    (search (rules, refused))

pub returns-in_err-catalog-clause-reported : goal.returns-in_err-catalog-clause-reported
returns-in_err-catalog-clause-reported c = let reported = c.catalog_in.ensures.reported in search (rules, reported)

pub returns-in_err-writes-clause-reported : goal.returns-in_err-writes-clause-reported
returns-in_err-writes-clause-reported c =
    let reported = c.writes_under.ensures.reported in
    IfErr-weaker c.from_residual-in_err-writes.result (λ e. reported_of_file e ≡ None) _
    (λ e none. subst (λ o. IfSome o (IsFileFault (value.view c.args.file.now))) (sym none) tt) (search (rules, reported))

pub returns-in_err-writes-clause-readable : goal.returns-in_err-writes-clause-readable
returns-in_err-writes-clause-readable c = λ types m represents is.
    let old : types_view c.types-old.result.now ≡ types = c.types-old.ensures ∙ represents.serves in
    let texts : AreTexts types (objects_in c.args.self.now.store) = subst (AreTexts types) (sym (ap objects_in represents.store ∙ current_objects_seen types m represents.is_machine)) represents.is_machine.stand in
    c.writes_under.ensures.readable (subst (λ (l : List ServedShape). AreTexts l (objects_in c.args.self.now.store)) (sym old) texts) (search rules)

pub returns-clause-ok : goal.returns-clause-ok
returns-clause-ok c = λ types m represents.
    let next_types = c.in_ok-catalog.catalog in
    let api = c.args.self.now in
    let new_api : Api = record { alloc = api.alloc; catalog = next_types; routes = api.routes; store = c.write_all.new.store; labels = api.labels } in
    let ws = c.in_ok-writes.writes.items in
    let old : types_view c.types-old.result.now ≡ types = c.types-old.ensures ∙ represents.serves in
    let new : types_view c.types-new.result.now ≡ next_types = c.types-new.ensures in
    let is = subst (λ (l : List ServedShape). IsMachine l m) (sym old) represents.is_machine in
    let lawful = subst (λ (l : List ServedShape). if_compatible l m next_types ≡ Ok next_types) old
    (subst (λ (l : List ServedShape). if_compatible (types_view c.types-old.result.now) m l ≡ Ok l) new (c.in_ok-writes.ensures.lawful m is represents.store)) in
    let are = subst (λ (l : List ServedShape). map write_of ws ≡ retyping_writes l next_types m) old
    (subst (λ (l : List ServedShape). map write_of ws ≡ retyping_writes (types_view c.types-old.result.now) l m) new (c.in_ok-writes.ensures.writes m is represents.store)) in
    let store = c.in_ok-write_all.ensures.ok ∙ ap (λ (v : View). written_all_in v (map write_of c.deref.result.now)) c.writes_under.ensures.same ∙ ap (λ l. written_all_in api.store (map write_of l)) c.deref.ensures.value in
    let declared = subst (λ (l : List ServedShape). declared_after l (value.view c.args.file.now) ≡ Ok next_types) old c.in_ok-catalog.ensures.types in
    let done = retypes api new_api types next_types m (value.view c.args.file.now) ws represents declared c.in_ok-catalog.ensures.shaped lawful are refl store in
    (next_types, done.0, done.1)

pub write_all-requires-clause-fits : goal.write_all-requires-clause-fits
write_all-requires-clause-fits c =
    let v = c.args.self.now.store in
    let writable : AreWritable v.current (map write_of c.in_ok-writes.writes.items) = c.in_ok-writes.ensures.writable in
    subst (λ (w : View). w.current + length (map write_of c.deref.result.now) ≤ last_revision) (sym c.writes_under.ensures.same)
    (subst (λ (l : List Write). v.current + length (map write_of l) ≤ last_revision) (sym c.deref.ensures.value) writable.fits)

pub write_all-requires-clause-there : goal.write_all-requires-clause-there
write_all-requires-clause-there c =
    let v = c.args.self.now.store in
    let ws = map write_of c.in_ok-writes.writes.items in
    let writable : AreWritable v.current ws = c.in_ok-writes.ensures.writable in
    subst (λ (w : View). AreThere (objects_in w) (changes_by w.current (map write_of c.deref.result.now))) (sym c.writes_under.ensures.same)
    (subst (λ (l : List Write). AreThere (objects_in v) (changes_by v.current (map write_of l))) (sym c.deref.ensures.value) (writes_there (objects_in v) v.current ws writable))
