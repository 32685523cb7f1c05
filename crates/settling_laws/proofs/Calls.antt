-- An apply of counts passes the checks of a call, and plans the object with them.
use Rattle.std.proofs.Common.{◌≡◌, ℕ, ◌<◌, Bool, true, false, cond, All, List, [], ◌∷◌, Option, Some, None, Ok, Err, codes, refl, sym, ap, ◌∙◌, arith, ltb-true}
use Rattle.std.proofs.lemmas.List.Elements.{All-cons, All-nil, All-weaker}
use Rattle.std.proofs.lemmas.List.Sums.{AllPass-from_list_all}
use Rattle.std.proofs.lemmas.Str.{IsUtf8-from_ascii}
use Rattle.std.proofs.lemmas.Str.Ascii.{IsAscii-from_all}
use Rattle.std.specs.Prelude.{nat_lt, slice_get}
use Rattle.std.specs.Cmp.Lexicographic.{bytes_decides}
use Rattle.std.specs.FinMap as fin
use Rattle.std.specs.List.{list_all}
use Rattle.std.specs.Str.{bytes_eq}
use Rattle.form_urlencoded.specs.Form.{byte_serialize, extend_pairs}
use Rattle.serde_json.specs.Data.{Data, Members, object, member, no_members, string}
use Rattle.names.specs.Names.{is_dns_label, is_dns_subdomain}
use Rattle.params.specs.Query.{Pairs, pairs_in}
use Rattle.params.specs.Values.{Values, no_values}
use Rattle.params.specs.declared.params.Asked.TheVariants as asked
use Rattle.lists.specs.TokenLaws.{IsText, IsTextPair}
use Rattle.pathmap.specs.Contents.{Content}
use Rattle.typed.specs.Reading.{content_of}
use Rattle.api_types.specs.Subresources.{is_apart}
use Rattle.api_types.specs.TypesFile.{ServedShape}
use Rattle.history.specs.History.{History, Key, Object, current_objects}
use Rattle.objects.specs.declared.manager.Subresource.TheVariants.{Main}
use Rattle.objects.specs.State.{State}
use Rattle.ownership.specs.Apply.{Conflict, applied, conflicts, is_refused}
use Rattle.ownership.specs.Sides.{own_part}
use Rattle.api_request.specs.declared.reason.Reason.{Reason}
use Rattle.api_request.specs.declared.reason.Reason.TheVariants.{BadRequest}
use Rattle.api_request.specs.declared.verb.Verb.TheVariants.{Apply}
use Rattle.api_request.specs.Calls.{at_tick, of_object}
use Rattle.api_request.specs.Validated.{Validated, and_then, require, require_at}
use Rattle.api_request.proofs.Checks.{plain_stays}
use Rattle.api_validation.specs.Envelope.{Envelope, Expected, api_version_of, envelope_of, given_validated, must_be, wanted_validated}
use Rattle.api_validation.specs.Naming.{names_validated, path_validated}
use Rattle.api_validation.specs.Parameters.{parameters_for, parameters_validated, read_or_refused}
use Rattle.api_validation.specs.Shapes.{shape_validated}
use Rattle.json_values.specs.Texts.{unless_empty}
use Rattle.params.specs.Reading.{params_of}
use Rattle.verbs.specs.Machine.{IsNamed, state_of_existing}
use Rattle.verbs.specs.DryRuns.{is_dry_run, run_by}
use Rattle.verbs.specs.Step.{Intent, applied_over, apply_plan, at_path, conflict_refusal, dispatch_type, intent_of, ownership_validated, plan_for, plan_put_unless_same, planned}
use Rattle.watchline.specs.Watches.{from_history}
use Rattle.indexer.specs.Objects.{Place}
use Rattle.wire_laws.proofs.Queries.{pairs_back, query_back}
use Rattle.summary.specs.Apply.{spec_of, summary_of}
use Rattle.summary.specs.Counts.{Summed}
use Rattle.settling_laws.specs.Applying.{apply_call, key_of}
use Rattle.settling_laws.specs.Said.{IsSayable, label_summary, with_counts}
use Rattle.settling_laws.specs.SummaryType.{summary_shape, summary_type}
use Rattle.settling_laws.proofs.Fields.{applied_is, body_read, fields}

-- ---- the parameters

abbrev pairs : Pairs
pairs = (codes "fieldManager", codes "label-summary") ∷ (codes "force", codes "true") ∷ []

abbrev pub query : List ℕ
query = codes "fieldManager=label-summary&force=true"

literal_text : (bs : List ℕ) → list_all (λ b. nat_lt b 128) bs ≡ true → IsText bs
literal_text bs all =
    let low : All (λ b. b < 128) bs = All-weaker (λ b. nat_lt b 128 ≡ true) (λ b. b < 128) (λ b is. ltb-true b 128 is) bs (AllPass-from_list_all (λ b. nat_lt b 128) bs all) in
    (IsUtf8-from_ascii bs (IsAscii-from_all bs low), All-weaker (λ b. b < 128) (λ b. b < 256) (λ b is. omega (arith, is)) bs low)

pairs_texts : All IsTextPair pairs
pairs_texts =
    All-cons IsTextPair (codes "fieldManager", codes "label-summary") ((codes "force", codes "true") ∷ []) (literal_text (codes "fieldManager") refl, literal_text (codes "label-summary") refl)
    (All-cons IsTextPair (codes "force", codes "true") [] (literal_text (codes "force") refl, literal_text (codes "true") refl) (All-nil IsTextPair))

query_is : query ≡ extend_pairs [] pairs
unfolding byte_serialize
query_is = refl

pairs_read : pairs_in (extend_pairs [] pairs) ≡ pairs
pairs_read = ap pairs_in (sym (query_back [] (extend_pairs [] pairs) refl)) ∙ pairs_back [] pairs refl pairs_texts

abbrev values : Values
values = record no_values { manager = codes "label-summary"; is_forced = true }

query_read : parameters_validated asked.Apply query ≡ Ok values
query_read =
    ap (λ (q : List ℕ). read_or_refused (params_of asked.Apply (pairs_in q))) query_is
    ∙ ap (λ (ps : Pairs). read_or_refused (params_of asked.Apply ps)) pairs_read

-- ---- the body

-- a check that passes
pub then_ok : {X Y : Type 0} (j : Validated X) (x : X) (f : X → Validated Y) → j ≡ Ok x → and_then j f ≡ f x
then_ok j x f is = ap (λ (r : Validated _). and_then r f) is

pub require_ok : (b : Bool) (r : Reason) (message : List ℕ) → b ≡ true → require b r message ≡ Ok tt
require_ok b r message is = ap (λ (t : Bool). require t r message) is

require_at_ok : (b : Bool) (path what : List ℕ) → b ≡ true → require_at b path what ≡ Ok tt
require_at_ok b path what is = ap (λ (t : Bool). require_at t path what) is

-- the name that is given is the one of the path
given_own : (k wanted : List ℕ) → wanted_validated k (Some wanted) (unless_empty wanted) ≡ Ok tt
given_own k [] = refl
given_own k (b ∷ bs) = require_ok (bytes_eq (b ∷ bs) (b ∷ bs)) BadRequest (must_be k (b ∷ bs)) ((bytes_decides (b ∷ bs) (b ∷ bs)).1 refl)

module _ (s : Summed) (kind : ℕ) (place : Place) where
  abbrev pub k : Key
  k = key_of kind place

  abbrev pub body : Data
  body = summary_of s place.0 place.1

  abbrev of : Expected
  of = at_path summary_type k Apply Main

  abbrev rest : Data
  rest = object (member (codes "metadata") (object no_members) (member (codes "spec") (spec_of s) no_members))

  abbrev envelope : Envelope
  envelope = record { version = None; rest = rest }

  abbrev given : Members
  given = member (codes "name") (string place.1) (member (codes "namespace") (string place.0) no_members)

  envelope_read : envelope_of of body ≡ Ok envelope
  envelope_read =
      then_ok (given_validated (codes "name") (Some place.1) (Some given)) tt _ (given_own (codes "name") place.1)
      ∙ then_ok (given_validated (codes "namespace") (Some place.0) (Some given)) tt _ (given_own (codes "namespace") place.0)

  abbrev intent : Intent
  intent = record { version = None; content = fields s; manager = codes "label-summary"; subresource = Main; is_forced = true; rest = rest }

  pub intended : IsSayable s → intent_of of asked.Apply query body ≡ Ok intent
  intended is =
      then_ok (envelope_of of body) envelope _ envelope_read ∙ then_ok (shape_validated (content_of summary_shape rest)) (fields s) _ (ap shape_validated (body_read s is))
      ∙ then_ok (parameters_for summary_type asked.Apply query) values _ query_read

  named : IsNamed k → names_validated Main place.0 place.1 rest ≡ Ok tt
  named is =
      then_ok (path_validated place.0 place.1) tt _
      (then_ok (require_at (is_dns_subdomain place.1) (codes "metadata.name") (codes "bad name")) tt _ (require_at_ok (is_dns_subdomain place.1) (codes "metadata.name") (codes "bad name") is.name)
      ∙ require_at_ok (is_dns_label place.0) (codes "metadata.namespace") (codes "bad namespace") is.namespace)

  -- force refuses nothing
  forced : (cs : List Conflict) → is_refused cs true ≡ false
  forced [] = refl
  forced (c ∷ cs) = refl

  owned : (old : State) → IsSayable s → ownership_validated (api_version_of summary_type) old (own_part (is_apart summary_type) Main (fields s)) label_summary true ≡ Ok (with_counts s old)
  owned old is =
      ap (λ (b : Bool). cond b (Err (conflict_refusal (api_version_of summary_type) (conflicts old (own_part (is_apart summary_type) Main (fields s)) label_summary))) (Ok (applied old (own_part (is_apart summary_type) Main (fields s)) label_summary)))
      (forced (conflicts old (own_part (is_apart summary_type) Main (fields s)) label_summary))
      ∙ ap (λ (c : Content). Ok (applied old c label_summary)) (sym (applied_is s is))

  abbrev pub new : Option Object → State
  new found = with_counts s (state_of_existing summary_type found)

  over : (current : ℕ) (found : Option Object) → IsSayable s → applied_over summary_type current k found intent ≡ plan_put_unless_same summary_type current k found (new found)
  over current found is =
      then_ok (ownership_validated (api_version_of summary_type) (state_of_existing summary_type found) (own_part (is_apart summary_type) Main (fields s)) label_summary true) (new found) _ (owned (state_of_existing summary_type found) is)

  plans : (current : ℕ) (found : Option Object) → IsNamed k → IsSayable s → apply_plan Main summary_type current found k query body ≡ plan_put_unless_same summary_type current k found (new found)
  plans current found is_named is =
      then_ok (intent_of of asked.Apply query body) intent _ (intended is) ∙ then_ok (names_validated Main place.0 place.1 rest) tt _ (named is_named) ∙ over current found is

  pub apply_planned : (types : List ServedShape) (m : History) (ms : ℕ) → slice_get types kind ≡ Some summary_type → IsNamed k → IsSayable s
      → planned types m (at_tick ms (apply_call kind s place)) ≡ plan_for (plan_put_unless_same summary_type m.current k (fin.get (current_objects m) k) (new (fin.get (current_objects m) k)))
  apply_planned types m ms serves is_named is =
      ap (λ (t : Option ServedShape). run_by (is_dry_run t (at_tick ms (apply_call kind s place))) (current_objects m) (plan_for (dispatch_type t kind (of_object place.0 place.1 Main) Apply (from_history m) (at_tick ms (apply_call kind s place)))))
      serves
      ∙ ap plan_for (plain_stays summary_type (Some place.1) _ refl ∙ plans m.current (fin.get (current_objects m) k) is_named is)
