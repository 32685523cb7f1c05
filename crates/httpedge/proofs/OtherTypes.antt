-- What stays where other types are served: the connections, and what their bytes ask.
use Rattle.std.proofs.Common.{◌≡◌, ℕ, suc, Bool, true, false, true≢false, cond, List, [], ◌∷◌, ◌++◌, map, Option, Some, None, Result, Ok, Err, refl, sym, ap, ap₂, subst, ◌∙◌, ◌+◌, length}
use Rattle.std.specs.Prelude.{codes, nat_le, option_and_then, option_map, slice_get, unwrap_or}
use Rattle.std.specs.Char.{is_ascii}
use Rattle.std.specs.FinMap as fin
use Rattle.std.specs.List.{list_all}
use Rattle.std.specs.Str.{bytes_eq}
use Rattle.std.proofs.lemmas.Bool.{and_parts}
use Rattle.std.proofs.lemmas.Option.{slice_get-map}
use Rattle.std.proofs.lemmas.Slice.Eq.{bytes_eq-Decides}
use Rattle.matchit.specs.Params.{named}
use Rattle.matchit.specs.Seek.{first}
use Rattle.serde_json.specs.Data.{Data}
use Rattle.schema.specs.Becoming.{may_become}
use Rattle.api_types.specs.Retyping.{type_may_become, types_may_become}
use Rattle.schema.specs.ObjectTest.{is_object_shape}
use Rattle.api_types.specs.Refusals as schemas
use Rattle.schema.specs.Shape.{text}
use Rattle.api_types.specs.Discovered.{declared_after}
use Rattle.api_types.specs.Profiles.{is_same}
use Rattle.api_types.specs.declared.profile.Profile.{Profile}
use Rattle.api_types.specs.TypesFile.{ServedShape, is_named, number_from, type_number}
use Rattle.api_types.proofs.Marks.{same_profile}
use Rattle.api_types.specs.Subresources as subresources
use Rattle.api_types.proofs.StatusStays.{status_stays}
use Rattle.history.specs.History.{History, last_revision, current_objects}
use Rattle.api_request.specs.Admit.{Parts, RequestInfo, admitted, document_admitted, has_status, kind_in, kind_with, method_named, parts_by, path_admitted, place_by, place_in, place_of, routes}
use Rattle.api_request.specs.Calls.{Denied, Target}
use Rattle.verbs.specs.Retyping.{RetypeRefusal, changed_objects, if_declared, if_compatible, if_revisions_left, not_lawful, not_types, retyping, too_few_revisions}
use Rattle.httpedge.proofs.OtherDocuments.{documents_last}
use Rattle.httpedge.specs.SharedViews.{SharedRepresents}
use Rattle.httpedge.specs.declared.shared.Shared.{Shared}
use Rattle.api_request.specs.declared.method.Method.{Method}
use Rattle.api_request.specs.declared.resource.Resource.{Resource}
use Rattle.api_request.specs.declared.resource.Resource.TheVariants.{AllNamespaces, Collection, Object, Status}
use Rattle.requests.specs.declared.asking.Pending as pendings
use Rattle.requests.specs.Asks.{Asks, CallDecision, asked_by, call_in, call_with}
use Rattle.requests.specs.Bodies.{body_in, checked_media, path_of}
use Rattle.requests.specs.Decision.{undecided, refused, accepted, and_then, decided_by}
use Rattle.requests.specs.Heads.{HeadDecision, Request}
use Rattle.requests.specs.Pendings.{Awaits, pending_call}
use Rattle.requests.specs.ReadBufferViews.{buffered}
use Rattle.httpedge.specs.declared.connection.Connection as conns
use Rattle.httpedge.specs.declared.connection.Connection.TheVariants as conn
use Rattle.httpedge.specs.declared.connections.Connections.{Connections as TheConnections}
use Rattle.httpedge.specs.Connections.{Connection}
use Rattle.httpedge.specs.ConnectionViews.{ConnectionRepresents, ConnectionRepresentsAt, PartsRepresent, found}
use Rattle.httpedge.specs.Runs.{lasting}
use Rattle.httpedge.specs.Steps.{State, with_types}

pub same_connections : (s : State) (r : Result (List ServedShape) RetypeRefusal) → (with_types s r).connections ≡ s.connections
same_connections s (Ok others) = refl
same_connections s (Err why) = refl

-- ---- what a lawful change keeps of each type

abbrev Lasting : Type 0
Lasting = ServedShape × Bool

abbrev lasting_by : List ℕ → List ℕ → List ℕ → List ℕ → Profile → Bool → Lasting
lasting_by group version kind plural profile status = (record { group = group; version = version; kind = kind; plural = plural; shape = text; profile = profile }, status)

same_bytes : (a b : List ℕ) → bytes_eq a b ≡ true → b ≡ a
same_bytes a b is = sym ((bytes_eq-Decides a b).0 is)

one_lasts : (t u : ServedShape) → type_may_become t u ≡ true → lasting u ≡ lasting t
one_lasts t u is =
    let group = and_parts (bytes_eq t.group u.group) _ (and_parts (is_same t.profile u.profile) _ is).1 in
    let version = and_parts (bytes_eq t.version u.version) _ group.1 in
    let kind = and_parts (bytes_eq t.kind u.kind) _ version.1 in
    let plural = and_parts (bytes_eq t.plural u.plural) (may_become t.shape u.shape) kind.1 in
    let status = subresources.has_status u in
    ap (λ g. lasting_by g u.version u.kind u.plural u.profile status) (same_bytes t.group u.group group.0)
    ∙ ap (λ v. lasting_by t.group v u.kind u.plural u.profile status) (same_bytes t.version u.version version.0)
    ∙ ap (λ k. lasting_by t.group t.version k u.plural u.profile status) (same_bytes t.kind u.kind kind.0)
    ∙ ap (λ p. lasting_by t.group t.version t.kind p u.profile status) (same_bytes t.plural u.plural plural.0)
    ∙ ap (λ p. lasting_by t.group t.version t.kind t.plural p status) (same_profile t u is)
    ∙ ap (lasting_by t.group t.version t.kind t.plural t.profile) (status_stays t u is)

never : {P : Type 0} → false ≡ true → P
never is = absurd (true≢false (sym is))

pub types_last : (ts us : List ServedShape) → types_may_become ts us ≡ true → map lasting us ≡ map lasting ts
types_last [] [] is = refl
types_last [] (u ∷ us) is = never is
types_last (t ∷ ts) [] is = never is
types_last (t ∷ ts) (u ∷ us) is =
    let parts = and_parts (type_may_become t u) (types_may_become ts us) is in
    ap₂ (λ x xs. x ∷ xs) (one_lasts t u parts.0) (types_last ts us parts.1)

-- ---- what is asked by types of which the same lasts

abbrev named_in : Lasting → ServedShape
named_in l = l.0

abbrev status_in : Lasting → Bool
status_in l = l.1

number_lasts : (n : ℕ) (group version plural : List ℕ) (ts : List ServedShape) → number_from n group version plural (map named_in (map lasting ts)) ≡ number_from n group version plural ts
number_lasts n group version plural [] = refl
number_lasts n group version plural (t ∷ ts) = ap (cond (is_named group version plural t) (Some n)) (number_lasts (suc n) group version plural ts)

status_lasts : (ts : List ServedShape) (n : ℕ) → unwrap_or (option_map status_in (slice_get (map lasting ts) n)) false ≡ has_status ts n
status_lasts ts n = ap (λ o. unwrap_or (option_map status_in o) false) (slice_get-map lasting ts n) ∙ go (slice_get ts n)
  where
    go : (o : Option ServedShape) → unwrap_or (option_map status_in (option_map lasting o)) false ≡ unwrap_or (option_map subresources.has_status o) false
    go None = refl
    go (Some t) = refl

then_same : {A B : Type 0} (f g : A → Option B) (o : Option A) → ((a : A) → f a ≡ g a) → option_and_then f o ≡ option_and_then g o
then_same f g None same = refl
then_same f g (Some a) same = same a

abbrev pub LastsIn : List ServedShape → List ServedShape → Type 0
LastsIn types others = map lasting others ≡ map lasting types

same_number : (types others : List ServedShape) → LastsIn types others → (group version plural : List ℕ) → type_number group version plural others ≡ type_number group version plural types
same_number types others lasts group version plural =
    sym (number_lasts 0 group version plural others)
    ∙ ap (λ ls. number_from 0 group version plural (map named_in ls)) lasts
    ∙ number_lasts 0 group version plural types

same_status : (types others : List ServedShape) → LastsIn types others → (n : ℕ) → has_status others n ≡ has_status types n
same_status types others lasts n = sym (status_lasts others n) ∙ ap (λ ls. unwrap_or (option_map status_in (slice_get ls n)) false) lasts ∙ status_lasts types n

same_kind : (types others : List ServedShape) → LastsIn types others → (parts : Parts) → kind_in others parts ≡ kind_in types parts
same_kind types others lasts parts =
    then_same _ _ (named (codes "group") parts) (λ group.
    then_same _ _ (named (codes "version") parts) (λ version.
    then_same _ _ (named (codes "plural") parts) (λ plural. same_number types others lasts group version plural)))

same_with : (types others : List ServedShape) → LastsIn types others → (r : Resource) (kind : Option ℕ) → kind_with others r kind ≡ kind_with types r kind
same_with types others lasts Status kind = then_same _ _ kind (λ n. ap (λ b. cond b (Some n) None) (same_status types others lasts n))
same_with types others lasts AllNamespaces kind = refl
same_with types others lasts Collection kind = refl
same_with types others lasts Object kind = refl

abbrev placed_at : Resource → Parts → ℕ → RequestInfo
placed_at r parts kind = record { resource = r; kind = kind; namespace = named (codes "namespace") parts; name = named (codes "name") parts }

same_place : (types others : List ServedShape) → LastsIn types others → (r : Resource) (parts : Parts) → place_in others r parts ≡ place_in types r parts
same_place types others lasts r parts =
    ap (λ o. option_map (placed_at r parts) (kind_with others r o)) (same_kind types others lasts parts) ∙ ap (option_map (placed_at r parts)) (same_with types others lasts r (kind_in types parts))

same_path : (types others : List ServedShape) → LastsIn types others → (path : List ℕ) → place_of others path ≡ place_of types path
same_path types others lasts path =
    ap (λ o. cond (list_all is_ascii path) o None)
    (then_same (place_by others path) (place_by types path) (first routes path) (λ r. same_place types others lasts r.value (parts_by path r)))

pub same_admitted : (types others : List ServedShape) → LastsIn types others → (method : Option Method) (path : List ℕ) (media : Option (List ℕ)) → admitted others method path media ≡ admitted types method path media
same_admitted types others lasts method path media =
    ap (λ o. path_admitted others o method path media) (same_path types others lasts path) ∙ by_place (place_of types path)
  where
    by_place : (o : Option RequestInfo) → path_admitted others o method path media ≡ path_admitted types o method path media
    by_place None = ap (λ o. document_admitted o method) (documents_last types others lasts path)
    by_place (Some place) = refl

same_call : (types others : List ServedShape) → LastsIn types others → (request : Request) (rest : List ℕ) → call_in others request rest ≡ call_in types request rest
same_call types others lasts request rest =
    ap (λ (a : Result Target Denied). and_then (decided_by a) (λ target. call_with request target (body_in request rest)))
    (same_admitted types others lasts (method_named request.method) (path_of request.request_target) (checked_media request))

same_asked : (types others : List ServedShape) → LastsIn types others → (head : HeadDecision) → asked_by others head ≡ asked_by types head
same_asked types others lasts undecided = refl
same_asked types others lasts (refused d) = refl
same_asked types others lasts (accepted r) = same_call types others lasts r.0 r.1

pub same_asks : (types others : List ServedShape) → LastsIn types others → (bytes : List ℕ) (decision : CallDecision) → Asks types bytes decision → Asks others bytes decision
same_asks types others lasts bytes decision (head, reads, is) = (head, reads, is ∙ sym (same_asked types others lasts head))

same_awaits : (types others : List ServedShape) → LastsIn types others → (prefix : List ℕ) (p : pendings.Pending) → Awaits types prefix p → Awaits others prefix p
same_awaits types others lasts prefix p awaits = λ more. same_asks types others lasts (prefix ++ more) (pending_call p (prefix ++ more)) (awaits more)

-- ---- the connections are held by both

same_holds : (types others : List ServedShape) → LastsIn types others → (d : conns.Connection) (c : Connection) → ConnectionRepresents types d c → ConnectionRepresents others d c
same_holds types others lasts (conn.Head prefix) c holds = holds
same_holds types others lasts (conn.Body prefix p) c (is, awaits) = (is, same_awaits types others lasts (buffered prefix) p awaits)
same_holds types others lasts (conn.Watch w out) c holds = holds
same_holds types others lasts (conn.Ended out) c holds = holds
same_holds types others lasts (conn.Closed had_ended) c holds = holds

same_held : (types others : List ServedShape) → LastsIn types others → (o : Option conns.Connection) (p : Option Connection) → ConnectionRepresentsAt types o p → ConnectionRepresentsAt others o p
same_held types others lasts None None holds = holds
same_held types others lasts None (Some c) holds = absurd holds
same_held types others lasts (Some d) None holds = absurd holds
same_held types others lasts (Some d) (Some c) holds = same_holds types others lasts d c holds

pub others_represent : (s : State) (others : List ServedShape) (m : History) (shared shared' : Shared) (k : TheConnections) → LastsIn s.types others → PartsRepresent shared k s → SharedRepresents shared' others m
    → PartsRepresent shared' k (record s { types = others; machine = m })
others_represent s others m shared shared' k lasts is represents = record {
  machine = represents;
  connections = λ id. same_held s.types others lasts (found k id) (fin.get s.connections id) (is.connections id);
  open_is = is.open_is;
  highest_is = is.highest_is;
  apart = is.apart;
}

-- ---- types that aren't refused are a lawful change

abbrev Retyping : Type 0
Retyping = Result (List ServedShape) RetypeRefusal

abbrev types_or : List ServedShape → Retyping → List ServedShape
types_or none (Ok others) = others
types_or none (Err why) = none

same_types : (us others : List ServedShape) → (let r : Retyping = Ok us in r) ≡ Ok others → us ≡ others
same_types us others is = ap (types_or []) is

isnt_done : {P : Type 0} (why : RetypeRefusal) (others : List ServedShape) → (let r : Retyping = Err why in r) ≡ Ok others → P
isnt_done why others is = absurd cc

left_lawful : (b : Bool) (us others : List ServedShape) → (let r : Retyping = cond b (Ok us) (Err too_few_revisions) in r) ≡ Ok others → us ≡ others
left_lawful true us others is = same_types us others is
left_lawful false us others is = isnt_done too_few_revisions others is

change_lawful : (types us others : List ServedShape) (m : History) (b : Bool) → types_may_become types us ≡ b
    → cond b (if_revisions_left (m.current + length (changed_objects types us (current_objects m))) us) (Err not_lawful) ≡ Ok others → types_may_become types others ≡ true
change_lawful types us others m true lawful is =
    subst (λ ts. types_may_become types ts ≡ true) (left_lawful (nat_le (m.current + length (changed_objects types us (current_objects m))) last_revision) us others is) lawful
change_lawful types us others m false lawful is = isnt_done not_lawful others is

objects_lawful : (types us others : List ServedShape) (m : History) (b : Bool) → cond b (if_compatible types m us) (Err not_types) ≡ Ok others → types_may_become types others ≡ true
objects_lawful types us others m true is = change_lawful types us others m (types_may_become types us) refl is
objects_lawful types us others m false is = isnt_done not_types others is

declared_lawful : (types others : List ServedShape) (m : History) (d : Result (List ServedShape) schemas.Refusal) → if_declared types m d ≡ Ok others → types_may_become types others ≡ true
declared_lawful types others m (Ok us) is = objects_lawful types us others m (list_all (λ t. is_object_shape t.shape) us) is
declared_lawful types others m (Err e) is = isnt_done not_types others is

pub is_lawful : (types others : List ServedShape) (m : History) (file : Data) → retyping types m file ≡ Ok others → types_may_become types others ≡ true
unfolding retyping
is_lawful types others m file is = declared_lawful types others m (declared_after types file) is
