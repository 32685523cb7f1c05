-- What comes of a client's list call: whatever it is answered, what the client hears goes on behind what it has set aside.
use Rattle.std.proofs.Common.{◌≡◌, inl, inr, ℕ, suc, zero, ◌<◌, ◌≤◌, ◌==◌, min, Bool, true, false, cond, List, [], ◌∷◌, ◌++◌, map, take, length, Option, Some, None, option_map, Result, Ok, Err, IsUtf8, refl, sym, ap, subst, ◌∙◌, arith, zero-le}
use Rattle.std.proofs.lemmas.Bool.{eqb-false, le-leb, le-ltb}
use Rattle.std.specs.Prelude.{nat_le, nat_lt}
use Rattle.std.specs.Ordering.{is_lt}
use Rattle.std.specs.FinMap as fin
use Rattle.std.specs.List.{AllByRecursion, last_or}
use Rattle.std.specs.Str.{is_utf8}
use Rattle.api_types.specs.TypesFile.{ServedShape}
use Rattle.history.specs.History.{History, IsHistory, Key, Object, key_cmp, last_revision, state_at}
use Rattle.history.specs.Seen.{IsPrefix, IsLimit, SeenPage, last_key, left_after, limited, past, seen_page}
use Rattle.history.proofs.Leading as leading
use Rattle.history.proofs.Lists.{all-filter}
use Rattle.history.proofs.Wholes.{whole_is}
use Rattle.objects.proofs.Taken.{same_some}
use Rattle.objects.specs.ReadBack.{max_version}
use Rattle.indexer.specs.Objects.{Place, Stored}
use Rattle.params.specs.Values.{Token, Values}
use Rattle.lists.specs.declared.refusal.Refusal.{Refusal}
use Rattle.lists.specs.declared.refusal.Refusal.TheVariants.{Expired, TooLarge}
use Rattle.lists.specs.Body.{Collection, continued_at, list_text}
use Rattle.lists.specs.Lists.{key_after, max_page, page_limit, page_of}
use Rattle.lists.specs.Revision.{revision_by, revision_of, exactly, not_older_than}
use Rattle.lists.specs.TokenLaws.{CanBeListed, token_after}
use Rattle.lists.proofs.Bounds.{revision_between}
use Rattle.lists.proofs.NextPages.{next_is_last}
use Rattle.watchline.specs.Lines.{added}
use Rattle.watchline.specs.Watches.{Cursor, from_history, initial_left_from, changes_left}
use Rattle.decoder.specs.Members.{Read}
use Rattle.decoder.specs.Pages.{Page, page_in}
use Rattle.decoder.specs.Wanted.{Wanted}
use Rattle.reflector.specs.Client.{place_in}
use Rattle.reflector.specs.FollowsLaws.{IsPart, IsListStep, IsListReply, Server}
use Rattle.reflector.specs.Items.{begun, page_or_unexpected, unexpected}
use Rattle.line_laws.specs.Listed.{AreReadAs, page_with}
use Rattle.line_laws.proofs.Kept.{leaf_value_says}
use Rattle.line_laws.proofs.Pages.{SaysPage, page_by}
use Rattle.line_laws.proofs.SeenBodies.{all_taken}
use Rattle.api_request.specs.Calls.{Call}
use Rattle.api_request.specs.Calls as calls
use Rattle.verbs.specs.Machine.{AreUnicode, IsMachine, IsNamed}
use Rattle.verbs.specs.Step.{list_refusal, planned, refused}
use Rattle.requests.specs.Replies.{answer_reply}
use Rattle.wireclient.specs.Reads.{Items, max_body}
use Rattle.wireclient.specs.Reply.{ReplyItem, end, head, malformed, whole}
use Rattle.wireclient.proofs.ReadBack.{length_reads, reply_read as reply_read_back}
use Rattle.wireclient.proofs.TooLong.{no_length, unframed_read}
use Rattle.wire_laws.specs.Listings.{page_plan}
use Rattle.wire_laws.proofs.Listings.{list_refused, page_planned}
use Rattle.wire_laws.proofs.AnyLengths.{IsSentOf, any_reply_read}
use Rattle.wire_laws.proofs.PrintedReplies.{Reader}
use Rattle.wire_laws.proofs.TurnTexts.{coming_unicode}
use Rattle.wire_laws.proofs.Written.{status_is}
use Rattle.world_laws.specs.ListCalls.{IsListCall, IsNextCall, IsReadAsPageIfUtf8, page_values}
use Rattle.world_laws.specs.Reports.{IsStateAt}
use Rattle.world_laws.specs.Tasks.{IsTask, Task, selected_at, selection, wanted_by}
use Rattle.world_laws.proofs.ListTexts.{HasKeyTexts, list_utf8}
use Rattle.world_laws.proofs.Mirror.{server_of}
use Rattle.world_laws.proofs.Mirrored.{AllRead, AreRead, Entries, each_read, key_at, state_mirrored}
use Rattle.world_laws.proofs.Names.{label_utf8, subdomain_utf8}
use Rattle.world_laws.proofs.Parts.{IsLast, KeepsPaged, all_first, prefix_is_part, last_has, later_last, part_is_prefix, read_both}
use Rattle.world_laws.proofs.StrictPrefixes.{EndsInBrace, list_ends, no_page_in_prefix}
use Rattle.world_laws.proofs.TaskObjects.{listed_for, named_at, objects_kept, selected_read, type_utf8, version_utf8, wants}

-- ---- what is told of a reply

module _ (server : Server) (wanted : Wanted) (m : ℕ) (paged_list : List Stored) where
  -- whatever is told of the reply goes on behind what is set aside
  abbrev pub ReplyGoes : ℕ → List ℕ → Type 0
  ReplyGoes code body = (items : List ReplyItem) → IsSentOf code body items → IsListReply server wanted m paged_list items

  -- one that isn't an answer says nothing
  refused_goes : (code : ℕ) (body : List ℕ) → (code == 200) ≡ false → ReplyGoes code body
  refused_goes code body refused items (inl same) = subst (IsListReply server wanted m paged_list) (sym same) (by_length (nat_le (length body) max_body))
    where
      by_length : (b : Bool) → IsListReply server wanted m paged_list (cond b (head code ∷ whole body ∷ end ∷ []) (malformed ∷ []))
      by_length true = subst (λ t. IsListStep server m paged_list (cond t begun unexpected) (IsListReply server wanted m paged_list (whole body ∷ end ∷ []))) (sym refused) tt
      by_length false = tt
  refused_goes code body refused items (inr (k, short, same)) =
      subst (IsListReply server wanted m paged_list) (sym same) (subst (λ t. IsListStep server m paged_list (cond t begun unexpected) (IsListReply server wanted m paged_list (whole (take k body) ∷ end ∷ []))) (sym refused) tt)

  -- an answer is the page, or no text to a client
  module _ (body : List ℕ) (r : ℕ) (page : SeenPage) (ends : EndsInBrace body) (says : SaysPage wanted body r page) where
    abbrev StepGoes : Read Page → Type 0
    StepGoes read = IsListStep server m paged_list (page_or_unexpected read) (IsListReply server wanted m paged_list (end ∷ []))

    abbrev p : Page
    p = page_with r page.next says.objects

    answered_goes : (m ≤ r) × (r ≤ server.top) × IsPart server r (paged_list ++ says.objects) p.token → ReplyGoes 200 body
    answered_goes goes items (inl same) = subst (IsListReply server wanted m paged_list) (sym same) (by_length (nat_le (length body) max_body))
      where
        by_text : (b : Bool) → is_utf8 body ≡ b → StepGoes (page_in wanted body)
        by_text true text = subst StepGoes (sym (page_by wanted body r page says true text)) goes
        by_text false text = subst StepGoes (sym (page_by wanted body r page says false text)) tt

        by_length : (b : Bool) → IsListReply server wanted m paged_list (cond b (head 200 ∷ whole body ∷ end ∷ []) (malformed ∷ []))
        by_length true = by_text (is_utf8 body) refl
        by_length false = tt
    answered_goes goes items (inr (k, short, same)) = subst (IsListReply server wanted m paged_list) (sym same) (by_prefix (page_in wanted (take k body)) refl)
      where
        by_prefix : (read : Read Page) → page_in wanted (take k body) ≡ read → StepGoes read
        by_prefix (Ok q) is = absurd (no_page_in_prefix wanted body k says.value p q ends short says.is_json says.is_page is)
        by_prefix (Err e) is = tt

-- ---- numbers and keys

has_room : (limit : ℕ) → IsLimit (page_limit limit)
has_room limit = go (limit == 0) refl
  where
    go : (b : Bool) → (limit == 0) ≡ b → IsLimit (cond b None (Some (min limit max_page)))
    go true is = tt
    go false is = some limit (eqb-false limit 0 is)
      where
        some : (n : ℕ) → ¬ (n ≡ 0) → 0 < min n max_page
        some zero h = absurd (h refl)
        some (suc n) h = omega arith

-- the first page is of the revision that stands
current_is : (current compacted r : ℕ) → revision_by current compacted (not_older_than 0) ≡ Ok r → current ≡ r
current_is current compacted r is = go (nat_le 0 current) is
  where
    go : (b : Bool) → cond b (Ok current) (Err (TooLarge 0 current)) ≡ Ok r → current ≡ r
    go true same = cc
    go false same = absurd cc

-- each other page of the token's
exact_is : (current compacted asked r : ℕ) → revision_by current compacted (exactly asked) ≡ Ok r → asked ≡ r
exact_is current compacted asked r is = go (nat_lt asked compacted) (nat_le asked current) is
  where
    go : (a b : Bool) → cond a (Err (Expired asked compacted)) (cond b (Ok asked) (Err (TooLarge asked current))) ≡ Ok r → asked ≡ r
    go true b same = absurd cc
    go false true same = cc
    go false false same = absurd cc

is_last_by : (prefix : Entries) (next : Option Key) → ((k : Key) → next ≡ Some k → last_key prefix ≡ Some k) → IsLast prefix next
is_last_by prefix None is = tt
is_last_by prefix (Some k) is = is k refl

bodies_added : (es : Entries) → AllByRecursion (λ x. IsUtf8 x.object.body) (map added es) → AllByRecursion (λ e. IsUtf8 e.1.body) es
bodies_added [] all = tt
bodies_added (e ∷ es) all = (all.0, bodies_added es all.1)

-- the key that a token is read as
same_key : (kind r : ℕ) (k : Key) → k.kind ≡ kind → k ≡ key_after kind (token_after r k)
same_key kind r k same = let f : ℕ → Key = λ n. record { kind = n; namespace = k.namespace; name = k.name } in ap f same

all_limited : (P : Key × Object → Type 0) (after : Option Key) (limit : Option ℕ) (es : Entries) → AllByRecursion P es → AllByRecursion P (limited limit (left_after after es)).found
all_limited P None None es all = all
all_limited P None (Some n) es all = all_taken P n es all
all_limited P (Some k) None es all = all-filter P (λ e. is_lt (key_cmp k e.0)) es all
all_limited P (Some k) (Some n) es all = all_taken P n (past k es) (all-filter P (λ e. is_lt (key_cmp k e.0)) es all)

key_texts : (next : Option Key) → ((k : Key) → next ≡ Some k → IsNamed k) → HasKeyTexts next
key_texts None named = tt
key_texts (Some k) named = let is = named k refl in (label_utf8 k.namespace is.namespace, subdomain_utf8 k.name is.name)

-- ---- a task's list of a machine

module _ (types : List ServedShape) (task : Task) (is_task : IsTask types task) (machine : History) (machine_is : IsMachine types machine) where
  abbrev wanted : Wanted
  wanted = wanted_by task

  abbrev of : Collection
  of = listed_for task

  abbrev server : Server
  server = server_of task machine

  read_at : (r : ℕ) → AreRead wanted task.settings.kind (selected_at task machine r)
  read_at = selected_read types task is_task machine machine_is

  history : IsHistory machine
  history = whole_is machine_is.first machine machine_is.whole

  abbrev cursor_at : ℕ → Cursor
  cursor_at r = record { kind = task.settings.kind; namespace = task.settings.namespace; requirements = task.requirements; bookmarks = false; position = r; sent = r; left = initial_left_from None }

  unicode_at : AreUnicode machine.changes → (r : ℕ) → AllByRecursion (λ e. IsUtf8 e.1.body) (fin.entries (selected_at task machine r))
  unicode_at unicode r =
      let es : Entries = fin.entries (selected_at task machine r) in
      bodies_added es (all_first (λ x. IsUtf8 x.object.body) (map added es) (changes_left (from_history machine) (cursor_at r)) (coming_unicode machine (cursor_at r) unicode))

  -- ---- a page of it

  abbrev page_at : Option Token → ℕ → SeenPage
  page_at token r = page_of of (page_values task token) (state_at machine.changes r)

  module _ (token : Option Token) (r : ℕ) (high : r ≤ machine.current) where
    abbrev page : SeenPage
    page = page_at token r

    is_last : (k : Key) → page.next ≡ Some k → last_key page.found ≡ Some k
    is_last k is = next_is_last of (page_values task token) (state_at machine.changes r) k is

    all_shown : (P : Key × Object → Type 0) → AllByRecursion P (fin.entries (selected_at task machine r)) → AllByRecursion P page.found
    all_shown P all = all_limited P (option_map (key_after task.settings.kind) token) (page_limit task.settings.page) (fin.entries (selected_at task machine r)) all

    named_next : (k : Key) → page.next ≡ Some k → IsNamed k
    named_next k is = last_has IsNamed k page.found (all_shown (λ e. IsNamed e.0) (named_at types task is_task machine machine_is r)) (is_last k is)

    within : r ≤ max_version
    within = let top : machine.current ≤ last_revision = history.high in omega (arith, high, top)

    page_says : SaysPage wanted (list_text of r page) r page
    page_says = leaf_value_says wanted of (wants types task is_task) (page_values task token) r (state_at machine.changes r) (objects_kept types task is_task machine machine_is r) within

    page_text : AreUnicode machine.changes → IsUtf8 (list_text of r page)
    page_text unicode = list_utf8 of r page (version_utf8 types task is_task) (type_utf8 types task is_task) within (key_texts page.next named_next) (all_shown (λ e. IsUtf8 e.1.body) (unicode_at unicode r))

  -- behind what is set aside, it is a prefix of the list
  record GoesOn (m : ℕ) (paged_list : List Stored) (token : Option Token) (r : ℕ) : Type 0 where
    low : m ≤ r
    before : Entries
    read : AreReadAs wanted before paged_list
    prefix : IsPrefix (fin.entries (selected_at task machine r)) (before ++ (page_at token r).found) (page_at token r).next

  page_goes : (m : ℕ) (paged_list : List Stored) (token : Option Token) (r : ℕ) → GoesOn m paged_list token r → r ≤ machine.current → ReplyGoes server wanted m paged_list 200 (list_text of r (page_at token r))
  page_goes m paged_list token r goes high =
      let page : SeenPage = page_at token r in
      let says = page_says token r high in
      let last : IsLast page.found page.next = is_last_by page.found page.next (is_last token r high) in
      let part = prefix_is_part task machine task.settings.kind r (read_at r) (goes.before ++ page.found) page.next (paged_list ++ says.objects) goes.prefix (later_last goes.before page.found page.next last)
      (read_both wanted goes.before page.found paged_list says.objects goes.read says.read_as) in
      answered_goes server wanted m paged_list (list_text of r page) r page (list_ends of r page) says (goes.low, high, part)

  -- ---- the first page, and one behind a token

  first_goes : (m r : ℕ) → m ≤ machine.current → revision_of machine.current machine.compacted (page_values task None) ≡ Ok r → GoesOn m [] None r
  first_goes m r low at = record {
    low = subst (λ n. m ≤ n) (current_is machine.current machine.compacted r at) low;
    before = [];
    read = tt;
    prefix = leading.first (selection task) (page_limit task.settings.page) (state_at machine.changes r) (has_room task.settings.page);
  }

  module _ (r : ℕ) (paged_list : List Stored) (token : List ℕ) (part_is : IsPart server r paged_list (Some token)) where
    so_far : KeepsPaged wanted (selected_at task machine r) r paged_list token
    so_far = part_is_prefix task machine task.settings.kind r (read_at r) paged_list token part_is

    prefix_all : (P : Key × Object → Type 0) → AllByRecursion P (fin.entries (selected_at task machine r)) → AllByRecursion P so_far.prefix
    prefix_all P all = all_first P so_far.prefix so_far.is.rest (subst (AllByRecursion P) so_far.is.is all)

    own_kind : so_far.last.kind ≡ task.settings.kind
    own_kind =
        last_has (λ k. k.kind ≡ task.settings.kind) so_far.last so_far.prefix
        (prefix_all (λ e. e.0.kind ≡ task.settings.kind) (kinds (fin.entries (selected_at task machine r)) (each_read wanted task.settings.kind (selected_at task machine r) (read_at r)))) so_far.is_last
      where
        kinds : (es : Entries) → AllRead wanted task.settings.kind es → AllByRecursion (λ e. e.0.kind ≡ task.settings.kind) es
        kinds [] all = tt
        kinds (e ∷ es) all = (all.0.0, kinds es all.1)

    -- the token can be read
    can_be_listed : r ≤ machine.current → CanBeListed r so_far.last
    can_be_listed high =
        let named = last_has IsNamed so_far.last so_far.prefix (prefix_all (λ e. IsNamed e.0) (named_at types task is_task machine machine_is r)) so_far.is_last in
        let top : machine.current ≤ last_revision = history.high in
        record { high = omega (arith, high, top); namespace = named.namespace; name = named.name }

    next_goes : (m q : ℕ) → m ≤ r → revision_of machine.current machine.compacted (page_values task (Some (token_after r so_far.last))) ≡ Ok q → GoesOn m paged_list (Some (token_after r so_far.last)) q
    next_goes m q low at = subst (GoesOn m paged_list (Some (token_after r so_far.last))) (exact_is machine.current machine.compacted r q at) (record {
      low = low;
      before = so_far.prefix;
      read = so_far.read;
      prefix = subst (λ k. IsPrefix (fin.entries (selected_at task machine r)) (so_far.prefix ++ (page_from k).found) (page_from k).next) (same_key task.settings.kind r so_far.last own_kind)
          (leading.next (selection task) (page_limit task.settings.page) (state_at machine.changes r) so_far.prefix so_far.last (has_room task.settings.page) so_far.is);
    })
      where
        page_from : Key → SeenPage
        page_from k = seen_page (selection task) (Some k) (page_limit task.settings.page) (state_at machine.changes r)

  -- ---- the answer

  module _ (token : Option Token) (call : Call) (asks : IsListCall types task token call) where
    abbrev values : Values
    values = page_values task token

    paged : (r : ℕ) → revision_of machine.current machine.compacted values ≡ Ok r → planned types machine call ≡ page_plan (list_text of r (page_at token r))
    paged r at = page_planned types machine call task.t task.settings.kind task.settings.namespace values asks r at

    pub answer_read : (r : ℕ) → revision_of machine.current machine.compacted values ≡ Ok r → r ≤ machine.current → IsReadAsPageIfUtf8 wanted (planned types machine call).answer.body r (page_at token r)
    answer_read r at high =
        let text : List ℕ = list_text of r (page_at token r) in
        let says = page_says token r high in
        subst (λ (plan : calls.Plan). IsReadAsPageIfUtf8 wanted plan.answer.body r (page_at token r)) (sym (paged r at)) (says.objects, page_by wanted text r (page_at token r) says (is_utf8 text) refl, says.read_as)

    pub answer_utf8 : AreUnicode machine.changes → (r : ℕ) → revision_of machine.current machine.compacted values ≡ Ok r → IsUtf8 (planned types machine call).answer.body
    answer_utf8 unicode r at =
        let high : r ≤ machine.current = (revision_between machine.current machine.compacted history.low values r (sym at)).1 in
        subst (λ (plan : calls.Plan). IsUtf8 plan.answer.body) (sym (paged r at)) (page_text token r high unicode)

    -- it opens no watch, and what is told of it, whatever it is, goes on behind what is set aside
    abbrev AnswerGoes : ℕ → List Stored → calls.Plan → Type 0
    AnswerGoes m paged_list plan = (plan.answer.watch ≡ None) × ReplyGoes server wanted m paged_list plan.answer.status plan.answer.body

    answer_goes : (m : ℕ) (paged_list : List Stored) → ((r : ℕ) → revision_of machine.current machine.compacted values ≡ Ok r → GoesOn m paged_list token r) → AnswerGoes m paged_list (planned types machine call)
    answer_goes m paged_list goes = by_revision (revision_of machine.current machine.compacted values) refl
      where
        refused_by : (refusal : Refusal) → ((refused (list_refusal refusal)).answer.status == 200) ≡ false → revision_of machine.current machine.compacted values ≡ Err refusal → AnswerGoes m paged_list (planned types machine call)
        refused_by refusal other at =
            let answer : calls.Answer = (refused (list_refusal refusal)).answer in
            subst (AnswerGoes m paged_list) (sym (list_refused types machine call task.t task.settings.kind task.settings.namespace values asks refusal at)) (refl, refused_goes server wanted m paged_list answer.status answer.body other)

        by_revision : (answer : Result ℕ Refusal) → revision_of machine.current machine.compacted values ≡ answer → AnswerGoes m paged_list (planned types machine call)
        by_revision (Ok r) at =
            let high : r ≤ machine.current = (revision_between machine.current machine.compacted history.low values r (sym at)).1 in
            subst (AnswerGoes m paged_list) (sym (paged r at)) (refl, page_goes m paged_list token r (goes r at) high)
        by_revision (Err (Expired n compacted)) at = refused_by (Expired n compacted) refl at
        by_revision (Err (TooLarge n current)) at = refused_by (TooLarge n current) refl at

  -- ---- what comes

  -- of a call that asks for the first page
  pub first_comes : (m : ℕ) (call : Call) → m ≤ machine.current → IsListCall types task None call
      → ((planned types machine call).answer.watch ≡ None) × ReplyGoes server wanted m [] (planned types machine call).answer.status (planned types machine call).answer.body
  first_comes m call low asks = answer_goes None call asks m [] (λ r at. first_goes m r low at)

  -- of one that asks for the page behind a token
  pub next_comes : (m r : ℕ) (paged_list : List Stored) (token : List ℕ) (call : Call) → m ≤ r → IsPart server r paged_list (Some token) → IsNextCall types task r paged_list call
      → ((planned types machine call).answer.watch ≡ None) × ReplyGoes server wanted m paged_list (planned types machine call).answer.status (planned types machine call).answer.body
  next_comes m r paged_list token call low part_is next =
      let last = so_far r paged_list token part_is in
      let own : next.0 ≡ last.object = same_some next.0 last.object (sym next.1 ∙ last.is_object) in
      let asks : IsListCall types task (Some (token_after r last.last)) call =
      subst (λ (p : Place). IsListCall types task (Some (record { revision = r; namespace = p.0; name = p.1 })) call) (ap place_in own ∙ last.same_place) next.2 in
      answer_goes (Some (token_after r last.last)) call asks m paged_list (λ q at. next_goes r paged_list token part_is m q low at)

  -- such a token is that of the last object, and can be read
  pub token_behind : (r : ℕ) (paged_list : List Stored) (token : List ℕ) → r ≤ machine.current → IsPart server r paged_list (Some token)
      → (o : Stored) × (last_or None paged_list ≡ Some o) × (token ≡ continued_at r (key_at task.settings.kind (place_in o))) × CanBeListed r (key_at task.settings.kind (place_in o))
  token_behind r paged_list token high part_is =
      let last = so_far r paged_list token part_is in
      let named = can_be_listed r paged_list token part_is high in (
        last.object,
        last.is_object,
        last.token_is,
        subst (λ (p : Place). CanBeListed r (key_at task.settings.kind p)) (sym last.same_place) (record { high = named.high; namespace = named.namespace; name = named.name }),
      )

  -- ---- what is read of a page

  pub first_read : (call : Call) → IsListCall types task None call
      → IsReadAsPageIfUtf8 wanted (planned types machine call).answer.body machine.current (seen_page (selection task) None (page_limit task.settings.page) (state_at machine.changes machine.current))
  first_read call asks = answer_read None call asks machine.current (ap (λ b. cond b (Ok machine.current) (Err (TooLarge 0 machine.current))) (le-leb 0 machine.current zero-le)) (omega arith)

  pub next_read : (r : ℕ) (k : Key) (call : Call) → k.kind ≡ task.settings.kind → machine.compacted ≤ r → r ≤ machine.current → IsListCall types task (Some (token_after r k)) call
      → IsReadAsPageIfUtf8 wanted (planned types machine call).answer.body r (seen_page (selection task) (Some k) (page_limit task.settings.page) (state_at machine.changes r))
  next_read r k call own low high asks =
      let exact : revision_by machine.current machine.compacted (exactly r) ≡ Ok r = rw (le-ltb r machine.compacted low, le-leb r machine.current high) refl in
      subst (λ q. IsReadAsPageIfUtf8 wanted (planned types machine call).answer.body r (seen_page (selection task) (Some q) (page_limit task.settings.page) (state_at machine.changes r))) (sym (same_key task.settings.kind r k own))
      (answer_read (Some (token_after r k)) call asks r exact high)

-- ---- what the joined run takes of it

-- the answer opens no watch, and its items go on behind these objects
pub record ListComes (types : List ServedShape) (task : Task) (machine : History) (m : ℕ) (paged_list : List Stored) (call : Call) : Type 0 where
  pub unwatched : (planned types machine call).answer.watch ≡ None
  pub items : List ReplyItem
  pub read : Items (answer_reply (planned types machine call).answer) items
  pub lists : IsListReply (server_of task machine) (wanted_by task) m paged_list items

reader : Reader
reader = record { reply = reply_read_back; counted = length_reads; none = unframed_read; uncounted = no_length }

comes : (types : List ServedShape) (task : Task) (machine : History) (m : ℕ) (paged_list : List Stored) (call : Call)
    → ((planned types machine call).answer.watch ≡ None) × ReplyGoes (server_of task machine) (wanted_by task) m paged_list (planned types machine call).answer.status (planned types machine call).answer.body
    → ListComes types task machine m paged_list call
comes types task machine m paged_list call goes =
    let answer : calls.Answer = (planned types machine call).answer in
    let sent = any_reply_read reader answer.status None answer.body (status_is types machine call) (tt {0}) in
    record { unwatched = goes.0; items = sent.0; read = sent.1; lists = goes.1 sent.0 sent.2 }

pub first_page_comes : (types : List ServedShape) (task : Task) (machine : History) (m : ℕ) (call : Call) → IsTask types task → IsMachine types machine
    → m ≤ machine.current → IsListCall types task None call → ListComes types task machine m [] call
first_page_comes types task machine m call is is_machine low asks = comes types task machine m [] call (first_comes types task is machine is_machine m call low asks)

pub next_page_comes : (types : List ServedShape) (task : Task) (machine : History) (m r : ℕ) (token : List ℕ) (paged_list : List Stored) (call : Call) → IsTask types task → IsMachine types machine
    → m ≤ r → r ≤ machine.current → IsPart (server_of task machine) r paged_list (Some token) → IsNextCall types task r paged_list call → ListComes types task machine m paged_list call
next_page_comes types task machine m r token paged_list call is is_machine low come part asks =
    comes types task machine m paged_list call (next_comes types task is machine is_machine m r paged_list token call low part asks)

-- each object of the list is the one that its text says
pub mirror_is_right : (types : List ServedShape) (task : Task) (machine : History) (r : ℕ) → IsTask types task → IsMachine types machine
    → IsStateAt (wanted_by task) (selected_at task machine r) ((server_of task machine).at r)
mirror_is_right types task machine r is is_machine = state_mirrored (wanted_by task) task.settings.kind (selected_at task machine r) (selected_read types task is machine is_machine r)
