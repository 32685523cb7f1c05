-- The first list ends its request, and no notice comes before it.
use Rattle.std.proofs.Common.{◌≡◌, ℕ, Bool, true, false, cond, List, [], ◌∷◌, ◌++◌, Option, Some, None, is_some, refl}
use Rattle.std.specs.Prelude.{◌&&◌, nat_eq, nat_lt, nat_le}
use Rattle.std.specs.FinMap as fin
use Rattle.indexer.specs.Objects.{Stored}
use Rattle.wireclient.specs.Reply.{ReplyItem}
use Rattle.decoder.specs.Wanted.{Wanted}
use Rattle.decoder.specs.Pages.{Page}
use Rattle.decoder.specs.Lines.{Line, put, deleted, bookmark, error}
use Rattle.reflector.specs.Client.{place_in, max_objects, Cache, SyncPhase, first, next, streaming, Client}
use Rattle.reflector.specs.Items.{Response, begun, page, line, over, unexpected, said_of_list, said_of_watch}
use Rattle.reflector.specs.Run.{relisting, ascends_within_limit, keep_paged, with_line, with_list, with_next, with_page, with_watch, with_item, receives, receives_all}

-- while nothing is kept no notice waits, and while something is asked nothing is kept
abbrev pub IsBefore : Client → Type 0
IsBefore c = (c.cache ≡ None → c.notices ≡ []) × (c.is_awaiting_reply ≡ true → c.cache ≡ None)

checked : (P : Client → Type 0) (b : Bool) (c good : Client) → P (relisting c) → P good → P (cond b good (relisting c))
checked P true c good begins goes = goes
checked P false c good begins goes = begins

listed_by : (P : Client → Type 0) (c : Client) (with_it : Page → Client) (response : Response) → P c → P (relisting c) → ((p : Page) → P (with_it p)) → P (with_list c with_it response)
listed_by P c with_it begun stays begins goes = stays
listed_by P c with_it (page p) stays begins goes = goes p
listed_by P c with_it (line l) stays begins goes = begins
listed_by P c with_it over stays begins goes = begins
listed_by P c with_it unexpected stays begins goes = begins

paged_by : (P : Client → Type 0) (c : Client) (paged_list : List Stored) (p : Page) → P (relisting c) → ((r : ℕ) (all : List Stored) (token : Option (List ℕ)) → P (keep_paged c r all token)) → P (with_page c paged_list p)
paged_by P c paged_list p begins goes = checked P (ascends_within_limit (paged_list ++ p.objects)) c (keep_paged c p.revision (paged_list ++ p.objects) p.token) begins (goes p.revision (paged_list ++ p.objects) p.token)

-- an item of a list
list_by : (P : Client → Type 0) (wanted : Wanted) (c : Client) (asks : SyncPhase) (x : ReplyItem) → P c → P (relisting c) → ((r : ℕ) (all : List Stored) (token : Option (List ℕ)) → P (keep_paged c r all token))
    → P (with_watch c c.cache (said_of_watch wanted x)) → P (with_item wanted c asks x)
list_by P wanted c first x stays begins goes watched = listed_by P c (with_page c []) (said_of_list wanted x) stays begins (λ p. paged_by P c [] p begins goes)
list_by P wanted c (next r token paged_list) x stays begins goes watched =
    listed_by P c (with_next c r paged_list) (said_of_list wanted x) stays begins
    (λ p. checked P (nat_eq p.revision r) c (with_page c paged_list p) begins (paged_by P c paged_list p begins goes))
list_by P wanted c streaming x stays begins goes watched = watched

-- ---- nothing was kept

part_before : (c : Client) (r : ℕ) (all : List Stored) (token : Option (List ℕ)) → c.cache ≡ None → c.notices ≡ [] → IsBefore (keep_paged c r all token)
part_before c r all (Some token) none waits = (λ _. waits, λ _. none)
part_before c r all None none waits = (λ is. absurd cc, λ is. absurd cc)

watch_before : (c : Client) (now : Option Cache) (response : Response) → c.cache ≡ None → c.notices ≡ [] → now ≡ None → IsBefore (with_watch c now response)
watch_before c (Some now) response none waits is = absurd cc
watch_before c None begun none waits is = (λ _. waits, λ _. none)
watch_before c None (page p) none waits is = (λ _. waits, λ _. none)
watch_before c None (line l) none waits is = (λ _. waits, λ _. none)
watch_before c None over none waits is = (λ _. waits, λ _. none)
watch_before c None unexpected none waits is = (λ _. waits, λ _. none)

step_before : (wanted : Wanted) (c : Client) (x : ReplyItem) → IsBefore c → IsBefore (receives wanted c x)
step_before wanted c x is = go c.is_awaiting_reply refl
  where
    go : (b : Bool) → c.is_awaiting_reply ≡ b → IsBefore (cond b (with_item wanted c c.sync x) c)
    go false idle = is
    go true asks =
        let none : c.cache ≡ None = is.1 asks in
        let waits : c.notices ≡ [] = is.0 none in
        list_by IsBefore wanted c c.sync x is (λ _. waits, λ _. none) (λ r all token. part_before c r all token none waits) (watch_before c c.cache (said_of_watch wanted x) none waits none)

pub all_before : (wanted : Wanted) (c : Client) (xs : List ReplyItem) → IsBefore c → IsBefore (receives_all wanted c xs)
all_before wanted c [] is = is
all_before wanted c (x ∷ xs) is = all_before wanted (receives wanted c x) xs (step_before wanted c x is)

-- ---- something was kept, and stays

abbrev IsKept : Client → Type 0
IsKept c = is_some c.cache ≡ true

part_kept : (c : Client) (r : ℕ) (all : List Stored) (token : Option (List ℕ)) → IsKept c → IsKept (keep_paged c r all token)
part_kept c r all (Some token) is = is
part_kept c r all None is = refl

line_kept : (c : Client) (now : Cache) (l : Line) → IsKept c → IsKept (with_line c now l)
line_kept c now (put o) is = checked IsKept (nat_lt now.revision o.revision && nat_le (fin.len (fin.insert now.objects (place_in o) o)) max_objects) c _ is refl
line_kept c now (deleted o) is = checked IsKept (nat_lt now.revision o.revision) c _ is refl
line_kept c now (bookmark r) is = checked IsKept (nat_le now.revision r) c _ is refl
line_kept c now error is = is

watch_kept : (c : Client) (now : Option Cache) (response : Response) → IsKept c → IsKept (with_watch c now response)
watch_kept c None begun is = is
watch_kept c (Some now) begun is = is
watch_kept c None (page p) is = is
watch_kept c (Some now) (page p) is = is
watch_kept c None (line l) is = is
watch_kept c (Some now) (line l) is = line_kept c now l is
watch_kept c None over is = is
watch_kept c (Some now) over is = is
watch_kept c None unexpected is = is
watch_kept c (Some now) unexpected is = is

step_kept : (wanted : Wanted) (c : Client) (x : ReplyItem) → IsKept c → IsKept (receives wanted c x)
step_kept wanted c x is = go c.is_awaiting_reply
  where
    go : (b : Bool) → IsKept (cond b (with_item wanted c c.sync x) c)
    go true = list_by IsKept wanted c c.sync x is is (λ r all token. part_kept c r all token is) (watch_kept c c.cache (said_of_watch wanted x) is)
    go false = is

pub all_kept : (wanted : Wanted) (c : Client) (xs : List ReplyItem) → is_some c.cache ≡ true → is_some (receives_all wanted c xs).cache ≡ true
all_kept wanted c [] is = is
all_kept wanted c (x ∷ xs) is = all_kept wanted (receives wanted c x) xs (step_kept wanted c x is)
