-- How many bytes are a request.
use Rattle.std.proofs.Common.{arith, ◌≡◌, ◌≢◌, ◌⊎◌, ℕ, ◌+◌, ◌-◌, ◌≤◌, ◌<◌, Bool, true, false, cond, ltb, List, ◌++◌, length, take, drop, Option, Some, None, refl, sym, ap, subst, ◌∙◌, Result, Ok, Err, IfSome, ◌==◌, inl, inr, length-append, length-drop, replicate}
use Rattle.std.specs.Prelude.{unwrap_or}
use Rattle.std.proofs.lemmas.Bool.{ltb-false, ltb-true, le-ltb, lt-ltb}
use Rattle.std.proofs.lemmas.List.{drop-append-le, length-replicate, length-take, take-append-drop, take-append-le, take_at}
use Rattle.serde_json.specs.Data.{Data}
use Rattle.api_types.specs.TypesFile.{ServedShape}
use Rattle.api_request.specs.Admit.{admitted, method_named}
use Rattle.api_request.specs.Calls.{Denied, Target}
use Rattle.api_request.specs.declared.method.Method.{Method}
use Rattle.wire.specs.Heads.{head_end, max_head}
use Rattle.requests.specs.Asks.{Asks, CallDecision, asked_by, call_in, call_with}
use Rattle.requests.specs.Bodies.{body_by, checked_media_by, declared_body, declared_length_by, deletes, json_in, max_body, needed_length, optional_length, path_of, sized, some_json, writes_by_body}
use Rattle.requests.specs.Decision.{undecided, refused, accepted, and_then, decided_by}
use Rattle.requests.specs.Heads.{HeadDecision, Length, missing, malformed, number, ReadsHead, ReadsHeadAt, Request}
use Rattle.requests.specs.Refusals.{as_denied, body_too_large, head_too_large, refuse, transfer_encoding}
use Rattle.requests.specs.RequestSizes.{Decides, DecidesAt, HasRequestSize, IsRequestSize, IsSizedBy}
use Rattle.requests.proofs.Cuts.{prefix_more, prefix_short, prefix_within, reads_more}
use Rattle.requests.proofs.Deciding.{asks_more, asks_one}
use Rattle.requests.proofs.Fronts.{EndsAt, ends_at, reads_front, reads_long, reads_open, same_end, with_first}

below_or : (m e : ℕ) (t : Bool) → ltb m e ≡ t → (m < e) ⊎ (e ≤ m)
below_or m e true is = inl (ltb-true m e is)
below_or m e false is = inr (ltb-false m e is)

-- ---- by what a head says

fewer_by : (types : List ServedShape) (bytes : List ℕ) (said : HeadDecision) (e n m : ℕ) → head_end (take max_head bytes) ≡ Some e → ReadsHead bytes said → ((k : ℕ) → k < n → asked_by types (with_first k said) ≡ undecided)
    → m < e + n → (m < e) ⊎ (e ≤ m) → Asks types (take m bytes) undecided
fewer_by types bytes said e n m at says before few (inl lt) =
    let short = prefix_short bytes e at in
    (undecided, reads_open bytes m (omega (arith, lt, short)) (λ k there. let same : e ≡ k = same_end (sym at ∙ there) in omega (arith, lt, same)), refl)
fewer_by types bytes said e n m at says before few (inr le) =
    let sum : e + (m - e) ≡ m = omega (arith, le) in
    subst (λ (j : ℕ). Asks types (take j bytes) undecided) sum (with_first (m - e) said, reads_front bytes e (m - e) said at says, sym (before (m - e) (omega (arith, few, le))))

size_here : (types : List ServedShape) (bytes : List ℕ) (said : HeadDecision) (e n : ℕ) → head_end (take max_head bytes) ≡ Some e → ReadsHead bytes said → ((k : ℕ) → k < n → asked_by types (with_first k said) ≡ undecided)
    → asked_by types (with_first n said) ≢ undecided → e + n ≤ length bytes → IsRequestSize types bytes (e + n)
size_here types bytes said e n at says before decided within = record {
  within = within;
  decides = (asked_by types (with_first n said), (with_first n said, reads_front bytes e n said at says, refl), decided);
  fewer = λ m few. fewer_by types bytes said e n m at says before few (below_or m e (ltb m e) refl);
}

-- ---- a head that is accepted

first_few : (rest : List ℕ) (k n : ℕ) → k < n → length (take k rest) < n
first_few rest k n few = let taken = length-take k rest in omega (arith, taken, few)

size_accepted : (types : List ServedShape) (bytes rest : List ℕ) (e n : ℕ) (request : Request) → head_end (take max_head bytes) ≡ Some e → rest ≡ drop e bytes → ReadsHead bytes (accepted (request, rest))
    → DecidesAt (call_in types request) n → e + n ≤ length bytes → IsRequestSize types bytes (e + n)
size_accepted types bytes rest e n request at is says (before, from) within =
    let left : length rest ≡ length (drop e bytes) = ap (λ (b : List ℕ). length b) is in
    let dropped = length-drop e bytes in
    let taken = length-take n rest in
    size_here types bytes (accepted (request, rest)) e n at says (λ k few. before (take k rest) (first_few rest k n few)) (from (take n rest) (omega (arith, left, dropped, taken, within))) within

accepted_ends : (types : List ServedShape) (bytes rest : List ℕ) (size n : ℕ) (request : Request) → ReadsHead bytes (accepted (request, rest)) → (size ≤ length bytes) × (drop size bytes ≡ rest)
    → DecidesAt (call_in types request) n → EndsAt bytes (head_end (take max_head bytes)) rest → HasRequestSize types bytes (size + n)
accepted_ends types bytes rest size n request says (low, cut) decides (e, at, is) more =
    let within = prefix_within bytes e at in
    let one : length (drop size bytes) ≡ length (drop e bytes) = ap (λ (b : List ℕ). length b) (cut ∙ is) in
    let here = length-drop size bytes in
    let there = length-drop e bytes in
    let same : e ≡ size = omega (arith, within, low, one, here, there) in
    let behind : rest ++ more ≡ drop e (bytes ++ more) = ap (λ (b : List ℕ). b ++ more) is ∙ sym (drop-append-le e bytes more within) in
    subst (λ (s : ℕ). s + n ≤ length (bytes ++ more) → IsRequestSize types (bytes ++ more) (s + n)) same
    (size_accepted types (bytes ++ more) (rest ++ more) e n request (prefix_more bytes more e at) behind (reads_more bytes more (accepted (request, rest)) says (λ u. absurd cc)) decides)

-- by what came after its head
pub size_by : (types : List ServedShape) (bytes rest : List ℕ) (head size : ℕ) (request : Request) → ReadsHead bytes (accepted (request, rest)) → (head ≤ length bytes) × (drop head bytes ≡ rest)
    → IsSizedBy (call_in types request) head size → HasRequestSize types bytes size
size_by types bytes rest head size request says ends (n, sum, decides) =
    subst (HasRequestSize types bytes) (sym sum) (accepted_ends types bytes rest head n request says ends decides (ends_at bytes (head_end (take max_head bytes)) request rest says))

-- ---- a head that is refused

too_long : (s : Bool) (d : Denied) → (let said : HeadDecision = refused d in said) ≡ cond s (refuse head_too_large) undecided → s ≡ true
too_long true d is = refl
too_long false d is = absurd cc

none_isnt : (e : ℕ) → ◌≡◌ {A = Option ℕ} None (Some e) → ⊥
none_isnt e is = cc

long_here : (types : List ServedShape) (bytes : List ℕ) → head_end (take max_head bytes) ≡ None → max_head < length bytes → IsRequestSize types bytes (max_head + 1)
long_here types bytes none long = record {
  within = omega (arith, long);
  decides = (asked_by types (refuse head_too_large), (refuse head_too_large, reads_long bytes none long, refl), λ e. absurd cc);
  fewer = λ m few. (undecided, reads_open bytes m (omega (arith, few)) (λ e there. absurd (none_isnt e (sym none ∙ there))), refl);
}

refused_at : (types : List ServedShape) (bytes : List ℕ) (d : Denied) (end : Option ℕ) → head_end (take max_head bytes) ≡ end → ReadsHead bytes (refused d) → ReadsHeadAt bytes end (refused d) → HasRequestSize types bytes (unwrap_or end (max_head + 1))
refused_at types bytes d None at says said more within =
    let long : max_head < length bytes = ltb-true max_head (length bytes) (too_long (ltb max_head (length bytes)) d said) in
    let same : head_end (take max_head (bytes ++ more)) ≡ None = ap head_end (take-append-le max_head bytes more (omega (arith, long))) ∙ at in
    let both = length-append bytes more in
    long_here types (bytes ++ more) same (omega (arith, long, both))
refused_at types bytes d (Some e) at says said more within =
    let plain : e + 0 ≡ e = omega arith in
    subst (IsRequestSize types (bytes ++ more)) plain
    (size_here types (bytes ++ more) (refused d) e 0 (prefix_more bytes more e at) (reads_more bytes more (refused d) says (λ u. absurd cc)) (λ k few. absurd (omega (arith, few))) (λ u. absurd cc) (omega (arith, within)))

pub size_refused : (types : List ServedShape) (bytes : List ℕ) (d : Denied) (end : Option ℕ) → end ≡ head_end (take max_head bytes) → ReadsHead bytes (refused d) → HasRequestSize types bytes (unwrap_or end (max_head + 1))
size_refused types bytes d end is says = refused_at types bytes d end (sym is) says (subst (λ (o : Option ℕ). ReadsHeadAt bytes o (refused d)) (sym is) says)

-- ---- a body

-- what doesn't depend on the bytes after the head
pub sized_alone : (f : List ℕ → CallDecision) (head : ℕ) → ((rest : List ℕ) → f rest ≢ undecided) → IsSizedBy f head head
sized_alone f head decided = (0, (let plain : head ≡ head + 0 = omega arith in plain), ((λ rest few. absurd (omega (arith, few))), λ rest enough. decided rest))

body_by_test : (t : Bool) (value : Option Data) (request : Request) (target : Target) → t ≡ true → call_with request target (cond t undecided (some_json value)) ≡ undecided
body_by_test true value request target is = refl
body_by_test false value request target is = absurd cc

json_decides : (value : Option Data) (request : Request) (target : Target) → call_with request target (some_json value) ≢ undecided
json_decides None request target is = cc
json_decides (Some v) request target is = cc

body_decides : (t : Bool) (value : Option Data) (request : Request) (target : Target) → t ≡ false → call_with request target (cond t undecided (some_json value)) ≢ undecided
body_decides true value request target is = absurd cc
body_decides false value request target is = json_decides value request target

-- a body of so many bytes
pub sized_body : (request : Request) (target : Target) (head n : ℕ) → IsSizedBy (λ rest. call_with request target (declared_body (Some n) rest)) head (head + n)
sized_body request target head n = (
  n,
  refl,
  (
    (λ rest few. body_by_test (ltb (length rest) n) (json_in (take n rest)) request target (lt-ltb (length rest) n few)),
    λ rest enough. body_decides (ltb (length rest) n) (json_in (take n rest)) request target (le-ltb (length rest) n enough),
  ),
)

pub sized_none : (request : Request) (target : Target) (head : ℕ) → IsSizedBy (λ rest. call_with request target (declared_body None rest)) head head
sized_none request target head = sized_alone (λ rest. call_with request target (declared_body None rest)) head (λ rest e. absurd cc)

-- ---- a body that is declared or denied

abbrev pub by_length : Request → Target → Result (Option ℕ) Denied → List ℕ → CallDecision
by_length request target o rest = call_with request target (and_then (decided_by o) (λ n. declared_body n rest))

pub sized_denied : (method : Option Method) (request : Request) (target : Target) (head : ℕ) (d : Denied) → ◌≡◌ {A = Result (Option ℕ) Denied} (Err d) (declared_length_by method request) → IsSizedBy (λ rest. call_with request target (body_by method request rest)) head head
sized_denied method request target head d is =
    subst (λ (o : Result (Option ℕ) Denied). IsSizedBy (by_length request target o) head head) is (sized_alone (by_length request target (Err d)) head (λ rest e. absurd cc))

pub sized_declared : (method : Option Method) (request : Request) (target : Target) (head size : ℕ) (o : Option ℕ) → ◌≡◌ {A = Result (Option ℕ) Denied} (Ok o) (declared_length_by method request)
    → IsSizedBy (λ rest. call_with request target (declared_body o rest)) head size → IsSizedBy (λ rest. call_with request target (body_by method request rest)) head size
sized_declared method request target head size o is sized = subst (λ (r : Result (Option ℕ) Denied). IsSizedBy (by_length request target r) head size) is sized

-- ---- a request that is admitted or not

abbrev pub by_target : Request → Result Target Denied → List ℕ → CallDecision
by_target request o rest = and_then (decided_by o) (λ target. call_with request target (body_by (method_named request.method) request rest))

abbrev pub admission : List ServedShape → Request → Result Target Denied
admission types request = admitted types (method_named request.method) (path_of request.request_target) (checked_media_by (method_named request.method) request)

pub sized_unadmitted : (types : List ServedShape) (request : Request) (head : ℕ) (d : Denied) → admission types request ≡ Err d → IsSizedBy (call_in types request) head head
sized_unadmitted types request head d is =
    subst (λ (o : Result Target Denied). IsSizedBy (by_target request o) head head) (sym is) (sized_alone (by_target request (Err d)) head (λ rest e. absurd cc))

pub sized_admitted : (types : List ServedShape) (request : Request) (head size : ℕ) (target : Target) → admission types request ≡ Ok target
    → IsSizedBy (λ rest. call_with request target (body_by (method_named request.method) request rest)) head size → IsSizedBy (call_in types request) head size
sized_admitted types request head size target is sized = subst (λ (o : Result Target Denied). IsSizedBy (by_target request o) head size) (sym is) sized

-- ---- laws

-- what so many bytes ask all ask
pub size_asks : (types : List ServedShape) (bytes : List ℕ) (n : ℕ) (asked : CallDecision) → IsRequestSize types bytes n → Asks types bytes asked → Asks types (take n bytes) asked
size_asks types bytes n asked size all =
    let first = size.decides.0 in
    let asks = size.decides.1 in
    let later = asks_more types (take n bytes) (drop n bytes) first asks size.decides.2 in
    let same : first ≡ asked = asks_one types bytes first asked (subst (λ (b : List ℕ). Asks types b first) (take-append-drop n bytes) later) all in
    subst (Asks types (take n bytes)) same asks

not_fewer : (types : List ServedShape) (bytes : List ℕ) (m n : ℕ) → IsRequestSize types bytes m → IsRequestSize types bytes n → ¬ (m < n)
not_fewer types bytes m n one other few = one.decides.2 (asks_one types (take m bytes) one.decides.0 undecided one.decides.1 (other.fewer m few))

pub size_one : (types : List ServedShape) (bytes : List ℕ) (m n : ℕ) → IsRequestSize types bytes m → IsRequestSize types bytes n → m ≡ n
size_one types bytes m n one other =
    let below = not_fewer types bytes m n one other in
    let above = not_fewer types bytes n m other one in
    omega (arith, below, above)

pub size_stays : (types : List ServedShape) (bytes more : List ℕ) (n : ℕ) → IsRequestSize types bytes n → IsRequestSize types (bytes ++ more) n
size_stays types bytes more n size = record {
  within = (let low = size.within in let both = length-append bytes more in omega (arith, low, both));
  decides = subst (Decides types) (sym (take-append-le n bytes more size.within)) size.decides;
  fewer = λ m few. (let low = size.within in subst (λ (b : List ℕ). Asks types b undecided) (sym (take-append-le m bytes more (omega (arith, low, few)))) (size.fewer m few));
}

came_by : (types : List ServedShape) (bytes : List ℕ) (n : ℕ) → HasRequestSize types bytes n → (asked : CallDecision) → Asks types bytes asked → asked ≢ undecided
    → (length bytes < n) ⊎ (n ≤ length bytes) → n ≤ length bytes
came_by types bytes n has asked asks decided (inr low) = low
came_by types bytes n has asked asks decided (inl few) =
    let more : List ℕ = replicate n 0 in
    let both = length-append bytes more in
    let zeros : length more ≡ n = length-replicate n 0 in
    let size = has more (omega (arith, both, zeros)) in
    let all : take (length bytes) (bytes ++ more) ≡ bytes = take_at bytes more (length bytes) refl in
    absurd (decided (asks_one types bytes asked undecided asks (subst (λ (b : List ℕ). Asks types b undecided) all (size.fewer (length bytes) few))))

-- once it is decided what they ask, the request has come whole
pub size_came : (types : List ServedShape) (bytes : List ℕ) (n : ℕ) → HasRequestSize types bytes n → Decides types bytes → n ≤ length bytes
size_came types bytes n has decides = came_by types bytes n has decides.0 decides.1 decides.2 (below_or (length bytes) n (ltb (length bytes) n) refl)

-- ---- limits

size_ends : (bytes rest : List ℕ) (size : ℕ) → (size ≤ length bytes) × (drop size bytes ≡ rest) → EndsAt bytes (head_end (take max_head bytes)) rest → size ≤ max_head
size_ends bytes rest size (low, cut) (e, at, is) =
    let within = prefix_within bytes e at in
    let short = prefix_short bytes e at in
    let one : length (drop size bytes) ≡ length (drop e bytes) = ap (λ (b : List ℕ). length b) (cut ∙ is) in
    let here = length-drop size bytes in
    let there = length-drop e bytes in
    omega (arith, within, short, low, one, here, there)

-- a head that is accepted is no longer than a head may be
pub head_short : (bytes rest : List ℕ) (size : ℕ) (request : Request) → ReadsHead bytes (accepted (request, rest)) → (size ≤ length bytes) × (drop size bytes ≡ rest) → size ≤ max_head
head_short bytes rest size request says ends = size_ends bytes rest size ends (ends_at bytes (head_end (take max_head bytes)) request rest says)

-- and so is a body that is declared
sized_short : (t : Bool) (m n : ℕ) → ltb max_body m ≡ t → (let said : Result (Option ℕ) Denied = Ok (Some n) in said) ≡ cond t (Err (as_denied body_too_large)) (Ok (Some m)) → n ≤ max_body
sized_short true m n test is = absurd cc
sized_short false m n test is = let low = ltb-false max_body m test in let same : n ≡ m = cc in omega (arith, low, same)

needed_short : (l : Length) (n : ℕ) → ◌≡◌ {A = Result (Option ℕ) Denied} (Ok (Some n)) (needed_length l) → n ≤ max_body
needed_short missing n is = absurd cc
needed_short malformed n is = absurd cc
needed_short (number m) n is = sized_short (ltb max_body m) m n refl is

optional_by : (t : Bool) (m n : ℕ) → (let said : Result (Option ℕ) Denied = Ok (Some n) in said) ≡ cond t (Ok None) (sized m) → n ≤ max_body
optional_by true m n is = absurd cc
optional_by false m n is = sized_short (ltb max_body m) m n refl is

optional_short : (l : Length) (n : ℕ) → ◌≡◌ {A = Result (Option ℕ) Denied} (Ok (Some n)) (optional_length l) → n ≤ max_body
optional_short missing n is = absurd cc
optional_short malformed n is = absurd cc
optional_short (number m) n is = optional_by (m == 0) m n is

short_by : (w d t : Bool) (l : Length) (n : ℕ)
    → (let said : Result (Option ℕ) Denied = Ok (Some n) in said)
    ≡ cond w (cond t (Err (as_denied transfer_encoding)) (needed_length l)) (cond d (cond t (Err (as_denied transfer_encoding)) (optional_length l)) (Ok None)) → n ≤ max_body
short_by true d true l n is = absurd cc
short_by true d false l n is = needed_short l n is
short_by false true true l n is = absurd cc
short_by false true false l n is = optional_short l n is
short_by false false t l n is = absurd cc

pub body_short : (method : Option Method) (request : Request) (o : Option ℕ) → ◌≡◌ {A = Result (Option ℕ) Denied} (Ok o) (declared_length_by method request) → IfSome o (λ n. n ≤ max_body)
body_short method request None is = tt
body_short method request (Some n) is = short_by (writes_by_body method) (deletes method) request.transfer_encoded request.length n is
