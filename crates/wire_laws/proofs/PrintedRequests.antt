-- The bytes of a request as a head of the grammar and a body.
use Rattle.std.proofs.Common.{arith, ◌≡◌, ℕ, ◌+◌, ◌-◌, ◌≤◌, ◌<◌, inl, Bool, true, false, ltb, List, [], ◌∷◌, ◌++◌, length, take, drop, Option, Some, None, refl, sym, ap, ap₂, subst, ◌∙◌, append_assoc, append-nil, length-append}
use Rattle.std.proofs.Math.Seq.{drop-append_seam, take-append-add, take-append_seam}
use Rattle.std.proofs.lemmas.Bool.{le-ltb, lt-ltb}
use Rattle.std.proofs.lemmas.List.{take_all}
use Rattle.std.proofs.lemmas.List.Elements.{All-cons, All-nil}
use Rattle.std.specs.Prelude.{not, codes, nat_eq, if◌then◌else◌}
use Rattle.std.specs.Fmt.{decimal}
use Rattle.std.specs.List.{All, flat_map, starts_with}
use Rattle.std.specs.declared.result.Result.{Result}
use Rattle.std.specs.declared.result.Result.TheVariants.{Ok, Err}
use Rattle.serde_json.specs.Data.{Data}
use Rattle.api_request.specs.Calls.{Denied}
use Rattle.httparse.specs.Grammar as grammar
use Rattle.httparse.specs.Grammar.{AllPass, is_token_byte, is_value_byte, Field, IsField, print_section, RequestHead, IsRequestHead, print_request, trim_ows}
use Rattle.wire.specs.Heads.{crlf, head_end, max_head}
use Rattle.wire.specs.Lengths.{length_in}
use Rattle.wire.proofs.Lengths.{decimal_read}
use Rattle.wire.proofs.Lines.{ends_at, passes_each, unended}
use Rattle.requests.specs.Bodies.{body_in, body_of, declared_body, sized, max_body, needs_body, some_json, json_in}
use Rattle.requests.specs.Heads.{Length, length_said, number, Request, validated_head, ReadsHead, ReadsHeadAt}
use Rattle.requests.specs.Decision.{Decision, undecided, accepted, and_then, decided_by}
use Rattle.requests.specs.Refusals.{as_denied, refuse, bad_head, body_too_large, head_too_large}
use Rattle.wireclient.specs.Request.{body_bytes, body_fields, request}
use Rattle.wire_laws.specs.Printed.{IsMedia, IsPrinted, IsRequest, IsTooLong, said_of}
use Rattle.wire_laws.proofs.Fields.{decimal_is_value, field, is_field, trimmed}
use Rattle.wire_laws.proofs.Heading.{request_ends}

abbrev body_fields_of : Option (List ℕ × List ℕ) → List Field
body_fields_of None = []
body_fields_of (Some (media, bytes)) = field (codes "Content-Type") media ∷ field (codes "Content-Length") (decimal (length bytes)) ∷ []

abbrev head_of : List ℕ → List ℕ → Option (List ℕ × List ℕ) → RequestHead
head_of method request_target body = record {
  blank = [];
  method = method;
  target = request_target;
  minor = 1;
  line_end = grammar.crlf;
  fields = field (codes "Host") (codes "localhost") ∷ body_fields_of body;
  last = grammar.crlf;
}

-- ---- the same bytes, in lines

abbrev first_line : List ℕ → List ℕ → List ℕ
first_line method request_target = method ++ (32 ∷ (request_target ++ codes " HTTP/1.1"))

abbrev body_lines : Option (List ℕ × List ℕ) → List (List ℕ)
body_lines None = []
body_lines (Some (media, bytes)) = (codes "Content-Type: " ++ media) ∷ (codes "Content-Length: " ++ decimal (length bytes)) ∷ []

abbrev other_lines : Option (List ℕ × List ℕ) → List (List ℕ)
other_lines body = codes "Host: localhost" ∷ body_lines body

-- lines with CR LF after each
abbrev lines_text : List (List ℕ) → List ℕ
lines_text lines = flat_map (λ line. line ++ 13 ∷ 10 ∷ []) lines

-- the head in lines, and what comes after it
abbrev in_lines : List ℕ → List ℕ → Option (List ℕ × List ℕ) → List ℕ → List ℕ
in_lines method request_target body more = first_line method request_target ++ (13 ∷ 10 ∷ (lines_text (other_lines body) ++ (13 ∷ 10 ∷ more)))

section_lines : (body : Option (List ℕ × List ℕ)) → print_section (field (codes "Host") (codes "localhost") ∷ body_fields_of body) grammar.crlf ≡ lines_text (other_lines body) ++ crlf
section_lines None = refl
section_lines (Some (media, bytes)) = refl

head_in_lines : (method request_target : List ℕ) (body : Option (List ℕ × List ℕ)) → print_request (head_of method request_target body) ≡ in_lines method request_target body []
unfolding print_request
head_in_lines method request_target body =
    ap (λ (s : List ℕ). (s ++ crlf) ++ print_section (field (codes "Host") (codes "localhost") ∷ body_fields_of body) grammar.crlf) (append_assoc method (32 ∷ request_target) (codes " HTTP/1.1"))
    ∙ append_assoc (first_line method request_target) crlf (print_section (field (codes "Host") (codes "localhost") ∷ body_fields_of body) grammar.crlf)
    ∙ ap (λ (s : List ℕ). first_line method request_target ++ (13 ∷ 10 ∷ s)) (section_lines body)

more_lines : (method request_target : List ℕ) (body : Option (List ℕ × List ℕ)) (more : List ℕ) → in_lines method request_target body [] ++ more ≡ in_lines method request_target body more
more_lines method request_target body more =
    append_assoc (first_line method request_target) (13 ∷ 10 ∷ (lines_text (other_lines body) ++ crlf)) more
    ∙ ap (λ (s : List ℕ). first_line method request_target ++ (13 ∷ 10 ∷ s)) (append_assoc (lines_text (other_lines body)) crlf more)

field_lines : (body : Option (List ℕ × List ℕ)) (more : List ℕ) → lines_text (other_lines body) ++ (13 ∷ 10 ∷ more) ≡ codes "Host: localhost" ++ (crlf ++ (body_fields body ++ (crlf ++ more)))
field_lines None more = refl
field_lines (Some (media, bytes)) more =
    ap (λ (s : List ℕ). codes "Host: localhost" ++ (crlf ++ (codes "Content-Type: " ++ (s ++ (crlf ++ more)))))
    (append_assoc media crlf (codes "Content-Length: " ++ ((decimal (length bytes) ++ crlf) ++ []))
    ∙ ap (λ (s : List ℕ). media ++ (crlf ++ (codes "Content-Length: " ++ s))) (append-nil (decimal (length bytes) ++ crlf)))

request_in_lines : (method request_target : List ℕ) (body : Option (List ℕ × List ℕ)) → request method request_target body ≡ in_lines method request_target body (body_bytes body)
request_in_lines method request_target body =
    ap (λ (s : List ℕ). method ++ (32 ∷ (request_target ++ (codes " HTTP/1.1" ++ (crlf ++ s))))) (sym (field_lines body (body_bytes body)))
    ∙ ap (λ (s : List ℕ). method ++ (32 ∷ s)) (sym (append_assoc request_target (codes " HTTP/1.1") (13 ∷ 10 ∷ (lines_text (other_lines body) ++ (13 ∷ 10 ∷ body_bytes body)))))
    ∙ sym (append_assoc method (32 ∷ (request_target ++ codes " HTTP/1.1")) (13 ∷ 10 ∷ (lines_text (other_lines body) ++ (13 ∷ 10 ∷ body_bytes body))))

whole : (method request_target : List ℕ) (body : Option (List ℕ × List ℕ)) → request method request_target body ≡ print_request (head_of method request_target body) ++ body_bytes body
whole method request_target body = request_in_lines method request_target body ∙ sym (ap (λ (s : List ℕ). s ++ body_bytes body) (head_in_lines method request_target body) ∙ more_lines method request_target body (body_bytes body))

-- ---- a head of the grammar

is_host : IsField (field (codes "Host") (codes "localhost"))
unfolding is_token_byte
is_host = is_field (codes "Host") (codes "localhost") (omega arith) refl (passes_each is_value_byte (codes "localhost") refl)

is_content_type : (media : List ℕ) → AllPass is_value_byte media → IsField (field (codes "Content-Type") media)
unfolding is_token_byte
is_content_type media pass = is_field (codes "Content-Type") media (omega arith) refl pass

is_content_length : (text : List ℕ) → AllPass is_value_byte text → IsField (field (codes "Content-Length") text)
unfolding is_token_byte
is_content_length text pass = is_field (codes "Content-Length") text (omega arith) refl pass

body_are_fields : (body : Option (List ℕ × List ℕ)) → IsMedia body → All IsField (body_fields_of body)
body_are_fields None is = All-nil IsField
body_are_fields (Some (media, bytes)) is =
    All-cons IsField (field (codes "Content-Type") media) (field (codes "Content-Length") (decimal (length bytes)) ∷ []) (is_content_type media is.0)
    (All-cons IsField (field (codes "Content-Length") (decimal (length bytes))) [] (is_content_length (decimal (length bytes)) (decimal_is_value (length bytes) is.2)) (All-nil IsField))

some_target : (request_target : List ℕ) → starts_with nat_eq request_target (codes "/") ≡ true → 0 < length request_target
some_target [] is = absurd cc
some_target (b ∷ request_target) is = omega arith

is_head : (method request_target : List ℕ) (body : Option (List ℕ × List ℕ)) → IsRequest method request_target body → IsRequestHead (head_of method request_target body)
is_head method request_target body is = record {
  method = is.token;
  target = (some_target request_target is.path, is.visible);
  target_text = is.text;
  minor = omega arith;
  fields = All-cons IsField (field (codes "Host") (codes "localhost")) (body_fields_of body) is_host (body_are_fields body is.media);
}

-- ---- what it says

passed : (t : Bool) (prefix : Decision (Request × List ℕ)) → t ≡ true → (if not t then refuse bad_head else prefix) ≡ prefix
passed true prefix is = refl
passed false prefix is = absurd cc

validated_so : (method request_target : List ℕ) (body : Option (List ℕ × List ℕ)) (rest : List ℕ) → starts_with nat_eq request_target (codes "/") ≡ true → IsMedia body
    → validated_head (head_of method request_target body) rest ≡ accepted (said_of method request_target body, rest)
validated_so method request_target None rest path media = passed (starts_with nat_eq request_target (codes "/")) (accepted (said_of method request_target None, rest)) path
validated_so method request_target (Some (media, bytes)) rest path is =
    let said : length_said (length_in (trim_ows (32 ∷ decimal (length bytes)))) ≡ number (length bytes) =
    ap (λ (value : List ℕ). length_said (length_in value)) (trimmed (length bytes) is.2) ∙ ap length_said (decimal_read (length bytes) is.2) in
    passed (starts_with nat_eq request_target (codes "/")) _ path
    ∙ ap₂ (λ (m : List ℕ) (l : Length). accepted (record { method = method; request_target = request_target; media = Some m; agent = None; transfer_encoded = false; length = l }, rest)) is.1 said

ends_so : (method request_target : List ℕ) (body : Option (List ℕ × List ℕ)) → IsPrinted method request_target body
    → head_end (take max_head (request method request_target body)) ≡ Some (length (print_request (head_of method request_target body)))
ends_so method request_target body is =
    let long : length (request method request_target body) ≡ length (print_request (head_of method request_target body)) + length (body_bytes body) = ap (λ (xs : List ℕ). length xs) (whole method request_target body) ∙ length-append (print_request (head_of method request_target body)) (body_bytes body) in
    let fits = is.fits in
    let room : length (print_request (head_of method request_target body)) + (max_head - length (print_request (head_of method request_target body))) ≡ max_head = omega (arith, long, fits) in
    let prefix : take max_head (request method request_target body) ≡ print_request (head_of method request_target body) ++ take (max_head - length (print_request (head_of method request_target body))) (body_bytes body) =
    ap (λ (n : ℕ). take n (request method request_target body)) (sym room) ∙ ap (take _) (whole method request_target body) ∙ take-append-add (print_request (head_of method request_target body)) (body_bytes body) (max_head - length (print_request (head_of method request_target body))) in
    ap head_end prefix
    ∙ ends_at (print_request (head_of method request_target body)) (take (max_head - length (print_request (head_of method request_target body))) (body_bytes body))
    (request_ends (head_of method request_target body) (is_head method request_target body is.parts))

pub request_says : (method request_target : List ℕ) (body : Option (List ℕ × List ℕ)) → IsPrinted method request_target body → ReadsHead (request method request_target body) (accepted (said_of method request_target body, body_bytes body))
request_says method request_target body is =
    let same = whole method request_target body in
    let prefix : take (length (print_request (head_of method request_target body))) (request method request_target body) ≡ print_request (head_of method request_target body) ++ [] =
    ap (take _) same ∙ take-append_seam (print_request (head_of method request_target body)) (body_bytes body) ∙ sym (append-nil _) in
    let rest : drop (length (print_request (head_of method request_target body))) (request method request_target body) ≡ body_bytes body =
    ap (drop _) same ∙ drop-append_seam (print_request (head_of method request_target body)) (body_bytes body) in
    let said : accepted (said_of method request_target body, body_bytes body) ≡ validated_head (head_of method request_target body) (drop (length (print_request (head_of method request_target body))) (request method request_target body)) =
    sym (ap (validated_head (head_of method request_target body)) rest ∙ validated_so method request_target body (body_bytes body) is.parts.path is.parts.media) in
    subst (λ (o : Option ℕ). ReadsHeadAt (request method request_target body) o (accepted (said_of method request_target body, body_bytes body))) (sym (ends_so method request_target body is))
    (inl (head_of method request_target body, (is_head method request_target body is.parts, prefix), said))

-- ---- a head that is too long

pub too_long_says : (method request_target : List ℕ) (body : Option (List ℕ × List ℕ)) → IsTooLong method request_target body → ReadsHead (request method request_target body) (refuse head_too_large)
too_long_says method request_target body is =
    let bytes = request method request_target body in
    let head = print_request (head_of method request_target body) in
    let same : bytes ≡ head ++ body_bytes body = whole method request_target body in
    let count : length bytes ≡ length head + length (body_bytes body) = ap (λ (xs : List ℕ). length xs) same ∙ length-append head (body_bytes body) in
    let long = is.long in
    let none : head_end (take max_head bytes) ≡ None =
    ap (λ (xs : List ℕ). head_end (take max_head xs)) same
    ∙ unended max_head head (body_bytes body) (request_ends (head_of method request_target body) (is_head method request_target body is.parts)) (omega (arith, long, count)) in
    subst (λ (o : Option ℕ). ReadsHeadAt bytes o (refuse head_too_large)) (sym none)
    (sym (ap (λ (t : Bool). if t then refuse head_too_large else undecided) (lt-ltb max_head (length bytes) (omega (arith, long)))))

-- ---- its body

abbrev sized_if : Bool → ℕ → Result (Option ℕ) Denied
sized_if s n = if s then Err (as_denied body_too_large) else Ok (Some n)

sized_small : (n : ℕ) → n ≤ max_body → sized n ≡ Ok (Some n)
sized_small n small = go (ltb max_body n) (le-ltb _ _ small)
  where
    go : (s : Bool) → s ≡ false → sized_if s n ≡ Ok (Some n)
    go true is = absurd cc
    go false is = refl

body_whole : (bytes : List ℕ) → body_of (length bytes) bytes ≡ some_json (json_in bytes)
body_whole bytes = go (ltb (length bytes) (length bytes)) (le-ltb _ _ (omega arith))
  where
    go : (t : Bool) → t ≡ false → (if t then undecided else some_json (json_in (take (length bytes) bytes))) ≡ some_json (json_in bytes)
    go true is = absurd cc
    go false is = ap (λ (xs : List ℕ). some_json (json_in xs)) (take_all (length bytes) bytes (omega arith))

abbrev by_length : List ℕ → Result (Option ℕ) Denied → Decision (Option Data)
by_length bytes r = and_then (decided_by r) (λ (n : Option ℕ). declared_body n bytes)

pub body_back : (method request_target media bytes : List ℕ) → needs_body method ≡ true → length bytes ≤ max_body → body_in (said_of method request_target (Some (media, bytes))) bytes ≡ some_json (json_in bytes)
body_back method request_target media bytes needs small = go (needs_body method) needs _
  where
    go : (t : Bool) → t ≡ true → (other : Result (Option ℕ) Denied) → by_length bytes (if t then sized (length bytes) else other) ≡ some_json (json_in bytes)
    go true is other = ap (λ (r : Result (Option ℕ) Denied). by_length bytes r) (sized_small (length bytes) small) ∙ body_whole bytes
    go false is other = absurd cc
