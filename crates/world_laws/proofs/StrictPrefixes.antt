-- The text of an object has none in a strict prefix: there its brackets are still open.
use Rattle.std.proofs.Common.{◌≡◌, ℕ, zero, suc, Bool, true, false, cond, ◌&&◌, List, [], ◌∷◌, ◌++◌, drop, length, map, take, Option, Some, None, refl, sym, ap, ◌∙◌, arith, ◌+◌, ◌<◌, true≢false, append_assoc, append-nil, codes, length-append, take-append-drop}
use Rattle.std.proofs.lemmas.List.{drop-append-le, map-append}
use Rattle.std.specs.Prelude.{◌||◌, ◌-◌, ◌==◌, nat_eq, if◌then◌else◌, option_and_then, option_map}
use Rattle.std.specs.List.{list_any, starts_with}
use Rattle.std.specs.Str.{is_utf8}
use Rattle.std.specs.declared.result.Result.TheVariants.{Ok}
use Rattle.decoder.specs.Members.{◌>>=◌, or_malformed}
use Rattle.decoder.specs.Pages.{Page, page_in, page_of}
use Rattle.decoder.specs.Wanted.{Wanted}
use Rattle.decoder.specs.declared.malformed.Malformed.TheVariants as malformed
use Rattle.history.specs.Seen.{SeenPage}
use Rattle.lists.specs.Body.{Collection, continued_at, list_kind, list_text, metadata_of, with_commas}
use Rattle.json.proofs.Unique.Spelling.{value-json_tokens_back}
use Rattle.json.specs.Ascii as ascii
use Rattle.json.specs.Json as json
use Rattle.json.specs.Lex.{Class, Lexeme, Mode, Place, backslash, between, begins_colon, class, colon, comma, fresh, after_comma, after_key, after_value, if_allowed, in_escape, in_string, in_word, lex, lex_byte, may_begin, may_close, operator, operator_lexeme, other, place_token, punctuate, quote, space, string_token, token, tokens}
use Rattle.json.specs.Token as tokens
use Rattle.json.specs.Token.{Token}
use Rattle.json.specs.Tree.{items_tokens, json_tokens, members_tokens}
use Rattle.json.specs.Word.{after_number, ends_word, head, literal, number_before, word}
use Rattle.serde_json.specs.Data.{Data, Members, array, boolean, null, number, object, string}
use Rattle.serde_json.specs.Written.{compact_text}
use Rattle.serde_json.specs.Read.{max_depth, of_json, read}

-- ---- what opens and closes

pub data Mark : Type 0 where
  opens : Mark
  closes : Mark
  within : Mark

abbrev mark : Token → Mark
mark tokens.begin_object = opens
mark tokens.end_object = closes
mark tokens.begin_array = opens
mark tokens.end_array = closes
mark (tokens.key s) = within
mark (tokens.string s) = within
mark (tokens.number s) = within
mark (tokens.boolean b) = within
mark tokens.null = within
mark tokens.bad = within

abbrev lexeme_marks : List Lexeme → List Mark
lexeme_marks [] = []
lexeme_marks (token t ∷ ls) = mark t ∷ lexeme_marks ls
lexeme_marks (comma ∷ ls) = lexeme_marks ls
lexeme_marks (colon ∷ ls) = lexeme_marks ls

-- ---- a text, byte by byte

abbrev next_mode : Mode → Class → Mode
next_mode between quote = in_string
next_mode between backslash = in_word
next_mode between operator = between
next_mode between space = between
next_mode between other = in_word
next_mode in_word quote = in_word
next_mode in_word backslash = in_word
next_mode in_word operator = between
next_mode in_word space = between
next_mode in_word other = in_word
next_mode in_string quote = between
next_mode in_string backslash = in_escape
next_mode in_string operator = in_string
next_mode in_string space = in_string
next_mode in_string other = in_string
next_mode in_escape c = in_string

abbrev first_marks : Mode → Class → ℕ → List Mark
first_marks between quote x = within ∷ []
first_marks between backslash x = within ∷ []
first_marks between operator x = lexeme_marks (operator_lexeme x ∷ [])
first_marks between space x = []
first_marks between other x = within ∷ []
first_marks in_word quote x = []
first_marks in_word backslash x = []
first_marks in_word operator x = lexeme_marks (operator_lexeme x ∷ [])
first_marks in_word space x = []
first_marks in_word other x = []
first_marks in_string c x = []
first_marks in_escape c x = []

string_mark : (o : Option (List ℕ)) → mark (string_token o) ≡ within
string_mark None = refl
string_mark (Some s) = refl

picked : (b : Bool) (t u : Token) → mark t ≡ within → mark u ≡ within → mark (cond b t u) ≡ within
picked true t u is isnt = is
picked false t u is isnt = isnt

literal_mark : (name : List ℕ) (u : Token) (t : List ℕ) → mark u ≡ within → mark (literal name u t) ≡ within
literal_mark name u t is = picked (starts_with nat_eq t name && ends_word (drop (length name) t)) u tokens.bad is refl

number_mark : (t : List ℕ) (o : Option (List ℕ)) → mark (number_before t o) ≡ within
number_mark t None = refl
number_mark t (Some rest) = go (ends_word rest)
  where
    go : (b : Bool) → mark (cond b (tokens.number (take (length t - length rest) t)) tokens.bad) ≡ within
    go true = refl
    go false = refl

word_mark : (t : List ℕ) → mark (word t) ≡ within
unfolding word
word_mark t =
    picked (head t == ascii.lower_t) (literal ascii.true_text (tokens.boolean true) t) _ (literal_mark ascii.true_text (tokens.boolean true) t refl)
    (picked (head t == ascii.lower_f) (literal ascii.false_text (tokens.boolean false) t) _ (literal_mark ascii.false_text (tokens.boolean false) t refl)
    (picked (head t == ascii.lower_n) (literal ascii.null_text tokens.null t) (number_before t (after_number t)) (literal_mark ascii.null_text tokens.null t refl) (number_mark t (after_number t))))

operator_marks : (l : Lexeme) (ls : List Lexeme) → lexeme_marks (l ∷ ls) ≡ lexeme_marks (l ∷ []) ++ lexeme_marks ls
operator_marks (token t) ls = refl
operator_marks comma ls = refl
operator_marks colon ls = refl

by_class : (m : Mode) (c : Class) (x : ℕ) (xs : List ℕ) (k : Mode → List Lexeme) → lexeme_marks (lex_byte m c x xs k) ≡ first_marks m c x ++ lexeme_marks (k (next_mode m c))
by_class between quote x xs k = ap (λ (a : Mark). a ∷ lexeme_marks (k in_string)) (string_mark _)
by_class between backslash x xs k = refl
by_class between operator x xs k = operator_marks (operator_lexeme x) (k between)
by_class between space x xs k = refl
by_class between other x xs k = ap (λ (a : Mark). a ∷ lexeme_marks (k in_word)) (word_mark (x ∷ xs))
by_class in_word quote x xs k = refl
by_class in_word backslash x xs k = refl
by_class in_word operator x xs k = operator_marks (operator_lexeme x) (k between)
by_class in_word space x xs k = refl
by_class in_word other x xs k = refl
by_class in_string quote x xs k = refl
by_class in_string backslash x xs k = refl
by_class in_string operator x xs k = refl
by_class in_string space x xs k = refl
by_class in_string other x xs k = refl
by_class in_escape c x xs k = refl

abbrev text_marks : Mode → List ℕ → List Mark
text_marks m xs = lexeme_marks (lex m xs)

abbrev mode_after : Mode → List ℕ → Mode
mode_after m [] = m
mode_after m (x ∷ xs) = mode_after (next_mode m (class x)) xs

none_there : (m : Mode) → text_marks m [] ≡ []
unfolding lex
none_there m = refl

first_there : (m : Mode) (x : ℕ) (xs : List ℕ) → text_marks m (x ∷ xs) ≡ first_marks m (class x) x ++ text_marks (next_mode m (class x)) xs
unfolding lex
first_there m x xs = by_class m (class x) x xs (λ next. lex next xs)

both_there : (m : Mode) (xs ys : List ℕ) → text_marks m (xs ++ ys) ≡ text_marks m xs ++ text_marks (mode_after m xs) ys
both_there m [] ys = ap (λ (l : List Mark). l ++ text_marks m ys) (sym (none_there m))
both_there m (x ∷ xs) ys =
    let n = next_mode m (class x) in
    let first = first_marks m (class x) x in
    first_there m x (xs ++ ys) ∙ ap (λ (l : List Mark). first ++ l) (both_there n xs ys) ∙ sym (append_assoc first (text_marks n xs) (text_marks (mode_after n xs) ys))
    ∙ ap (λ (l : List Mark). l ++ text_marks (mode_after n xs) ys) (sym (first_there m x xs))

-- ---- commas and colons

abbrev is_bad : Token → Bool
is_bad tokens.bad = true
is_bad _ = false

abbrev IsGood : List Token → Type 0
IsGood ts = list_any is_bad ts ≡ false

-- what was allowed is there
abbrev Kept : List Token → List Mark → Type 0
Kept ts ms = IsGood ts → map mark ts ≡ ms

allowed_kept : (b : Bool) (t u : Token) (k : Place → List Token) (next : Place) (ms : List Mark) → is_bad t ≡ false → mark t ≡ mark u → Kept (k next) ms → Kept (if_allowed b t k next) (mark u ∷ ms)
allowed_kept true t u k next ms fine same rest good =
    let others : IsGood (k next) = ap (λ (c : Bool). c || list_any is_bad (k next)) (sym fine) ∙ good in
    ap (λ (a : Mark). a ∷ map mark (k next)) same ∙ ap (λ (l : List Mark). mark u ∷ l) (rest others)
allowed_kept false t u k next ms fine same rest good = absurd (true≢false good)

token_kept : (p : Place) (t : Token) (b : Bool) (k : Place → List Token) (ms : List Mark) → ((next : Place) → Kept (k next) ms) → Kept (place_token p t b k) (mark t ∷ ms)
token_kept p tokens.begin_object b k ms rest = allowed_kept (may_begin p) tokens.begin_object tokens.begin_object k fresh ms refl refl (rest fresh)
token_kept p tokens.end_object b k ms rest = allowed_kept (may_close p) tokens.end_object tokens.end_object k after_value ms refl refl (rest after_value)
token_kept p tokens.begin_array b k ms rest = allowed_kept (may_begin p) tokens.begin_array tokens.begin_array k fresh ms refl refl (rest fresh)
token_kept p tokens.end_array b k ms rest = allowed_kept (may_close p) tokens.end_array tokens.end_array k after_value ms refl refl (rest after_value)
token_kept p (tokens.key s) b k ms rest = λ good. absurd (true≢false good)
token_kept p (tokens.string s) true k ms rest = allowed_kept (may_begin p) (tokens.key s) (tokens.string s) k after_key ms refl refl (rest after_key)
token_kept p (tokens.string s) false k ms rest = allowed_kept (may_begin p) (tokens.string s) (tokens.string s) k after_value ms refl refl (rest after_value)
token_kept p (tokens.number s) b k ms rest = allowed_kept (may_begin p) (tokens.number s) (tokens.number s) k after_value ms refl refl (rest after_value)
token_kept p (tokens.boolean v) b k ms rest = allowed_kept (may_begin p) (tokens.boolean v) (tokens.boolean v) k after_value ms refl refl (rest after_value)
token_kept p tokens.null b k ms rest = allowed_kept (may_begin p) tokens.null tokens.null k after_value ms refl refl (rest after_value)
token_kept p tokens.bad b k ms rest = λ good. absurd (true≢false good)

punctuated : (p : Place) (ls : List Lexeme) → Kept (punctuate p ls) (lexeme_marks ls)
unfolding punctuate
punctuated fresh [] = λ good. refl
punctuated after_value [] = λ good. refl
punctuated after_comma [] = λ good. absurd (true≢false good)
punctuated after_key [] = λ good. absurd (true≢false good)
punctuated fresh (token t ∷ ls) = token_kept fresh t (begins_colon ls) (λ next. punctuate next ls) (lexeme_marks ls) (λ next. punctuated next ls)
punctuated after_value (token t ∷ ls) = token_kept after_value t (begins_colon ls) (λ next. punctuate next ls) (lexeme_marks ls) (λ next. punctuated next ls)
punctuated after_comma (token t ∷ ls) = token_kept after_comma t (begins_colon ls) (λ next. punctuate next ls) (lexeme_marks ls) (λ next. punctuated next ls)
punctuated after_key (token t ∷ ls) = token_kept after_key t (begins_colon ls) (λ next. punctuate next ls) (lexeme_marks ls) (λ next. punctuated next ls)
punctuated fresh (comma ∷ ls) = λ good. absurd (true≢false good)
punctuated after_value (comma ∷ ls) = punctuated after_comma ls
punctuated after_comma (comma ∷ ls) = λ good. absurd (true≢false good)
punctuated after_key (comma ∷ ls) = λ good. absurd (true≢false good)
punctuated fresh (colon ∷ ls) = λ good. absurd (true≢false good)
punctuated after_value (colon ∷ ls) = λ good. absurd (true≢false good)
punctuated after_comma (colon ∷ ls) = λ good. absurd (true≢false good)
punctuated after_key (colon ∷ ls) = punctuated fresh ls

-- ---- a value's tokens

-- what follows the bracket that closes the one before, so many deep
abbrev skip : ℕ → List Mark → Option (List Mark)
skip zero ms = Some ms
skip (suc n) [] = None
skip (suc n) (opens ∷ ms) = skip (suc (suc n)) ms
skip (suc n) (closes ∷ ms) = skip n ms
skip (suc n) (within ∷ ms) = skip (suc n) ms

parted : (n : ℕ) (xs ys : List Token) (ms : List Mark) → skip n (map mark (xs ++ ys) ++ ms) ≡ skip n (map mark xs ++ (map mark ys ++ ms))
parted n xs ys ms = ap (skip n) (ap (λ (l : List Mark). l ++ ms) (map-append mark xs ys) ∙ append_assoc (map mark xs) (map mark ys) ms)

mutual
  over_json : (j : json.Json) (n : ℕ) (ms : List Mark) → skip (suc n) (map mark (json_tokens j) ++ ms) ≡ skip (suc n) ms
  over_json json.null n ms = refl
  over_json (json.boolean b) n ms = refl
  over_json (json.number s) n ms = refl
  over_json (json.string s) n ms = refl
  over_json (json.array js) n ms = over_items js (suc n) ms
  over_json (json.object fields) n ms = over_members fields (suc n) ms

  over_items : (js : json.Items) (n : ℕ) (ms : List Mark) → skip (suc n) (map mark (items_tokens js) ++ ms) ≡ skip n ms
  over_items json.no_items n ms = refl
  over_items (json.item j js) n ms = parted (suc n) (json_tokens j) (items_tokens js) ms ∙ over_json j n (map mark (items_tokens js) ++ ms) ∙ over_items js n ms

  over_members : (fields : json.Members) (n : ℕ) (ms : List Mark) → skip (suc n) (map mark (members_tokens fields) ++ ms) ≡ skip n ms
  over_members json.no_members n ms = refl
  over_members (json.member k j fields) n ms = parted (suc n) (json_tokens j) (members_tokens fields) ms ∙ over_json j n (map mark (members_tokens fields) ++ ms) ∙ over_members fields n ms

good_both : (xs ys : List Token) → IsGood xs → IsGood ys → IsGood (xs ++ ys)
good_both [] ys first second = second
good_both (x ∷ xs) ys first second = go (is_bad x) first (λ good. good_both xs ys good second)
  where
    go : (b : Bool) → b || list_any is_bad xs ≡ false → (IsGood xs → IsGood (xs ++ ys)) → b || list_any is_bad (xs ++ ys) ≡ false
    go true good rest = absurd (true≢false good)
    go false good rest = rest good

mutual
  good_json : (j : json.Json) → IsGood (json_tokens j)
  good_json json.null = refl
  good_json (json.boolean b) = refl
  good_json (json.number s) = refl
  good_json (json.string s) = refl
  good_json (json.array js) = good_items js
  good_json (json.object fields) = good_members fields

  good_items : (js : json.Items) → IsGood (items_tokens js)
  good_items json.no_items = refl
  good_items (json.item j js) = good_both (json_tokens j) (items_tokens js) (good_json j) (good_items js)

  good_members : (fields : json.Members) → IsGood (members_tokens fields)
  good_members json.no_members = refl
  good_members (json.member k j fields) = good_both (json_tokens j) (members_tokens fields) (good_json j) (good_members fields)

-- ---- an object's text

-- it opens, and closes at its end
record IsWhole (m : Mode) (xs : List ℕ) : Type 0 where
  inner : List Mark
  are : text_marks m xs ≡ opens ∷ inner
  whole : skip 1 inner ≡ Some []

-- what was read is an object
read_by : (ts : List Token) (o : Option (json.Json × List Token)) (fields : Members) → json.value max_depth ts ≡ o → option_and_then of_json (option_and_then (λ p. json.if_last p.0 p.1) o) ≡ Some (object fields)
    → (ms : json.Members) × (ts ≡ json_tokens (json.object ms))
read_by ts None fields is says = absurd cc
read_by ts (Some (j, t ∷ rest)) fields is says = absurd cc
read_by ts (Some (j, [])) fields is says = go j (value-json_tokens_back max_depth ts [] j is ∙ append-nil (json_tokens j)) says
  where
    none_number : (o : Option _) → option_map number o ≡ Some (object fields) → ⊥
    none_number None e = cc
    none_number (Some n) e = cc

    none_array : (o : Option _) → option_map array o ≡ Some (object fields) → ⊥
    none_array None e = cc
    none_array (Some n) e = cc

    go : (j : json.Json) → ts ≡ json_tokens j → of_json j ≡ Some (object fields) → (ms : json.Members) × (ts ≡ json_tokens (json.object ms))
    go json.null are says = absurd cc
    go (json.boolean b) are says = absurd cc
    go (json.number s) are says = absurd (none_number _ says)
    go (json.string s) are says = absurd cc
    go (json.array js) are says = absurd (none_array _ says)
    go (json.object ms) are says = (ms, are)

is_whole : (xs : List ℕ) (fields : Members) → read xs ≡ Some (object fields) → IsWhole between xs
is_whole xs fields says =
    let found = read_by (tokens xs) (json.value max_depth (tokens xs)) fields refl says in
    let good : IsGood (tokens xs) = ap (list_any is_bad) found.1 ∙ good_json (json.object found.0) in
    record {
      inner = map mark (members_tokens found.0);
      are = sym (punctuated fresh (lex between xs) good) ∙ ap (map mark) found.1;
      whole = ap (skip 1) (sym (append-nil (map mark (members_tokens found.0)))) ∙ over_members found.0 0 [];
    }

-- ---- a strict prefix

skip_more : (n : ℕ) (ms rest more : List Mark) → skip n ms ≡ Some rest → skip n (ms ++ more) ≡ Some (rest ++ more)
skip_more zero ms rest more is = let same : ms ≡ rest = cc in ap (λ (l : List Mark). Some (l ++ more)) same
skip_more (suc n) [] rest more is = absurd cc
skip_more (suc n) (opens ∷ ms) rest more is = skip_more (suc (suc n)) ms rest more is
skip_more (suc n) (closes ∷ ms) rest more is = skip_more n ms rest more is
skip_more (suc n) (within ∷ ms) rest more is = skip_more (suc n) ms rest more is

abbrev is_closes : Mark → Bool
is_closes closes = true
is_closes _ = false

abbrev ends_closed : List Mark → Bool
ends_closed [] = false
ends_closed (a ∷ []) = is_closes a
ends_closed (a ∷ b ∷ ms) = ends_closed (b ∷ ms)

skip_closed : (n : ℕ) (ms : List Mark) → skip (suc n) ms ≡ Some [] → ends_closed ms ≡ true
skip_closed n [] is = absurd cc
skip_closed n (opens ∷ []) is = absurd cc
skip_closed n (within ∷ []) is = absurd cc
skip_closed n (closes ∷ []) is = refl
skip_closed n (opens ∷ a ∷ ms) is = skip_closed (suc n) (a ∷ ms) is
skip_closed n (within ∷ a ∷ ms) is = skip_closed n (a ∷ ms) is
skip_closed zero (closes ∷ a ∷ ms) is = absurd cc
skip_closed (suc n) (closes ∷ a ∷ ms) is = skip_closed n (a ∷ ms) is

-- bytes without a token leave the text between tokens
no_token : (xs : List ℕ) → text_marks between xs ≡ [] → mode_after between xs ≡ between
no_token [] none = refl
no_token (x ∷ xs) none = go (class x) (no_token xs) (sym (first_there between x xs) ∙ none)
  where
    operators : (l : Lexeme) → lexeme_marks (l ∷ []) ++ text_marks between xs ≡ [] → text_marks between xs ≡ []
    operators (token t) e = absurd cc
    operators comma e = e
    operators colon e = e

    go : (c : Class) → (text_marks between xs ≡ [] → mode_after between xs ≡ between) → first_marks between c x ++ text_marks (next_mode between c) xs ≡ [] → mode_after (next_mode between c) xs ≡ between
    go quote rest e = absurd cc
    go backslash rest e = absurd cc
    go operator rest e = rest (operators (operator_lexeme x) e)
    go space rest e = rest e
    go other rest e = absurd cc

-- so does a bracket that closes, at the end
closed_between : (m : Mode) (xs : List ℕ) → ends_closed (text_marks m xs) ≡ true → mode_after m xs ≡ between
closed_between m [] closed = absurd (true≢false (sym closed ∙ ap ends_closed (none_there m)))
closed_between m (x ∷ xs) closed = go (text_marks n xs) refl (closed_between n xs) (ap ends_closed (sym (first_there m x xs)) ∙ closed)
  where
    n : Mode
    n = next_mode m (class x)

    last_of : (m : Mode) (c : Class) → ends_closed (first_marks m c x ++ []) ≡ true → next_mode m c ≡ between
    last_of between quote e = absurd (true≢false (sym e))
    last_of between backslash e = absurd (true≢false (sym e))
    last_of between operator e = refl
    last_of between space e = refl
    last_of between other e = absurd (true≢false (sym e))
    last_of in_word quote e = absurd (true≢false (sym e))
    last_of in_word backslash e = absurd (true≢false (sym e))
    last_of in_word operator e = refl
    last_of in_word space e = refl
    last_of in_word other e = absurd (true≢false (sym e))
    last_of in_string c e = absurd (true≢false (sym e))
    last_of in_escape c e = absurd (true≢false (sym e))

    behind : (first : List Mark) (a : Mark) (rest : List Mark) → ends_closed (first ++ a ∷ rest) ≡ ends_closed (a ∷ rest)
    behind [] a rest = refl
    behind (b ∷ []) a rest = refl
    behind (b ∷ c ∷ first) a rest = behind (c ∷ first) a rest

    go : (rest : List Mark) → text_marks n xs ≡ rest → (ends_closed (text_marks n xs) ≡ true → mode_after n xs ≡ between) → ends_closed (first_marks m (class x) x ++ text_marks n xs) ≡ true → mode_after n xs ≡ between
    go [] is later closed =
        let is_between : n ≡ between = last_of m (class x) (ap (λ (l : List Mark). ends_closed (first_marks m (class x) x ++ l)) (sym is) ∙ closed) in
        ap (λ (k : Mode). mode_after k xs) is_between ∙ no_token xs (ap (λ (k : Mode). text_marks k xs) (sym is_between) ∙ is)
    go (a ∷ rest) is later closed =
        later (ap ends_closed is ∙ sym (behind (first_marks m (class x) x) a rest) ∙ ap (λ (l : List Mark). ends_closed (first_marks m (class x) x ++ l)) (sym is) ∙ closed)

-- an object's text isn't a strict prefix of another that ends with its bracket
pub strict_prefixes : (xs ws : List ℕ) (fields more : Members) → read xs ≡ Some (object fields) → read (xs ++ (ws ++ 125 ∷ [])) ≡ Some (object more) → ⊥
strict_prefixes xs ws fields more one both =
    let prefix = is_whole xs fields one in
    let all = is_whole (xs ++ (ws ++ 125 ∷ [])) more both in
    let rest : List Mark = text_marks (mode_after between xs) (ws ++ 125 ∷ []) in
    let same : opens ∷ all.inner ≡ opens ∷ (prefix.inner ++ rest) = sym all.are ∙ both_there between xs (ws ++ 125 ∷ []) ∙ ap (λ (l : List Mark). l ++ rest) prefix.are in
    let inner : all.inner ≡ prefix.inner ++ rest = ap (drop 1) same in
    let closed : Some rest ≡ Some [] = sym (skip_more 1 prefix.inner [] rest prefix.whole) ∙ ap (skip 1) (sym inner) ∙ all.whole in
    let none : rest ≡ [] = cc in
    let ended : mode_after between xs ≡ between = closed_between between xs (ap ends_closed prefix.are ∙ opened prefix.inner (skip_closed 0 prefix.inner prefix.whole)) in
    brace (ap (λ (m : Mode). text_marks m (ws ++ 125 ∷ [])) (sym ended) ∙ none)
  where
    opened : (ms : List Mark) → ends_closed ms ≡ true → ends_closed (opens ∷ ms) ≡ true
    opened [] closed = absurd (true≢false (sym closed))
    opened (a ∷ ms) closed = closed

    nothing_first : (xs ys : List Mark) → xs ++ ys ≡ [] → (xs ≡ []) × (ys ≡ [])
    nothing_first [] ys e = (refl, e)
    nothing_first (x ∷ xs) ys e = absurd cc

    brace : text_marks between (ws ++ 125 ∷ []) ≡ [] → ⊥
    brace none =
        let parts = nothing_first (text_marks between ws) (text_marks (mode_after between ws) (125 ∷ [])) (sym (both_there between ws (125 ∷ [])) ∙ none) in
        let last : closes ∷ text_marks between [] ≡ [] = sym (first_there between 125 []) ∙ ap (λ (m : Mode). text_marks m (125 ∷ [])) (sym (no_token ws parts.0)) ∙ parts.1 in
        cc

-- ---- pages

abbrev pub EndsInBrace : List ℕ → Type 0
EndsInBrace text = (prefix : List ℕ) × (text ≡ prefix ++ 125 ∷ [])

pub list_ends : (of : Collection) (revision : ℕ) (page : SeenPage) → EndsInBrace (list_text of revision page)
list_ends of revision page = (
  codes "{\"apiVersion\":" ++ compact_text (string of.api_version) ++ codes ",\"items\":[" ++ with_commas (map (λ e. e.1.body) page.found) ++ codes "],\"kind\":" ++ compact_text (string (list_kind of))
      ++ codes ",\"metadata\":" ++ compact_text (metadata_of revision (option_map (continued_at revision) page.next)),
  refl,
)

-- a page is an object
page_is_object : (wanted : Wanted) (b : Bool) (o : Option Data) (p : Page) → (or_malformed malformed.Json (if b then o else None) >>= page_of wanted) ≡ Ok p → (fields : Members) × (o ≡ Some (object fields))
page_is_object wanted false o p is = absurd cc
page_is_object wanted true None p is = absurd cc
page_is_object wanted true (Some null) p is = absurd cc
page_is_object wanted true (Some (boolean b)) p is = absurd cc
page_is_object wanted true (Some (number n)) p is = absurd cc
page_is_object wanted true (Some (string s)) p is = absurd cc
page_is_object wanted true (Some (array ds)) p is = absurd cc
page_is_object wanted true (Some (object fields)) p is = (fields, refl)

-- the text of a page, UTF-8 or not, has no page in a strict prefix
pub no_page_in_prefix : (wanted : Wanted) (body : List ℕ) (k : ℕ) (d : Data) (p q : Page) → EndsInBrace body → k < length body → read body ≡ Some d → page_of wanted d ≡ Ok p → page_in wanted (take k body) ≡ Ok q → ⊥
no_page_in_prefix wanted body k d p q (prefix, ends) short is_json is_page in_prefix =
    let one = page_is_object wanted (is_utf8 (take k body)) (read (take k body)) q in_prefix in
    let all = page_is_object wanted true (read body) p (ap (λ (o : Option Data). or_malformed malformed.Json o >>= page_of wanted) is_json ∙ is_page) in
    let long : length body ≡ length prefix + 1 = ap length ends ∙ length-append prefix (125 ∷ []) in
    let parts : body ≡ take k body ++ (drop k prefix ++ 125 ∷ []) =
    sym (take-append-drop k body) ∙ ap (λ (l : List ℕ). take k body ++ l) (ap (drop k) ends ∙ drop-append-le k prefix (125 ∷ []) (omega (arith, short, long))) in
    strict_prefixes (take k body) (drop k prefix) one.0 all.0 one.1 (ap read (sym parts) ∙ all.1)
