-- The lines of a watch are lines to a client.
use Rattle.std.proofs.Common.{arith, ◌≡◌, ℕ, ◌+◌, ◌≤◌, ◌<◌, Bool, true, false, List, [], ◌∷◌, ◌++◌, length, refl, sym, ap, ap₂, ◌∙◌, append_assoc, length-append}
use Rattle.std.specs.Prelude.{◌||◌, ◌==◌, codes}
use Rattle.std.specs.List.{list_any}
use Rattle.watchline.specs.declared.event.EventType.{EventType}
use Rattle.watchline.specs.declared.event.EventType.TheVariants as event
use Rattle.watchline.specs.Lines.{line, type_text}
use Rattle.line_laws.specs.Shown.{shown}
use Rattle.wireclient.specs.LineLaws.{HasNoFeed, with_feed}

abbrev has_feed : List ℕ → Bool
has_feed text = list_any (λ b. b == 10) text

feed_in : (xs ys : List ℕ) → has_feed (xs ++ ys) ≡ (has_feed xs || has_feed ys)
feed_in [] ys = refl
feed_in (x ∷ xs) ys = ap (λ (b : Bool). (x == 10) || b) (feed_in xs ys) ∙ regroup (x == 10) (has_feed xs) (has_feed ys)
  where
    regroup : (a b c : Bool) → (a || (b || c)) ≡ ((a || b) || c)
    regroup true b c = refl
    regroup false b c = refl

-- what stands before the object's text
abbrev before : EventType → List ℕ
before what = codes "{\"type\":\"" ++ type_text what ++ codes "\",\"object\":"

before_plain : (what : EventType) → has_feed (before what) ≡ false
before_plain event.Added = refl
before_plain event.Modified = refl
before_plain event.Deleted = refl
before_plain event.Bookmark = refl
before_plain event.Error = refl

before_short : (what : EventType) → length (before what) ≤ 40
before_short event.Added = omega arith
before_short event.Modified = omega arith
before_short event.Deleted = omega arith
before_short event.Bookmark = omega arith
before_short event.Error = omega arith

pub plain : (what : EventType) (text : List ℕ) → HasNoFeed text → HasNoFeed (shown what text)
plain what text none =
    feed_in (before what ++ text) (codes "}")
    ∙ ap (λ (b : Bool). b || false) (feed_in (before what) text ∙ ap₂ (λ (a b : Bool). a || b) (before_plain what) none)

pub room : (what : EventType) (text : List ℕ) → length (shown what text) < length text + 64
room what text =
    let first : length (before what ++ text) ≡ length (before what) + length text = length-append (before what) text in
    let whole : length (shown what text) ≡ length (before what ++ text) + 1 = length-append (before what ++ text) (codes "}") in
    let few = before_short what in
    omega (arith, first, whole, few)

pub with_its_feed : (what : EventType) (text : List ℕ) → line what text ≡ with_feed (shown what text)
with_its_feed what text = sym (append_assoc (before what ++ text) (codes "}") (10 ∷ []))
