-- Texts of ASCII characters, and what a route's names take of them.
use Rattle.std.proofs.Common.{◌≡◌, ℕ, zero, suc, ◌<◌, ◌-◌, Bool, true, false, cond, ◌&&◌, List, [], ◌∷◌, take, drop, length, refl, sym, ap, ◌∙◌, arith, true≢false, ltb-true, lt-ltb}
use Rattle.std.proofs.lemmas.Str.{IsUtf8-from_ascii}
use Rattle.std.specs.Prelude.{leb}
use Rattle.std.specs.Char.{is_ascii}
use Rattle.std.specs.List.{list_all}
use Rattle.std.specs.Str.{IsAscii, IsNotAscii}
use Rattle.matchit.specs.Params.{AllText, part_of, walk}

nil_ascii : IsAscii []
nil_ascii i = omega arith

cons_ascii : (b : ℕ) (bs : List ℕ) → b < 128 → IsAscii bs → IsAscii (b ∷ bs)
cons_ascii b bs lt h zero = lt
cons_ascii b bs lt h (suc i) = h i

drop_ascii : (n : ℕ) (bs : List ℕ) → IsAscii bs → IsAscii (drop n bs)
drop_ascii zero bs h = h
drop_ascii (suc n) [] h = h
drop_ascii (suc n) (b ∷ bs) h = drop_ascii n bs (λ i. h (suc i))

take_ascii : (n : ℕ) (bs : List ℕ) → IsAscii bs → IsAscii (take n bs)
take_ascii zero bs h = nil_ascii
take_ascii (suc n) [] h = nil_ascii
take_ascii (suc n) (b ∷ bs) h = cons_ascii b (take n bs) (h 0) (take_ascii n bs (λ i. h (suc i)))

pub ascii_all : (bs : List ℕ) → list_all is_ascii bs ≡ true → IsAscii bs
ascii_all [] e = nil_ascii
ascii_all (b ∷ bs) e = go (ascii_all bs) (is_ascii b) refl e
  where
    go : (list_all is_ascii bs ≡ true → IsAscii bs) → (t : Bool) → is_ascii b ≡ t → (t && list_all is_ascii bs) ≡ true → IsAscii (b ∷ bs)
    go rest true is e = cons_ascii b bs (ltb-true _ _ is) (rest e)
    go rest false is e = absurd (true≢false (sym e))

pub all_ascii : (bs : List ℕ) → IsAscii bs → list_all is_ascii bs ≡ true
all_ascii [] h = refl
all_ascii (b ∷ bs) h = ap (λ t. t && list_all is_ascii bs) (lt-ltb b 128 (h 0)) ∙ all_ascii bs (λ i. h (suc i))

pub not_all_ascii : (bs : List ℕ) → IsNotAscii bs → list_all is_ascii bs ≡ false
not_all_ascii bs h = go (list_all is_ascii bs) refl
  where
    go : (t : Bool) → list_all is_ascii bs ≡ t → t ≡ false
    go true is = let lt = ascii_all bs is h.0 in let le = h.1 in absurd (omega arith)
    go false is = refl

part_ascii : (bs : List ℕ) (start end : ℕ) → IsAscii bs → IsAscii (part_of bs start end)
part_ascii bs start end h = go (leb start end && leb end (length bs))
  where
    go : (t : Bool) → IsAscii (cond t (take (end - start) (drop start bs)) [])
    go true = take_ascii (end - start) (drop start bs) (drop_ascii start bs h)
    go false = nil_ascii

-- of a route and a path of ASCII characters, all names and parts are texts
pub all_text : (pattern text path : List ℕ) (names : List (ℕ × ℕ)) (token at : ℕ) → IsAscii text → IsAscii path → AllText (walk pattern text path names token at)
all_text pattern text path [] token at t p = tt
all_text pattern text path (name ∷ names) token at t p = (
  IsUtf8-from_ascii _ (part_ascii text name.0 name.1 t),
  IsUtf8-from_ascii _ (part_ascii path _ _ p),
  all_text pattern text path names _ _ t p,
)
