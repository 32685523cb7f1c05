-- A value placed or removed below a token, by what comes of the value at the token.
use Rattle.std.proofs.Common.{◌≡◌, ℕ, suc, List, [], ◌∷◌, length, map, Option, Some, None, option_map, option_and_then, Bool, true, false, true≢false, eqb, eqb-true, ne_eqb, arith, if◌then◌else◌, String, Global, string_bytes, refl, sym, ap, ◌∙◌}
use Rattle.serde_json.specs.Data.{Data}
use Rattle.json_patch.specs.declared.placing.Placing.{Placing}
use Rattle.json_patch.specs.declared.placing.Placing.TheVariants.{Adds}
use Rattle.json_patch.specs.Operations.{add_child, is_added_here, placed, removed}
use Rattle.json_patch.specs.Places.{child, in_child, with_child, without_child}
use Rattle.json_patch.specs.Pointers.{Pointer}

abbrev pub Tokens : Type 0
Tokens = List (String Global)

abbrev pub bytes_of : Tokens → Pointer
bytes_of ts = map string_bytes ts

-- the first token and the rest, as a pointer
pub first_and_rest : (tokens : Tokens) (t : List ℕ) (token : String Global) (rest : Tokens) → tokens ≡ token ∷ rest → t ≡ string_bytes token → t ∷ bytes_of rest ≡ bytes_of tokens
first_and_rest tokens t token rest is named = ap (λ u. u ∷ bytes_of rest) named ∙ ap bytes_of (sym is)

-- no tokens

pub placed_whole : (how : Placing) (d : Data) (tokens : Tokens) (whole : Data) → length tokens ≡ 0 → Some d ≡ placed how d (bytes_of tokens) whole
placed_whole how d [] whole none = refl
placed_whole how d (t ∷ ts) whole none = absurd (omega arith)

pub removed_whole : (tokens : Tokens) (whole : Data) → length tokens ≡ 0 → None ≡ removed (bytes_of tokens) whole
removed_whole [] whole none = refl
removed_whole (t ∷ ts) whole none = absurd (omega arith)

-- ---- placed

module _ (how : Placing) (d : Data) (p : Pointer) (t : List ℕ) (ts : Pointer) (is : t ∷ ts ≡ p) (whole : Data) where
  abbrev by_test : Bool → Option Data
  by_test b = if b then add_child t d whole else in_child t (placed how d ts) whole

  pub added_here : (o : Option Data) → is_added_here how ts ≡ true → o ≡ add_child t d whole → o ≡ placed how d p whole
  added_here o here e = e ∙ sym (ap by_test here) ∙ ap (λ q. placed how d q whole) is

  module _ (deeper : is_added_here how ts ≡ false) where
    below : (o : Option Data) → o ≡ in_child t (placed how d ts) whole → o ≡ placed how d p whole
    below o e = e ∙ sym (ap by_test deeper) ∙ ap (λ q. placed how d q whole) is

    pub nothing_there : None ≡ child t whole → None ≡ placed how d p whole
    nothing_there none = below None (ap (option_and_then (λ e. option_map (λ n. with_child t n whole) (placed how d ts e))) none)

    pub not_below : (e : Data) → Some e ≡ child t whole → None ≡ placed how d ts e → None ≡ placed how d p whole
    not_below e there none =
        below None (ap (option_map (λ n. with_child t n whole)) none ∙ ap (option_and_then (λ f. option_map (λ n. with_child t n whole) (placed how d ts f))) there)

    pub placed_below : (e n new : Data) → Some e ≡ child t whole → Some n ≡ placed how d ts e → new ≡ with_child t n whole → Some new ≡ placed how d p whole
    placed_below e n new there done sets =
        ap Some sets ∙ below (Some (with_child t n whole))
        (ap (option_map (λ m. with_child t m whole)) done ∙ ap (option_and_then (λ f. option_map (λ m. with_child t m whole) (placed how d ts f))) there)

-- the value is added here where no more tokens come
pub added_at_last : (rest : Tokens) → eqb (length rest) 0 ≡ is_added_here Adds (bytes_of rest)
added_at_last [] = refl
added_at_last (r ∷ rest) = ne_eqb (suc (length rest)) 0 (λ e. omega arith)

-- ---- removed

module _ (p : Pointer) (t : List ℕ) (rest : Tokens) (is : t ∷ bytes_of rest ≡ p) (whole : Data) where
  abbrev in_two : Option (Data × Data) → Option (Data × Data)
  in_two o = option_map (λ r. (r.0, with_child t r.1 whole)) o

  abbrev taken_below : Tokens → Option Data → Option (Data × Data)
  taken_below us o = option_and_then (λ e. in_two (removed (bytes_of us) e)) o

  at_last : (us : Tokens) → eqb (length us) 0 ≡ true → option_map (λ d. (d, without_child t whole)) (child t whole) ≡ removed (t ∷ bytes_of us) whole
  at_last [] last = refl
  at_last (u ∷ us) last = let none : suc (length us) ≡ 0 = eqb-true (suc (length us)) 0 last in absurd (omega arith)

  further : (us : Tokens) → eqb (length us) 0 ≡ false → taken_below us (child t whole) ≡ removed (t ∷ bytes_of us) whole
  further [] more = absurd (true≢false more)
  further (u ∷ us) more = refl

  pub removed_here : (o : Option (Data × Data)) → eqb (length rest) 0 ≡ true → o ≡ option_map (λ d. (d, without_child t whole)) (child t whole) → o ≡ removed p whole
  removed_here o last e = e ∙ at_last rest last ∙ ap (λ q. removed q whole) is

  module _ (more : eqb (length rest) 0 ≡ false) where
    all_below : (o : Option (Data × Data)) → o ≡ taken_below rest (child t whole) → o ≡ removed p whole
    all_below o e = e ∙ further rest more ∙ ap (λ q. removed q whole) is

    pub none_there : None ≡ child t whole → None ≡ removed p whole
    none_there none = all_below None (ap (taken_below rest) none)

    pub none_below : (e : Data) → Some e ≡ child t whole → None ≡ removed (bytes_of rest) e → None ≡ removed p whole
    none_below e there none = all_below None (ap in_two none ∙ ap (taken_below rest) there)

    pub removed_below : (e out left new : Data) → Some e ≡ child t whole → Some (out, left) ≡ removed (bytes_of rest) e → new ≡ with_child t left whole → Some (out, new) ≡ removed p whole
    removed_below e out left new there done sets =
        ap (λ n. Some (out, n)) sets ∙ all_below (Some (out, with_child t left whole)) (ap in_two done ∙ ap (taken_below rest) there)
