-- What is appended in turn.
use Rattle.std.proofs.Common.{◌≡◌, ℕ, List, [], ◌∷◌, ◌++◌, refl, ap, ◌∙◌, append_assoc}
use Rattle.json.specs.Json.{Json, Items, item, Members, member}
use Rattle.json.specs.Token.{Token, key}
use Rattle.json.specs.Tree.{items_tokens, json_tokens, members_tokens}
use Rattle.json.specs.Written.{Written}
use Rattle.discovery.specs.Writing.{Adds, AddsItems, AddsMembers, AddsValue}

pub same_added : (a b : List Token) (o n : Written) → a ≡ b → Adds a o n → Adds b o n
same_added a b o n same one = (one.0, one.1 ∙ ap (λ ts. o.tokens ++ ts) same)

pub then_added : (a b : List Token) (o m n : Written) → Adds a o m → Adds b m n → Adds (a ++ b) o n
then_added a b o m n one two = (two.0 ∙ one.0, two.1 ∙ ap (λ ts. ts ++ b) one.1 ∙ append_assoc o.tokens a b)

-- a value is an item
pub item_added : (j : Json) (o n : Written) → AddsValue j o n → AddsItems (item j) o n
item_added j o n one = (one.0, λ rest. ap (λ ts. ts ++ items_tokens rest) one.1 ∙ append_assoc o.tokens (json_tokens j) (items_tokens rest))

-- tokens are members, where they are the first of their tokens
pub members_added : (prefix : Members → Members) (a : List Token) (o n : Written) → ((rest : Members) → a ++ members_tokens rest ≡ members_tokens (prefix rest)) → Adds a o n → AddsMembers prefix o n
members_added prefix a o n same one =
    (one.0, λ rest. ap (λ ts. ts ++ members_tokens rest) one.1 ∙ append_assoc o.tokens a (members_tokens rest) ∙ ap (λ ts. o.tokens ++ ts) (same rest))

-- a name and a value are a member
pub member_added : (k : List ℕ) (j : Json) (o m n : Written) → Adds (key k ∷ []) o m → AddsValue j m n → AddsMembers (member k j) o n
member_added k j o m n name value = members_added (member k j) (key k ∷ json_tokens j) o n (λ rest. refl) (then_added (key k ∷ []) (json_tokens j) o m n name value)

-- members, and what ends with the members that are left
pub then_members : (prefix : Members → Members) (rest : Members) (o m n : Written) → AddsMembers prefix o m → Adds (members_tokens rest) m n → Adds (members_tokens (prefix rest)) o n
then_members prefix rest o m n one two = (two.0 ∙ one.0, two.1 ∙ one.1 rest)

-- members, and others after them
pub members_then : (f g : Members → Members) (o m n : Written) → AddsMembers f o m → AddsMembers g m n → AddsMembers (λ rest. f (g rest)) o n
members_then f g o m n one two = (two.0 ∙ one.0, λ rest. two.1 rest ∙ one.1 (g rest))

-- items, and others after them
pub items_then : (f g : Items → Items) (o m n : Written) → AddsItems f o m → AddsItems g m n → AddsItems (λ rest. f (g rest)) o n
items_then f g o m n one two = (two.0 ∙ one.0, λ rest. two.1 rest ∙ one.1 (g rest))

-- items, and the end of the array
pub then_items : (prefix : Items → Items) (rest : Items) (o m n : Written) → AddsItems prefix o m → Adds (items_tokens rest) m n → Adds (items_tokens (prefix rest)) o n
then_items prefix rest o m n one two = (two.0 ∙ one.0, two.1 ∙ one.1 rest)
