-- Names, and keys and values of labels, as lists of bytes (Kubernetes documentation, "Object Names and IDs",
-- "DNS Subdomain Names" and "RFC 1123 Label Names"; "Labels and Selectors", "Syntax and character set").
use Rattle.std.specs.Prelude.{ℕ, ◌-◌, Bool, true, false, ◌&&◌, ◌||◌, ◌==◌, if◌then◌else◌, nat_le, List, [], ◌∷◌, length, Option, Some, None, slice_get}
use Rattle.std.specs.List.{list_any, list_all, slice_split, before_first, after_first}
use Rattle.std.specs.Char.{is_ascii_alphanumeric, is_ascii_digit, is_ascii_lowercase}

abbrev pub passes : (ℕ → Bool) → Option ℕ → Bool
passes test None = false
passes test (Some b) = test b

-- it begins and ends with an ASCII letter or digit
abbrev pub has_alphanumeric_ends : List ℕ → Bool
has_alphanumeric_ends text = passes is_ascii_alphanumeric (slice_get text 0) && passes is_ascii_alphanumeric (slice_get text (length text - 1))

-- a small letter, a digit or '-'
abbrev pub is_dns_byte : ℕ → Bool
is_dns_byte b = is_ascii_lowercase b || is_ascii_digit b || b == 45

-- one or more such bytes with alphanumeric ends
abbrev pub is_dns_part : List ℕ → Bool
is_dns_part text = has_alphanumeric_ends text && list_all is_dns_byte text

-- a part of at most 63 bytes
abbrev pub is_dns_label : List ℕ → Bool
is_dns_label text = nat_le (length text) 63 && is_dns_part text

-- at most 253 bytes, parts with dots between them
abbrev pub is_dns_subdomain : List ℕ → Bool
is_dns_subdomain text = nat_le (length text) 253 && list_all is_dns_part (slice_split (λ b. b == 46) text)

-- a letter, a digit, '-', '.' or '_'
abbrev pub is_name_byte : ℕ → Bool
is_name_byte b = is_ascii_alphanumeric b || b == 45 || b == 46 || b == 95

-- 1 to 63 such bytes with alphanumeric ends
abbrev pub is_name : List ℕ → Bool
is_name text = nat_le (length text) 63 && has_alphanumeric_ends text && list_all is_name_byte text

-- a name, or a DNS subdomain, '/' and a name
abbrev pub is_label_key : List ℕ → Bool
is_label_key text =
    if list_any (λ b. b == 47) text
    then is_dns_subdomain (before_first (λ b. b == 47) text) && is_name (after_first (λ b. b == 47) text)
    else is_name text

-- nothing, or a name
abbrev pub is_label_value : List ℕ → Bool
is_label_value [] = true
is_label_value (b ∷ bs) = is_name (b ∷ bs)
