-- The fields of a sentence's body: an address, and behind it fields that each begin with a comma.
use Rattle.std.specs.Prelude.{ℕ, ◌+◌, ◌-◌, ◌*◌, Bool, cond, not, ◌&&◌, List, [], ◌∷◌, length, take, drop, Some, None, fold, Option, ◌==◌, nat_le}
use Rattle.std.specs.Option.{option_map}
use Rattle.std.specs.List.{prefix_len}

abbrev pub is_comma : ℕ → Bool
is_comma b = b == 0x2c

-- a decimal digit, and its value
abbrev pub is_decimal : ℕ → Bool
is_decimal b = nat_le 0x30 b && nat_le b 0x39

abbrev pub digit_value : ℕ → ℕ
digit_value b = b - 0x30

-- the value of a byte, if it is a digit
abbrev pub digit_of : ℕ → Option ℕ
digit_of b = cond (is_decimal b) (Some (digit_value b)) None

-- the first field: what stands before the first comma
abbrev pub address_of : List ℕ → List ℕ
address_of body = take (prefix_len (λ b. not (is_comma b)) body) body

-- what stands behind the first field: nothing, or a comma and more
abbrev pub behind_address : List ℕ → List ℕ
behind_address body = drop (prefix_len (λ b. not (is_comma b)) body) body

-- the only field behind the address, without its comma; none where there is no comma
abbrev pub only_field : List ℕ → Option (List ℕ)
only_field [] = None
only_field (b ∷ rest) = cond (is_comma b) (Some rest) None

-- the number that decimal digits name
abbrev pub number_of : List ℕ → ℕ
number_of digits = fold (λ n b. n * 10 + digit_value b) 0 digits

-- a field of exactly one digit
abbrev pub one_digit : List ℕ → Option ℕ
one_digit [] = None
one_digit (b ∷ []) = digit_of b
one_digit (b ∷ c ∷ rest) = None

-- a field of one to five digits
abbrev pub up_to_five_digits : List ℕ → Option ℕ
up_to_five_digits field =
    cond (nat_le 1 (length field) && (nat_le (length field) 5 && prefix_len is_decimal field == length field)) (Some (number_of field)) None

-- fields of which each is empty or one digit; none where one of them is neither
abbrev pub digit_fields : List ℕ → Option (List (Option ℕ))
digit_fields [] = Some []
digit_fields (b ∷ []) = cond (is_comma b) (Some (None ∷ [])) None
digit_fields (b ∷ d ∷ rest) =
    cond (is_comma b)
    (cond (is_decimal d) (option_map (λ more. Some (digit_value d) ∷ more) (digit_fields rest)) (option_map (λ more. None ∷ more) (digit_fields (d ∷ rest))))
    None
