-- Fields that are each empty or one digit, read one by one.
use Rattle.std.proofs.Common.{◌≡◌, ℕ, ◌-◌, ◌≤◌, List, [], ◌∷◌, ◌++◌, length, get_or, take, drop, Some, None, Option, sym, refl, ap, ◌∙◌, ap₂, append_assoc, arith}
use Rattle.std.specs.Option.{option_map}
use Rattle.std.proofs.lemmas.List.{length-append, take_rest}
use Rattle.std.proofs.lemmas.Bool.{ne_eqb}
use Rattle.commands.specs.Fields.{is_decimal, digit_value, digit_of, digit_fields}
use Rattle.commands.specs.Commands.{wrong, rates_request}
use Rattle.commands.proofs.Digits.{failed}

-- an empty field stands behind a comma where no digit does
pub no_digit : (xs : List ℕ) → 1 ≤ length xs → None ≡ digit_of (get_or xs 0 0) → digit_fields (44 ∷ xs) ≡ option_map (λ more. None ∷ more) (digit_fields xs)
no_digit [] l e = absurd (omega arith)
no_digit (d ∷ xs) l e = let t = failed (is_decimal d) (digit_value d) e in rw t

pub behind_comma : (xs : List ℕ) → 1 ≤ length xs → get_or xs 0 0 ≡ 44 → xs ≡ 44 ∷ take (length xs - 1) (drop 1 xs)
behind_comma [] l e = absurd (omega arith)
behind_comma (x ∷ xs) l e = ap₂ (λ y ys. y ∷ ys) e (sym (take_rest (x ∷ xs) 1))

-- a fifteenth field is one too many
fifteen : (front : List (Option ℕ)) → length front ≡ 14 → (o : Option ℕ) (r : Option (List (Option ℕ))) → wrong ≡ rates_request (option_map (λ more. front ++ more) (option_map (λ more. o ∷ more) r))
fifteen front n o None = refl
fifteen front n o (Some more) =
    let l = length-append front (o ∷ more) in
    let a = ne_eqb (length (front ++ (o ∷ more))) 13 (omega arith) in
    let b = ne_eqb (length (front ++ (o ∷ more))) 14 (omega arith) in
    rw (a, b)

onto : (front after : List (Option ℕ)) (o : Option ℕ) → after ≡ front ++ o ∷ [] → (r : Option (List (Option ℕ))) → option_map (λ more. front ++ more) (option_map (λ more. o ∷ more) r) ≡ option_map (λ more. after ++ more) r
onto front after o e None = refl
onto front after o e (Some more) = ap Some (sym (ap (λ a. a ++ more) e ∙ append_assoc front (o ∷ []) more))

-- the fields in front of a comma, and what the field behind it adds
module _ (all here behind : List ℕ) (front : List (Option ℕ)) (o : Option ℕ) (so_far : digit_fields all ≡ option_map (λ more. front ++ more) (digit_fields here))
    (one : digit_fields here ≡ option_map (λ more. o ∷ more) (digit_fields behind)) where
  read : digit_fields all ≡ option_map (λ more. front ++ more) (option_map (λ more. o ∷ more) (digit_fields behind))
  read = so_far ∙ ap (option_map (λ more. front ++ more)) one

  pub next_field : (after : List (Option ℕ)) → after ≡ front ++ o ∷ [] → digit_fields all ≡ option_map (λ more. after ++ more) (digit_fields behind)
  next_field after e = read ∙ onto front after o e (digit_fields behind)

  pub too_many : length front ≡ 14 → wrong ≡ rates_request (digit_fields all)
  too_many full = fifteen front full o (digit_fields behind) ∙ sym (ap rates_request read)
