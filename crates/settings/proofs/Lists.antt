-- Lists of a known length, element by element, and numbers from their bytes.
use Rattle.std.proofs.Common.{◌≡◌, ℕ, zero, suc, ◌+◌, ◌*◌, ◌/◌, ◌%◌, ◌<◌, List, [], ◌∷◌, length, get_or, drop, sym, ap, ◌∙◌, ap₂, arith, drop-cons}
use native.Mathlib.Nat.{div-div-eq-div-mul, div-add-mod}
use Rattle.std.proofs.lemmas.List.{drop_all}
use Rattle.settings.specs.Bytes.{four_at, five_of}

-- n elements from i on
abbrev listed : List ℕ → ℕ → ℕ → List ℕ
listed xs i zero = []
listed xs i (suc n) = get_or xs i 0 ∷ listed xs (suc i) n

drop_listed : (xs : List ℕ) (i n : ℕ) → i + n ≡ length xs → drop i xs ≡ listed xs i n
drop_listed xs i zero e = drop_all i xs (omega arith)
drop_listed xs i (suc n) e = drop-cons xs i 0 (omega arith) ∙ ap (λ t. get_or xs i 0 ∷ t) (drop_listed xs (suc i) n (omega arith))

pub four_is : (xs : List ℕ) → length xs ≡ 4 → xs ≡ four_at xs 0
four_is xs e = drop_listed xs 0 4 (sym e)

pub five_is : (xs : List ℕ) → length xs ≡ 5 → xs ≡ five_of xs
five_is xs e = drop_listed xs 0 5 (sym e)

pub u2_back : (n : ℕ) → n < 65536 → n % 256 + n / 256 % 256 * 256 ≡ n
u2_back n l = omega arith

pub u4_back : (n : ℕ) → n < 4294967296 → n % 256 + n / 256 % 256 * 256 + n / 65536 % 256 * 65536 + n / 16777216 % 256 * 16777216 ≡ n
u4_back n l =
    let b : n / 65536 ≡ n / 256 / 256 = sym (div-div-eq-div-mul n 256 256) in
    let c : n / 16777216 ≡ n / 256 / 256 / 256 = sym (ap (λ m. m / 256) (div-div-eq-div-mul n 256 256) ∙ div-div-eq-div-mul n 65536 256) in
    let p = div-add-mod n 256 in
    let q = div-add-mod (n / 256) 256 in
    let r = div-add-mod (n / 256 / 256) 256 in
    ap₂ (λ x y. n % 256 + n / 256 % 256 * 256 + x % 256 * 65536 + y % 256 * 16777216) b c ∙ omega arith
