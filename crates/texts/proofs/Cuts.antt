-- A text that is cut at its room.
use Rattle.std.proofs.Common.{◌≡◌, ℕ, zero, suc, ◌+◌, ◌-◌, ◌/◌, ◌%◌, ◌<◌, ◌≤◌, List, [], ◌∷◌, ◌++◌, min, length, take, sym, refl, ap, ◌∙◌, append_assoc, length-append, arith}
use Rattle.std.proofs.lemmas.List.{take_all, length_push, length-take}
use Rattle.texts.specs.Decimals.{padded}

-- what was cut once is cut alike again
pub cut_cut : (n : ℕ) (xs ys : List ℕ) → take n (take n xs ++ ys) ≡ take n (xs ++ ys)
cut_cut zero xs ys = refl
cut_cut (suc n) [] ys = refl
cut_cut (suc n) (x ∷ xs) ys = ap (λ l. x ∷ l) (cut_cut n xs ys)

-- a text that grew by x and then by y, cut each time
pub grew_cut : (n : ℕ) (start x y : List ℕ) {mid end z : List ℕ} → mid ≡ take n (start ++ x) → end ≡ take n (mid ++ y) → x ++ y ≡ z → end ≡ take n (start ++ z)
grew_cut n start x y e f g = f ∙ ap (λ m. take n (m ++ y)) e ∙ cut_cut n (start ++ x) y ∙ ap (take n) (append_assoc start x y ∙ ap (λ t. start ++ t) g)

pub padded_none : (width n : ℕ) → width ≤ 0 → padded width n ≡ []
unfolding padded
padded_none width n h =
    let e : width ≡ 0 = omega arith in
    ap (λ w. padded w n) e

pub padded_more : (width n : ℕ) → 0 < width → padded (width - 1) (n / 10) ++ ((48 + n % 10) ∷ []) ≡ padded width n
unfolding padded
padded_more width n h =
    let e : width ≡ suc (width - 1) = omega arith in
    ap (λ w. padded w n) (sym e)

-- how long it is then
pub length_cut : (n : ℕ) (start x : List ℕ) {end : List ℕ} → end ≡ take n (start ++ x) → length end ≡ min n (length start + length x)
length_cut n start x e = ap length e ∙ length-take n (start ++ x) ∙ ap (min n) (length-append start x)

-- where there is room, nothing is cut
pub whole_of : (n : ℕ) (xs : List ℕ) {end : List ℕ} → end ≡ take n xs → length xs ≤ n → end ≡ xs
whole_of n xs e h = e ∙ take_all n xs h

pub length_padded : (width n : ℕ) → length (padded width n) ≡ width
unfolding padded
length_padded zero n = refl
length_padded (suc width) n = omega (arith, length_push (padded width (n / 10)) (48 + n % 10), length_padded width (n / 10))
