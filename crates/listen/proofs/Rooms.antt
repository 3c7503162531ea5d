-- A few bytes put in front of a piece in a room.
use Rattle.std.proofs.Common.{◌≡◌, ℕ, ◌+◌, ◌-◌, ◌≤◌, List, ◌++◌, length, take, drop, ap, ◌∙◌, arith, length-take-le}
use borrow.Rule.Slice.PartMut.{mid_of, post_of, put_mid}
use Rattle.std.proofs.lemmas.List.{drop_at, drop-drop}
use Rattle.std.proofs.Math.Seq.{take-append-add}

-- from the first of these bytes on stand they, and then the piece
pub in_front : (u xs : List ℕ) (n : ℕ) → length u ≤ 81 → 81 ≤ length xs → mid_of (81 - length u) (81 + n - (81 - length u)) (put_mid (81 - length u) (81 - (81 - length u)) xs u) ≡ u ++ take n (drop 81 xs)
in_front u xs n few room =
    let a : ℕ = 81 - length u in
    let k : ℕ = 81 - a in
    let rest = post_of a k xs in
    let front : drop a (take a xs ++ (u ++ rest)) ≡ u ++ rest = drop_at (take a xs) (u ++ rest) a (length-take-le a xs (omega arith)) in
    let count : 81 + n - a ≡ length u + n = omega arith in
    let both : a + k ≡ 81 = omega arith in
    let behind : rest ≡ drop 81 xs = drop-drop k a xs ∙ ap (λ i. drop i xs) both in
    ap (take (81 + n - a)) front ∙ ap (λ i. take i (u ++ rest)) count ∙ take-append-add u rest n ∙ ap (λ r. u ++ take n r) behind
