-- The parts of a list of bytes, and what a string written over it leaves.
use Rattle.std.proofs.Common.{◌≡◌, ℕ, ◌+◌, ◌<◌, ◌≤◌, ◌⊎◌, List, length, get_or, take, drop, sym, ◌∙◌, arith, rules}
use Rattle.std.proofs.lemmas.List.{places, get_or-take, get_or-drop, ext_get_or, length-take, length-drop, length-take-le, drop_at}
use Rattle.memory.specs.Bytes.{over, over_from, part}

module _ (xs : List ℕ) (a k : ℕ) (l : k < 64) where
  pub get_or-part : get_or (part xs a) k 0 ≡ get_or xs (a + k) 0
  get_or-part = rw (get_or-take, get_or-drop)

-- parts with the same elements
pub same_part : (xs ys : List ℕ) (a : ℕ) → length ys ≡ length xs → ((k : ℕ) → a ≤ k → k < a + 64 → get_or ys k 0 ≡ get_or xs k 0) → part ys a ≡ part xs a
same_part xs ys a e h = ext_get_or 0 (part ys a) (part xs a) (simp (length-take, length-drop, e)) (λ k l.
    let m : k < 64 = omega (arith, simp (length-take, length-drop) at l) in
    get_or-part ys a k m ∙ h (a + k) (omega arith) (omega arith) ∙ sym (get_or-part xs a k m))

module _ (a : ℕ) (b xs : List ℕ) (fits : a + length b ≤ length xs) where
  pub length-over_from : length (over_from a b xs) ≡ length xs
  length-over_from = search (rules, places)

  pub get_or-over_from : (i : ℕ) → (i < a) ⊎ (a + length b ≤ i) → get_or (over_from a b xs) i 0 ≡ get_or xs i 0
  get_or-over_from i out = grind (arith, places)

  pub drop-over_from : drop a (over_from a b xs) ≡ over b (drop a xs)
  drop-over_from = drop_at (take a xs) (over b (drop a xs)) a (length-take-le a xs (omega arith))
