-- A frame that is written into a buffer from a place on.
use Rattle.std.proofs.Common.{◌≡◌, ℕ, ◌+◌, ◌-◌, ◌≤◌, true, leb, List, [], ◌++◌, length, take, drop, Ok, Err, Result, sym, ap, ◌∙◌, append_assoc, arith, length-append, length-drop, length-take-le}
use borrow.Rule.Slice.PartMut.{mid_of, post_of, put_mid}
use Rattle.std.proofs.lemmas.List.{take_at, drop_at, drop_all, drop-drop, take_all, append-nil}
use Rattle.std.proofs.lemmas.Bool.{le-leb, cond-true}
use Rattle.wire.specs.declared.refusal.Refusal.{Refusal}
use Rattle.wire.specs.Frames.{frame, lawful_length}
use Rattle.wire.specs.Items.{frame_item}
use Rattle.wire.specs.Writes.{frame_written}
use Rattle.wire.proofs.Judgement.{sizes}
use Rattle.rule.specs.Calls.{over}

-- what was written at the start of the bytes from a place on
module _ (f xs ys : List ℕ) (a : ℕ) (room : a + length f ≤ length xs) (is : ys ≡ f ++ drop (length f) (mid_of a (length xs - a) xs)) where
  behind_part : ys ++ post_of a (length xs - a) xs ≡ f ++ drop (a + length f) xs
  behind_part =
      let k = length xs - a in
      let long : length (drop a xs) ≤ k = simp length-drop (omega arith) in
      let all : mid_of a k xs ≡ drop a xs = take_all k (drop a xs) long in
      let none : post_of a k xs ≡ [] = drop_all k (drop a xs) long in
      (λ i. (is ∙ ap (λ l. f ++ drop (length f) l) all) i ++ none i) ∙ append-nil (f ++ drop (length f) (drop a xs)) ∙ ap (λ l. f ++ l) (drop-drop (length f) a xs)

  whole : put_mid a (length xs - a) xs ys ≡ (take a xs ++ f) ++ drop (a + length f) xs
  whole = ap (λ l. take a xs ++ l) behind_part ∙ sym (append_assoc (take a xs) f (drop (a + length f) xs))

  long_front : length (take a xs ++ f) ≡ a + length f
  long_front = let t : length (take a xs) ≡ a = length-take-le a xs (omega arith) in length-append (take a xs) f ∙ ap (λ n. n + length f) t

  pub put_front : take (a + length f) (put_mid a (length xs - a) xs ys) ≡ take a xs ++ f
  put_front = ap (take (a + length f)) whole ∙ take_at (take a xs ++ f) (drop (a + length f) xs) (a + length f) long_front

  pub put_behind : drop (a + length f) (put_mid a (length xs - a) xs ys) ≡ drop (a + length f) xs
  put_behind = ap (drop (a + length f)) whole ∙ drop_at (take a xs ++ f) (drop (a + length f) xs) (a + length f) long_front

-- a lawful frame that fits is written
pub frame_fits : (class id : ℕ) (payload out : List ℕ) → lawful_length (length payload) ≡ true → length payload + 10 ≤ length out → frame_written class id payload out ≡ (Ok (length payload + 10), frame class id payload ++ drop (length payload + 10) out)
frame_fits class id payload out lawful room =
    let size = sizes (frame_item class id payload) in
    let enough : length (frame class id payload) ≤ length out = omega (arith, size) in
    cond-true (lawful_length (length payload)) _ _ lawful ∙ cond-true (leb (length (frame class id payload)) (length out)) _ _ (le-leb _ _ enough)
    ∙ (λ i. (Ok (size i), frame class id payload ++ drop (size i) out))

-- a lawful frame that fits stands at the output's start
pub frame_put : (class id : ℕ) (payload out after : List ℕ) (r : Result ℕ Refusal) → lawful_length (length payload) ≡ true → length payload + 10 ≤ length out → (r, after) ≡ frame_written class id payload out
    → (r ≡ Ok (length payload + 10)) × (after ≡ over (frame class id payload) out)
frame_put class id payload out after r lawful room e =
    let both = e ∙ frame_fits class id payload out lawful room in
    (ap (λ p. p.0) both, ap (λ p. p.1) both ∙ ap (λ n. frame class id payload ++ drop n out) (sym (sizes (frame_item class id payload))))

-- the number in an answer
abbrev pub number_in : {E : Type 0} → Result ℕ E → ℕ
number_in (Ok n) = n
number_in (Err e) = 0
