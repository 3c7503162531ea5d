-- Reading that stands at a place: what one try makes of it.
use Rattle.std.proofs.Common.{◌≡◌, ℕ, zero, suc, ◌+◌, ◌-◌, ◌<◌, ◌≤◌, List, [], ◌∷◌, length, drop, sym, refl, ap, ◌∙◌, add-zero, arith}
use Rattle.std.proofs.lemmas.List.{drop-drop, drop_more, drop_all}
use Rattle.wire.specs.declared.reading.Ending.{Ending}
use Rattle.wire.specs.Items.{Item, frame_item, sentence_item, size}
use Rattle.wire.specs.Tries.{Try, good, unfinished, failed}
use Rattle.wire.specs.Reading.{try_by, found_at, found_from, unread_at, unread_from, reading, onward}

pub some_size : (x : Item) → 1 ≤ size x
some_size (frame_item class id payload) = omega arith
some_size (sentence_item body) = omega arith

module _ (e : Ending) where
  -- bytes that are spent might as well not be there
  pub found_skip : (at k : ℕ) (bs : List ℕ) → found_from e at k bs ≡ found_from e (at + k) 0 (drop k bs)
  found_skip at zero [] = refl
  found_skip at (suc k) [] = refl
  found_skip at (suc k) (b ∷ bs) = let p : at + 1 + k ≡ at + suc k = omega arith in found_skip (at + 1) k bs ∙ ap (λ n. found_from e n 0 (drop k bs)) p
  found_skip at zero (b ∷ bs) = ap (λ n. found_from e n 0 (b ∷ bs)) (sym (add-zero at))

  pub unread_skip : (k : ℕ) (bs : List ℕ) → unread_from e k bs ≡ unread_from e 0 (drop k bs)
  unread_skip zero [] = refl
  unread_skip (suc k) [] = refl
  unread_skip (suc k) (b ∷ bs) = unread_skip k bs
  unread_skip zero (b ∷ bs) = refl

  module _ (bs : List ℕ) (at : ℕ) where
    module _ (inside : at < length bs) where
      on : (n : ℕ) → drop n (drop (at + 1) bs) ≡ drop (at + (n + 1)) bs
      on n = let p : at + 1 + n ≡ at + (n + 1) = omega arith in drop-drop n (at + 1) bs ∙ ap (λ k. drop k bs) p

      found_here : (t : Try) → t ≡ try_by e (drop at bs) → found_from e at 0 (drop at bs) ≡ found_at at t (λ n. found_from e (at + (n + 1)) 0 (drop (at + (n + 1)) bs))
      found_here t is =
          let split = drop_more bs at 0 inside in
          let later : (n : ℕ) → found_from e (at + 1) n (drop (at + 1) bs) ≡ found_from e (at + (n + 1)) 0 (drop (at + (n + 1)) bs) =
          λ n. let p : at + 1 + n ≡ at + (n + 1) = omega arith in found_skip (at + 1) n (drop (at + 1) bs) ∙ (λ i. found_from e (p i) 0 (on n i)) in
          ap (found_from e at 0) split ∙ (λ i. found_at at (try_by e (sym split i)) (λ n. later n i)) ∙ ap (λ u. found_at at u (λ n. found_from e (at + (n + 1)) 0 (drop (at + (n + 1)) bs))) (sym is)

      unread_here : (t : Try) → t ≡ try_by e (drop at bs) → unread_from e 0 (drop at bs) ≡ unread_at t (drop at bs) (λ n. unread_from e 0 (drop (at + (n + 1)) bs))
      unread_here t is =
          let split = drop_more bs at 0 inside in
          let later : (n : ℕ) → unread_from e n (drop (at + 1) bs) ≡ unread_from e 0 (drop (at + (n + 1)) bs) = λ n. unread_skip n (drop (at + 1) bs) ∙ ap (unread_from e 0) (on n) in
          ap (unread_from e 0) split ∙ (λ i. unread_at (try_by e (sym split i)) (sym split i) (λ n. later n i)) ∙ ap (λ u. unread_at u (drop at bs) (λ n. unread_from e 0 (drop (at + (n + 1)) bs))) (sym is)

      -- what one try makes of reading
      pub onward_is : (t : Try) → t ≡ try_by e (drop at bs) → reading e bs at ≡ onward e bs at t
      onward_is (good x) is =
          let some = some_size x in
          let p : at + (size x - 1 + 1) ≡ at + size x = omega arith in
          λ i. record {
            found = (found_here (good x) is ∙ ap (λ k. record { at = at; item = x } ∷ found_from e k 0 (drop k bs)) p) i;
            unread = (unread_here (good x) is ∙ ap (λ k. unread_from e 0 (drop k bs)) p) i;
          }
      onward_is unfinished is = λ i. record { found = found_here unfinished is i; unread = unread_here unfinished is i }
      onward_is failed is = λ i. record { found = found_here failed is i; unread = unread_here failed is i }

    pub none_left : length bs ≤ at → reading e bs at ≡ record { found = []; unread = [] }
    none_left past = let z = drop_all at bs past in λ i. record { found = found_from e at 0 (z i); unread = unread_from e 0 (z i) }
