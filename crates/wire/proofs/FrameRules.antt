-- The rules of a frame.
use Rattle.std.proofs.Common.{◌≡◌, ℕ, ◌+◌, ◌*◌, ◌%◌, ◌^◌, ◌<◌, ◌≤◌, true, ◌&&◌, eqb, leb, List, [], ◌∷◌, ◌++◌, length, get_or, take, drop, refl, ap, ◌∙◌, arith, length-drop}
use Rattle.std.proofs.lemmas.List.{take-append-le, drop-append-le, length-take-le}
use Rattle.std.proofs.lemmas.Bool.{eqb-true, leb-true, and_parts}
use Rattle.numbers.specs.Bytes.{bytes4}
use Rattle.wire.specs.Frames.{frame_sum, lawful_length}
use Rattle.wire.specs.Items.{frame_item}
use Rattle.wire.specs.Tries.{Try, good, unfinished, failed, stand, length_of, payload_of, sum_stands, whole_frame, frame_from_sum, frame_from_length, frame_try}
use Rattle.wire.proofs.Rules.{same_byte, Stays, Fits, Few, judged_stays, judged_has}

module _ (bs more : List ℕ) where
  same_length : 3 < length bs → length_of (bs ++ more) ≡ length_of bs
  same_length h = λ i. same_byte bs more 2 (omega arith) i + same_byte bs more 3 (omega arith) i * 2 ^ 8

  same_payload : length_of bs + 9 < length bs → payload_of (bs ++ more) ≡ payload_of bs
  same_payload h =
      let six : 6 ≤ length bs = omega arith in
      let room : length_of bs ≤ length (drop 6 bs) = simp length-drop (omega arith) in
      (λ i. take (same_length (omega arith) i) (drop-append-le 6 bs more six i)) ∙ take-append-le (length_of bs) (drop 6 bs) more room

  same_stand : (n : ℕ) (part : List ℕ) → n + length part ≤ length bs → stand (bs ++ more) n part ≡ stand bs n part
  same_stand n [] h = refl
  same_stand n (b ∷ part) h = λ i. eqb (same_byte bs more n (omega arith) i) b && same_stand (n + 1) part (omega arith) i

  same_sum : length_of bs + 9 < length bs → sum_stands (bs ++ more) ≡ sum_stands bs
  same_sum h =
      (λ i. stand (bs ++ more) (same_length (omega arith) i + 6) (bytes4 (frame_sum (same_byte bs more 4 (omega arith) i) (same_byte bs more 5 (omega arith) i) (same_payload h i))))
      ∙ same_stand (length_of bs + 6) (bytes4 (frame_sum (get_or bs 4 0) (get_or bs 5 0) (payload_of bs))) (omega arith)

  pub frame_stays : Stays (frame_try bs) (frame_try (bs ++ more))
  frame_stays =
      judged_stays bs more 1 1 _ _ _ _ (λ one. (
        refl,
        ap (λ b. eqb b 0xce) (same_byte bs more 1 one),
        judged_stays bs more 3 3 _ _ _ _ (λ three. (
          refl,
          ap lawful_length (same_length three),
          judged_stays bs more _ _ _ _ _ _ (λ all. (
            ap (λ n. n + 9) (same_length three),
            same_sum all,
            λ i. good (frame_item (same_byte bs more 4 (omega arith) i) (same_byte bs more 5 (omega arith) i) (same_payload all i)),
          )),
        )),
      ))

-- what holds of the try where its rules are kept holds of it
module _ (P : Try → Type 0) (failing : P failed) (bs : List ℕ) where
  pub frame_has : (length bs ≤ 81 → P unfinished) → (get_or bs 1 0 ≡ 0xce → lawful_length (length_of bs) ≡ true → length_of bs + 9 < length bs → sum_stands bs ≡ true → P (whole_frame bs)) → P (frame_try bs)
  frame_has short whole =
      judged_has P failing bs 1 (eqb (get_or bs 1 0) 0xce) (frame_from_length bs) (λ h. short (omega arith)) (λ one ce.
      judged_has P failing bs 3 (lawful_length (length_of bs)) (frame_from_sum bs) (λ h. short (omega arith)) (λ three ok.
      let most = leb-true (length_of bs) 64 (and_parts (eqb (length_of bs % 4) 0) (leb (length_of bs) 64) ok).1 in
      judged_has P failing bs (length_of bs + 9) (sum_stands bs) (whole_frame bs) (λ h. short (omega arith)) (λ all sum.
      whole (eqb-true (get_or bs 1 0) 0xce ce) ok all sum)))

long : (bs : List ℕ) → length_of bs + 9 < length bs → length (payload_of bs) ≡ length_of bs
long bs all = length-take-le (length_of bs) (drop 6 bs) (simp length-drop (omega arith))

pub frame_fits : (bs : List ℕ) → Fits (frame_try bs) (length bs)
frame_fits bs = frame_has (λ t. Fits t (length bs)) tt bs (λ _. tt) (λ _ _ all _. omega (arith, long bs all))

pub frame_few : (bs : List ℕ) → Few (frame_try bs) (length bs)
frame_few bs = frame_has (λ t. Few t (length bs)) tt bs (λ h. h) (λ _ _ _ _. tt)
