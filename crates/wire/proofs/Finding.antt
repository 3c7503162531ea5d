-- What reading finds, place by place.
use Rattle.std.proofs.Common.{◌≡◌, ℕ, zero, suc, ◌+◌, ◌-◌, ◌<◌, ◌≤◌, ◌⊎◌, List, [], ◌∷◌, length, drop, sym, refl, ap, ◌∙◌, inl, inr, ⊎_elim, arith, length-drop}
use Rattle.std.proofs.lemmas.List.{drop-drop}
use Rattle.std.proofs.lemmas.Bool.{cases_lt}
use Rattle.wire.specs.declared.reading.Ending.{Ending}
use Rattle.wire.specs.declared.reading.Ending.TheVariants.{More, Pause}
use Rattle.wire.specs.Items.{Item, size}
use Rattle.wire.specs.Tries.{Try, good, unfinished, failed, ended, try_of}
use Rattle.wire.specs.Reading.{try_by, found_at, found_from, unread_at, unread_from}
use Rattle.wire.specs.Laws.{NoneBegins, Finds, Waits, NoneWaits, NoneWaitsOutside}
use Rattle.wire.proofs.Steps.{some_size}
use Rattle.wire.proofs.Judgement.{good_begins, begins_good, by_good, by_fits, by_few}

never : {x : Item} (t : Try) → t ≡ good x → t ≡ failed → ⊥
never t p q = let z : ◌≡◌ {A = ℕ} 0 1 = cc in omega arith

not_both : (t : Try) → t ≡ unfinished → t ≡ failed → ⊥
not_both t p q = let z : ◌≡◌ {A = ℕ} 0 1 = cc in omega arith

not_good : {x : Item} (t : Try) → t ≡ unfinished → t ≡ good x → ⊥
not_good t p q = let z : ◌≡◌ {A = ℕ} 0 1 = cc in omega arith

-- the bytes behind the first of those from a place on
next : (w t : List ℕ) (b at : ℕ) → b ∷ t ≡ drop at w → t ≡ drop (at + 1) w
next w t b at is = ap (drop 1) is ∙ drop-drop 1 at w

module _ (e : Ending) (w : List ℕ) where
  module _ (from until at b : ℕ) (t : List ℕ) (is : b ∷ t ≡ drop at w) (ahead : from ≤ at) (none : NoneBegins w from at)
      (again : (k from : ℕ) → k ≤ length t → from ≤ at + 1 + k → NoneBegins w from (at + 1 + k) → until + length (unread_from e k t) ≡ at + 1 + length t → Finds w from until (found_from e (at + 1) k t)) where
    finds_at : (s : Try) → try_by e (b ∷ t) ≡ s → until + length (unread_at s (b ∷ t) (λ n. unread_from e n t)) ≡ at + length (b ∷ t) → Finds w from until (found_at at s (λ n. found_from e (at + 1) n t))
    finds_at (good x) h size_is =
        let some = some_size x in
        let room = by_fits e b t x h in (
          record { ahead = ahead; none = none; here = good_begins w at x (ap try_of (sym is) ∙ by_good e (b ∷ t) x h) },
          again (size x - 1) (at + size x) (omega arith) (omega arith) (λ a y low high begins. absurd (omega arith)) (omega arith),
        )
    finds_at unfinished h size_is = (omega arith, λ a x low high begins. none a x low (omega arith) begins)
    finds_at failed h size_is =
        again 0 from (omega arith) (omega arith)
        (λ a x low high begins.
        ⊎_elim (λ (before : a < at). none a x low before begins)
        (λ (after : at ≤ a). let same : a ≡ at = omega arith in never (try_by e (drop a w)) (begins_good e w a x begins) (ap (λ k. try_by e (drop k w)) same ∙ ap (try_by e) (sym is) ∙ h))
        (cases_lt a at))
        (omega arith)

  pub finds : (t : List ℕ) (at k from until : ℕ) → t ≡ drop at w → k ≤ length t → from ≤ at + k → NoneBegins w from (at + k) → until + length (unread_from e k t) ≡ at + length t → Finds w from until (found_from e at k t)
  finds [] at k from until is small ahead none size_is = (omega arith, λ a x low high begins. none a x low (omega arith) begins)
  finds (b ∷ t) at (suc k) from until is small ahead none size_is =
      finds t (at + 1) k from until (next w t b at is) (omega arith) (omega arith) (λ a x low high begins. none a x low (omega arith) begins) (omega arith)
  finds (b ∷ t) at zero from until is small ahead none size_is =
      finds_at from until at b t is (omega arith) (λ a x low high begins. none a x low (omega arith) begins)
      (λ k low room under clear size_is. finds t (at + 1) k low until (next w t b at is) room under clear size_is)
      (try_by e (b ∷ t)) refl size_is

  -- what is unread is what stands behind a place
  suffix_at : (at b : ℕ) (t : List ℕ) (s : Try) → ((k : ℕ) → (n : ℕ) × (unread_from e k t ≡ drop n t) × (n ≤ length t)) → (n : ℕ) × (unread_at s (b ∷ t) (λ k. unread_from e k t) ≡ drop n (b ∷ t)) × (n ≤ length (b ∷ t))
  suffix_at at b t (good x) ih = let r = ih (size x - 1) in (suc r.0, r.1, omega (arith, r.2))
  suffix_at at b t unfinished ih = (0, refl, omega arith)
  suffix_at at b t failed ih = let r = ih 0 in (suc r.0, r.1, omega (arith, r.2))

  pub suffix : (k : ℕ) (t : List ℕ) → (n : ℕ) × (unread_from e k t ≡ drop n t) × (n ≤ length t)
  suffix k [] = (0, refl, omega arith)
  suffix (suc k) (b ∷ t) = let r = suffix k t in (suc r.0, r.1, omega (arith, r.2))
  suffix zero (b ∷ t) = suffix_at 0 b t (try_by e (b ∷ t)) (λ k. suffix k t)

  few_at : (b : ℕ) (t : List ℕ) (s : Try) → try_by e (b ∷ t) ≡ s → ((k : ℕ) → length (unread_from e k t) ≤ 81) → length (unread_at s (b ∷ t) (λ k. unread_from e k t)) ≤ 81
  few_at b t (good x) h ih = ih (size x - 1)
  few_at b t unfinished h ih = by_few e (b ∷ t) h
  few_at b t failed h ih = ih 0

  pub few_unread : (k : ℕ) (t : List ℕ) → length (unread_from e k t) ≤ 81
  few_unread k [] = omega arith
  few_unread (suc k) (b ∷ t) = few_unread k t
  few_unread zero (b ∷ t) = few_at b t (try_by e (b ∷ t)) refl (λ k. few_unread k t)

-- a pause leaves nothing unread
none_at : (b : ℕ) (t : List ℕ) (s : Try) → ((k : ℕ) → unread_from Pause k t ≡ []) → unread_at (ended s) (b ∷ t) (λ k. unread_from Pause k t) ≡ []
none_at b t (good x) ih = ih (size x - 1)
none_at b t unfinished ih = ih 0
none_at b t failed ih = ih 0

pub none_unread : (k : ℕ) (t : List ℕ) → unread_from Pause k t ≡ []
none_unread k [] = refl
none_unread (suc k) (b ∷ t) = none_unread k t
none_unread zero (b ∷ t) = none_at b t (try_of (b ∷ t)) (λ k. none_unread k t)

module _ (w : List ℕ) where
  module _ (from until at b : ℕ) (t : List ℕ) (is : b ∷ t ≡ drop at w) (none : NoneWaits w from at)
      (again : (k from : ℕ) → k ≤ length t → NoneWaits w from (at + 1 + k) → until + length (unread_from More k t) ≡ at + 1 + length t → NoneWaitsOutside w from until (found_from More (at + 1) k t)) where
    outside_at : (s : Try) → try_of (b ∷ t) ≡ s → until + length (unread_at s (b ∷ t) (λ n. unread_from More n t)) ≡ at + length (b ∷ t) → NoneWaitsOutside w from until (found_at at s (λ n. found_from More (at + 1) n t))
    outside_at (good x) h size_is =
        let some = some_size x in
        let room = by_fits More b t x h in
        (none, again (size x - 1) (at + size x) (omega arith) (λ a low high waits. absurd (omega arith)) (omega arith))
    outside_at unfinished h size_is = λ a low high waits. none a low (omega arith) waits
    outside_at failed h size_is =
        again 0 from (omega arith)
        (λ a low high waits.
        ⊎_elim (λ (before : a < at). none a low before waits)
        (λ (after : at ≤ a). let same : a ≡ at = omega arith in not_both (try_of (drop a w)) waits.judged (ap (λ k. try_of (drop k w)) same ∙ ap try_of (sym is) ∙ h))
        (cases_lt a at))
        (omega arith)

  pub outside : (t : List ℕ) (at k from until : ℕ) → t ≡ drop at w → k ≤ length t → NoneWaits w from (at + k) → until + length (unread_from More k t) ≡ at + length t → NoneWaitsOutside w from until (found_from More at k t)
  outside [] at k from until is small none size_is = λ a low high waits. none a low (omega arith) waits
  outside (b ∷ t) at (suc k) from until is small none size_is =
      outside t (at + 1) k from until (next w t b at is) (omega arith) (λ a low high waits. none a low (omega arith) waits) (omega arith)
  outside (b ∷ t) at zero from until is small none size_is =
      outside_at from until at b t is (λ a low high waits. none a low (omega arith) waits)
      (λ k low room clear size_is. outside t (at + 1) k low until (next w t b at is) room clear size_is)
      (try_of (b ∷ t)) refl size_is

  waits_at : (at b until : ℕ) (t : List ℕ) → b ∷ t ≡ drop at w → (s : Try) → try_of (b ∷ t) ≡ s → ((k : ℕ) → until + length (unread_from More k t) ≡ at + 1 + length t → (length (unread_from More k t) ≡ 0) ⊎ Waits w until) → until + length (unread_at s (b ∷ t) (λ n. unread_from More n t)) ≡ at + length (b ∷ t) → (length (unread_at s (b ∷ t) (λ n. unread_from More n t)) ≡ 0) ⊎ Waits w until
  waits_at at b until t is (good x) h ih size_is = ih (size x - 1) (omega arith)
  waits_at at b until t is unfinished h ih size_is =
      let same : until ≡ at = omega arith in
      let long = ap length is ∙ length-drop at w in
      inr (record { within = omega arith; judged = ap (λ k. try_of (drop k w)) same ∙ ap try_of (sym is) ∙ h })
  waits_at at b until t is failed h ih size_is = ih 0 (omega arith)

  -- nothing is unread, or an unfinished try stands where the rest begins
  pub waiting : (t : List ℕ) (at k until : ℕ) → t ≡ drop at w → until + length (unread_from More k t) ≡ at + length t → (length (unread_from More k t) ≡ 0) ⊎ Waits w until
  waiting [] at k until is size_is = inl refl
  waiting (b ∷ t) at (suc k) until is size_is = waiting t (at + 1) k until (next w t b at is) (omega arith)
  waiting (b ∷ t) at zero until is size_is = waits_at at b until t is (try_of (b ∷ t)) refl (λ k size_is. waiting t (at + 1) k until (next w t b at is) size_is) size_is
