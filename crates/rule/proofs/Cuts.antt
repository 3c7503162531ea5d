-- Bytes that are read in two parts.
use Rattle.std.proofs.Common.{◌≡◌, ℕ, zero, suc, ◌+◌, ◌-◌, ◌≤◌, List, [], ◌∷◌, ◌++◌, map, length, sym, refl, ap, ◌∙◌, arith}
use Rattle.wire.specs.declared.reading.Ending.{Ending}
use Rattle.wire.specs.declared.reading.Ending.TheVariants.{More, Pause}
use Rattle.wire.specs.Items.{Item, size}
use Rattle.wire.specs.Tries.{Try, good, unfinished, failed, try_of}
use Rattle.wire.specs.Reading.{ended_by, try_by, Placed, found_at, found_from, unread_at, unread_from, reading}
use Rattle.wire.proofs.Rules.{Stays, Fits}
use Rattle.wire.proofs.Judgement.{stays, fits}
use Rattle.wire.proofs.Cutting.{quiet_moved}
use Rattle.rule.specs.Calls.{items}
use Rattle.rule.specs.Talking.{Noise}
use Rattle.rule.proofs.Written.{items_moved}

-- what is found, without its places
abbrev items_at : Try → (ℕ → List Item) → List Item
items_at (good x) later = x ∷ later (size x - 1)
items_at unfinished later = []
items_at failed later = later 0

abbrev items_from : Ending → ℕ → List ℕ → List Item
items_from e spent [] = []
items_from e (suc spent) (b ∷ bytes) = items_from e spent bytes
items_from e zero (b ∷ bytes) = items_at (try_by e (b ∷ bytes)) (λ spent. items_from e spent bytes)

placeless_at : (t : Try) (at : ℕ) (found : ℕ → List Placed) (later : ℕ → List Item) → ((n : ℕ) → map (λ p. p.item) (found n) ≡ later n) → map (λ p. p.item) (found_at at t found) ≡ items_at t later
placeless_at (good x) at found later same = ap (λ l. x ∷ l) (same (size x - 1))
placeless_at unfinished at found later same = refl
placeless_at failed at found later same = same 0

placeless : (e : Ending) (at spent : ℕ) (bytes : List ℕ) → map (λ p. p.item) (found_from e at spent bytes) ≡ items_from e spent bytes
placeless e at spent [] = refl
placeless e at (suc spent) (b ∷ bytes) = placeless e (at + 1) spent bytes
placeless e at zero (b ∷ bytes) = placeless_at (try_by e (b ∷ bytes)) at (λ n. found_from e (at + 1) n bytes) (λ n. items_from e n bytes) (λ n. placeless e (at + 1) n bytes)

ended_good : (e : Ending) (x : Item) → ended_by e (good x) ≡ good x
ended_good More x = refl
ended_good Pause x = refl

ended_failed : (e : Ending) → ended_by e failed ≡ failed
ended_failed More = refl
ended_failed Pause = refl

module _ (e : Ending) where
  cut_at : (x : ℕ) (a b : List ℕ) (s : Try) → Stays s (try_of (x ∷ a ++ b)) → Fits s (length (x ∷ a)) → ((n : ℕ) → n ≤ length a → items_from e n (a ++ b) ≡ items_from More n a ++ items_from e 0 (unread_from More n a ++ b))
      → items_at (try_by e (x ∷ a ++ b)) (λ n. items_from e n (a ++ b)) ≡ items_at s (λ n. items_from More n a) ++ items_from e 0 (unread_at s (x ∷ a) (λ n. unread_from More n a) ++ b)
  cut_at x a b (good y) q f ih = ap (λ t. items_at t (λ n. items_from e n (a ++ b))) (ap (ended_by e) q ∙ ended_good e y) ∙ ap (λ l. y ∷ l) (ih (size y - 1) (omega arith))
  cut_at x a b unfinished q f ih = refl
  cut_at x a b failed q f ih = ap (λ t. items_at t (λ n. items_from e n (a ++ b))) (ap (ended_by e) q ∙ ended_failed e) ∙ ih 0 (omega arith)

  cut : (k : ℕ) (a b : List ℕ) → k ≤ length a → items_from e k (a ++ b) ≡ items_from More k a ++ items_from e 0 (unread_from More k a ++ b)
  cut k [] b h = let z : k ≡ 0 = omega arith in rw z
  cut (suc k) (x ∷ a) b h = cut k a b (omega arith)
  cut zero (x ∷ a) b h = cut_at x a b (try_of (x ∷ a)) (stays (x ∷ a) b) (fits x a) (λ n f. cut n a b f)

  unread_there : (x : ℕ) (a b : List ℕ) (s : Try) → Stays s (try_of (x ∷ a ++ b)) → Fits s (length (x ∷ a)) → ((n : ℕ) → n ≤ length a → unread_from e n (a ++ b) ≡ unread_from e 0 (unread_from More n a ++ b))
      → unread_at (try_by e (x ∷ a ++ b)) (x ∷ a ++ b) (λ n. unread_from e n (a ++ b)) ≡ unread_from e 0 (unread_at s (x ∷ a) (λ n. unread_from More n a) ++ b)
  unread_there x a b (good y) q f ih = ap (λ t. unread_at t (x ∷ a ++ b) (λ n. unread_from e n (a ++ b))) (ap (ended_by e) q ∙ ended_good e y) ∙ ih (size y - 1) (omega arith)
  unread_there x a b unfinished q f ih = refl
  unread_there x a b failed q f ih = ap (λ t. unread_at t (x ∷ a ++ b) (λ n. unread_from e n (a ++ b))) (ap (ended_by e) q ∙ ended_failed e) ∙ ih 0 (omega arith)

  unread_cut : (k : ℕ) (a b : List ℕ) → k ≤ length a → unread_from e k (a ++ b) ≡ unread_from e 0 (unread_from More k a ++ b)
  unread_cut k [] b h = let z : k ≡ 0 = omega arith in rw z
  unread_cut (suc k) (x ∷ a) b h = unread_cut k a b (omega arith)
  unread_cut zero (x ∷ a) b h = unread_there x a b (try_of (x ∷ a)) (stays (x ∷ a) b) (fits x a) (λ n f. unread_cut n a b f)

-- what is found in bytes of which some came before: what is found in those, and then what is found from their unread rest on
pub items_cut : (e : Ending) (a b : List ℕ) → items e (a ++ b) ≡ items More a ++ items e ((reading More a 0).unread ++ b)
items_cut e a b = placeless e 0 0 (a ++ b) ∙ cut e 0 a b (omega arith) ∙ (λ i. sym (placeless More 0 0 a) i ++ sym (placeless e 0 0 (unread_from More 0 a ++ b)) i)

pub rest_cut : (e : Ending) (a b : List ℕ) → (reading e (a ++ b) 0).unread ≡ (reading e ((reading More a 0).unread ++ b) 0).unread
rest_cut e a b = unread_cut e 0 a b (omega arith)

-- noise in front changes nothing
pub items_quiet : (noise bytes : List ℕ) → Noise noise bytes → items Pause (noise ++ bytes) ≡ items Pause bytes
items_quiet noise bytes q = ap (map (λ p. p.item)) (quiet_moved noise bytes q) ∙ items_moved (length noise) (found_from Pause 0 0 bytes)

-- what is left unread waits: read again, it gives nothing and stays
waits_at : (x : ℕ) (a : List ℕ) (s : Try) → try_of (x ∷ a) ≡ s → ((n : ℕ) → (items_from More 0 (unread_from More n a) ≡ []) × (unread_from More 0 (unread_from More n a) ≡ unread_from More n a))
    → (items_from More 0 (unread_at s (x ∷ a) (λ n. unread_from More n a)) ≡ []) × (unread_from More 0 (unread_at s (x ∷ a) (λ n. unread_from More n a)) ≡ unread_at s (x ∷ a) (λ n. unread_from More n a))
waits_at x a (good y) q ih = ih (size y - 1)
waits_at x a unfinished q ih = (ap (λ t. items_at t (λ n. items_from More n a)) q, ap (λ t. unread_at t (x ∷ a) (λ n. unread_from More n a)) q)
waits_at x a failed q ih = ih 0

waits : (k : ℕ) (a : List ℕ) → (items_from More 0 (unread_from More k a) ≡ []) × (unread_from More 0 (unread_from More k a) ≡ unread_from More k a)
waits k [] = (refl, refl)
waits (suc k) (x ∷ a) = waits k a
waits zero (x ∷ a) = waits_at x a (try_of (x ∷ a)) refl (λ n. waits n a)

pub none_waits : (a : List ℕ) → items More (reading More a 0).unread ≡ []
none_waits a = placeless More 0 0 (unread_from More 0 a) ∙ (waits 0 a).0

pub still_waits : (a : List ℕ) → (reading More (reading More a 0).unread 0).unread ≡ (reading More a 0).unread
still_waits a = (waits 0 a).1
