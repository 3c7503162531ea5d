-- The journal keeps to the limits of a settings memory.
use Rattle.std.specs.Prelude.{◌≡◌, ℕ, zero, suc, ◌≤◌, true, false, ◌&&◌, ◌||◌, List, take, drop, Some, None, ◌==◌, nat_eq, nat_le, slice_index, slice_index_or, refl}
use Rattle.std.proofs.Common.{ap, ◌∙◌, ⊎_elim, arith, length-take}
use Rattle.std.proofs.lemmas.Bool.{leb-true, eqb-true, and_parts, or_cases, cond_both, cond-false, cases_Bool}
use Rattle.memory.specs.Memory.{Fitting, Limits, known}
use Rattle.journal.specs.Slots.{slots, slot, well_formed, names, content, latest, journal_meaning}

-- a well-formed slot keeps no longer string
formed_short : (p : List ℕ) → well_formed p ≡ true → Fitting (content p)
formed_short p f =
    let kind = slice_index_or p 0 0 in
    let size = slice_index_or p 2 0 in
    let shape = (and_parts ((kind == 1 && nat_le size 56) || (kind == 0 && size == 0)) (known (slice_index p 1) && slice_index p 3 == 0) f).0 in
    let few : nat_eq kind 1 ≡ true → size ≤ 56 = λ e. ⊎_elim
    (λ a. leb-true size 56 (and_parts (kind == 1) (nat_le size 56) a).1)
    (λ a. let one = eqb-true kind 1 e in let none = eqb-true kind 0 (and_parts (kind == 0) (size == 0) a).0 in absurd (omega arith))
    (or_cases (kind == 1 && nat_le size 56) (kind == 0 && size == 0) shape) in
    cond_both (kind == 1) (Some (take size (drop 4 p))) None Fitting (λ e. let l : size ≤ 56 = few e in simp length-take (omega arith)) (λ _. tt)

-- nor does the latest of any
latest_short : (image : List ℕ) (s n : ℕ) → Fitting (latest image s n)
latest_short image s zero = tt
latest_short image s (suc n) = cond_both (names (slot image n) s) (content (slot image n)) (latest image s n) Fitting (λ e. formed_short (slot image n) (and_parts _ _ e).0) (λ _. latest_short image s n)

-- a well-formed slot names a known section
names_known : (p : List ℕ) (s : ℕ) → names p s ≡ true → known s ≡ true
names_known p s e =
    let parts = and_parts (well_formed p) (s == slice_index p 1) e in
    let shape = and_parts ((slice_index p 0 == 1 && nat_le (slice_index p 2) 56) || (slice_index p 0 == 0 && slice_index p 2 == 0)) (known (slice_index p 1) && slice_index p 3 == 0) parts.0 in
    ap known (eqb-true s (slice_index p 1) parts.1) ∙ (and_parts (known (slice_index p 1)) (slice_index p 3 == 0) shape.1).0

-- so no slot speaks of an unknown section
latest_unknown : (image : List ℕ) (s n : ℕ) → known s ≡ false → latest image s n ≡ None
latest_unknown image s zero u = refl
latest_unknown image s (suc n) u =
    let nameless : names (slot image n) s ≡ false = ⊎_elim
    (λ (t : names (slot image n) s ≡ true). let k = names_known (slot image n) s t in cc)
    (λ (f : names (slot image n) s ≡ false). f) (cases_Bool (names (slot image n) s)) in
    cond-false (names (slot image n) s) (content (slot image n)) (latest image s n) nameless ∙ latest_unknown image s n u

-- the limits hold of every image
pub journal_limits : (image : List ℕ) → Limits (journal_meaning image)
journal_limits image = record { cheap = omega arith; short = λ s. latest_short image s (slots image); unknown = λ s u. latest_unknown image s (slots image) u }
