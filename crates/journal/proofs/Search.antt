-- The slots up to the last one not free, and the latest slot that names a section.
use Rattle.std.proofs.Common.{◌≡◌, ℕ, zero, suc, ◌+◌, ◌-◌, ◌*◌, ◌<◌, ◌≤◌, Bool, true, false, cond, not, List, [], take, drop, get_or, length, ◌/◌, Some, None, Option, sym, refl, ap, ◌∙◌, subst, ⊎_elim, add-one, mul-zero, mul-suc, arith}
use Rattle.std.proofs.lemmas.List.{drop-drop, drop-take, take-take, length-take-le}
use Rattle.std.specs.Option.{MatchOption, IfSome, IsSomeAnd, option_map, option_map_or}
use Rattle.std.specs.Bool.{IsTrue}
use Rattle.std.specs.declared.slice.Iter.{Iter}
use Rattle.std.specs.Slice.Iter.{iter_rest, iter_steps_back}
use Rattle.std.specs.Iterator.Adapters.{IterYieldsInReverse}
use Rattle.std.specs.Iterator.Runs.{ItemsMapToReversed, SomeRun, AllItemsGive, IsFirstToGive}
use denote.Param.Members.{Mut, Called}
use denote.Ref.{Bor}
use Rattle.std.proofs.lemmas.Bool.{cond-true, cond-false, cond_both, cases_Bool, cases_eq}
use Rattle.std.specs.Simd.{first_chunks}
use Rattle.journal.specs.Latest.{FreeBehind, Latest, Nowhere, Found, Said}
use Rattle.journal.specs.Slots.{slots, slot, free, names, content, latest, used, writes_left}

pub used_more : (xs : List ℕ) (i : ℕ) → used xs (i + 1) ≡ cond (free (slot xs i)) (used xs i) (i + 1)
used_more xs i = rw add-one

pub latest_more : (xs : List ℕ) (s i : ℕ) → latest xs s (i + 1) ≡ cond (names (slot xs i) s) (content (slot xs i)) (latest xs s i)
latest_more xs s i = rw add-one

pub used_within : (xs : List ℕ) (n : ℕ) → used xs n ≤ n
used_within xs zero = omega arith
used_within xs (suc n) = let h = used_within xs n in cond_both (free (slot xs n)) (used xs n) (suc n) (λ x. x ≤ suc n) (λ _. omega arith) (λ _. omega arith)

-- the slots past those in use are free
pub free_after : (xs : List ℕ) (n j : ℕ) → used xs n ≤ j → j < n → free (slot xs j) ≡ true
free_after xs zero j l h = absurd (omega arith)
free_after xs (suc n) j l h = ⊎_elim
    (λ (f : free (slot xs n) ≡ true). ⊎_elim
    (λ (e : j ≡ n). ap (λ i. free (slot xs i)) e ∙ f)
    (λ (ne : j ≡ n → ⊥). free_after xs n j (subst (λ x. x ≤ j) (cond-true (free (slot xs n)) (used xs n) (suc n) f) l) (omega arith)) (cases_eq j n))
    (λ (f : free (slot xs n) ≡ false). absurd (let e : cond (free (slot xs n)) (used xs n) (suc n) ≡ suc n = cond-false (free (slot xs n)) (used xs n) (suc n) f in omega arith))
    (cases_Bool (free (slot xs n)))

-- the last of those in use is not
pub busy_last : (xs : List ℕ) (n i : ℕ) → used xs n ≡ i + 1 → free (slot xs i) ≡ false
busy_last xs zero i e = absurd (omega arith)
busy_last xs (suc n) i e = ⊎_elim
    (λ (f : free (slot xs n) ≡ true). busy_last xs n i (sym (cond-true (free (slot xs n)) (used xs n) (suc n) f) ∙ e))
    (λ (f : free (slot xs n) ≡ false). let u : suc n ≡ i + 1 = sym (cond-false (free (slot xs n)) (used xs n) (suc n) f) ∙ e in let same : i ≡ n = omega arith in ap (λ j. free (slot xs j)) same ∙ f)
    (cases_Bool (free (slot xs n)))

pub free_behind : (xs : List ℕ) → FreeBehind xs (writes_left xs)
free_behind xs =
    let w = used_within xs (slots xs) in
    record {
      within = omega arith;
      behind = λ i l h. free_after xs (slots xs) i (omega arith) h;
      before = λ i e. busy_last xs (slots xs) i (omega arith);
    }

pub latest_is : (xs : List ℕ) (s n i : ℕ) → Latest xs s n i → latest xs s n ≡ content (slot xs i)
latest_is xs s zero i l = let w = l.within in absurd (omega arith)
latest_is xs s (suc n) i l = let w = l.within in ⊎_elim
    (λ (e : i ≡ n). cond-true (names (slot xs n) s) (content (slot xs n)) (latest xs s n) (ap (λ j. names (slot xs j) s) (sym e) ∙ l.here) ∙ ap (λ j. content (slot xs j)) (sym e))
    (λ (ne : i ≡ n → ⊥). cond-false (names (slot xs n) s) (content (slot xs n)) (latest xs s n) (l.later n (omega arith) (omega arith))
    ∙ latest_is xs s n i (record { within = omega arith; here = l.here; later = λ j p q. l.later j p (omega arith) }))
    (cases_eq i n)

pub nowhere_none : (xs : List ℕ) (s n : ℕ) → Nowhere xs s n → latest xs s n ≡ None
nowhere_none xs s zero h = refl
nowhere_none xs s (suc n) h = cond-false (names (slot xs n) s) (content (slot xs n)) (latest xs s n) (h n (omega arith)) ∙ nowhere_none xs s n (λ j l. h j (omega arith))

pub said : (xs : List ℕ) (s : ℕ) → Said xs s (latest xs s (slots xs))
said xs s = record { by = λ i l. latest_is xs s (slots xs) i l; nowhere = λ h. nowhere_none xs s (slots xs) h }

-- the chunks of 64 bytes within the slots are the slots
get_or-first_chunks : (n k : ℕ) (xs d : List ℕ) (i : ℕ) → i < k → get_or (first_chunks n k xs) i d ≡ take n (drop (n * i) xs)
get_or-first_chunks n zero xs d i l = absurd (omega arith)
get_or-first_chunks n (suc k) xs d zero l = rw mul-zero
get_or-first_chunks n (suc k) xs d (suc i) l = get_or-first_chunks n k (drop n xs) d i (omega arith) ∙ ap (take n) (drop-drop (n * i) n xs ∙ ap (λ j. drop j xs) (let e = mul-suc n i in omega arith))

pub get_or-slots : (xs : List ℕ) (m : ℕ) → m ≡ slots xs → (i : ℕ) (d : List ℕ) → i < m → get_or (first_chunks 64 (length (take (64 * m) xs) / 64) (take (64 * m) xs)) i d ≡ slot xs i
get_or-slots xs m e i d l =
    let long : length (take (64 * m) xs) ≡ 64 * m = length-take-le (64 * m) xs (omega arith) in
    let count : length (take (64 * m) xs) / 64 ≡ m = omega arith in
    let k : ℕ = 64 * m - 64 * i in
    let whole : 64 * i + k ≡ 64 * m = omega arith in
    get_or-first_chunks 64 (length (take (64 * m) xs) / 64) (take (64 * m) xs) d i (omega arith)
    ∙ ap (λ n. take 64 (drop (64 * i) (take n xs))) (sym whole) ∙ ap (take 64) (drop-take (64 * i) k xs) ∙ take-take 64 k (drop (64 * i) xs) (omega arith)

-- slot i is the last one that passes the test, or none does
abbrev pub LastPassing : List ℕ → (List ℕ → Bool) → Option ℕ → Type 0
LastPassing xs test o = MatchOption o
    ((j : ℕ) → j < slots xs → test (slot xs j) ≡ false)
    (λ i. (i < slots xs) × (test (slot xs i) ≡ true) × ((j : ℕ) → i < j → j < slots xs → test (slot xs j) ≡ false))

-- what `rposition` answers over the slots
module _ (xs : List ℕ) (test : List ℕ → Bool) {F : Type 0} (g : Mut F (Bor (List ℕ) × Unit {0}) Bool) (f : F)
    (says : (x : Bor (List ℕ) × Unit {0}) (b : Bool) (q : F) → Called g f x b q → (q ≡ f) × (b ≡ test x.0.now)) where
  said_at : (o : Option (Bor (List ℕ))) (b : Bool) (y : List ℕ) → option_map (λ x. x.now) o ≡ Some y → IfSome o (λ x. Called g f (x, tt) b f) → test y ≡ b
  said_at None b y e h = let z : ◌≡◌ {A = ℕ} 0 1 = cc in absurd (omega arith)
  said_at (Some x) b y e h = let here : x.now ≡ y = cc in ap test (sym here) ∙ sym (says (x, tt) b f h).1

  was_some : (o : Option (Bor (List ℕ))) (P : Bor (List ℕ) → Type 0) → IsSomeAnd o P → IfSome o P
  was_some None P h = tt
  was_some (Some x) P h = h

  pub last_passing : (r : Option ℕ) (it : Iter (List ℕ)) (ys : List (List ℕ))
      → iter_rest it ≡ ys
      → length ys ≡ slots xs
      → ((i : ℕ) (d : List ℕ) → i < slots xs → get_or ys i d ≡ slot xs i)
      → IterYieldsInReverse (List ℕ)
      → IfSome r (λ i. i < length (iter_rest it))
      → SomeRun iter_steps_back it (λ u. MatchOption r (IsTrue u.whole × AllItemsGive u g f false)
      (λ i. (i + u.len ≡ length (iter_rest it)) × IsFirstToGive u g f true false (length (iter_rest it) - 1 - i)))
      → LastPassing xs test r
  last_passing None it ys rest long each back bound run = λ j l.
      let size = ap length rest ∙ long in
      let items = subst (λ z. ItemsMapToReversed run.0 (λ y. y.now) (iter_rest z)) run.1 (back run.0 run.0.seen) in
      let len : run.0.len ≡ length (iter_rest it) = items.1 run.2.0 in
      let k : ℕ = length (iter_rest it) - 1 - j in
      ap test (sym (ap (λ z. get_or z j []) rest ∙ each j [] l)) ∙ said_at (run.0.at k) false (get_or (iter_rest it) j []) (items.2 j [] (omega arith) (omega arith)) (run.2.1 (λ a b q c. (says a b q c).0) k)
  last_passing (Some i) it ys rest long each back bound run =
      let size = ap length rest ∙ long in
      let reads : (j : ℕ) → j < slots xs → get_or (iter_rest it) j [] ≡ slot xs j = λ j l. ap (λ z. get_or z j []) rest ∙ each j [] l in
      let items = subst (λ z. ItemsMapToReversed run.0 (λ y. y.now) (iter_rest z)) run.1 (back run.0 run.0.seen) in
      let gives = run.2.1 (λ a b q c. (says a b q c).0) in
      let sum : i + run.0.len ≡ length (iter_rest it) = run.2.0 in
      let at : (j : ℕ) (b : Bool) → i ≤ j → j < slots xs → IsSomeAnd (run.0.at (length (iter_rest it) - 1 - j)) (λ x. Called g f (x, tt) b f) → test (slot xs j) ≡ b = λ j b from l h.
      ap test (sym (reads j l)) ∙ said_at (run.0.at (length (iter_rest it) - 1 - j)) b (get_or (iter_rest it) j []) (items.2 j [] (omega arith) (omega arith)) (was_some (run.0.at (length (iter_rest it) - 1 - j)) (λ x. Called g f (x, tt) b f) h) in
      (omega arith, at i true (omega arith) (omega arith) gives.0, λ j from l. at j false (omega arith) l (gives.1 (length (iter_rest it) - 1 - j) (omega arith)))

-- what the two searches make of it
pub found_from : (xs : List ℕ) (s : ℕ) (o : Option ℕ) → LastPassing xs (λ p. names p s) o → Found xs s (slots xs) o
found_from xs s None h = h
found_from xs s (Some i) h = record { within = h.0; here = h.1; later = h.2 }

used_to : (xs : List ℕ) (n k : ℕ) → ((j : ℕ) → k ≤ j → j < n → free (slot xs j) ≡ true) → k ≤ n → used xs n ≡ used xs k
used_to xs zero k h l = let e : zero ≡ k = omega arith in ap (used xs) e
used_to xs (suc n) k h l = ⊎_elim
    (λ (e : k ≡ suc n). ap (used xs) (sym e))
    (λ (ne : k ≡ suc n → ⊥). cond-true (free (slot xs n)) (used xs n) (suc n) (h n (omega arith) (omega arith)) ∙ used_to xs n k (λ j a b. h j a (omega arith)) (omega arith)) (cases_eq k (suc n))

turned : (b : Bool) (c : Bool) → not b ≡ c → b ≡ not c
turned true c e = ap not e
turned false c e = ap not e

pub used_from : (xs : List ℕ) (o : Option ℕ) → LastPassing xs (λ p. not (free p)) o → used xs (slots xs) ≡ option_map_or (λ i. i + 1) o 0
used_from xs None h = used_to xs (slots xs) 0 (λ j a b. turned (free (slot xs j)) false (h j b)) (omega arith)
used_from xs (Some i) h =
    used_to xs (slots xs) (i + 1) (λ j a b. turned (free (slot xs j)) false (h.2 j (omega arith) b)) (let l = h.0 in omega arith)
    ∙ used_more xs i ∙ cond-false (free (slot xs i)) (used xs i) (i + 1) (turned (free (slot xs i)) true h.1)
