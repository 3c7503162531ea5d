-- Chains of rules: what is decided stays decided with more bytes behind it, a good item's bytes are there, and its rules are kept.
use Rattle.std.proofs.Common.{◌≡◌, ℕ, ◌<◌, ◌≤◌, Bool, true, false, cond, ltb, List, ◌++◌, length, get_or, refl, ap, ⊎_elim, arith, length-append}
use Rattle.std.proofs.lemmas.List.{get_or_append_left}
use Rattle.std.proofs.lemmas.Bool.{lt-ltb, ltb-true, ltb-false, cases_Bool}
use Rattle.wire.specs.Items.{size}
use Rattle.wire.specs.Tries.{Try, good, unfinished, failed, judged, ended}

-- a byte is the same with more behind it
pub same_byte : (bs more : List ℕ) (i : ℕ) → i < length bs → get_or (bs ++ more) i 0 ≡ get_or bs i 0
same_byte bs more i h = get_or_append_left bs more 0 i h

-- what is decided stays so
abbrev pub Stays : Try → Try → Type 0
Stays (good x) t = t ≡ good x
Stays unfinished t = Unit {0}
Stays failed t = t ≡ failed

-- a good item is no larger than what is there
abbrev pub Fits : Try → ℕ → Type 0
Fits (good x) n = size x ≤ n
Fits unfinished n = Unit {0}
Fits failed n = Unit {0}

-- an unfinished try is short
abbrev pub Few : Try → ℕ → Type 0
Few (good x) n = Unit {0}
Few unfinished n = n ≤ 81
Few failed n = Unit {0}

stays_kept : (ok : Bool) (next next' : Try) → Stays next next' → Stays (cond ok next failed) (cond ok next' failed)
stays_kept true next next' h = h
stays_kept false next next' h = refl

pub judged_stays : (bs more : List ℕ) (i i' : ℕ) (ok ok' : Bool) (next next' : Try) → (i < length bs → (i' ≡ i) × (ok' ≡ ok) × Stays next next') → Stays (judged bs i ok next) (judged (bs ++ more) i' ok' next')
judged_stays bs more i i' ok ok' next next' h =
    ⊎_elim
    (λ yes.
    let inside = ltb-true i (length bs) yes in
    let got = h inside in
    let also : ltb i (length (bs ++ more)) ≡ true = lt-ltb _ _ (simp length-append (omega arith)) in
    rw (got.0, got.1, yes, also) (stays_kept ok next next' got.2))
    (λ not. rw not tt)
    (cases_Bool (ltb i (length bs)))

pub stays_either : (b : Bool) (s s' t t' : Try) → Stays s s' → Stays t t' → Stays (cond b s t) (cond b s' t')
stays_either true s s' t t' f g = f
stays_either false s s' t t' f g = g

pub stays_self : (t : Try) → Stays t t
stays_self (good x) = refl
stays_self unfinished = tt
stays_self failed = refl

pub stays_ended : (s t : Try) → Stays s t → Stays s (ended t)
stays_ended (good x) t h = ap ended h
stays_ended unfinished t h = tt
stays_ended failed t h = ap ended h

module _ (P : Try → Type 0) (failing : P failed) where
  -- what holds of a failed try and of what comes after a rule holds of the chain
  kept_has : (ok : Bool) (next : Try) → (ok ≡ true → P next) → P (cond ok next failed)
  kept_has true next h = h refl
  kept_has false next h = failing

  pub judged_has : (bs : List ℕ) (i : ℕ) (ok : Bool) (next : Try) → (length bs ≤ i → P unfinished) → (i < length bs → ok ≡ true → P next) → P (judged bs i ok next)
  judged_has bs i ok next short h =
      ⊎_elim
      (λ yes. let inside = ltb-true i (length bs) yes in rw yes (kept_has ok next (h inside)))
      (λ not. let past = ltb-false i (length bs) not in rw not (short past))
      (cases_Bool (ltb i (length bs)))

pub either_has : (P : Try → Type 0) (b : Bool) (s t : Try) → (b ≡ true → P s) → (b ≡ false → P t) → P (cond b s t)
either_has P true s t f g = f refl
either_has P false s t f g = g refl
