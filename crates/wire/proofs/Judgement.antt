-- The laws of a try at whatever begins here.
use Rattle.std.proofs.Common.{◌≡◌, ℕ, ◌<◌, ◌≤◌, true, cond, eqb, List, [], ◌∷◌, ◌++◌, length, drop, sym, refl, ap, ◌∙◌, subst, arith, length-append}
use Rattle.std.proofs.lemmas.Bool.{eqb-true}
use Rattle.wire.specs.declared.reading.Ending.{Ending}
use Rattle.wire.specs.declared.reading.Ending.TheVariants.{More, Pause}
use Rattle.wire.specs.Items.{Item, frame_item, sentence_item, form, size, lawful_item}
use Rattle.wire.specs.Tries.{Try, good, unfinished, failed, ended, frame_try, sentence_try, try_of}
use Rattle.wire.specs.Reading.{try_by}
use Rattle.wire.specs.Seen.{Room}
use Rattle.wire.specs.Laws.{Begins}
use Rattle.wire.proofs.Steps.{some_size}
use Rattle.wire.proofs.Rules.{Stays, Fits, Few, stays_either, either_has}
use Rattle.wire.proofs.FrameRules.{frame_stays, frame_fits, frame_few}
use Rattle.wire.proofs.SentenceRules.{sentence_stays, sentence_fits, sentence_few}
use Rattle.wire.proofs.FrameForms.{Fronts, frame_fronts, frame_back}
use Rattle.wire.proofs.SentenceForms.{sentence_fronts, sentence_back}

pub stays : (bs more : List ℕ) → Stays (try_of bs) (try_of (bs ++ more))
stays [] more = tt
stays (b ∷ bs) more =
    let l = b ∷ bs in
    stays_either (eqb b 0xba) (frame_try l) (frame_try (l ++ more)) (cond (eqb b 0x24) (sentence_try l) failed) (cond (eqb b 0x24) (sentence_try (l ++ more)) failed) (frame_stays l more)
    (stays_either (eqb b 0x24) (sentence_try l) (sentence_try (l ++ more)) failed failed (sentence_stays l more (omega arith)) refl)

-- what holds of a try at a frame, at a sentence and at a stray byte
any : (P : Try → Type 0) (b : ℕ) (bs : List ℕ) → P failed → (b ≡ 0xba → P (frame_try (b ∷ bs))) → (b ≡ 0x24 → P (sentence_try (b ∷ bs))) → P (try_of (b ∷ bs))
any P b bs stray f s =
    either_has P (eqb b 0xba) (frame_try (b ∷ bs)) (cond (eqb b 0x24) (sentence_try (b ∷ bs)) failed) (λ e. f (eqb-true b 0xba e))
    (λ _. either_has P (eqb b 0x24) (sentence_try (b ∷ bs)) failed (λ e. s (eqb-true b 0x24 e)) (λ _. stray))

pub fits : (b : ℕ) (bs : List ℕ) → Fits (try_of (b ∷ bs)) (length (b ∷ bs))
fits b bs = any (λ t. Fits t (length (b ∷ bs))) b bs tt (λ _. frame_fits (b ∷ bs)) (λ _. sentence_fits (b ∷ bs))

pub few : (bs : List ℕ) → Few (try_of bs) (length bs)
few [] = omega arith
few (b ∷ bs) = any (λ t. Few t (length (b ∷ bs))) b bs tt (λ _. frame_few (b ∷ bs)) (λ _. sentence_few (b ∷ bs))

fronts : (bs : List ℕ) → Fronts bs (try_of bs)
fronts [] = tt
fronts (b ∷ bs) = any (Fronts (b ∷ bs)) b bs tt (λ e. frame_fronts (b ∷ bs) e) (λ e. sentence_fronts (b ∷ bs) e)

-- what is judged good begins there
pub good_begins : (bs : List ℕ) (at : ℕ) (x : Item) → try_of (drop at bs) ≡ good x → Begins bs at x
good_begins bs at x e = let b = subst (Fronts (drop at bs)) e (fronts (drop at bs)) in record { lawful = b.lawful; behind = b.behind; stands = b.stands }

pub form_good : (x : Item) (behind : List ℕ) → lawful_item x ≡ true → try_of (form x ++ behind) ≡ good x
form_good (frame_item class id payload) behind ok = frame_back class id payload behind ok
form_good (sentence_item body) behind ok = sentence_back body behind ok

-- what begins there is judged good, whatever follows
pub begins_good : (e : Ending) (bs : List ℕ) (at : ℕ) (x : Item) → Begins bs at x → try_by e (drop at bs) ≡ good x
begins_good More bs at x b = ap try_of b.stands ∙ form_good x b.behind b.lawful
begins_good Pause bs at x b = ap (λ l. ended (try_of l)) b.stands ∙ ap ended (form_good x b.behind b.lawful)

pub sizes : (x : Item) → length (form x) ≡ size x
sizes (frame_item class id payload) = simp length-append (omega arith)
sizes (sentence_item body) = simp length-append (omega arith)

-- a pause changes no good item
ended_good : (t : Try) (x : Item) → ended t ≡ good x → t ≡ good x
ended_good (good y) x e = e
ended_good unfinished x e = cc
ended_good failed x e = cc

pub by_good : (e : Ending) (bs : List ℕ) (x : Item) → try_by e bs ≡ good x → try_of bs ≡ good x
by_good More bs x h = h
by_good Pause bs x h = ended_good (try_of bs) x h

pub by_fits : (e : Ending) (b : ℕ) (bs : List ℕ) (x : Item) → try_by e (b ∷ bs) ≡ good x → size x ≤ length (b ∷ bs)
by_fits e b bs x h = subst (λ t. Fits t (length (b ∷ bs))) (by_good e (b ∷ bs) x h) (fits b bs)

ended_waits : (t : Try) → ended t ≡ unfinished → ⊥
ended_waits (good x) e = let z : ◌≡◌ {A = ℕ} 0 1 = cc in omega arith
ended_waits unfinished e = let z : ◌≡◌ {A = ℕ} 0 1 = cc in omega arith
ended_waits failed e = let z : ◌≡◌ {A = ℕ} 0 1 = cc in omega arith

pub by_few : (e : Ending) (bs : List ℕ) → try_by e bs ≡ unfinished → length bs ≤ 81
by_few More bs h = subst (λ t. Few t (length bs)) h (few bs)
by_few Pause bs h = absurd (ended_waits (try_of bs) h)

-- there is room for what is judged
pub room : (e : Ending) (bs : List ℕ) (t : Try) → 0 < length bs → t ≡ try_by e bs → Room (length bs) t
room e [] t some is = absurd (omega arith)
room e (b ∷ bs) (good x) some is = let one = some_size x in (omega arith, by_fits e b bs x (sym is))
room e (b ∷ bs) unfinished some is = by_few e (b ∷ bs) (sym is)
room e (b ∷ bs) failed some is = tt
