-- Reading in pieces, and behind noise.
use Rattle.std.proofs.Common.{◌≡◌, ℕ, zero, suc, ◌+◌, ◌-◌, ◌≤◌, List, [], ◌∷◌, ◌++◌, map, length, sym, refl, ap, ◌∙◌, append_assoc, add_assoc, arith}
use Rattle.std.proofs.lemmas.List.{append-nil, append_cancel_left, length-drop}
use Rattle.wire.specs.declared.reading.Ending.{Ending}
use Rattle.wire.specs.declared.reading.Ending.TheVariants.{More, Pause}
use Rattle.wire.specs.Items.{Item, size}
use Rattle.wire.specs.Tries.{Try, good, unfinished, failed, ended, try_of}
use Rattle.wire.specs.Reading.{try_by, Placed, found_at, found_from, unread_at, unread_from}
use Rattle.wire.specs.Laws.{NoneBegins, found_in_pieces, unread_in_pieces, together, moved}
use Rattle.wire.proofs.Rules.{Stays, Fits}
use Rattle.wire.proofs.Judgement.{stays, fits, good_begins}
use Rattle.wire.proofs.Finding.{suffix}

unread_cut_at : (x : ℕ) (a b : List ℕ) (s : Try) → Stays s (try_of (x ∷ a ++ b)) → Fits s (length (x ∷ a)) → ((n : ℕ) → n ≤ length a → unread_from More n (a ++ b) ≡ unread_from More 0 (unread_from More n a ++ b)) → unread_at (try_of (x ∷ a ++ b)) (x ∷ a ++ b) (λ n. unread_from More n (a ++ b)) ≡ unread_from More 0 (unread_at s (x ∷ a) (λ n. unread_from More n a) ++ b)
unread_cut_at x a b (good y) e f ih = rw e (ih (size y - 1) (omega arith))
unread_cut_at x a b unfinished e f ih = refl
unread_cut_at x a b failed e f ih = rw e (ih 0 (omega arith))

unread_cut : (k : ℕ) (a b : List ℕ) → k ≤ length a → unread_from More k (a ++ b) ≡ unread_from More 0 (unread_from More k a ++ b)
unread_cut k [] b h = let e : k ≡ 0 = omega arith in rw e
unread_cut (suc k) (x ∷ a) b h = unread_cut k a b (omega arith)
unread_cut zero (x ∷ a) b h = unread_cut_at x a b (try_of (x ∷ a)) (stays (x ∷ a) b) (fits x a) (λ n f. unread_cut n a b f)

found_cut_at : (at rest x : ℕ) (a b : List ℕ) (s : Try) → Stays s (try_of (x ∷ a ++ b)) → Fits s (length (x ∷ a)) → ((n : ℕ) → n ≤ length a → rest + length (unread_from More n a) ≡ at + 1 + length a → found_from More (at + 1) n (a ++ b) ≡ found_from More (at + 1) n a ++ found_from More rest 0 (unread_from More n a ++ b)) → rest + length (unread_at s (x ∷ a) (λ n. unread_from More n a)) ≡ at + length (x ∷ a) → found_at at (try_of (x ∷ a ++ b)) (λ n. found_from More (at + 1) n (a ++ b)) ≡ found_at at s (λ n. found_from More (at + 1) n a) ++ found_from More rest 0 (unread_at s (x ∷ a) (λ n. unread_from More n a) ++ b)
found_cut_at at rest x a b (good y) e f ih size_is = rw e (ap (λ l. record { at = at; item = y } ∷ l) (ih (size y - 1) (omega arith) (omega arith)))
found_cut_at at rest x a b unfinished e f ih size_is = let same : at ≡ rest = omega arith in ap (λ n. found_from More n 0 (x ∷ a ++ b)) same
found_cut_at at rest x a b failed e f ih size_is = rw e (ih 0 (omega arith) (omega arith))

-- bytes with more behind them: what is found in them, then what is found from the unread rest on
found_cut : (at rest k : ℕ) (a b : List ℕ) → k ≤ length a → rest + length (unread_from More k a) ≡ at + length a → found_from More at k (a ++ b) ≡ found_from More at k a ++ found_from More rest 0 (unread_from More k a ++ b)
found_cut at rest k [] b h size_is = let e : k ≡ 0 = omega arith in let p : at ≡ rest = omega arith in (λ i. found_from More (p i) (e i) b)
found_cut at rest (suc k) (x ∷ a) b h size_is = found_cut (at + 1) rest k a b (omega arith) (omega arith)
found_cut at rest zero (x ∷ a) b h size_is = found_cut_at at rest x a b (try_of (x ∷ a)) (stays (x ∷ a) b) (fits x a) (λ n f size_is. found_cut (at + 1) rest n a b f size_is) size_is

short_unread : (a : List ℕ) → length (unread_from More 0 a) ≤ length a
short_unread a = let s = suffix More a 0 a in omega (arith, ap length s.1, length-drop s.0 a)

-- bytes that reading has left unread, from a place on: in them nothing is found, and all of them stay unread
pub record Resting (rest : List ℕ) (at : ℕ) : Type 0 where
  pub found : found_from More at 0 rest ≡ []
  pub unread : unread_from More 0 rest ≡ rest

resting : (at : ℕ) (a : List ℕ) → Resting (unread_from More 0 a) (at + (length a - length (unread_from More 0 a)))
resting at a =
    let u = unread_from More 0 a in
    let room = short_unread a in
    let rest = at + (length a - length u) in
    let cut = found_cut at rest 0 a [] (omega arith) (omega arith) in
    let again : found_from More at 0 a ++ found_from More rest 0 u ≡ found_from More at 0 a ++ [] =
    ap (λ l. found_from More at 0 a ++ found_from More rest 0 l) (sym (append-nil u)) ∙ sym cut ∙ ap (found_from More at 0) (append-nil a) ∙ sym (append-nil (found_from More at 0 a)) in
    record {
      found = append_cancel_left (found_from More at 0 a) (found_from More rest 0 u) [] again;
      unread = ap (unread_from More 0) (sym (append-nil u)) ∙ sym (unread_cut 0 a [] (omega arith)) ∙ ap (unread_from More 0) (append-nil a);
    }

pub found_pieces : (rest : List ℕ) (at : ℕ) (pieces : List (List ℕ)) → Resting rest at → found_in_pieces rest at pieces ≡ found_from More at 0 (rest ++ together pieces)
found_pieces rest at [] r = sym (ap (found_from More at 0) (append-nil rest) ∙ r.found)
found_pieces rest at (p ∷ pieces) r =
    let a = rest ++ p in
    let u = unread_from More 0 a in
    let room = short_unread a in
    let place = at + (length a - length u) in
    ap (λ l. found_from More at 0 a ++ l) (found_pieces u place pieces (resting at a))
    ∙ sym (found_cut at place 0 a (together pieces) (omega arith) (omega arith))
    ∙ ap (found_from More at 0) (append_assoc rest p (together pieces))

pub unread_pieces : (rest : List ℕ) (at : ℕ) (pieces : List (List ℕ)) → Resting rest at → unread_in_pieces rest pieces ≡ unread_from More 0 (rest ++ together pieces)
unread_pieces rest at [] r = sym (ap (unread_from More 0) (append-nil rest) ∙ r.unread)
unread_pieces rest at (p ∷ pieces) r =
    let a = rest ++ p in
    let u = unread_from More 0 a in
    unread_pieces u (at + (length a - length u)) pieces (resting at a)
    ∙ sym (unread_cut 0 a (together pieces) (omega arith))
    ∙ ap (unread_from More 0) (append_assoc rest p (together pieces))

pub at_start : Resting [] 0
at_start = record { found = refl; unread = refl }

shift_at : (e : Ending) (d at : ℕ) (s : Try) (t : List ℕ) → ((n : ℕ) → found_from e (d + (at + 1)) n t ≡ map (moved d) (found_from e (at + 1) n t)) → found_at (d + at) s (λ n. found_from e (d + at + 1) n t) ≡ map (moved d) (found_at at s (λ n. found_from e (at + 1) n t))
shift_at e d at (good x) t ih = ap (λ l. record { at = d + at; item = x } ∷ l) (ap (λ n. found_from e n (size x - 1) t) (add_assoc d at 1) ∙ ih (size x - 1))
shift_at e d at unfinished t ih = refl
shift_at e d at failed t ih = ap (λ n. found_from e n 0 t) (add_assoc d at 1) ∙ ih 0

-- the same bytes some places further on
pub shift : (e : Ending) (d at k : ℕ) (t : List ℕ) → found_from e (d + at) k t ≡ map (moved d) (found_from e at k t)
shift e d at k [] = refl
shift e d at (suc k) (b ∷ t) = ap (λ n. found_from e n k t) (add_assoc d at 1) ∙ shift e d (at + 1) k t
shift e d at zero (b ∷ t) = shift_at e d at (try_by e (b ∷ t)) t (λ n. shift e d (at + 1) n t)

noise_at : (at : ℕ) (s : Try) (later : ℕ → List Placed) → ((x : Item) → s ≡ good x → ⊥) → found_at at (ended s) later ≡ later 0
noise_at at (good x) later h = absurd (h x refl)
noise_at at unfinished later h = refl
noise_at at failed later h = refl

quiet : (noise bytes : List ℕ) (at : ℕ) → NoneBegins (noise ++ bytes) 0 (length noise) → found_from Pause at 0 (noise ++ bytes) ≡ found_from Pause (length noise + at) 0 bytes
quiet [] bytes at h = let e : at ≡ 0 + at = omega arith in ap (λ n. found_from Pause n 0 bytes) e
quiet (x ∷ noise) bytes at h =
    let w = x ∷ noise ++ bytes in
    let place : length noise + (at + 1) ≡ length (x ∷ noise) + at = omega arith in
    noise_at at (try_of w) (λ n. found_from Pause (at + 1) n (noise ++ bytes)) (λ y e. h 0 y (omega arith) (omega arith) (good_begins w 0 y e))
    ∙ quiet noise bytes (at + 1) (λ k y low high begins. h (suc k) y (omega arith) (omega arith) (record { lawful = begins.lawful; behind = begins.behind; stands = begins.stands }))
    ∙ ap (λ n. found_from Pause n 0 bytes) place

pub quiet_moved : (noise bytes : List ℕ) → NoneBegins (noise ++ bytes) 0 (length noise) → found_from Pause 0 0 (noise ++ bytes) ≡ map (moved (length noise)) (found_from Pause 0 0 bytes)
quiet_moved noise bytes h = quiet noise bytes 0 h ∙ shift Pause (length noise) 0 0 bytes
