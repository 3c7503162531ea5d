-- A card that follows some events follows one more after its step.
use Rattle.std.proofs.Common.{◌≡◌, ℕ, zero, suc, ◌+◌, ◌-◌, ◌*◌, ◌%◌, ◌<◌, ◌≤◌, Bool, true, false, cond, eqb, leb, List, [], ◌∷◌, ◌++◌, is_some, unwrap_or, sym, refl, ap, ◌∙◌, subst, mod-eq_of_lt, arith, ne_eqb}
use native.Mathlib.Nat.{zero-mod, mod-add-mod}
use Rattle.settings.specs.declared.names.Message.{Message}
use Rattle.settings.specs.Entries.{next_count}
use Rattle.commands.specs.declared.command.Start.TheVariants.{Hot, Warm, Cold, Factory}
use Rattle.commands.specs.declared.command.Outcome.TheVariants.{TurnedDown}
use Rattle.commands.specs.Settings.{rate}
use Rattle.commands.specs.Commands.{Command, sets, saves, clears, loads, starts, asks, Request, passed_over, wrong, command}
use Rattle.rule.specs.Events.{Event, when, factoried, saved, cleared, touches, names, files, writes, is_fix}
use Rattle.rule.specs.Words.{State, chosen, in_force, kept, since, residue, named, Follows}
use Rattle.rule.specs.Judging.{judged, affords, fulfilled, outcome, heard}
use Rattle.rule.specs.Steps.{stepped, stepped_all, events_of}

pub residue_zero : (r : ℕ) → 0 ≡ residue 0 r
residue_zero r = go (eqb r 0)
  where
    go : (b : Bool) → 0 ≡ cond b 0 (0 % r)
    go true = refl
    go false = sym (zero-mod r)

residue_next : (a n : ℕ) → next_count n (residue a n) ≡ residue (a + 1) n
residue_next a n = go (eqb n 0)
  where
    go : (b : Bool) → cond b 0 ((cond b 0 (a % n) + 1) % n) ≡ cond b 0 ((a + 1) % n)
    go true = refl
    go false = mod-add-mod a n 1

pub residue_pos : (a n : ℕ) → 0 < n → residue a n ≡ a % n
residue_pos a n p = ap (λ b. cond b 0 (a % n)) (ne_eqb n 0 (λ e. omega arith))

-- a count below its rate is kept as it is
pub residue_small : (a n : ℕ) → a ≤ n - 1 → a ≡ residue a n
residue_small a zero p = omega arith
residue_small a (suc n) p = let q : a < suc n = omega arith in sym (residue_pos a (suc n) (omega arith) ∙ mod-eq_of_lt q)

module _ {b : State} {h : List Event} {v : State} (f : Follows b h v) where
  counted : (e : Event) (m : Message) (t x : Bool) (r : ℕ) → cond t 0 (cond x (next_count (v.settings.rate m) (v.count m)) (v.count m)) ≡ residue (cond t 0 (cond x (since b m h + 1) (since b m h))) (cond t r ((in_force b h).rate m))
  counted e m true x r = residue_zero r
  counted e m false true r = (λ i. next_count ((f.settings i).rate m) (f.count m i)) ∙ residue_next (since b m h) ((in_force b h).rate m)
  counted e m false false r = f.count m

  pub follows_event : (e : Event) → Follows b (e ∷ h) (stepped v e)
  follows_event e = record {
    settings = λ i. chosen (touches e) (names e (λ s. f.string s i)) (f.settings i);
    count = λ m. counted e m (touches e (rate m)) (is_fix e) ((names e (kept b h)).rate m);
    string = λ s i. unwrap_or (files e s (f.settings i)) (f.string s i);
    left = λ i. f.left i - writes e * f.price i;
    price = f.price;
  }

pub follows_events : {b : State} {h : List Event} {v : State} → Follows b h v → (es : List Event) → Follows b (es ++ h) (stepped_all v es)
follows_events f [] = f
follows_events f (e ∷ es) = follows_event (follows_events f es) e

module _ {b : State} {h : List Event} {v : State} (f : Follows b h v) where
  can : (n : ℕ) → affords v [] n ≡ affords b h n
  can n = λ i. leb (n * f.price i) (f.left i)

  -- a command is judged by what the card has
  pub judges : (c : Command) → judged v [] c ≡ judged b h c
  judges (sets xs) = refl
  judges (saves x) = ap (λ t. when t (saved x ∷ [])) (can _)
  judges (clears x) = ap (λ t. when t (cleared x ∷ [])) (can _)
  judges (loads x) = refl
  judges (starts Hot) = refl
  judges (starts Warm) = refl
  judges (starts Cold) = refl
  judges (starts Factory) = ap (λ t. when t (factoried ∷ [])) (can 5)
  judges (asks q) = refl

  -- a request, for a card that follows some events
  pub requests : (r : Request) → (outcome v [] r ≡ outcome b h r) × Follows b (heard b h r) (stepped_all v (events_of v r))
  requests passed_over = (refl, f)
  requests wrong = (refl, f)
  requests (command c) = (
    ap (λ j. cond (is_some j) (fulfilled c) TurnedDown) (judges c),
    subst (λ j. Follows b (unwrap_or j [] ++ h) (stepped_all v (unwrap_or (judged v [] c) []))) (judges c) (follows_events f (unwrap_or (judged v [] c) [])),
  )

pub follows_is : {b : State} {h : List Event} {v : State} → Follows b h v → v ≡ named b h
follows_is f = λ i. record { settings = f.settings i; count = λ m. f.count m i; string = λ s. f.string s i; left = f.left i; price = f.price i }
