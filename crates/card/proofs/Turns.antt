-- One turn of the reading loop.
use Rattle.std.proofs.Common.{◌≡◌, ℕ, ◌+◌, ◌-◌, ◌*◌, ◌≤◌, List, [], ◌∷◌, map, length, take, drop, sym, refl, ap, ◌∙◌, subst, arith}
use Rattle.std.proofs.lemmas.List.{drop-drop}
use Rattle.wire.specs.declared.reading.Ending.{Ending}
use Rattle.wire.specs.Items.{Item, frame_item, sentence_item, size}
use Rattle.wire.specs.Reading.{reading}
use Rattle.rule.specs.Events.{Event}
use Rattle.rule.specs.Words.{State, Follows}
use Rattle.rule.specs.Saying.{Said, opened, told, spoken}
use Rattle.rule.specs.Calls.{items}
use Rattle.card.specs.declared.tally.Tally.{Tally}
use Rattle.card.specs.Hearing.{most, Heard, SoFar}

-- how far reading has come: what it paid, what is left, and the buffer behind
pub record Where (ending : Ending) (bytes : List ℕ) (at : ℕ) (t : Tally) (before reply : List ℕ) : Type 0 where
  pub within : at ≤ length bytes
  pub paid : t.written * 10 ≤ at * 66
  pub small : t.accepted + t.down ≤ at
  pub rest : (reading ending bytes at).unread ≡ (reading ending bytes 0).unread
  pub behind : drop t.written reply ≡ drop t.written before
  pub long : length reply ≡ length before

abbrev pub nothing : Tally
nothing = record { written = 0; accepted = 0; down = 0 }

-- a frame has ten bytes besides its payload
pub pays : (x : Item) → most x * 10 ≤ size x * 66
pays (frame_item class id payload) = omega arith
pays (sentence_item body) = omega arith

pub begin_where : (ending : Ending) (bytes : List ℕ) (at : ℕ) (t : Tally) (reply : List ℕ) → at ≡ 0 → t ≡ nothing → Where ending bytes at t reply reply
begin_where ending bytes at t reply z n =
    let w = ap (λ x. x.written) n in
    let a = ap (λ x. x.accepted) n in
    let d = ap (λ x. x.down) n in
    record { within = omega arith; paid = omega arith; small = omega arith; rest = ap (λ k. (reading ending bytes k).unread) z; behind = refl; long = refl }

pub begin_said : (b : State) (h : List Event) (ending : Ending) (bytes : List ℕ) (at : ℕ) (t : Tally) (reply : List ℕ) (v : State) → at ≡ 0 → t ≡ nothing → Follows b h v → SoFar b h ending bytes at t reply v
begin_said b h ending bytes at t reply v z n f = record {
  said = opened h;
  heard = record { answers = ap (λ x. take x.written reply) n; lawful = tt; accepted = ap (λ x. x.accepted) n; down = ap (λ x. x.down) n; follows = f };
  same = ap (λ k. told b (opened h) (map (λ p. p.item) (reading ending bytes k).found)) z;
}

module _ (ending : Ending) (bytes : List ℕ) (at to : ℕ) (x : Item) where
  -- a good frame or sentence, and reading goes on behind it
  abbrev FindsOne : ℕ → Type 0
  FindsOne lead = reading ending bytes at ≡ record { found = record { at = lead; item = x } ∷ (reading ending bytes to).found; unread = (reading ending bytes to).unread }

  pub good_where : (lead : ℕ) (t u : Tally) (before reply after : List ℕ) → FindsOne lead → at + size x ≤ to → to ≤ length bytes → Where ending bytes at t before reply
      → drop u.written after ≡ drop u.written reply → t.written ≤ u.written → u.written ≤ t.written + most x → u.accepted + u.down ≤ t.accepted + t.down + 1 → 1 ≤ size x → length after ≡ length reply → Where ending bytes to u before after
  good_where lead t u before reply after e ahead inside w behind more few one some long =
      let p = pays x in
      let q = w.paid in
      let k = w.small in
      record {
        within = inside;
        paid = omega arith;
        small = omega arith;
        rest = ap (λ r. r.unread) (sym e) ∙ w.rest;
        behind = behind ∙ further;
        long = long ∙ w.long;
      }
    where
      further : drop u.written reply ≡ drop u.written before
      further =
          let k = u.written - t.written in
          let n : t.written + k ≡ u.written = omega arith in
          ap (λ j. drop j reply) (sym n) ∙ sym (drop-drop k t.written reply) ∙ ap (drop k) w.behind ∙ drop-drop k t.written before ∙ ap (λ j. drop j before) n

  pub good_said : (lead : ℕ) (b : State) (h : List Event) (t u : Tally) (reply after : List ℕ) (v v' : State) → FindsOne lead
      → ((b : State) (s : Said) → Heard b s t reply v → Heard b (spoken b s x) u after v') → SoFar b h ending bytes at t reply v → SoFar b h ending bytes to u after v'
  good_said lead b h t u reply after v v' e did f = record {
    said = spoken b f.said x;
    heard = did b f.said f.heard;
    same = sym (ap (λ r. told b f.said (map (λ p. p.item) r.found)) e) ∙ f.same;
  }

-- nothing more is found
pub last_said : (b : State) (h : List Event) (ending : Ending) (bytes : List ℕ) (at : ℕ) (t : Tally) (reply : List ℕ) (v : State) → (reading ending bytes at).found ≡ [] → SoFar b h ending bytes at t reply v → Heard b (told b (opened h) (items ending bytes)) t reply v
last_said b h ending bytes at t reply v none f = subst (λ s. Heard b s t reply v) (sym (ap (λ l. told b f.said (map (λ p. p.item) l)) none) ∙ f.same) f.heard
