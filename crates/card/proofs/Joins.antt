-- The unread bytes joined with the new ones, and what stays unread of them.
use Rattle.std.proofs.Common.{◌≡◌, ℕ, ◌-◌, ◌≤◌, List, [], ◌++◌, append-nil, length, take, drop, Ok, sym, refl, ap, ◌∙◌, subst, arith, length-drop, length-take, length-take-le}
use Rattle.std.proofs.lemmas.List.{take_all, take-append-drop}
use Rattle.wire.specs.declared.reading.Ending.{Ending}
use Rattle.wire.specs.Reading.{reading}
use Rattle.wire.specs.declared.reading.Ending.TheVariants.{More, Pause}
use Rattle.wire.proofs.Finding.{few_unread, none_unread}
use Rattle.rule.specs.Words.{State}
use Rattle.rule.specs.Saying.{told, opened, written}
use Rattle.rule.specs.Calls.{History, Goes, Waiting, hears, said_to, items}
use Rattle.rule.proofs.Written.{reads_back}
use Rattle.rule.proofs.Talks.{waiting_rest}
use Rattle.card.specs.declared.tally.Tally.{Tally}
use Rattle.card.specs.Hearing.{Heard}

pub few : (ending : Ending) (all : List ℕ) (at n : ℕ) → drop at all ≡ (reading ending all 0).unread → length (take n (drop at all)) ≤ 81
few ending all at n e = simp length-take (omega (arith, ap length e, few_unread ending all 0 all))

pub left : (all : List ℕ) (at n : ℕ) → length all ≤ n → take (n - at) (drop at all) ≡ drop at all
left all at n h = take_all (n - at) (drop at all) (simp length-drop (omega arith))

-- the bytes behind a place are kept as reading leaves them
pub kept : (ending : Ending) (all rest : List ℕ) (at : ℕ) → rest ≡ take (length all - at) (drop at all) ++ [] → drop at all ≡ (reading ending all 0).unread → rest ≡ (reading ending all 0).unread
kept ending all rest at is e = is ∙ append-nil (take (length all - at) (drop at all)) ∙ left all at (length all) (omega arith) ∙ e

-- what stays unread waits for more; after a pause that is nothing
pub waits_on : (ending : Ending) (all : List ℕ) → Waiting (reading ending all 0).unread
waits_on More all = waiting_rest all
waits_on Pause all = subst Waiting (sym (none_unread 0 all)) (record { none = refl; still = refl })

pub hear_goes : (b : State) (h : History) (ending : Ending) (bytes all rest : List ℕ) (t : Tally) (before reply : List ℕ) (v : State) → all ≡ h.unread ++ bytes → Heard b (told b (opened h.events) (items ending all)) t reply v → t.written ≤ length reply → drop t.written reply ≡ drop t.written before → rest ≡ (reading ending all 0).unread
    → Goes b (hears b h ending bytes) (Ok (t.written, t.accepted, t.down)) before reply (record { state = v; unread = rest })
hear_goes b h ending bytes all rest t before reply v e heard room behind er =
    let k = subst (λ l. Heard b (told b (opened h.events) (items ending l)) t reply v) e heard in
    let bytes-out = written (said_to b h ending bytes).answers in
    let n : t.written ≡ length bytes-out = sym (length-take-le t.written reply room) ∙ ap length k.answers in
    record {
      answers = λ i. Ok (n i, k.accepted i, k.down i);
      buffer = sym (take-append-drop t.written reply) ∙ (λ i. k.answers i ++ behind i) ∙ ap (λ j. bytes-out ++ drop j before) n;
      reads = reads_back _ k.lawful;
      keeps = record { follows = k.follows; unread = er ∙ ap (λ l. (reading ending l 0).unread) e };
    }
