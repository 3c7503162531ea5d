use Rattle.std.proofs.Common.{◌≡◌, ℕ, ◌+◌, List, [], length, drop, refl, ap, ◌∙◌, inl, inr, ⊎_elim, arith, length-drop}
use Rattle.wire.specs.declared.reading.Ending.TheVariants.{More, Pause}
use Rattle.wire.specs.Reading.{unread_from}
use Rattle.wire.specs.Laws.{Read, Waits, Line}
use Rattle.wire.proofs.Judgement.{sizes}
use Rattle.wire.proofs.Finding.{finds, suffix, few_unread, none_unread, outside, waiting}
use Rattle.wire.proofs.Cutting.{found_pieces, unread_pieces, at_start, quiet_moved}
use Rattle.wire.proofs.Backs.{back}
use Rattle.wire.proofs.laws.line_stands.Goals as goal

read : (w : List ℕ) → Read w
read w =
    let u = unread_from More 0 w in
    let tail = suffix More w 0 w in
    let long = ap length tail.1 ∙ length-drop tail.0 w in
    let rest = tail.0 in
    let size_is : rest + length u ≡ 0 + length w = omega (arith, tail.2) in
    let nothing = ap length (none_unread 0 w) in
    record {
      paused = finds Pause w w 0 0 0 (length w) refl (omega arith) (omega arith) (λ a x low high begins. absurd (omega arith)) (omega arith);
      all_read = none_unread 0 w;
      rest = rest;
      found = finds More w w 0 0 0 rest refl (omega arith) (omega arith) (λ a x low high begins. absurd (omega arith)) size_is;
      first = outside w w 0 0 0 rest refl (omega arith) (λ a low high waits. absurd (omega arith)) size_is;
      waits = ⊎_elim (λ (empty : length u ≡ 0). inl (omega arith)) (λ (here : Waits w rest). inr here) (waiting w w 0 0 rest refl size_is);
      unread = tail.1;
    }

line : Line
line = record {
  reads = read;
  sizes = sizes;
  back = back;
  uncut = λ pieces. record { found = found_pieces [] 0 pieces at_start; unread = unread_pieces [] 0 pieces at_start };
  noise = quiet_moved;
  few = λ ending bytes at. few_unread ending bytes 0 (drop at bytes);
}

pub returns : goal.returns
returns c = record { laws = line; said = refl }
