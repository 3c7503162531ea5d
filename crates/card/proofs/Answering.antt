-- A frame or sentence that was obeyed and answered.
use Rattle.std.proofs.Common.{◌≡◌, ℕ, ◌+◌, ◌≤◌, Bool, true, false, cond, List, ◌++◌, take, is_some, Ok, Err, Result, sym, refl, ap, ◌∙◌, subst, arith}
use Rattle.wire.specs.Items.{Item, frame_item, sentence_item}
use Rattle.commands.specs.declared.command.Outcome.{Outcome}
use Rattle.commands.specs.declared.command.Outcome.TheVariants.{PassedOver, TurnedDown, Done, Told}
use Rattle.commands.specs.Settings.{Configuration}
use Rattle.commands.specs.Commands.{sets, saves, clears, loads, starts, asks, Request, passed_over, wrong, command, request_of}
use Rattle.rule.specs.Events.{Event}
use Rattle.rule.specs.Words.{State, in_force, Follows}
use Rattle.rule.specs.Judging.{judged, outcome, heard}
use Rattle.rule.specs.Saying.{Said, answers_to, accepts, turns_down, spoken, written, AllLawful}
use Rattle.rule.proofs.Written.{written_append, lawful_append}
use Rattle.card.specs.declared.tally.Tally.{Tally}
use Rattle.card.specs.Hearing.{Heard}

-- ACK and NACK tell no setting
done_same : (x : Item) (t : Bool) (c d : Configuration) → answers_to x (cond t Done TurnedDown) c ≡ answers_to x (cond t Done TurnedDown) d
done_same (frame_item class id p) true c d = refl
done_same (frame_item class id p) false c d = refl
done_same (sentence_item body) t c d = refl

-- what a request draws is the same before and after it: a query changes nothing
same_drawn : (b : State) (h : List Event) (x : Item) (r : Request) → answers_to x (outcome b h r) (in_force b (heard b h r)) ≡ answers_to x (outcome b h r) (in_force b h)
same_drawn b h x passed_over = refl
same_drawn b h x wrong = refl
same_drawn b h x (command (sets xs)) = done_same x (is_some (judged b h (sets xs))) _ _
same_drawn b h x (command (saves y)) = done_same x (is_some (judged b h (saves y))) _ _
same_drawn b h x (command (clears y)) = done_same x (is_some (judged b h (clears y))) _ _
same_drawn b h x (command (loads y)) = done_same x (is_some (judged b h (loads y))) _ _
same_drawn b h x (command (starts s)) = done_same x (is_some (judged b h (starts s))) _ _
same_drawn b h x (command (asks q)) = refl

pub one_counts : (o : Outcome) → accepts o + turns_down o ≤ 1
one_counts PassedOver = omega arith
one_counts TurnedDown = omega arith
one_counts Done = omega arith
one_counts (Told q) = omega arith

-- the value of an answer that is no refusal
abbrev pub value_in : {A E : Type 0} → A → Result A E → A
value_in d (Ok x) = x
value_in d (Err e) = d

pub heard_more : (b : State) (s : Said) (x : Item) (o : Outcome) (t : Tally) (reply after : List ℕ) (n a d : ℕ) (v v' : State)
    → Heard b s t reply v → o ≡ outcome b s.events (request_of x) → Follows b (heard b s.events (request_of x)) v'
    → take (t.written + n) after ≡ take t.written reply ++ written (answers_to x o v'.settings) → AllLawful (answers_to x o v'.settings) → a ≡ accepts o → d ≡ turns_down o
    → Heard b (spoken b s x) (record { written = t.written + n; accepted = t.accepted + a; down = t.down + d }) after v'
heard_more b s x o t reply after n a d v v' k eo f wrote lawful ea ed =
    let h = s.events in
    let r = request_of x in
    let same : answers_to x o v'.settings ≡ answers_to x (outcome b h r) (in_force b h) = (λ i. answers_to x (eo i) (f.settings i)) ∙ same_drawn b h x r in
    record {
      answers = wrote ∙ (λ i. k.answers i ++ written (same i)) ∙ sym (written_append s.answers (answers_to x (outcome b h r) (in_force b h)));
      lawful = lawful_append s.answers _ k.lawful (subst AllLawful same lawful);
      accepted = (λ i. k.accepted i + (ea ∙ ap accepts eo) i);
      down = (λ i. k.down i + (ed ∙ ap turns_down eo) i);
      follows = f;
    }
