use Rattle.std.proofs.Common.{◌≡◌, ℕ, ◌+◌, ◌-◌, ◌<◌, List, length, take, drop, sym, ap, ◌∙◌, subst, arith, length-drop}
use Rattle.std.proofs.lemmas.List.{take_rest}
use Rattle.wire.specs.declared.reading.Ending.{Ending}
use Rattle.wire.specs.Tries.{Try}
use Rattle.wire.specs.Reading.{ended_by, try_by, reading, onward}
use Rattle.wire.specs.Seen.{seen, Room}
use Rattle.wire.proofs.Steps.{onward_is}
use Rattle.wire.proofs.Judgement.{room}
use Rattle.wire.proofs.reading.try_at.Goals as goal

-- a try at the bytes from the place on, as the code hands them over
here : (e : Ending) (bs : List ℕ) (at : ℕ) (t : Try) → at < length bs → t ≡ try_by e (take (length bs - at) (drop at bs)) → (reading e bs at ≡ onward e bs at t) × Room (length bs - at) t
here e bs at t inside is =
    let whole = is ∙ ap (try_by e) (take_rest bs at) in
    (onward_is e bs at inside t whole, subst (λ n. Room n t) (length-drop at bs) (room e (drop at bs) t (simp length-drop (omega arith)) whole))

pub returns : goal.returns
returns c =
    let at = c.args.place.now.at in
    let is = c.end_by.ensures.verdict ∙ ap (ended_by c.args.ending) c.try_here.ensures.verdict in
    let both = here c.args.ending c.args.bytes.now at (seen c.end_by.result) c.requires is in
    record { reads = both.0; place = c.try_here.ensures.place ∙ ap (λ n. at + n) (sym c.end_by.ensures.spends); room = both.1 }
