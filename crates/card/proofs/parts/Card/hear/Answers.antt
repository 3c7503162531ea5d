use Rattle.std.proofs.Common.{◌-◌, ◌++◌, length, sym, ap, ◌∙◌, subst, arith}
use Rattle.rule.specs.Calls.{Waiting}
use Rattle.card.proofs.Joins.{few, kept, waits_on, hear_goes}
use Rattle.card.proofs.parts.Card.hear.Goals as goal

pub join-requires-2 : goal.join-requires-2
join-requires-2 g c =
    let all = c.as_slice-all.result.now in
    let at = c.hear_all.new.place.at in
    omega (arith, few c.args.ending all at (length all - at) c.hear_all.ensures.rest)

pub invariant_of-self-2 : goal.invariant_of-self-2
invariant_of-self-2 g c =
    let all = c.as_slice-all.result.now in
    record { waits = subst Waiting (sym (kept c.args.ending all _ c.hear_all.new.place.at c.join-2.ensures c.hear_all.ensures.rest)) (waits_on c.args.ending all) }

pub returns : goal.returns
returns g c b h k =
    let all = c.as_slice-all.result.now in
    let got = c.hear_all.ensures in
    hear_goes b h c.args.ending c.args.bytes.now all _ c.hear_all.new.tally _ _ _
    (c.as_slice-all.ensures.value ∙ c.join.ensures ∙ ap (λ u. u ++ c.args.bytes.now) (c.as_slice.ensures.value ∙ k.unread)) (got.heard b h.events k.follows) got.fits got.behind
    (kept c.args.ending all _ c.hear_all.new.place.at c.join-2.ensures got.rest)
