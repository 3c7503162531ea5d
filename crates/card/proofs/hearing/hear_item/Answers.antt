use Rattle.std.proofs.Common.{◌+◌, ◌-◌, ◌≤◌, ◌++◌, length, take, drop, sym, ap, ◌∙◌, subst, arith}
use borrow.Rule.Slice.PartMut.{put_mid}
use Rattle.wire.specs.Seen.{item_of}
use Rattle.rule.specs.Words.{Follows}
use Rattle.rule.specs.Judging.{outcome, heard}
use Rattle.rule.specs.Saying.{answers_to, written, AllLawful}
use Rattle.inforce.specs.Has.{state_of, settings_of}
use Rattle.card.proofs.Puts.{put_front, put_behind}
use Rattle.card.proofs.Answering.{heard_more, value_in}
use Rattle.card.proofs.hearing.hear_item.Goals as goal

pub returns-clause-behind : goal.returns-clause-behind
returns-clause-behind g c =
    let at = c.args.tally.now.written in
    let xs = c.args.reply.now in
    let w = written (answers_to (item_of c.args.item) c.in_ok-outcome.outcome (settings_of c.settings.result.now)) in
    let size = c.answer-n.ensures.size in
    let room : at + length w ≤ length xs = omega (arith, size, c.answer-n.ensures.few, c.requires.room) in
    ap (λ n. drop (at + n) (put_mid at (length xs - at) xs c.answer-n.new.out)) size
    ∙ put_behind w xs c.answer-n.new.out at room c.answer-n.ensures.wrote
    ∙ ap (λ n. drop (at + n) xs) (sym size)

pub returns-clause-heard : goal.returns-clause-heard
returns-clause-heard g c b s k =
    let at = c.args.tally.now.written in
    let xs = c.args.reply.now in
    let o = c.in_ok-outcome.outcome in
    let x = item_of c.args.item in
    let v = state_of g.M.SettingsMemory.meaning c.obey.new.self in
    let w = written (answers_to x o (settings_of c.settings.result.now)) in
    let size = c.answer-n.ensures.size in
    let room : at + length w ≤ length xs = omega (arith, size, c.answer-n.ensures.few, c.requires.room) in
    let wrote = ap (λ n. take (at + n) (put_mid at (length xs - at) xs c.answer-n.new.out)) size
    ∙ put_front w xs c.answer-n.new.out at room c.answer-n.ensures.wrote
    ∙ ap (λ t. take at xs ++ written (answers_to x o (settings_of t))) c.settings.ensures in
    let lawful = subst (λ t. AllLawful (answers_to x o (settings_of t))) c.settings.ensures c.answer-n.ensures.lawful in
    let both = c.obey.ensures.obeyed b s.events k.follows in
    let asked = c.decode.ensures in
    let is = ap (value_in o) (sym c.in_ok-outcome.was ∙ both.0) ∙ ap (outcome b s.events) asked in
    let follows = subst (λ r. Follows b (heard b s.events r) v) asked both.1 in
    heard_more b s x o c.args.tally.now xs _ _ _ _ _ v k is follows wrote lawful c.accepts.ensures c.turns_down.ensures
