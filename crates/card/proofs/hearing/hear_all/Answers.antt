use Rattle.std.proofs.Common.{◌≡◌, ◌+◌, ◌≤◌, length, arith}
use Rattle.wire.specs.Seen.{item_of}
use Rattle.wire.specs.Items.{size}
use Rattle.wire.proofs.Steps.{some_size}
use Rattle.card.proofs.Turns.{begin_where, begin_said, good_where, good_said}
use Rattle.card.proofs.hearing.hear_all.Goals as goal

pub loop-item-init : goal.loop-item-init
loop-item-init g c = (begin_where _ _ _ _ _ c.requires.first c.requires.none, λ b h f. begin_said b h _ _ _ _ _ _ c.requires.first c.requires.none f)

pub loop-item-preserved : goal.loop-item-preserved
loop-item-preserved g c =
    let bytes = c.args.bytes.now in
    let ending = c.args.ending in
    let at = c.loop-item.place.at in
    let to = c.read_next.new.place.at in
    let x = item_of c.in-Good.item in
    let found = c.in-Good.ensures in
    let did = c.hear_item.ensures in
    let ahead : at + size x ≤ to = omega (arith, found.place, found.stands.0) in
    let inside : to ≤ length bytes = omega (arith, found.place, found.stands.2) in
    let long : length c.hear_item.new.reply ≡ length c.loop-item.reply = c.hear_item.auto.reply in (
      good_where ending bytes at to x _ _ _ _ _ _ found.reads ahead inside c.loop-item.invariant.0 did.behind did.more did.few did.one (some_size x) long,
      λ b h f. good_said ending bytes at to x _ b h _ _ _ _ _ _ found.reads did.heard (c.loop-item.invariant.1 b h f),
    )
