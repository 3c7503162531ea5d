use Rattle.std.proofs.Common.{◌+◌, ◌-◌, length, ap, ◌∙◌, arith}
use borrow.Rule.Slice.PartMut.{mid_of, put_mid}
use Rattle.listen.proofs.Rooms.{in_front}
use Rattle.listen.proofs.joined.Goals as goal

pub returns : goal.returns
returns c =
    let u = c.args.unread.now in
    let a = 81 - length u in
    ap (λ part. mid_of a (81 + c.args.n - a) (put_mid a (81 - a) c.args.room.now part)) c.copy_from_slice.ensures.after
    ∙ in_front u c.args.room.now c.args.n c.requires.0 (omega (arith, c.told-room))
