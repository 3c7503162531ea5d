use Rattle.std.proofs.Common.{rules}
use Rattle.card.proofs.Puts.{frame_put}
use Rattle.card.proofs.answers.put_frame.Goals as goal

pub returns : goal.returns
returns c =
    let put = frame_put c.args.answer.class c.args.answer.id c.args.answer.payload.now c.args.out.now c.write.new.out c.write.result c.requires.lawful c.requires.room c.write.ensures in
    record { size = let ok = put.0 in search rules; wrote = put.1 }
