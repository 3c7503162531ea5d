use Rattle.std.proofs.Common.{refl, ap, ◌∙◌}
use Rattle.wire.specs.Items.{frame_item}
use Rattle.wire.specs.Writes.{frame_written}
use Rattle.wire.proofs.Backs.{back}
use Rattle.bodies.specs.Payloads.{time_utc_payload}
use Rattle.bodies.proofs.Tells.{utc_tells}
use Rattle.messages.proofs.time_utc.write_time_utc.Goals as goal

pub returns : goal.returns
returns c = record {
  bytes = c.write.ensures ∙ ap (λ bytes. frame_written 0x01 0x10 bytes c.args.out.now) c.payload.ensures;
  good = record { lawful = refl; size = refl; back = λ behind end. back (frame_item 0x01 0x10 (time_utc_payload c.args.systems.mask c.args.fix.now)) behind end refl };
  tells = utc_tells c.args.systems.mask c.args.fix.now;
}
