use Rattle.std.proofs.Common.{◌≡◌, take, sym, ap, ◌∙◌}
use Rattle.std.proofs.lemmas.List.{take_at}
use Rattle.wire.specs.Frames.{frame}
use Rattle.commands.specs.Commands.{told_payload}
use Rattle.rule.specs.Calls.{over}
use Rattle.inforce.specs.Has.{settings_of}
use Rattle.card.proofs.answers.put_told.Goals as goal

pub returns-clause-wrote : goal.returns-clause-wrote
returns-clause-wrote c =
    let p = told_payload c.args.query (settings_of c.args.settings.now) in
    let n = c.payload-n.result in
    let is : take n c.payload-n.new.out ≡ p = ap (take n) c.payload-n.ensures.out ∙ take_at p _ n (sym c.payload-n.ensures.size) in
    c.put_frame.ensures.wrote ∙ ap (λ q. over (frame c.args.sent.class c.args.sent.id q) c.args.out.now) is
