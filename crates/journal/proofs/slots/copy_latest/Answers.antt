use Rattle.std.proofs.Common.{◌≡◌, [], length, None, sym, ap, ◌∙◌}
use Rattle.std.specs.Option.{option_map}
use Rattle.memory.specs.Memory.{with_string}
use Rattle.journal.specs.Slots.{slots, content, latest}
use Rattle.journal.proofs.Search.{latest_is, nowhere_none}
use Rattle.journal.proofs.slots.copy_latest.Goals as goal

pub returns-in_err-i : goal.returns-in_err-i
returns-in_err-i c =
    let xs = c.args.image.now in
    let s = c.args.section in
    let none : latest xs s (slots xs) ≡ None = nowhere_none xs s (slots xs) c.in_err-i.ensures in
    record { size = c.from_residual.ensures ∙ ap (option_map length) (sym none); copied = ap (λ o. with_string o c.args.out.now) (sym none) }

pub returns : goal.returns
returns c =
    let xs = c.args.image.now in
    let s = c.args.section in
    let i = c.in_ok-i.i in
    let found = c.in_ok-i.ensures in
    let is = ap content (c.slots_of.ensures.each i [] found.within) ∙ sym (latest_is xs s (slots xs) i found) in
    record {
      size = c.copy_content.ensures.size ∙ ap (option_map length) is;
      copied = c.copy_content.ensures.copied ∙ ap (λ o. with_string o c.args.out.now) is;
    }
