-- What a sentence asks, by a name that its first field is.
use Rattle.std.proofs.Common.{◌≡◌, ℕ, List, length, Some, None, Option, Result, sym, refl, ap, ◌∙◌}
use Rattle.std.specs.Option.{ok_or}
use Rattle.std.proofs.lemmas.Slice.Eq.{HasBytesAt, text_from_reads}
use Rattle.commands.specs.declared.command.Command.{Command}
use Rattle.commands.specs.declared.command.Unheeded.{Unheeded}
use Rattle.commands.specs.declared.command.Unheeded.TheVariants.{Wrong}
use Rattle.commands.specs.Commands.{sentence_request}
use Rattle.commands.specs.Seen.{asked, seen_request}

seen-ok_or : (c : Option Command) → seen_request (ok_or c Wrong) ≡ asked c
seen-ok_or None = refl
seen-ok_or (Some c) = refl

pub by_name : (address name rest : List ℕ) (c : Option Command) (r : Result Command Unheeded) → length address ≡ length name → HasBytesAt address 0 name → asked c ≡ sentence_request name rest → r ≡ ok_or c Wrong → seen_request r ≡ sentence_request address rest
by_name address name rest c r long bytes asks e = ap seen_request e ∙ seen-ok_or c ∙ asks ∙ ap (λ a. sentence_request a rest) (sym (text_from_reads address name long bytes))
