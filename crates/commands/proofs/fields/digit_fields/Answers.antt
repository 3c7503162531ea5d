use Rattle.std.proofs.Common.{rules, ◌≡◌, ◌∷◌, [], ◌++◌, length, get_or, ap, ◌∙◌}
use Rattle.commands.specs.Fields.{digit_fields}
use Rattle.commands.proofs.DigitFields.{behind_comma, next_field, too_many}
use Rattle.commands.proofs.fields.digit_fields.Goals as goal

pub returns-in_err-ok : goal.returns-in_err-ok
returns-in_err-ok c =
    let here = c.loop-rest.rest.now in
    let comma : get_or here 0 0 ≡ 44 = search rules in
    let full : length c.loop-rest.digits.items ≡ 14 = search rules in
    let one = ap digit_fields (behind_comma here c.in-44.len_at_least comma) ∙ c.split_digit-digit.ensures.fields in
    rw c.from_residual.ensures (too_many c.args.rest.now here c.split_digit-digit.result.1.now c.loop-rest.digits.items c.split_digit-digit.result.0 c.loop-rest.invariant one full)

pub loop-rest-smaller : goal.loop-rest-smaller
loop-rest-smaller c =
    let s = c.split_digit-digit.ensures.behind in
    let l = c.in-44.len_at_least in
    search rules

pub loop-rest-preserved : goal.loop-rest-preserved
loop-rest-preserved c =
    let here = c.loop-rest.rest.now in
    let comma : get_or here 0 0 ≡ 44 = search rules in
    let pushed : c.try_push.new.self.items ≡ c.loop-rest.digits.items ++ c.split_digit-digit.result.0 ∷ [] = search rules in
    let one = ap digit_fields (behind_comma here c.in-44.len_at_least comma) ∙ c.split_digit-digit.ensures.fields in
    next_field c.args.rest.now here c.split_digit-digit.result.1.now c.loop-rest.digits.items c.split_digit-digit.result.0 c.loop-rest.invariant one c.try_push.new.self.items pushed
