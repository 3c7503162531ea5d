-- Lists of calls, one behind the other.
use Rattle.std.proofs.Common.{◌≡◌, List, [], ◌∷◌, ◌++◌, map, refl, ap, ◌∙◌}
use mathlib.Core.List.{map-append}
use Rattle.rule.specs.Words.{State}
use Rattle.rule.specs.Calls.{History}
use Rattle.rule.specs.Runs.{Call, turn, turns, after, given_by, given}

module _ (b : State) where
  pub turns_append : (h : History) (cs ds : List Call) → turns b h (cs ++ ds) ≡ turns b h cs ++ turns b (after b h cs) ds
  turns_append h [] ds = refl
  turns_append h (c ∷ cs) ds = ap (λ l. turn b h c ∷ l) (turns_append (turn b h c).next cs ds)

  pub after_append : (h : History) (cs ds : List Call) → after b h (cs ++ ds) ≡ after b (after b h cs) ds
  after_append h [] ds = refl
  after_append h (c ∷ cs) ds = after_append (turn b h c).next cs ds

  pub given_append : (h : History) (cs ds : List Call) → given b h (cs ++ ds) ≡ given b h cs ++ given b (after b h cs) ds
  given_append h cs ds = ap (map (given_by b)) (turns_append h cs ds) ∙ map-append (given_by b) (turns b h cs) (turns b (after b h cs) ds)
