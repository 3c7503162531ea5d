-- What the rule names is the last word.
use Rattle.std.proofs.Common.{◌≡◌, ℕ, Bool, true, false, cond, List, [], ◌∷◌, ◌++◌, is_some, Some, None, Option, unwrap_or, sym, refl, ap, ◌∙◌, subst, append_assoc}
use Rattle.settings.specs.declared.names.Section.{Section}
use Rattle.commands.specs.Settings.{Name, baud, rate, interval, systems, pulse, group, Configuration}
use Rattle.commands.specs.Commands.{names_section}
use Rattle.rule.specs.Events.{Event, built, powered, restarted, factoried, fixed, set, saved, cleared, loaded, when, touches, names, files}
use Rattle.rule.specs.Words.{State, chosen, in_force, kept, Follows}
use Rattle.rule.specs.LastWord.{NoneOf, SomeLatest, Agree, files_it, LastWord}

agree_trans : (n : Name) (c d e : Configuration) → Agree n c d → Agree n d e → Agree n c e
agree_trans baud c d e p q = p ∙ q
agree_trans (rate m) c d e p q = p ∙ q
agree_trans interval c d e p q = p ∙ q
agree_trans systems c d e p q = p ∙ q
agree_trans pulse c d e p q = p ∙ q
agree_trans group c d e p q = p ∙ q

agree_is : (n : Name) {c d : Configuration} → c ≡ d → Agree n c d
agree_is baud p = ap (λ x. x.baud) p
agree_is (rate m) p = ap (λ x. x.rate m) p
agree_is interval p = ap (λ x. x.interval) p
agree_is systems p = ap (λ x. x.systems) p
agree_is pulse p = ap (λ x. x.pulse) p
agree_is group p = ap (λ x. x.group) p

module _ (test : Name → Bool) (c d : Configuration) where
  taken : (n : Name) → test n ≡ true → Agree n (chosen test c d) c
  taken baud e = ap (λ b. cond b c.baud d.baud) e
  taken (rate m) e = ap (λ b. cond b (c.rate m) (d.rate m)) e
  taken interval e = ap (λ b. cond b c.interval d.interval) e
  taken systems e = ap (λ b. cond b c.systems d.systems) e
  taken pulse e = ap (λ b. cond b c.pulse d.pulse) e
  taken group e = ap (λ b. cond b c.group d.group) e

  left_alone : (n : Name) → test n ≡ false → Agree n (chosen test c d) d
  left_alone baud e = ap (λ b. cond b c.baud d.baud) e
  left_alone (rate m) e = ap (λ b. cond b (c.rate m) (d.rate m)) e
  left_alone interval e = ap (λ b. cond b c.interval d.interval) e
  left_alone systems e = ap (λ b. cond b c.systems d.systems) e
  left_alone pulse e = ap (λ b. cond b c.pulse d.pulse) e
  left_alone group e = ap (λ b. cond b c.group d.group) e

when_some : (b : Bool) (x : Option (List ℕ)) → is_some (when b x) ≡ b
when_some true x = refl
when_some false x = refl

-- whether an event files a string does not depend on the settings
files_same : (e : Event) (s : Section) (c : Configuration) → is_some (files e s c) ≡ files_it s e
files_same built s c = refl
files_same powered s c = refl
files_same restarted s c = refl
files_same factoried s c = refl
files_same fixed s c = refl
files_same (set x) s c = refl
files_same (saved x) s c = when_some (names_section x s) _ ∙ sym (when_some (names_section x s) _)
files_same (cleared x) s c = refl
files_same (loaded x) s c = refl

not_filed : (o : Option (Option (List ℕ))) (d : Option (List ℕ)) → is_some o ≡ false → unwrap_or o d ≡ d
not_filed None d e = refl
not_filed (Some x) d e = cc

filed : (o : Option (Option (List ℕ))) (d : Option (List ℕ)) → is_some o ≡ true → o ≡ Some (unwrap_or o d)
filed None d e = cc
filed (Some x) d e = refl

module _ (b : State) where
  force_over : (n : Name) (newer rest : List Event) → NoneOf (λ e. touches e n) newer → Agree n (in_force b (newer ++ rest)) (in_force b rest)
  force_over n [] rest q = agree_is n refl
  force_over n (e ∷ newer) rest q = agree_trans n (in_force b (e ∷ newer ++ rest)) (in_force b (newer ++ rest)) (in_force b rest) (left_alone (touches e) (names e (kept b (newer ++ rest))) (in_force b (newer ++ rest)) n q.0) (force_over n newer rest q.1)

  kept_over : (s : Section) (newer rest : List Event) → NoneOf (files_it s) newer → kept b (newer ++ rest) s ≡ kept b rest s
  kept_over s [] rest q = refl
  kept_over s (e ∷ newer) rest q = not_filed (files e s (in_force b (newer ++ rest))) _ (files_same e s _ ∙ q.0) ∙ kept_over s newer rest q.1

  kept_found : (s : Section) (h : List Event) → NoneOf (files_it s) h → kept b h s ≡ b.string s
  kept_found s [] q = refl
  kept_found s (e ∷ h) q = not_filed (files e s (in_force b h)) _ (files_same e s _ ∙ q.0) ∙ kept_found s h q.1

-- events that begin with the build
pub record Begun (h : List Event) : Type 0 where
  pub newer : List Event
  pub split : h ≡ newer ++ built ∷ []

pub begun_one : Begun (built ∷ [])
begun_one = record { newer = []; split = refl }

pub begun_more : (l : List Event) {h : List Event} → Begun h → Begun (l ++ h)
begun_more l b = record { newer = l ++ b.newer; split = ap (λ k. l ++ k) b.split ∙ sym (append_assoc l b.newer (built ∷ [])) }

found_in : (p : Event → Bool) → p built ≡ true → (newer : List Event) → SomeLatest p (newer ++ built ∷ [])
found_in p z [] = record { event = built; older = []; latest = record { newer = []; split = refl; here = z; quiet = tt } }
found_in p z (x ∷ xs) = go (p x) refl (found_in p z xs)
  where
    go : (b : Bool) → p x ≡ b → SomeLatest p (xs ++ built ∷ []) → SomeLatest p ((x ∷ xs) ++ built ∷ [])
    go true e r = record { event = x; older = xs ++ built ∷ []; latest = record { newer = []; split = refl; here = e; quiet = tt } }
    go false e r = record { event = r.event; older = r.older; latest = record { newer = x ∷ r.latest.newer; split = ap (λ k. x ∷ k) r.latest.split; here = r.latest.here; quiet = (e, r.latest.quiet) } }

pub last_word : (b : State) (h : List Event) (v : State) → Begun h → Follows b h v → LastWord b h v
last_word b h v begun f = record {
  some = λ n. subst (SomeLatest (λ e. touches e n)) (sym begun.split) (found_in (λ e. touches e n) refl begun.newer);
  force = λ n e older l.
      agree_trans n v.settings (in_force b (l.newer ++ e ∷ older)) (names e (kept b older)) (agree_is n (f.settings ∙ ap (in_force b) l.split))
      (agree_trans n (in_force b (l.newer ++ e ∷ older)) (in_force b (e ∷ older)) (names e (kept b older)) (force_over b n l.newer (e ∷ older) l.quiet) (taken (touches e) (names e (kept b older)) (in_force b older) n l.here));
  string = λ s e older l.
      filed (files e s (in_force b older)) (kept b older s) (files_same e s _ ∙ l.here)
      ∙ ap Some (sym (kept_over b s l.newer (e ∷ older) l.quiet) ∙ ap (λ g. kept b g s) (sym l.split) ∙ sym (f.string s));
  found = λ s q. f.string s ∙ kept_found b s h q;
  paid = f.left;
}
