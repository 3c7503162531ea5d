-- Five sections, one after the other.
use Rattle.std.proofs.Common.{◌≡◌, ℕ, ◌+◌, ◌-◌, ◌*◌, Bool, true, false, cond, List, [], ◌∷◌, fold, sum_by, Option, unwrap_or, sym, refl, ap, ◌∙◌, add-mul, arith}
use Rattle.settings.specs.declared.names.Section.{Section}
use Rattle.settings.specs.declared.names.Section.TheVariants.{Port, Messages, Navigation, Pulse, Group}
use Rattle.settings.specs.declared.names.Message.{Message}
use Rattle.commands.specs.declared.command.Sections.{Sections}
use Rattle.commands.specs.Settings.{Configuration, rate}
use Rattle.commands.specs.Commands.{names_section}
use Rattle.rule.specs.Events.{Strings, kept_settings, loaded, files, one_if, how_many, when, writes}
use Rattle.rule.specs.Words.{State, chosen}
use Rattle.rule.specs.Steps.{stepped}
use Rattle.inforce.specs.declared.parts.Writing.{Writing}
use Rattle.inforce.specs.declared.parts.Writing.TheVariants.{Keep, Erase}
use Rattle.inforce.specs.Sections.{in_section, with_filed, filed, paid, writing_event}

abbrev pub all : List Section
all = Port ∷ Messages ∷ Navigation ∷ Pulse ∷ Group ∷ []

-- the settings and the counts after some sections are loaded
abbrev pub settings_after : Sections → Strings → Configuration → List Section → Configuration
settings_after x k c sections = fold (λ d s. chosen (in_section x s) (kept_settings k) d) c sections

abbrev pub count_after : Sections → (Message → ℕ) → List Section → Message → ℕ
count_after x n sections m = fold (λ k s. cond (in_section x s (rate m)) 0 k) (n m) sections

-- the strings after some sections are written, and what that costs
abbrev pub strings_after : Writing → Configuration → Sections → Strings → List Section → Strings
strings_after w c x k sections = fold (λ h s. with_filed w c x s h) k sections

abbrev pub cost_of : Sections → ℕ → List Section → ℕ
cost_of x p sections = sum_by (λ s. one_if (names_section x s) * p) sections

pub cost_of_all : (x : Sections) (p : ℕ) → cost_of x p all ≡ how_many x * p
cost_of_all x p =
    let A = one_if x.port in
    let B = one_if x.messages in
    let C = one_if x.navigation in
    let D = one_if x.pulse in
    let E = one_if x.group in
    let e = add-mul (A + B + C + D) E p ∙ ap (λ y. y + E * p) (add-mul (A + B + C) D p ∙ ap (λ y. y + D * p) (add-mul (A + B) C p ∙ ap (λ y. y + C * p) (add-mul A B p))) in
    omega (arith, e)

module _ (x : Sections) (v : State) where
  pub loaded_all : (c : Configuration) (n : Message → ℕ) → c ≡ settings_after x v.string v.settings all → ((m : Message) → n m ≡ count_after x v.count all m)
      → record { settings = c; count = n; string = v.string; left = v.left; price = v.price } ≡ stepped v (loaded x)
  loaded_all c n settings count =
      let left : v.left ≡ v.left - 0 * v.price = omega arith in
      λ i. record { settings = settings i; count = λ m. count m i; string = v.string; left = left i; price = v.price }

  module _ (w : Writing) where
    as_filed : (b : Bool) (o k : Option (List ℕ)) → cond b o k ≡ unwrap_or (when b o) k
    as_filed true o k = refl
    as_filed false o k = refl

    files_of : (u : Writing) (t : Section) (k : Strings) → cond (names_section x t) (filed u v.settings t) (k t) ≡ unwrap_or (files (writing_event u x) t v.settings) (k t)
    files_of Keep t k = as_filed (names_section x t) _ _
    files_of Erase t k = as_filed (names_section x t) _ _

    written_event : (u : Writing) → writes (writing_event u x) ≡ how_many x
    written_event Keep = refl
    written_event Erase = refl

    pub written_all : (k : Strings) (l p : ℕ) → ((t : Section) → k t ≡ strings_after w v.settings x v.string all t) → l ≡ v.left - cost_of x v.price all → p ≡ v.price
        → record { settings = v.settings; count = v.count; string = k; left = l; price = p } ≡ stepped v (writing_event w x)
    written_all k l p strings paid price = whole w (λ t. named t ∙ files_of w t v.string) (left ∙ ap (λ n. v.left - n * v.price) (sym (written_event w)))
      where
        named : (t : Section) → k t ≡ cond (names_section x t) (filed w v.settings t) (v.string t)
        named Port = strings Port
        named Messages = strings Messages
        named Navigation = strings Navigation
        named Pulse = strings Pulse
        named Group = strings Group

        left : l ≡ v.left - how_many x * v.price
        left = paid ∙ ap (λ n. v.left - n) (cost_of_all x v.price)

        whole : (u : Writing) → ((t : Section) → k t ≡ unwrap_or (files (writing_event u x) t v.settings) (v.string t)) → l ≡ v.left - writes (writing_event u x) * v.price → record { settings = v.settings; count = v.count; string = k; left = l; price = p } ≡ stepped v (writing_event u x)
        whole Keep f m = λ i. record { settings = v.settings; count = v.count; string = λ t. f t i; left = m i; price = price i }
        whole Erase f m = λ i. record { settings = v.settings; count = v.count; string = λ t. f t i; left = m i; price = price i }
