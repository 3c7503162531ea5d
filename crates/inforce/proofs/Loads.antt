-- A section that is loaded, by the names of its settings.
use Rattle.std.proofs.Common.{◌≡◌, ℕ, Bool, true, false, cond, ◌&&◌, List, get_or, Some, None, Option, sym, refl, ap, ◌∙◌}
use Rattle.settings.specs.declared.names.Section.{Section}
use Rattle.settings.specs.declared.names.Section.TheVariants.{Port, Messages, Navigation, Pulse, Group}
use Rattle.settings.specs.declared.names.Message.{Message}
use Rattle.settings.specs.declared.names.Message.TheVariants.{Gga, Gll, Rmc, Zda, TimeUtc}
use Rattle.settings.specs.Names.{place}
use Rattle.settings.specs.Values.{Values, factory}
use Rattle.settings.specs.Strings.{is_kept, with_section}
use Rattle.settings.specs.Changes.{counts_loaded}
use Rattle.keeping.specs.Loaded.{loaded, restored}
use Rattle.commands.specs.declared.command.Sections.{Sections}
use Rattle.commands.specs.Settings.{Configuration, configuration, section_of, rate}
use Rattle.commands.specs.Commands.{names_section}
use Rattle.rule.specs.Events.{Strings, kept_section, kept_settings}
use Rattle.rule.specs.Words.{chosen}
use Rattle.inforce.specs.Sections.{same_section, in_section}

-- one section has new values, the others stay
abbrev InOne : Section → Values → Values → Values → Type 0
InOne s v new from-factory = configuration new ≡ chosen (λ n. same_section s (section_of n)) (configuration from-factory) (configuration v)

with_one : (v : Values) (s : Section) (b : List ℕ) → InOne s v (with_section v s b) (with_section factory s b)
with_one v Port b = refl
with_one v Messages b = refl
with_one v Navigation b = refl
with_one v Pulse b = refl
with_one v Group b = refl

loaded_one : (v : Values) (s : Section) (o : Option (List ℕ)) → InOne s v (loaded v s o) (loaded factory s o)
loaded_one v s None = with_one v s _
loaded_one v s (Some b) = go (is_kept s b)
  where
    go : (t : Bool) → InOne s v (cond t (with_section v s b) (restored v s)) (cond t (with_section factory s b) (restored factory s))
    go true = with_one v s b
    go false = with_one v s _

among : (x : Sections) (k : Strings) (c : Configuration) (s : Section) → names_section x s ≡ true → chosen (λ n. same_section s (section_of n)) (kept_section k s) c ≡ chosen (in_section x s) (kept_settings k) c
among x k c Port e = λ i. chosen (λ n. same_section Port (section_of n) && sym e i) (kept_settings k) c
among x k c Messages e = λ i. chosen (λ n. same_section Messages (section_of n) && sym e i) (kept_settings k) c
among x k c Navigation e = λ i. chosen (λ n. same_section Navigation (section_of n) && sym e i) (kept_settings k) c
among x k c Pulse e = λ i. chosen (λ n. same_section Pulse (section_of n) && sym e i) (kept_settings k) c
among x k c Group e = λ i. chosen (λ n. same_section Group (section_of n) && sym e i) (kept_settings k) c

pub load_settings : (x : Sections) (k : Strings) (v w : Values) (s : Section) → names_section x s ≡ true → w ≡ loaded v s (k s) → configuration w ≡ chosen (in_section x s) (kept_settings k) (configuration v)
load_settings x k v w s e is = ap configuration is ∙ loaded_one v s (k s) ∙ among x k (configuration v) s e

pub none_counted : (m : Message) (c : List ℕ) → get_or (counts_loaded c Messages) (place m) 0 ≡ 0
none_counted Gga c = refl
none_counted Gll c = refl
none_counted Rmc c = refl
none_counted Zda c = refl
none_counted TimeUtc c = refl

pub load_counts : (x : Sections) (c d : List ℕ) (s : Section) → names_section x s ≡ true → d ≡ counts_loaded c s → (m : Message) → get_or d (place m) 0 ≡ cond (in_section x s (rate m)) 0 (get_or c (place m) 0)
load_counts x c d Port e is m = ap (λ l. get_or l (place m) 0) is
load_counts x c d Messages e is m = ap (λ l. get_or l (place m) 0) is ∙ none_counted m c ∙ (λ i. cond (sym e i) 0 (get_or c (place m) 0))
load_counts x c d Navigation e is m = ap (λ l. get_or l (place m) 0) is
load_counts x c d Pulse e is m = ap (λ l. get_or l (place m) 0) is
load_counts x c d Group e is m = ap (λ l. get_or l (place m) 0) is
