-- A setting that is set, by its name.
use Rattle.std.proofs.Common.{◌≡◌, ℕ, ◌+◌, ◌-◌, ◌*◌, ◌<◌, ◌≤◌, Bool, false, cond, eqb, List, length, get_or, set, sym, ap, ◌∙◌, ⊎_elim, arith, ne_eqb}
use Rattle.std.proofs.lemmas.List.{get_or-set_same, get_or-set_other, length-map}
use Rattle.std.proofs.lemmas.Bool.{cases_eq, eq-eqb}
use Rattle.settings.specs.declared.names.Message.{Message}
use Rattle.settings.specs.declared.values.Setting.{Setting}
use Rattle.settings.specs.declared.values.Setting.TheVariants.{Baud, Rate, Interval, Systems, Pulse, Group}
use Rattle.settings.specs.declared.values.Settings.{Settings}
use Rattle.settings.specs.Names.{place}
use Rattle.settings.specs.Values.{Values, values, counts}
use Rattle.settings.specs.Changes.{with_setting, counts_set}
use Rattle.settings.proofs.Table.{place_within}
use Rattle.commands.specs.Settings.{configuration, rate}
use Rattle.commands.specs.Seen.{change_of}
use Rattle.rule.specs.Events.{touches, carried, Strings}
use Rattle.rule.specs.Events as event
use Rattle.rule.specs.Words.{chosen}
use Rattle.rule.specs.Steps.{stepped}
use Rattle.inforce.specs.Has.{settings_of, count_of}

-- the number of a rate is that of no other setting
low : (m : Message) → eqb 0 (1 + place m) ≡ false
low m = ne_eqb 0 (1 + place m) (λ e. omega (arith, place_within m))

high : (k : ℕ) (m : Message) → 6 ≤ k → eqb k (1 + place m) ≡ false
high k m h = ne_eqb k (1 + place m) (λ e. omega (arith, place_within m))

back_low : (m : Message) → eqb (1 + place m) 0 ≡ false
back_low m = ne_eqb (1 + place m) 0 (λ e. omega (arith, place_within m))

back_high : (k : ℕ) (m : Message) → 6 ≤ k → eqb (1 + place m) k ≡ false
back_high k m h = ne_eqb (1 + place m) k (λ e. omega (arith, place_within m))

-- one element of a table of five that is set
at_message : (l : List ℕ) (m k : Message) (n : ℕ) → length l ≡ 5 → get_or (set l (place m) n) (place k) 0 ≡ cond (eqb (1 + place m) (1 + place k)) n (get_or l (place k) 0)
at_message l m k n five = ⊎_elim
    (λ (e : place k ≡ place m).
    let within : place m < length l = omega (arith, place_within m) in
    let same : 1 + place m ≡ 1 + place k = omega arith in
    ap (λ j. get_or (set l (place m) n) j 0) e ∙ get_or-set_same l (place m) n 0 within ∙ sym (ap (λ t. cond t n (get_or l (place k) 0)) (eq-eqb (1 + place m) (1 + place k) same)))
    (λ (ne : place k ≡ place m → ⊥).
    get_or-set_other l (place m) (place k) n 0 ne ∙ sym (ap (λ t. cond t n (get_or l (place k) 0)) (ne_eqb (1 + place m) (1 + place k) (λ e. ne (omega arith)))))
    (cases_eq (place k) (place m))

module _ (v : Values) (five : length v.rates ≡ 5) where
  abbrev SetAs : Setting → Type 0
  SetAs x = configuration (with_setting v x) ≡ chosen (touches (event.set (change_of x))) (carried (change_of x)) (configuration v)

  unrated : (b : Message → Bool) (f : Message → ℕ) → ((m : Message) → b m ≡ false) → (m : Message) → get_or v.rates (place m) 0 ≡ cond (b m) (f m) (get_or v.rates (place m) 0)
  unrated b f apart m = sym (ap (λ t. cond t (f m) (get_or v.rates (place m) 0)) (apart m))

  set_as : (x : Setting) → SetAs x
  set_as (Baud x) = λ i. record { baud = x.code; rate = λ m. unrated (λ m. eqb 0 (1 + place m)) (carried (change_of (Baud x))).rate low m i; interval = v.interval; systems = v.systems; pulse = v.pulse; group = v.group }
  set_as (Rate m n) =
      let a = back_low m in
      let b = back_high 6 m (omega arith) in
      let c = back_high 7 m (omega arith) in
      let d = back_high 8 m (omega arith) in
      let e = back_high 9 m (omega arith) in
      λ i. record {
        baud = cond (sym a i) 1 v.baud;
        rate = λ k. at_message v.rates m k n five i;
        interval = cond (sym b i) 1000 v.interval;
        systems = cond (sym c i) 3 v.systems;
        pulse = cond (sym d i) (carried (change_of (Rate m n))).pulse v.pulse;
        group = cond (sym e i) (carried (change_of (Rate m n))).group v.group;
      }
  set_as (Interval x) = λ i. record { baud = v.baud; rate = λ m. unrated (λ m. eqb 6 (1 + place m)) (carried (change_of (Interval x))).rate (λ m. high 6 m (omega arith)) m i; interval = x.milliseconds; systems = v.systems; pulse = v.pulse; group = v.group }
  set_as (Systems x) = λ i. record { baud = v.baud; rate = λ m. unrated (λ m. eqb 7 (1 + place m)) (carried (change_of (Systems x))).rate (λ m. high 7 m (omega arith)) m i; interval = v.interval; systems = x.mask; pulse = v.pulse; group = v.group }
  set_as (Pulse x) = λ i. record { baud = v.baud; rate = λ m. unrated (λ m. eqb 8 (1 + place m)) (carried (change_of (Pulse x))).rate (λ m. high 8 m (omega arith)) m i; interval = v.interval; systems = v.systems; pulse = (carried (change_of (Pulse x))).pulse; group = v.group }
  set_as (Group x) = λ i. record { baud = v.baud; rate = λ m. unrated (λ m. eqb 9 (1 + place m)) (carried (change_of (Group x))).rate (λ m. high 9 m (omega arith)) m i; interval = v.interval; systems = v.systems; pulse = v.pulse; group = x.bytes }

counts_as : (c : List ℕ) → length c ≡ 5 → (x : Setting) (m : Message) → get_or (counts_set c x) (place m) 0 ≡ cond (touches (event.set (change_of x)) (rate m)) 0 (get_or c (place m) 0)
counts_as c five (Baud x) m = sym (ap (λ t. cond t 0 (get_or c (place m) 0)) (low m))
counts_as c five (Rate k n) m = at_message c k m 0 five
counts_as c five (Interval x) m = sym (ap (λ t. cond t 0 (get_or c (place m) 0)) (high 6 m (omega arith)))
counts_as c five (Systems x) m = sym (ap (λ t. cond t 0 (get_or c (place m) 0)) (high 7 m (omega arith)))
counts_as c five (Pulse x) m = sym (ap (λ t. cond t 0 (get_or c (place m) 0)) (high 8 m (omega arith)))
counts_as c five (Group x) m = sym (ap (λ t. cond t 0 (get_or c (place m) 0)) (high 9 m (omega arith)))

-- settings of which one was set
pub set_step : (s t : Settings) (x : Setting) (k : Strings) (l p : ℕ) → values t ≡ with_setting (values s) x → counts t ≡ counts_set (counts s) x
    → record { settings = settings_of t; count = count_of t; string = k; left = l; price = p } ≡ stepped (record { settings = settings_of s; count = count_of s; string = k; left = l; price = p }) (event.set (change_of x))
set_step s t x k l p ev ec =
    let rates : length (values s).rates ≡ 5 = length-map s.messages.entries (λ e. e.rate) ∙ s.five in
    let entries : length (counts s) ≡ 5 = length-map s.messages.entries (λ e. e.count) ∙ s.five in
    let settings = ap configuration ev ∙ set_as (values s) rates x in
    let count : (m : Message) → count_of t m ≡ cond (touches (event.set (change_of x)) (rate m)) 0 (count_of s m) = λ m. ap (λ c. get_or c (place m) 0) ec ∙ counts_as (counts s) entries x m in
    let left : l ≡ l - 0 * p = omega arith in
    λ i. record { settings = settings i; count = λ m. count m i; string = k; left = left i; price = p }
