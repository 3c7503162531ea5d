-- A section's kept string, read back, names the same settings.
use Rattle.std.proofs.Common.{◌≡◌, ℕ, cond, ◌&&◌, eqb, List, length, Some, None, Option, sym, ap, ◌∙◌, arith}
use Rattle.std.proofs.lemmas.List.{length-map}
use Rattle.std.proofs.lemmas.Bool.{le-leb, lt-ltb, eq-eqb, cond-true}
use Rattle.settings.specs.declared.names.Section.{Section}
use Rattle.settings.specs.declared.names.Section.TheVariants.{Port, Messages, Navigation, Pulse, Group}
use Rattle.settings.specs.declared.values.Settings.{Settings}
use Rattle.numbers.specs.Bytes.{u4_at}
use Rattle.settings.specs.Bytes.{four_at, five_of}
use Rattle.settings.specs.Ranges.{interval_in_range, systems_in_range, pulse_in_range}
use Rattle.settings.specs.Values.{Values, values}
use Rattle.settings.specs.Strings.{kept_string, read_back}
use Rattle.settings.proofs.Lists.{four_is, five_is, u2_back, u4_back}

pub back : (s : Settings) (section : Section) → read_back (values s) section (kept_string (values s) section) ≡ Some (values s)
back s Port = let c = le-leb s.baud.code 5 s.baud.range in rw c
back s Messages =
    let v = values s in
    let n : length v.rates ≡ 5 = length-map s.messages.entries (λ e. e.rate) ∙ s.five in
    let named : List ℕ → Values = λ r. record { baud = v.baud; rates = r; interval = v.interval; systems = v.systems; pulse = v.pulse; group = v.group } in
    cond-true (eqb (length v.rates) 5) (Some (named (five_of v.rates))) None (eq-eqb (length v.rates) 5 n) ∙ ap (λ r. Some (named r)) (sym (five_is v.rates n))
back s Navigation =
    let v = values s in
    let i = s.interval.milliseconds in
    let most = s.interval.high in
    let p = le-leb 100 i s.interval.low in
    let q = le-leb i 10000 s.interval.high in
    let a = le-leb 1 s.systems.mask s.systems.low in
    let b = le-leb s.systems.mask 7 s.systems.high in
    let read : ℕ → Option Values = λ x. cond (interval_in_range x && systems_in_range v.systems) (Some (record { baud = v.baud; rates = v.rates; interval = x; systems = v.systems; pulse = v.pulse; group = v.group })) None in
    let decided : read i ≡ Some v = rw (p, q, a, b) in
    ap read (u2_back i (omega arith)) ∙ decided
back s Pulse =
    let v = values s in
    let p = s.pulse in
    let shorter = p.shorter in
    let small = p.fits in
    let read : ℕ → ℕ → List ℕ → Option Values = λ x y d. cond (pulse_in_range x y p.enable p.polarity p.reference)
    (Some (record {
      baud = v.baud;
      rates = v.rates;
      interval = v.interval;
      systems = v.systems;
      pulse = record { interval = x; width = y; enable = p.enable; polarity = p.polarity; reference = p.reference; source = p.source; delay = d };
      group = v.group;
    })) None in
    let a = lt-ltb p.width p.interval p.shorter in
    let b = le-leb p.enable 3 p.enable_range in
    let c = le-leb p.polarity 1 p.polarity_range in
    let d = le-leb p.reference 1 p.reference_range in
    let decided : read p.interval p.width p.delay ≡ Some v = rw (a, b, c, d) in
    ap (λ x. read x (u4_at (kept_string v Pulse) 4) (four_at p.delay 0)) (u4_back p.interval p.fits)
    ∙ ap (λ y. read p.interval y (four_at p.delay 0)) (u4_back p.width (omega arith))
    ∙ ap (read p.interval p.width) (sym (four_is p.delay p.four))
    ∙ decided
back s Group = let l = eq-eqb (length s.group.bytes) 56 s.group.whole in rw l
