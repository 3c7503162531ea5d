-- The battery memory keeps to the limits of a settings memory.
use Rattle.std.specs.Prelude.{◌≡◌, ℕ, ◌≤◌, true, ◌&&◌, List, length, take, drop, Some, None, ◌==◌, nat_le, slice_index, slice_index_or}
use Rattle.std.proofs.Common.{arith, length-take}
use Rattle.std.proofs.lemmas.Bool.{leb-true, and_parts, cond_both, cond-false}
use Rattle.memory.specs.Bytes.{part}
use Rattle.memory.specs.Memory.{Fitting, Limits, known}
use Rattle.battery.specs.Places.{start, string_in, battery_string, battery_meaning}

-- no place holds a longer string
short : (image : List ℕ) (s : ℕ) → Fitting (battery_string image s)
short image s =
    let p : List ℕ = part image (start s) in
    let few : (slice_index p 0 == 1 && nat_le (slice_index p 1) 56) ≡ true → length (take (slice_index p 1) (drop 4 p)) ≤ 56 = λ e. let l : slice_index_or p 1 0 ≤ 56 = leb-true (slice_index p 1) 56 (and_parts _ _ e).1 in simp length-take (omega arith) in
    cond_both (known s) (string_in p) None Fitting (λ _. cond_both (slice_index p 0 == 1 && nat_le (slice_index p 1) 56) (Some (take (slice_index p 1) (drop 4 p))) None Fitting few (λ _. tt)) (λ _. tt)

-- the limits hold of every image
pub battery_limits : (image : List ℕ) → Limits (battery_meaning image)
battery_limits image = record { cheap = omega arith; short = short image; unknown = λ s e. cond-false (known s) (string_in (part image (start s))) None e }
