-- A message's entry at a fix.
use Rattle.std.specs.Prelude.{ℕ, ◌+◌, ◌%◌, Bool, cond, not, ◌&&◌, ◌==◌}

-- the count after one fix more, at a rate
abbrev pub next_count : ℕ → ℕ → ℕ
next_count rate count = cond (rate == 0) 0 ((count + 1) % rate)

-- whether the message goes out at that fix
abbrev pub is_due : ℕ → ℕ → Bool
is_due rate count = not (rate == 0) && next_count rate count == 0
