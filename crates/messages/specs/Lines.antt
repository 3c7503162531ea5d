-- What a line under way holds.
use Rattle.std.specs.Prelude.{ℕ, List}
use Rattle.messages.specs.declared.line.Line.{Line}

-- the bytes written so far
abbrev pub written : Line → List ℕ
written l = l.text
