-- A sentence whose 82 bytes are there.
use Rattle.std.proofs.Common.{◌≡◌, ℕ, ◌≤◌, false, ltb, List, length, take, ap}
use Rattle.std.proofs.lemmas.Bool.{le-ltb}
use Rattle.wire.specs.Tries.{Try, ended, star_of, from_star, sentence_try}

pub full_size : (bs : List ℕ) (t : Try) → 82 ≤ length bs → t ≡ from_star (take 82 bs) (star_of (take 82 bs)) → ended t ≡ sentence_try bs
full_size bs t h e = let no : ltb (length bs) 82 ≡ false = le-ltb (length bs) 82 h in rw no (ap ended e)
