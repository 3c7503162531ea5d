-- The sum of a frame, one word at a time.
use Rattle.std.proofs.Common.{◌≡◌, ℕ, zero, suc, ◌+◌, ◌/◌, List, [], ◌∷◌, length, get_or, sym, refl, ap, ◌∙◌, arith}
use Rattle.std.specs.List.{sum_by}
use Rattle.std.specs.Simd.{first_chunks}
use Rattle.std.proofs.lemmas.List.Sums.{sum_by-cons}
use Rattle.numbers.specs.Bytes.{word}
use Rattle.wire.specs.Frames.{word_sum}

-- four bytes as a number
abbrev pub word_of : List ℕ → ℕ
word_of w = word (get_or w 0 0) (get_or w 1 0) (get_or w 2 0) (get_or w 3 0)

-- the words are the chunks of four bytes
pub words : (k : ℕ) (xs : List ℕ) → length xs / 4 ≡ k → word_sum xs ≡ sum_by word_of (first_chunks 4 k xs)
words zero [] h = refl
words zero (a ∷ []) h = refl
words zero (a ∷ b ∷ []) h = refl
words zero (a ∷ b ∷ c ∷ []) h = refl
words zero (a ∷ b ∷ c ∷ d ∷ xs) h = absurd (omega arith)
words (suc k) [] h = absurd (omega arith)
words (suc k) (a ∷ []) h = absurd (omega arith)
words (suc k) (a ∷ b ∷ []) h = absurd (omega arith)
words (suc k) (a ∷ b ∷ c ∷ []) h = absurd (omega arith)
words (suc k) (a ∷ b ∷ c ∷ d ∷ xs) h = ap (λ n. word a b c d + n) (words k xs (omega arith)) ∙ sym (sum_by-cons word_of (a ∷ b ∷ c ∷ d ∷ []) (first_chunks 4 k xs))

-- the same of all the chunks
pub all_words : (xs : List ℕ) {chunks : List (List ℕ)} → chunks ≡ first_chunks 4 (length xs / 4) xs → sum_by word_of chunks ≡ word_sum xs
all_words xs e = ap (sum_by word_of) e ∙ sym (words (length xs / 4) xs refl)
