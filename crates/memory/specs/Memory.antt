-- What a settings memory means, and what each of its calls answers and leaves.
use Rattle.std.specs.Prelude.{◌≡◌, ℕ, ◌-◌, ◌≤◌, Bool, false, cond, not, ◌&&◌, ◌||◌, List, length, IfSome, is_ok, Some, None, Ok, Err, Option, Result, ◌==◌, nat_eq, nat_le, nat_lt}
use Rattle.std.specs.Option.{option_map}
use Rattle.std.specs.Map.{update}
use Rattle.memory.specs.declared.Refusal.{Refusal}
use Rattle.memory.specs.declared.Refusal.TheVariants.{UnknownSection, StringTooLong, NoWritesLeft, BufferTooShort}
use Rattle.std.specs.Borrow.{Bor}
use Rattle.memory.specs.Bytes.{over}

-- the kept string of each section or none, the writes left, and what one write costs
pub record Meaning : Type 0 where
  pub string : ℕ → Option (List ℕ)
  pub left : ℕ
  pub price : ℕ

-- the numbers of the five sections
abbrev pub known : ℕ → Bool
known s = nat_lt s 2 || (nat_lt 2 s && nat_lt s 6)

-- the number of each refusal
abbrev pub number : Refusal → ℕ
number UnknownSection = 7
number StringTooLong = 8
number NoWritesLeft = 9
number BufferTooShort = 10

-- the refusal of each number, 7 to 10
abbrev pub refusal : ℕ → Refusal
refusal n = cond (n == 7) UnknownSection (cond (n == 8) StringTooLong (cond (n == 9) NoWritesLeft BufferTooShort))

-- a refusal where its cause holds, else what the next cause says
abbrev pub refuse : {A : Type 0} → Bool → Refusal → Result A Refusal → Result A Refusal
refuse cause why next = cond cause (Err why) next

-- the named section alone changes, and the change is paid for
abbrev pub changed : Meaning → ℕ → Option (List ℕ) → Meaning
changed m s v = record { string = update nat_eq m.string s v; left = m.left - m.price; price = m.price }

-- a known section, and a string that is short enough for it
abbrev pub keepable : ℕ → List ℕ → Bool
keepable s b = known s && nat_le (length b) 56

-- what keep answers
abbrev pub keep_answer : Meaning → ℕ → List ℕ → Result (Unit {0}) Refusal
keep_answer m s b =
    refuse (not (known s)) UnknownSection (refuse (nat_lt 56 (length b)) StringTooLong (refuse (nat_lt m.left m.price) NoWritesLeft (Ok tt)))

-- what keep leaves
abbrev pub keep_after : Meaning → ℕ → List ℕ → Meaning
keep_after m s b = cond (is_ok (keep_answer m s b)) (changed m s (Some b)) m

-- what erase answers
abbrev pub erase_answer : Meaning → ℕ → Result (Unit {0}) Refusal
erase_answer m s = refuse (not (known s)) UnknownSection (refuse (nat_lt m.left m.price) NoWritesLeft (Ok tt))

-- what erase leaves
abbrev pub erase_after : Meaning → ℕ → Meaning
erase_after m s = cond (is_ok (erase_answer m s)) (changed m s None) m

-- what read answers over a buffer of n bytes: the length of the string, or none
abbrev pub read_answer : Meaning → ℕ → ℕ → Result (Option ℕ) Refusal
read_answer m s n = refuse (not (known s)) UnknownSection (refuse (nat_lt n 56) BufferTooShort (Ok (option_map length (m.string s))))

-- the buffer with the string, if there is one, over its start
abbrev pub with_string : Option (List ℕ) → List ℕ → List ℕ
with_string None out = out
with_string (Some b) out = over b out

-- what read leaves in the buffer
abbrev pub read_out : Meaning → ℕ → List ℕ → List ℕ
read_out m s out = cond (is_ok (read_answer m s (length out))) (with_string (m.string s) out) out

-- the string of a section, for whoever has room for every string
abbrev pub string_answer : Meaning → ℕ → Result (Option (List ℕ)) Refusal
string_answer m s = refuse (not (known s)) UnknownSection (Ok (m.string s))

-- an answer that lends the string, as the string itself
abbrev pub lent : Result (Option (Bor (List ℕ))) Refusal → Result (Option (List ℕ)) Refusal
lent (Ok o) = Ok (option_map (λ b. b.now) o)
lent (Err e) = Err e

-- a string that a section may hold
abbrev pub Fitting : Option (List ℕ) → Type 0
Fitting o = IfSome o (λ b. length b ≤ 56)

-- what holds of the meaning of every memory
pub record Limits (m : Meaning) : Type 0 where
  pub cheap : m.price ≤ 1
  pub short : (s : ℕ) → Fitting (m.string s)
  pub unknown : (s : ℕ) → known s ≡ false → m.string s ≡ None
