-- The last word after every call of a list.
use Rattle.std.proofs.Common.{◌≡◌, ℕ, zero, suc, ◌+◌, ◌<◌, Bool, true, false, cond, ltb, List, [], ◌∷◌, ◌++◌, length, get_or, take, unwrap_or, sym, refl, ap, ◌∙◌, subst, arith}
use Rattle.std.proofs.lemmas.List.{take_more, get_or-map}
use Rattle.wire.specs.declared.reading.Ending.{Ending}
use Rattle.wire.specs.declared.reading.Ending.TheVariants.{More, Pause}
use Rattle.wire.specs.Items.{Item}
use Rattle.memory.specs.Memory.{Meaning}
use Rattle.commands.specs.Commands.{Request, passed_over, wrong, command, request_of}
use Rattle.rule.specs.Events.{Event, powered}
use Rattle.rule.specs.Words.{State, named, found}
use Rattle.rule.specs.LastWord.{LastWord}
use Rattle.rule.specs.Judging.{judged, heard}
use Rattle.rule.specs.Saying.{Said, opened, spoken, told}
use Rattle.rule.specs.Calls.{History, Turn, Whole, Keeps, start, refused, hears, items}
use Rattle.rule.specs.Runs.{Call, send, pause, power, turn, turns, after, Given, given_by, given}
use Rattle.rule.specs.Law.{Lived}
use Rattle.rule.proofs.LastWords.{Begun, begun_one, begun_more, last_word}
use Rattle.rule.proofs.Runs.{after_append}
use Rattle.rule.proofs.Talks.{follows_named}

begun_heard : (b : State) (h : List Event) (r : Request) → Begun h → Begun (heard b h r)
begun_heard b h passed_over g = g
begun_heard b h wrong g = g
begun_heard b h (command c) g = begun_more (unwrap_or (judged b h c) []) g

begun_told : (b : State) (xs : List Item) (s : Said) → Begun s.events → Begun (told b s xs).events
begun_told b [] s g = g
begun_told b (x ∷ xs) s g = begun_told b xs (spoken b s x) (begun_heard b s.events (request_of x) g)

abbrev GoesOn : Turn → Type 0
GoesOn t = Begun t.next.events

either : (x : Bool) (t u : Turn) → GoesOn t → GoesOn u → GoesOn (cond x t u)
either true t u g k = g
either false t u g k = k

module _ (b : State) where
  begun_hears : (h : History) (e : Ending) (bytes : List ℕ) → Begun h.events → GoesOn (hears b h e bytes)
  begun_hears h e bytes g = begun_told b (items e (h.unread ++ bytes)) (opened h.events) g

  begun_turn : (h : History) (c : Call) → Begun h.events → GoesOn (turn b h c)
  begun_turn h (send bytes room) g =
      either (ltb 256 (length bytes)) (refused h 1) (cond (ltb room 2304) (refused h 2) (hears b h More bytes)) g
      (either (ltb room 2304) (refused h 2) (hears b h More bytes) g (begun_hears h More bytes g))
  begun_turn h (pause room) g = either (ltb room 2304) (refused h 2) (hears b h Pause []) g (begun_hears h Pause [] g)
  begun_turn h power g = begun_more (powered ∷ []) g

  begun_all : (cs : List Call) (h : History) → Begun h.events → Begun (after b h cs).events
  begun_all [] h g = g
  begun_all (c ∷ cs) h g = begun_all cs (turn b h c).next (begun_turn h c g)

  length_turns : (h : History) (cs : List Call) → length (turns b h cs) ≡ length cs
  length_turns h [] = refl
  length_turns h (c ∷ cs) = ap suc (length_turns (turn b h c).next cs)

  turns_at : (h : History) (cs : List Call) (k : ℕ) (c : Call) (t : Turn) → k < length cs → get_or (turns b h cs) k t ≡ turn b (after b h (take k cs)) (get_or cs k c)
  turns_at h [] k c t l = absurd (omega arith)
  turns_at h (x ∷ cs) zero c t l = refl
  turns_at h (x ∷ cs) (suc k) c t l = turns_at (turn b h x).next cs k c t (omega arith)

  after_next : (h : History) (cs : List Call) (k : ℕ) (c : Call) → k < length cs → after b h (take (k + 1) cs) ≡ (turn b (after b h (take k cs)) (get_or cs k c)).next
  after_next h cs k c l = ap (after b h) (take_more cs k c l) ∙ after_append b h (take k cs) (get_or cs k c ∷ [])

  -- what call k gave
  pub gave_at : (h : History) (cs : List Call) (gave : List Given) → gave ≡ given b h cs → (k : ℕ) (c : Call) (g : Given) → k < length cs → get_or gave k g ≡ given_by b (turn b (after b h (take k cs)) (get_or cs k c))
  gave_at h cs gave e k c g l =
      let t = turn b h c in
      let lt : k < length (turns b h cs) = omega (arith, length_turns h cs) in
      ap (λ x. get_or x k g) e ∙ get_or-map (given_by b) (turns b h cs) k t g lt ∙ ap (given_by b) (turns_at h cs k c t l)

module _ (m : Meaning) (cs : List Call) (gave : List Given) (w : Whole) (e : gave ≡ given (found m) start cs) (keeps : Keeps (found m) (after (found m) start cs) w) where
  word_at : (k : ℕ) (c : Call) (g : Given) → k < length cs → LastWord (found m) (after (found m) start (take (k + 1) cs)).events (get_or gave k g).card.state
  word_at k c g l =
      let b = found m in
      let h = after b start (take (k + 1) cs) in
      let is : named b h.events ≡ (get_or gave k g).card.state = ap (λ y. named b y.events) (after_next b start cs k c l) ∙ sym (ap (λ y. y.card.state) (gave_at b start cs gave e k c g l)) in
      subst (LastWord b h.events) is (last_word b h.events (named b h.events) (begun_all b (take (k + 1) cs) start begun_one) (follows_named b h.events))

  words_of : (ds : List Call) → ds ≡ cs → (k : ℕ) (g : Given) → k < length cs → LastWord (found m) (after (found m) start (take (k + 1) cs)).events (get_or gave k g).card.state
  words_of [] q k g l = let z : length cs ≡ 0 = sym (ap length q) in absurd (omega arith)
  words_of (c ∷ ds) q k g l = word_at k c g l

  pub lives : Lived m cs gave w
  lives = record {
    answers = e;
    words = words_of cs refl;
    last = last_word (found m) (after (found m) start cs).events w.state (begun_all (found m) cs start begun_one) keeps.follows;
    keeps = keeps;
  }
