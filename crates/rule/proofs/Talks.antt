-- Cards that are sent bytes in any cuts: what they say in all.
use Rattle.std.proofs.Common.{◌≡◌, ℕ, ◌+◌, Bool, true, false, cond, ltb, List, [], ◌∷◌, ◌++◌, map, length, sym, refl, ap, ◌∙◌, subst, append_assoc, add-zero, arith}
use Rattle.std.proofs.lemmas.List.{append-nil}
use Rattle.wire.specs.declared.reading.Ending.{Ending}
use Rattle.wire.specs.declared.reading.Ending.TheVariants.{More, Pause}
use Rattle.wire.specs.Items.{Item}
use Rattle.wire.specs.Reading.{reading}
use Rattle.wire.proofs.Finding.{none_unread}
use Rattle.commands.specs.Commands.{request_of}
use Rattle.rule.specs.Events.{Event}
use Rattle.rule.specs.Words.{State, in_force, named, Follows}
use Rattle.rule.specs.Judging.{outcome}
use Rattle.rule.specs.Steps.{stepped_all, events_of}
use Rattle.rule.specs.Saying.{Said, opened, spoken, told, written, answers_to, accepts, turns_down}
use Rattle.rule.specs.Calls.{History, Turn, Waiting, refused, hears, said_to, items}
use Rattle.rule.specs.Runs.{Call, send, pause, power, turns, after, given_by, given, whole_by}
use Rattle.rule.specs.Talking.{SameState, SameCard, Alike, Noise, Speech, speech, If, Sends, SendsAndPauses, sent}
use Rattle.rule.proofs.Steps.{requests}
use Rattle.rule.proofs.Written.{written_append}
use Rattle.rule.proofs.Cuts.{items_cut, rest_cut, items_quiet, none_waits, still_waits}

-- what was said before, and what is said after it
abbrev behind : Said → Said → Said
behind s t = record { events = t.events; answers = s.answers ++ t.answers; accepted = s.accepted + t.accepted; down = s.down + t.down }

told_append : (b : State) (s : Said) (xs ys : List Item) → told b s (xs ++ ys) ≡ told b (told b s xs) ys
told_append b s [] ys = refl
told_append b s (x ∷ xs) ys = told_append b (spoken b s x) xs ys

told_behind : (b : State) (s : Said) (xs : List Item) → told b s xs ≡ behind s (told b (opened s.events) xs)
told_behind b s [] =
    let r = sym (append-nil s.answers) in
    let a = sym (add-zero s.accepted) in
    let d = sym (add-zero s.down) in
    λ i. record { events = s.events; answers = r i; accepted = a i; down = d i }
told_behind b s (x ∷ xs) =
    let o = spoken b (opened s.events) x in
    let rest = told b (opened o.events) xs in
    let y = outcome b s.events (request_of x) in
    let z = answers_to x y (in_force b s.events) in
    let r : (s.answers ++ z) ++ rest.answers ≡ s.answers ++ (z ++ rest.answers) = append_assoc s.answers z rest.answers in
    let a : (s.accepted + accepts y) + rest.accepted ≡ s.accepted + ((0 + accepts y) + rest.accepted) = omega arith in
    let d : (s.down + turns_down y) + rest.down ≡ s.down + ((0 + turns_down y) + rest.down) = omega arith in
    told_behind b (spoken b s x) xs
    ∙ (λ i. record { events = rest.events; answers = r i; accepted = a i; down = d i })
    ∙ sym (ap (behind s) (told_behind b o xs))

abbrev speech_of : Said → Speech
speech_of s = record { reply = written s.answers; accepted = s.accepted; down = s.down }

-- calls said what reading all their bytes at once says, and left what that leaves
record Talked (b : State) (h : History) (ending : Ending) (bytes : List ℕ) (ts : List Turn) (last : History) : Type 0 where
  spoke : speech (map (given_by b) ts) ≡ speech_of (said_to b h ending bytes)
  events : last.events ≡ (said_to b h ending bytes).events
  unread : last.unread ≡ (reading ending (h.unread ++ bytes) 0).unread

module _ (b : State) (h : History) (ending : Ending) where
  refused_at : {bytes : List ℕ} {ts : List Turn} {last : History} (n : ℕ) → Talked b h ending bytes ts last → Talked b h ending bytes (refused h n ∷ ts) last
  refused_at {bytes} {ts} n t = record { spoke = nothing ∙ t.spoke; events = t.events; unread = t.unread }
    where
      nothing : speech (map (given_by b) (refused h n ∷ ts)) ≡ speech (map (given_by b) ts)
      nothing =
          let p = speech (map (given_by b) ts) in
          let a : 0 + p.accepted ≡ p.accepted = omega arith in
          let d : 0 + p.down ≡ p.down = omega arith in
          λ i. record { reply = p.reply; accepted = a i; down = d i }

  said_on : (piece rest : List ℕ) → said_to b h ending (piece ++ rest) ≡ behind (said_to b h More piece) (said_to b (hears b h More piece).next ending rest)
  said_on piece rest =
      let all = h.unread ++ piece in
      let kept = (reading More all 0).unread in
      ap (λ l. told b (opened h.events) (items ending l)) (sym (append_assoc h.unread piece rest))
      ∙ ap (told b (opened h.events)) (items_cut ending all rest)
      ∙ told_append b (opened h.events) (items More all) (items ending (kept ++ rest))
      ∙ told_behind b (said_to b h More piece) (items ending (kept ++ rest))

  sent_at : (piece rest : List ℕ) {ts : List Turn} {last : History} → Talked b (hears b h More piece).next ending rest ts last → Talked b h ending (piece ++ rest) (hears b h More piece ∷ ts) last
  sent_at piece rest t =
      let x = said_to b h More piece in
      let y = said_to b (hears b h More piece).next ending rest in
      let all = h.unread ++ piece in
      record {
        spoke = (λ i. record { reply = written x.answers ++ (t.spoke i).reply; accepted = x.accepted + (t.spoke i).accepted; down = x.down + (t.spoke i).down })
            ∙ (λ i. record { reply = sym (written_append x.answers y.answers) i; accepted = x.accepted + y.accepted; down = x.down + y.down })
            ∙ ap speech_of (sym (said_on piece rest));
        events = t.events ∙ ap (λ s. s.events) (sym (said_on piece rest));
        unread = t.unread ∙ sym (rest_cut ending all rest) ∙ ap (λ l. (reading ending l 0).unread) (append_assoc h.unread piece rest);
      }

  abbrev Claim : List ℕ → Turn → List Call → Type 0
  Claim bytes t cs = Talked b h ending bytes (t ∷ turns b t.next cs) (after b t.next cs)

  send_step : (piece : List ℕ) (cs : List Call) (x y : Bool) → Talked b h ending (sent cs) (turns b h cs) (after b h cs) → Talked b (hears b h More piece).next ending (sent cs) (turns b (hears b h More piece).next cs) (after b (hears b h More piece).next cs)
      → Claim (cond (cond x false (cond y false true)) piece [] ++ sent cs) (cond x (refused h 1) (cond y (refused h 2) (hears b h More piece))) cs
  send_step piece cs true y ih next = refused_at 1 ih
  send_step piece cs false true ih next = refused_at 2 ih
  send_step piece cs false false ih next = sent_at piece (sent cs) next

pub waiting_rest : (bytes : List ℕ) → Waiting (reading More bytes 0).unread
waiting_rest bytes = record { none = none_waits bytes; still = still_waits bytes }

-- no calls say nothing
none_talked : (b : State) (h : History) → Waiting h.unread → Talked b h More [] [] h
none_talked b h w =
    let e = append-nil h.unread in
    let said : opened h.events ≡ said_to b h More [] = ap (told b (opened h.events)) (sym w.none ∙ ap (items More) (sym e)) in
    record { spoke = ap speech_of said; events = ap (λ s. s.events) said; unread = sym (ap (λ l. (reading More l 0).unread) e ∙ w.still) }

refused_pause : (b : State) (h : History) (cs : List Call) (y : Bool) → If (cond y false true) ⊥ (Sends cs) → (Sends cs → Talked b h More (sent cs) (turns b h cs) (after b h cs)) → Claim b h More (sent cs) (cond y (refused h 2) (hears b h Pause [])) cs
refused_pause b h cs true s ih = refused_at b h More 2 (ih s)
refused_pause b h cs false s ih = absurd s

talked_sends : (b : State) (cs : List Call) → Sends cs → (h : History) → Waiting h.unread → Talked b h More (sent cs) (turns b h cs) (after b h cs)
talked_sends b [] s h w = none_talked b h w
talked_sends b (send piece room ∷ cs) s h w =
    send_step b h More piece cs (ltb 256 (length piece)) (ltb room 2304) (talked_sends b cs s h w) (talked_sends b cs s (hears b h More piece).next (waiting_rest (h.unread ++ piece)))
talked_sends b (pause room ∷ cs) s h w = refused_pause b h cs (ltb room 2304) s (λ t. talked_sends b cs t h w)
talked_sends b (power ∷ cs) s h w = absurd s

paused_at : (b : State) (h : History) → Talked b h Pause [] (hears b h Pause [] ∷ []) (hears b h Pause []).next
paused_at b h =
    let x = said_to b h Pause [] in
    let r = append-nil (written x.answers) in
    let a = add-zero x.accepted in
    let d = add-zero x.down in
    record { spoke = λ i. record { reply = r i; accepted = a i; down = d i }; events = refl; unread = refl }

pause_step : (b : State) (h : History) (cs : List Call) (y : Bool) → If (cond y false true) (cs ≡ []) (SendsAndPauses cs) → (SendsAndPauses cs → Talked b h Pause (sent cs) (turns b h cs) (after b h cs)) → Claim b h Pause (sent cs) (cond y (refused h 2) (hears b h Pause [])) cs
pause_step b h cs true s ih = refused_at b h Pause 2 (ih s)
pause_step b h cs false none ih = subst (λ ds. Claim b h Pause (sent ds) (hears b h Pause []) ds) (sym none) (paused_at b h)

talked_paused : (b : State) (cs : List Call) → SendsAndPauses cs → (h : History) → Talked b h Pause (sent cs) (turns b h cs) (after b h cs)
talked_paused b [] s h = absurd s
talked_paused b (send piece room ∷ cs) s h = send_step b h Pause piece cs (ltb 256 (length piece)) (ltb room 2304) (talked_paused b cs s h) (talked_paused b cs s (hears b h More piece).next)
talked_paused b (pause room ∷ cs) s h = pause_step b h cs (ltb room 2304) s (λ t. talked_paused b cs t h)
talked_paused b (power ∷ cs) s h = absurd s

-- two cards said the same, and follow their events to one state
record Same (b c : State) (x y : Said) : Type 0 where
  answers : x.answers ≡ y.answers
  accepted : x.accepted ≡ y.accepted
  down : x.down ≡ y.down
  state : State
  first : Follows b x.events state
  other : Follows c y.events state

same_more : {b c : State} {s t : Said} (x : Item) → Same b c s t → Same b c (spoken b s x) (spoken c t x)
same_more {b} {c} {s} {t} x m =
    let r = request_of x in
    let p = requests m.first r in
    let q = requests m.other r in
    let o : outcome b s.events r ≡ outcome c t.events r = sym p.0 ∙ q.0 in
    let f : in_force b s.events ≡ in_force c t.events = sym m.first.settings ∙ m.other.settings in
    record {
      answers = λ i. m.answers i ++ answers_to x (o i) (f i);
      accepted = λ i. m.accepted i + accepts (o i);
      down = λ i. m.down i + turns_down (o i);
      state = stepped_all m.state (events_of m.state r);
      first = p.1;
      other = q.1;
    }

same_told : {b c : State} (xs : List Item) {s t : Said} → Same b c s t → Same b c (told b s xs) (told c t xs)
same_told [] m = m
same_told (x ∷ xs) m = same_told xs (same_more x m)

pub follows_named : (b : State) (h : List Event) → Follows b h (named b h)
follows_named b h = record { settings = refl; count = λ m. refl; string = λ s. refl; left = refl; price = refl }

follows_same : {b : State} {h : List Event} {v w : State} → SameState v w → Follows b h v → Follows b h w
follows_same a f = record {
  settings = sym a.settings ∙ f.settings;
  count = λ m. sym (a.count m) ∙ f.count m;
  string = λ s. sym (a.string s) ∙ f.string s;
  left = sym a.left ∙ f.left;
  price = sym a.price ∙ f.price;
}

same_named : {b c : State} {g h : List Event} {v : State} → Follows b g v → Follows c h v → SameState (named b g) (named c h)
same_named f k = record {
  settings = sym f.settings ∙ k.settings;
  count = λ m. sym (f.count m) ∙ k.count m;
  string = λ s. sym (f.string s) ∙ k.string s;
  left = sym f.left ∙ k.left;
  price = sym f.price ∙ k.price;
}

module _ (b c : State) (h k : History) (cs ds : List Call) where
  module _ (ending : Ending) (xs : List Item) (x : Talked b h ending (sent cs) (turns b h cs) (after b h cs)) (y : Talked c k ending (sent ds) (turns c k ds) (after c k ds))
      (ex : items ending (h.unread ++ sent cs) ≡ xs) (ey : items ending (k.unread ++ sent ds) ≡ xs) (same : SameState (named b h.events) (named c k.events)) where
    both : Same b c (said_to b h ending (sent cs)) (said_to c k ending (sent ds))
    both =
        subst (λ l. Same b c (told b (opened h.events) l) (said_to c k ending (sent ds))) (sym ex)
        (subst (λ l. Same b c (told b (opened h.events) xs) (told c (opened k.events) l)) (sym ey)
        (same_told xs (record { answers = refl; accepted = refl; down = refl; state = named c k.events; first = follows_same same (follows_named b h.events); other = follows_named c k.events })))

    said_same : speech (given b h cs) ≡ speech (given c k ds)
    said_same = x.spoke ∙ (λ i. record { reply = written (both.answers i); accepted = both.accepted i; down = both.down i }) ∙ sym y.spoke

    state_same : SameState (whole_by b (after b h cs)).state (whole_by c (after c k ds)).state
    state_same = subst (λ l. SameState (named b l) (named c (after c k ds).events)) (sym x.events) (subst (λ l. SameState (named b (said_to b h ending (sent cs)).events) (named c l)) (sym y.events) (same_named both.first both.other))

  -- one run of bytes in two cuttings
  pub uncut : Waiting h.unread → Waiting k.unread → SameCard (whole_by b h) (whole_by c k) → Sends cs → Sends ds → sent cs ≡ sent ds → (speech (given b h cs) ≡ speech (given c k ds)) × SameCard (whole_by b (after b h cs)) (whole_by c (after c k ds))
  uncut wh wk same sc sd e =
      let x = talked_sends b cs sc h wh in
      let y = talked_sends c ds sd k wk in
      let ex : items More (h.unread ++ sent cs) ≡ items More (k.unread ++ sent ds) = λ i. items More (same.unread i ++ e i) in (
        said_same More (items More (k.unread ++ sent ds)) x y ex refl same.state,
        record { state = state_same More (items More (k.unread ++ sent ds)) x y ex refl same.state; unread = x.unread ∙ (λ i. (reading More (same.unread i ++ e i) 0).unread) ∙ sym y.unread },
      )

  -- noise before the bytes of one of them
  pub quiet : (noise bytes : List ℕ) → Noise noise bytes → Alike (whole_by b h) (whole_by c k) → SendsAndPauses cs → SendsAndPauses ds → sent cs ≡ noise ++ bytes → sent ds ≡ bytes → (speech (given b h cs) ≡ speech (given c k ds)) × Alike (whole_by b (after b h cs)) (whole_by c (after c k ds))
  quiet noise bytes q alike sc sd ec ed =
      let x = talked_paused b cs sc h in
      let y = talked_paused c ds sd k in
      let ex : items Pause (h.unread ++ sent cs) ≡ items Pause bytes = (λ i. items Pause (alike.quiet i ++ ec i)) ∙ items_quiet noise bytes q in
      let ey : items Pause (k.unread ++ sent ds) ≡ items Pause bytes = λ i. items Pause (alike.also i ++ ed i) in (
        said_same Pause (items Pause bytes) x y ex ey alike.state,
        record { state = state_same Pause (items Pause bytes) x y ex ey alike.state; quiet = x.unread ∙ none_unread 0 (h.unread ++ sent cs); also = y.unread ∙ none_unread 0 (k.unread ++ sent ds) },
      )
