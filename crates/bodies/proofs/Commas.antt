-- A text that was joined at a byte is cut there into the same parts again.
use Rattle.std.proofs.Common.{◌≡◌, ℕ, cond, eqb, List, [], ◌∷◌, ◌++◌, drop, sym, refl, ap, ◌∙◌, append_assoc, append-nil}
use Rattle.std.proofs.lemmas.Bool.{eq-eqb, ne_eqb}
use Rattle.std.specs.List.{flat_map, AllByRecursion as All}
use Rattle.bodies.specs.Bodies.{body_of}

-- one more byte in front of the first part
abbrev onto : ℕ → List (List ℕ) → List (List ℕ)
onto b [] = (b ∷ []) ∷ []
onto b (f ∷ fs) = (b ∷ f) ∷ fs

-- the parts of a text between the bytes s
abbrev pub cut : ℕ → List ℕ → List (List ℕ)
cut s [] = [] ∷ []
cut s (b ∷ bs) = cond (eqb b s) ([] ∷ cut s bs) (onto b (cut s bs))

-- s is no byte of the text
abbrev pub Free : ℕ → List ℕ → Type 0
Free s text = All (λ b. b ≡ s → ⊥) text

pub cut_front : (s : ℕ) (f r g : List ℕ) (gs : List (List ℕ)) → Free s f → cut s r ≡ g ∷ gs → cut s (f ++ r) ≡ (f ++ g) ∷ gs
cut_front s [] r g gs h e = e
cut_front s (b ∷ f) r g gs h e =
    let other = ne_eqb b s h.0 in
    rw other (ap (onto b) (cut_front s f r g gs h.1 e))

pub cut_joined : (s : ℕ) (fs : List (List ℕ)) → All (Free s) fs → cut s (flat_map (λ f. s ∷ f) fs) ≡ [] ∷ fs
cut_joined s [] h = refl
cut_joined s (f ∷ fs) h =
    let same = eq-eqb s s refl in
    rw same (ap (λ l. [] ∷ l) (cut_front s f (flat_map (λ g. s ∷ g) fs) [] fs h.0 (cut_joined s fs h.1) ∙ ap (λ g. g ∷ fs) (append-nil f)))

pub body_of_joined : (start : List ℕ) (fs : List (List ℕ)) → body_of start fs ≡ start ++ flat_map (λ f. 44 ∷ f) fs
body_of_joined start [] = sym (append-nil start)
body_of_joined start (f ∷ fs) = body_of_joined (start ++ (44 ∷ f)) fs ∙ append_assoc start (44 ∷ f) (flat_map (λ g. 44 ∷ g) fs)

pub cut_body : (start : List ℕ) (fs : List (List ℕ)) → Free 44 start → All (Free 44) fs → cut 44 (body_of start fs) ≡ start ∷ fs
cut_body start fs h k =
    ap (cut 44) (body_of_joined start fs)
    ∙ cut_front 44 start (flat_map (λ f. 44 ∷ f) fs) [] fs h (cut_joined 44 fs k)
    ∙ ap (λ t. t ∷ fs) (append-nil start)

-- equal bodies have equal fields
pub same_fields : (a b : List ℕ) (fs gs : List (List ℕ)) → Free 44 a → Free 44 b → All (Free 44) fs → All (Free 44) gs → body_of a fs ≡ body_of b gs → fs ≡ gs
same_fields a b fs gs ha hb hf hg e = ap (drop 1) (sym (cut_body a fs ha hf) ∙ ap (cut 44) e ∙ cut_body b gs hb hg)
