-- Pieces of a text that is written one after the other.
use Rattle.std.proofs.Common.{◌≡◌, ℕ, zero, suc, ◌<◌, ◌≤◌, List, [], ◌∷◌, ◌++◌, length, get_or, drop, codes}
use Rattle.std.proofs.Common.{refl, sym, ap, ◌∙◌, arith, append_assoc, drop-cons}
use Rattle.std.proofs.lemmas.List.{append-nil}
use Rattle.std.proofs.lemmas.Bool.Decides.{nat_tests}
use Rattle.std.proofs.lemmas.Result.{on_ok_weaker}
use Rattle.std.specs.Prelude.{Result, OnOk, Bool, true, false, ◌==◌}
use Rattle.ir_printer.proofs.Joined.{joined-cons}
use Rattle.scev_text.specs.Text.{listed, each_behind, enclosed, constant_text, monomial_text}

-- a list from one item on
pub from_here : {A : Type 0} (xs : List A) (at next : ℕ) (d x : A) → next ≡ suc at → at < length xs → x ≡ get_or xs at d
    → drop at xs ≡ x ∷ drop next xs
from_here xs at next d x e within f =
    drop-cons xs at d within ∙ ap (λ y. y ∷ drop (suc at) xs) (sym f) ∙ ap (λ k. x ∷ drop k xs) (sym e)

-- what is appended in the end is another name of the text
pub hands_on : {T E : Type 0} (r : Result T E) (old new text told : List ℕ) → text ≡ told
    → OnOk r (new ≡ old ++ text)
    → OnOk r (new ≡ old ++ told)
hands_on r old new text told e h = on_ok_weaker r (λ n. n ∙ ap (λ xs. old ++ xs) e) h

-- ---- whether there are any

pub is_none : (n : ℕ) (b : Bool) → b ≡ (n == 0) → b ≡ true → n ≡ 0
is_none n b e f = let h : (n == 0) ≡ true = sym e ∙ f in grind (arith, nat_tests)

pub is_some : (n : ℕ) (b : Bool) → b ≡ (n == 0) → b ≡ false → 1 ≤ n
is_some n b e f = let h : (n == 0) ≡ false = sym e ∙ f in grind (arith, nat_tests)

-- ---- with a separator between them

-- the first one, and each other behind a separator
pub listed-cons : (between text : List ℕ) (texts : List (List ℕ))
    → listed between (text ∷ texts) ≡ text ++ each_behind between texts
listed-cons between text texts = joined-cons (λ text. text) between text texts

-- a separator and a text are written, and those that are left make up the rest
pub behind_next : (before old out mid new text : List ℕ) (more rest : List (List ℕ)) → more ≡ text ∷ rest
    → mid ≡ out ++ before
    → new ≡ mid ++ text
    → out ++ each_behind before more ≡ old
    → new ++ each_behind before rest ≡ old
behind_next before old out mid new text more rest split m n h =
    ap (λ xs. xs ++ each_behind before rest) (n ∙ ap (λ xs. xs ++ text) m)
    ∙ append_assoc (out ++ before) text (each_behind before rest)
    ∙ append_assoc out before (text ++ each_behind before rest)
    ∙ ap (λ xs. out ++ xs) (sym (append_assoc before text (each_behind before rest)))
    ∙ ap (λ xs. out ++ each_behind before xs) (sym split)
    ∙ h

-- none are left
pub behind_done : (before old out : List ℕ) (left : List (List ℕ)) → length left ≡ 0
    → out ++ each_behind before left ≡ old
    → out ≡ old
behind_done before old out [] none h = sym (append-nil out) ∙ h
behind_done before old out (x ∷ xs) none h = absurd (omega (arith, none))

-- there are none to write
pub listed_none : (between old : List ℕ) (texts : List (List ℕ)) → length texts ≡ 0 → old ≡ old ++ listed between texts
listed_none between old [] none = sym (append-nil old)
listed_none between old (x ∷ xs) none = absurd (omega (arith, none))

-- the first one is written, and then the others
pub listed_all : (between old mid new text : List ℕ) (texts all : List (List ℕ)) → all ≡ text ∷ texts
    → mid ≡ old ++ text
    → new ≡ mid ++ each_behind between texts
    → new ≡ old ++ listed between all
listed_all between old mid new text texts all split m n =
    n
    ∙ ap (λ xs. xs ++ each_behind between texts) m
    ∙ append_assoc old text (each_behind between texts)
    ∙ ap (λ xs. old ++ xs) (sym (listed-cons between text texts) ∙ ap (listed between) (sym split))

-- ---- in parentheses

pub enclosed-one : (between text : List ℕ) (texts : List (List ℕ)) → length texts ≡ 0
    → enclosed between (text ∷ texts) ≡ text
enclosed-one between text [] none = refl
enclosed-one between text (x ∷ xs) none = absurd (omega (arith, none))

pub enclosed-many : (between : List ℕ) (texts : List (List ℕ)) → 1 < length texts
    → enclosed between texts ≡ codes "(" ++ (listed between texts ++ codes ")")
enclosed-many between [] many = absurd (omega (arith, many))
enclosed-many between (x ∷ []) many = absurd (omega (arith, many))
enclosed-many between (x ∷ y ∷ xs) many = refl

-- two or more, written between parentheses
pub enclosed_all : (between old begun mid further new text : List ℕ) (texts : List (List ℕ)) → 1 ≤ length texts
    → begun ≡ old ++ 40 ∷ []
    → mid ≡ begun ++ text
    → further ≡ mid ++ each_behind between texts
    → new ≡ further ++ 41 ∷ []
    → new ≡ old ++ enclosed between (text ∷ texts)
enclosed_all between old begun mid further new text texts some o m f n =
    let both : 1 < length (text ∷ texts) = omega (arith, some) in
    let rest = each_behind between texts in
    let spread : (((old ++ 40 ∷ []) ++ text) ++ rest) ++ 41 ∷ [] ≡ old ++ (codes "(" ++ ((text ++ rest) ++ codes ")")) =
    simp append_assoc in
    n
    ∙ ap (λ xs. xs ++ 41 ∷ []) (f ∙ ap (λ xs. xs ++ rest) (m ∙ ap (λ xs. xs ++ text) o))
    ∙ spread
    ∙ ap (λ xs. old ++ (codes "(" ++ (xs ++ codes ")"))) (sym (listed-cons between text texts))
    ∙ ap (λ xs. old ++ xs) (sym (enclosed-many between (text ∷ texts) both))

-- several in a list, written between parentheses
pub enclosed_listed : (between old begun mid new : List ℕ) (texts : List (List ℕ)) → 1 < length texts
    → begun ≡ old ++ 40 ∷ []
    → mid ≡ begun ++ listed between texts
    → new ≡ mid ++ 41 ∷ []
    → new ≡ old ++ enclosed between texts
enclosed_listed between old begun mid new texts many o m n =
    let inner = listed between texts in
    let spread : ((old ++ 40 ∷ []) ++ inner) ++ 41 ∷ [] ≡ old ++ (codes "(" ++ (inner ++ codes ")")) =
    simp append_assoc in
    n
    ∙ ap (λ xs. xs ++ 41 ∷ []) (m ∙ ap (λ xs. xs ++ inner) o)
    ∙ spread
    ∙ ap (λ xs. old ++ xs) (sym (enclosed-many between texts many))

-- a conversion, piece by piece
pub cast_written : (old a b c d e f g new word from text to : List ℕ)
    → a ≡ old ++ 40 ∷ []
    → b ≡ a ++ word
    → c ≡ b ++ from
    → d ≡ c ++ 32 ∷ []
    → e ≡ d ++ text
    → f ≡ e ++ codes " to "
    → g ≡ f ++ to
    → new ≡ g ++ 41 ∷ []
    → new ≡ old ++ (codes "(" ++ (word ++ (from ++ (32 ∷ (text ++ (codes " to " ++ (to ++ codes ")")))))))
cast_written old a b c d e f g new word from text to ha hb hc hd he hf hg hn =
    rw (hn, hg, hf, he, hd, hc, hb, ha) (simp append_assoc)

-- ---- coefficients

pub monomial-none : (w n : ℕ) (texts : List (List ℕ)) → length texts ≡ 0 → constant_text w n ≡ monomial_text w n texts
monomial-none w n [] none = refl
monomial-none w n (x ∷ xs) none = absurd (omega (arith, none))

pub monomial-plain : (w n : ℕ) (text : List ℕ) (texts all : List (List ℕ)) → all ≡ text ∷ texts → n ≡ 1
    → enclosed (codes " * ") (text ∷ texts) ≡ monomial_text w n all
monomial-plain w n text texts all split one =
    ap (monomial_text w 1) (sym split) ∙ ap (λ k. monomial_text w k all) (sym one)

pub monomial-many : (w n : ℕ) (texts : List (List ℕ)) → 1 ≤ length texts → (n ≡ 1 → ⊥)
    → enclosed (codes " * ") (constant_text w n ∷ texts) ≡ monomial_text w n texts
monomial-many w n [] some other = absurd (omega (arith, some))
monomial-many w zero (x ∷ xs) some other = refl
monomial-many w (suc zero) (x ∷ xs) some other = absurd (other refl)
monomial-many w (suc (suc n)) (x ∷ xs) some other = refl
