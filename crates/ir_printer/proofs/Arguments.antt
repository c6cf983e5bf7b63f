-- The text of arguments: the first one, and each other one behind a comma.
use Rattle.std.proofs.Common.{◌≡◌, ℕ, zero, suc, ◌+◌, ◌<◌, List, [], ◌∷◌, ◌++◌, ◌≤◌, length, drop, get_or, codes, refl, sym, ap, ◌∙◌, arith}
use Rattle.std.proofs.lemmas.List.{append-nil, append_assoc, drop_more, drop_all, drop-drop}
use Rattle.ir_model.specs.declared.op.TypedOperand.{TypedOperand}
use Rattle.ir_grammar.specs.Printing.{Shown, words_at, argument_text, arguments_text}

abbrev pub others_text : Shown → List (List ℕ) → List TypedOperand → List ℕ
others_text shown words [] = []
others_text shown words (arg ∷ args) = codes ", "
    ++ (argument_text shown (words_at words 0) arg ++ others_text shown (drop 1 words) args)

pub arguments-cons : (shown : Shown) (words : List (List ℕ)) (arg : TypedOperand) (args : List TypedOperand)
    → arguments_text shown words (arg ∷ args)
    ≡ argument_text shown (words_at words 0) arg ++ others_text shown (drop 1 words) args
arguments-cons shown words arg [] = sym (append-nil (argument_text shown (words_at words 0) arg))
arguments-cons shown words arg (other ∷ others) =
    ap (λ text. argument_text shown (words_at words 0) arg ++ (codes ", " ++ text))
    (arguments-cons shown (drop 1 words) other others)

pub words_at-drop : (words : List (List ℕ)) (k : ℕ) → words_at (drop k words) 0 ≡ words_at words k
words_at-drop [] zero = refl
words_at-drop [] (suc k) = refl
words_at-drop (w ∷ ws) zero = refl
words_at-drop (w ∷ ws) (suc k) = words_at-drop ws k

drop-one : (words : List (List ℕ)) (k j : ℕ) → j ≡ k + 1 → drop 1 (drop k words) ≡ drop j words
drop-one words k j e = drop-drop 1 k words ∙ ap (λ n. drop n words) (sym e)

others_step : (shown : Shown) (words : List (List ℕ)) (args : List TypedOperand) (i k j : ℕ) (d : TypedOperand)
    → i < length args
    → j ≡ k + 1
    → others_text shown (drop k words) (drop i args)
    ≡ codes ", " ++ (argument_text shown (words_at words k) (get_or args i d)
    ++ others_text shown (drop j words) (drop (i + 1) args))
others_step shown words args i k j d inside next =
    ap (others_text shown (drop k words)) (drop_more args i d inside)
    ∙ ap (λ w. codes ", " ++ (argument_text shown w (get_or args i d)
    ++ others_text shown (drop 1 (drop k words)) (drop (i + 1) args))) (words_at-drop words k)
    ∙ ap (λ ws. codes ", " ++
    (argument_text shown (words_at words k) (get_or args i d) ++ others_text shown ws (drop (i + 1) args)))
    (drop-one words k j next)

regrouped : (out comma arg others : List ℕ) → ((out ++ comma) ++ arg) ++ others ≡ out ++ (comma ++ (arg ++ others))
regrouped out comma arg others = simp append_assoc

-- one argument more is printed
pub arguments_kept : (shown : Shown) (words : List (List ℕ)) (args : List TypedOperand) (i place : ℕ)
    (d : TypedOperand) (w out mid new whole : List ℕ)
    → i < length args
    → place ≡ 2 + i
    → mid ≡ out ++ codes ", "
    → new ≡ mid ++ argument_text shown w d
    → w ≡ words_at words (place + 1)
    → d ≡ get_or args i d
    → out ++ others_text shown (drop (3 + i) words) (drop i args) ≡ whole
    → new ++ others_text shown (drop (3 + (i + 1)) words) (drop (i + 1) args) ≡ whole
arguments_kept shown words args i place d w out mid new whole inside at mid_is new_is w_is d_is kept =
    let rest = others_text shown (drop (3 + (i + 1)) words) (drop (i + 1) args) in
    let place_is : place + 1 ≡ 3 + i = omega arith in
    let w_at : w ≡ words_at words (3 + i) = w_is ∙ ap (words_at words) place_is in
    let new_at : new ≡ (out ++ codes ", ") ++ argument_text shown (words_at words (3 + i)) (get_or args i d) =
    new_is ∙ ap (λ m. m ++ argument_text shown w d) mid_is
    ∙ ap (λ x. (out ++ codes ", ") ++ argument_text shown x d) w_at
    ∙ ap (λ a. (out ++ codes ", ") ++ argument_text shown (words_at words (3 + i)) a) d_is in
    ap (λ n. n ++ rest) new_at
    ∙ regrouped out (codes ", ") (argument_text shown (words_at words (3 + i)) (get_or args i d)) rest
    ∙ ap (λ t. out ++ t) (sym (others_step shown words args i (3 + i) (3 + (i + 1)) d inside (omega arith)))
    ∙ kept

-- all of them are printed
pub arguments_all : (shown : Shown) (words : List (List ℕ)) (args : List TypedOperand) (first : TypedOperand)
    (rest : List TypedOperand) (i : ℕ) (w old mid new : List ℕ)
    → args ≡ first ∷ rest
    → mid ≡ old ++ argument_text shown w first
    → w ≡ words_at words 2
    → length rest ≤ i
    → new ++ others_text shown (drop (3 + i) words) (drop i rest) ≡ mid ++ others_text shown (drop 3 words) rest
    → new ≡ old ++ arguments_text shown (drop 2 words) args
arguments_all shown words args first rest i w old mid new split mid_is w_is end kept =
    let others = others_text shown (drop 3 words) rest in
    sym (append-nil new)
    ∙ ap (λ r. new ++ others_text shown (drop (3 + i) words) r) (sym (drop_all i rest end))
    ∙ kept
    ∙ ap (λ m. m ++ others) (mid_is ∙ ap (λ x. old ++ argument_text shown x first) (w_is ∙ sym (words_at-drop words 2)))
    ∙ append_assoc old (argument_text shown (words_at (drop 2 words) 0) first) others
    ∙ ap (λ ws. old ++ (argument_text shown (words_at (drop 2 words) 0) first ++ others_text shown ws rest))
    (sym (drop-one words 2 3 refl))
    ∙ ap (λ t. old ++ t) (sym (arguments-cons shown (drop 2 words) first rest))
    ∙ ap (λ xs. old ++ arguments_text shown (drop 2 words) xs) (sym split)
