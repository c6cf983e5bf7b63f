-- Words ask for one mode at most.
use Rattle.std.proofs.Common.{◌≡◌, ℕ, List, [], ◌∷◌, None, refl, sym, ap, ◌∙◌}
use Rattle.std.specs.Prelude.{codes}
use Rattle.std.proofs.lemmas.Option.{none-some, same_Some}
use Rattle.eval_request.specs.Asked.{Asked}
use Rattle.scev_words.specs.Modes.{Mode, Print, Report, Eval, AskFor, AskForEval}
use Rattle.scev_words.specs.Said.{nothing_said, with_word, said_also, asked_with}
use Rattle.scev_words.proofs.AskedWith.{ask_for}

print_alone : asked_with nothing_said (codes "print" ∷ []) ≡ None
unfolding asked_with said_also with_word
print_alone = refl

report_alone : asked_with nothing_said (codes "report" ∷ []) ≡ None
unfolding asked_with said_also with_word
report_alone = refl

no_run : (asked : Asked) (words others : List (List ℕ)) → asked_with nothing_said others ≡ None → words ≡ others
    → AskForEval asked words → ⊥
no_run asked words others none e a =
    none-some asked (sym none ∙ (ap (asked_with nothing_said) (sym e) ∙ ask_for asked words a))

pub one_mode : (m n : Mode) (words : List (List ℕ)) → AskFor m words → AskFor n words → m ≡ n
one_mode Print Print words a b = refl
one_mode Print Report words a b = cc
one_mode Print (Eval asked) words a b = absurd (no_run asked words (codes "print" ∷ []) print_alone a b)
one_mode Report Print words a b = cc
one_mode Report Report words a b = refl
one_mode Report (Eval asked) words a b = absurd (no_run asked words (codes "report" ∷ []) report_alone a b)
one_mode (Eval asked) Print words a b = absurd (no_run asked words (codes "print" ∷ []) print_alone b a)
one_mode (Eval asked) Report words a b = absurd (no_run asked words (codes "report" ∷ []) report_alone b a)
one_mode (Eval asked) (Eval other) words a b =
    ap Eval (same_Some asked other (sym (ask_for asked words a) ∙ ask_for other words b))
