-- Calls as they are printed.
use Rattle.std.proofs.Common.{◌≡◌, ℕ, suc, ◌+◌, List, [], ◌∷◌, ◌++◌, map, flat_map, length, drop, codes, refl, sym, ap, ◌∙◌, subst, arith}
use Rattle.std.proofs.lemmas.List.{append-nil}
use Rattle.ir_model.specs.declared.types.IrType.{IrType}
use Rattle.ir_model.specs.declared.op.TypedOperand.{TypedOperand}
use Rattle.ir_model.specs.declared.op.Op.TheVariants.{Call}
use Rattle.ir_text.specs.Tokens.{Lexeme, AreLexemes}
use Rattle.ir_text.specs.Mentions.{Mentioning, ◌⊙◌, silent}
use Rattle.ir_model.specs.Sites.{typed_sites, op_sites}
use Rattle.ir_text.specs.Sites.{bare_typed}
use Rattle.ir_model.specs.Kinds.{IsScalar, IsReturned}
use Rattle.ir_text.specs.Written.{IsGlobal}
use Rattle.ir_text.specs.Language.{one}
use Rattle.ir_text.specs.PassedOn.{SpellsWords}
use Rattle.ir_grammar.specs.Operations.{Argument, SpellsArgument, SpellsTail, Listing, the_word, the_type, the_sign}
use Rattle.ir_grammar.specs.Printing.{Shown, words_at, before_space, behind_space, type_text, name_text, argument_text, arguments_text, op_text}
use Rattle.ir_lex.proofs.Plain.{Stops}
use Rattle.ir_read_back.specs.Normal.{normal_typed}
use Rattle.ir_read_back.proofs.Words.{call_is_word, opening_parenthesis_is_sign, closing_parenthesis_is_sign}
use Rattle.ir_read_back.proofs.Named.{Names, AreShown, said_at}
use Rattle.ir_read_back.proofs.GlobalNames.{global_rewrites}
use Rattle.ir_read_back.proofs.TypeTexts.{type_rewrites}
use Rattle.ir_read_back.proofs.Passed.{words_before, words_behind, tail_before}
use Rattle.ir_read_back.proofs.Operands.{operand_rewrites, both_said, left_shown, right_shown}
use Rattle.ir_read_back.proofs.PlainOps.{OpRewrites}
use Rattle.ir_read_back.proofs.Writes.{Rewrites, mentions_are, word_then, sign_then, whole_then, stop_then, space_then, comma_then}

abbrev words_of : List Argument → List (List ℕ)
words_of arguments = map (λ (arg : Argument). arg.words) arguments

abbrev typed_of : List Argument → List TypedOperand
typed_of arguments = map (λ (arg : Argument). arg.typed) arguments

-- the arguments that are read of what is printed
abbrev renewed : List TypedOperand → List Argument → List Argument
renewed (arg ∷ args) (a ∷ arguments) =
    record { typed = bare_typed (normal_typed arg); words = a.words } ∷ renewed args arguments
renewed _ _ = []

-- ---- equal lists

first_typed : List TypedOperand → TypedOperand → TypedOperand
first_typed [] other = other
first_typed (x ∷ xs) other = x

heads : (x y : TypedOperand) (xs ys : List TypedOperand) → x ∷ xs ≡ y ∷ ys → x ≡ y
unfolding first_typed
heads x y xs ys e = ap (λ l. first_typed l x) e

tails : (x y : TypedOperand) (xs ys : List TypedOperand) → x ∷ xs ≡ y ∷ ys → xs ≡ ys
tails x y xs ys e = ap (drop 1) e

none_is_some : {P : Type 0} (x : TypedOperand) (xs : List TypedOperand) → [] ≡ x ∷ xs → P
none_is_some x xs e = absurd (omega (arith, ap length e))

some_is_none : {P : Type 0} (x : TypedOperand) (xs : List TypedOperand) → x ∷ xs ≡ [] → P
some_is_none x xs e = absurd (omega (arith, ap length e))

renewed_words : (args : List TypedOperand) (arguments : List Argument)
    → map bare_typed args ≡ typed_of arguments
    → words_of (renewed args arguments) ≡ words_of arguments
renewed_words [] [] same = refl
renewed_words [] (a ∷ arguments) same = none_is_some a.typed (typed_of arguments) same
renewed_words (arg ∷ args) [] same = some_is_none (bare_typed arg) (map bare_typed args) same
renewed_words (arg ∷ args) (a ∷ arguments) same =
    ap (λ more. a.words ∷ more) (renewed_words args arguments (tails _ _ _ _ same))

renewed_typed : (args : List TypedOperand) (arguments : List Argument)
    → map bare_typed args ≡ typed_of arguments
    → map bare_typed (map normal_typed args) ≡ typed_of (renewed args arguments)
renewed_typed [] [] same = refl
renewed_typed [] (a ∷ arguments) same = none_is_some a.typed (typed_of arguments) same
renewed_typed (arg ∷ args) [] same = some_is_none (bare_typed arg) (map bare_typed args) same
renewed_typed (arg ∷ args) (a ∷ arguments) same =
    ap (λ more. bare_typed (normal_typed arg) ∷ more) (renewed_typed args arguments (tails _ _ _ _ same))

same_many : (args : List TypedOperand) (arguments : List Argument)
    → map bare_typed args ≡ typed_of arguments
    → length args ≡ length (words_of arguments)
same_many [] [] same = refl
same_many [] (a ∷ arguments) same = none_is_some a.typed (typed_of arguments) same
same_many (arg ∷ args) [] same = some_is_none (bare_typed arg) (map bare_typed args) same
same_many (arg ∷ args) (a ∷ arguments) same = ap suc (same_many args arguments (tails _ _ _ _ same))

-- the words behind all arguments
last_words : (ws : List (List ℕ)) (w : List ℕ) → words_at (ws ++ w ∷ []) (length ws) ≡ w
last_words [] w = refl
last_words (v ∷ ws) w = last_words ws w

-- ---- arguments

module _ (shown : Shown) (names : Names) where
  argument_rewrites : (arg : TypedOperand) (words : List ℕ)
      → AreShown shown names (typed_sites arg)
      → Rewrites Stops (SpellsArgument (record { typed = bare_typed arg; words = words }))
      (SpellsArgument (record { typed = bare_typed (normal_typed arg); words = words }))
      (said_at names (typed_sites arg)) (argument_text shown words arg)
  argument_rewrites arg words are =
      space_then (type_rewrites IsScalar arg.kind)
      (whole_then (words_before words) (operand_rewrites shown names arg.kind arg.value are))

  -- the same, where the argument is seen with its operand bare
  seen_rewrites : (arg : TypedOperand) (a : Argument)
      → bare_typed arg ≡ a.typed
      → AreShown shown names (typed_sites arg)
      → Rewrites Stops (SpellsArgument a)
      (SpellsArgument (record { typed = bare_typed (normal_typed arg); words = a.words }))
      (said_at names (typed_sites arg)) (argument_text shown a.words arg)
  seen_rewrites arg a same are =
      subst (λ typed. Rewrites Stops (SpellsArgument (record { typed = typed; words = a.words }))
      (SpellsArgument (record { typed = bare_typed (normal_typed arg); words = a.words }))
      (said_at names (typed_sites arg)) (argument_text shown a.words arg)) same (argument_rewrites arg a.words are)

  arguments_rewrite : (args : List TypedOperand) (arguments : List Argument) (after : List ℕ)
      → map bare_typed args ≡ typed_of arguments
      → AreShown shown names (flat_map typed_sites args)
      → Rewrites Stops (Listing SpellsArgument arguments) (Listing SpellsArgument (renewed args arguments))
      (said_at names (flat_map typed_sites args)) (arguments_text shown (words_of arguments ++ after ∷ []) args)
  arguments_rewrite [] [] after same are = record {
    writes = λ old ts spelled real. record {
      lexemes = [];
      spelled = (refl, refl);
      lexed = λ rest others behind tokens. tokens;
    };
  }
  arguments_rewrite [] (a ∷ arguments) after same are = none_is_some a.typed (typed_of arguments) same
  arguments_rewrite (arg ∷ args) [] after same are = some_is_none (bare_typed arg) (map bare_typed args) same
  arguments_rewrite (arg ∷ []) (a ∷ []) after same are =
      let own = left_shown shown names (typed_sites arg) [] are in
      both_said shown names (typed_sites arg) []
      (mentions_are _ _ (sym (append-nil (said_at names (typed_sites arg))))
      (seen_rewrites arg a (heads _ _ _ _ same) own))
  arguments_rewrite (arg ∷ []) (a ∷ b ∷ arguments) after same are =
      none_is_some b.typed (typed_of arguments) (tails _ _ _ _ same)
  arguments_rewrite (arg ∷ other ∷ args) (a ∷ []) after same are =
      some_is_none (bare_typed other) (map bare_typed args) (tails _ _ _ _ same)
  arguments_rewrite (arg ∷ other ∷ args) (a ∷ b ∷ arguments) after same are =
      let ss = typed_sites arg in
      let more = flat_map typed_sites (other ∷ args) in
      both_said shown names ss more
      (comma_then (seen_rewrites arg a (heads _ _ _ _ same) (left_shown shown names ss more are))
      (arguments_rewrite (other ∷ args) (b ∷ arguments) after (tails _ _ _ _ same)
      (right_shown shown names ss more are)))

  -- a call without its words
  abbrev CallOf : IrType → List ℕ → List ℕ → List ℕ → List ℕ → List Argument → Mentioning
  CallOf ret callee tail before after arguments = silent (SpellsTail tail) ⊙ the_word (codes "call")
      ⊙ silent (SpellsWords before) ⊙ the_type IsReturned ret ⊙ silent (one (IsGlobal callee)) ⊙ the_sign 40
      ⊙ Listing SpellsArgument arguments ⊙ the_sign 41 ⊙ silent (SpellsWords after)

  call_parts : (ret : IrType) (callee : List ℕ) (args : List TypedOperand) (tail before after : List ℕ)
      (arguments : List Argument)
      → map bare_typed args ≡ typed_of arguments
      → AreShown shown names (flat_map typed_sites args)
      → Rewrites Stops (CallOf ret callee tail before after arguments)
      (CallOf ret callee tail before after (renewed args arguments)) (said_at names (flat_map typed_sites args))
      (before_space tail ++ (codes "call " ++ (before_space before ++ (type_text ret ++ (codes " @" ++ (name_text callee
      ++ (codes "(" ++ (arguments_text shown (words_of arguments ++ after ∷ []) args
      ++ (codes ")" ++ behind_space after)))))))))
  call_parts ret callee args tail before after arguments same are =
      whole_then (tail_before tail)
      (word_then (codes "call") call_is_word
      (whole_then (words_before before)
      (space_then (type_rewrites IsReturned ret)
      (stop_then refl (global_rewrites callee)
      (sign_then 40 opening_parenthesis_is_sign
      (mentions_are _ _ (append-nil (said_at names (flat_map typed_sites args)))
      (stop_then refl (arguments_rewrite args arguments after same are)
      (sign_then 41 closing_parenthesis_is_sign (words_behind after)))))))))

  abbrev call_text : IrType → List ℕ → List TypedOperand → List ℕ → List ℕ → List (List ℕ) → List ℕ → List ℕ
  call_text ret callee args tail before words after = before_space tail ++ (codes "call " ++ (before_space before
      ++ (type_text ret ++ (codes " @" ++ (name_text callee ++ (codes "(" ++ (arguments_text shown words args
      ++ (codes ")" ++ behind_space after))))))))

  -- the text of a call by its words
  call_is : (ret : IrType) (callee : List ℕ) (args : List TypedOperand) (tail before after : List ℕ)
      (arguments : List Argument)
      → map bare_typed args ≡ typed_of arguments
      → call_text ret callee args tail before (words_of arguments ++ after ∷ []) after
      ≡ op_text shown (Call ret callee args) (tail ∷ before ∷ (words_of arguments ++ after ∷ []))
  unfolding op_text
  call_is ret callee args tail before after arguments same =
      let words = tail ∷ before ∷ (words_of arguments ++ after ∷ []) in
      let place : 2 + length args ≡ suc (suc (length (words_of arguments))) =
      omega (arith, same_many args arguments same) in
      let last : words_at words (2 + length args) ≡ after =
      ap (words_at words) place ∙ last_words (words_of arguments) after in
      ap (call_text ret callee args tail before (words_of arguments ++ after ∷ [])) (sym last)

  pub call_rewrites : (ret : IrType) (callee : List ℕ) (args : List TypedOperand) (words : List (List ℕ))
      → AreShown shown names (op_sites (Call ret callee args))
      → OpRewrites shown names (Call ret callee args) words
  call_rewrites ret callee args words are = record {
    writes = λ old ts spelled real.
        let all = (call_parts ret callee args spelled.0 spelled.1 spelled.2 spelled.3 spelled.5 are).writes
        old ts spelled.7 real in
        let text = call_is ret callee args spelled.0 spelled.1 spelled.2 spelled.3 spelled.5
        ∙ ap (op_text shown (Call ret callee args)) (sym spelled.4) in
        let again = spelled.4 ∙ ap (λ ws. spelled.0 ∷ spelled.1 ∷ (ws ++ spelled.2 ∷ []))
        (sym (renewed_words args spelled.3 spelled.5)) in
        record {
          lexemes = all.lexemes;
          spelled = (
            spelled.0,
            spelled.1,
            spelled.2,
            renewed args spelled.3,
            again,
            renewed_typed args spelled.3 spelled.5,
            spelled.6,
            all.spelled,
          );
          lexed = subst (λ t. (rest : List ℕ) (others : List Lexeme) → Stops rest → AreLexemes rest others
              → AreLexemes (t ++ rest) (all.lexemes ++ others)) text all.lexed;
        };
  }
