-- A function whose walk is over, and that got its tables, is numbered.
use Rattle.std.proofs.Common.{◌≡◌, ℕ, List, [], map, ap, ◌∙◌, subst}
use Rattle.ir_model.specs.declared.function.ValueInfo.{ValueInfo}
use Rattle.ir_model.specs.declared.function.Function.{Function}
use Rattle.ir_model.specs.Defined.{HasTypes}
use Rattle.ir_text.specs.Written.{Name}
use Rattle.ir_text.specs.Mentions.{Mention}
use Rattle.ir_model.specs.Sites.{function_sites}
use Rattle.ir_text.specs.Sites.{bare_function}
use Rattle.ir_grammar.specs.Numbering.{tables_of, named, value_names, label_names, same_name, first_occurrences, text_of_name, StandsFor, EachMatches}
use Rattle.ir_lex.specs.Tokenized.{Tokenized}
use Rattle.ir_parts.specs.Places.{mentions_at}
use Rattle.ir_names.specs.declared.seen.Seen.{Seen}
use Rattle.ir_names.specs.Growing.{with_names, IsPrefix}
use Rattle.ir_names.specs.Renumbered.{Becomes}
use Rattle.ir_names.specs.Whole.{FunctionNumbered}
use Rattle.ir_names.proofs.Growing.{IsPrefix-refl, with_names_from_none}
use Rattle.ir_names.proofs.KeyNames.{same_name_only, same_name_self}

-- what is known of the function at the end
pub record Finished (t : Tokenized) (start end : Seen) (f g : Function) : Type 0 where
  pub next : start.next ≡ 0
  pub no_values : start.values ≡ []
  pub no_labels : start.labels ≡ []
  pub becomes : Becomes t start end (function_sites f) (function_sites g)
  pub same : bare_function g ≡ bare_function f
  pub values : map (λ (info : ValueInfo). info.name) g.values ≡ map text_of_name end.values
  pub labels : g.labels ≡ map text_of_name end.labels
  pub types : HasTypes g.params g.blocks g.values

prefix_same : {A : Type 0} {a b : List A} → a ≡ b → IsPrefix a b
prefix_same {A} {a} {b} e = subst (λ (c : List A). IsPrefix a c) e (IsPrefix-refl a)

-- A table that begins empty has the names by first occurrence.
by_first : (names_of : List Mention → List Name) (ms : List Mention) (a b : List Name) (n : ℕ) → n ≡ 0 → a ≡ []
    → b ≡ with_names same_name a (names_of (named n ms)) → b ≡ first_occurrences same_name (names_of (named 0 ms))
by_first names_of ms a b n zero_is empty e =
    e ∙ ap (λ xs. with_names same_name xs (names_of (named n ms))) empty
    ∙ ap (λ k. with_names same_name [] (names_of (named k ms))) zero_is
    ∙ with_names_from_none same_name same_name_only same_name_self (names_of (named 0 ms))

pub function_numbered : (t : Tokenized) (start end : Seen) (f g : Function) → Finished t start end f g
    → FunctionNumbered t start.globals end.globals f g
function_numbered t start end f g done =
    let ms = mentions_at t (function_sites f) in
    let vs : end.values ≡ first_occurrences same_name (value_names (named 0 ms)) =
    by_first value_names ms start.values end.values start.next done.next done.no_values done.becomes.passes.values in
    let ls : end.labels ≡ first_occurrences same_name (label_names (named 0 ms)) =
    by_first label_names ms start.labels end.labels start.next done.next done.no_labels done.becomes.passes.labels in
    record {
      globals = done.becomes.passes.globals;
      same = done.same;
      numbered = λ later more. record {
        ids = subst (λ (n : ℕ). EachMatches (StandsFor (tables_of later (named 0 ms))) (function_sites g)
            (named n ms)) done.next
            (done.becomes.ids (tables_of later (named 0 ms))
            (record { values = prefix_same vs; labels = prefix_same ls; globals = more }));
        values = done.values ∙ ap (map text_of_name) vs;
        labels = done.labels ∙ ap (map text_of_name) ls;
        types = done.types;
      };
    }
