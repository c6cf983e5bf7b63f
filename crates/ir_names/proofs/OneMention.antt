-- A walk past one mention.
use Rattle.std.proofs.Common.{◌≡◌, ℕ, List, [], ◌∷◌, Some, slice_get, unwrap_or, ap, ◌∙◌, subst}
use Rattle.std.specs.Str.{bytes_eq}
use Rattle.ir_text.specs.Written.{Name, Text}
use Rattle.ir_text.specs.Said.{said_local, said_label, said_global}
use Rattle.ir_model.specs.Sites.{Site}
use Rattle.ir_model.specs.Sites as site
use Rattle.ir_grammar.specs.Numbering.{next_after, or_next, same_name, IsFirstPlace}
use Rattle.ir_lex.specs.Tokenized.{Tokenized}
use Rattle.ir_parts.specs.Places.{said_at}
use Rattle.ir_names.specs.declared.seen.Seen.{Seen}
use Rattle.ir_names.specs.Growing.{with_name}
use Rattle.ir_names.specs.Renumbered.{Becomes}
use Rattle.ir_names.proofs.Growing.{kept, kept_first}

module _ (t : Tokenized) (old new : Seen) (at id : ℕ) where
  module _ (name : Name) where
    pub value_defined : name ≡ or_next (said_at said_local t at) old.next → new.next ≡ next_after old.next name
        → new.values ≡ with_name same_name old.values name → new.labels ≡ old.labels → new.globals ≡ old.globals
        → slice_get new.values id ≡ Some name
        → Becomes t old new (site.DefinesValue at ∷ []) (site.DefinesValue id ∷ [])
    value_defined is next values labels globals stored = record {
      passes = record {
        next = next ∙ ap (next_after old.next) is;
        values = values
            ∙ ap (with_name same_name old.values) is;
        labels = labels;
        globals = globals;
      };
      ids = λ later more. (kept more.values id name stored ∙ ap Some is, tt);
    }

    pub block_defined : name ≡ or_next (said_at said_label t at) old.next → new.next ≡ next_after old.next name
        → new.labels ≡ with_name same_name old.labels name → new.values ≡ old.values → new.globals ≡ old.globals
        → slice_get new.labels id ≡ Some name
        → Becomes t old new (site.DefinesBlock at ∷ []) (site.DefinesBlock id ∷ [])
    block_defined is next labels values globals stored = record {
      passes = record {
        next = next ∙ ap (next_after old.next) is;
        labels = labels
            ∙ ap (with_name same_name old.labels) is;
        values = values;
        globals = globals;
      };
      ids = λ later more. (kept more.labels id name stored ∙ ap Some is, tt);
    }

    pub value_used : name ≡ unwrap_or (said_at said_local t at) (Text []) → new.next ≡ old.next
        → new.values ≡ with_name same_name old.values name → new.labels ≡ old.labels → new.globals ≡ old.globals
        → slice_get new.values id ≡ Some name
        → Becomes t old new (site.UsesValue at ∷ []) (site.UsesValue id ∷ [])
    value_used is next values labels globals stored = record {
      passes = record {
        next = next;
        values = values ∙ ap (with_name same_name old.values) is;
        labels =
            labels;
        globals = globals;
      };
      ids = λ later more. (kept more.values id name stored ∙ ap Some is, tt);
    }

    pub block_used : name ≡ unwrap_or (said_at said_local t at) (Text []) → new.next ≡ old.next
        → new.labels ≡ with_name same_name old.labels name → new.values ≡ old.values → new.globals ≡ old.globals
        → slice_get new.labels id ≡ Some name
        → Becomes t old new (site.UsesBlock at ∷ []) (site.UsesBlock id ∷ [])
    block_used is next labels values globals stored = record {
      passes = record {
        next = next;
        labels = labels ∙ ap (with_name same_name old.labels) is;
        values =
            values;
        globals = globals;
      };
      ids = λ later more. (kept more.labels id name stored ∙ ap Some is, tt);
    }

  pub global_used : (name : List ℕ) → name ≡ unwrap_or (said_at said_global t at) [] → new.next ≡ old.next
      → new.globals ≡ with_name bytes_eq old.globals name → new.values ≡ old.values → new.labels ≡ old.labels
      → IsFirstPlace new.globals name id
      → Becomes t old new (site.UsesGlobal at ∷ []) (site.UsesGlobal id ∷ [])
  global_used name is next globals values labels first = record {
    passes = record {
      next = next;
      globals = globals ∙ ap (with_name bytes_eq old.globals) is;
      values =
          values;
      labels = labels;
    };
    ids = λ later more. (
      let P : List ℕ → Type 0 =
          λ n. IsFirstPlace later.globals n id in subst P is (kept_first more.globals name id first),
      tt,
    );
  }
