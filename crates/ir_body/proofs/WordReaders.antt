-- Words that stand for something are read.
use Rattle.std.proofs.Common.{◌≡◌, ℕ, Bool, if◌then◌else◌, List, [], ◌∷◌, Option, Some, None, inl, inr, refl, sym, ap, ◌∙◌}
use Rattle.scev_base.specs.declared.pred.Pred.{Pred}
use Rattle.scev_base.specs.declared.pred.Pred.TheVariants as pred
use Rattle.ir_text.specs.declared.token.TokenKind.TheVariants.{Word}
use Rattle.ir_text.specs.Tokens.{Lexeme}
use Rattle.ir_text.specs.Listed.{word}
use Rattle.ir_text.specs.Language.{keyword}
use Rattle.ir_grammar.specs.Operations.{pred_text}
use Rattle.ir_parts.specs.Reading.{one_at, is_word_kind}
use Rattle.ir_parts.proofs.Readers.{IsReader, Anything, either, of_language, one_reads}
use Rattle.ir_parts.proofs.SingleTokens.{word_kind, same_token}
use Rattle.ir_body.specs.Tables.{look_up}
pub use Rattle.ir_parts.proofs.LookedUp.{Entries, look_up_gives}
use Rattle.ir_body.specs.Opcodes.{predicates, predicate_of_text, predicate_of, predicate_at}

-- Each word stands for one thing, where something holds of it.
pub record Stands {A : Type 0} (of_text : List ℕ → Option A) (text_of : A → List ℕ) (Is : A → Type 0) : Type 0 where
  pub there : (text : List ℕ) (x : A) → of_text text ≡ Some x → Is x × (text ≡ text_of x)
  pub back : (x : A) → Is x → of_text (text_of x) ≡ Some x
  pub some : A
  pub is_some : Is some

pub words_read : {A : Type 0} {of_text : List ℕ → Option A} {text_of : A → List ℕ} {Is : A → Type 0}
    → Stands of_text text_of Is
    → IsReader (one_at (λ t. if is_word_kind t.kind then of_text t.text else None))
    (λ x ts. Is x × keyword (text_of x) ts) Anything
words_read {A} {of_text} {text_of} {Is} stands = of_language (λ x ts. Is x × keyword (text_of x) ts)
    (λ x ts l. (l.2.0, l.1 ∙ ap (λ (t : Lexeme). t ∷ []) l.2.1))
    (λ x ts l. (word (text_of x), l.1, (l.0, refl)))
    (one_reads (λ t. if is_word_kind t.kind then of_text t.text else None)
    (λ x t. Is x × (t ≡ word (text_of x))) there back
    stands.some (word (text_of stands.some)) (stands.is_some, refl))
  where
    there : (x : A) (t : Lexeme) → ◌≡◌ {A = Option A} (if is_word_kind t.kind then of_text t.text else None) (Some x)
        → Is x × (t ≡ word (text_of x))
    there x t e = elim (either (is_word_kind t.kind)) [
      | inl is ↦
          let found = stands.there t.text x (sym (ap (λ (b : Bool). if b then of_text t.text else None) is) ∙ e) in
          (found.0, same_token t.kind Word t.text (text_of x) (word_kind t.kind is) found.1)
      | inr other ↦ absurd (let none = sym (ap (λ (b : Bool). if b then of_text t.text else None) other) ∙ e in cc)
    ]

    back : (x : A) (t : Lexeme) → Is x × (t ≡ word (text_of x))
        → ◌≡◌ {A = Option A} (if is_word_kind t.kind then of_text t.text else None) (Some x)
    back x t l = rw l.1 (stands.back x l.0)

pub predicate_reads : IsReader predicate_at (λ predicate. keyword (pred_text predicate)) Anything
unfolding predicate_at predicate_of predicate_of_text
predicate_reads = of_language (λ predicate. keyword (pred_text predicate)) (λ x ts l. l.1) (λ x ts l. (tt, l))
    (words_read stands)
  where
    stands : Stands (look_up predicates) pred_text (λ x. Unit {0})
    stands = record {
      there = λ text x e. (
        tt,
        look_up_gives (λ text x. text ≡ pred_text x) predicates text x
            (refl, (refl, (refl, (refl, (refl, (refl, (refl, (refl, (refl, (refl, tt)))))))))) e,
      );
      back = λ x is. back x;
      some = pred.Eq;
      is_some = tt;
    }
      where
        back : (x : Pred) → look_up predicates (pred_text x) ≡ Some x
        back pred.Eq = refl
        back pred.Ne = refl
        back pred.Ugt = refl
        back pred.Uge = refl
        back pred.Ult = refl
        back pred.Ule = refl
        back pred.Sgt = refl
        back pred.Sge = refl
        back pred.Slt = refl
        back pred.Sle = refl
