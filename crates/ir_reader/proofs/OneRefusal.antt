-- A text is refused at one place.
use Rattle.std.proofs.Common.{◌≡◌, ℕ, List, [], ◌∷◌, ◌++◌, map, refl, sym, ap, subst, ◌∙◌, append_assoc}
use Rattle.std.proofs.lemmas.List.{map-append}
use Rattle.ir_text.specs.Tokens.{Lexeme, Placed}
use Rattle.ir_grammar.specs.Items.{SpellsItems}
use Rattle.ir_grammar.specs.Spelled.{lexemes_of, Viable, IsRefusal, IsNotInGrammar, refused_at}
use Rattle.ir_lex.proofs.OneLexing.{one_lexing}

-- Two ways to part a list: they are one, or the first part of one of them goes on in that of the other.
data Parted (us vs ts ws : List Placed) : Type 0 where
  same : us ≡ vs → ts ≡ ws → Parted us vs ts ws
  longer : (t : Placed) (middle more : List Placed) → ts ≡ t ∷ more → vs ≡ us ++ t ∷ middle → Parted us vs ts ws
  shorter : (t : Placed) (middle more : List Placed) → ws ≡ t ∷ more → us ≡ vs ++ t ∷ middle → Parted us vs ts ws

parted : (us vs ts ws : List Placed) → us ++ ts ≡ vs ++ ws → Parted us vs ts ws
parted [] [] ts ws e = same refl e
parted [] (v ∷ vs) ts ws e = longer v vs (vs ++ ws) e refl
parted (u ∷ us) [] ts ws e = shorter u us (us ++ ts) (sym e) refl
parted (u ∷ us) (v ∷ vs) ts ws e =
    let first : u ≡ v = cc in
    let others : us ++ ts ≡ vs ++ ws = cc in one_more first (parted us vs ts ws others)
  where
    one_more : u ≡ v → Parted us vs ts ws → Parted (u ∷ us) (v ∷ vs) ts ws
    one_more first (same a b) = let whole : u ∷ us ≡ v ∷ vs = cc in same whole b
    one_more first (longer t middle more a b) =
        let whole : v ∷ vs ≡ (u ∷ us) ++ t ∷ middle = cc in longer t middle more a whole
    one_more first (shorter t middle more a b) =
        let whole : u ∷ us ≡ (v ∷ vs) ++ t ∷ middle = cc in shorter t middle more a whole

-- What is viable with more tokens is so with the first of them.
viable_before : (before middle : List Placed) (t : Placed) → Viable (lexemes_of (before ++ t ∷ middle))
    → Viable (lexemes_of before ++ t.lexeme ∷ [])
viable_before before middle t viable =
    let split : lexemes_of (before ++ t ∷ middle) ++ viable.others
    ≡ (lexemes_of before ++ t.lexeme ∷ []) ++ (lexemes_of middle ++ viable.others) =
    ap (λ (ts : List Lexeme). ts ++ viable.others) (map-append (λ (p : Placed). p.lexeme) before (t ∷ middle))
    ∙ (append_assoc (lexemes_of before) (t.lexeme ∷ lexemes_of middle) viable.others
    ∙ sym (append_assoc (lexemes_of before) (t.lexeme ∷ []) (lexemes_of middle ++ viable.others))) in
    record {
      others = lexemes_of middle ++ viable.others;
      drafts = viable.drafts;
      spelled = subst (λ (ts : List Lexeme). SpellsItems viable.drafts ts) split viable.spelled;
    }

-- The tokens before the refusal, those behind it, and where all tokens end.
pub record SameRefusal (before before' behind behind' : List Placed) (end end' : ℕ) : Type 0 where
  pub before_is : before ≡ before'
  pub behind_is : behind ≡ behind'
  pub end_is : end ≡ end'

pub one_refusal : (bytes : List ℕ) (before before' behind behind' : List Placed) (end end' : ℕ)
    → IsRefusal bytes before behind end → IsRefusal bytes before' behind' end'
    → SameRefusal before before' behind behind' end end'
one_refusal bytes before before' behind behind' end end' r s =
    let lexed = one_lexing r.lexed s.lexed in
    decide lexed.1 (parted before before' behind behind' lexed.0)
  where
    decide : end ≡ end' → Parted before before' behind behind' → SameRefusal before before' behind behind' end end'
    decide ends (same a b) = record { before_is = a; behind_is = b; end_is = ends }
    decide ends (longer t middle more a b) = absurd
        (r.stops t more a
        (viable_before before middle t (subst (λ (ps : List Placed). Viable (lexemes_of ps)) b s.viable)))
    decide ends (shorter t middle more a b) = absurd
        (s.stops t more a
        (viable_before before' middle t (subst (λ (ps : List Placed). Viable (lexemes_of ps)) b r.viable)))

-- The place of what is refused, where nothing is left out by name, is one.
pub one_place : (bytes : List ℕ) (at at' : ℕ) → IsNotInGrammar bytes at → IsNotInGrammar bytes at' → at ≡ at'
one_place bytes at at' r s =
    let one = one_refusal bytes r.before s.before r.behind s.behind r.end s.end r.refusal s.refusal in
    r.place ∙ (ap (λ (behind : List Placed). refused_at behind r.end) one.behind_is
    ∙ (ap (refused_at s.behind) one.end_is ∙ sym s.place))
