-- What is left out has one number and one place.
use Rattle.std.proofs.Common.{◌≡◌, ◌≢◌, ℕ, zero, suc, ◌+◌, ◌<◌, Bool, true, false, ◌&&◌, ◌||◌, not, List, [], ◌∷◌, ◌++◌, length, Option, Some, None, ◌⊎◌, inl, inr, refl, sym, ap, subst, ◌∙◌, arith, codes, length-append}
use Rattle.std.specs.Prelude.{slice_get, Contains}
use Rattle.std.specs.Str.{bytes_eq}
use Rattle.std.proofs.lemmas.Option.{same_Some, none-some}
use Rattle.std.proofs.lemmas.Slice.Eq.{bytes_eq-Decides}
use Rattle.ir_text.specs.declared.token.TokenKind.{TokenKind}
use Rattle.ir_text.specs.declared.token.TokenKind.TheVariants.{Word, Quoted, Global, Sign, Dots}
use Rattle.ir_text.specs.PassedOn.{is_among}
use Rattle.ir_text.specs.Tokens.{Lexeme, Placed}
use Rattle.ir_grammar.specs.Layout.{LeavesOut, IsOtherPointer, IsLayoutFault}
use Rattle.ir_grammar.specs.Layout.IsLayoutFault.{here, later}
use Rattle.ir_grammar.specs.Spelled.{left_out, lexemes_of, IsLeftOutToken, IsLeftOut, IsNotInGrammar, IsUnsupported}
use Rattle.ir_reader.proofs.OneRefusal.{one_refusal}

-- ---- the list

-- no text stands twice in a list
abbrev are_apart : List (List ℕ) → Bool
are_apart [] = true
are_apart (t ∷ ts) = not (is_among ts t) && are_apart ts

both : (a b : Bool) → (a && b) ≡ true → (a ≡ true) × (b ≡ true)
both true b h = (refl, h)
both false b h = absurd cc

among : (ts : List (List ℕ)) (k : ℕ) (text : List ℕ) → slice_get ts k ≡ Some text → is_among ts text ≡ true
among [] k text at = absurd (none-some text at)
among (t ∷ ts) zero text at =
    let is : bytes_eq t text ≡ true = (bytes_eq-Decides t text).1 (same_Some t text at) in rw is refl
among (t ∷ ts) (suc k) text at = decide (bytes_eq t text) (among ts k text at)
  where
    decide : (b : Bool) → is_among ts text ≡ true → (b || is_among ts text) ≡ true
    decide true h = refl
    decide false h = h

not_there : (ts : List (List ℕ)) (t : List ℕ) → not (is_among ts t) ≡ true → is_among ts t ≡ true → ⊥
not_there ts t none there = let no = rw there at none in cc

one_number : (ts : List (List ℕ)) → are_apart ts ≡ true → (m n : ℕ) (text : List ℕ)
    → slice_get ts m ≡ Some text → slice_get ts n ≡ Some text → m ≡ n
one_number [] apart m n text a b = absurd (none-some text a)
one_number (t ∷ ts) apart zero zero text a b = refl
one_number (t ∷ ts) apart zero (suc n) text a b =
    let first : t ≡ text = same_Some t text a in
    let there : is_among ts t ≡ true = subst (λ (x : List ℕ). is_among ts x ≡ true) (sym first) (among ts n text b) in
    absurd (not_there ts t (both (not (is_among ts t)) (are_apart ts) apart).0 there)
one_number (t ∷ ts) apart (suc m) zero text a b =
    let first : t ≡ text = same_Some t text b in
    let there : is_among ts t ≡ true = subst (λ (x : List ℕ). is_among ts x ≡ true) (sym first) (among ts m text a) in
    absurd (not_there ts t (both (not (is_among ts t)) (are_apart ts) apart).0 there)
one_number (t ∷ ts) apart (suc m) (suc n) text a b =
    ap suc (one_number ts (both (not (is_among ts t)) (are_apart ts) apart).1 m n text a b)

all_apart : are_apart left_out ≡ true
all_apart = refl

-- ---- a data layout

-- What stands before the first `-` of a text, or before its end.
Ends : List ℕ → Type 0
Ends rest = (rest ≡ []) ⊎ ((more : List ℕ) × (rest ≡ 45 ∷ more))

there : (before : List ℕ) (b : ℕ) (bs : List ℕ) → Contains (before ++ b ∷ bs) b
there [] b bs = (zero, omega arith, refl)
there (a ∷ before) b bs = let h = there before b bs in (suc h.0, omega (arith, h.1), h.2)

further : (a : ℕ) (bs : List ℕ) (b : ℕ) → Contains bs b → Contains (a ∷ bs) b
further a bs b h = (suc h.0, omega (arith, h.1), h.2)

one_front : (spec rest spec' rest' : List ℕ) → spec ++ rest ≡ spec' ++ rest' → (Contains spec 45 → ⊥)
    → (Contains spec' 45 → ⊥) → Ends rest → Ends rest' → (spec ≡ spec') × (rest ≡ rest')
unfolding Ends
one_front [] rest [] rest' e free free' ends ends' = (refl, e)
one_front [] rest (b ∷ spec') rest' e free free' (inl none) ends' = absurd (let none = none in cc)
one_front [] rest (b ∷ spec') rest' e free free' (inr more) ends' =
    let is : b ≡ 45 = (let same : 45 ∷ more.0 ≡ b ∷ (spec' ++ rest') = sym more.1 ∙ e in cc) in
    absurd (free' (subst (λ (c : ℕ). Contains (c ∷ spec') 45) (sym is) (zero, omega arith, refl)))
one_front (b ∷ spec) rest [] rest' e free free' ends (inl none) = absurd (let none = none in cc)
one_front (b ∷ spec) rest [] rest' e free free' ends (inr more) =
    let is : b ≡ 45 = (let same : 45 ∷ more.0 ≡ b ∷ (spec ++ rest) = sym more.1 ∙ sym e in cc) in
    absurd (free (subst (λ (c : ℕ). Contains (c ∷ spec) 45) (sym is) (zero, omega arith, refl)))
one_front (b ∷ spec) rest (c ∷ spec') rest' e free free' ends ends' =
    let first : b ≡ c = cc in
    let others : spec ++ rest ≡ spec' ++ rest' = cc in
    let same = one_front spec rest spec' rest' others (λ h. free (further b spec 45 h))
    (λ h. free' (further c spec' 45 h)) ends ends' in
    (cc, same.1)

no_pointer : IsOtherPointer (codes "E") → ⊥
no_pointer p = elim p.4 [
  | inl e ↦ let is = p.3 in let e = e in cc
  | inr e ↦ let is = p.3 in let e = e in cc
]

one_word : (spec : List ℕ) (word word' : ℕ) → LeavesOut spec word → LeavesOut spec word' → word ≡ word'
one_word spec word word' (inl a) (inl b) = a.1 ∙ sym b.1
one_word spec word word' (inl a) (inr b) = absurd (no_pointer (subst IsOtherPointer a.0 b.0))
one_word spec word word' (inr a) (inl b) = absurd (no_pointer (subst IsOtherPointer b.0 a.0))
one_word spec word word' (inr a) (inr b) = a.1 ∙ sym b.1

one_fault : (text : List ℕ) (word at word' at' : ℕ) → IsLayoutFault text word at → IsLayoutFault text word' at'
    → (word ≡ word') × (at ≡ at')
unfolding Ends
one_fault text word at word' at' (here spec rest e free ends leaves) (here spec' rest' e' free' ends' leaves') =
    let same = one_front spec rest spec' rest' (sym e ∙ e') free free' ends ends' in
    (one_word spec word word' leaves (subst (λ (s : List ℕ). LeavesOut s word') (sym same.0) leaves'), refl)
one_fault text word at word' at' (here spec rest e free ends leaves) (later spec' rest' e' free' fine fault') =
    let same = one_front spec rest spec' (45 ∷ rest') (sym e ∙ e') free free' ends (inr (rest', refl)) in
    absurd (fine word (subst (λ (s : List ℕ). LeavesOut s word) same.0 leaves))
one_fault text word at word' at' (later spec rest e free fine fault) (here spec' rest' e' free' ends' leaves') =
    let same = one_front spec (45 ∷ rest) spec' rest' (sym e ∙ e') free free' (inr (rest, refl)) ends' in
    absurd (fine word' (subst (λ (s : List ℕ). LeavesOut s word') (sym same.0) leaves'))
one_fault text word at word' at' (later {at = place} spec rest e free fine fault) (later {at = place'} spec' rest' e'
    free' fine' fault') =
    let same = one_front spec (45 ∷ rest) spec' (45 ∷ rest') (sym e ∙ e') free free' (inr (rest, refl))
    (inr (rest', refl)) in
    let behind : rest ≡ rest' = (let both = same.1 in cc) in
    let inner = one_fault rest word place word' place' fault
    (subst (λ (t : List ℕ). IsLayoutFault t word' place') (sym behind) fault') in
    (inner.0, omega (arith, inner.1, ap length same.0))

-- ---- what is left out

-- what stands before a last quote
before_last : (bytes others : List ℕ) → bytes ++ 34 ∷ [] ≡ others ++ 34 ∷ [] → bytes ≡ others
before_last [] [] e = refl
before_last [] (c ∷ others) e = absurd (let long = ap length e in omega (arith, long, length-append others (34 ∷ [])))
before_last (b ∷ bytes) [] e = absurd (let long = ap length e in omega (arith, long, length-append bytes (34 ∷ [])))
before_last (b ∷ bytes) (c ∷ others) e =
    let first : b ≡ c = cc in
    let behind : bytes ++ 34 ∷ [] ≡ others ++ 34 ∷ [] = cc in
    let more = before_last bytes others behind in cc

plain_kind : (t : Lexeme) (number : ℕ) (other : TokenKind) → IsLeftOutToken t number → t.kind ≡ other
    → (Word ≡ other → ⊥) → ((b : ℕ) → Sign b ≡ other → ⊥) → (Dots ≡ other → ⊥) → ⊥
plain_kind t number other out is no_word no_sign no_dots = decide out.0
  where
    decide : (t.kind ≡ Word) ⊎ ((b : ℕ) × (t.kind ≡ Sign b)) ⊎ (t.kind ≡ Dots) → ⊥
    decide (inl word) = no_word (sym word ∙ is)
    decide (inr (inl sign)) = no_sign sign.0 (sym sign.1 ∙ is)
    decide (inr (inr dots)) = no_dots (sym dots ∙ is)

pub one_name : (before : List Lexeme) (t : Placed) (number at number' at' : ℕ) → IsLeftOut before t number at
    → IsLeftOut before t number' at' → (number ≡ number') × (at ≡ at')
one_name before t number at number' at' (inl a) (inl b) =
    (one_number left_out all_apart number number' t.lexeme.text a.0.1 b.0.1, a.1 ∙ sym b.1)
one_name before t number at number' at' (inl a) (inr (inl b)) =
    absurd (plain_kind t.lexeme number Quoted a.0 b.2 (λ e. cc) (λ c e. cc) (λ e. cc))
one_name before t number at number' at' (inl a) (inr (inr b)) =
    absurd (plain_kind t.lexeme number Global a.0 b.5.0 (λ e. cc) (λ c e. cc) (λ e. cc))
one_name before t number at number' at' (inr (inl a)) (inl b) =
    absurd (plain_kind t.lexeme number' Quoted b.0 a.2 (λ e. cc) (λ c e. cc) (λ e. cc))
one_name before t number at number' at' (inr (inr a)) (inl b) =
    absurd (plain_kind t.lexeme number' Global b.0 a.5.0 (λ e. cc) (λ c e. cc) (λ e. cc))
one_name before t number at number' at' (inr (inl a)) (inr (inr b)) =
    absurd (let quoted = a.2 in let global = b.5.0 in cc)
one_name before t number at number' at' (inr (inr a)) (inr (inl b)) =
    absurd (let global = a.5.0 in let quoted = b.2 in cc)
one_name before t number at number' at' (inr (inr a)) (inr (inr b)) = (a.7 ∙ sym b.7, a.8 ∙ sym b.8)
one_name before t number at number' at' (inr (inl a)) (inr (inl b)) =
    let texts : 34 ∷ (a.3 ++ 34 ∷ []) ≡ 34 ∷ (b.3 ++ 34 ∷ []) = sym a.4 ∙ b.4 in
    let inner : a.3 ≡ b.3 = before_last a.3 b.3 (let behind = texts in cc) in
    let fault : IsLayoutFault a.3 number' b.5 = subst (λ (t : List ℕ). IsLayoutFault t number' b.5) (sym inner) b.6 in
    let same = one_fault a.3 number a.5 number' b.5 a.6 fault in
    (same.0, a.7 ∙ (ap (λ (offset : ℕ). t.from + (1 + offset)) same.1 ∙ sym b.7))

-- ---- of a text

-- What is refused has no name and a place beside it,
pub not_both : (bytes : List ℕ) (at number place : ℕ) → IsNotInGrammar bytes at → IsUnsupported bytes number place → ⊥
not_both bytes at number place r s =
    let one = one_refusal bytes r.before s.before r.behind (s.token ∷ s.behind) r.end s.end r.refusal s.refusal in
    r.named s.token s.behind one.behind_is number place
    (subst (λ (ps : List Placed). IsLeftOut (lexemes_of ps) s.token number place) (sym one.before_is) s.named)

-- and one name, which stands at one place.
pub one_number_and_place : (bytes : List ℕ) (number at number' at' : ℕ) → IsUnsupported bytes number at
    → IsUnsupported bytes number' at' → (number ≡ number') × (at ≡ at')
one_number_and_place bytes number at number' at' r s =
    let one = one_refusal bytes r.before s.before (r.token ∷ r.behind) (s.token ∷ s.behind) r.end s.end r.refusal
    s.refusal in
    let token : s.token ≡ r.token = (let same = one.behind_is in cc) in
    let there : IsLeftOut (lexemes_of r.before) s.token number' at' =
    subst (λ (ps : List Placed). IsLeftOut (lexemes_of ps) s.token number' at') (sym one.before_is) s.named in
    one_name (lexemes_of r.before) r.token number at number' at' r.named
    (subst (λ (t : Placed). IsLeftOut (lexemes_of r.before) t number' at') token there)
