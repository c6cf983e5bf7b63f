-- What stands before closing brackets is read where the brackets match.
use Rattle.std.proofs.Common.{◌≡◌, ℕ, suc, Bool, true, false, ◌||◌, ◌==◌, if◌then◌else◌, List, [], ◌∷◌, ◌++◌, length, Some, None, Result, Ok, Err, ◌⊎◌, inl, inr, refl, sym, ap, subst, ◌∙◌, append_assoc}
use Rattle.std.specs.Str.{bytes_eq}
use Rattle.std.proofs.lemmas.Bool.{eqb-true, eq-eqb}
use Rattle.std.proofs.lemmas.Slice.Eq.{bytes_eq-Decides}
use Rattle.ir_text.specs.declared.token.TokenKind.{TokenKind}
use Rattle.ir_text.specs.declared.token.TokenKind.TheVariants.{Sign}
use Rattle.ir_text.specs.Tokens.{Lexeme}
use Rattle.ir_text.specs.Listed.{sign}
use Rattle.ir_text.specs.Language.{◌·◌, punctuation}
use Rattle.ir_text.specs.PassedOn.{Closes, is_bracket, IsBalanced}
use Rattle.ir_text.specs.PassedOn.IsBalanced.{none, plain, nested}
use Rattle.ir_parts.specs.declared.brackets.Bracket.{Bracket}
use Rattle.ir_parts.specs.declared.brackets.Bracket.TheVariants.{Opening, Closing, Plain, Wrong}
use Rattle.ir_parts.specs.BracketsReading.{if_written, bracket_of_sign, bracket_of_parts, bracket_of, behind_bracket, or_refuse, closed_at}
use Rattle.ir_parts.proofs.Readers.{Refused, IsReader, Anything, of_language, either, stops_at_all, same_read}

-- ---- what a token is among brackets

abbrev Means : Bracket → Lexeme → Type 0
Means (Opening c) t = (o : ℕ) × (t ≡ sign o) × Closes o c
Means (Closing c) t = t ≡ sign c
Means Plain t = is_bracket t.kind ≡ false
Means Wrong t = Unit {0}

written : (b : ℕ) (text : List ℕ) (bracket : Bracket)
    → Means bracket (sign b) → Means (if_written b text bracket) (record { kind = Sign b; text = text })
written b text bracket means = elim (either (bytes_eq text (b ∷ []))) [
  | inl same ↦ rw same (subst (λ (text : List ℕ). Means bracket (record { kind = Sign b; text = text }))
      (sym ((bytes_eq-Decides text (b ∷ [])).0 same)) means)
  | inr other ↦ rw other tt
]

none_of : (a c d e f g : Bool) → a ≡ false → d ≡ false → f ≡ false → (c || (e || g)) ≡ false
    → (a || c || d || e || f || g) ≡ false
none_of true c d e f g p q r s = absurd cc
none_of false true d e f g p q r s = absurd cc
none_of false false true e f g p q r s = absurd cc
none_of false false false true f g p q r s = absurd cc
none_of false false false false true g p q r s = absurd cc
none_of false false false false false true p q r s = absurd cc
none_of false false false false false false p q r s = refl

all_of : (a c d e f g : Bool) → (a || c || d || e || f || g) ≡ false
    → (a ≡ false) × (d ≡ false) × (f ≡ false) × ((c || (e || g)) ≡ false)
all_of true c d e f g s = absurd cc
all_of false true d e f g s = absurd cc
all_of false false true e f g s = absurd cc
all_of false false false true f g s = absurd cc
all_of false false false false true g s = absurd cc
all_of false false false false false true s = absurd cc
all_of false false false false false false s = (refl, refl, refl, refl)

means_sign : (b : ℕ) (text : List ℕ) → Means (bracket_of_sign b text) (record { kind = Sign b; text = text })
unfolding bracket_of_sign
means_sign b text = elim (either (b == 40)) [
  | inl e ↦ rw e (written b text (Opening 41) (b, refl, inl (eqb-true b 40 e, refl)))
  | inr round ↦ rw round (elim (either (b == 91)) [
    | inl e ↦ rw e (written b text (Opening 93) (b, refl, inr (inl (eqb-true b 91 e, refl))))
    | inr square ↦ rw square (elim (either (b == 123)) [
      | inl e ↦ rw e (written b text (Opening 125) (b, refl, inr (inr (eqb-true b 123 e, refl))))
      | inr curly ↦ rw curly (elim (either ((b == 41) || ((b == 93) || (b == 125)))) [
        | inl e ↦ rw e (written b text (Closing b) refl)
        | inr e ↦ rw e (none_of (b == 40) (b == 41) (b == 91) (b == 93) (b == 123) (b == 125) round square curly e)
      ])
    ])
  ])
]

means : (t : Lexeme) → Means (bracket_of t) t
means t = of_parts t.kind t.text
  where
    of_parts : (kind : TokenKind) (text : List ℕ) → Means (bracket_of_parts kind text) (record {
      kind = kind;
      text =
          text;
    })
    of_parts (Sign b) text = means_sign b text
    of_parts _ text = refl

opening_is : (o c : ℕ) → Closes o c → bracket_of (sign o) ≡ Opening c
unfolding bracket_of_sign
opening_is o c (inl e) = rw (e.0, e.1) refl
opening_is o c (inr (inl e)) = rw (e.0, e.1) refl
opening_is o c (inr (inr e)) = rw (e.0, e.1) refl

closing_is : (o c : ℕ) → Closes o c → bracket_of (sign c) ≡ Closing c
unfolding bracket_of_sign
closing_is o c (inl e) = rw e.1 refl
closing_is o c (inr (inl e)) = rw e.1 refl
closing_is o c (inr (inr e)) = rw e.1 refl

plain_is : (t : Lexeme) → is_bracket t.kind ≡ false → bracket_of t ≡ Plain
unfolding bracket_of_sign
plain_is t e = of_parts t.kind t.text e
  where
    of_parts : (kind : TokenKind) (text : List ℕ) → is_bracket kind ≡ false → bracket_of_parts kind text ≡ Plain
    of_parts (Sign b) text e =
        let all = all_of (b == 40) (b == 41) (b == 91) (b == 93) (b == 123) (b == 125) e in
        rw (all.0, all.1, all.2, all.3) refl
    of_parts _ text e = refl

-- ---- the language

-- balanced tokens before each of the closing brackets
abbrev pub Closed : List ℕ → List Lexeme → Type 0
Closed [] ts = ts ≡ []
Closed (w ∷ waited) ts = (us vs : List Lexeme) × (ts ≡ us ++ (sign w ∷ vs)) × IsBalanced us × Closed waited vs

-- one more token before them
one_plain : (t : Lexeme) (w : ℕ) (waited : List ℕ) (ts : List Lexeme) → is_bracket t.kind ≡ false
    → Closed (w ∷ waited) ts
    → Closed (w ∷ waited) (t ∷ ts)
one_plain t w waited ts no_bracket l =
    (t ∷ l.0, l.1, ap (λ (ts : List Lexeme). t ∷ ts) l.2, plain no_bracket l.3, l.4)

one_opening : (t : Lexeme) (c w : ℕ) (waited : List ℕ) (ts : List Lexeme) → (o : ℕ) × (t ≡ sign o) × Closes o c
    → Closed (c ∷ w ∷ waited) ts → Closed (w ∷ waited) (t ∷ ts)
one_opening t c w waited ts opens l =
    let inside = l.4 in (
      t ∷ (l.0 ++ (sign c ∷ inside.0)),
      inside.1,
      ap (λ (ts : List Lexeme). t ∷ ts) (l.2 ∙ (ap (λ (ts : List Lexeme). l.0 ++ (sign c ∷ ts)) inside.2
          ∙ sym (append_assoc l.0 (sign c ∷ inside.0) (sign w ∷ inside.1)))),
      nested opens.0 c l.0 inside.0 (ap (λ (t : Lexeme). t ∷ (l.0 ++ (sign c ∷ inside.0))) opens.1) opens.2 l.3
          inside.3,
      inside.4,
    )

one_closing : (t : Lexeme) (w : ℕ) (waited : List ℕ) (ts : List Lexeme) → t ≡ sign w → Closed waited ts
    → Closed (w ∷ waited) (t ∷ ts)
one_closing t w waited ts is l = ([], ts, ap (λ (t : Lexeme). t ∷ ts) is, none, l)

-- the brackets alone
signs : List ℕ → List Lexeme
signs [] = []
signs (w ∷ waited) = sign w ∷ signs waited

all_closed : (waited : List ℕ) → Closed waited (signs waited)
unfolding signs
all_closed [] = refl
all_closed (w ∷ waited) = ([], signs waited, refl, none, all_closed waited)

-- ---- the reader

-- what is waited for behind a token, and that the language goes on there
record Goes (t : Lexeme) (w : ℕ) (waited : List ℕ) (next : List ℕ) : Type 0 where
  is : behind_bracket (bracket_of t) (w ∷ waited) ≡ Some next
  more : (taken : List Lexeme) → Closed next taken → Closed (w ∷ waited) (t ∷ taken)

abbrev Next : Lexeme → ℕ → List ℕ → Type 0
Next t w waited = ((next : List ℕ) × Goes t w waited next) ⊎ (behind_bracket (bracket_of t) (w ∷ waited) ≡ None)

next_of : (t : Lexeme) (w : ℕ) (waited : List ℕ) (bracket : Bracket) → bracket_of t ≡ bracket → Means bracket t
    → Next t w waited
next_of t w waited (Opening c) e m = inl (
  c ∷ (w ∷ waited),
  record {
    is = ap (λ b. behind_bracket b (w ∷ waited)) e;
    more = λ taken l. one_opening t c w waited taken m l;
  },
)
next_of t w waited (Closing c) e m = elim (either (c == w)) [
  | inl same ↦ inl (
    waited,
    record {
      is = ap (λ b. behind_bracket b (w ∷ waited)) e ∙ ap (λ b. if b then Some waited else None) same;
      more = λ taken l. one_closing t w waited taken (m ∙ ap sign (eqb-true c w same)) l;
    },
  )
  | inr other ↦ inr (ap (λ b. behind_bracket b (w ∷ waited)) e ∙ ap (λ b. if b then Some waited else None) other)
]
next_of t w waited Plain e m = inl (
  w ∷ waited,
  record {
    is = ap (λ b. behind_bracket b (w ∷ waited)) e;
    more = λ taken l. one_plain t w waited taken m l;
  },
)
next_of t w waited Wrong e m = inr (ap (λ b. behind_bracket b (w ∷ waited)) e)

closed_by : (c w : ℕ) (waited : List ℕ) → bracket_of (sign c) ≡ Closing c → c ≡ w
    → behind_bracket (bracket_of (sign c)) (w ∷ waited) ≡ Some waited
closed_by c w waited e same =
    ap (λ b. behind_bracket b (w ∷ waited)) e ∙ ap (λ b. if b then Some waited else None) (eq-eqb c w same)

goes_on : (t : Lexeme) (w : ℕ) (waited next : List ℕ) (ts : List Lexeme)
    → behind_bracket (bracket_of t) (w ∷ waited) ≡ Some next
    → closed_at (w ∷ waited) (t ∷ ts) ≡ closed_at next ts
unfolding closed_at
goes_on t w waited next ts e = ap (λ o. or_refuse o (λ waited. closed_at waited ts) (suc (length ts))) e

refuses_at : (t : Lexeme) (w : ℕ) (waited : List ℕ) (ts : List Lexeme)
    → behind_bracket (bracket_of t) (w ∷ waited) ≡ None
    → closed_at (w ∷ waited) (t ∷ ts) ≡ Err (suc (length ts))
unfolding closed_at
refuses_at t w waited ts e = ap (λ o. or_refuse o (λ waited. closed_at waited ts) (suc (length ts))) e

record Found (waited : List ℕ) (ts rest : List Lexeme) : Type 0 where
  taken : List Lexeme
  parts : ts ≡ taken ++ rest
  spelled : Closed waited taken

same_rest : (x y : Unit {0}) (ts us : List Lexeme) → ◌≡◌ {A = Result (Unit {0} × List Lexeme) ℕ} (Ok (x, ts)) (Ok (
  y,
  us,
)) → ts ≡ us
same_rest x y ts us e = ap (λ (p : Unit {0} × List Lexeme). p.1) (same_read (x, ts) (y, us) e)

found : (ts : List Lexeme) (waited : List ℕ) (rest : List Lexeme) (x : Unit {0}) → closed_at waited ts ≡ Ok (x, rest)
    → Found waited ts rest
unfolding closed_at
found [] [] rest x e = record { taken = []; parts = same_rest tt x [] rest e; spelled = refl }
found (t ∷ ts) [] rest x e = record { taken = []; parts = same_rest tt x (t ∷ ts) rest e; spelled = refl }
found [] (w ∷ waited) rest x e = absurd cc
found (t ∷ ts) (w ∷ waited) rest x e = elim (next_of t w waited (bracket_of t) refl (means t)) [
  | inl next ↦
      let f = found ts next.0 rest x (sym (goes_on t w waited next.0 ts next.1.is) ∙ e) in
      record {
        taken = t ∷ f.taken;
        parts = ap (λ (ts : List Lexeme). t ∷ ts) f.parts;
        spelled = next.1.more f.taken
            f.spelled;
      }
  | inr none_next ↦ absurd (let both = sym (refuses_at t w waited ts none_next) ∙ e in cc)
]

balanced : (us : List Lexeme) → IsBalanced us → (w : ℕ) (waited : List ℕ) (ts : List Lexeme)
    → closed_at (w ∷ waited) (us ++ ts) ≡ closed_at (w ∷ waited) ts
balanced us none w waited ts = refl
balanced us (plain {t = t} {ts = vs} no_bracket inside) w waited ts =
    goes_on t w waited (w ∷ waited) (vs ++ ts) (ap (λ b. behind_bracket b (w ∷ waited)) (plain_is t no_bracket))
    ∙ balanced vs inside w waited ts
balanced us (nested opening closing inner rest parts closes inside others) w waited ts =
    ap (λ (us : List Lexeme). closed_at (w ∷ waited) (us ++ ts)) parts
    ∙ (goes_on (sign opening) w waited (closing ∷ (w ∷ waited)) ((inner ++ sign closing ∷ rest) ++ ts)
    (ap (λ b. behind_bracket b (w ∷ waited)) (opening_is opening closing closes))
    ∙ (ap (closed_at (closing ∷ (w ∷ waited))) (append_assoc inner (sign closing ∷ rest) ts)
    ∙ (balanced inner inside closing (w ∷ waited) (sign closing ∷ (rest ++ ts))
    ∙ (goes_on (sign closing) closing (w ∷ waited) (w ∷ waited) (rest ++ ts)
    (closed_by closing closing (w ∷ waited) (closing_is opening closing closes) refl)
    ∙ balanced rest others w waited ts))))

closes_here : (w : ℕ) (waited : List ℕ) (ts : List Lexeme) → bracket_of (sign w) ≡ Closing w
    → closed_at (w ∷ waited) (sign w ∷ ts) ≡ closed_at waited ts
closes_here w waited ts e = goes_on (sign w) w waited waited ts (closed_by w w waited e refl)

stuck : (ts : List Lexeme) (waited : List ℕ) (left : ℕ) → closed_at waited ts ≡ Err left
    → Refused (closed_at waited) (λ (x : Unit {0}). Closed waited) ts left
unfolding closed_at
stuck [] [] left e = absurd cc
stuck (t ∷ ts) [] left e = absurd cc
stuck [] (w ∷ waited) left e = record {
  before = [];
  after = [];
  parts = refl;
  so_many = cc;
  whole = tt;
  others = signs (w ∷ waited);
  begun = all_closed (w ∷ waited);
  at_end = refl;
  stays = λ t behind instead e. absurd cc;
}
stuck (t ∷ ts) (w ∷ waited) left e = elim (next_of t w waited (bracket_of t) refl (means t)) [
  | inl next ↦
      let r = stuck ts next.0 left (sym (goes_on t w waited next.0 ts next.1.is) ∙ e) in
      record {
        before = t ∷ r.before;
        after = r.after;
        parts = ap (λ (ts : List Lexeme). t ∷ ts) r.parts;
        so_many = r.so_many;
        whole = tt;
        others = r.others;
        begun = next.1.more (r.before ++ r.others) r.begun;
        at_end = goes_on t w waited next.0 r.before next.1.is ∙ r.at_end;
        stays = λ u behind instead e.
            goes_on t w waited next.0 (r.before ++ u ∷ instead) next.1.is ∙ r.stays u behind instead e;
      }
  | inr none_next ↦ record {
    before = [];
    after = t ∷ ts;
    parts = refl;
    so_many = left_is ts left (sym (refuses_at t w waited ts none_next) ∙ e);
    whole = tt;
    others = signs (w ∷ waited);
    begun = all_closed (w ∷ waited);
    at_end = refl;
    stays = λ u behind instead e. let same : t ≡ u = cc in
        refuses_at u w waited instead (subst (λ (t : Lexeme). behind_bracket (bracket_of t) (w ∷ waited) ≡ None) same
        none_next);
  }
]
  where
    left_is : (ts : List Lexeme) (left : ℕ) → ◌≡◌ {A = Result (Unit {0} × List Lexeme) ℕ} (Err (suc (length ts))) (Err
        left)
        → suc (length ts) ≡ left
    left_is ts left e = cc

nothing_open : (ts : List Lexeme) → closed_at [] ts ≡ Ok (tt, ts)
unfolding closed_at
nothing_open [] = refl
nothing_open (t ∷ ts) = refl

-- balanced tokens, and the bracket that closes
pub closed_reads : (w : ℕ) → bracket_of (sign w) ≡ Closing w
    → IsReader (closed_at (w ∷ [])) (λ (x : Unit {0}). IsBalanced · punctuation w) Anything
closed_reads w closing = of_language (λ (x : Unit {0}). IsBalanced · punctuation w)
    (λ x ts l. (l.0, sign w ∷ l.1, l.2, l.3, ap (λ (ts : List Lexeme). sign w ∷ ts) l.4))
    (λ x ts l. (l.0, [], l.2 ∙ ap (λ (ts : List Lexeme). l.0 ++ ts) l.4, l.3, refl))
    (record {
      takes = λ ts rest x e. let f = found ts (w ∷ []) rest x e in
          record { taken = f.taken; parts = f.parts; spelled = f.spelled; stops = stops_at_all rest (λ t. tt) };
      reads = λ x taken rest l stops.
          ap (λ (ts : List Lexeme). closed_at (w ∷ []) (ts ++ rest)) l.2
          ∙ (ap (closed_at (w ∷ [])) (append_assoc l.0 (sign w ∷ l.1) rest)
          ∙ (balanced l.0 l.3 w [] (sign w ∷ (l.1 ++ rest))
          ∙ (closes_here w [] (l.1 ++ rest) closing
          ∙ (ap (λ (ts : List Lexeme). closed_at [] (ts ++ rest)) l.4 ∙ nothing_open rest))));
      refuses = λ ts left e. stuck ts (w ∷ []) left e;
      some = tt;
      sentence = signs (w ∷ []);
      sample = all_closed (w ∷ []);
    })

pub round_closed : IsReader (closed_at (41 ∷ [])) (λ (x : Unit {0}). IsBalanced · punctuation 41) Anything
round_closed = closed_reads 41 (closing_is 40 41 (inl (refl, refl)))

pub curly_closed : IsReader (closed_at (125 ∷ [])) (λ (x : Unit {0}). IsBalanced · punctuation 125) Anything
curly_closed = closed_reads 125 (closing_is 123 125 (inr (inr (refl, refl))))
