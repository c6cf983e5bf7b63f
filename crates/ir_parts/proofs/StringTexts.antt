-- A text that passes the test of strings is quotes around bytes of which none is a quote.
use Rattle.std.proofs.Common.{◌≡◌, ℕ, suc, ◌-◌, ◌≤◌, Bool, true, ◌&&◌, List, [], ◌∷◌, ◌++◌, length, take, drop, refl, sym, ap, ◌∙◌, arith}
use Rattle.std.specs.Prelude.{nat_le}
use Rattle.std.specs.List.{list_all}
use Rattle.std.specs.Str.{bytes_eq}
use Rattle.std.proofs.Math.Seq.{take-append_seam, drop-append_seam}
use Rattle.std.proofs.lemmas.Bool.{and_parts, leb-true, le-leb}
use Rattle.std.proofs.lemmas.List.{take-append-drop, length-append}
use Rattle.std.proofs.lemmas.Slice.Eq.{bytes_eq-Decides}
use Rattle.ir_text.specs.Bytes.{is_no_quote}
use Rattle.ir_text.specs.Written.{unescaped, IsQuoted}
use Rattle.ir_text.specs.Said.{inner_text, is_string_text}

-- A text with a quote at both ends is these around what stands between.
framed : (text : List ℕ) → 2 ≤ length text → 34 ∷ [] ≡ take 1 text → 34 ∷ [] ≡ drop (length text - 1) text
    → text ≡ 34 ∷ (inner_text text ++ 34 ∷ [])
framed [] long first last = absurd (omega arith)
framed (b ∷ r) long first last =
    let n : ℕ = length (b ∷ r) - 2 in
    let opening : b ≡ 34 = cc in
    let count : length (b ∷ r) - 1 ≡ suc n = omega (arith, long) in
    let closing : drop n r ≡ 34 ∷ [] = sym (last ∙ ap (λ (k : ℕ). drop k (b ∷ r)) count) in
    ap (λ (b : ℕ). b ∷ r) opening
    ∙ ap (λ (r : List ℕ). 34 ∷ r) (sym (take-append-drop n r) ∙ ap (λ (end : List ℕ). take n r ++ end) closing)

-- what a string says
pub is_quoted_by : (text : List ℕ) → is_string_text text ≡ true → IsQuoted text (unescaped (inner_text text))
unfolding is_string_text
is_quoted_by text e =
    let opens : Bool = bytes_eq (34 ∷ []) (take 1 text) in
    let closes : Bool = bytes_eq (34 ∷ []) (drop (length text - 1) text) in
    let inside : Bool = list_all is_no_quote (inner_text text) in
    let a = and_parts ((nat_le 2 (length text) && opens) && closes) inside e in
    let b = and_parts (nat_le 2 (length text) && opens) closes a.0 in
    let c = and_parts (nat_le 2 (length text)) opens b.0 in (
      inner_text text,
      framed text (leb-true 2 (length text) c.0) ((bytes_eq-Decides (34 ∷ []) (take 1 text)).0 c.1)
          ((bytes_eq-Decides (34 ∷ []) (drop (length text - 1) text)).0 b.1),
      a.1,
      refl,
    )

all_four : (a b c d : Bool) → a ≡ true → b ≡ true → c ≡ true → d ≡ true → (((a && b) && c) && d) ≡ true
all_four a b c d e f g h = rw (e, f, g, h) refl

-- a string between its quotes
framed_text : List ℕ → List ℕ
framed_text inner = 34 ∷ (inner ++ 34 ∷ [])

-- What stands between the quotes is that.
pub inner_of : (inner : List ℕ) → inner_text (34 ∷ (inner ++ 34 ∷ [])) ≡ inner
unfolding framed_text
inner_of inner =
    let count : length (34 ∷ (inner ++ 34 ∷ [])) - 2 ≡ length inner = omega (arith, length-append inner (34 ∷ [])) in
    ap (λ (n : ℕ). take n (inner ++ 34 ∷ [])) count ∙ take-append_seam inner (34 ∷ [])

-- Such a text passes the test.
string_of : (inner : List ℕ) → list_all is_no_quote inner ≡ true → is_string_text (framed_text inner) ≡ true
unfolding is_string_text framed_text
string_of inner plain =
    let text : List ℕ = 34 ∷ (inner ++ 34 ∷ []) in
    let count : length text - 1 ≡ suc (length inner) = omega (arith, length-append inner (34 ∷ [])) in
    let end : drop (length text - 1) text ≡ 34 ∷ [] =
    ap (λ (n : ℕ). drop n text) count ∙ drop-append_seam inner (34 ∷ []) in
    all_four (nat_le 2 (length text)) (bytes_eq (34 ∷ []) (take 1 text))
    (bytes_eq (34 ∷ []) (drop (length text - 1) text))
    (list_all is_no_quote (inner_text text))
    (le-leb 2 (length text) (omega (arith, length-append inner (34 ∷ []))))
    ((bytes_eq-Decides (34 ∷ []) (take 1 text)).1 refl)
    ((bytes_eq-Decides (34 ∷ []) (drop (length text - 1) text)).1 (sym end))
    (ap (list_all is_no_quote) (inner_of inner) ∙ plain)

-- A string passes the test.
pub quoted_is_string : (text bytes : List ℕ) → IsQuoted text bytes → is_string_text text ≡ true
unfolding framed_text
quoted_is_string text bytes l = ap is_string_text l.1 ∙ string_of l.0 l.2

-- What stands between its quotes means its bytes.
pub quoted_means : (text bytes : List ℕ) → IsQuoted text bytes → unescaped (inner_text text) ≡ bytes
quoted_means text bytes l =
    ap (λ (text : List ℕ). unescaped (inner_text text)) l.1 ∙ (ap unescaped (inner_of l.0) ∙ sym l.3)
