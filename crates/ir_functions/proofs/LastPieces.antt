-- The last piece of a run: how it ends, and the run without it, with one more piece, and with a numeral behind it.
use Rattle.std.proofs.Common.{◌≡◌, ℕ, Bool, true, false, ◌||◌, if◌then◌else◌, List, [], ◌∷◌, ◌++◌, ◌⊎◌, inl, inr, refl, sym, ap, ◌∙◌, append_assoc, codes}
use Rattle.std.specs.Str.{bytes_eq}
use Rattle.std.proofs.lemmas.List.{append-nil}
use Rattle.std.proofs.lemmas.Slice.Eq.{bytes_eq-Decides}
use Rattle.ir_text.specs.declared.token.TokenKind.TheVariants as kind
use Rattle.ir_text.specs.Tokens.{Lexeme}
use Rattle.ir_text.specs.Listed.{word}
use Rattle.ir_text.specs.PassedOn.{IsPiece, ArePieces}
use Rattle.ir_parts.specs.declared.ending.Ending.TheVariants.{Word, Placing, Placed, Quoted, Closed}
use Rattle.ir_parts.specs.TypeReading.{int_width_of}
use Rattle.ir_parts.specs.WordsReading.{is_passed_text}
use Rattle.ir_parts.specs.Runs.{is_placing, ending_of, ending_of_last}
use Rattle.ir_parts.proofs.SingleTokens.{same_token}
use Rattle.ir_parts.proofs.PieceTokens.{IsPassed, passed_there}

-- ---- one more piece

pub one_more : (pieces : List (List Lexeme)) (us piece : List Lexeme) → ArePieces pieces us → IsPiece piece
    → ArePieces (pieces ++ piece ∷ []) (us ++ piece)
one_more [] us piece l is =
    (piece, [], ap (λ (us : List Lexeme). us ++ piece) l ∙ sym (append-nil piece), (refl, is), refl)
one_more (first ∷ pieces) us piece l is = (
  l.0,
  l.1 ++ piece,
  ap (λ (us : List Lexeme). us ++ piece) l.2 ∙ append_assoc l.0 l.1 piece,
  l.3,
  one_more pieces l.1 piece l.4 is,
)

pub ends_as_last : (pieces : List (List Lexeme)) (piece : List Lexeme)
    → ending_of_last (pieces ++ piece ∷ []) ≡ ending_of piece
ends_as_last [] piece = refl
ends_as_last (first ∷ []) piece = refl
ends_as_last (first ∷ next ∷ pieces) piece = ends_as_last (next ∷ pieces) piece

-- ---- the run without its last piece

pub record WithoutLast (pieces : List (List Lexeme)) (us : List Lexeme) : Type 0 where
  pub others : List (List Lexeme)
  pub before : List Lexeme
  pub piece : List Lexeme
  pub parts : us ≡ before ++ piece
  pub all : pieces ≡ others ++ piece ∷ []
  pub are_pieces : ArePieces others before
  pub is_piece : IsPiece piece

pub without_last : (first : List Lexeme) (pieces : List (List Lexeme)) (us : List Lexeme)
    → ArePieces (first ∷ pieces) us → WithoutLast (first ∷ pieces) us
without_last first [] us l = record {
  others = [];
  before = [];
  piece = first;
  parts = l.2 ∙ (ap (λ (vs : List Lexeme). l.0 ++ vs) l.4 ∙ (append-nil l.0 ∙ l.3.0));
  all = refl;
  are_pieces = refl;
  is_piece = l.3.1;
}
without_last first (next ∷ pieces) us l =
    let last = without_last next pieces l.1 l.4 in
    record {
      others = first ∷ last.others;
      before = l.0 ++ last.before;
      piece = last.piece;
      parts = l.2 ∙ (ap (λ (vs : List Lexeme). l.0 ++ vs) last.parts ∙ sym (append_assoc l.0 last.before last.piece));
      all = ap (λ (pieces : List (List Lexeme)). first ∷ pieces) last.all;
      are_pieces = (l.0, last.before, refl, l.3, last.are_pieces);
      is_piece = last.is_piece;
    }

-- ---- pieces by how they end

-- a word behind which a numeral may stand
pub record IsPlacing (name : List ℕ) : Type 0 where
  pub alone : IsPiece (word name ∷ [])
  pub ends : ending_of (word name ∷ []) ≡ Placing
  pub with_numeral : (t : Lexeme) → t.kind ≡ kind.Numeral → IsPiece (word name ∷ t ∷ [])

-- a piece is a word alone, such a word with its numeral, or ends otherwise
data Form (piece : List Lexeme) : Type 0 where
  one_word : (t : Lexeme) → piece ≡ t ∷ [] → IsPassed t → Form piece
  with_its_numeral : (name : List ℕ) (t : Lexeme) → piece ≡ word name ∷ t ∷ [] → t.kind ≡ kind.Numeral → IsPlacing name
      → Form piece
  otherwise : (ending_of piece ≡ Quoted) ⊎ (ending_of piece ≡ Closed) → Form piece

align_places : IsPlacing (codes "align")
unfolding is_passed_text int_width_of
align_places = record {
  alone = inl (word (codes "align"), refl, passed_there (word (codes "align")) refl);
  ends = refl;
  with_numeral = λ t is. inr (inr (inl (word (codes "align") ∷ [], t ∷ [], refl, inl refl, (t, refl, is))));
}

cc_places : IsPlacing (codes "cc")
unfolding is_passed_text int_width_of
cc_places = record {
  alone = inl (word (codes "cc"), refl, passed_there (word (codes "cc")) refl);
  ends = refl;
  with_numeral = λ t is. inr (inr (inl (word (codes "cc") ∷ [], t ∷ [], refl, inr refl, (t, refl, is))));
}

form_of : (piece : List Lexeme) → IsPiece piece → Form piece
form_of piece (inl (t, parts, is)) = one_word t parts is
form_of piece (inr (inl (us, vs, parts, (t, first, is), behind))) =
    otherwise (inr (rw (parts, first, is.0, behind.2, behind.3) refl))
form_of piece (inr (inr (inl (us, vs, parts, inl first, (t, second, is))))) =
    with_its_numeral (codes "align") t (rw (parts, first, second) refl) is align_places
form_of piece (inr (inr (inl (us, vs, parts, inr first, (t, second, is))))) =
    with_its_numeral (codes "cc") t (rw (parts, first, second) refl) is cc_places
form_of piece (inr (inr (inr (inl (t, parts, is))))) = otherwise (inl (rw (parts, is.0) refl))
form_of piece (inr (inr (inr (inr (inl (us, vs, parts, (t, first, is), behind)))))) =
    otherwise (inr (rw (parts, first, is.0, behind.2, behind.3) refl))
form_of piece (inr (inr (inr (inr (inr (t, parts, is)))))) = otherwise (inr (rw (parts, is.0) refl))

-- how a word alone ends
word_ends : (t : Lexeme) → t.kind ≡ kind.Word → ending_of (t ∷ []) ≡ (if is_placing t.text then Placing else Word)
word_ends t is = rw is refl

pub placed_ends : (name : List ℕ) (t : Lexeme) → t.kind ≡ kind.Numeral → ending_of (word name ∷ t ∷ []) ≡ Placed
placed_ends name t is = rw is refl

-- a word alone is the last piece
pub record EndsInWord (piece : List Lexeme) : Type 0 where
  pub last : Lexeme
  pub parts : piece ≡ last ∷ []
  pub is_word : last.kind ≡ kind.Word

pub ends_in_word : (piece : List Lexeme) → IsPiece piece → ending_of piece ≡ Word → EndsInWord piece
ends_in_word piece is e = of_form (form_of piece is)
  where
    of_form : Form piece → EndsInWord piece
    of_form (one_word t parts is) = record { last = t; parts = parts; is_word = is.0 }
    of_form (with_its_numeral name t parts is placing) =
        absurd (let no : Placed ≡ Word = sym (placed_ends name t is) ∙ (ap ending_of (sym parts) ∙ e) in cc)
    of_form (otherwise (inl other)) = absurd (let no : Quoted ≡ Word = sym other ∙ e in cc)
    of_form (otherwise (inr other)) = absurd (let no : Closed ≡ Word = sym other ∙ e in cc)

-- the last piece is a word with its numeral
pub record EndsPlaced (piece : List Lexeme) : Type 0 where
  pub name : List ℕ
  pub last : Lexeme
  pub parts : piece ≡ word name ∷ last ∷ []
  pub is_numeral : last.kind ≡ kind.Numeral
  pub placing : IsPlacing name

either_word : (b : Bool) → Placed ≡ (if b then Placing else Word) → ⊥
either_word true e = cc
either_word false e = cc

pub ends_placed : (piece : List Lexeme) → IsPiece piece → ending_of piece ≡ Placed → EndsPlaced piece
ends_placed piece is e = of_form (form_of piece is)
  where
    of_form : Form piece → EndsPlaced piece
    of_form (one_word t parts is) = absurd (either_word (is_placing t.text)
        (sym e ∙ (ap ending_of parts ∙ word_ends t is.0)))
    of_form (with_its_numeral name t parts is placing) =
        record { name = name; last = t; parts = parts; is_numeral = is; placing = placing }
    of_form (otherwise (inl other)) = absurd (let no : Quoted ≡ Placed = sym other ∙ e in cc)
    of_form (otherwise (inr other)) = absurd (let no : Closed ≡ Placed = sym other ∙ e in cc)

-- the last piece is a word that may take a numeral
pub record EndsPlacing (piece : List Lexeme) : Type 0 where
  pub name : List ℕ
  pub parts : piece ≡ word name ∷ []
  pub placing : IsPlacing name

placing_name : (a b : Bool) → (if a || (b || false) then Placing else Word) ≡ Placing → (a ≡ true) ⊎ (b ≡ true)
placing_name true b e = inl refl
placing_name false true e = inr refl
placing_name false false e = absurd cc

pub ends_placing : (piece : List Lexeme) → IsPiece piece → ending_of piece ≡ Placing → EndsPlacing piece
ends_placing piece is e = of_form (form_of piece is)
  where
    named : (t : Lexeme) (name : List ℕ) → piece ≡ t ∷ [] → IsPassed t → bytes_eq name t.text ≡ true → IsPlacing name
        → EndsPlacing piece
    named t name parts is same placing = record {
      name = name;
      parts = parts ∙ ap (λ (t : Lexeme). t ∷ [])
          (same_token t.kind kind.Word t.text name is.0 (sym ((bytes_eq-Decides name t.text).0 same)));
      placing = placing;
    }

    of_word : (t : Lexeme) → piece ≡ t ∷ [] → IsPassed t
        → (bytes_eq (codes "align") t.text ≡ true) ⊎ (bytes_eq (codes "cc") t.text ≡ true) → EndsPlacing piece
    of_word t parts is (inl align) = named t (codes "align") parts is align align_places
    of_word t parts is (inr cc_word) = named t (codes "cc") parts is cc_word cc_places

    of_form : Form piece → EndsPlacing piece
    of_form (one_word t parts is) = of_word t parts is
        (placing_name (bytes_eq (codes "align") t.text) (bytes_eq (codes "cc") t.text)
        (sym (word_ends t is.0) ∙ (ap ending_of (sym parts) ∙ e)))
    of_form (with_its_numeral name t parts is placing) =
        absurd (let no : Placed ≡ Placing = sym (placed_ends name t is) ∙ (ap ending_of (sym parts) ∙ e) in cc)
    of_form (otherwise (inl other)) = absurd (let no : Quoted ≡ Placing = sym other ∙ e in cc)
    of_form (otherwise (inr other)) = absurd (let no : Closed ≡ Placing = sym other ∙ e in cc)
