-- What is said with one word more, and the parts that begin with it.
use Rattle.std.proofs.Common.{◌≡◌, inl, inr, ℕ, ◌+◌, Bool, true, false, cond, eqb, ◌&&◌, List, [], ◌∷◌, ◌++◌}
use Rattle.std.proofs.Common.{Option, Some, None, take, drop, refl, sym, ap, ◌∙◌, subst}
use Rattle.std.specs.Prelude.{codes, position}
use Rattle.std.specs.Option.{option_map, option_and_then}
use Rattle.std.specs.Str.{bytes_eq}
use Rattle.std.proofs.lemmas.Bool.{eqb-true, and_parts}
use Rattle.std.proofs.lemmas.Option.{none-some, same_Some, option_and_then_some}
use Rattle.std.proofs.lemmas.Slice.Eq.{bytes_eq-Decides}
use Rattle.eval_request.specs.Asked.{Asked}
use Rattle.scev_words.specs.Modes.{Name, Function, Args, Steps, name_text, Part, TheMode, With, AreParts}
use Rattle.scev_words.specs.Said.{Said, is_equals, with_value, name_of, awaiting, with_option, with_dashes, with_word}
use Rattle.scev_words.specs.Said.{said_also}
use Rattle.scev_words.proofs.Words.{position-name_and_value, parted_at, one_name, named}
use Rattle.scev_words.proofs.FirstPart.{name_word, whole_word, name-no_mode, name-no_whole}
use Rattle.scev_words.proofs.FirstPart.{mode_before, value_before, whole_before, mode_first, value_first}
use Rattle.scev_words.proofs.Asks.{awaited_words, Asks, asks_awaiting, asks_awaited, mode_asks, asks_mode, filled}
use Rattle.scev_words.proofs.Asks.{awaited-filled, value_asks, asks_value, takes, taken}

-- ---- what the words of a part say

also_word : (said : Said) (word : List ℕ) → said.awaited ≡ None → said_also said word ≡ with_word said word
unfolding said_also
also_word said word none = rw none refl

also_mode : (said : Said) → said.awaited ≡ None → said.mode ≡ false
    → said_also said (codes "eval") ≡ Some (record said { mode = true })
unfolding with_word
also_mode said none free = also_word said (codes "eval") none ∙ rw free refl

also_option : (said : Said) (text : List ℕ) → said.awaited ≡ None
    → said_also said (codes "--" ++ text) ≡ with_option said text
unfolding with_word
also_option said text none = also_word said (codes "--" ++ text) none

also_name : (said : Said) (name : Name) → said.awaited ≡ None
    → said_also said (name_word name) ≡ Some (awaiting said name)
unfolding with_option name_of
also_name said Function none = also_option said (name_text Function) none
also_name said Args none = also_option said (name_text Args) none
also_name said Steps none = also_option said (name_text Steps) none

option_at : (said : Said) (text : List ℕ) (at : ℕ) → position is_equals text ≡ Some at
    → with_option said text
    ≡ option_and_then (λ name. with_value said name (drop (at + 1) text)) (name_of (take at text))
unfolding with_option
option_at said text at e = ap (λ (o : Option ℕ). elim o as (λ _. Option Said) [
  | None ↦ option_map (awaiting said) (name_of text)
  | Some i ↦ option_and_then (λ name. with_value said name (drop (i + 1) text)) (name_of (take i text))
]) e

option_whole : (said : Said) (name : Name) (value : List ℕ)
    → with_option said (name_text name ++ (codes "=" ++ value)) ≡ with_value said name value
unfolding name_of
option_whole said Function value =
    option_at said (name_text Function ++ (codes "=" ++ value)) 8 (position-name_and_value Function value)
option_whole said Args value =
    option_at said (name_text Args ++ (codes "=" ++ value)) 4 (position-name_and_value Args value)
option_whole said Steps value =
    option_at said (name_text Steps ++ (codes "=" ++ value)) 5 (position-name_and_value Steps value)

also_whole : (said : Said) (name : Name) (value : List ℕ) → said.awaited ≡ None
    → said_also said (whole_word name value) ≡ with_value said name value
also_whole said name value none =
    also_option said (name_text name ++ (codes "=" ++ value)) none ∙ option_whole said name value

also_value : (said : Said) (name : Name) (word : List ℕ) → said.awaited ≡ Some name
    → said_also said word ≡ with_value (record said { awaited = None }) name word
unfolding said_also
also_value said name word e = rw e refl

-- ---- from parts to what is said

pub record Next (asked : Asked) (said : Said) (word : List ℕ) (words : List (List ℕ)) : Type 0 where
  pub more : Said
  pub is : said_also said word ≡ Some more
  pub parts : List Part
  pub are : AreParts parts (awaited_words more.awaited ++ words)
  pub asks : Asks asked more parts

next_at : (asked : Asked) (said : Said) (word : List ℕ) (words : List (List ℕ)) (awaited : Option Name)
    → said.awaited ≡ awaited → (parts : List Part) → AreParts parts (awaited_words awaited ++ (word ∷ words))
    → Asks asked said parts → Next asked said word words
next_at asked said word words None e [] h a = absurd (let none : word ∷ words ≡ [] = h in cc)
next_at asked said word words None e (TheMode ∷ parts) h a =
    let first = mode_first parts word words h in
    let with_mode = mode_asks asked said parts a in record {
      more = record said { mode = true };
      is = rw first.is (also_mode said e with_mode.free);
      parts = parts;
      are = rw e first.are;
      asks = with_mode.asks;
    }
next_at asked said word words None e (With name value ∷ parts) h a = elim (value_first parts name value word words h) [
  | inl first ↦ record {
    more = awaiting said name;
    is = rw first.is (also_name said name e);
    parts = With name value ∷ parts;
    are = subst (λ (x : List ℕ). AreParts (With name value ∷ parts) (x ∷ words)) first.is h;
    asks = asks_awaiting asked said (Some name) (With name value ∷ parts) a;
  }
  | inr first ↦ (let with_value = value_asks asked said name value parts a in record {
    more = filled said name value;
    is = rw first.is (also_whole said name value e ∙ takes said name value first.good with_value.free);
    parts = parts;
    are = rw (awaited-filled said name value, e) first.are;
    asks = with_value.asks;
  })
]
next_at asked said word words (Some name) e [] h a =
    absurd (let none : name_word name ∷ word ∷ words ≡ [] = h in cc)
next_at asked said word words (Some name) e (TheMode ∷ parts) h a =
    absurd (name-no_mode name (mode_first parts (name_word name) (word ∷ words) h).is)
next_at asked said word words (Some name) e (With other value ∷ parts) h a =
    elim (value_first parts other value (name_word name) (word ∷ words) h) [
      | inl first ↦ (let awaited : Said = record said { awaited = None } in
          let with_value = value_asks asked awaited other value parts
          (asks_awaiting asked said None (With other value ∷ parts) a) in
          let texts : name_text name ≡ name_text other = (let w : name_word name ≡ name_word other = first.is in cc) in
          let split : word ∷ words ≡ value ∷ first.rest = first.split in
          let same_word : word ≡ value = cc in
          let same_rest : words ≡ first.rest = cc in
          record {
            more = filled awaited other value;
            is = also_value said name word e ∙ rw (one_name name other texts, same_word)
                (takes awaited other value first.good with_value.free);
            parts = parts;
            are = rw (awaited-filled awaited other value, same_rest) first.are;
            asks = with_value.asks;
          })
      | inr first ↦ absurd (name-no_whole name other value first.is)
    ]

pub next : (asked : Asked) (said : Said) (word : List ℕ) (words : List (List ℕ)) (parts : List Part)
    → AreParts parts (awaited_words said.awaited ++ (word ∷ words)) → Asks asked said parts → Next asked said word words
next asked said word words parts are asks = next_at asked said word words said.awaited refl parts are asks

-- ---- from what is said to parts

pub record Before (asked : Asked) (said : Said) (words : List (List ℕ)) : Type 0 where
  pub parts : List Part
  pub are : AreParts parts (awaited_words said.awaited ++ words)
  pub asks : Asks asked said parts

-- what stands behind the value of an option
behind_value : (said more : Said) (name : Name) (value : List ℕ) (parts : List Part) (words : List (List ℕ))
    → said.awaited ≡ None → filled said name value ≡ more → AreParts parts (awaited_words more.awaited ++ words)
    → AreParts parts words
behind_value said more name value parts words none new are =
    let awaited : more.awaited ≡ None =
    ap (λ (x : Said). x.awaited) (sym new) ∙ (awaited-filled said name value ∙ none) in
    rw awaited at are

whole_said : (asked : Asked) (said more : Said) (name : Name) (value : List ℕ) (words : List (List ℕ))
    → said.awaited ≡ None → with_value said name value ≡ Some more → Before asked more words
    → Before asked said (whole_word name value ∷ words)
whole_said asked said more name value words none e after =
    let t = taken said name value more e in record {
      parts = With name value ∷ after.parts;
      are = rw none (whole_before after.parts name value words t.is
          (behind_value said more name value after.parts words none t.new after.are));
      asks = asks_value asked said name value after.parts
          record { free = t.free; asks = subst (λ (x : Said). Asks asked x after.parts) (sym t.new) after.asks };
    }

awaited_said : (asked : Asked) (said more : Said) (name : Name) (word : List ℕ) (words : List (List ℕ))
    → said.awaited ≡ Some name → with_value (record said { awaited = None }) name word ≡ Some more
    → Before asked more words → Before asked said (word ∷ words)
awaited_said asked said more name word words some e after =
    let free : Said = record said { awaited = None } in
    let t = taken free name word more e in record {
      parts = With name word ∷ after.parts;
      are = rw some (value_before after.parts name word words t.is
          (behind_value free more name word after.parts words refl t.new after.are));
      asks = asks_awaited asked said None (With name word ∷ after.parts) (asks_value asked free name word after.parts
          record { free = t.free; asks = subst (λ (x : Said). Asks asked x after.parts) (sym t.new) after.asks });
    }

name_said : (asked : Asked) (said more : Said) (name : Name) (words : List (List ℕ))
    → said.awaited ≡ None → awaiting said name ≡ more → Before asked more words
    → Before asked said (name_word name ∷ words)
name_said asked said more name words none new after =
    let b : Before asked (awaiting said name) words =
    subst (λ (x : Said). Before asked x words) (sym new) after in
    record { parts = b.parts; are = rw none b.are; asks = asks_awaited asked said (Some name) b.parts b.asks }

mode_said : (asked : Asked) (said more : Said) (words : List (List ℕ))
    → said.awaited ≡ None → cond said.mode None (Some (record said { mode = true })) ≡ Some more
    → Before asked more words → Before asked said (codes "eval" ∷ words)
mode_said asked said more words none e after = go said.mode refl e
  where
    go : (b : Bool) → said.mode ≡ b → cond b None (Some (record said { mode = true })) ≡ Some more
        → Before asked said (codes "eval" ∷ words)
    go true f g = absurd (none-some more g)
    go false f g =
        let b : Before asked (record said { mode = true }) words =
        subst (λ (x : Said). Before asked x words) (sym (same_Some (record said { mode = true }) more g)) after in
        record {
          parts = TheMode ∷ b.parts;
          are = rw none (mode_before b.parts words (rw none at b.are));
          asks = asks_mode asked said b.parts record { free = f; asks = b.asks };
        }

option_said : (asked : Asked) (said more : Said) (text : List ℕ) (words : List (List ℕ))
    → said.awaited ≡ None → with_option said text ≡ Some more → Before asked more words
    → Before asked said ((codes "--" ++ text) ∷ words)
unfolding with_option
option_said asked said more text words none e after = go (position is_equals text) refl e
  where
    named_at : (o : Option Name) → name_of text ≡ o → option_map (awaiting said) o ≡ Some more
        → Before asked said ((codes "--" ++ text) ∷ words)
    named_at None f g = absurd (none-some more g)
    named_at (Some name) f g = rw (named text name f)
        (name_said asked said more name words none (same_Some (awaiting said name) more g) after)

    go : (o : Option ℕ) → position is_equals text ≡ o
        → elim o [
          | None ↦ option_map (awaiting said) (name_of text)
          | Some at ↦ option_and_then (λ name. with_value said name (drop (at + 1) text)) (name_of (take at text))
        ] ≡ Some more
        → Before asked said ((codes "--" ++ text) ∷ words)
    go None f g = named_at (name_of text) refl g
    go (Some at) f g = option_and_then_some (λ name. with_value said name (drop (at + 1) text)) (name_of (take at text))
        more g (λ name h k.
        let whole : text ≡ name_text name ++ (codes "=" ++ drop (at + 1) text) =
        parted_at text at f ∙ ap (λ x. x ++ (codes "=" ++ drop (at + 1) text)) (named (take at text) name h) in
        subst (λ (x : List ℕ). Before asked said ((codes "--" ++ x) ∷ words)) (sym whole)
        (whole_said asked said more name (drop (at + 1) text) words none k after))

dashes_said : (asked : Asked) (said more : Said) (word : List ℕ) (words : List (List ℕ))
    → said.awaited ≡ None → with_dashes said word ≡ Some more → Before asked more words
    → Before asked said (word ∷ words)
dashes_said asked said more [] words none e after = absurd (none-some more e)
dashes_said asked said more (a ∷ []) words none e after = absurd (none-some more e)
dashes_said asked said more (a ∷ b ∷ text) words none e after = go (eqb a 45 && eqb b 45) refl e
  where
    go : (c : Bool) → (eqb a 45 && eqb b 45) ≡ c → cond c (with_option said text) None ≡ Some more
        → Before asked said ((a ∷ b ∷ text) ∷ words)
    go true f g = let both = and_parts (eqb a 45) (eqb b 45) f in
        rw (eqb-true a 45 both.0, eqb-true b 45 both.1) (option_said asked said more text words none g after)
    go false f g = absurd (none-some more g)

before_at : (asked : Asked) (said more : Said) (word : List ℕ) (words : List (List ℕ)) (awaited : Option Name)
    → said.awaited ≡ awaited → said_also said word ≡ Some more → Before asked more words
    → Before asked said (word ∷ words)
unfolding with_word
before_at asked said more word words (Some name) some e after =
    awaited_said asked said more name word words some (sym (also_value said name word some) ∙ e) after
before_at asked said more word words None none e after = go (bytes_eq word (codes "eval")) refl
    (sym (also_word said word none) ∙ e)
  where
    go : (b : Bool) → bytes_eq word (codes "eval") ≡ b
        → cond b (cond said.mode None (Some (record said { mode = true }))) (with_dashes said word) ≡ Some more
        → Before asked said (word ∷ words)
    go true f g = rw ((bytes_eq-Decides word (codes "eval")).0 f) (mode_said asked said more words none g after)
    go false f g = dashes_said asked said more word words none g after

pub before : (asked : Asked) (said more : Said) (word : List ℕ) (words : List (List ℕ))
    → said_also said word ≡ Some more → Before asked more words → Before asked said (word ∷ words)
before asked said more word words e after = before_at asked said more word words said.awaited refl e after
