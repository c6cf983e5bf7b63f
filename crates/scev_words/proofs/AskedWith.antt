-- What is asked for with the words to come, and what parts they are: each follows from the other.
use Rattle.std.proofs.Common.{◌≡◌, inl, inr, ℕ, ◌+◌, ◌<◌, ◌≤◌, Bool, true, false, cond, leb, ◌&&◌, List, []}
use Rattle.std.proofs.Common.{◌∷◌, ◌++◌, length, get_or, Option, Some, None, drop, refl, sym, ap, ◌∙◌}
use Rattle.std.proofs.lemmas.List.{drop_more, drop_all}
use Rattle.std.proofs.Common.{IfSome, IfNone}
use Rattle.std.specs.Option.{option_map, option_and_then, is_none}
use Rattle.std.proofs.lemmas.Bool.{le-leb, leb-true, and_parts}
use Rattle.std.proofs.lemmas.Option.{none-some, same_Some, option_and_then_some}
use Rattle.eval_request.specs.Asked.{Asked, asked_by}
use Rattle.eval_request.specs.Numeral.{is_numeral, numeral_value}
use Rattle.eval_request.specs.declared.request.Request.{Request}
use Rattle.scev_words.specs.Modes.{Name, Part, TheMode, With, AreParts, steps_most, IsOptional, IsMost, AskForEval}
use Rattle.scev_words.specs.Said.{Said, nothing_said, most_of, asked_at, asked_of, said_also, asked_with}
use Rattle.scev_words.proofs.FirstPart.{name_word, name-no_mode, name-no_whole, mode_first, value_first, no_words}
use Rattle.scev_words.proofs.Asks.{awaited_words, modes_said, values_said, Asks}
use Rattle.scev_words.proofs.NextWord.{next, Before, before}

-- ---- where no words follow

most_asked : (steps : Option (List ℕ)) (most : ℕ) → IsMost (values_said steps ++ []) most → most_of steps ≡ Some most
most_asked None most (inl h) = ap Some (sym h.1)
most_asked None most (inr h) = let e : [] ≡ h.0 ∷ [] = h.1 in cc
most_asked (Some text) most (inl h) = let e : text ∷ [] ≡ [] = h.0 in cc
most_asked (Some text) most (inr h) =
    let e : text ∷ [] ≡ h.0 ∷ [] = h.1 in
    let same : text ≡ h.0 = cc in
    let numeral : is_numeral text ≡ true = rw same h.2 in
    let value : numeral_value text ≡ most = ap numeral_value same ∙ h.3 in
    rw (numeral, value, le-leb most steps_most h.4) refl

asked_most : (steps : Option (List ℕ)) (most : ℕ) → most_of steps ≡ Some most → IsMost (values_said steps ++ []) most
asked_most None most e = inl (refl, sym (same_Some steps_most most e))
asked_most (Some text) most e = go (is_numeral text && leb (numeral_value text) steps_most) refl e
  where
    go : (b : Bool) → (is_numeral text && leb (numeral_value text) steps_most) ≡ b
        → cond b (Some (numeral_value text)) None ≡ Some most → IsMost (text ∷ []) most
    go true f g =
        let both = and_parts (is_numeral text) (leb (numeral_value text) steps_most) f in
        let value : numeral_value text ≡ most = same_Some (numeral_value text) most g in
        inr (text, refl, both.0, value, rw value at (leb-true (numeral_value text) steps_most both.1))
    go false f g = absurd (none-some most g)

mode_is : (b : Bool) → modes_said b ++ [] ≡ TheMode ∷ [] → b ≡ true
mode_is true e = refl
mode_is false e = cc

name_is : (o : Option (List ℕ)) (name : List ℕ) → values_said o ++ [] ≡ name ∷ [] → o ≡ Some name
name_is None name e = cc
name_is (Some x) name e = let same : x ≡ name = cc in ap Some same

args_are : (o wanted : Option (List ℕ)) → IsOptional (values_said o ++ []) wanted → o ≡ wanted
args_are None None e = refl
args_are None (Some x) e = cc
args_are (Some x) None e = cc
args_are (Some x) (Some y) e = let same : x ≡ y = cc in ap Some same

are_args : (o : Option (List ℕ)) → IsOptional (values_said o ++ []) o
are_args None = refl
are_args (Some x) = refl

ends : (asked : Asked) (said : Said) → said.awaited ≡ None → Asks asked said [] → asked_of said ≡ Some asked
unfolding asked_of
ends asked said none a = rw (
  mode_is said.mode a.mode,
  none,
  most_asked said.steps asked.most a.most,
  name_is said.function asked.name a.name,
  args_are said.args asked.args a.args,
) refl

end_at : (asked : Asked) (said : Said) (awaited : Option Name) → said.awaited ≡ awaited → (parts : List Part)
    → AreParts parts (awaited_words awaited ++ []) → Asks asked said parts → asked_of said ≡ Some asked
end_at asked said None e [] h a = ends asked said e a
end_at asked said None e (part ∷ parts) h a = absurd (no_words part parts h)
end_at asked said (Some name) e [] h a = absurd (let none : name_word name ∷ [] ≡ [] = h in cc)
end_at asked said (Some name) e (TheMode ∷ parts) h a =
    absurd (name-no_mode name (mode_first parts (name_word name) [] h).is)
end_at asked said (Some name) e (With other value ∷ parts) h a =
    elim (value_first parts other value (name_word name) [] h) [
      | inl first ↦ absurd (let none : [] ≡ value ∷ first.rest = first.split in cc)
      | inr first ↦ absurd (name-no_whole name other value first.is)
    ]

begins : (asked : Asked) (said : Said) → asked_of said ≡ Some asked → Before asked said []
unfolding asked_of
begins asked said e = go (said.mode && is_none said.awaited) refl e
  where
    with_name : (most : ℕ) → (o : Option (List ℕ)) → said.function ≡ o
        → option_map (λ name. record { name = name; args = said.args; most = most }) o ≡ Some asked
        → said.mode ≡ true → said.awaited ≡ None → most_of said.steps ≡ Some most → Before asked said []
    with_name most None f g m n s = absurd (none-some asked g)
    with_name most (Some name) f g m n s =
        let same : record { name = name; args = said.args; most = most } ≡ asked = same_Some _ asked g in
        record {
          parts = [];
          are = rw n refl;
          asks = record {
            mode = rw m refl;
            name = rw f (ap (λ (x : Asked). x.name ∷ []) same);
            args = rw (← ap (λ (x : Asked). x.args) same) (are_args said.args);
            most = asked_most said.steps asked.most (s ∙ ap (λ (x : Asked). Some x.most) same);
          };
        }

    not_awaited : (o : Option Name) → is_none o ≡ true → o ≡ None
    not_awaited None f = refl
    not_awaited (Some name) f = cc

    go : (b : Bool) → (said.mode && is_none said.awaited) ≡ b
        → cond b (option_and_then (asked_at said) (most_of said.steps)) None ≡ Some asked → Before asked said []
    go true f g =
        let both = and_parts said.mode (is_none said.awaited) f in
        option_and_then_some (asked_at said) (most_of said.steps) asked g
        (λ most h k. with_name most said.function refl k both.0 (not_awaited said.awaited both.1) h)
    go false f g = absurd (none-some asked g)

-- ---- where words follow

pub from_parts : (asked : Asked) (words : List (List ℕ)) (said : Said) (parts : List Part)
    → AreParts parts (awaited_words said.awaited ++ words) → Asks asked said parts → asked_with said words ≡ Some asked
unfolding asked_with
from_parts asked [] said parts are asks = end_at asked said said.awaited refl parts are asks
from_parts asked (word ∷ words) said parts are asks =
    let n = next asked said word words parts are asks in
    rw n.is (from_parts asked words n.more n.parts n.are n.asks)

pub to_parts : (asked : Asked) (words : List (List ℕ)) (said : Said) → asked_with said words ≡ Some asked
    → Before asked said words
unfolding asked_with
to_parts asked [] said e = begins asked said e
to_parts asked (word ∷ words) said e =
    option_and_then_some (λ more. asked_with more words) (said_also said word) asked e
    (λ more h k. before asked said more word words h (to_parts asked words more k))

-- ---- all words

-- Words ask for a run exactly where that is what they say.
pub asked_for : (asked : Asked) (words : List (List ℕ)) → asked_with nothing_said words ≡ Some asked
    → AskForEval asked words
asked_for asked words e =
    let b = to_parts asked words nothing_said e in record {
      parts = b.parts;
      are = b.are;
      mode = b.asks.mode;
      name = b.asks.name;
      args = b.asks.args;
      most = b.asks.most;
    }

pub ask_for : (asked : Asked) (words : List (List ℕ)) → AskForEval asked words
    → asked_with nothing_said words ≡ Some asked
ask_for asked words a = from_parts asked words nothing_said a.parts a.are
    record { mode = a.mode; name = a.name; args = a.args; most = a.most }

pub some_asked : (words : List (List ℕ)) (result : Option Request)
    → option_map asked_by result ≡ asked_with nothing_said words
    → IfSome result (λ request. AskForEval (asked_by request) words)
some_asked words None e = tt
some_asked words (Some request) e = asked_for (asked_by request) words (sym e)

pub none_asked : (words : List (List ℕ)) (result : Option Request)
    → option_map asked_by result ≡ asked_with nothing_said words
    → IfNone result ((asked : Asked) → AskForEval asked words → ⊥)
none_asked words None e = λ asked a. none-some asked (e ∙ ask_for asked words a)
none_asked words (Some request) e = tt

-- ---- one word after another

this_word : (words : List (List ℕ)) (at : ℕ) (word : List ℕ) → at < length words → word ≡ get_or words at word
    → drop at words ≡ word ∷ drop (at + 1) words
this_word words at word within is = drop_more words at word within ∙ ap (λ x. x ∷ drop (at + 1) words) (sym is)

pub goes_on : (said : Said) (words : List (List ℕ)) (at : ℕ) (word : List ℕ) (more : Option Said) → at < length words
    → word ≡ get_or words at word → more ≡ said_also said word
    → asked_with said (drop at words) ≡ option_and_then (λ more. asked_with more (drop (at + 1) words)) more
unfolding asked_with
goes_on said words at word more within is e = rw (this_word words at word within is, e) refl

pub ends_there : (said : Said) (words : List (List ℕ)) (at : ℕ) → length words ≤ at
    → asked_of said ≡ asked_with said (drop at words)
unfolding asked_with
ends_there said words at past = rw (drop_all at words past) refl
