use Rattle.std.proofs.Common.{◌≡◌, ℕ, Bool, List, [], ◌∷◌, length, get_or, Decides, sym, ap, ◌∙◌, arith}
use Rattle.std.specs.Str.{bytes_eq}
use Rattle.std.proofs.lemmas.Slice.Eq.{bytes_eq-Decides}
use Rattle.scev_words.proofs.mode.are_word.Goals as goal

-- a list of one word is that word and no more
alone : (words : List (List ℕ)) (word text : List ℕ) (r : Bool) → length words ≡ 1 → word ≡ get_or words 0 word
    → r ≡ bytes_eq word text → Decides r (words ≡ text ∷ [])
alone [] word text r one is e = absurd (omega arith)
alone (x ∷ y ∷ words) word text r one is e = absurd (omega arith)
alone (x ∷ []) word text r one is e = (
  λ yes. ap (λ w. w ∷ []) (sym is ∙ (bytes_eq-Decides word text).0 (sym e ∙ yes)),
  λ (same : x ∷ [] ≡ text ∷ []). (let whole : word ≡ text = cc in e ∙ (bytes_eq-Decides word text).1 whole),
)

pub returns-in-len1 : goal.returns-in-len1
returns-in-len1 c =
    alone c.args.words.now c.as_bytes.result.now c.args.text.now c.eq.result (omega arith)
    (rw c.as_bytes.ensures c.word-item.is) c.eq.ensures
