-- Parameters as they are printed, with their names.
use Rattle.std.proofs.Common.{◌≡◌, ℕ, zero, List, [], ◌∷◌, ◌++◌, map, flat_map, codes, refl, sym, ap, ◌⊎◌, inl, None}
use Rattle.ir_model.specs.declared.function.Param.{Param}
use Rattle.ir_text.specs.Mentions.{Mentioning, DefinesValue, defines_value, unwritten}
use Rattle.ir_model.specs.Sites.{Site}
use Rattle.ir_text.specs.Sites.{bare_param}
use Rattle.ir_model.specs.Sites as site
use Rattle.ir_model.specs.Kinds.{IsScalar}
use Rattle.ir_grammar.specs.Operations.{Listing}
use Rattle.ir_grammar.specs.Functions.{SpellsParam}
use Rattle.ir_grammar.specs.Printing.{Shown, joined, behind_space, param_text}
use Rattle.ir_lex.proofs.Plain.{Stops}
use Rattle.ir_read_back.proofs.Real.{Each}
use Rattle.ir_read_back.proofs.Named.{Names, Shows, AreShown, said_at}
use Rattle.ir_read_back.proofs.Sayings.{defined_value_writes}
use Rattle.ir_read_back.proofs.TypeTexts.{type_rewrites}
use Rattle.ir_read_back.proofs.Passed.{words_behind}
use Rattle.ir_read_back.proofs.Lists.{with_commas_map, listing_rewrites}
use Rattle.ir_read_back.proofs.Writes.{Rewrites, always, production_is, mentions_are, stop_then, behind_a_space}

pub listing_map : {X Y : Type 0} (Spells : Y → Mentioning) (f : X → Y) (xs : List X)
    → Listing Spells (map f xs) ≡ Listing (λ x. Spells (f x)) xs
listing_map Spells f [] = refl
listing_map Spells f (x ∷ xs) = with_commas_map Spells f (x ∷ xs)

-- a parameter's name, or none
abbrev SpellsName : Mentioning
SpellsName ms ts = (zero ≡ zero) × (defines_value ms ts ⊎ unwritten (DefinesValue None) ms ts)

pub stops_words : (words text : List ℕ) → Stops (behind_space words ++ (32 ∷ text))
stops_words [] text = refl
stops_words (b ∷ bs) text = refl

abbrev pub param_site : Param → Site
param_site param = site.DefinesValue param.value.0

module _ (shown : Shown) (names : Names) where
  name_rewrites : (v : ℕ)
      → Shows (shown.values v) (names.values v)
      → Rewrites Stops SpellsName SpellsName (said_at names (site.DefinesValue v ∷ [])) (37 ∷ shown.values v)
  name_rewrites v shows =
      let all = defined_value_writes (shown.values v) (names.values v) shows in
      always (record { lexemes = all.lexemes; spelled = (refl, inl all.spelled); lexed = all.lexed })

  -- A parameter is printed with its name, where it had one and where it had none.
  pub param_rewrites : (param : Param)
      → Shows (shown.values param.value.0) (names.values param.value.0)
      → Rewrites Stops (SpellsParam (bare_param param)) (SpellsParam (bare_param param))
      (said_at names (param_site param ∷ [])) (param_text shown param)
  param_rewrites param shows =
      stop_then (stops_words param.words (37 ∷ shown.values param.value.0)) (type_rewrites IsScalar param.kind)
      (stop_then refl (words_behind param.words) (behind_a_space (name_rewrites param.value.0 shows)))

  params_said : (params : List Param)
      → flat_map (λ p. said_at names (param_site p ∷ [])) params ≡ said_at names (map param_site params)
  params_said [] = refl
  params_said (p ∷ params) = ap (λ more. said_at names (param_site p ∷ []) ++ more) (params_said params)

  each_param : (params : List Param)
      → AreShown shown names (map param_site params)
      → Each (λ p. Rewrites Stops (SpellsParam (bare_param p)) (SpellsParam (bare_param p))
      (said_at names (param_site p ∷ [])) (param_text shown p)) params
  each_param [] are = tt
  each_param (p ∷ params) are = (param_rewrites p are.0, each_param params are.1)

  pub params_rewrite : (params : List Param)
      → AreShown shown names (map param_site params)
      → Rewrites Stops (Listing SpellsParam (map bare_param params)) (Listing SpellsParam (map bare_param params))
      (said_at names (map param_site params)) (joined (param_text shown) (codes ", ") params)
  params_rewrite params are =
      let same = sym (listing_map SpellsParam bare_param params) in
      production_is _ _ _ _ same same
      (mentions_are _ _ (params_said params)
      (listing_rewrites (λ p. SpellsParam (bare_param p)) (λ p. SpellsParam (bare_param p))
      (λ p. said_at names (param_site p ∷ [])) (param_text shown) params (each_param params are)))
