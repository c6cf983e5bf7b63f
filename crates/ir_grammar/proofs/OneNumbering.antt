-- Drafts of items have one module: the ids of its names are told.
use Rattle.std.proofs.Common.{◌≡◌, ℕ, zero, suc, ◌<◌, true, List, [], ◌∷◌, map, Option, Some, None, refl, sym, ap, subst, ◌∙◌, arith}
use Rattle.std.specs.Prelude.{slice_get}
use Rattle.std.proofs.lemmas.Bool.{eq-eqb}
use Rattle.std.proofs.lemmas.Slice.Eq.{bytes_eq-Decides}
use Rattle.ir_model.specs.Defined.{type_of}
use Rattle.ir_model.specs.declared.types.IrType.{IrType}
use Rattle.ir_model.specs.declared.function.Param.{Param}
use Rattle.ir_model.specs.declared.function.Block.{Block}
use Rattle.ir_model.specs.declared.function.Function.{Function}
use Rattle.ir_model.specs.declared.function.ValueInfo.{ValueInfo}
use Rattle.ir_model.specs.declared.item.Item.{Item}
use Rattle.ir_model.specs.declared.item.Item.TheVariants as item
use Rattle.ir_model.specs.declared.item.Module.{Module}
use Rattle.ir_text.specs.Written.{Name, Text, Number}
use Rattle.ir_text.specs.Mentions.{Mention}
use Rattle.ir_text.specs.Mentions as mention
use Rattle.ir_model.specs.Sites.{Site, function_sites}
use Rattle.ir_text.specs.Sites.{Draft, without_ids, bare_function}
use Rattle.ir_model.specs.Sites as site
use Rattle.ir_grammar.specs.Numbering.{named, value_names, label_names, same_name, tables_of, IsFirstPlace, StandsFor, EachMatches, IsNumbered, NumberedFunction, IsNumberedItem, IsNumberedModule}
use Rattle.ir_grammar.proofs.OnePlace.{one_place}
use Rattle.ir_grammar.proofs.Refilled.{same_body}

-- ---- one id

same_itself : (name : Name) → same_name name name ≡ true
same_itself (Text text) = (bytes_eq-Decides text text).1 refl
same_itself (Number n) = eq-eqb n n refl

one_first : (names : List (List ℕ)) (name : List ℕ) (i j : ℕ) → IsFirstPlace names name i → IsFirstPlace names name j
    → i ≡ j
one_first names name i j first second = omega (arith, before i j first second, before j i second first)
  where
    before : (i j : ℕ) → IsFirstPlace names name i → IsFirstPlace names name j → i < j → ⊥
    before i j first second h = second.1 i h first.0

module _ (globals : List (List ℕ)) (ms : List Mention) where
  one_value : (i j : ℕ) (name : Name) → slice_get (tables_of globals ms).values i ≡ Some name
      → slice_get (tables_of globals ms).values j ≡ Some name → i ≡ j
  one_value i j name e d = one_place same_name same_itself (value_names ms) i j name e d

  one_label : (i j : ℕ) (name : Name) → slice_get (tables_of globals ms).labels i ≡ Some name
      → slice_get (tables_of globals ms).labels j ≡ Some name → i ≡ j
  one_label i j name e d = one_place same_name same_itself (label_names ms) i j name e d

  -- one id stands for what is mentioned
  one_site : (m : Mention) (a b : Site) → StandsFor (tables_of globals ms) a m → StandsFor (tables_of globals ms) b m
      → a ≡ b
  one_site (mention.DefinesValue None) (site.DefinesValue i) b e d = absurd e
  one_site (mention.DefinesValue None) _ b e d = absurd e
  one_site (mention.DefinesValue (Some name)) (site.DefinesValue i) (site.DefinesValue j) e d =
      ap site.DefinesValue (one_value i j name e d)
  one_site (mention.DefinesValue (Some name)) (site.DefinesValue i) _ e d = absurd d
  one_site (mention.DefinesValue (Some name)) _ b e d = absurd e
  one_site (mention.UsesValue name) (site.UsesValue i) (site.UsesValue j) e d =
      ap site.UsesValue (one_value i j name e d)
  one_site (mention.UsesValue name) (site.UsesValue i) _ e d = absurd d
  one_site (mention.UsesValue name) _ b e d = absurd e
  one_site (mention.DefinesBlock None) (site.DefinesBlock i) b e d = absurd e
  one_site (mention.DefinesBlock None) _ b e d = absurd e
  one_site (mention.DefinesBlock (Some name)) (site.DefinesBlock i) (site.DefinesBlock j) e d =
      ap site.DefinesBlock (one_label i j name e d)
  one_site (mention.DefinesBlock (Some name)) (site.DefinesBlock i) _ e d = absurd d
  one_site (mention.DefinesBlock (Some name)) _ b e d = absurd e
  one_site (mention.UsesBlock name) (site.UsesBlock i) (site.UsesBlock j) e d =
      ap site.UsesBlock (one_label i j name e d)
  one_site (mention.UsesBlock name) (site.UsesBlock i) _ e d = absurd d
  one_site (mention.UsesBlock name) _ b e d = absurd e
  one_site (mention.UsesGlobal name) (site.UsesGlobal i) (site.UsesGlobal j) e d =
      ap site.UsesGlobal (one_first globals name i j e d)
  one_site (mention.UsesGlobal name) (site.UsesGlobal i) _ e d = absurd d
  one_site (mention.UsesGlobal name) _ b e d = absurd e

  same_sites : (names : List Mention) (xs ys : List Site) → EachMatches (StandsFor (tables_of globals ms)) xs names
      → EachMatches (StandsFor (tables_of globals ms)) ys names → xs ≡ ys
  same_sites [] [] [] first second = refl
  same_sites [] [] (y ∷ ys) first second = absurd second
  same_sites [] (x ∷ xs) ys first second = absurd first
  same_sites (m ∷ names) [] ys first second = absurd first
  same_sites (m ∷ names) (x ∷ xs) [] first second = absurd second
  same_sites (m ∷ names) (x ∷ xs) (y ∷ ys) first second =
      rw (one_site m x y first.0 second.0, same_sites names xs ys first.1 second.1) refl

-- ---- one table

same_infos : (xs ys : List ValueInfo)
    → map (λ (info : ValueInfo). info.name) xs ≡ map (λ (info : ValueInfo). info.name) ys
    → ((v : ℕ) (a b : ValueInfo) → slice_get xs v ≡ Some a → slice_get ys v ≡ Some b → a.kind ≡ b.kind) → xs ≡ ys
same_infos [] [] names kinds = refl
same_infos [] (y ∷ ys) names kinds = absurd cc
same_infos (x ∷ xs) [] names kinds = absurd cc
same_infos (x ∷ xs) (y ∷ ys) names kinds =
    let name : x.name ≡ y.name = cc in
    let others : map (λ (info : ValueInfo). info.name) xs ≡ map (λ (info : ValueInfo). info.name) ys = cc in
    let kind : x.kind ≡ y.kind = kinds zero x y refl refl in
    let first : x ≡ y = same_info x.name y.name x.kind y.kind name kind in
    rw (first, same_infos xs ys others (λ v a b e d. kinds (suc v) a b e d)) refl
  where
    same_info : (n m : Option (List ℕ)) (k l : IrType) → n ≡ m → k ≡ l
        → ◌≡◌ {A = ValueInfo} (record { name = n; kind = k }) (record { name = m; kind = l })
    same_info n m k l e d = rw (e, d) refl

-- ---- one function

one_function : (globals : List (List ℕ)) (ms : List Mention) (f g : Function) → bare_function f ≡ bare_function g
    → IsNumbered globals ms f → IsNumbered globals ms g → f ≡ g
one_function globals ms f g bare first second =
    let params = ap (λ (f : Function). f.params) bare in
    let blocks = ap (λ (f : Function). f.blocks) bare in
    let ids : function_sites f ≡ function_sites g =
    same_sites globals (named 0 ms) (named 0 ms) (function_sites f) (function_sites g) first.ids second.ids in
    let body = same_body f g params blocks ids in
    let values : f.values ≡ g.values = same_infos f.values g.values (first.values ∙ sym second.values)
    (λ v a b e d.
    first.types v a e
    ∙ (ap (λ (ps : List Param). type_of ps f.blocks v) body.0
    ∙ (ap (λ (bs : List Block). type_of g.params bs v) body.1 ∙ sym (second.types v b d)))) in
    same_function (ap (λ (f : Function). f.name) bare) (ap (λ (f : Function). f.words) bare)
    (ap (λ (f : Function). f.ret) bare) body.0 body.1 values (first.labels ∙ sym second.labels)
  where
    same_function : f.name ≡ g.name → f.words ≡ g.words → f.ret ≡ g.ret → f.params ≡ g.params → f.blocks ≡ g.blocks
        → f.values ≡ g.values → f.labels ≡ g.labels → f ≡ g
    same_function name words ret params blocks values labels =
        rw (name, words, ret, params, blocks, values, labels) refl

-- ---- one module

one_item : (globals : List (List ℕ)) (draft : Draft) (x y : Item) → IsNumberedItem globals draft x
    → IsNumberedItem globals draft y → x ≡ y
one_item globals draft x y first second =
    of_items x y (first.0 ∙ sym second.0) first.1 second.1
  where
    of_items : (x y : Item) → without_ids x ≡ without_ids y → NumberedFunction globals draft.mentions x
        → NumberedFunction globals draft.mentions y → x ≡ y
    of_items (item.Define f) (item.Define g) bare a b =
        ap item.Define (one_function globals draft.mentions f g (define_is bare) a b)
      where
        define_is : ◌≡◌ {A = Item} (item.Define (bare_function f)) (item.Define (bare_function g))
            → bare_function f ≡ bare_function g
        define_is e = cc
    of_items (item.PassedOn s) (item.PassedOn t) bare a b = bare
    of_items (item.Global s) (item.Global t) bare a b = bare
    of_items (item.Declare s) (item.Declare t) bare a b = bare
    of_items _ _ bare a b = absurd cc

same_items : (globals : List (List ℕ)) (drafts : List Draft) (xs ys : List Item)
    → EachMatches (IsNumberedItem globals) drafts xs → EachMatches (IsNumberedItem globals) drafts ys → xs ≡ ys
same_items globals [] [] [] first second = refl
same_items globals (d ∷ drafts) (x ∷ xs) (y ∷ ys) first second =
    rw (one_item globals d x y first.0 second.0, same_items globals drafts xs ys first.1 second.1) refl
same_items globals [] [] (y ∷ ys) first second = absurd second
same_items globals [] (x ∷ xs) ys first second = absurd first
same_items globals (d ∷ drafts) [] ys first second = absurd first
same_items globals (d ∷ drafts) (x ∷ xs) [] first second = absurd second

pub one_numbering : (drafts : List Draft) (m n : Module) → IsNumberedModule drafts m → IsNumberedModule drafts n → m ≡ n
one_numbering drafts m n first second =
    let globals : m.globals ≡ n.globals = first.globals ∙ sym second.globals in
    let items : m.items ≡ n.items = same_items m.globals drafts m.items n.items first.items_are
    (subst (λ (globals : List (List ℕ)). EachMatches (IsNumberedItem globals) drafts n.items) (sym globals)
    second.items_are) in
    rw (globals, items) refl
