-- Functions, items and lists of items that got their ids.
use Rattle.std.specs.Prelude.{◌≡◌, ℕ, List, map}
use Rattle.std.specs.Str.{bytes_eq}
use Rattle.ir_model.specs.declared.function.Function.{Function}
use Rattle.ir_model.specs.declared.item.Item.{Item}
use Rattle.ir_model.specs.Sites.{function_sites}
use Rattle.ir_text.specs.Sites.{bare_function, item_sites}
use Rattle.ir_grammar.specs.Numbering.{global_names, used_globals, IsNumbered, IsNumberedItem, EachMatches}
use Rattle.ir_lex.specs.Tokenized.{Tokenized}
use Rattle.ir_parts.specs.Places.{mentions_at, draft_of}
use Rattle.ir_names.specs.Growing.{with_names, IsPrefix}

-- The function became the other one, and the names of globals that it mentions were added.
pub record FunctionNumbered (t : Tokenized) (old new : List (List ℕ)) (f g : Function) : Type 0 where
  pub globals : new ≡ with_names bytes_eq old (global_names (mentions_at t (function_sites f)))
  pub same : bare_function g ≡ bare_function f
  pub numbered : (later : List (List ℕ)) → IsPrefix new later → IsNumbered later (mentions_at t (function_sites f)) g

-- So did the item.
pub record ItemNumbered (t : Tokenized) (old new : List (List ℕ)) (x y : Item) : Type 0 where
  pub globals : new ≡ with_names bytes_eq old (global_names (mentions_at t (item_sites x)))
  pub numbered : (later : List (List ℕ)) → IsPrefix new later → IsNumberedItem later (draft_of t x) y

-- So did the items.
pub record ItemsNumbered (t : Tokenized) (old new : List (List ℕ)) (xs ys : List Item) : Type 0 where
  pub globals : new ≡ with_names bytes_eq old (used_globals (map (draft_of t) xs))
  pub numbered : (later : List (List ℕ)) → IsPrefix new later
      → EachMatches (IsNumberedItem later) (map (draft_of t) xs) ys
