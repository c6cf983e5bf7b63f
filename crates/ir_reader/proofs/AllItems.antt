-- All items of a text are read.
use Rattle.std.proofs.Common.{◌≡◌, ℕ, List, [], ◌∷◌, ◌++◌, length, Ok, Err, inl, inr, sym, ap, subst, ◌∙◌, arith}
use Rattle.ir_text.specs.Tokens.{Lexeme}
use Rattle.ir_text.specs.Sites.{Draft}
use Rattle.ir_grammar.specs.Functions.{SpellsFunction}
use Rattle.ir_grammar.specs.Items.{SpellsItems}
use Rattle.ir_parts.specs.Reading.{go_on, pure}
use Rattle.ir_parts.specs.ListReading.{all_to_end_at}
use Rattle.ir_parts.proofs.Readers.{Anything, both_read, one_refused, same_read}
use Rattle.ir_parts.proofs.ToEndReader.{end_taken, end_read, end_refused}
use Rattle.ir_body.proofs.Tellers.{IsTeller}
use Rattle.ir_functions.specs.Functions.{function_at}
use Rattle.ir_functions.proofs.WholeFunctions.{functions_are_read}
use Rattle.ir_reader.specs.ItemsReading.{Told, item_at, barred, drafts_of, items_at}
use Rattle.ir_reader.proofs.ItemsRead.{RefusedItems, ReadsItems}
use Rattle.ir_reader.proofs.ItemReaders.{SpellsTold, begins_so, items_read_each}
use Rattle.ir_reader.proofs.ItemTurns.{items_there, items_back}

some_tokens : (told : Told) → SpellsTold told [] → ⊥
some_tokens told l = let begin = begins_so told [] l in let e = begin.2 in cc

module _ (functions : IsTeller function_at SpellsFunction Anything) where
  -- The reading takes exactly the items of a module, and refuses where no module goes on.
  pub all_items_read : ReadsItems items_at
  unfolding items_at
  all_items_read = record {
    takes = λ ts rest drafts e.
        let b = both_read (all_to_end_at barred item_at ts) (λ items. pure (drafts_of items)) (drafts, rest) e in
        let taken =
        end_taken barred (items_read_each functions) some_tokens (length ts) ts b.middle b.value b.first in
        let same = same_read (drafts_of b.value, b.middle) (drafts, rest) b.second in (
          subst (λ (drafts : List Draft). SpellsItems drafts ts)
              (ap (λ (read : List Draft × List Lexeme). read.0) same) (items_there b.value ts taken.0),
          sym (ap (λ (read : List Draft × List Lexeme). read.1) same) ∙ taken.1,
        );
    reads = λ drafts ts l.
        let turns = items_back drafts ts l in
        ap (λ r. go_on r (λ items. pure (drafts_of items)))
        (end_read barred (items_read_each functions) some_tokens turns.0 (length ts) ts turns.2 (omega arith))
        ∙ ap (λ (drafts : List Draft). Ok (drafts, [])) (sym turns.1);
    refuses = λ ts left e.
        elim (one_refused (all_to_end_at barred item_at ts) (λ items. pure (drafts_of items)) left e) [
          | inl refused ↦ items_refused ts left refused
          | inr b ↦ absurd (let e = b.second in cc)
        ];
  }
    where
      items_refused : (ts : List Lexeme) (left : ℕ) → all_to_end_at barred item_at ts ≡ Err left
          → RefusedItems items_at ts left
      items_refused ts left e =
          let r =
          end_refused barred (items_read_each functions) some_tokens (length ts) ts left (omega arith) e in
          record {
            before = r.before;
            after = r.after;
            parts = r.parts;
            so_many = r.so_many;
            begun = record {
              others = r.others;
              drafts = drafts_of r.whole;
              spelled = items_there r.whole (r.before ++ r.others) r.begun;
            };
            stays = λ t behind instead e.
                ap (λ r. go_on r (λ items. pure (drafts_of items)))
                (r.stays (length (r.before ++ t ∷ instead)) t behind instead e (omega arith));
          }

pub items_are_read : ReadsItems items_at
items_are_read = all_items_read functions_are_read
