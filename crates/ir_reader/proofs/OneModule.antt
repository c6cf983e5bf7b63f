-- A text spells at most one module.
use Rattle.std.proofs.Common.{◌≡◌, ℕ, List, sym, subst}
use Rattle.ir_model.specs.declared.item.Module.{Module}
use Rattle.ir_text.specs.Tokens.{Placed}
use Rattle.ir_text.specs.Sites.{Draft}
use Rattle.ir_lex.proofs.OneLexing.{one_lexing}
use Rattle.ir_grammar.specs.Items.{SpellsItems}
use Rattle.ir_grammar.specs.Numbering.{IsNumberedModule}
use Rattle.ir_grammar.specs.Spelled.{lexemes_of, Spells}
use Rattle.ir_grammar.proofs.OneNumbering.{one_numbering}
use Rattle.ir_reader.proofs.ItemsRead.{one_list}
use Rattle.ir_reader.proofs.AllItems.{items_are_read}

pub one_module : (bytes : List ℕ) (m n : Module) → Spells bytes m → Spells bytes n → m ≡ n
one_module bytes m n first second =
    let same = one_lexing first.lexed second.lexed in
    let drafts = one_list items_are_read first.drafts second.drafts (lexemes_of first.placed) first.spelled
    (subst (λ (placed : List Placed). SpellsItems second.drafts (lexemes_of placed)) (sym same.0) second.spelled) in
    one_numbering first.drafts m n first.numbered
    (subst (λ (drafts : List Draft). IsNumberedModule drafts n) (sym drafts) second.numbered)
