-- What is printed for the ids of a function says their names.
use Rattle.std.proofs.Common.{ℕ, ◌^◌, List, Option, Some, None, arith}
use Rattle.std.specs.Fmt.{decimal}
use Rattle.ir_model.specs.declared.function.Function.{Function}
use Rattle.ir_model.specs.Sites.{Site, function_sites}
use Rattle.ir_model.specs.Sites as site
use Rattle.ir_grammar.specs.Printing.{Value, Block_, named_value, named_block, number_of, text_or_number, shown_in}
use Rattle.ir_printer.proofs.QuotedNames.{name_says, name_says_global}
use Rattle.ir_read_back.proofs.Numerals.{decimal_digits, is_number_of}
use Rattle.ir_read_back.proofs.Named.{Shows, IsShown, AreShown}
use Rattle.ir_read_back.proofs.Printed.{name_or_number, global_name, names_of, shown_mention, function_mentions}
use Rattle.ir_read_back.proofs.Real.{Each}
use Rattle.ir_read_back.proofs.EachThing.{each_weaker, all_of_map}
use Rattle.ir_read_back.proofs.Fitting.{NameWithin, MentionWithin}

shows_name : (text : Option (List ℕ)) (n : ℕ) → NameWithin (2 ^ 64) (name_or_number text n)
    → Shows (text_or_number text n) (name_or_number text n)
shows_name None n small =
    let are = decimal_digits n (omega arith) in
    record { says = (is_number_of n (decimal n) are, are.value); fits = small }
shows_name (Some text) n bytes = record { says = name_says text bytes; fits = tt }

site_shown : (globals : List (List ℕ)) (f : Function) (s : Site) → MentionWithin (2 ^ 64) (shown_mention globals f s)
    → IsShown (shown_in globals f) (names_of globals f) s
site_shown globals f (site.DefinesValue v) within = shows_name (named_value f v) (number_of f (Value v)) within
site_shown globals f (site.UsesValue v) within = shows_name (named_value f v) (number_of f (Value v)) within
site_shown globals f (site.DefinesBlock b) within = shows_name (named_block f b) (number_of f (Block_ b)) within
site_shown globals f (site.UsesBlock b) within = shows_name (named_block f b) (number_of f (Block_ b)) within
site_shown globals f (site.UsesGlobal g) bytes = name_says_global (global_name globals g) bytes

-- So it is at each site.
pub sites_shown : (globals : List (List ℕ)) (f : Function)
    → Each (MentionWithin (2 ^ 64)) (function_mentions globals f)
    → AreShown (shown_in globals f) (names_of globals f) (function_sites f)
sites_shown globals f within =
    each_weaker (λ s. MentionWithin (2 ^ 64) (shown_mention globals f s)) (IsShown (shown_in globals f)
    (names_of globals f)) (site_shown globals f) (function_sites f)
    (all_of_map (MentionWithin (2 ^ 64)) (shown_mention globals f) (function_sites f) within)
