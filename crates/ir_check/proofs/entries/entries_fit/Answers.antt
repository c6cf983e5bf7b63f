use Rattle.std.proofs.Common.{◌≡◌, true, false, refl, sym, ◌∙◌}
use Rattle.std.proofs.lemmas.Bool.{not-true, not-false, both_ways, false_from_ne_true}
use Rattle.std.proofs.lemmas.Slice.Eq.{bytes_eq-Decides}
use Rattle.ir_rules.specs.Blocks.{same_numbers}
use Rattle.ir_check.specs.Entries.{named_blocks}
use Rattle.ir_check.proofs.SortedNumbers.{same_sorted}
use Rattle.ir_check.proofs.entries.entries_fit.Goals as goal

pub returns-then-ne : goal.returns-then-ne
returns-then-ne c ns moved =
    let sources = c.args.sources.now in
    let named = c.in_ok-named.named.items in
    let decided = same_sorted (named_blocks c.args.entries.now) ns named sources c.in_ok-named.ensures.moved moved
    c.in_ok-named.ensures.sorted c.requires.sorted in
    let differ = not-true _ (sym c.ne.ensures ∙ c.if-ne.true) in
    let other : same_numbers (named_blocks c.args.entries.now) ns ≡ false = false_from_ne_true _
    (λ same. both_ways _ differ ((bytes_eq-Decides c.as_slice.result.now sources).1
    (c.as_slice.ensures.value ∙ decided.0 same))) in
    rw other refl

pub returns : goal.returns
returns c ns moved =
    let sources = c.args.sources.now in
    let named = c.in_ok-named.named.items in
    let decided = same_sorted (named_blocks c.args.entries.now) ns named sources c.in_ok-named.ensures.moved moved
    c.in_ok-named.ensures.sorted c.requires.sorted in
    let equal = not-false _ (sym c.ne.ensures ∙ c.if-ne.false) in
    let same : same_numbers (named_blocks c.args.entries.now) ns ≡ true = decided.1
    (sym c.as_slice.ensures.value ∙ (bytes_eq-Decides c.as_slice.result.now sources).0 equal) in
    rw same c.entries_agree.ensures
