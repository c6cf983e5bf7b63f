use Rattle.std.proofs.Common.{◌++◌, List, ℕ, sym, ap, ◌∙◌}
use Rattle.std.proofs.lemmas.List.{append-nil}
use Rattle.ir_text.specs.Written.{unescaped}
use Rattle.ir_parts.proofs.escapes.unescape.Goals as goal

pub returns : goal.returns
unfolding unescaped
returns c =
    sym (append-nil c.loop-byte.bytes) ∙ ap (λ (r : List ℕ). c.loop-byte.bytes ++ unescaped r)
    (sym c.in_default.ensures) ∙ c.loop-byte.invariant
