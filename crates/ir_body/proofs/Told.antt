-- The mentions of what was read one after another.
use Rattle.std.proofs.Common.{◌≡◌, ℕ, List, [], ◌∷◌, ◌++◌, map, refl, sym, ap, ◌∙◌}
use Rattle.std.proofs.lemmas.List.{append-nil, map-append}
use Rattle.ir_model.specs.Sites.{Site}
use Rattle.ir_lex.specs.Tokenized.{Tokenized}
use Rattle.ir_parts.specs.Places.{mentions_at, mention_at}

pub mentions_append : (t : Tokenized) (a b : List Site) → mentions_at t (a ++ b) ≡ mentions_at t a ++ mentions_at t b
mentions_append t a b = map-append (mention_at t) a b

pub ruleset told = (append-nil, mentions_append)
