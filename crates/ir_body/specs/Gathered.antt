-- What was read of several things, each with the mentions in it, as one list with all mentions.
use Rattle.std.specs.Prelude.{List, [], ◌∷◌, ◌++◌}
use Rattle.ir_text.specs.Mentions.{Mention}
use Rattle.ir_parts.specs.Reading.{Read, made}
use Rattle.ir_body.specs.Telling.{Telling}

abbrev pub gathered : {A : Type 0} → List (A × List Mention) → List A × List Mention
gathered [] = ([], [])
gathered (p ∷ ps) = (p.0 ∷ (gathered ps).0, p.1 ++ (gathered ps).1)

-- the reading that gives the list
abbrev pub gathering : {A : Type 0} → Read (List (A × List Mention)) → Telling (List A)
gathering read = made gathered read
