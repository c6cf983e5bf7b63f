-- The names of the minima and maxima of two integers.
use Rattle.std.specs.Prelude.{ℕ, Bool, false, ◌&&◌, not, List, [], ◌∷◌, length, drop, Option, find, is_some, codes, nat_eq}
use Rattle.std.specs.List.{starts_with, list_all}
use Rattle.std.specs.Char.{is_ascii_digit}
use Rattle.ir_model.specs.declared.min_max.MinMax.{MinMax}
use Rattle.ir_model.specs.declared.min_max.MinMax.TheVariants.{Umin, Umax, Smin, Smax}

-- Decimal digits, none of them a zero before others.
abbrev pub is_plain_numeral : List ℕ → Bool
is_plain_numeral [] = false
is_plain_numeral (c ∷ []) = is_ascii_digit c
is_plain_numeral (c ∷ rest) = not (nat_eq c 48) && is_ascii_digit c && list_all is_ascii_digit rest

-- a text and then such a numeral
abbrev pub is_numbered : List ℕ → List ℕ → Bool
is_numbered text front = starts_with nat_eq text front && is_plain_numeral (drop (length front) text)

-- the name of a minimum or a maximum up to its width
abbrev pub min_max_front : MinMax → List ℕ
min_max_front Umin = codes "llvm.umin.i"
min_max_front Umax = codes "llvm.umax.i"
min_max_front Smin = codes "llvm.smin.i"
min_max_front Smax = codes "llvm.smax.i"

abbrev pub all_min_max : List MinMax
all_min_max = Umin ∷ Umax ∷ Smin ∷ Smax ∷ []

-- The minimum or maximum of this name, whatever its width; a name is that of at most one.
abbrev pub min_max_named : List ℕ → Option MinMax
min_max_named name = find (λ kind. is_numbered name (min_max_front kind)) all_min_max

abbrev pub is_min_max : List ℕ → Bool
is_min_max name = is_some (min_max_named name)
