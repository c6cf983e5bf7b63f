-- How a data layout is looked through for what is left out.
use Rattle.std.specs.Prelude.{◌≡◌, ℕ, Bool, false, nat_eq, nat_lt, ◌&&◌, ◌==◌, not, if◌then◌else◌, List, [], ◌∷◌, ◌++◌, length, take, Option, Some, None, ◌⊎◌, codes}
use Rattle.std.specs.List.{list_all, position_or_len}
use Rattle.std.specs.Str.{bytes_eq}
use Rattle.std.specs.Str.Parse.{digits_value}
use Rattle.ir_text.specs.Bytes.{is_digit}
use Rattle.ir_parts.specs.WordsReading.{is_none}

-- nothing stands there, or the byte
abbrev pub EndsAt : ℕ → List ℕ → Type 0
EndsAt b rest = (rest ≡ []) ⊎ ((more : List ℕ) × (rest ≡ b ∷ more))

-- what stands before the first such byte
abbrev pub first_part : ℕ → List ℕ → List ℕ
first_part b text = take (position_or_len (λ c. c == b) text) text

-- digits that write 64
abbrev pub is_sixty_four : List ℕ → Bool
is_sixty_four size = nat_lt 0 (length size) && (list_all is_digit size && nat_eq (digits_value 10 size) 64)

-- a size before the first `:` that is another than 64
abbrev pub is_other_size : List ℕ → Bool
is_other_size text = not (is_sixty_four (first_part 58 text))

-- the same behind a `:`
unfoldable pub is_colon_size : List ℕ → Bool
is_colon_size [] = false
is_colon_size (b ∷ bs) = (b == 58) && is_other_size bs

-- the same behind `0`, which is the default address space, or at once
unfoldable pub is_default_size : List ℕ → Bool
is_default_size [] = false
is_default_size (b ∷ bs) = if b == 48 then is_colon_size bs else is_colon_size (b ∷ bs)

-- a specification of pointers with such a size
unfoldable pub is_other_pointer : List ℕ → Bool
is_other_pointer [] = false
is_other_pointer (b ∷ bs) = (b == 112) && is_default_size bs

-- the number under which a specification is left out
abbrev pub left_out : List ℕ → Option ℕ
left_out spec = if bytes_eq spec (codes "E") then Some 4 else (if is_other_pointer spec then Some 5 else None)

-- Whether no specification is left out, of which the first has begun with these bytes.
unfoldable pub is_fine_behind : List ℕ → List ℕ → Bool
is_fine_behind spec [] = is_none (left_out spec)
is_fine_behind spec (b ∷ bs) =
    if b == 45 then is_none (left_out spec) && is_fine_behind [] bs else is_fine_behind (spec ++ b ∷ []) bs

-- nothing of a data layout is left out
abbrev pub is_fine_layout : List ℕ → Bool
is_fine_layout text = is_fine_behind [] text
