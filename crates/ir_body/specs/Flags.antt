-- Flags of operations.
use Rattle.std.specs.Prelude.{ℕ, Bool, true, false, List, [], ◌∷◌, codes}
use Rattle.ir_model.specs.declared.op.BinOp.{BinOp}
use Rattle.ir_model.specs.declared.op.CastOp.{CastOp}
use Rattle.ir_model.specs.declared.op.CastOp.TheVariants as cast
use Rattle.ir_model.specs.Kinds.{FlagKind, Wraps, Exact, Disjoint, NoFlag, flag_kind}
use Rattle.ir_text.specs.PassedOn.{is_among}
use Rattle.ir_parts.specs.Reading.{Read, pure, ◌>>=◌, ◌▷◌, made, choose, is_keyword, keyword_at}
use Rattle.ir_body.specs.declared.flags.Flags.{Flags}
use Rattle.ir_body.specs.FlagWords.{words_at}

-- whether the word stands there
unfoldable pub flag_at : List ℕ → Read Bool
flag_at text = choose (is_keyword text) (keyword_at text >>= λ _. pure true) (pure false)

-- a word that is dropped where it is there
unfoldable pub dropped_at : List ℕ → Read (Unit {0})
dropped_at text = made (λ _. tt) (flag_at text)

abbrev pub wrap_flags : Bool → Bool → Flags
wrap_flags nuw nsw = record { nuw = nuw; nsw = nsw; exact = false; disjoint = false }

-- two words, each at most once, in any order
unfoldable pub pair_at : List ℕ → List ℕ → Read (Bool × Bool)
pair_at one other = made (λ found. (is_among found one, is_among found other)) (words_at 2 (one ∷ other ∷ []))

-- `nuw` and `nsw`
unfoldable pub wraps_at : Read Flags
wraps_at = made (λ set. wrap_flags set.0 set.1) (pair_at (codes "nuw") (codes "nsw"))

-- the flags of `getelementptr`: whether `inbounds` is among them; the others are dropped
abbrev pub gep_words : List (List ℕ)
gep_words = codes "inbounds" ∷ codes "nuw" ∷ codes "nusw" ∷ []

unfoldable pub gep_flags_at : Read Bool
gep_flags_at = made (λ found. is_among found (codes "inbounds")) (words_at 3 gep_words)

unfoldable pub exact_at : Read Flags
exact_at = made (λ exact. record { nuw = false; nsw = false; exact = exact; disjoint = false })
    (flag_at (codes "exact"))

unfoldable pub disjoint_at : Read Flags
disjoint_at = made (λ disjoint. record { nuw = false; nsw = false; exact = false; disjoint = disjoint })
    (flag_at (codes "disjoint"))

abbrev pub flags_of_kind_at : FlagKind → Read Flags
flags_of_kind_at Wraps = wraps_at
flags_of_kind_at Exact = exact_at
flags_of_kind_at Disjoint = disjoint_at
flags_of_kind_at NoFlag = pure (wrap_flags false false)

unfoldable pub flags_at : BinOp → Read Flags
flags_at op = flags_of_kind_at (flag_kind op)

-- whether `nneg` stands there; what `trunc` has is dropped
unfoldable pub cast_flags_at : CastOp → Read Bool
cast_flags_at cast.Zext = flag_at (codes "nneg")
cast_flags_at cast.Sext = pure false
cast_flags_at cast.Trunc = dropped_at (codes "nuw") ▷ dropped_at (codes "nsw") ▷ pure false
