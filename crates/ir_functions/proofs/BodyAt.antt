-- One block or more, and the `}`, as the loop reads them.
use Rattle.std.proofs.Common.{◌≡◌, ℕ, List, [], ◌∷◌, ◌++◌, Result, Ok, Err, sym, ap, ◌∙◌}
use Rattle.std.proofs.lemmas.List.{append-nil}
use Rattle.ir_model.specs.declared.function.Block.{Block}
use Rattle.ir_text.specs.Tokens.{Lexeme}
use Rattle.ir_text.specs.Mentions.{Mention}
use Rattle.ir_lex.specs.Tokenized.{Tokenized}
use Rattle.ir_parts.specs.declared.fault.ItemFault.{ItemFault}
use Rattle.ir_parts.specs.declared.fault.ItemFault.TheVariants.{CannotGoOn, OutOfMemory}
use Rattle.ir_parts.specs.Reading.{go_on, pure, ReadsAs}
use Rattle.ir_parts.specs.ListReading.{all_up_to_at}
use Rattle.ir_body.specs.Telling.{behind, give, made}
use Rattle.ir_body.specs.Gathered.{gathered}
use Rattle.ir_functions.specs.Functions.{block_at, blocks_at, body_at}
use Rattle.ir_functions.proofs.GatheredLists.{made_of}

abbrev pub Told : Type 0
Told = List Block × List Mention

abbrev Found : Type 0
Found = Result (List (Block × List Mention) × List Lexeme) ℕ

abbrev First : Type 0
First = Result ((Block × List Mention) × List Lexeme) ℕ

-- all of it, of the first block and of the others
abbrev others_too : Block × List Mention → Found → Result (Told × List Lexeme) ℕ
others_too first r =
    go_on {A = (Block × List Block) × List Mention} {B = Told}
    (behind first.1 (go_on {A = Told} {B = (Block × List Block) × List Mention} (go_on r (λ xs. pure (gathered xs)))
    (λ read rest. behind read.1 (give (first.0, read.0) rest))))
    (λ read rest. behind read.1 (give (read.0.0 ∷ read.0.1) rest))

parted : (ts middle : List Lexeme) (first : Block × List Mention) → block_at ts ≡ Ok (first, middle)
    → body_at ts ≡ others_too first (all_up_to_at 125 block_at middle)
unfolding body_at blocks_at
parted ts middle first read =
    ap (λ (r : First).
    go_on {A = (Block × List Block) × List Mention} {B = Told}
    (go_on r (λ read rest. behind read.1 (made (λ blocks. (read.0, blocks)) blocks_at rest)))
    (λ read rest. behind read.1 (give (read.0.0 ∷ read.0.1) rest))) read

pub body_read : (ts middle rest : List Lexeme) (first : Block × List Mention) (found : List (Block × List Mention))
    (seen : Told)
    → block_at ts ≡ Ok (first, middle) → all_up_to_at 125 block_at middle ≡ Ok (found, rest)
    → seen ≡ made_of (λ blocks. blocks) (first ∷ found) → body_at ts ≡ Ok (seen, rest)
body_read ts middle rest first found seen begun read same =
    parted ts middle first begun
    ∙ (ap (others_too first) read
    ∙ (ap (λ (ms : List Mention). Ok ((first.0 ∷ (gathered found).0, ms), rest))
    (append-nil (first.1 ++ ((gathered found).1 ++ []))
    ∙ ap (λ (ms : List Mention). first.1 ++ ms) (append-nil (gathered found).1))
    ∙ ap (λ (told : Told). Ok (told, rest)) (sym same)))

-- the first block is refused, and what stands behind it
pub body_no_first : {X Y : Type 0} (view : X → Block × List Mention) (other : Y → Told) (t : Tokenized)
    (fault : ItemFault) (ts : List Lexeme)
    → ReadsAs view t (Err fault) (block_at ts) → ReadsAs other t (Err fault) (body_at ts)
unfolding body_at
body_no_first view other t OutOfMemory ts e = tt
body_no_first view other t (CannotGoOn at) ts e = (
  ap (λ (r : First).
      go_on {A = (Block × List Block) × List Mention} {B = Told}
      (go_on r (λ read rest. behind read.1 (made (λ blocks. (read.0, blocks)) blocks_at rest)))
      (λ read rest. behind read.1 (give (read.0.0 ∷ read.0.1) rest))) e.0,
  e.1,
)

pub body_faults : {X Y : Type 0} (view : X → List (Block × List Mention)) (other : Y → Told) (t : Tokenized)
    (fault : ItemFault) (ts middle : List Lexeme) (first : Block × List Mention)
    → block_at ts ≡ Ok (first, middle) → ReadsAs view t (Err fault) (all_up_to_at 125 block_at middle)
    → ReadsAs other t (Err fault) (body_at ts)
body_faults view other t OutOfMemory ts middle first begun e = tt
body_faults view other t (CannotGoOn at) ts middle first begun e =
    (parted ts middle first begun ∙ ap (others_too first) e.0, e.1)
