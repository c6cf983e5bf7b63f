-- Declarations are read, and those that are dropped.
use Rattle.std.proofs.Common.{◌≡◌, ℕ, Bool, true, false, if◌then◌else◌, List, [], ◌∷◌, ◌++◌, map, Option, Some, None, ◌⊎◌, inl, inr, refl, sym, ap, subst, ◌∙◌, append_assoc, codes}
use Rattle.ir_model.specs.declared.types.IrType.{IrType}
use Rattle.ir_model.specs.declared.types.IrType.TheVariants.{Void, Int, Ptr, Array}
use Rattle.ir_model.specs.declared.item.DeclaredParam.{DeclaredParam}
use Rattle.ir_model.specs.declared.item.Declare.{Declare}
use Rattle.ir_text.specs.declared.token.TokenKind.{TokenKind}
use Rattle.ir_text.specs.declared.token.TokenKind.TheVariants.{Metadata}
use Rattle.ir_text.specs.Tokens.{Lexeme}
use Rattle.ir_text.specs.Listed.{SeparatedByCommas}
use Rattle.ir_text.specs.Language.{Language, ◌·◌, one, keyword, punctuation}
use Rattle.ir_text.specs.Written.{IsGlobal}
use Rattle.ir_text.specs.Said.{said_global}
use Rattle.ir_model.specs.Kinds.{IsReturned}
use Rattle.ir_text.specs.Types.{SpellsTypeOf}
use Rattle.ir_text.specs.PassedOn.{passed_text, in_parentheses, metadata_pairs}
use Rattle.ir_grammar.specs.Functions.{is_dropped_name}
use Rattle.ir_grammar.specs.Items.{SpellsDeclaredParam, ListedByCommas}
use Rattle.ir_parts.specs.declared.ending.Ending.{Ending}
use Rattle.ir_parts.specs.declared.ending.Run.{Run}
use Rattle.ir_parts.specs.Reading.{◌⊗◌, made, begins, one_at}
use Rattle.ir_parts.specs.MetadataReading.{is_metadata_kind, is_metadata}
use Rattle.ir_parts.specs.ListReading.{listed_at}
use Rattle.ir_parts.specs.TypeReading.{returned_type_at}
use Rattle.ir_parts.specs.WordsReading.{begins_piece, words_at}
use Rattle.ir_parts.specs.Runs.{run_of, goes_on, ends_run, SpellsRun, SpellsRunText}
use Rattle.ir_parts.proofs.Readers.{StopsAt, IsReader, Anything, of_language, of_reading, mapped, then_reads, begins_still}
use Rattle.ir_parts.proofs.Combined.{behind_token, behind_followed}
use Rattle.ir_parts.proofs.Together.{both_followed, both_read_on}
use Rattle.ir_parts.proofs.SingleTokens.{keyword_reads, sign_reads}
use Rattle.ir_parts.proofs.TypeReaders.{returned_types}
use Rattle.ir_parts.proofs.MetadataReaders.{parentheses_read, NoMetadata, pairs_read}
use Rattle.ir_parts.proofs.RunReader.{run_reads}
use Rattle.ir_parts.proofs.WordsReader.{words_read}
use Rattle.ir_parts.proofs.RunEnds.{type_ends, words_followed}
use Rattle.ir_parts.proofs.ListReaders.{AnyWithCommas}
use Rattle.ir_items.specs.DeclaredReading.{declared_param_at, declared_params_at, declared_of, one_param_at, some_params_at, no_params_at, closed_params_at, taken_params_at, DeclareHead, declare_head_at, dropped_declare_at, declare_of, kept_declare_at, behind_head_at, declare_at, SpellsDeclareIfAny}
use Rattle.ir_items.proofs.RunEnds.{run_begins}
use Rattle.ir_items.proofs.GlobalReaders.{global_names}
use Rattle.ir_items.proofs.DeclaredReaders.{SpellsParam, declared_params_read}
use Rattle.ir_items.proofs.MadeLists.{listed_made}

-- ---- parameters

abbrev pub SpellsParams : List DeclaredParam → Language
SpellsParams params = ListedByCommas SpellsDeclaredParam params · punctuation 41

taken_is_listed : (ts : List Lexeme) → taken_params_at ts ≡ made (map declared_of) declared_params_at ts
unfolding taken_params_at no_params_at closed_params_at some_params_at one_param_at declared_params_at listed_at
taken_is_listed ts = listed_made declared_of declared_param_at 41 ts

-- a parameter with what its words say, and without
param_there : (p : IrType × (Run × List ℕ)) (ts : List Lexeme) → SpellsParam p ts
    → SpellsDeclaredParam (declared_of p) ts
param_there p ts l = (l.0, l.1, l.2, l.3, ((l.4.0, l.4.1), l.4.3))

params_there : (p : IrType × (Run × List ℕ)) (ps : List (IrType × (Run × List ℕ))) (ts : List Lexeme)
    → SeparatedByCommas SpellsParam (p ∷ ps) ts
    → SeparatedByCommas SpellsDeclaredParam (declared_of p ∷ map declared_of ps) ts
params_there p [] ts l = param_there p ts l
params_there p (q ∷ qs) ts l = (l.0, l.1, l.2, param_there p l.0 l.3, params_there q qs l.1 l.4)

-- the other way round
abbrev WithRun : DeclaredParam → Language
WithRun d ts = (p : IrType × (Run × List ℕ)) × (d ≡ declared_of p) × SpellsParam p ts

param_back : (d : DeclaredParam) (ts : List Lexeme) → SpellsDeclaredParam d ts → WithRun d ts
param_back d ts l =
    ((d.kind, (run_of l.4.0.0, d.words)), refl, (l.0, l.1, l.2, l.3, (l.4.0.0, l.4.0.1, refl, l.4.1)))

abbrev WithRuns : DeclaredParam → List DeclaredParam → Language
WithRuns d ds ts = (p : IrType × (Run × List ℕ)) × (ps : List (IrType × (Run × List ℕ)))
    × (d ∷ ds ≡ map declared_of (p ∷ ps)) × SeparatedByCommas SpellsParam (p ∷ ps) ts

params_back : (d : DeclaredParam) (ds : List DeclaredParam) (ts : List Lexeme)
    → SeparatedByCommas SpellsDeclaredParam (d ∷ ds) ts → WithRuns d ds ts
params_back d [] ts l =
    let one = param_back d ts l in (one.0, [], ap (λ (d : DeclaredParam). d ∷ []) one.1, one.2)
params_back d (e ∷ es) ts l =
    let one = param_back d l.0 l.3 in
    let others = params_back e es l.1 l.4 in (
      one.0,
      others.0 ∷ others.1,
      ap (λ (d : DeclaredParam). d ∷ (e ∷ es)) one.1
          ∙ ap (λ (ds : List DeclaredParam). declared_of one.0 ∷ ds) others.2,
      (l.0, l.1, l.2, one.2, others.3),
    )

abbrev MadeParams : List DeclaredParam → Language
MadeParams params ts = (ps : List (IrType × (Run × List ℕ))) × (params ≡ map declared_of ps)
    × (AnyWithCommas SpellsParam ps · punctuation 41) ts

all_there : (ps : List (IrType × (Run × List ℕ))) (ts : List Lexeme) → AnyWithCommas SpellsParam ps ts
    → ListedByCommas SpellsDeclaredParam (map declared_of ps) ts
all_there [] ts l = l
all_there (p ∷ ps) ts l = params_there p ps ts l

listed_there : (params : List DeclaredParam) (ts : List Lexeme) → MadeParams params ts → SpellsParams params ts
listed_there params ts l =
    subst (λ (params : List DeclaredParam). SpellsParams params ts) (sym l.1)
    (l.2.0, l.2.1, l.2.2, all_there l.0 l.2.0 l.2.3, l.2.4)

listed_back : (params : List DeclaredParam) (ts : List Lexeme) → SpellsParams params ts → MadeParams params ts
listed_back [] ts l = ([], refl, l)
listed_back (d ∷ ds) ts l =
    let all = params_back d ds l.0 l.3 in (all.0 ∷ all.1, all.2, (l.0, l.1, l.2, all.3, l.4))

params_read : IsReader taken_params_at SpellsParams Anything
params_read = of_language SpellsParams listed_there listed_back
    (of_reading taken_params_at taken_is_listed
    (mapped (map declared_of) Anything (λ ps t stop. tt) (λ ps t stop. tt) declared_params_read))

-- ---- before the parameters

abbrev pub SpellsNamed : IrType × List ℕ → Language
SpellsNamed p = SpellsTypeOf IsReturned p.0 · one (IsGlobal p.1)

abbrev pub SpellsWorded : DeclareHead → Language
SpellsWorded head = SpellsRunText head.0 · SpellsNamed head.1

named_first : (p : IrType × List ℕ) (ts : List Lexeme) → SpellsNamed p ts → begins ends_run ts ≡ true
named_first p ts l = ap (begins ends_run) l.2 ∙ begins_still ends_run l.0 l.1 (type_ends p.0 l.0 l.3.1)

worded_reads : IsReader (words_at ⊗ (returned_type_at ⊗ one_at said_global)) SpellsWorded Anything
worded_reads = both_followed words_read (both_read_on returned_types global_names)
    (words_followed SpellsNamed Anything named_first)

-- neither words nor a type begin with metadata
piece_other : (t : Lexeme) → begins_piece t ≡ true → is_metadata t ≡ false
piece_other t e = of_kind t.kind t.text e
  where
    of_kind : (kind : TokenKind) (text : List ℕ) → begins_piece (record { kind = kind; text = text }) ≡ true
        → is_metadata_kind kind ≡ false
    of_kind Metadata text e = absurd cc
    of_kind _ text e = refl

pieces_other : (us rest : List Lexeme) → begins begins_piece us ≡ true → begins is_metadata (us ++ rest) ≡ false
pieces_other [] rest e = absurd cc
pieces_other (t ∷ us) rest e = piece_other t e

type_other : (kind : IrType) (ts rest : List Lexeme) → SpellsTypeOf IsReturned kind ts
    → begins is_metadata (ts ++ rest) ≡ false
type_other Void ts rest l = rw l.1 refl
type_other Ptr ts rest l = rw l.1 refl
type_other (Int width) ts rest l = rw l.1.1 (ap is_metadata_kind l.1.2.0)
type_other (Array dims width) ts rest l = absurd l.0

named_other : (p : IrType × List ℕ) (ts rest : List Lexeme) → SpellsNamed p ts → begins is_metadata (ts ++ rest) ≡ false
named_other p ts rest l =
    ap (begins is_metadata) (ap (λ (ts : List Lexeme). ts ++ rest) l.2 ∙ append_assoc l.0 l.1 rest)
    ∙ type_other p.0 l.0 (l.1 ++ rest) l.3

no_metadata : (ts : List Lexeme) → begins is_metadata ts ≡ false → StopsAt (NoMetadata tt) ts
no_metadata [] e = tt
no_metadata (t ∷ ts) e = e

worded_other : (head : DeclareHead) (taken rest : List Lexeme) → SpellsWorded head taken
    → begins is_metadata (taken ++ rest) ≡ false
worded_other head taken rest l =
    ap (begins is_metadata) (ap (λ (ts : List Lexeme). ts ++ rest) l.2 ∙ append_assoc l.0 l.1 rest)
    ∙ elim (run_begins head.0 l.0 l.3) [
      | inl none ↦
          ap (λ (us : List Lexeme). begins is_metadata (us ++ (l.1 ++ rest))) none.0
          ∙ named_other head.1 l.1 rest l.4
      | inr some ↦ pieces_other l.0 (l.1 ++ rest) some.0
    ]

abbrev pub SpellsHead : DeclareHead → Language
SpellsHead head = keyword (codes "declare") · (metadata_pairs · SpellsWorded head)

head_reads : IsReader declare_head_at SpellsHead Anything
unfolding declare_head_at
head_reads = behind_token (keyword_reads (codes "declare")) (behind_followed pairs_read worded_reads
    (λ head taken rest l stops. no_metadata (taken ++ rest) (worded_other head taken rest l)))

-- ---- behind the name

-- A token doesn't go on with the last words.
abbrev pub StopsDeclare : Option Declare × Ending → Lexeme → Type 0
StopsDeclare ended t = goes_on ended.1 t ≡ false

abbrev pub SpellsDropped : Option Declare × Ending → Language
SpellsDropped ended ts = (run : Run) × (ended ≡ (None, run.ending)) × (in_parentheses · SpellsRun run) ts

dropped_reads : IsReader dropped_declare_at SpellsDropped StopsDeclare
unfolding dropped_declare_at
dropped_reads =
    mapped (λ (run : Run). (None, run.ending)) StopsDeclare (λ run t stop. stop) (λ run t stop. stop)
    (behind_token parentheses_read run_reads)

abbrev pub SpellsKept : DeclareHead → Option Declare × Ending → Language
SpellsKept head ended ts = (p : List DeclaredParam × (Run × List ℕ)) × (ended ≡ declare_of head p)
    × (punctuation 40 · (SpellsParams p.0 · SpellsRunText p.1)) ts

kept_reads : (head : DeclareHead) → IsReader (kept_declare_at head) (SpellsKept head) StopsDeclare
unfolding kept_declare_at
kept_reads head =
    mapped (declare_of head) StopsDeclare (λ p t stop. stop) (λ p t stop. stop)
    (behind_token (sign_reads 40) (both_read_on params_read words_read))

abbrev pub SpellsBehind : DeclareHead → Option Declare × Ending → Language
SpellsBehind head ended ts = ((is_dropped_name head.1.1 ≡ true) × SpellsDropped ended ts)
    ⊎ ((is_dropped_name head.1.1 ≡ false) × SpellsKept head ended ts)

behind_reads : (head : DeclareHead) → IsReader (behind_head_at head) (SpellsBehind head) StopsDeclare
unfolding behind_head_at
behind_reads head = by (is_dropped_name head.1.1) refl
  where
    dropped_back : is_dropped_name head.1.1 ≡ true → (ended : Option Declare × Ending) (ts : List Lexeme)
        → SpellsBehind head ended ts → SpellsDropped ended ts
    dropped_back e ended ts (inl l) = l.1
    dropped_back e ended ts (inr l) = absurd (let both = sym e ∙ l.0 in cc)

    kept_back : is_dropped_name head.1.1 ≡ false → (ended : Option Declare × Ending) (ts : List Lexeme)
        → SpellsBehind head ended ts → SpellsKept head ended ts
    kept_back e ended ts (inl l) = absurd (let both = sym e ∙ l.0 in cc)
    kept_back e ended ts (inr l) = l.1

    by : (b : Bool) → is_dropped_name head.1.1 ≡ b → IsReader (behind_head_at head) (SpellsBehind head) StopsDeclare
    by true e = of_language (SpellsBehind head) (λ ended ts l. inl (e, l)) (dropped_back e)
        (of_reading (behind_head_at head)
        (λ ts. ap (λ b. if b then dropped_declare_at ts else kept_declare_at head ts) e) dropped_reads)
    by false e = of_language (SpellsBehind head) (λ ended ts l. inr (e, l)) (kept_back e)
        (of_reading (behind_head_at head)
        (λ ts. ap (λ b. if b then dropped_declare_at ts else kept_declare_at head ts) e) (kept_reads head))

-- ---- declarations, and how they end

abbrev pub SpellsEndedDeclare : Option Declare × Ending → Language
SpellsEndedDeclare ended ts = (head : DeclareHead) × (SpellsHead head · SpellsBehind head ended) ts

pub ended_declares : IsReader declare_at SpellsEndedDeclare StopsDeclare
unfolding declare_at
ended_declares = then_reads behind_head_at SpellsBehind StopsDeclare head_reads behind_reads

-- ---- the same as in the grammar

regroup : (a b c d e rest : List Lexeme) → (a ++ (b ++ (c ++ (d ++ e)))) ++ rest ≡ a ++ (b ++ (c ++ (d ++ (e ++ rest))))
regroup a b c d e rest = simp append_assoc

pub declare_there : (ended : Option Declare × Ending) (ts : List Lexeme) → SpellsEndedDeclare ended ts
    → SpellsDeclareIfAny ended.0 ts
declare_there ended ts (
  head,
  (
    us,
    rest,
    parts,
    (
      a,
      behind_a,
      a_parts,
      first,
      (
        b,
        bs,
        b_parts,
        pairs,
        (
          c,
          cs,
          c_parts,
          words,
          (d, e, d_parts, kind, name),
        ),
      ),
    ),
    behind,
  ),
) = by behind
  where
    all : ts ≡ a ++ (b ++ (c ++ (d ++ (e ++ rest))))
    all = parts ∙ (ap (λ (us : List Lexeme). us ++ rest) (a_parts ∙ ap (λ (behind_a : List Lexeme). a ++ behind_a)
        (b_parts ∙ ap (λ (bs : List Lexeme). b ++ bs) (c_parts ∙ ap (λ (cs : List Lexeme). c ++ cs) d_parts)))
        ∙ regroup a b c d e rest)

    by : SpellsBehind head ended rest → SpellsDeclareIfAny ended.0 ts
    by (inl (is, (run, says, (os, ws, o_parts, inner, run_is)))) =
        subst (λ (ended : Option Declare × Ending). SpellsDeclareIfAny ended.0 ts) (sym says) (
          a,
          b ++ (c ++ (d ++ (e ++ rest))),
          all,
          first,
          (
            b,
            c ++ (d ++ (e ++ rest)),
            refl,
            pairs,
            (
              c,
              d ++ (e ++ rest),
              refl,
              (words.0, words.1),
              (
                d,
                e ++ rest,
                refl,
                (head.1.0, kind),
                (
                  e,
                  rest,
                  refl,
                  (name.0, name.1, (head.1.1, name.2, is)),
                  (os, ws, o_parts, inner, (run_is.0, run_is.1)),
                ),
              ),
            ),
          ),
        )
    by (inr (
      is,
      (
        p,
        says,
        (
          os,
          os_rest,
          o_parts,
          opening,
          (
            qs,
            ws,
            q_parts,
            (ls, ends, l_parts, listed, closing),
            after,
          ),
        ),
      ),
    )) =
        let behind : os_rest ≡ ls ++ (ends ++ ws) =
        q_parts ∙ (ap (λ (qs : List Lexeme). qs ++ ws) l_parts ∙ append_assoc ls ends ws) in
        subst (λ (ended : Option Declare × Ending). SpellsDeclareIfAny ended.0 ts) (sym says) (
          is,
          (
            a,
            b ++ (c ++ (d ++ (e ++ rest))),
            all,
            first,
            (
              b,
              c ++ (d ++ (e ++ rest)),
              refl,
              pairs,
              (
                c,
                d ++ (e ++ rest),
                refl,
                ((words.0, words.1), words.3),
                (
                  d,
                  e ++ rest,
                  refl,
                  kind,
                  (
                    e,
                    rest,
                    refl,
                    name,
                    (
                      os,
                      os_rest,
                      o_parts,
                      opening,
                      (
                        ls,
                        ends ++ ws,
                        behind,
                        listed,
                        (ends, ws, refl, closing, ((after.0, after.1), after.3)),
                      ),
                    ),
                  ),
                ),
              ),
            ),
          ),
        )

abbrev pub WithEnding : Option Declare → Language
WithEnding declare ts = (ending : Ending) × SpellsEndedDeclare (declare, ending) ts

pub declare_back : (declare : Option Declare) (ts : List Lexeme) → SpellsDeclareIfAny declare ts
    → WithEnding declare ts
declare_back None ts (
  a,
  behind_a,
  a_parts,
  first,
  (
    b,
    bs,
    b_parts,
    pairs,
    (
      c,
      cs,
      c_parts,
      words,
      (
        d,
        ds,
        d_parts,
        kind,
        (
          e,
          rest,
          e_parts,
          name,
          (os, ws, o_parts, inner, run),
        ),
      ),
    ),
  ),
) =
    let head : DeclareHead = ((run_of words.0, passed_text c), (kind.0, name.2.0)) in
    let all : ts ≡ (a ++ (b ++ (c ++ (d ++ e)))) ++ rest =
    a_parts ∙ (ap (λ (behind_a : List Lexeme). a ++ behind_a) (b_parts ∙ ap (λ (bs : List Lexeme). b ++ bs) (c_parts
    ∙ ap (λ (cs : List Lexeme). c ++ cs) (d_parts ∙ ap (λ (ds : List Lexeme). d ++ ds) e_parts)))
    ∙ sym (regroup a b c d e rest)) in (
      (run_of run.0).ending,
      (
        head,
        (
          a ++ (b ++ (c ++ (d ++ e))),
          rest,
          all,
          (
            a,
            b ++ (c ++ (d ++ e)),
            refl,
            first,
            (
              b,
              c ++ (d ++ e),
              refl,
              pairs,
              (
                c,
                d ++ e,
                refl,
                (words.0, words.1, refl, refl),
                (d, e, refl, kind.1, (name.0, name.1, name.2.1)),
              ),
            ),
          ),
          inl (name.2.2, (run_of run.0, refl, (os, ws, o_parts, inner, (run.0, run.1, refl)))),
        ),
      ),
    )
declare_back (Some declare) ts (
  is,
  (
    a,
    behind_a,
    a_parts,
    first,
    (
      b,
      bs,
      b_parts,
      pairs,
      (
        c,
        cs,
        c_parts,
        words,
        (
          d,
          ds,
          d_parts,
          kind,
          (
            e,
            rest,
            e_parts,
            name,
            (
              os,
              os_rest,
              o_parts,
              opening,
              (
                ls,
                l_rest,
                l_parts,
                listed,
                (
                  ends,
                  ws,
                  end_parts,
                  closing,
                  after,
                ),
              ),
            ),
          ),
        ),
      ),
    ),
  ),
) =
    let head : DeclareHead = ((run_of words.0.0, declare.before), (declare.ret, declare.name)) in
    let all : ts ≡ (a ++ (b ++ (c ++ (d ++ e)))) ++ rest =
    a_parts ∙ (ap (λ (behind_a : List Lexeme). a ++ behind_a) (b_parts ∙ ap (λ (bs : List Lexeme). b ++ bs) (c_parts
    ∙ ap (λ (cs : List Lexeme). c ++ cs) (d_parts ∙ ap (λ (ds : List Lexeme). d ++ ds) e_parts)))
    ∙ sym (regroup a b c d e rest)) in
    let behind : os_rest ≡ (ls ++ ends) ++ ws =
    l_parts ∙ (ap (λ (ts : List Lexeme). ls ++ ts) end_parts ∙ sym (append_assoc ls ends ws)) in (
      (run_of after.0.0).ending,
      (
        head,
        (
          a ++ (b ++ (c ++ (d ++ e))),
          rest,
          all,
          (
            a,
            b ++ (c ++ (d ++ e)),
            refl,
            first,
            (
              b,
              c ++ (d ++ e),
              refl,
              pairs,
              (
                c,
                d ++ e,
                refl,
                (words.0.0, words.0.1, refl, words.1),
                (d, e, refl, kind, name),
              ),
            ),
          ),
          inr (
            is,
            (
              (declare.params, (run_of after.0.0, declare.after)),
              refl,
              (
                os,
                os_rest,
                o_parts,
                opening,
                (
                  ls ++ ends,
                  ws,
                  behind,
                  (ls, ends, refl, listed, closing),
                  (after.0.0, after.0.1, refl, after.1),
                ),
              ),
            ),
          ),
        ),
      ),
    )
