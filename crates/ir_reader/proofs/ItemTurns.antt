-- Items in turn are the items of a module, with what is dropped before, between and behind them.
use Rattle.std.proofs.Common.{◌≡◌, Bool, true, false, ◌||◌, ◌&&◌, List, [], ◌∷◌, ◌++◌, Option, Some, None, inl, inr, refl, sym, ap, subst, ◌∙◌, append_assoc}
use Rattle.std.specs.Option.{option_map}
use Rattle.std.proofs.lemmas.List.{append-nil}
use Rattle.ir_model.specs.declared.function.Function.{Function}
use Rattle.ir_model.specs.declared.item.Global_.{Global_}
use Rattle.ir_model.specs.declared.item.Declare.{Declare}
use Rattle.ir_model.specs.declared.item.Item.{Item}
use Rattle.ir_model.specs.declared.item.Item.TheVariants as item
use Rattle.ir_text.specs.declared.token.TokenKind.{TokenKind}
use Rattle.ir_text.specs.declared.token.TokenKind.TheVariants.{Metadata}
use Rattle.ir_text.specs.Tokens.{Lexeme}
use Rattle.ir_text.specs.Listed.{sign}
use Rattle.ir_text.specs.Language.{Language, Many}
use Rattle.ir_text.specs.Language.Many.{none, more}
use Rattle.ir_text.specs.Mentions.{Mention, Mentioning, ◌⊙◌}
use Rattle.ir_text.specs.Sites.{Draft}
use Rattle.ir_grammar.specs.Operations.{the_sign}
use Rattle.ir_grammar.specs.Functions.{SpellsFunction}
use Rattle.ir_grammar.specs.Items.{dropped_item, SpellsDraft, EndsApart, SpellsItems}
use Rattle.ir_parts.specs.Reading.{is_punctuation}
use Rattle.ir_parts.specs.MetadataReading.{is_metadata_kind, is_metadata, is_word_text, is_metadata_word}
use Rattle.ir_parts.specs.Runs.{goes_on}
use Rattle.ir_parts.proofs.Readers.{StopsAt}
use Rattle.ir_parts.proofs.SingleTokens.{is_sign}
use Rattle.ir_parts.proofs.PieceReaders.{neither_or}
use Rattle.ir_parts.proofs.RunEnds.{ends_each}
use Rattle.ir_parts.proofs.ToEndReader.{StopsUnbarred, InTurn}
use Rattle.ir_items.specs.declared.global_ending.GlobalEnding.{GlobalEnding}
use Rattle.ir_items.specs.declared.global_ending.GlobalEnding.TheVariants as global
use Rattle.ir_items.specs.TailReading.{is_empty_run}
use Rattle.ir_items.proofs.GlobalSpelled.{global_of_ended, ended_of_global}
use Rattle.ir_items.specs.DeclaredReading.{SpellsDeclareIfAny}
use Rattle.ir_items.proofs.DeclareReader.{declare_there, declare_back}
use Rattle.ir_items.proofs.LastTokens.{comma_last, last_behind, Ends, Closes, metadata_item_closes, line_closes, dropped_closes, declare_closes, ends_empty, global_last}
use Rattle.ir_reader.specs.declared.items.ItemEnding.{ItemEnding}
use Rattle.ir_reader.specs.declared.items.ItemEnding.TheVariants.{Whole, Global, Declared}
use Rattle.ir_reader.specs.ItemsReading.{Told, of_global, ends_in_comma, barred, with_draft, drafts_of}
use Rattle.ir_reader.proofs.ItemReaders.{StopsEnding, StopsItem, SpellsTold, IsOpener, begins_so}

-- ---- one item, by what it is

-- an item, or what is dropped
abbrev pub SpellsIfAny : Option Item → List Mention → Language
SpellsIfAny None ms ts = (ms ≡ []) × dropped_item ts
SpellsIfAny (Some item) ms ts = SpellsDraft item ms ts

as_declare : (declare : Option Declare) (ts : List Lexeme) → SpellsDeclareIfAny declare ts
    → SpellsIfAny (option_map (λ declare. item.Declare declare) declare) [] ts
as_declare None ts l = (refl, inr l)
as_declare (Some declare) ts l = (refl, l)

pub item_there : (told : Told) (ts : List Lexeme) → SpellsTold told ts → SpellsIfAny told.0.0 told.1 ts
item_there told ts (inl (ended, says, l)) =
    subst (λ (told : Told). SpellsIfAny told.0.0 told.1 ts) (sym says)
    (refl, global_of_ended ended.0 ts (ended, refl, l))
item_there told ts (inr (inl (x, says, l))) =
    subst (λ (told : Told). SpellsIfAny told.0.0 told.1 ts) (sym says) (refl, inl l)
item_there told ts (inr (inr (inl (ended, says, l)))) =
    subst (λ (told : Told). SpellsIfAny told.0.0 told.1 ts) (sym says)
    (as_declare ended.0 ts (declare_there ended ts l))
item_there told ts (inr (inr (inr (inl (f, says, l))))) =
    subst (λ (told : Told). SpellsIfAny told.0.0 told.1 ts) (sym says) l
item_there told ts (inr (inr (inr (inr (text, says, l))))) =
    subst (λ (told : Told). SpellsIfAny told.0.0 told.1 ts) (sym says) (refl, l)

-- the same with how it ends
abbrev WithEnding : Option Item → List Mention → Language
WithEnding item ms ts = (ending : ItemEnding) × SpellsTold ((item, ending), ms) ts

silent_ending : (item : Option Item) (ms : List Mention) (ts : List Lexeme) → ms ≡ [] → WithEnding item [] ts
    → WithEnding item ms ts
silent_ending item ms ts silent l = subst (λ (ms : List Mention). WithEnding item ms ts) (sym silent) l

declare_ending : (declare : Option Declare) (ts : List Lexeme) → SpellsDeclareIfAny declare ts
    → WithEnding (option_map (λ declare. item.Declare declare) declare) [] ts
declare_ending declare ts l =
    let ended = declare_back declare ts l in
    (Declared ended.0, inr (inr (inl ((declare, ended.0), refl, ended.1))))

pub item_back : (item : Option Item) (ms : List Mention) (ts : List Lexeme) → SpellsIfAny item ms ts
    → WithEnding item ms ts
item_back None ms ts (silent, inl l) = silent_ending None ms ts silent (Whole, inr (inl (tt, refl, l)))
item_back None ms ts (silent, inr l) = silent_ending None ms ts silent (declare_ending None ts l)
item_back (Some (item.PassedOn text)) ms ts l =
    silent_ending (Some (item.PassedOn text)) ms ts l.0 (Whole, inr (inr (inr (inr (text, refl, l.1)))))
item_back (Some (item.Global g)) ms ts l =
    let ended = ended_of_global g ts l.1 in
    silent_ending (Some (item.Global g)) ms ts l.0
    (Global ended.0.1, inl (ended.0, says ended.0.1 ended.0.0 ended.1, ended.2))
  where
    says : (ending : GlobalEnding) (other : Global_) → other ≡ g
        → ◌≡◌ {A = Told} ((Some (item.Global g), Global ending), []) (of_global (other, ending))
    says ending other same = ap (λ (g : Global_). ((Some (item.Global g), Global ending), [])) (sym same)
item_back (Some (item.Declare d)) ms ts l =
    silent_ending (Some (item.Declare d)) ms ts l.0 (declare_ending (Some d) ts l.1)
item_back (Some (item.Define f)) ms ts l = (Whole, inr (inr (inr (inl ((f, ms), refl, l)))))

-- ---- which items end in a comma

-- a function ends in `}`
abbrev EndsTold : Mentioning → Type 0
EndsTold A = (ms : List Mention) (ts : List Lexeme) → A ms ts → Ends ts

told_later : {A B : Mentioning} → EndsTold B → EndsTold (A ⊙ B)
told_later b ms ts l =
    let ends = b l.1 l.3.1 l.3.4 in (
      l.3.0 ++ ends.0,
      ends.1,
      l.3.2 ∙ (ap (λ (vs : List Lexeme). l.3.0 ++ vs) ends.2 ∙ sym (append_assoc l.3.0 ends.0 (ends.1 ∷ []))),
      ends.3,
    )

brace_ends : EndsTold (the_sign 125)
brace_ends ms ts l = ([], sign 125, l.1, refl)

pub function_closes : (f : Function) (ms : List Mention) → Closes (SpellsFunction f ms)
function_closes f ms ts l =
    let ends =
    told_later (told_later (told_later (told_later (told_later (told_later (told_later (told_later (told_later
    (told_later (told_later brace_ends)))))))))) ms ts l.6 in
    ap comma_last ends.2 ∙ (last_behind ends.0 ends.1 [] ∙ ends.3)

same_ending : (ending : GlobalEnding) → ends_empty ending ≡ ends_in_comma (Global ending)
same_ending global.Whole = refl
same_ending (global.Words ending) = refl

-- an item ends in a comma exactly where metadata is barred behind it
pub item_last : (told : Told) (ts : List Lexeme) → SpellsTold told ts → comma_last ts ≡ ends_in_comma told.0.1
item_last told ts (inl (ended, says, l)) =
    global_last ended ts l ∙ (same_ending ended.1 ∙ ap (λ (told : Told). ends_in_comma told.0.1) (sym says))
item_last told ts (inr (inl (x, says, l))) =
    metadata_item_closes ts l ∙ ap (λ (told : Told). ends_in_comma told.0.1) (sym says)
item_last told ts (inr (inr (inl (ended, says, l)))) =
    declare_last ended.0 (declare_there ended ts l) ∙ ap (λ (told : Told). ends_in_comma told.0.1) (sym says)
  where
    declare_last : (declare : Option Declare) → SpellsDeclareIfAny declare ts → comma_last ts ≡ false
    declare_last None l = dropped_closes ts l
    declare_last (Some d) l = declare_closes d ts l
item_last told ts (inr (inr (inr (inl (f, says, l))))) =
    function_closes f.0 f.1 ts l ∙ ap (λ (told : Told). ends_in_comma told.0.1) (sym says)
item_last told ts (inr (inr (inr (inr (text, says, l))))) =
    line_closes ts l.0 ∙ ap (λ (told : Told). ends_in_comma told.0.1) (sym says)

-- what ends in a comma, and the other way round
a_comma_last : (us before : List Lexeme) → us ≡ before ++ sign 44 ∷ [] → comma_last us ≡ true
a_comma_last us before is = ap comma_last is ∙ last_behind before (sign 44) []

comma_there : (us : List Lexeme) → comma_last us ≡ true → (before : List Lexeme) × (us ≡ before ++ sign 44 ∷ [])
comma_there [] e = absurd cc
comma_there (t ∷ []) e = ([], ap (λ (t : Lexeme). t ∷ []) (is_sign 44 t e))
comma_there (t ∷ u ∷ us) e =
    let others = comma_there (u ∷ us) e in (t ∷ others.0, ap (λ (us : List Lexeme). t ∷ us) others.1)

-- ---- what stops an item

-- what opens an item stops each other one, where it isn't barred
opener_stops : (ending : ItemEnding) (t : Lexeme) → IsOpener t → (ends_in_comma ending && is_metadata t) ≡ false
    → StopsEnding ending t
opener_stops Whole t opens free = tt
opener_stops (Declared ending) t opens free = ends_each ending t opens.0
opener_stops (Global global.Whole) t opens free = opens.1
opener_stops (Global (global.Words ending)) t opens free =
    neither_or (is_punctuation 44 t) (goes_on ending t || (is_empty_run ending && is_metadata_word t)) opens.1
    (neither_or (goes_on ending t) (is_empty_run ending && is_metadata_word t) (ends_each ending t opens.0)
    (no_word (is_empty_run ending) (is_metadata t) (is_word_text t.text) free))
  where
    no_word : (a b c : Bool) → (a && b) ≡ false → (a && (b && c)) ≡ false
    no_word false b c e = refl
    no_word true false c e = refl
    no_word true true c e = absurd cc

abbrev pub Stops : Told → Lexeme → Type 0
Stops = StopsUnbarred barred StopsItem

abbrev pub Turns : List Told → Language
Turns = InTurn SpellsTold Stops

-- items in turn begin with what opens one
turns_open : (items : List Told) (ts : List Lexeme) → Turns items ts → StopsAt IsOpener ts
turns_open [] ts l = subst (λ (ts : List Lexeme). StopsAt IsOpener ts) (sym l) tt
turns_open (told ∷ items) ts l =
    let first = begins_so told l.0 l.3 in
    subst (λ (ts : List Lexeme). StopsAt IsOpener ts)
    (sym (l.2 ∙ ap (λ (us : List Lexeme). us ++ l.1) first.2)) first.3

-- where metadata isn't barred
stops_there : (told : Told) (ts : List Lexeme) → StopsAt IsOpener ts → StopsAt (λ t. barred told t ≡ false) ts
    → StopsAt (Stops told) ts
stops_there told [] opens free = tt
stops_there told (t ∷ ts) opens free = (opener_stops told.0.1 t opens free, free)

free_at : (told : Told) (ts : List Lexeme) → ends_in_comma told.0.1 ≡ false → StopsAt (λ t. barred told t ≡ false) ts
free_at told [] e = tt
free_at told (t ∷ ts) e = ap (λ b. b && is_metadata t) e

-- ---- from turns to items

-- what is dropped before items
drop_first : (drafts : List Draft) (us vs : List Lexeme) → dropped_item us → SpellsItems drafts vs
    → SpellsItems drafts (us ++ vs)
drop_first [] us vs dropped l = more us vs refl dropped l
drop_first (draft ∷ drafts) us vs dropped l = (
  us ++ l.0,
  l.1,
  ap (λ (vs : List Lexeme). us ++ vs) l.2 ∙ sym (append_assoc us l.0 l.1),
  more us l.0 refl dropped l.3,
  l.4,
)

-- what is barred isn't there
apart : (told : Told) (us vs : List Lexeme) → SpellsTold told us → StopsAt (Stops told) vs → EndsApart us vs
apart told us vs l stops before others t is starts kind =
    let stop : Stops told t = subst (λ (vs : List Lexeme). StopsAt (Stops told) vs) starts stops in
    let ends : ends_in_comma told.0.1 ≡ true = sym (item_last told us l) ∙ a_comma_last us before is in
    let bars : barred told t ≡ true = rw (ends, ap is_metadata_kind kind) refl in
    let both = sym bars ∙ stop.1 in
    cc

add_item : (told : Told) (us vs : List Lexeme) (drafts : List Draft) → SpellsTold told us → StopsAt (Stops told) vs
    → SpellsItems drafts vs → SpellsItems (with_draft told.0.0 told.1 drafts) (us ++ vs)
add_item told us vs drafts l stops others = by told.0.0 refl (item_there told us l)
  where
    by : (item : Option Item) → told.0.0 ≡ item → SpellsIfAny item told.1 us
        → SpellsItems (with_draft item told.1 drafts) (us ++ vs)
    by None is l = drop_first drafts us vs l.1 others
    by (Some item) is spelled =
        ([], us ++ vs, refl, none, (us, vs, refl, spelled, others, apart told us vs l stops))

pub items_there : (items : List Told) (ts : List Lexeme) → Turns items ts → SpellsItems (drafts_of items) ts
items_there [] ts l = subst (λ (ts : List Lexeme). Many dropped_item ts) (sym l) none
items_there (told ∷ items) ts l =
    subst (λ (ts : List Lexeme). SpellsItems (drafts_of (told ∷ items)) ts) (sym l.2)
    (add_item told l.0 l.1 (drafts_of items) l.3 l.4 (items_there items l.1 l.5))

-- ---- and back

abbrev pub InTurns : List Draft → Language
InTurns drafts ts = (items : List Told) × (drafts ≡ drafts_of items) × Turns items ts

-- what is dropped ends in no comma
dropped_first : (drafts : List Draft) (us vs : List Lexeme) → dropped_item us → InTurns drafts vs
    → InTurns drafts (us ++ vs)
dropped_first drafts us vs dropped l =
    let ended = item_back None [] us (refl, dropped) in
    let told : Told = ((None, ended.0), []) in (
      told ∷ l.0,
      l.1,
      (
        us,
        vs,
        refl,
        ended.1,
        stops_there told vs (turns_open l.0 vs l.2)
            (free_at told vs (sym (item_last told us ended.1) ∙ closes us dropped)),
        l.2,
      ),
    )
  where
    closes : (us : List Lexeme) → dropped_item us → comma_last us ≡ false
    closes us (inl l) = metadata_item_closes us l
    closes us (inr l) = dropped_closes us l

all_dropped_first : (drafts : List Draft) (us vs : List Lexeme) → Many dropped_item us → InTurns drafts vs
    → InTurns drafts (us ++ vs)
all_dropped_first drafts us vs none l = l
all_dropped_first drafts us vs (more front others parts first rest) l =
    subst (λ (ts : List Lexeme). InTurns drafts ts)
    (sym (ap (λ (us : List Lexeme). us ++ vs) parts ∙ append_assoc front others vs))
    (dropped_first drafts front (others ++ vs) first (all_dropped_first drafts others vs rest l))

draft_first : (draft : Draft) (drafts : List Draft) (own behind : List Lexeme)
    → SpellsDraft draft.item draft.mentions own → EndsApart own behind → InTurns drafts behind
    → InTurns (draft ∷ drafts) (own ++ behind)
draft_first draft drafts own behind spelled ends l =
    let ended = item_back (Some draft.item) draft.mentions own spelled in
    let told : Told = ((Some draft.item, ended.0), draft.mentions) in (
      told ∷ l.0,
      ap (λ (drafts : List Draft). draft ∷ drafts) l.1,
      (
        own,
        behind,
        refl,
        ended.1,
        stops_there told behind (turns_open l.0 behind l.2) (free told ended.1 behind ends),
        l.2,
      ),
    )
  where
    is_kind : (t : Lexeme) → is_metadata t ≡ true → t.kind ≡ Metadata
    is_kind t e = by t.kind e
      where
        by : (kind : TokenKind) → is_metadata_kind kind ≡ true → kind ≡ Metadata
        by Metadata e = refl
        by _ e = absurd cc

    free_of : (told : Told) → SpellsTold told own → (t : Lexeme) (others : List Lexeme) → EndsApart own (t ∷ others)
        → (a b : Bool) → ends_in_comma told.0.1 ≡ a → is_metadata t ≡ b → (a && b) ≡ false
    free_of told l t others ends false b e is = refl
    free_of told l t others ends true false e is = refl
    free_of told l t others ends true true e is =
        let comma = comma_there own (item_last told own l ∙ e) in
        absurd (ends comma.0 others t comma.1 refl (is_kind t is))

    free : (told : Told) → SpellsTold told own → (behind : List Lexeme) → EndsApart own behind
        → StopsAt (λ t. barred told t ≡ false) behind
    free told l [] ends = tt
    free told l (t ∷ others) ends = free_of told l t others ends (ends_in_comma told.0.1) (is_metadata t) refl refl

pub items_back : (drafts : List Draft) (ts : List Lexeme) → SpellsItems drafts ts → InTurns drafts ts
items_back [] ts l =
    subst (λ (ts : List Lexeme). InTurns [] ts) (append-nil ts) (all_dropped_first [] ts [] l ([], refl, refl))
items_back (draft ∷ drafts) ts l =
    let own = l.4 in
    subst (λ (ts : List Lexeme). InTurns (draft ∷ drafts) ts) (sym l.2)
    (all_dropped_first (draft ∷ drafts) l.0 l.1 l.3
    (subst (λ (ts : List Lexeme). InTurns (draft ∷ drafts) ts) (sym own.2)
    (draft_first draft drafts own.0 own.1 own.3 own.5 (items_back drafts own.1 own.4))))
