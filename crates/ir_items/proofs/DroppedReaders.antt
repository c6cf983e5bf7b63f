-- Items of metadata are read.
use Rattle.std.proofs.Common.{◌≡◌, ℕ, suc, true, false, ◌&&◌, List, [], ◌∷◌, ◌++◌, length, Err, inl, inr, refl, sym, ap, subst, ◌∙◌, codes}
use Rattle.std.specs.Str.{bytes_eq}
use Rattle.ir_text.specs.declared.token.TokenKind.TheVariants.{Metadata}
use Rattle.ir_text.specs.Tokens.{Lexeme}
use Rattle.ir_text.specs.Language.{Language, ◌·◌, ◌or◌, optional, keyword}
use Rattle.ir_text.specs.PassedOn.{IsBang, IsMetadataWord, in_braces, in_parentheses, metadata_node}
use Rattle.ir_parts.specs.Reading.{begins, is_word_kind, is_keyword}
use Rattle.ir_parts.proofs.Readers.{IsReader, Anything, of_language, chosen}
use Rattle.ir_parts.proofs.Combined.{behind_token, not_at_first}
use Rattle.ir_parts.proofs.SingleTokens.{keyword_reads, sign_reads, is_itself}
use Rattle.ir_parts.proofs.MetadataReaders.{kind_reads, node_reads, starts_otherwise}
use Rattle.ir_items.specs.DroppedReading.{metadata_item, distinct_node_at, any_node_at, node_set_at, metadata_item_at}

-- the node behind `distinct`
abbrev distinct_node : Language
distinct_node = keyword (codes "distinct") · metadata_node

distinct_reads : IsReader distinct_node_at (λ (x : Unit {0}). distinct_node) Anything
unfolding distinct_node_at
distinct_reads = behind_token (keyword_reads (codes "distinct")) node_reads

-- metadata is no word
no_word : (text : List ℕ) (t : Lexeme) → t.kind ≡ Metadata → is_keyword text t ≡ false
no_word text t kind = ap (λ kind. is_word_kind kind && bytes_eq t.text text) kind

node_no_word : (text : List ℕ) (taken rest : List Lexeme) → metadata_node taken
    → begins (is_keyword text) (taken ++ rest) ≡ false
node_no_word text taken rest (inl l) =
    starts_otherwise (is_keyword text) IsBang in_braces (λ t is. no_word text t is.0) taken rest l
node_no_word text taken rest (inr l) =
    starts_otherwise (is_keyword text) IsMetadataWord in_parentheses (λ t is. no_word text t is.0) taken rest l

distinct_begun : (t : Lexeme) (ts : List Lexeme) → is_keyword (codes "distinct") t ≡ true
    → distinct_node_at (t ∷ ts) ≡ Err (suc (length ts)) → ⊥
unfolding distinct_node_at
distinct_begun t ts passed e = not_at_first (is_keyword (codes "distinct")) node_reads t ts passed e

-- the two cases are the node behind an optional word
node_there : (ts : List Lexeme) → (distinct_node or metadata_node) ts
    → (optional (keyword (codes "distinct")) · metadata_node) ts
node_there ts (inl l) = (l.0, l.1, l.2, inl l.3, l.4)
node_there ts (inr l) = ([], ts, refl, inr refl, l)

node_back : (ts : List Lexeme) → (optional (keyword (codes "distinct")) · metadata_node) ts
    → (distinct_node or metadata_node) ts
node_back ts (us, vs, parts, inl first, l) = inl (us, vs, parts, first, l)
node_back ts (us, vs, parts, inr none, l) =
    inr (subst metadata_node (sym (parts ∙ ap (λ (us : List Lexeme). us ++ vs) none)) l)

any_node_reads : IsReader any_node_at (λ (x : Unit {0}). optional (keyword (codes "distinct")) · metadata_node) Anything
unfolding any_node_at
any_node_reads =
    of_language (λ (x : Unit {0}). optional (keyword (codes "distinct")) · metadata_node)
    (λ x ts l. node_there ts l) (λ x ts l. node_back ts l)
    (chosen (is_keyword (codes "distinct")) distinct_reads node_reads
    (λ x ts l. rw (l.2, l.3) (is_itself (codes "distinct")))
    (λ x taken rest l stops. node_no_word (codes "distinct") taken rest l)
    distinct_begun)

-- Items of metadata are read, and nothing continues one.
pub metadata_item_reads : IsReader metadata_item_at (λ (x : Unit {0}). metadata_item) Anything
unfolding metadata_item_at node_set_at
metadata_item_reads = behind_token kind_reads (behind_token (sign_reads 61) any_node_reads)
