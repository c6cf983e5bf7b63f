-- Reading items that are dropped.
use Rattle.std.specs.Prelude.{◌≡◌, codes}
use Rattle.ir_text.specs.declared.token.TokenKind.TheVariants.{Metadata}
use Rattle.ir_text.specs.Language.{Language, ◌·◌, optional, one, keyword, punctuation}
use Rattle.ir_text.specs.PassedOn.{metadata_node}
use Rattle.ir_parts.specs.Reading.{Read, ◌>>=◌, token_at, is_keyword, keyword_at, punctuation_at, choose}
use Rattle.ir_parts.specs.MetadataReading.{is_metadata, node_at}

-- a name of metadata, and the node that it stands for
abbrev pub metadata_item : Language
metadata_item = one (λ t. t.kind ≡ Metadata) · punctuation 61 · optional (keyword (codes "distinct")) · metadata_node

unfoldable pub distinct_node_at : Read (Unit {0})
distinct_node_at = do
  _ ← keyword_at (codes "distinct")
  node_at

unfoldable pub any_node_at : Read (Unit {0})
any_node_at = choose (is_keyword (codes "distinct")) distinct_node_at node_at

unfoldable pub node_set_at : Read (Unit {0})
node_set_at = do
  _ ← punctuation_at 61
  any_node_at

unfoldable pub metadata_item_at : Read (Unit {0})
metadata_item_at = do
  _ ← token_at is_metadata
  node_set_at
