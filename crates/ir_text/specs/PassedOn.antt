-- Words that are passed on unread, and what else is taken without a look inside.
use Rattle.std.specs.Prelude.{◌≡◌, ℕ, Bool, true, false, nat_eq, ◌||◌, ◌&&◌, ◌==◌, if◌then◌else◌, List, [], ◌∷◌, ◌++◌, IsTrue, ◌⊎◌, codes}
use Rattle.std.specs.List.{list_any, starts_with}
use Rattle.std.specs.Str.{bytes_eq}
use Rattle.ir_text.specs.declared.token.TokenKind.{TokenKind}
use Rattle.ir_text.specs.declared.token.TokenKind.TheVariants.{Word, Numeral, Metadata, Group, Quoted, Sign}
use Rattle.ir_text.specs.Names.{is_word, is_signed_number}
use Rattle.ir_text.specs.Tokens.{Lexeme}
use Rattle.ir_text.specs.Listed.{word, sign, InSequence}
use Rattle.ir_text.specs.Language.{Language, ◌·◌, ◌or◌, one, token, punctuation, comma, Many}
use Rattle.ir_text.specs.Written.{IsStringToken}
use Rattle.ir_text.specs.Types.{IsIntText}

-- ---- words

-- what begins an item, an instruction, or the rest of a global
abbrev pub opening_words : List (List ℕ)
opening_words = codes "source_filename" ∷ codes "target" ∷ codes "attributes" ∷ codes "declare" ∷ codes "define"
    ∷ codes "global" ∷ codes "constant"
    ∷ codes "add" ∷ codes "sub" ∷ codes "mul" ∷ codes "shl" ∷ codes "udiv" ∷ codes "sdiv" ∷ codes "lshr" ∷ codes "ashr"
    ∷ codes "urem" ∷ codes "srem" ∷ codes "and" ∷ codes "xor" ∷ codes "or" ∷ codes "icmp" ∷ codes "zext" ∷ codes "sext"
    ∷ codes "trunc" ∷ codes "select" ∷ codes "phi" ∷ codes "freeze" ∷ codes "alloca" ∷ codes "load" ∷ codes "store"
    ∷ codes "tail" ∷ codes "notail" ∷ codes "call" ∷ codes "br" ∷ codes "switch" ∷ codes "ret" ∷ codes "unreachable"
    ∷ []

-- words of LLVM IR that are left out
abbrev pub left_out_words : List (List ℕ)
left_out_words = codes "half" ∷ codes "bfloat" ∷ codes "float" ∷ codes "double" ∷ codes "fp128" ∷ codes "x86_fp80"
    ∷ codes "ppc_fp128" ∷ codes "fadd" ∷ codes "fsub" ∷ codes "fmul" ∷ codes "fdiv" ∷ codes "frem" ∷ codes "fneg"
    ∷ codes "fcmp" ∷ codes "fptrunc" ∷ codes "fpext" ∷ codes "fptoui" ∷ codes "fptosi" ∷ codes "uitofp" ∷ codes "sitofp"
    ∷ codes "ptrtoint" ∷ codes "inttoptr" ∷ codes "bitcast" ∷ codes "addrspacecast" ∷ codes "addrspace"
    ∷ codes "extractvalue" ∷ codes "insertvalue" ∷ codes "extractelement" ∷ codes "insertelement"
    ∷ codes "shufflevector"
    ∷ codes "atomic" ∷ codes "volatile" ∷ codes "atomicrmw" ∷ codes "cmpxchg" ∷ codes "fence"
    ∷ codes "invoke" ∷ codes "resume" ∷ codes "landingpad" ∷ codes "cleanupret" ∷ codes "catchret" ∷ codes "catchswitch"
    ∷ codes "personality" ∷ codes "callbr" ∷ codes "indirectbr" ∷ codes "musttail" ∷ codes "va_arg" ∷ codes "asm"
    ∷ codes "module" ∷ codes "comdat" ∷ codes "alias" ∷ codes "ifunc" ∷ codes "type" ∷ codes "blockaddress"
    ∷ codes "getelementptr" ∷ []

-- whether a text is one of these
abbrev pub is_among : List (List ℕ) → List ℕ → Bool
is_among texts text = list_any (λ each. bytes_eq each text) texts

-- A word that is no type, isn't left out, and begins nothing else.
pub record IsPassedWord (text : List ℕ) : Type 0 where
  pub no_opening : is_among opening_words text ≡ false
  pub not_left_out : is_among left_out_words text ≡ false
  pub no_pointer : text ≡ codes "ptr" → ⊥
  pub no_void : text ≡ codes "void" → ⊥
  pub no_integer : (width : ℕ) → IsIntText width text → ⊥

-- ---- brackets

-- the bracket that closes another
abbrev pub Closes : ℕ → ℕ → Type 0
Closes opening closing = ((opening ≡ 40) × (closing ≡ 41)) ⊎ ((opening ≡ 91) × (closing ≡ 93))
    ⊎ ((opening ≡ 123) × (closing ≡ 125))

abbrev pub is_bracket : TokenKind → Bool
is_bracket (Sign b) = (b == 40) || (b == 41) || (b == 91) || (b == 93) || (b == 123) || (b == 125)
is_bracket _ = false

-- Tokens whose brackets `()`, `[]` and `{}` match.
pub data IsBalanced : List Lexeme → Type 0 where
  none : IsBalanced []
  plain : {t : Lexeme} {ts : List Lexeme} → is_bracket t.kind ≡ false → IsBalanced ts → IsBalanced (t ∷ ts)
  nested : {ts : List Lexeme} (opening closing : ℕ) (inner rest : List Lexeme) → ts ≡ sign opening
      ∷ (inner ++ sign closing ∷ rest)
      → Closes opening closing → IsBalanced inner → IsBalanced rest → IsBalanced ts

-- such tokens within `( )`, and within `{ }`
abbrev pub in_parentheses : Language
in_parentheses = punctuation 40 · IsBalanced · punctuation 41

abbrev pub in_braces : Language
in_braces = punctuation 123 · IsBalanced · punctuation 125

-- ---- runs of passed-on words

abbrev pub passed_word : Language
passed_word = one (λ t. (t.kind ≡ Word) × IsPassedWord t.text)

-- a group of attributes, `#` and a number
abbrev pub IsAttributeGroup : Lexeme → Type 0
IsAttributeGroup t = (t.kind ≡ Group) × (number : List ℕ) × (t.text ≡ 35 ∷ number) × IsTrue (is_signed_number number)

-- One piece of a run: a word, maybe with brackets behind it; `align` or `cc` with a numeral; a string, or two with a
-- `=` between them; a group.
abbrev pub IsPiece : Language
IsPiece = passed_word
    or (passed_word · in_parentheses)
    or ((token (word (codes "align")) or token (word (codes "cc"))) · one (λ t. t.kind ≡ Numeral))
    or one IsStringToken
    or (one IsStringToken · punctuation 61 · one IsStringToken)
    or one IsAttributeGroup

-- The tokens are these pieces, one after another.
abbrev pub ArePieces : List (List Lexeme) → Language
ArePieces = InSequence (λ piece ts. (ts ≡ piece) × IsPiece piece)

-- a run of passed-on words
abbrev pub IsPassedOn : Language
IsPassedOn ts = (pieces : List (List Lexeme)) × ArePieces pieces ts

-- whether one of the pieces begins with `external` or `extern_weak`
abbrev pub begins_external : List Lexeme → Bool
begins_external [] = false
begins_external (t ∷ ts) = is_among (codes "external" ∷ codes "extern_weak" ∷ []) t.text

abbrev pub is_external : List (List Lexeme) → Bool
is_external pieces = list_any begins_external pieces

-- ---- the text of what is passed on

-- a string, which begins with its quote
abbrev pub is_quoted : TokenKind → Bool
is_quoted Quoted = true
is_quoted _ = false

abbrev pub is_string : Lexeme → Bool
is_string t = is_quoted t.kind && starts_with nat_eq t.text (34 ∷ [])

abbrev pub is_sign_kind : ℕ → TokenKind → Bool
is_sign_kind c (Sign b) = b == c
is_sign_kind c _ = false

abbrev pub is_sign_token : ℕ → Lexeme → Bool
is_sign_token c t = is_sign_kind c t.kind

abbrev pub is_string_next : List Lexeme → Bool
is_string_next [] = false
is_string_next (t ∷ ts) = is_string t

-- Whether two tokens stand close: before `,` and `)`, behind `(`, and on both sides of a `=` that stands between two
-- strings. `before` says whether a string stands before the first, `behind` what stands behind the second.
abbrev pub stand_close : Bool → Lexeme → Lexeme → List Lexeme → Bool
stand_close before t u behind = is_sign_token 44 u || is_sign_token 41 u || is_sign_token 40 t
    || (is_string t && is_sign_token 61 u && is_string_next behind) || (before && is_sign_token 61 t && is_string u)

-- the tokens with a space between those that don't stand close
unfoldable pub spaced : Bool → List Lexeme → List ℕ
spaced before [] = []
spaced before (t ∷ []) = t.text
spaced before (t ∷ u ∷ us) = t.text ++ ((if stand_close before t u us then [] else 32 ∷ [])
    ++ spaced (is_string t) (u ∷ us))

-- the text that tokens are passed on as
abbrev pub passed_text : List Lexeme → List ℕ
passed_text ts = spaced false ts

-- A run of passed-on words with this text.
abbrev pub SpellsWords : List ℕ → Language
SpellsWords text ts = IsPassedOn ts × (text ≡ passed_text ts)

-- ---- metadata

-- `!` with a word behind it, with a number, and alone
abbrev pub IsMetadataWord : Lexeme → Type 0
IsMetadataWord t = (t.kind ≡ Metadata) × (name : List ℕ) × (t.text ≡ 33 ∷ name) × IsTrue (is_word name)

abbrev pub IsMetadataNumber : Lexeme → Type 0
IsMetadataNumber t = (t.kind ≡ Metadata) × (number : List ℕ) × (t.text ≡ 33 ∷ number) × IsTrue (is_signed_number number)

abbrev pub IsBang : Lexeme → Type 0
IsBang t = (t.kind ≡ Metadata) × (t.text ≡ 33 ∷ [])

-- `!{ .. }` or `!word( .. )`
abbrev pub metadata_node : Language
metadata_node = (one IsBang · in_braces) or (one IsMetadataWord · in_parentheses)

-- Attachments, which are dropped: each a comma, its kind, and a number or a node.
abbrev pub attachments : Language
attachments = Many (comma · one IsMetadataWord · (one IsMetadataNumber or metadata_node))

-- Pairs of metadata before the type of a declaration, and before the body of a definition.
abbrev pub metadata_pairs : Language
metadata_pairs = Many (one (λ t. t.kind ≡ Metadata) · one (λ t. t.kind ≡ Metadata))
