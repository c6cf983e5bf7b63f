-- A token in 12 bytes.
use Rattle.ir_text.specs.declared.token.Token.{Token}
use Rattle.ir_lex.specs.declared.packed.Packed.{Packed}

-- the token that was packed
abbrev pub unpacked : Packed → Token
unpacked p = record { kind = p.kind; from = p.from; to = p.to }
