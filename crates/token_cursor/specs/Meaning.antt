-- What the parser's types mean.
use Rattle.std.specs.Prelude.{ℕ, ◌≡◌, Bool, true, false, not, ◌||◌, List, ◌⊎◌, map}
pub use Rattle.form_parts.specs.Forms.{left_written}
use Rattle.grammar.specs.declared.mark.Mark.{Mark}
use Rattle.grammar.specs.declared.mark.Mark.TheVariants as marks
use Rattle.grammar.specs.Terminals.{Terminal, a_string, a_uri, a_word, sees, terminal, terminals}
use Rattle.grammar.specs.Choice.{sees_text}
use Rattle.grammar.specs.Descent.{Stuck, Full}
use Rattle.grammar.specs.declared.fault.Fault.{Fault}
use Rattle.grammar.specs.declared.fault.Fault.TheVariants.{NoMemory}
use Rattle.tokens.specs.Token as tokens
use Rattle.rho_lexer.specs.Meaning.{kind_token}
use Rattle.rho_lexer.specs.declared.token.Token.{Token}
use Rattle.rho_lexer.specs.declared.token.TokenKind.{TokenKind}

-- the terminal that a kind of token is in a source
abbrev pub kind_terminal : TokenKind → Terminal
kind_terminal kind = terminal tokens.source (kind_token kind)

-- the tokens without their spans
abbrev pub plain_tokens : List Token → List tokens.Token
plain_tokens ts = map (λ t. kind_token t.kind) ts

-- their terminals
abbrev pub view : List Token → List Terminal
view ts = terminals tokens.source (plain_tokens ts)

-- whether the mark is a key
abbrev pub is_key : Mark → Bool
is_key marks.Nil = true
is_key marks.New = true
is_key marks.In = true
is_key marks.For = true
is_key marks.Contract = true
is_key marks.Match = true
is_key marks.If = true
is_key marks.Else = true
is_key marks.True = true
is_key marks.False = true
is_key marks.Not = true
is_key marks.And = true
is_key marks.Or = true
is_key marks.Set = true
is_key marks.Bool = true
is_key marks.Int = true
is_key marks.String = true
is_key marks.Uri = true
is_key marks.ByteArray = true
is_key marks.Bundle = true
is_key marks.BundleNeither = true
is_key marks.BundleWrite = true
is_key marks.BundleRead = true
is_key _ = false

-- whether the mark is a sign
abbrev pub is_sign : Mark → Bool
is_sign marks.End = false
is_sign m = not (is_key m)

-- what is wanted isn't next, and `us` is where that shows, or memory ran out
abbrev pub Missing : Bool → List Terminal → Fault → List Terminal → Type 0
Missing seen ts e us = Stuck seen ts e us ⊎ (e ≡ NoMemory)

-- what is wanted isn't next, or there is no room for the form that it opens
abbrev pub Refused : Bool → ℕ → ℕ → List Terminal → Fault → List Terminal → Type 0
Refused seen h free ts e us = Stuck seen ts e us ⊎ Full seen h free ts e us

-- a text of a source that begins an operand is next
abbrev pub sees_text_operand : List Terminal → Bool
sees_text_operand ts = sees_text a_word ts || (sees_text a_string ts || sees_text a_uri ts)

-- a key that begins an operand is next
abbrev pub sees_key_operand : List Terminal → Bool
sees_key_operand ts = (sees marks.True ts || sees marks.False ts) || ((sees marks.Nil ts || sees marks.Not ts) || sees marks.Set ts)

-- a sign that begins an operand is next
abbrev pub sees_sign_operand : List Terminal → Bool
sees_sign_operand ts = (sees marks.Minus ts || sees marks.Star ts) || (sees marks.Open ts || (sees marks.OpenBrace ts || sees marks.OpenSquare ts))

-- the greatest height of a source
abbrev pub most_height : ℕ
most_height = 200
