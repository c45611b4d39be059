-- Terminals and tokens whose texts a process may hold.
use Rattle.std.specs.Prelude.{ℕ, List, [], ◌∷◌, Contains, ⊤, IsUtf8, IsTrue}
use Rattle.calculus.specs.Form.{IsBytes, IsDigest, is_word, keys}
use Rattle.tokens.specs.Token.{Token, end_of_text}
use Rattle.tokens.specs.Spelling.{HasForm}
use Rattle.grammar.specs.Terminals.{Holding, a_word, a_string, a_uri, a_fresh_name, a_byte_array, Terminal, text}

-- a text of this kind in range: a word is no key, strings and Uris are UTF-8 and a Uri has no back quote, a fresh name is a digest
abbrev pub IsSoundText : Holding → List ℕ → Type 0
IsSoundText a_word w = IsTrue (is_word w) × (Contains keys w → ⊥)
IsSoundText a_string s = IsUtf8 s × IsBytes s
IsSoundText a_uri u = IsUtf8 u × (IsBytes u × (Contains u 0x60 → ⊥))
IsSoundText a_fresh_name d = IsDigest d
IsSoundText a_byte_array s = IsBytes s

-- a terminal whose text, if it holds one, is in range
abbrev pub IsSound : Terminal → Type 0
IsSound (text k w) = IsSoundText k w
IsSound t = ⊤

-- each of these is one
abbrev pub AreSound : List Terminal → Type 0
AreSound [] = ⊤
AreSound (t ∷ ts) = IsSound t × AreSound ts

-- the content of a token is of its form; the end has none
abbrev pub IsFormed : Token → Type 0
IsFormed end_of_text = ⊤
IsFormed t = HasForm t

-- each of these is so
abbrev pub AreFormed : List Token → Type 0
AreFormed [] = ⊤
AreFormed (t ∷ ts) = IsFormed t × AreFormed ts
