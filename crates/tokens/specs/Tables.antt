-- The keys and the signs.
use Rattle.std.specs.Prelude.{ℕ, Bool, List, [], ◌∷◌, codes}
use Rattle.std.specs.List.{list_any}
use Rattle.std.specs.Str.{bytes_eq}

-- the words that are keys, and two keys that end in a sign
unfoldable pub keys : List (List ℕ)
keys =
    codes "Nil" ∷ codes "new" ∷ codes "in" ∷ codes "for" ∷ codes "contract" ∷ codes "match" ∷ codes "if"
    ∷ codes "else" ∷ codes "true" ∷ codes "false" ∷ codes "not" ∷ codes "and" ∷ codes "or" ∷ codes "Set"
    ∷ codes "Bool" ∷ codes "Int" ∷ codes "String" ∷ codes "Uri" ∷ codes "ByteArray"
    ∷ codes "bundle" ∷ codes "bundle0" ∷ codes "bundle+" ∷ codes "bundle-" ∷ []

-- the signs
unfoldable pub signs : List (List ℕ)
signs =
    codes "..." ∷ codes "<<-" ∷ codes "!!" ∷ codes "!=" ∷ codes "<-" ∷ codes "<=" ∷ codes ">=" ∷ codes "=="
    ∷ codes "=>" ∷ codes "++" ∷ codes "--" ∷ codes "/\\" ∷ codes "\\/" ∷ codes "|" ∷ codes "!" ∷ codes "("
    ∷ codes ")" ∷ codes "{" ∷ codes "}" ∷ codes "[" ∷ codes "]" ∷ codes "," ∷ codes ";" ∷ codes "&"
    ∷ codes ":" ∷ codes "." ∷ codes "@" ∷ codes "*" ∷ codes "<" ∷ codes ">" ∷ codes "=" ∷ codes "+"
    ∷ codes "-" ∷ codes "/" ∷ codes "%" ∷ codes "~" ∷ codes "_" ∷ []

-- whether the bytes stand in a table
abbrev pub is_among : List (List ℕ) → List ℕ → Bool
is_among table bytes = list_any (λ row. bytes_eq row bytes) table
