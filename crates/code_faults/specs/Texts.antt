-- What texts in codes have to be.
use Rattle.std.specs.Prelude.{◌≡◌, ℕ, Bool, true, ◌&&◌, ◌||◌, eqb, List, [], ◌∷◌, ◌++◌, length, Contains, IsUtf8, IsTrue, ⊤, nat_lt, cond}
use Rattle.std.specs.List.{list_all}
use Rattle.calculus.specs.Form.{is_letter, goes_on_word, is_word, keys}
use Rattle.code_faults.specs.declared.sort.TextKind.{TextKind}
use Rattle.code_faults.specs.declared.sort.TextKind.TheVariants as kind

-- bytes are such a text
abbrev pub HasForm : TextKind → List ℕ → Type 0
HasForm kind.Str bs = IsUtf8 bs
HasForm kind.Uri bs = IsUtf8 bs × (Contains bs 0x60 → ⊥)
HasForm kind.Word bs = IsTrue (is_word bs) × (Contains keys bs → ⊥)

-- more bytes make these such a text, of this length
pub record BeginsText (kind : TextKind) (bs : List ℕ) (len : ℕ) : Type 0 where
  pub more : List ℕ
  pub form : HasForm kind (bs ++ more)
  pub long : length (bs ++ more) ≡ len

-- none of these is a back quote
abbrev pub IsClear : List ℕ → Type 0
IsClear [] = ⊤
IsClear (x ∷ xs) = (x ≡ 0x60 → ⊥) × IsClear xs

-- more bytes, none of them a back quote, make these UTF-8 of this length
pub record EndsClear (bs : List ℕ) (len : ℕ) : Type 0 where
  pub more : List ℕ
  pub whole : IsUtf8 (bs ++ more)
  pub clear : IsClear more
  pub long : length (bs ++ more) ≡ len

-- how many bytes the character has that these begin
abbrev pub character_len : List ℕ → ℕ
character_len [] = 0
character_len (x ∷ xs) = cond (nat_lt x 0x80) 1 (cond (nat_lt x 0xE0) 2 (cond (nat_lt x 0xF0) 3 4))

-- whether more bytes make these a word
abbrev pub begins_word : List ℕ → Bool
begins_word [] = true
begins_word (x ∷ xs) = (is_letter x || eqb x 0x5F) && list_all goes_on_word xs
