-- Where a fault shows: how many of the tokens some text begins with, and of what height.
use Rattle.std.specs.Prelude.{◌≡◌, ℕ, ◌+◌, ◌<◌, ◌≤◌, ◌⊎◌, List, ◌++◌, length, take, get_or}
use Rattle.calculus.specs.Written.{Written}
use Rattle.tokens.specs.Token.{Notation, Token, fresh_name, end_of_text}
use Rattle.grammar.specs.declared.dialect.Dialect.{Dialect}
use Rattle.grammar.specs.Spells.{Spells}

-- some text begins with these tokens
abbrev pub Begins : Notation → Dialect → List Token → Type 0
Begins n d tokens = (after : List Token) × (p : Written) × (h : ℕ) × Spells n d (tokens ++ after) p h

-- some text of at most this height begins with these tokens
abbrev pub BeginsWithin : Notation → Dialect → ℕ → List Token → Type 0
BeginsWithin n d most tokens = (after : List Token) × (p : Written) × (h : ℕ) × (h ≤ most) × Spells n d (tokens ++ after) p h

-- each text that begins with these tokens has more than this height
abbrev pub BeginsBeyond : Notation → Dialect → ℕ → List Token → Type 0
BeginsBeyond n d most tokens = (after : List Token) (p : Written) (h : ℕ) → Spells n d (tokens ++ after) p h → most < h

-- no text begins with these tokens
abbrev pub BeginsNothing : Notation → Dialect → List Token → Type 0
BeginsNothing n d tokens = (after : List Token) (p : Written) (h : ℕ) → Spells n d (tokens ++ after) p h → ⊥

-- up to the token of this number, counted from 0, and with it, the tokens begin a text, but none of at most the height `free`
pub record IsBeyondAt (n : Notation) (d : Dialect) (free : ℕ) (tokens : List Token) (k : ℕ) : Type 0 where
  pub within : k < length tokens
  pub some : Begins n d (take (k + 1) tokens)
  pub none : BeginsBeyond n d free (take (k + 1) tokens)

-- and it is the first such token: without it, they begin a text of at most that height
pub record PassesAt (n : Notation) (d : Dialect) (free : ℕ) (tokens : List Token) (k : ℕ) : Type 0 where
  pub at : IsBeyondAt n d free tokens k
  pub first : BeginsWithin n d free (take k tokens)

-- the token before the one of this number is a fresh name, and the first up to which, and with it, the tokens begin no text of at most the height `free`
pub record PassesAtName (n : Notation) (d : Dialect) (free : ℕ) (tokens : List Token) (k : ℕ) : Type 0 where
  pub number : ℕ
  pub is : k ≡ number + 1
  pub digits : List ℕ
  pub name : get_or tokens number end_of_text ≡ fresh_name digits
  pub passes : PassesAt n d free tokens number

-- the tokens before the one of this number begin a text of at most the height `free`, or a fresh name stands last among them, and only with it they begin none
abbrev pub StartsWithin : Notation → Dialect → ℕ → List Token → ℕ → Type 0
StartsWithin n d free tokens k = BeginsWithin n d free (take k tokens) ⊎ PassesAtName n d free tokens k

-- up to the token of this number the tokens begin a text of at most the height `free`, but with it, if there is one, no text
pub record EndsAt (n : Notation) (d : Dialect) (free : ℕ) (tokens : List Token) (k : ℕ) : Type 0 where
  pub within : k ≤ length tokens
  pub first : BeginsWithin n d free (take k tokens)
  pub none : k < length tokens → BeginsNothing n d (take (k + 1) tokens)
