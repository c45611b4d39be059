-- What bytes are not, where a reader refuses them.
use Rattle.std.specs.Prelude.{◌≡◌, ℕ, ◌<◌, ◌≤◌, ◌+◌, ◌^◌, Bool, true, false, List, [], ◌∷◌, ◌++◌, ⊤, length, map as each}
use Rattle.calculus.specs.Tree.{Label, bool, int, str, uri, bytes, Tree, Trees, none}
use Rattle.calculus.specs.Kinds.{origin_number, rest_number}
use Rattle.calculus.specs.declared.plain.TermRest.{TermRest}
use Rattle.calculus.specs.declared.plain.TermRest.TheVariants as rests
use Rattle.calculus.specs.declared.plain.Origin.{Origin}
use Rattle.calculus.specs.Size.{height, heights}
use Rattle.calculus.specs.Bytes.{be32, joined}
use Rattle.calculus.specs.Shape.{count, leaf}
use Rattle.calculus.specs.Order.{sorted}
use Rattle.calculus.specs.Code.{code, codes}
use Rattle.calculus.specs.CodeLaws.{IsShort}
use Rattle.calculus.specs.Variables.{bound, bound_all}
use Rattle.calculus.specs.Form.{Sort, part, Scope, Fits, IsPlain, Hold, all}
use Rattle.code_faults.specs.declared.fault.ReadFault.{ReadFault}
use Rattle.code_faults.specs.declared.fault.ReadFault.TheVariants as fault

-- a plain value
abbrev pub IsGround : Label → Type 0
IsGround (bool x) = ⊤
IsGround (int x) = ⊤
IsGround (str x) = ⊤
IsGround (uri x) = ⊤
IsGround (bytes x) = ⊤
IsGround _ = ⊥

-- what may stand after bytes that are refused so
abbrev pub MayFollow : ReadFault → List ℕ → Type 0
MayFollow (fault.Short at) x = x ≡ []
MayFollow (fault.NotCanonical at) x = ⊤
MayFollow (fault.TooDeep at) x = ⊤
MayFollow (fault.Unnamed at) x = ⊤
MayFollow fault.NoMemory x = ⊥

-- refused bytes, with what may follow them, do not begin with this code
pub record Denies (e : ReadFault) (bs c : List ℕ) : Type 0 where
  pub no : (x y : List ℕ) → MayFollow e x → bs ++ x ≡ c ++ y → ⊥

-- a tree of this sort in this scope, of at most this height, with a short code, which binds no variable where it may not
pub record IsRight (binds : Bool) (s : Sort) (v : Scope) (room : ℕ) (t : Tree) : Type 0 where
  pub fits : Fits s v t
  pub low : height t ≤ room
  pub short : IsShort t
  pub free : binds ≡ false → bound t ≡ []

-- the same for each of these
pub record AreRight (binds : Bool) (s : Sort) (v : Scope) (room : ℕ) (ts : Trees) : Type 0 where
  pub fits : Hold (all s) v [] ts
  pub low : heights ts ≤ room
  pub short : length (joined (codes ts)) < 2 ^ 32
  pub free : binds ≡ false → bound_all ts ≡ []

-- bytes and a scope so small that four bytes have room for each number in them
pub record HasRoom (v : Scope) (bs : List ℕ) : Type 0 where
  pub few : length v + length bs < 2 ^ 32

-- refused bytes do not begin with the code of such a tree
pub record Refuses (binds : Bool) (s : Sort) (v : Scope) (room : ℕ) (e : ReadFault) (bs : List ℕ) : Type 0 where
  pub no : HasRoom v bs → (t : Tree) → IsRight binds s v room t → Denies e bs (code t)

-- nor with the number, from `least` to `most`, and the codes of such trees
pub record RefusesRow (binds : Bool) (s : Sort) (v : Scope) (room least most : ℕ) (e : ReadFault) (bs : List ℕ) : Type 0 where
  pub no : HasRoom v bs → (ts : Trees) → AreRight binds s v room ts → least ≤ count ts → count ts ≤ most → Denies e bs (be32 (count ts) ++ joined (codes ts))

-- nor with the number and the ascending codes of such trees
pub record RefusesBag (s : Sort) (v : Scope) (room : ℕ) (e : ReadFault) (bs : List ℕ) : Type 0 where
  pub no : HasRoom v bs → (ts : Trees) → AreRight true s v room ts → Denies e bs (be32 (count ts) ++ joined (sorted (codes ts)))

-- nor with a byte of at most this number
abbrev pub RefusesByte : ℕ → ReadFault → List ℕ → Type 0
RefusesByte most e bs = (b : ℕ) → b ≤ most → Denies e bs (b ∷ [])

-- nor with the four bytes of a number from `least` to `most`
pub record RefusesNumber (least most : ℕ) (e : ReadFault) (bs : List ℕ) : Type 0 where
  pub no : (n : ℕ) → least ≤ n → n ≤ most → n < 2 ^ 32 → Denies e bs (be32 n)

-- nor with the code of a leaf that is a plain value
pub record RefusesGround (e : ReadFault) (bs : List ℕ) : Type 0 where
  pub no : (l : Label) → IsGround l → IsPlain part [] l none → IsShort (leaf l) → Denies e bs (code (leaf l))

-- nor with a number from 1 on and as many bytes of origins
pub record RefusesOrigins (e : ReadFault) (bs : List ℕ) : Type 0 where
  pub no : (os : List Origin) → 1 ≤ length os → length os < 2 ^ 32 → Denies e bs (be32 (length os) ++ each origin_number os)

-- nor with a remainder, which is a variable only where one may be bound
pub record RefusesRest (binds : Bool) (e : ReadFault) (bs : List ℕ) : Type 0 where
  pub no : (q : TermRest) → (binds ≡ false → q ≡ rests.Var → ⊥) → Denies e bs (rest_number q ∷ [])
