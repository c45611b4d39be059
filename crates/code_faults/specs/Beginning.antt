-- How far bytes are a proper prefix of a code.
use Rattle.std.specs.Prelude.{◌≡◌, ℕ, ◌<◌, ◌≤◌, Bool, false, List, [], ◌∷◌, ◌++◌, ⊤, length, map as each, true, ◌⊎◌}
use Rattle.calculus.specs.Tree.{Label, Tree, Trees, none}
use Rattle.calculus.specs.Kinds.{origin_number}
use Rattle.calculus.specs.declared.plain.Origin.{Origin}
use Rattle.calculus.specs.Size.{height, heights}
use Rattle.calculus.specs.Bytes.{be32, joined}
use Rattle.calculus.specs.Shape.{count, leaf}
use Rattle.calculus.specs.Order.{up_to, IsAscending}
use Rattle.calculus.specs.Code.{code, codes, text}
use Rattle.calculus.specs.Variables.{Sense, bound, bound_all}
use Rattle.calculus.specs.Form.{Sort, Scope, Fits, Hold, all, IsPlain, IsBytes, IsDigest, HasVariable}
use Rattle.code_faults.specs.declared.fault.ReadFault.{ReadFault}
use Rattle.code_faults.specs.declared.fault.ReadFault.TheVariants as fault
use Rattle.code_faults.specs.declared.sort.TextKind.{TextKind}
use Rattle.code_faults.specs.Texts.{HasForm}
use Rattle.code_faults.specs.Refusing.{IsGround}

-- a fault that tells of a place
abbrev pub HasPlace : ReadFault → Type 0
HasPlace (fault.Short at) = ⊤
HasPlace (fault.NotCanonical at) = ⊤
HasPlace (fault.TooDeep at) = ⊤
HasPlace (fault.Unnamed at) = ⊤
HasPlace fault.NoMemory = ⊥

-- the place of a fault in so many bytes is where these are left
abbrev pub IsAt : ReadFault → List ℕ → Type 0
IsAt (fault.Short at) after = after ≡ []
IsAt (fault.NotCanonical at) after = at ≡ length after
IsAt (fault.TooDeep at) after = at ≡ length after
IsAt (fault.Unnamed at) after = at ≡ length after
IsAt fault.NoMemory after = ⊤

-- up to the place of a fault bytes are as said; what is left from there on is said of them
pub record Goes (e : ReadFault) (IsBegun : List ℕ → Type 0) : Type 0 where
  pub after : List ℕ
  pub place : IsAt e after
  pub begun : IsBegun after

-- up to these that are left, bytes are a proper prefix of a list
pub record Cuts (bs c after : List ℕ) : Type 0 where
  pub before : List ℕ
  pub is : before ++ after ≡ bs
  pub more : List ℕ
  pub goes : before ++ more ≡ c
  pub some : 0 < length more

-- bytes are a proper prefix of these, or whatever goes on with them is no less
abbrev pub Follows : List ℕ → List ℕ → Type 0
Follows last bs = Cuts bs last [] ⊎ ((x : List ℕ) → up_to last (bs ++ x) ≡ true)

-- up to these that are left, bytes are a proper prefix of the code of a tree of this sort in this scope, of at most this height, which binds no variable where it may not
pub record Begun (binds : Bool) (s : Sort) (v : Scope) (room : ℕ) (bs after : List ℕ) : Type 0 where
  pub tree : Tree
  pub fits : Fits s v tree
  pub low : height tree ≤ room
  pub free : binds ≡ false → bound tree ≡ []
  pub cut : Cuts bs (code tree) after

-- of the number, from `least` to `most`, and the codes of such trees
pub record BegunRow (binds : Bool) (s : Sort) (v : Scope) (room least most : ℕ) (bs after : List ℕ) : Type 0 where
  pub trees : Trees
  pub fits : Hold (all s) v [] trees
  pub low : heights trees ≤ room
  pub free : binds ≡ false → bound_all trees ≡ []
  pub enough : least ≤ count trees
  pub few : count trees ≤ most
  pub cut : Cuts bs (be32 (count trees) ++ joined (codes trees)) after

-- of the number and the ascending codes of such trees
pub record BegunBag (s : Sort) (v : Scope) (room : ℕ) (bs after : List ℕ) : Type 0 where
  pub trees : Trees
  pub fits : Hold (all s) v [] trees
  pub low : heights trees ≤ room
  pub up : IsAscending (codes trees)
  pub cut : Cuts bs (be32 (count trees) ++ joined (codes trees)) after

-- of the four bytes of a number from `least` to `most`
pub record BegunNumber (least most : ℕ) (bs after : List ℕ) : Type 0 where
  pub number : ℕ
  pub enough : least ≤ number
  pub few : number ≤ most
  pub cut : Cuts bs (be32 number) after

-- of the code of a leaf that is a plain value
pub record BegunGround (bs after : List ℕ) : Type 0 where
  pub label : Label
  pub ground : IsGround label
  pub plain : (s : Sort) (v : Scope) → IsPlain s v label none
  pub cut : Cuts bs (code (leaf label)) after

-- of a text of this kind after its length
pub record BegunText (kind : TextKind) (bs after : List ℕ) : Type 0 where
  pub content : List ℕ
  pub form : HasForm kind content
  pub bytes : IsBytes content
  pub cut : Cuts bs (text content) after

-- of bytes after their length
pub record BegunBytes (bs after : List ℕ) : Type 0 where
  pub content : List ℕ
  pub bytes : IsBytes content
  pub cut : Cuts bs (text content) after

-- of a number from 1 on and as many bytes of origins
pub record BegunOrigins (bs after : List ℕ) : Type 0 where
  pub origins : List Origin
  pub some : 1 ≤ length origins
  pub cut : Cuts bs (be32 (length origins) ++ each origin_number origins) after

-- of the index of a variable of this sense
pub record BegunIndex (v : Scope) (sense : Sense) (bs after : List ℕ) : Type 0 where
  pub index : ℕ
  pub has : HasVariable v index sense
  pub cut : Cuts bs (be32 index) after

-- of a digest
pub record BegunDigest (bs after : List ℕ) : Type 0 where
  pub digest : List ℕ
  pub form : IsDigest digest
  pub cut : Cuts bs digest after

-- some variable of this sense is in scope
pub record IsInScope (v : Scope) (sense : Sense) : Type 0 where
  pub index : ℕ
  pub has : HasVariable v index sense

-- of the index of a variable of this sense; or not even its tag is right
abbrev pub BegunVariable : Scope → Sense → ℕ → List ℕ → List ℕ → Type 0
BegunVariable v sense tag bs after = (after ≡ tag ∷ bs) ⊎ BegunIndex v sense bs after
