-- Which place a reader blames in bytes that it refuses. Within a reader a place is told by how many bytes stand from there on.
use Rattle.std.specs.Prelude.{◌≡◌, ℕ, ◌<◌, ◌≤◌, ◌+◌, ◌-◌, ◌^◌, Bool, true, false, List, [], ◌∷◌, ◌++◌, ⊤, ◌⊎◌, length, map as each}
use Rattle.calculus.specs.Bytes.{be32}
use Rattle.calculus.specs.Kinds.{origin_number, rest_number}
use Rattle.calculus.specs.declared.plain.TermRest.{TermRest}
use Rattle.calculus.specs.declared.plain.TermRest.TheVariants as rests
use Rattle.calculus.specs.declared.plain.Origin.{Origin}
use Rattle.calculus.specs.Tree.{Label, Tree, Trees, none}
use Rattle.calculus.specs.Shape.{count, leaf, listed, label_of}
use Rattle.calculus.specs.Size.{rise}
use Rattle.calculus.specs.Code.{code}
use Rattle.calculus.specs.CodeLaws.{IsShort}
use Rattle.calculus.specs.Variables.{Sense}
use Rattle.calculus.specs.Form.{Sort, part, Scope, HasVariable, IsPlain, IsClosed}
use Rattle.code_faults.specs.declared.fault.ReadFault.{ReadFault}
use Rattle.code_faults.specs.declared.fault.ReadFault.TheVariants as fault
use Rattle.code_faults.specs.declared.sort.TextKind.{TextKind}
use Rattle.code_faults.specs.declared.sort.TextKind.TheVariants as kind
use Rattle.code_faults.specs.Texts.{HasForm}
use Rattle.code_faults.specs.Refusing.{IsGround, IsRight, AreRight, HasRoom}
use Rattle.code_faults.specs.Places.{another, slot_for, Item, field, name_length, spelling, standing, constituents, items, Stop, these, form, nameless, Breaks}

-- what holds of the place of a fault, where it tells one
abbrev pub AtPlace : ReadFault → (ℕ → Type 0) → Type 0
AtPlace (fault.Short at) P = ⊤
AtPlace (fault.NotCanonical at) P = P at
AtPlace (fault.TooDeep at) P = P at
AtPlace (fault.Unnamed at) P = P at
AtPlace fault.NoMemory P = ⊤

-- a fault that tells this place, if one, and not that a part is too deep
abbrev pub IsShallow : ReadFault → ℕ → Type 0
IsShallow (fault.Short at) n = ⊤
IsShallow (fault.NotCanonical at) n = at ≡ n
IsShallow (fault.TooDeep at) n = ⊥
IsShallow (fault.Unnamed at) n = ⊥
IsShallow fault.NoMemory n = ⊤

-- a fault that tells no place
abbrev pub TellsNone : ReadFault → Type 0
TellsNone e = AtPlace e (λ at. ⊥)

-- a reader stops so behind `before` in each code made of these that agrees with it up to there
pub record Blames (stop : Stop) (room : ℕ) (before : List ℕ) (is : List Item) : Type 0 where
  pub wrong : (x y : List ℕ) → before ++ x ≡ spelling is ++ y → Breaks stop room is before

-- it stops so in a tree, whose form has room
pub record StopsIn (stop : Stop) (room : ℕ) (before : List ℕ) (t : Tree) : Type 0 where
  pub fits : 0 < length before → rise (label_of t) ≤ room
  pub breaks : Breaks stop (room - rise (label_of t)) (items t) before

-- it does so wherever the code of the tree agrees with the bytes up to there
pub record BlamesIn (stop : Stop) (room : ℕ) (before : List ℕ) (t : Tree) : Type 0 where
  pub wrong : (x y : List ℕ) → before ++ x ≡ spelling (items t) ++ y → StopsIn stop room before t

-- the place parts the bytes into some before it and some after it, for which this holds
pub record Parts (P : List ℕ → List ℕ → Type 0) (at : ℕ) (bs : List ℕ) : Type 0 where
  pub before : List ℕ
  pub after : List ℕ
  pub are : bs ≡ before ++ after
  pub place : at ≡ length after
  pub blames : P after before

-- what holds of what stops a reader at the place that a fault tells, and of the bytes before it
abbrev pub Told : (Stop → List ℕ → Type 0) → ReadFault → List ℕ → Type 0
Told P (fault.Short at) bs = ⊤
Told P (fault.NotCanonical at) bs = Parts (λ after before. P (these after) before) at bs
Told P (fault.TooDeep at) bs = Parts (λ after before. P (form after) before) at bs
Told P (fault.Unnamed at) bs = (4 ≤ at) × Parts (λ after before. P (nameless after) before) at bs
Told P fault.NoMemory bs = ⊤

pub record Wrong (P : Stop → List ℕ → Type 0) (e : ReadFault) (bs : List ℕ) : Type 0 where
  pub holds : Told P e bs

-- it stops so in the code of each tree of this sort in this scope, of any height, which binds no variable where it may not
pub record InTree (binds : Bool) (s : Sort) (v : Scope) (room : ℕ) (stop : Stop) (before : List ℕ) : Type 0 where
  pub no : HasRoom v before → (high : ℕ) → (t : Tree) → IsRight binds s v high t → BlamesIn stop room before t

-- in the number, from `least` to `most`, and the codes of such trees
pub record InRow (binds : Bool) (s : Sort) (v : Scope) (room least most : ℕ) (stop : Stop) (before : List ℕ) : Type 0 where
  pub no : HasRoom v before → (high : ℕ) → (ts : Trees) → AreRight binds s v high ts → least ≤ count ts → count ts ≤ most → Blames stop room before (field (be32 (count ts)) ∷ constituents another false [] (listed ts))

-- in the number and the ascending codes of such trees
pub record InBag (s : Sort) (v : Scope) (room : ℕ) (stop : Stop) (before : List ℕ) : Type 0 where
  pub no : HasRoom v before → (high : ℕ) → (ts : Trees) → AreRight true s v high ts → Blames stop room before (field (be32 (count ts)) ∷ constituents (slot_for s) true [] (standing true ts))

-- in a byte of at most this number
abbrev pub InByte : ℕ → Stop → List ℕ → Type 0
InByte most stop before = (room : ℕ) (b : ℕ) → b ≤ most → Blames stop room before (field (b ∷ []) ∷ [])

-- in the four bytes of a number from `least` to `most`
pub record InNumber (least most : ℕ) (stop : Stop) (before : List ℕ) : Type 0 where
  pub no : (room : ℕ) (n : ℕ) → least ≤ n → n ≤ most → n < 2 ^ 32 → Blames stop room before (field (be32 n) ∷ [])

-- in the code of a leaf that is a plain value
pub record InGround (stop : Stop) (before : List ℕ) : Type 0 where
  pub no : (room : ℕ) (l : Label) → IsGround l → IsPlain part [] l none → IsShort (leaf l) → Blames stop room before (items (leaf l))

-- in a length and so many bytes
abbrev pub InBytes : Stop → List ℕ → Type 0
InBytes stop before = (room : ℕ) (x : List ℕ) → length x < 2 ^ 32 → Blames stop room before (field (be32 (length x)) ∷ field x ∷ [])

-- the length of a text, and its content
abbrev pub text_items : TextKind → List ℕ → List Item
text_items kind.Str x = field (be32 (length x)) ∷ field x ∷ []
text_items kind.Uri x = field (be32 (length x)) ∷ field x ∷ []
text_items kind.Word x = name_length (length x) ∷ field x ∷ []

-- in a length and such a text
abbrev pub InText : TextKind → Stop → List ℕ → Type 0
InText kind stop before = (room : ℕ) (x : List ℕ) → HasForm kind x → length x < 2 ^ 32 → Blames stop room before (text_items kind x)

-- in a number from 1 on and as many bytes of origins
pub record InOrigins (stop : Stop) (before : List ℕ) : Type 0 where
  pub no : (room : ℕ) (os : List Origin) → 1 ≤ length os → length os < 2 ^ 32 → Blames stop room before (field (be32 (length os)) ∷ each (λ o. field (origin_number o ∷ [])) os)

-- in a remainder, which is a variable only where one may be bound
pub record InRest (binds : Bool) (stop : Stop) (before : List ℕ) : Type 0 where
  pub no : (room : ℕ) (q : TermRest) → (binds ≡ false → q ≡ rests.Var → ⊥) → Blames stop room before (field (rest_number q ∷ []) ∷ [])

-- the place is that of an index, and no index of a variable of this sense stands there
pub record IsIndex (v : Scope) (sense : Sense) (bs : List ℕ) (at : ℕ) : Type 0 where
  pub place : at ≡ length bs
  pub differs : (i : ℕ) → i < 2 ^ 32 → HasVariable v i sense → (x y : List ℕ) → bs ++ x ≡ be32 i ++ y → ⊥

-- the place is that of the tag before these bytes, and no variable of this sense is in scope
pub record IsTag (v : Scope) (sense : Sense) (bs : List ℕ) (at : ℕ) : Type 0 where
  pub place : at ≡ length bs + 1
  pub none : (i : ℕ) → HasVariable v i sense → ⊥

-- a variable of this sense is blamed at its index, or at its tag where the scope has none
abbrev pub VariableTold : Scope → Sense → ReadFault → List ℕ → Type 0
VariableTold v sense (fault.Short at) bs = ⊤
VariableTold v sense (fault.NotCanonical at) bs = IsIndex v sense bs at ⊎ IsTag v sense bs at
VariableTold v sense (fault.TooDeep at) bs = ⊥
VariableTold v sense (fault.Unnamed at) bs = ⊥
VariableTold v sense fault.NoMemory bs = ⊤

pub record WrongVariable (v : Scope) (sense : Sense) (e : ReadFault) (bs : List ℕ) : Type 0 where
  pub holds : VariableTold v sense e bs

-- a reader that has read these bytes stops so behind them, in the code of each closed process, of any height, that agrees with them and is shorter than 2^32 bytes
abbrev pub StopsEach : Stop → List ℕ → Type 0
StopsEach stop before = (t : Tree) → IsClosed t → IsShort t → (x y : List ℕ) → before ++ x ≡ code t ++ y → Breaks stop 400 (items t) before

-- these bytes are wrong at this place: in the code of each such process other bytes stand there, or that code ends there and they go on
pub record IsWrongAt (at : ℕ) (bs : List ℕ) : Type 0 where
  pub before : List ℕ
  pub after : List ℕ
  pub are : bs ≡ before ++ after
  pub place : at ≡ length before
  pub wrong : (t : Tree) → IsClosed t → IsShort t → (x y : List ℕ) → before ++ x ≡ code t ++ y → Breaks (these after) 400 (items t) before ⊎ ((code t ≡ before) × (0 < length after))

-- a part is too deep at this place: the tag of a form stands there, and in the code of each such process a part begins there, under 400 forms
pub record IsDeepAt (at : ℕ) (bs : List ℕ) : Type 0 where
  pub before : List ℕ
  pub after : List ℕ
  pub are : bs ≡ before ++ after
  pub place : at ≡ length before
  pub deep : StopsEach (form after) before

-- a method's name has no bytes at this place: before it four zeros stand, and where they begin the length of a method's name stands in the code of each such process
pub record IsNamelessAt (at : ℕ) (bs : List ℕ) : Type 0 where
  pub before : List ℕ
  pub after : List ℕ
  pub are : bs ≡ before ++ after
  pub place : at ≡ length before + 4
  pub nameless : StopsEach (nameless after) before
