-- What a reader of processes or patterns comes to.
use Rattle.std.specs.Prelude.{◌≡◌, ℕ, ◌≤◌, ◌++◌, Bool, false, List, [], Result, Ok, Err, length}
use Rattle.calculus.specs.Tree.{row, Tree}
use Rattle.calculus.specs.Shape.{many}
use Rattle.calculus.specs.Variables.{Sense, bound}
use Rattle.calculus.specs.Form.{Sort, Scope, row_of}
use Rattle.rho_term.specs.Normal.{IsOrdered}
use Rattle.code_faults.specs.declared.fault.ReadFault.{ReadFault}
use Rattle.code_faults.specs.Reading.{Reads}
use Rattle.code_faults.specs.Beginning.{HasPlace, Goes, Begun, BegunRow, BegunBag}
use Rattle.code_faults.specs.Refusing.{Refuses, RefusesRow, RefusesBag}
use Rattle.code_faults.specs.Blaming.{Wrong, InTree, InRow, InBag}

-- what holds of what was read, or of the fault
abbrev pub Comes : {T : Type 0} → Result T ReadFault → (T → Type 0) → (ReadFault → Type 0) → Type 0
Comes (Ok x) P Q = P x
Comes (Err e) P Q = Q e

-- all that a fault tells of bytes in which a tree of this sort was to be read
pub record Fails (binds : Bool) (s : Sort) (v : Scope) (room : ℕ) (bs : List ℕ) (e : ReadFault) : Type 0 where
  pub wrong : Wrong (InTree binds s v room) e bs
  pub refuses : Refuses binds s v room e bs
  pub begun : HasPlace e → Goes e (Begun binds s v room bs)

-- the same of a number from `least` to `most` and the codes of such trees
pub record FailsRow (binds : Bool) (s : Sort) (v : Scope) (room least most : ℕ) (bs : List ℕ) (e : ReadFault) : Type 0 where
  pub wrong : Wrong (InRow binds s v room least most) e bs
  pub refuses : RefusesRow binds s v room least most e bs
  pub begun : HasPlace e → Goes e (BegunRow binds s v room least most bs)

-- the same of a number and the ascending codes of such trees
pub record FailsBag (s : Sort) (v : Scope) (room : ℕ) (bs : List ℕ) (e : ReadFault) : Type 0 where
  pub wrong : Wrong (InBag s v room) e bs
  pub refuses : RefusesBag s v room e bs
  pub begun : HasPlace e → Goes e (BegunBag s v room bs)

-- a part is read, and it stands in order
pub record ReadsPart (s : Sort) (v : Scope) (room : ℕ) (bs left : List ℕ) (t : Tree) : Type 0 where
  pub reads : Reads s v room t bs left
  pub ordered : IsOrdered t

-- from `least` to `most` trees are read
pub record ReadsRow (s : Sort) (v : Scope) (room least most : ℕ) (bs left : List ℕ) (ts : List Tree) : Type 0 where
  pub reads : Reads (row_of s) v room (many row ts) bs left
  pub enough : least ≤ length ts
  pub few : length ts ≤ most

-- a pattern is read: what it binds stands behind what was bound before, and it binds nothing where it may not
pub record ReadsPat (binds : Bool) (s : Sort) (v : Scope) (room : ℕ) (before after : List Sense) (bs left : List ℕ) (t : Tree) : Type 0 where
  pub reads : Reads s v room t bs left
  pub found : after ≡ before ++ bound t
  pub free : binds ≡ false → bound t ≡ []

-- the same of a part of a pattern, which stands in order
pub record ReadsPatPart (binds : Bool) (s : Sort) (v : Scope) (room : ℕ) (before after : List Sense) (bs left : List ℕ) (t : Tree) : Type 0 where
  pub reads : Reads s v room t bs left
  pub ordered : IsOrdered t
  pub found : after ≡ before ++ bound t
  pub free : binds ≡ false → bound t ≡ []

-- the same of from `least` to `most` trees
pub record ReadsPats (binds : Bool) (s : Sort) (v : Scope) (room least most : ℕ) (before after : List Sense) (bs left : List ℕ) (ts : List Tree) : Type 0 where
  pub reads : Reads (row_of s) v room (many row ts) bs left
  pub enough : least ≤ length ts
  pub few : length ts ≤ most
  pub found : after ≡ before ++ bound (many row ts)
  pub free : binds ≡ false → bound (many row ts) ≡ []
