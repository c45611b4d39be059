-- What a decoder has to read.
use Rattle.std.specs.Prelude.{◌≡◌, ◌≤◌, ◌<◌, ◌-◌, ℕ, List, ◌++◌, length, ◌+◌, ◌^◌, ◌⊎◌}
use Rattle.calculus.specs.Tree.{Tree}
use Rattle.calculus.specs.Size.{height}
use Rattle.calculus.specs.Code.{code}
use Rattle.calculus.specs.CodeLaws.{IsShort}
use Rattle.calculus.specs.Form.{IsClosed}
use Rattle.code_faults.specs.declared.fault.CodeFault.{CodeFault}
use Rattle.code_faults.specs.declared.fault.CodeFault.TheVariants as fault
use Rattle.code_faults.specs.declared.fault.ReadFault.{ReadFault}
use Rattle.code_faults.specs.declared.fault.ReadFault.TheVariants as read
use Rattle.code_faults.specs.Blaming.{IsNamelessAt}

-- a closed process of height at most 400, whose code is shorter than 2^32 bytes
pub record IsReadable (t : Tree) : Type 0 where
  pub closed : IsClosed t
  pub low : height t ≤ 400
  pub short : IsShort t

-- a proper prefix of the code of such a process
pub record IsCutCode (bs : List ℕ) : Type 0 where
  pub process : Tree
  pub readable : IsReadable process
  pub more : List ℕ
  pub is : bs ++ more ≡ code process
  pub proper : 0 < length more

-- a proper prefix of the code of a closed process of height at most 400, however long that code is
pub record IsBegun (bs : List ℕ) : Type 0 where
  pub process : Tree
  pub closed : IsClosed process
  pub low : height process ≤ 400
  pub more : List ℕ
  pub is : bs ++ more ≡ code process
  pub proper : 0 < length more

-- up to this place bytes are a prefix of the code of a closed process of height at most 400; or they are so but for the last four, the length of a method's name of no bytes, which is blamed behind it
pub record IsBegunTo (bs : List ℕ) (at : ℕ) : Type 0 where
  pub process : Tree
  pub closed : IsClosed process
  pub low : height process ≤ 400
  pub before : List ℕ
  pub more : List ℕ
  pub goes : before ++ more ≡ code process
  pub after : List ℕ
  pub is : before ++ after ≡ bs
  pub place : (at ≡ length before) ⊎ ((at ≡ length before + 4) × (at < 2 ^ 32 → IsNamelessAt at bs))

-- up to this place bytes are a prefix of the code of a closed process of height at most 400
pub record IsCodeUpTo (bs : List ℕ) (at : ℕ) : Type 0 where
  pub process : Tree
  pub closed : IsClosed process
  pub low : height process ≤ 400
  pub before : List ℕ
  pub more : List ℕ
  pub goes : before ++ more ≡ code process
  pub after : List ℕ
  pub is : before ++ after ≡ bs
  pub place : at ≡ length before

-- the fault of so many bytes: where they end early, it tells of their length, and a place is told from their beginning. A name of no bytes is blamed behind the four bytes of its length.
abbrev pub at_end : ReadFault → ℕ → CodeFault
at_end (read.Short at) len = fault.Short len
at_end (read.NotCanonical at) len = fault.NotCanonical (len - at)
at_end (read.TooDeep at) len = fault.TooDeep (len - at)
at_end (read.Unnamed at) len = fault.NotCanonical (len - (at - 4))
at_end read.NoMemory len = fault.NoMemory
