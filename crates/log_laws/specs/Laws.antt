-- Laws of the refusals of a log's bytes, told by the texts of logs and not by the reading. Each stands in the contract of a public function that does nothing.
use Rattle.std.specs.Prelude.{◌≡◌, ◌⊎◌, ℕ, ◌<◌, ◌≤◌, ◌^◌, List, [], ◌∷◌, ◌++◌, length, codes, Ok, Err}
use Rattle.calculus.specs.Bytes.{be32}
use Rattle.calculus.specs.Log.{Header, Step, header_text, log_text}
use Rattle.event_log.specs.declared.fault.LogFault.{LogFault}
use Rattle.event_log.specs.declared.fault.LogFault.TheVariants as fault
use Rattle.event_log.specs.Laws.{AreBytes, AreSteps, IsHeader}
use Rattle.event_log.specs.Reading.{log_of}

-- a log that may be written: its header and its steps have a text, and there are at most 1,048,608 steps
pub record IsLog (h : Header) (ss : List Step) : Type 0 where
  pub header : IsHeader h
  pub steps : AreSteps ss
  pub few : length ss ≤ 1048608

-- the text of a log begins with these bytes and goes on with those
pub record GoesOn (bs left : List ℕ) : Type 0 where
  pub header : Header
  pub steps : List Step
  pub log : IsLog header steps
  pub is : log_text header steps ≡ bs ++ left

-- each proper prefix of the text of a log is refused as ending early, at its own length
abbrev pub CutLogsAreShort : Type 0
CutLogsAreShort = (bs left : List ℕ) → GoesOn bs left → 1 ≤ length left → log_of bs ≡ Err (fault.Short (length bs))

-- with more bytes, one at least, these are the text of a log
pub record IsCutLog (bs : List ℕ) : Type 0 where
  pub left : List ℕ
  pub some : 1 ≤ length left
  pub bytes : AreBytes left
  pub whole : GoesOn bs left

-- the bytes end within the number of steps, and that of a number which is too great begins with those that stand there
pub record EndsInCount (bs : List ℕ) : Type 0 where
  pub header : Header
  pub fine : IsHeader header
  pub number : ℕ
  pub great : 1048608 < number
  pub fits : number < 2 ^ 32
  pub left : List ℕ
  pub some : 1 ≤ length left
  pub few : length left ≤ 3
  pub is : header_text header ++ be32 number ≡ bs ++ left

-- this is the first place at which no log's text goes on: one begins with the bytes before it, and none with those and the byte there. It stands in the name or behind the number of steps
pub record IsWrongAt (at : ℕ) (bs : List ℕ) : Type 0 where
  pub before : List ℕ
  pub byte : ℕ
  pub after : List ℕ
  pub is : bs ≡ before ++ (byte ∷ after)
  pub place : at ≡ length before
  pub begun : (left : List ℕ) × AreBytes left × GoesOn before left
  pub stops : (left : List ℕ) → GoesOn (before ++ (byte ∷ [])) left → ⊥
  pub told : (at < 6) ⊎ (115 ≤ at)

-- behind the name stands another version than 1
pub record HasVersion (found : ℕ) (bs : List ℕ) : Type 0 where
  pub after : List ℕ
  pub is : bs ≡ codes "RHOLOG" ++ (found ∷ after)
  pub other : found ≡ 1 → ⊥

-- behind a header stands a number of steps that is too great
pub record HasCount (entries : ℕ) (bs : List ℕ) : Type 0 where
  pub header : Header
  pub fine : IsHeader header
  pub after : List ℕ
  pub is : bs ≡ header_text header ++ (be32 entries ++ after)
  pub great : 1048608 < entries
  pub fits : entries < 2 ^ 32

-- why bytes are no text of a log: they end before a text of a log does, or within a number of steps that is too great; they have a wrong byte, another version, or too many steps
abbrev pub IsCause : List ℕ → LogFault → Type 0
IsCause bs (fault.Short at) = (at ≡ length bs) × (IsCutLog bs ⊎ EndsInCount bs)
IsCause bs (fault.Bad at) = IsWrongAt at bs
IsCause bs (fault.Version found) = HasVersion found bs
IsCause bs (fault.TooLong entries) = HasCount entries bs
IsCause bs fault.NoMemory = ⊥

-- bytes that are read are the text of the log that is told, and this may be written
abbrev pub OnlyLogsAreRead : Type 0
OnlyLogsAreRead = (bs : List ℕ) (h : Header) (ss : List Step) → AreBytes bs → log_of bs ≡ Ok (h, ss) → IsLog h ss × (bs ≡ log_text h ss)

-- bytes are refused for a cause that they have
abbrev pub RefusalsHaveCauses : Type 0
RefusalsHaveCauses = (bs : List ℕ) (e : LogFault) → AreBytes bs → log_of bs ≡ Err e → IsCause bs e

-- bytes that have a cause are refused for it
abbrev pub CausesAreTold : Type 0
CausesAreTold = (bs : List ℕ) (e : LogFault) → AreBytes bs → IsCause bs e → log_of bs ≡ Err e
