-- Logs are read as they are written.
use Rattle.std.specs.Prelude.{◌≡◌, ℕ, ◌<◌, ◌≤◌, ◌^◌, List, [], ◌∷◌, length, ⊤, Ok}
use Rattle.calculus.specs.Log.{Header, Step, log_text}
use Rattle.event_log.specs.Reading.{log_of}

-- each of these numbers is a byte
abbrev pub AreBytes : List ℕ → Type 0
AreBytes [] = ⊤
AreBytes (b ∷ bs) = (b < 256) × AreBytes bs

-- an id has 32 bytes
abbrev pub IsId : List ℕ → Type 0
IsId x = length x ≡ 32

-- these are ids
abbrev pub AreIds : List (List ℕ) → Type 0
AreIds [] = ⊤
AreIds (x ∷ xs) = IsId x × AreIds xs

-- a step's ids have 32 bytes, it takes 1 to 16 data, and its repeat number has four bytes
pub record IsStep (s : Step) : Type 0 where
  pub receiver : IsId s.receiver
  pub ids : AreIds s.data_ids
  pub some : 1 ≤ length s.data_ids
  pub few : length s.data_ids ≤ 16
  pub repeat : s.repeat < 2 ^ 32

-- these are such steps
abbrev pub AreSteps : List Step → Type 0
AreSteps [] = ⊤
AreSteps (s ∷ ss) = IsStep s × AreSteps ss

-- a header's digests have 32 bytes, and its limit has eight
pub record IsHeader (h : Header) : Type 0 where
  pub base : IsId h.base
  pub source : IsId h.source
  pub prices : IsId h.prices
  pub limit : h.limit < 2 ^ 64

-- what is written is read
abbrev pub WrittenLogsAreRead : Type 0
WrittenLogsAreRead = (h : Header) (ss : List Step) → IsHeader h → AreSteps ss → length ss ≤ 1048608 → log_of (log_text h ss) ≡ Ok (h, ss)

-- the repeat numbers of these steps have four bytes
abbrev pub HaveSmallRepeats : List Step → Type 0
HaveSmallRepeats [] = ⊤
HaveSmallRepeats (s ∷ ss) = (s.repeat < 2 ^ 32) × HaveSmallRepeats ss

-- what is read was written so
abbrev pub OnlyTextsAreRead : Type 0
OnlyTextsAreRead = (bytes : List ℕ) (h : Header) (ss : List Step) → AreBytes bytes → h.limit < 2 ^ 64 → HaveSmallRepeats ss → log_of bytes ≡ Ok (h, ss) → bytes ≡ log_text h ss
