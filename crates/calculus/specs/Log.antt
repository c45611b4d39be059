-- Logs: the steps of a run in order, under what they were made from, and their text.
use Rattle.std.specs.Prelude.{ℕ, List, ◌∷◌, ◌++◌, length, map as each, codes}
use Rattle.calculus.specs.Bytes.{be32, be64, joined}

-- a step: a receiver's id, the ids of its data in the order of its sorted binds, and how often the very same step was made before
pub record Step : Type 0 where
  pub receiver : List ℕ
  pub data_ids : List (List ℕ)
  pub repeat : ℕ

-- what a run was made from: the checkpoint's root, the digests of the source and of the prices, and the limit
pub record Header : Type 0 where
  pub base : List ℕ
  pub source : List ℕ
  pub prices : List ℕ
  pub limit : ℕ

-- the text of a step, of which the data are 1 to 16
abbrev pub step_text : Step → List ℕ
step_text s = s.receiver ++ (length s.data_ids ∷ (joined s.data_ids ++ be32 s.repeat))

-- the text of a header
abbrev pub header_text : Header → List ℕ
header_text h = codes "RHOLOG" ++ (0x01 ∷ (h.base ++ (h.source ++ (h.prices ++ be64 h.limit))))

-- the text of a log, version 1
abbrev pub log_text : Header → List Step → List ℕ
log_text h ss = header_text h ++ (be32 (length ss) ++ joined (each step_text ss))
