-- Rows: active sends and receives with ids, and their codes.
use Rattle.std.specs.Prelude.{ℕ, ◌+◌, false, List, [], ◌∷◌, ◌++◌, length, map as each}
use Rattle.calculus.specs.declared.plain.Kind.TheVariants as kinds
use Rattle.calculus.specs.declared.plain.TermRest.TheVariants as rests
use Rattle.calculus.specs.Kinds.{kind_number}
use Rattle.calculus.specs.Tree.{Label, par, row, fresh, name_var, send, receive, bind, pattern, rest, some_process, some_name, Tree, node}
use Rattle.calculus.specs.Shape.{leaf, two, three, many, only, held, listed, at}
use Rattle.calculus.specs.Code.{code, byte_of}
use Rattle.calculus.specs.Seeds.{digest_of, System}

-- an active send or receive: its id and its part
pub record Row : Type 0 where
  pub id : List ℕ
  pub part : Tree

-- the code of a row with this id, whose part has this form and these constituents
abbrev pub row_bytes : List ℕ → Label → List Tree → List ℕ
row_bytes id (send q) ts = 0x01 ∷ (id ++ (code (at 0 ts) ++ (byte_of q ∷ code (at 1 ts))))
row_bytes id (receive k) ts = 0x02 ∷ (id ++ (kind_number k ∷ (code (at 0 ts) ++ code (at 1 ts))))
row_bytes id l ts = []

-- the code of this part as a row with this id
abbrev pub coded_part : List ℕ → Tree → List ℕ
coded_part id (node l ts) = row_bytes id l (listed ts)

-- the code of a row
abbrev pub row_code : Row → List ℕ
row_code r = coded_part r.id r.part

-- the length of a row's code: an id has 32 bytes
abbrev pub row_length : Row → ℕ
row_length r = 32 + length (coded_part [] r.part)

-- the channels of a send or a receive, in written order
abbrev pub channels : Tree → List Tree
channels (node (send q) ts) = at 0 (listed ts) ∷ []
channels (node (receive k) ts) = each (λ b. at 0 (held b)) (held (at 0 (listed ts)))
channels _ = []

-- the fresh name of the system's seed number k, as a name
abbrev pub system_name : ℕ → Tree
system_name k = only (leaf (fresh (digest_of (System k))))

-- a bind on this channel of these name patterns, each of one part, without a remainder
abbrev pub built_bind : Tree → List Tree → Tree
built_bind c ps = three bind c (many row (each (λ p. many pattern (p ∷ [])) ps)) (leaf (rest rests.No))

-- the persistent receiver with this id of one bind
abbrev pub built_in : List ℕ → Tree → Tree → Row
built_in id b body = record { id = id; part = two (receive kinds.Persistent) (many row (b ∷ [])) body }

-- the receiver behind `rho:io:stdout`, which takes any one value
abbrev pub stdout : Row
stdout = built_in (digest_of (System 2)) (built_bind (system_name 0) (leaf some_process ∷ [])) (leaf par)

-- the receiver behind `rho:io:stdoutAck`, which takes a value and a name and sends `Nil` on that name
abbrev pub stdout_ack : Row
stdout_ack = built_in (digest_of (System 3)) (built_bind (system_name 1) (leaf some_process ∷ leaf some_name ∷ [])) (only (two (send false) (only (leaf (name_var 0))) (many row (leaf par ∷ []))))
