-- The canonical bytes of a process without names.
use Rattle.std.specs.Prelude.{ℕ, ◌^◌, Bool, true, false, List, [], ◌∷◌, ◌++◌, pos, ◌+ℤ◌, nat_abs, length, map as each}
use Rattle.calculus.specs.Bytes.{be32, be64, joined}
use Rattle.calculus.specs.Shape.{count}
use Rattle.calculus.specs.Order.{sorted}
use Rattle.calculus.specs.Congruence.{is_bag}
use Rattle.calculus.specs.Kinds.{simple_number, kind_number, rights_number, unary_op_number, binary_op_number, rest_number, origin_number}
use Rattle.calculus.specs.Tree.{Label, par, row, bool, int, str, uri, bytes, fresh, var, name_var, list, tuple, set, dict, pair, send, receive, bind, new, match, case, bundle, unary, binary, method, pattern, rest, any, some_process, some_name, simple, same, both, either, not_this, list_pattern, set_pattern, map_pattern, Tree, node, Trees, none, also}

-- 1 for true
abbrev pub byte_of : Bool → ℕ
byte_of false = 0
byte_of true = 1

-- bytes after their number
abbrev pub text : List ℕ → List ℕ
text s = be32 (length s) ++ s

-- what stands before the codes of a form's constituents, of which there are n
abbrev pub head : Label → ℕ → List ℕ
head par n = be32 n
head row n = be32 n
head (bool x) n = 0x10 ∷ byte_of x ∷ []
head (int x) n = 0x11 ∷ be64 (nat_abs (x +ℤ pos (2 ^ 63)))
head (str x) n = 0x12 ∷ text x
head (uri x) n = 0x13 ∷ text x
head (bytes x) n = 0x14 ∷ text x
head (fresh x) n = 0x15 ∷ x
head (var x) n = 0x16 ∷ be32 x
head (name_var x) n = 0x17 ∷ be32 x
head list n = 0x20 ∷ be32 n
head tuple n = 0x21 ∷ be32 n
head set n = 0x22 ∷ be32 n
head dict n = 0x23 ∷ be32 n
head pair n = []
head (send x) n = 0x30 ∷ byte_of x ∷ []
head (receive x) n = 0x31 ∷ kind_number x ∷ []
head bind n = []
head (new x) n = 0x32 ∷ (be32 (length x) ++ each origin_number x)
head match n = 0x33 ∷ []
head case n = []
head (bundle x) n = 0x34 ∷ rights_number x ∷ []
head (unary x) n = 0x40 ∷ unary_op_number x ∷ []
head (binary x) n = 0x41 ∷ binary_op_number x ∷ []
head (method x) n = 0x42 ∷ text x
head pattern n = be32 n
head (rest x) n = rest_number x ∷ []
head any n = 0x52 ∷ []
head some_process n = 0x50 ∷ []
head some_name n = 0x51 ∷ []
head (simple x) n = 0x57 ∷ simple_number x ∷ []
head same n = 0x53 ∷ []
head both n = 0x54 ∷ []
head either n = 0x55 ∷ []
head not_this n = 0x56 ∷ []
head list_pattern n = 0x20 ∷ []
head set_pattern n = 0x22 ∷ []
head map_pattern n = 0x23 ∷ []

-- codes as they stand in the code of a form: ascending where its constituents have no order, and else as written
abbrev pub arranged : Bool → List (List ℕ) → List (List ℕ)
arranged true cs = sorted cs
arranged false cs = cs

abbrev mutual
  -- the code of a process, a pattern or what stands in them: its head and the codes of its constituents
  pub code : Tree → List ℕ
  code (node l ts) = head l (count ts) ++ joined (arranged (is_bag l) (codes ts))

  -- the codes of these, in turn
  pub codes : Trees → List (List ℕ)
  codes none = []
  codes (also t ts) = code t ∷ codes ts
