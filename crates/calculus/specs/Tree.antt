-- Processes without names, as trees: a form's label, and its constituents in written order.
use Rattle.std.specs.Prelude.{◌≡◌, ℕ, zero, suc, ◌+◌, Bool, true, false, List, [], ◌∷◌, ℤ, pos, nat_abs, refl}
use Rattle.std.proofs.Common.{ap, map}
use Rattle.std.specs.Coded.{Coded, code_by, coded_ℕ, coded_ℤ, coded_list, coded×}
use base.Stored.{Gv, gnil, gcons}
use Rattle.calculus.specs.Kinds.{pick, simple_number, simple_of, simple_of-number, kind_number, kind_of, kind_of-number, rights_number, rights_of, rights_of-number, unary_op_number, unary_op_of, unary_op_of-number, binary_op_number, binary_op_of, binary_op_of-number, rest_number, rest_of, rest_of-number, origin_number, origin_of, origin_of-number}
use Rattle.calculus.specs.declared.plain.Simple.{Simple}
use Rattle.calculus.specs.declared.plain.Kind.{Kind}
use Rattle.calculus.specs.declared.plain.Rights.{Rights}
use Rattle.calculus.specs.declared.plain.UnaryOp.{UnaryOp}
use Rattle.calculus.specs.declared.plain.BinaryOp.{BinaryOp}
use Rattle.calculus.specs.declared.plain.TermRest.{TermRest}
use Rattle.calculus.specs.declared.plain.Origin.{Origin}

-- the forms of processes and patterns, with the data in them: `par` and `pattern` hold parts, and `row` holds constituents that stand in a list of their own
pub data Label : Type 0 where
  par : Label
  row : Label
  bool : Bool → Label
  int : ℤ → Label
  str : List ℕ → Label
  uri : List ℕ → Label
  bytes : List ℕ → Label
  fresh : List ℕ → Label
  var : ℕ → Label
  name_var : ℕ → Label
  list : Label
  tuple : Label
  set : Label
  dict : Label
  pair : Label
  send : Bool → Label
  receive : Kind → Label
  bind : Label
  new : List Origin → Label
  match : Label
  case : Label
  bundle : Rights → Label
  unary : UnaryOp → Label
  binary : BinaryOp → Label
  method : List ℕ → Label
  pattern : Label
  rest : TermRest → Label
  any : Label
  some_process : Label
  some_name : Label
  simple : Simple → Label
  same : Label
  both : Label
  either : Label
  not_this : Label
  list_pattern : Label
  set_pattern : Label
  map_pattern : Label

mutual
  -- a form and its constituents
  pub data Tree : Type 0 where
    node : Label → Trees → Tree

  -- trees in order
  pub data Trees : Type 0 where
    none : Trees
    also : Tree → Trees → Trees

-- the trees of a list
abbrev pub trees : List Tree → Trees
trees [] = none
trees (t ∷ ts) = also t (trees ts)

abbrev mutual
  -- the number of nodes of a tree
  pub weight : Tree → ℕ
  weight (node l ts) = weights ts + 1

  -- the number of nodes of these
  pub weights : Trees → ℕ
  weights none = 0
  weights (also t ts) = weight t + weights ts

-- what a label is as plain data: the number of its form, and the data in it
abbrev pub Plain : Type 0
Plain = ℕ × (ℤ × List ℕ)

-- 1 for true
abbrev bit : Bool → ℕ
bit true = 1
bit false = 0

-- true for a number above 0
abbrev bit_of : ℕ → Bool
bit_of zero = false
bit_of (suc n) = true

-- a label as that
abbrev pub plain : Label → Plain
plain par = (0, (pos 0, []))
plain row = (1, (pos 0, []))
plain (bool x) = (2, (pos (bit x), []))
plain (int x) = (3, (x, []))
plain (str x) = (4, (pos 0, x))
plain (uri x) = (5, (pos 0, x))
plain (bytes x) = (6, (pos 0, x))
plain (fresh x) = (7, (pos 0, x))
plain (var x) = (8, (pos x, []))
plain (name_var x) = (9, (pos x, []))
plain list = (10, (pos 0, []))
plain tuple = (11, (pos 0, []))
plain set = (12, (pos 0, []))
plain dict = (13, (pos 0, []))
plain pair = (14, (pos 0, []))
plain (send x) = (15, (pos (bit x), []))
plain (receive x) = (16, (pos (kind_number x), []))
plain bind = (17, (pos 0, []))
plain (new x) = (18, (pos 0, map origin_number x))
plain match = (19, (pos 0, []))
plain case = (20, (pos 0, []))
plain (bundle x) = (21, (pos (rights_number x), []))
plain (unary x) = (22, (pos (unary_op_number x), []))
plain (binary x) = (23, (pos (binary_op_number x), []))
plain (method x) = (24, (pos 0, x))
plain pattern = (25, (pos 0, []))
plain (rest x) = (26, (pos (rest_number x), []))
plain any = (27, (pos 0, []))
plain some_process = (28, (pos 0, []))
plain some_name = (29, (pos 0, []))
plain (simple x) = (30, (pos (simple_number x), []))
plain same = (31, (pos 0, []))
plain both = (32, (pos 0, []))
plain either = (33, (pos 0, []))
plain not_this = (34, (pos 0, []))
plain list_pattern = (35, (pos 0, []))
plain set_pattern = (36, (pos 0, []))
plain map_pattern = (37, (pos 0, []))

-- the label that stands so
abbrev pub label_of : Plain → Label
label_of p = pick par
    (par ∷
    row ∷
    bool (bit_of (nat_abs p.1.0)) ∷
    int p.1.0 ∷
    str p.1.1 ∷
    uri p.1.1 ∷
    bytes p.1.1 ∷
    fresh p.1.1 ∷
    var (nat_abs p.1.0) ∷
    name_var (nat_abs p.1.0) ∷
    list ∷
    tuple ∷
    set ∷
    dict ∷
    pair ∷
    send (bit_of (nat_abs p.1.0)) ∷
    receive (kind_of (nat_abs p.1.0)) ∷
    bind ∷
    new (map origin_of p.1.1) ∷
    match ∷
    case ∷
    bundle (rights_of (nat_abs p.1.0)) ∷
    unary (unary_op_of (nat_abs p.1.0)) ∷
    binary (binary_op_of (nat_abs p.1.0)) ∷
    method p.1.1 ∷
    pattern ∷
    rest (rest_of (nat_abs p.1.0)) ∷
    any ∷
    some_process ∷
    some_name ∷
    simple (simple_of (nat_abs p.1.0)) ∷
    same ∷
    both ∷
    either ∷
    not_this ∷
    list_pattern ∷
    set_pattern ∷
    map_pattern ∷ []) p.0

-- origins are had back from their numbers
origins_back : (xs : List Origin) → map origin_of (map origin_number xs) ≡ xs
origins_back [] = refl
origins_back (x ∷ xs) = cc (origin_of-number x, origins_back xs)

-- a label is had back from its plain data
pub label_of-plain : (l : Label) → label_of (plain l) ≡ l
label_of-plain par = refl
label_of-plain row = refl
label_of-plain (bool true) = refl
label_of-plain (bool false) = refl
label_of-plain (int x) = refl
label_of-plain (str x) = refl
label_of-plain (uri x) = refl
label_of-plain (bytes x) = refl
label_of-plain (fresh x) = refl
label_of-plain (var x) = refl
label_of-plain (name_var x) = refl
label_of-plain list = refl
label_of-plain tuple = refl
label_of-plain set = refl
label_of-plain dict = refl
label_of-plain pair = refl
label_of-plain (send true) = refl
label_of-plain (send false) = refl
label_of-plain (receive x) = ap receive (kind_of-number x)
label_of-plain bind = refl
label_of-plain (new x) = ap new (origins_back x)
label_of-plain match = refl
label_of-plain case = refl
label_of-plain (bundle x) = ap bundle (rights_of-number x)
label_of-plain (unary x) = ap unary (unary_op_of-number x)
label_of-plain (binary x) = ap binary (binary_op_of-number x)
label_of-plain (method x) = refl
label_of-plain pattern = refl
label_of-plain (rest x) = ap rest (rest_of-number x)
label_of-plain any = refl
label_of-plain some_process = refl
label_of-plain some_name = refl
label_of-plain (simple x) = ap simple (simple_of-number x)
label_of-plain same = refl
label_of-plain both = refl
label_of-plain either = refl
label_of-plain not_this = refl
label_of-plain list_pattern = refl
label_of-plain set_pattern = refl
label_of-plain map_pattern = refl

-- how a label is stored
abbrev pub label_code : Coded Label
label_code = code_by Plain (coded× coded_ℕ (coded× coded_ℤ (coded_list coded_ℕ))) plain label_of label_of-plain

abbrev mutual
  -- how a tree is stored
  pub stored : Tree → Gv
  stored (node l ts) = gcons (label_code.code l) (stored_all ts)

  -- how trees are stored
  pub stored_all : Trees → Gv
  stored_all none = gnil
  stored_all (also t ts) = gcons (stored t) (stored_all ts)

mutual
  -- trees that are stored alike are one
  pub stored-one : (t u : Tree) → stored t ≡ stored u → t ≡ u
  stored-one (node l ts) (node m us) e =
      let p : l ≡ m = label_code.inj l m (cc) in
      let q : ts ≡ us = stored_all-one ts us (cc) in
      cc

  -- and so are lists of them
  pub stored_all-one : (ts us : Trees) → stored_all ts ≡ stored_all us → ts ≡ us
  stored_all-one none none e = refl
  stored_all-one none (also u us) e = cc
  stored_all-one (also t ts) none e = cc
  stored_all-one (also t ts) (also u us) e =
      let p : t ≡ u = stored-one t u (cc) in
      let q : ts ≡ us = stored_all-one ts us (cc) in
      cc

-- trees as values of contracts
abbrev pub tree_code : Coded Tree
tree_code = record { code = stored; inj = stored-one }
