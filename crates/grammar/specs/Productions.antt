-- The productions of each sort.
use Rattle.std.specs.Prelude.{ℕ, suc, Bool, List, Option}
use Rattle.calculus.specs.Written.{Written}
use Rattle.calculus.specs.declared.plain.Simple.{Simple}
use Rattle.calculus.specs.declared.plain.Kind.{Kind}
use Rattle.calculus.specs.declared.plain.Rights.{Rights}
use Rattle.grammar.specs.Rules.{Bracket, Separator, Sort, Par, ParTail, One, New, Decl, DeclUri, DeclTail, If, IfTail, Contract, Two, Sent, SentTail, Bundle, For, Bind, Arrow, FirstTail, Binds, BindsTail, Body, Left, LeftTail, LeftNext, Remainder, Match, Case, CaseTail, Or, OrTail, And, AndTail, Eq, EqTail, Cmp, CmpTail, Sum, SumTail, Mul, MulTail, Pre, Meth, MethTail, Drop, Dropped, Name, Atom, Ground, Group, Brace, BraceTail, Pairs, Row, RowTail, POne, PAlt, PAltTail, PAnd, PAndTail, PNot, PName, PAtom, Same, Seq, SeqTail, SeqNext, PBrace, PBraceTail, PPairs, PPairsNext}
use Rattle.grammar.specs.Values.{Spelt, Side}

-- the productions, named after their sort
pub data Prod : Sort → Type 0 where
  par : (side : Side) → Prod (Par side)
  par_end : (side : Side) (ps : List Written) (h : ℕ) → Prod (ParTail side ps h)
  par_more : (side : Side) (ps : List Written) (h : ℕ) → Prod (ParTail side ps h)
  one_new : Prod One
  one_if : Prod One
  one_contract : Prod One
  one_two : Prod One
  new_form : Prod New
  decl : (ds : List (List ℕ × Option (List ℕ))) → Prod (Decl ds)
  decl_plain : (ds : List (List ℕ × Option (List ℕ))) (w : List ℕ) → Prod (DeclUri ds w)
  decl_uri : (ds : List (List ℕ × Option (List ℕ))) (w : List ℕ) → Prod (DeclUri ds w)
  decl_more : (ds : List (List ℕ × Option (List ℕ))) → Prod (DeclTail ds)
  decl_body : (ds : List (List ℕ × Option (List ℕ))) → Prod (DeclTail ds)
  if_form : Prod If
  if_else : (e : Spelt) (p : Spelt) → Prod (IfTail e p)
  if_only : (e : Spelt) (p : Spelt) → Prod (IfTail e p)
  contract_form : Prod Contract
  two_for : Prod Two
  two_match : Prod Two
  two_bundle : Prod Two
  two_word : Prod Two
  two_fresh : Prod Two
  two_quote : Prod Two
  two_or : Prod Two
  sent : (side : Side) (n : Spelt) (q : Bool) → Prod (Sent side n)
  sent_tail : (side : Side) (n : Spelt) (q : Bool) → Prod (SentTail side n)
  bundle : (side : Side) (r : Rights) → Prod (Bundle side)
  for_form : Prod For
  bind : Prod Bind
  arrow : (l : Spelt) (k : Kind) → Prod (Arrow l)
  first_end : (k : Kind) (b : Spelt) → Prod (FirstTail k b)
  first_more : (k : Kind) (b : Spelt) (m : Separator) → Prod (FirstTail k b)
  binds : (k : Kind) (m : Separator) (left : ℕ) (bs : List Written) (h : ℕ) → Prod (Binds k m left bs h)
  binds_end : (k : Kind) (m : Separator) (left : ℕ) (bs : List Written) (h : ℕ) → Prod (BindsTail k m left bs h)
  binds_more : (k : Kind) (m : Separator) (left : ℕ) (bs : List Written) (h : ℕ) → Prod (BindsTail k m (suc left) bs h)
  body : (k : Kind) (bs : List Written) (h : ℕ) → Prod (Body k bs h)
  left_none : Prod Left
  left_rest : Prod Left
  left_some : Prod Left
  left_end : (ps : List Written) (h : ℕ) → Prod (LeftTail ps h)
  left_end_rest : (ps : List Written) (h : ℕ) → Prod (LeftTail ps h)
  left_comma : (ps : List Written) (h : ℕ) → Prod (LeftTail ps h)
  left_more : (ps : List Written) (h : ℕ) → Prod (LeftNext ps h)
  left_next_rest : (ps : List Written) (h : ℕ) → Prod (LeftNext ps h)
  remainder_word : Prod Remainder
  remainder_any : Prod Remainder
  match_form : Prod Match
  case : (t : Spelt) (cs : List Written) (h : ℕ) → Prod (Case t cs h)
  case_end : (t : Spelt) (cs : List Written) (h : ℕ) → Prod (CaseTail t cs h)
  case_more : (t : Spelt) (cs : List Written) (h : ℕ) → Prod (CaseTail t cs h)
  or : Prod Or
  or_end : (a : Spelt) → Prod (OrTail a)
  or_more : (a : Spelt) → Prod (OrTail a)
  and : Prod And
  and_end : (a : Spelt) → Prod (AndTail a)
  and_more : (a : Spelt) → Prod (AndTail a)
  eq : Prod Eq
  eq_end : (a : Spelt) → Prod (EqTail a)
  eq_equal : (a : Spelt) → Prod (EqTail a)
  eq_unequal : (a : Spelt) → Prod (EqTail a)
  cmp : Prod Cmp
  cmp_end : (a : Spelt) → Prod (CmpTail a)
  cmp_less : (a : Spelt) → Prod (CmpTail a)
  cmp_less_equal : (a : Spelt) → Prod (CmpTail a)
  cmp_greater : (a : Spelt) → Prod (CmpTail a)
  cmp_greater_equal : (a : Spelt) → Prod (CmpTail a)
  sum : Prod Sum
  sum_end : (a : Spelt) → Prod (SumTail a)
  sum_plus : (a : Spelt) → Prod (SumTail a)
  sum_minus : (a : Spelt) → Prod (SumTail a)
  sum_append : (a : Spelt) → Prod (SumTail a)
  sum_take_out : (a : Spelt) → Prod (SumTail a)
  mul : Prod Mul
  mul_end : (a : Spelt) → Prod (MulTail a)
  mul_times : (a : Spelt) → Prod (MulTail a)
  mul_over : (a : Spelt) → Prod (MulTail a)
  mul_modulo : (a : Spelt) → Prod (MulTail a)
  pre_not : Prod Pre
  pre_minus : Prod Pre
  pre_meth : Prod Pre
  meth : Prod Meth
  meth_end : (a : Spelt) → Prod (MethTail a)
  meth_call : (a : Spelt) → Prod (MethTail a)
  drop_star : Prod Drop
  drop_atom : Prod Drop
  dropped_word : Prod Dropped
  dropped_fresh : Prod Dropped
  dropped_quote : Prod Dropped
  name_word : Prod Name
  name_fresh : Prod Name
  name_quote : Prod Name
  atom_word : Prod Atom
  atom_ground : Prod Atom
  atom_nil : Prod Atom
  atom_open : Prod Atom
  atom_brace : Prod Atom
  atom_list : Prod Atom
  atom_set : Prod Atom
  ground_true : (side : Side) → Prod (Ground side)
  ground_false : (side : Side) → Prod (Ground side)
  ground_int : (side : Side) → Prod (Ground side)
  ground_minus : (side : Side) → Prod (Ground side)
  ground_string : (side : Side) → Prod (Ground side)
  ground_uri : (side : Side) → Prod (Ground side)
  ground_bytes : (side : Side) → Prod (Ground side)
  group_close : (side : Side) (p : Spelt) → Prod (Group side p)
  group_tuple : (side : Side) (p : Spelt) → Prod (Group side p)
  brace_empty : Prod Brace
  brace_some : Prod Brace
  brace_close : (p : Spelt) → Prod (BraceTail p)
  brace_pair : (p : Spelt) → Prod (BraceTail p)
  pairs_end : (ps : List Written) (h : ℕ) → Prod (Pairs ps h)
  pairs_more : (ps : List Written) (h : ℕ) → Prod (Pairs ps h)
  row_none : (side : Side) (c : Bracket) → Prod (Row side c)
  row_some : (side : Side) (c : Bracket) → Prod (Row side c)
  row_end : (side : Side) (c : Bracket) (ps : List Written) (h : ℕ) → Prod (RowTail side c ps h)
  row_more : (side : Side) (c : Bracket) (ps : List Written) (h : ℕ) → Prod (RowTail side c ps h)
  pone_new : Prod POne
  pone_if : Prod POne
  pone_contract : Prod POne
  pone_for : Prod POne
  pone_match : Prod POne
  pone_bundle : Prod POne
  pone_word : Prod POne
  pone_any : Prod POne
  pone_quote : Prod POne
  pone_alt : Prod POne
  palt : Prod PAlt
  palt_end : (a : Spelt) → Prod (PAltTail a)
  palt_more : (a : Spelt) → Prod (PAltTail a)
  pand : Prod PAnd
  pand_end : (a : Spelt) → Prod (PAndTail a)
  pand_more : (a : Spelt) → Prod (PAndTail a)
  pnot_tilde : Prod PNot
  pnot_atom : Prod PNot
  pname_any : Prod PName
  pname_word : Prod PName
  pname_quote : Prod PName
  patom_any : Prod PAtom
  patom_type : (x : Simple) → Prod PAtom
  patom_same : Prod PAtom
  patom_word : Prod PAtom
  patom_ground : Prod PAtom
  patom_nil : Prod PAtom
  patom_open : Prod PAtom
  patom_brace : Prod PAtom
  patom_list : Prod PAtom
  patom_set : Prod PAtom
  same_word : Prod Same
  same_drop : Prod Same
  same_block : Prod Same
  seq_none : (c : Bracket) → Prod (Seq c)
  seq_rest : (c : Bracket) → Prod (Seq c)
  seq_some : (c : Bracket) → Prod (Seq c)
  seq_end : (c : Bracket) (ps : List Written) (h : ℕ) → Prod (SeqTail c ps h)
  seq_end_rest : (c : Bracket) (ps : List Written) (h : ℕ) → Prod (SeqTail c ps h)
  seq_comma : (c : Bracket) (ps : List Written) (h : ℕ) → Prod (SeqTail c ps h)
  seq_more : (c : Bracket) (ps : List Written) (h : ℕ) → Prod (SeqNext c ps h)
  seq_next_rest : (c : Bracket) (ps : List Written) (h : ℕ) → Prod (SeqNext c ps h)
  pbrace_empty : Prod PBrace
  pbrace_rest : Prod PBrace
  pbrace_some : Prod PBrace
  pbrace_close : (p : Spelt) → Prod (PBraceTail p)
  pbrace_pair : (p : Spelt) → Prod (PBraceTail p)
  ppairs_end : (ps : List Written) (h : ℕ) → Prod (PPairs ps h)
  ppairs_rest : (ps : List Written) (h : ℕ) → Prod (PPairs ps h)
  ppairs_comma : (ps : List Written) (h : ℕ) → Prod (PPairs ps h)
  ppairs_more : (ps : List Written) (h : ℕ) → Prod (PPairsNext ps h)
  ppairs_next_rest : (ps : List Written) (h : ℕ) → Prod (PPairsNext ps h)
