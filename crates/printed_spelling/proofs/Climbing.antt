-- What the grammar reads at a narrow sort it reads at the wider ones too, and how operators and brackets are read.
use Rattle.std.proofs.Common.{ℕ, List, [], ◌∷◌}
use Rattle.calculus.specs.declared.plain.BinaryOp.{BinaryOp}
use Rattle.calculus.specs.declared.plain.BinaryOp.TheVariants as op
use Rattle.calculus.specs.Written.{Written}
use Rattle.grammar.specs.declared.dialect.Dialect.TheVariants.{Tutorial}
use Rattle.grammar.specs.declared.mark.Mark.TheVariants as marks
use Rattle.grammar.specs.Productions.{Prod}
use Rattle.grammar.specs.Rules.{Sort, Par, One, Two, Or, And, Eq, Cmp, Sum, Mul, Pre, Atom, POne, PAlt, PNot, PAtom, Rule, at, under, last}
use Rattle.grammar.specs.Spells.{Reads, of_done, of_sign, of_opens, of_at, of_under, of_last}
use Rattle.grammar.specs.Terminals.{Terminal, mark}
use Rattle.grammar.specs.Values.{Spelt, spelt, operation, processes, patterns}
use Rattle.printed_spelling.proofs.Pieces.{Piece, op_mark, braced, grouped}

-- this sort is read so
abbrev pub ReadsAs : Sort → List Terminal → Spelt → List Terminal → Type 0
ReadsAs s ts v rest = Reads Tutorial (last s) ts v rest

pub at_sort : {s : Sort} {f : Spelt → Rule} {ts mid rest : List Terminal} {a v : Spelt} → ReadsAs s ts a mid → Reads Tutorial (f a) mid v rest → Reads Tutorial (at s f) ts v rest
at_sort (of_last p r) k = of_at p r k

pub under_sort : {s : Sort} {f : Spelt → Rule} {ts mid rest : List Terminal} {a v : Spelt} → ReadsAs s ts a mid → Reads Tutorial (f a) mid v rest → Reads Tutorial (under s f) ts v rest
under_sort (of_last p r) k = of_under p r k

pub atom_pre : {ts rest : List Terminal} (a : Spelt) → ReadsAs Atom ts a rest → ReadsAs Pre ts a rest
atom_pre a r = of_last Prod.pre_meth (of_last Prod.meth (of_at Prod.drop_atom r (of_last (Prod.meth_end a) of_done)))

pub pre_mul : {ts rest : List Terminal} (a : Spelt) → ReadsAs Pre ts a rest → ReadsAs Mul ts a rest
pre_mul a r = of_last Prod.mul (at_sort r (of_last (Prod.mul_end a) of_done))

pub mul_sum : {ts rest : List Terminal} (a : Spelt) → ReadsAs Mul ts a rest → ReadsAs Sum ts a rest
mul_sum a r = of_last Prod.sum (at_sort r (of_last (Prod.sum_end a) of_done))

pub sum_cmp : {ts rest : List Terminal} (a : Spelt) → ReadsAs Sum ts a rest → ReadsAs Cmp ts a rest
sum_cmp a r = of_last Prod.cmp (at_sort r (of_last (Prod.cmp_end a) of_done))

pub cmp_eq : {ts rest : List Terminal} (a : Spelt) → ReadsAs Cmp ts a rest → ReadsAs Eq ts a rest
cmp_eq a r = of_last Prod.eq (at_sort r (of_last (Prod.eq_end a) of_done))

pub eq_and : {ts rest : List Terminal} (a : Spelt) → ReadsAs Eq ts a rest → ReadsAs And ts a rest
eq_and a r = of_last Prod.and (at_sort r (of_last (Prod.and_end a) of_done))

pub and_or : {ts rest : List Terminal} (a : Spelt) → ReadsAs And ts a rest → ReadsAs Or ts a rest
and_or a r = of_last Prod.or (at_sort r (of_last (Prod.or_end a) of_done))

pub or_one : {ts rest : List Terminal} (a : Spelt) → ReadsAs Or ts a rest → ReadsAs One ts a rest
or_one a r = of_last Prod.one_two (of_last Prod.two_or r)

pub pre_or : {ts rest : List Terminal} (a : Spelt) → ReadsAs Pre ts a rest → ReadsAs Or ts a rest
pre_or a r = and_or a (eq_and a (cmp_eq a (sum_cmp a (mul_sum a (pre_mul a r)))))

-- an operator between two operands
pub between : {ts us rest : List Terminal} (o : BinaryOp) (a b : Spelt) → ReadsAs Pre ts a (mark (op_mark o) ∷ us) → ReadsAs Pre us b rest → ReadsAs Or ts (operation o a b) rest
between op.Or a b r q = of_last Prod.or (at_sort (eq_and a (cmp_eq a (sum_cmp a (mul_sum a (pre_mul a r))))) (of_last (Prod.or_more a) (of_opens (under_sort (eq_and b (cmp_eq b (sum_cmp b (mul_sum b (pre_mul b q))))) (of_last (Prod.or_end (operation op.Or a b)) of_done)))))
between op.And a b r q = and_or _ (of_last Prod.and (at_sort (cmp_eq a (sum_cmp a (mul_sum a (pre_mul a r)))) (of_last (Prod.and_more a) (of_opens (under_sort (cmp_eq b (sum_cmp b (mul_sum b (pre_mul b q)))) (of_last (Prod.and_end (operation op.And a b)) of_done))))))
between op.Eq a b r q = and_or _ (eq_and _ (of_last Prod.eq (at_sort (sum_cmp a (mul_sum a (pre_mul a r))) (of_last (Prod.eq_equal a) (of_opens (under_sort (sum_cmp b (mul_sum b (pre_mul b q))) (of_last (Prod.eq_end (operation op.Eq a b)) of_done)))))))
between op.Ne a b r q = and_or _ (eq_and _ (of_last Prod.eq (at_sort (sum_cmp a (mul_sum a (pre_mul a r))) (of_last (Prod.eq_unequal a) (of_opens (under_sort (sum_cmp b (mul_sum b (pre_mul b q))) (of_last (Prod.eq_end (operation op.Ne a b)) of_done)))))))
between op.Lt a b r q = and_or _ (eq_and _ (cmp_eq _ (of_last Prod.cmp (at_sort (mul_sum a (pre_mul a r)) (of_last (Prod.cmp_less a) (of_opens (under_sort (mul_sum b (pre_mul b q)) (of_last (Prod.cmp_end (operation op.Lt a b)) of_done))))))))
between op.Le a b r q = and_or _ (eq_and _ (cmp_eq _ (of_last Prod.cmp (at_sort (mul_sum a (pre_mul a r)) (of_last (Prod.cmp_less_equal a) (of_opens (under_sort (mul_sum b (pre_mul b q)) (of_last (Prod.cmp_end (operation op.Le a b)) of_done))))))))
between op.Gt a b r q = and_or _ (eq_and _ (cmp_eq _ (of_last Prod.cmp (at_sort (mul_sum a (pre_mul a r)) (of_last (Prod.cmp_greater a) (of_opens (under_sort (mul_sum b (pre_mul b q)) (of_last (Prod.cmp_end (operation op.Gt a b)) of_done))))))))
between op.Ge a b r q = and_or _ (eq_and _ (cmp_eq _ (of_last Prod.cmp (at_sort (mul_sum a (pre_mul a r)) (of_last (Prod.cmp_greater_equal a) (of_opens (under_sort (mul_sum b (pre_mul b q)) (of_last (Prod.cmp_end (operation op.Ge a b)) of_done))))))))
between op.Add a b r q = and_or _ (eq_and _ (cmp_eq _ (sum_cmp _ (of_last Prod.sum (at_sort (pre_mul a r) (of_last (Prod.sum_plus a) (of_opens (under_sort (pre_mul b q) (of_last (Prod.sum_end (operation op.Add a b)) of_done)))))))))
between op.Sub a b r q = and_or _ (eq_and _ (cmp_eq _ (sum_cmp _ (of_last Prod.sum (at_sort (pre_mul a r) (of_last (Prod.sum_minus a) (of_opens (under_sort (pre_mul b q) (of_last (Prod.sum_end (operation op.Sub a b)) of_done)))))))))
between op.Append a b r q = and_or _ (eq_and _ (cmp_eq _ (sum_cmp _ (of_last Prod.sum (at_sort (pre_mul a r) (of_last (Prod.sum_append a) (of_opens (under_sort (pre_mul b q) (of_last (Prod.sum_end (operation op.Append a b)) of_done)))))))))
between op.Minus a b r q = and_or _ (eq_and _ (cmp_eq _ (sum_cmp _ (of_last Prod.sum (at_sort (pre_mul a r) (of_last (Prod.sum_take_out a) (of_opens (under_sort (pre_mul b q) (of_last (Prod.sum_end (operation op.Minus a b)) of_done)))))))))
between op.Mul a b r q = and_or _ (eq_and _ (cmp_eq _ (sum_cmp _ (mul_sum _ (of_last Prod.mul (at_sort r (of_last (Prod.mul_times a) (of_opens (under_sort q (of_last (Prod.mul_end (operation op.Mul a b)) of_done))))))))))
between op.Div a b r q = and_or _ (eq_and _ (cmp_eq _ (sum_cmp _ (mul_sum _ (of_last Prod.mul (at_sort r (of_last (Prod.mul_over a) (of_opens (under_sort q (of_last (Prod.mul_end (operation op.Div a b)) of_done))))))))))
between op.Rem a b r q = and_or _ (eq_and _ (cmp_eq _ (sum_cmp _ (mul_sum _ (of_last Prod.mul (at_sort r (of_last (Prod.mul_modulo a) (of_opens (under_sort q (of_last (Prod.mul_end (operation op.Rem a b)) of_done))))))))))

-- a piece is read as this at a sort, whatever follows it
pub record Says (s : Sort) (p : Piece) (w : Written) : Type 0 where
  pub height : ℕ
  pub reads : (rest : List Terminal) → ReadsAs s (p rest) (spelt w height) rest

pub says_pre : {p : Piece} {w : Written} → Says Atom p w → Says Pre p w
says_pre x = record { height = x.height; reads = λ rest. atom_pre _ (x.reads rest) }

pub says_one : {p : Piece} {w : Written} → Says Or p w → Says One p w
says_one x = record { height = x.height; reads = λ rest. or_one _ (x.reads rest) }

pub pre_says : {p : Piece} {w : Written} → Says Pre p w → Says Or p w
pre_says x = record { height = x.height; reads = λ rest. pre_or _ (x.reads rest) }

pub atom_says : {p : Piece} {w : Written} → Says Atom p w → Says One p w
atom_says x = says_one (pre_says (says_pre x))

pub two_says : {p : Piece} {w : Written} → Says Two p w → Says One p w
two_says x = record { height = x.height; reads = λ rest. of_last Prod.one_two (x.reads rest) }

pub says_par : {p : Piece} {w : Written} → Says One p w → Says (Par processes) p w
says_par {p} {w} x = record { height = x.height; reads = λ rest. of_last (Prod.par processes) (at_sort (x.reads rest) (of_last (Prod.par_end processes (w ∷ []) x.height) of_done)) }

-- a process in braces, and in parentheses
pub says_braced : {p : Piece} {w : Written} → Says (Par processes) p w → Says Atom (braced p) w
says_braced {p} {w} x = record {
  height = _;
  reads = λ rest. of_last Prod.atom_brace (of_opens (of_last Prod.brace_some (under_sort (x.reads (mark marks.CloseBrace ∷ rest)) (of_last (Prod.brace_close (spelt w x.height)) (of_sign of_done)))));
}

pub says_grouped : {p : Piece} {w : Written} → Says (Par processes) p w → Says Atom (grouped p) w
says_grouped {p} {w} x = record {
  height = _;
  reads = λ rest. of_last Prod.atom_open (of_opens (under_sort (x.reads (mark marks.Close ∷ rest)) (of_last (Prod.group_close processes (spelt w x.height)) (of_sign of_done))));
}

-- patterns
pub not_says : {p : Piece} {w : Written} → Says PAtom p w → Says PNot p w
not_says x = record { height = x.height; reads = λ rest. of_last Prod.pnot_atom (x.reads rest) }

pub alt_says : {p : Piece} {w : Written} → Says PNot p w → Says PAlt p w
alt_says {p} {w} x = record { height = x.height; reads = λ rest. of_last Prod.palt (at_sort (of_last Prod.pand (at_sort (x.reads rest) (of_last (Prod.pand_end (spelt w x.height)) of_done))) (of_last (Prod.palt_end (spelt w x.height)) of_done)) }

pub pone_says : {p : Piece} {w : Written} → Says PAlt p w → Says POne p w
pone_says x = record { height = x.height; reads = λ rest. of_last Prod.pone_alt (x.reads rest) }

pub patom_says : {p : Piece} {w : Written} → Says PAtom p w → Says POne p w
patom_says x = pone_says (alt_says (not_says x))

pub says_ppar : {p : Piece} {w : Written} → Says POne p w → Says (Par patterns) p w
says_ppar {p} {w} x = record { height = x.height; reads = λ rest. of_last (Prod.par patterns) (at_sort (x.reads rest) (of_last (Prod.par_end patterns (w ∷ []) x.height) of_done)) }

pub pattern_braced : {p : Piece} {w : Written} → Says (Par patterns) p w → Says PAtom (braced p) w
pattern_braced {p} {w} x = record {
  height = _;
  reads = λ rest. of_last Prod.patom_brace (of_opens (of_last Prod.pbrace_some (under_sort (x.reads (mark marks.CloseBrace ∷ rest)) (of_last (Prod.pbrace_close (spelt w x.height)) (of_sign of_done)))));
}

pub pattern_grouped : {p : Piece} {w : Written} → Says (Par patterns) p w → Says PAtom (grouped p) w
pattern_grouped {p} {w} x = record {
  height = _;
  reads = λ rest. of_last Prod.patom_open (of_opens (under_sort (x.reads (mark marks.Close ∷ rest)) (of_last (Prod.group_close patterns (spelt w x.height)) (of_sign of_done))));
}
