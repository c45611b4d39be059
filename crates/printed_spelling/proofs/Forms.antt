-- The forms of processes and patterns, and what stands around them, are read.
use Rattle.std.proofs.Common.{ℕ, ◌≤◌, List, ◌∷◌, length, refl, arith}
use Rattle.calculus.specs.declared.plain.BinaryOp.{BinaryOp}
use Rattle.calculus.specs.declared.plain.UnaryOp.TheVariants as unary_op
use Rattle.calculus.specs.declared.plain.Rights.{Rights}
use Rattle.calculus.specs.Tree.{tuple}
use Rattle.calculus.specs.Written.{Written, form_of, in_process, in_pattern}
use Rattle.calculus.specs.Meaning.{row_of as a_row}
use Rattle.grammar.specs.declared.mark.Mark.TheVariants as marks
use Rattle.grammar.specs.Productions.{Prod}
use Rattle.grammar.specs.Grammar.{bundle_mark}
use Rattle.grammar.specs.Rules.{round, square, Par, One, Atom, POne, PAtom}
use Rattle.grammar.specs.Spells.{of_done, of_sign, of_opens, of_opens_next, of_text, of_at, of_last}
use Rattle.grammar.specs.Terminals.{text, mark, a_word, a_fresh_name}
use Rattle.grammar.specs.Values.{spelt, processes, patterns, opened, operation, drop_of, name_of, fresh_of, unary_of, method_of, list_of, set_of, both_of, either_of, not_of, same_of, bundle_of, seq_of, list_pattern_of, set_pattern_of}
use Rattle.printed_spelling.proofs.Pieces.{Piece, within, braced, grouped, with_commas, tuple_piece, with_rest, op_mark}
use Rattle.printed_spelling.proofs.Both.{Both, both_none, both_also}
use Rattle.printed_spelling.proofs.Climbing.{at_sort, under_sort, between, Says, atom_says, says_one, says_pre, pre_says, says_par, says_braced, says_grouped, not_says, alt_says, pone_says, patom_says, says_ppar, pattern_grouped}
use Rattle.printed_spelling.proofs.Sequences.{says_row}
use Rattle.printed_spelling.proofs.Pairs.{RestSays, says_seq}

-- an operator between operands, in parentheses
pub says_binary : (o : BinaryOp) {p q : Piece} {a b : Written} → Says Atom p a → Says Atom q b → Says One (grouped (λ r. p (mark (op_mark o) ∷ q r))) (operation o (spelt a 0) (spelt b 0)).tree
says_binary o {p} {q} {a} {b} x y =
    let m = says_pre x in
    let n = says_pre y in
    atom_says (says_grouped (says_par (says_one (record { height = _; reads = λ rest. between o (spelt a m.height) (spelt b n.height) (m.reads _) (n.reads rest) }))))

-- an operator before its operand, in parentheses
pub says_not : {p : Piece} {w : Written} → Says Atom p w → Says One (grouped (λ r. mark marks.Not ∷ p r)) (unary_of unary_op.Not w)
says_not x =
    let m = says_pre x in
    atom_says (says_grouped (says_par (says_one (pre_says (record { height = _; reads = λ rest. of_last Prod.pre_not (of_opens (under_sort (m.reads rest) of_done)) })))))

pub says_minus : {p : Piece} {w : Written} → Says (Par processes) p w → Says One (grouped (λ r. mark marks.Minus ∷ braced p r)) (unary_of unary_op.Neg w)
says_minus x =
    let m = says_pre (says_braced x) in
    atom_says (says_grouped (says_par (says_one (pre_says (record { height = _; reads = λ rest. of_last Prod.pre_minus (of_sign (of_opens_next refl (under_sort (m.reads rest) of_done))) })))))

-- a method call
pub says_method : (m : List ℕ) {p : Piece} {w : Written} {ps : List Piece} {ws : List Written} → Says Atom p w → Both (Says (Par processes)) ps ws
    → Says One (λ r. grouped p (mark marks.Dot ∷ text a_word m ∷ grouped (with_commas ps) r)) (method_of m w (a_row ws))
says_method m {p} {w} {ws = ws} x xs =
    let y = says_grouped (says_par (atom_says x)) in
    let z = says_row processes round xs in
    says_one (pre_says (record {
      height = _;
      reads = λ rest. of_last Prod.pre_meth (of_last Prod.meth (of_at Prod.drop_atom (y.reads _) (of_last (Prod.meth_call (spelt w y.height)) (of_opens (of_text (of_sign (under_sort (z.reads rest) (of_last (Prod.meth_end (opened (method_of m w (a_row ws)) _)) of_done))))))));
    }))

-- the drop of a variable, and of a fresh name
pub says_drop : (x : List ℕ) → Says One (λ r. mark marks.Star ∷ text a_word x ∷ r) (drop_of (name_of x))
says_drop x = says_one (pre_says (record { height = _; reads = λ rest. of_last Prod.pre_meth (of_last Prod.meth (at_sort (of_last Prod.drop_star (of_sign (of_last Prod.dropped_word (of_text of_done)))) (of_last (Prod.meth_end _) of_done))) }))

pub says_fresh : (x : List ℕ) → Says One (λ r. mark marks.Star ∷ text a_fresh_name x ∷ r) (drop_of (fresh_of x))
says_fresh x = says_one (pre_says (record { height = _; reads = λ rest. of_last Prod.pre_meth (of_last Prod.meth (at_sort (of_last Prod.drop_star (of_sign (of_last Prod.dropped_fresh (of_text of_done)))) (of_last (Prod.meth_end _) of_done))) }))

-- a list and a set
pub says_list : {ps : List Piece} {ws : List Written} → Both (Says (Par processes)) ps ws → Says Atom (within marks.OpenSquare marks.CloseSquare (with_commas ps)) (list_of (a_row ws))
says_list xs = let y = says_row processes square xs in record { height = _; reads = λ rest. of_last Prod.atom_list (of_opens (under_sort (y.reads rest) of_done)) }

pub says_set : {ps : List Piece} {ws : List Written} → Both (Says (Par processes)) ps ws → Says Atom (λ r. mark marks.Set ∷ grouped (with_commas ps) r) (set_of (a_row ws))
says_set xs = let y = says_row processes round xs in record { height = _; reads = λ rest. of_last Prod.atom_set (of_opens (of_sign (under_sort (y.reads rest) of_done))) }

-- a bundle
pub says_bundle : (k : Rights) {p : Piece} {w : Written} → Says (Par processes) p w → Says One (λ r. mark (bundle_mark k) ∷ braced p r) (bundle_of processes k w)
says_bundle k x = record { height = _; reads = λ rest. of_last Prod.one_two (of_last Prod.two_bundle (of_last (Prod.bundle processes k) (of_opens (of_sign (under_sort (x.reads _) (of_sign of_done)))))) }

pub says_pattern_bundle : (k : Rights) {p : Piece} {w : Written} → Says (Par patterns) p w → Says POne (λ r. mark (bundle_mark k) ∷ braced p r) (bundle_of patterns k w)
says_pattern_bundle k x = record { height = _; reads = λ rest. of_last Prod.pone_bundle (of_last (Prod.bundle patterns k) (of_opens (of_sign (under_sort (x.reads _) (of_sign of_done))))) }

-- a tuple
pub says_tuple : {ps : List Piece} {ws : List Written} → Both (Says (Par processes)) ps ws → 1 ≤ length ws → Says Atom (grouped (tuple_piece ps)) (form_of (in_process tuple) ws)
says_tuple both_none i = absurd (omega (arith, i))
says_tuple (both_also {b = w} x both_none) i =
    let y = says_row processes round both_none in
    record { height = _; reads = λ rest. of_last Prod.atom_open (of_opens (under_sort (x.reads _) (of_last (Prod.group_tuple processes (spelt w x.height)) (of_sign (under_sort (y.reads rest) of_done))))) }
says_tuple (both_also {b = w} x (both_also m ms)) i =
    let y = says_row processes round (both_also m ms) in
    record { height = _; reads = λ rest. of_last Prod.atom_open (of_opens (under_sort (x.reads _) (of_last (Prod.group_tuple processes (spelt w x.height)) (of_sign (under_sort (y.reads rest) of_done))))) }

pub says_pattern_tuple : {ps : List Piece} {ws : List Written} → Both (Says (Par patterns)) ps ws → 1 ≤ length ws → Says PAtom (grouped (tuple_piece ps)) (form_of (in_pattern tuple) ws)
says_pattern_tuple both_none i = absurd (omega (arith, i))
says_pattern_tuple (both_also {b = w} x both_none) i =
    let y = says_row patterns round both_none in
    record { height = _; reads = λ rest. of_last Prod.patom_open (of_opens (under_sort (x.reads _) (of_last (Prod.group_tuple patterns (spelt w x.height)) (of_sign (under_sort (y.reads rest) of_done))))) }
says_pattern_tuple (both_also {b = w} x (both_also m ms)) i =
    let y = says_row patterns round (both_also m ms) in
    record { height = _; reads = λ rest. of_last Prod.patom_open (of_opens (under_sort (x.reads _) (of_last (Prod.group_tuple patterns (spelt w x.height)) (of_sign (under_sort (y.reads rest) of_done))))) }

-- patterns that join two, and the one that takes what another does not
pub says_both : {p q : Piece} {a b : Written} → Says PAtom p a → Says PAtom q b → Says POne (grouped (λ r. p (mark marks.Both ∷ q r))) (both_of a b)
says_both {a} {b} x y =
    let m = not_says x in
    let n = not_says y in
    patom_says (pattern_grouped (says_ppar (pone_says (record {
      height = _;
      reads = λ rest. of_last Prod.palt (at_sort (of_last Prod.pand (at_sort (m.reads _) (of_last (Prod.pand_more (spelt a m.height)) (of_opens (under_sort (n.reads rest) (of_last (Prod.pand_end (opened (both_of a b) _)) of_done)))))) (of_last (Prod.palt_end (opened (both_of a b) _)) of_done));
    }))))

pub says_either : {p q : Piece} {a b : Written} → Says PAtom p a → Says PAtom q b → Says POne (grouped (λ r. p (mark marks.Either ∷ q r))) (either_of a b)
says_either {a} {b} x y =
    let m = not_says x in
    let n = not_says y in
    patom_says (pattern_grouped (says_ppar (pone_says (record {
      height = _;
      reads = λ rest. of_last Prod.palt (at_sort (of_last Prod.pand (at_sort (m.reads _) (of_last (Prod.pand_end (spelt a m.height)) of_done))) (of_last (Prod.palt_more (spelt a m.height)) (of_opens (under_sort (of_last Prod.pand (at_sort (n.reads rest) (of_last (Prod.pand_end (spelt b n.height)) of_done))) (of_last (Prod.palt_end (opened (either_of a b) _)) of_done)))));
    }))))

pub says_not_this : {p : Piece} {w : Written} → Says PAtom p w → Says POne (λ r. mark marks.Tilde ∷ p r) (not_of w)
says_not_this {w} x =
    let m = not_says x in
    pone_says (alt_says (record { height = _; reads = λ rest. of_last Prod.pnot_tilde (of_opens (under_sort (m.reads rest) of_done)) }))

-- a process in a pattern
pub says_same : {p : Piece} {w : Written} → Says (Par processes) p w → Says PAtom (λ r. mark marks.Assign ∷ braced p r) (same_of w)
says_same x = record { height = _; reads = λ rest. of_last Prod.patom_same (of_opens (of_last Prod.same_block (of_sign (under_sort (x.reads _) (of_sign of_done))))) }

-- patterns of lists and sets
pub says_list_pattern : {ps qs : List Piece} {ws : List Written} {q : Written} → Both (Says (Par patterns)) ps ws → RestSays qs q
    → Says PAtom (within marks.OpenSquare marks.CloseSquare (with_rest ps qs)) (list_pattern_of (seq_of ws 0 q).tree)
says_list_pattern xs e = let y = says_seq square xs e in record { height = _; reads = λ rest. of_last Prod.patom_list (of_opens (under_sort (y.reads rest) of_done)) }

pub says_set_pattern : {ps qs : List Piece} {ws : List Written} {q : Written} → Both (Says (Par patterns)) ps ws → RestSays qs q
    → Says PAtom (λ r. mark marks.Set ∷ grouped (with_rest ps qs) r) (set_pattern_of (seq_of ws 0 q).tree)
says_set_pattern xs e = let y = says_seq round xs e in record { height = _; reads = λ rest. of_last Prod.patom_set (of_opens (of_sign (under_sort (y.reads rest) of_done))) }
