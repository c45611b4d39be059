-- Each form is read, of constituents that are read.
use Rattle.std.proofs.Common.{◌≡◌, ℕ, ◌+◌, ◌-◌, cond, List, ◌∷◌, map as each, length, refl, arith}
use Rattle.calculus.specs.declared.plain.UnaryOp.TheVariants as unary_op
use Rattle.calculus.specs.Tree.{Label, bool, int, str, uri, bytes, fresh, var, name_var, list, tuple, set, dict, send, receive, new, match, bundle, unary, binary, method, Tree, Trees}
use Rattle.calculus.specs.Shape.{count, listed}
use Rattle.calculus.specs.Code.{codes}
use Rattle.calculus.specs.Form.{term, part, pat, pair_of, part_kids, Scope, IsPlain}
use Rattle.calculus.specs.Printed.{variable_text, is_atom, is_drop}
use Rattle.calculus.specs.Written.{closed, Written, form_of_one}
use Rattle.grammar.specs.Productions.{Prod}
use Rattle.grammar.specs.Rules.{Par, One, Two, New, For, Match, Atom, POne}
use Rattle.grammar.specs.Spells.{of_done, of_text, of_last}
use Rattle.grammar.specs.Terminals.{text, a_word}
use Rattle.grammar.specs.Values.{processes, patterns, variable_of}
use Rattle.printed_spelling.specs.Spelled.{part_of, in_order_of as written_in_order}
use Rattle.printed_spelling.proofs.Pieces.{Piece, first_piece, in_order_of, part_piece}
use Rattle.printed_spelling.proofs.Both.{Both, Single, single, Beside, beside_none, beside_also, without_trees, both_arranged, both_first, turned_none, turned_also}
use Rattle.printed_spelling.proofs.Climbing.{at_sort, Says, two_says}
use Rattle.printed_spelling.proofs.Pairs.{PairSays, says_map}
use Rattle.printed_spelling.proofs.TextNames.{by_word, by_fresh, says_send}
use Rattle.printed_spelling.proofs.Binds.{says_receive, says_match, says_new}
use Rattle.printed_spelling.proofs.Ground.{ground_bool, ground_int, ground_str, ground_uri, ground_bytes, ground_atom}
use Rattle.printed_spelling.proofs.Claims.{DropSays, row_says, Claim, KidsClaim}
use Rattle.printed_spelling.proofs.Terms.{first_is}
use Rattle.printed_spelling.proofs.Forms.{says_binary, says_not, says_minus, says_method, says_drop, says_fresh, says_list, says_set, says_bundle, says_tuple}

pub whole_term : (t : Tree) (x : List Piece) (w : Written) → Claim term t x w → Single (Says (Par processes)) x w
whole_term t x w (single m) = single m.whole

pub whole_pattern : (t : Tree) (x : List Piece) (w : Written) → Claim pat t x w → Single (Says (Par patterns)) x w
whole_pattern t x w (single m) = single m.whole

pub lengths : {R : Tree → List Piece → Written → Type 0} {ts : Trees} {xs : List (List Piece)} {ws : List Written} → Beside R ts xs ws → length ws ≡ length (listed ts)
lengths beside_none = refl
lengths (beside_also r h) = let e = lengths h in cc

pub counted : {R : Tree → List Piece → Written → Type 0} {ts : Trees} {xs : List (List Piece)} {ws : List Written} → Beside R ts xs ws → length ws ≡ count ts
counted beside_none = refl
counted (beside_also r h) = omega (arith, counted h)

-- the members of a list, a tuple, a set and a map
members : {ts : Trees} {xs : List (List Piece)} {ws : List Written} → Beside (Claim term) ts xs ws → Both (Says (Par processes)) (each first_piece xs) ws
members h = both_first (Says (Par processes)) first_piece first_is (without_trees whole_term h)

pub pattern_members : {ts : Trees} {xs : List (List Piece)} {ws : List Written} → Beside (Claim pat) ts xs ws → Both (Says (Par patterns)) (each first_piece xs) ws
pattern_members h = both_first (Says (Par patterns)) first_piece first_is (without_trees whole_pattern h)

ordered_members : {ts : Trees} {xs : List (List Piece)} {ws : List Written} → Beside (Claim term) ts xs ws → Both (Says (Par processes)) (in_order_of ts xs) (written_in_order ts ws)
ordered_members {ts} h = both_first (Says (Par processes)) first_piece first_is (both_arranged (Single (Says (Par processes))) (codes ts) (without_trees whole_term h))

ordered_pairs : {ts : Trees} {xs : List (List Piece)} {ws : List Written} → Beside (Claim (pair_of term)) ts xs ws → Both (PairSays processes) (in_order_of ts xs) (written_in_order ts ws)
ordered_pairs {ts} h = both_first (PairSays processes) first_piece first_is (both_arranged (Single (PairSays processes)) (codes ts) (without_trees (λ t x w m. m) h))

-- a variable
says_variable : (x : List ℕ) → Says Atom (λ r. text a_word x ∷ r) (variable_of x)
says_variable x = record { height = _; reads = λ rest. of_last Prod.atom_word (of_text of_done) }

-- a receive, a `new` and a `match` as a part of a process, and closed in a pattern
of_for : {p : Piece} {w : Written} → Says For p w → Says Two p w
of_for x = record { height = x.height; reads = λ rest. of_last Prod.two_for (x.reads rest) }

of_match : {p : Piece} {w : Written} → Says Match p w → Says Two p w
of_match x = record { height = x.height; reads = λ rest. of_last Prod.two_match (x.reads rest) }

of_new : {p : Piece} {w : Written} → Says New p w → Says One p w
of_new x = record { height = x.height; reads = λ rest. of_last Prod.one_new (x.reads rest) }

pub closed_for : {p : Piece} {w : Written} → Says For p w → Says POne p (form_of_one closed w)
closed_for x = record { height = x.height; reads = λ rest. of_last Prod.pone_for (at_sort (x.reads rest) of_done) }

pub closed_match : {p : Piece} {w : Written} → Says Match p w → Says POne p (form_of_one closed w)
closed_match x = record { height = x.height; reads = λ rest. of_last Prod.pone_match (at_sort (x.reads rest) of_done) }

pub closed_new : {p : Piece} {w : Written} → Says New p w → Says POne p (form_of_one closed w)
closed_new x = record { height = x.height; reads = λ rest. of_last Prod.pone_new (at_sort (x.reads rest) of_done) }

-- a part of a process is read, where it is an atom or not
pub part_reads : (v : Scope) (l : Label) (ts : Trees) (d n : ℕ) (xs : List (List Piece)) (ws : List Written) → IsPlain part v l ts → KidsClaim (part_kids l) ts xs ws
    → Says (cond (is_atom l) Atom One) (part_piece part l ts d n xs) (part_of processes l ts d n ws)
part_reads v (bool b) _ d n _ _ i turned_none = ground_atom (ground_bool processes b)
part_reads v (int z) _ d n _ _ i turned_none = ground_atom (ground_int processes z i)
part_reads v (str x) _ d n _ _ i turned_none = ground_atom (ground_str processes x)
part_reads v (uri x) _ d n _ _ i turned_none = ground_atom (ground_uri processes x)
part_reads v (bytes x) _ d n _ _ i turned_none = ground_atom (ground_bytes processes x)
part_reads v (fresh x) _ d n _ _ i turned_none = says_fresh x
part_reads v (var j) _ d n _ _ i turned_none = says_variable (variable_text (d - (j + 1)))
part_reads v (name_var j) _ d n _ _ i turned_none = says_drop (variable_text (d - (j + 1)))
part_reads v list ts d n xs ws i h = says_list (members h)
part_reads v tuple ts d n xs ws i h = says_tuple (members h) (omega (arith, i, counted h))
part_reads v set ts d n xs ws i h = says_set (ordered_members h)
part_reads v dict ts d n xs ws i h = says_map (ordered_pairs h)
part_reads v (send q) _ d n _ _ i (turned_also (single c) (turned_also (row_says us e ms) turned_none)) = says_send q c.name ms
part_reads v (receive k) _ d n _ _ i (turned_also (row_says us e ms) (turned_also (single b) turned_none)) = two_says (of_for (says_receive k ms b.whole (omega (arith, e, i.0)) (omega (arith, e, i.1))))
part_reads v (new os) _ d n _ _ i (turned_also (single b) turned_none) = of_new (says_new b.whole os d i)
part_reads v match _ d n _ _ i (turned_also (single t) (turned_also (row_says us e ms) turned_none)) = two_says (of_match (says_match t.whole ms (omega (arith, e, i))))
part_reads v (bundle k) _ d n _ _ i (turned_also (single b) turned_none) = says_bundle k b.whole
part_reads v (unary unary_op.Not) _ d n _ _ i (turned_also (single a) turned_none) = says_not a.operand
part_reads v (unary unary_op.Neg) _ d n _ _ i (turned_also (single a) turned_none) = says_minus a.whole
part_reads v (binary o) _ d n _ _ i (turned_also (single a) (turned_also (single b) turned_none)) = says_binary o a.operand b.operand
part_reads v (method m) _ d n _ _ i (turned_also (single a) (turned_also (row_says us e ms) turned_none)) = says_method m a.operand ms
part_reads v _ ts d n xs ws i h = absurd h

-- a drop is read as a name without its `*`
pub part_dropped : (l : Label) (ts : Trees) (d n : ℕ) (xs : List (List Piece)) (ws : List Written) → DropSays (is_drop l) (part_piece part l ts d n xs) (part_of processes l ts d n ws)
part_dropped (name_var j) ts d n xs ws = by_word (variable_text (d - (j + 1)))
part_dropped (fresh x) ts d n xs ws = by_fresh x
part_dropped _ ts d n xs ws = tt
