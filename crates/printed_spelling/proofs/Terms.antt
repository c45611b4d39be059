-- Processes of parts, and patterns of parts, are read.
use Rattle.std.proofs.Common.{◌≡◌, ◌+◌, leb, Bool, true, false, cond, List, [], ◌∷◌, map as each, refl, arith}
use Rattle.std.specs.Prelude.{drop}
use Rattle.std.proofs.lemmas.Bool.{leb-true, leb-false}
use Rattle.calculus.specs.Tree.{Label, Tree, Trees}
use Rattle.calculus.specs.Shape.{count, listed, label_of}
use Rattle.calculus.specs.Code.{codes}
use Rattle.calculus.specs.Form.{part, pat_part, name_part, all}
use Rattle.calculus.specs.Normal.{placed_by, by_code}
use Rattle.calculus.specs.Printed.{is_atom, is_drop, is_bare_name}
use Rattle.calculus.specs.Written.{Written}
use Rattle.grammar.specs.declared.mark.Mark.TheVariants as marks
use Rattle.grammar.specs.Productions.{Prod}
use Rattle.grammar.specs.Rules.{Par, One, Atom, POne, PAtom}
use Rattle.grammar.specs.Spells.{of_done, of_sign, of_last}
use Rattle.grammar.specs.Terminals.{mark}
use Rattle.grammar.specs.Values.{processes, patterns, par_of, quote_of, quoted_of}
use Rattle.printed_spelling.specs.Spelled.{dropped, name_pattern, in_order_of as written_in_order}
use Rattle.printed_spelling.proofs.Pieces.{Piece, braced, first_piece, parallel_piece, in_order_of, name_pattern_piece}
use Rattle.printed_spelling.proofs.Both.{Both, both_none, both_also, Single, single, Beside, beside_none, beside_also, without_trees, both_arranged, both_first}
use Rattle.printed_spelling.proofs.Climbing.{Says, atom_says, says_par, says_braced, patom_says, says_ppar, pattern_braced}
use Rattle.printed_spelling.proofs.Sequences.{says_parts}
use Rattle.printed_spelling.proofs.TextNames.{Channel, by_quote, PatternChannel, as_quote}
use Rattle.printed_spelling.proofs.Claims.{TermSays, PatSays, DropSays, NamePartSays, Claim, KidsClaim}

-- parts that are atoms are parts
as_one : (b : Bool) {p : Piece} {w : Written} → Says (cond b Atom One) p w → Says One p w
as_one true x = atom_says x
as_one false x = x

as_pone : (b : Bool) {p : Piece} {w : Written} → Says (cond b PAtom POne) p w → Says POne p w
as_pone true x = patom_says x
as_pone false x = x

-- one part as an operand
one_operand : (b : Bool) {p : Piece} {w : Written} → Says (cond b Atom One) p w → Says Atom (cond b p (braced p)) w
one_operand true x = x
one_operand false x = says_braced (says_par x)

one_pattern : (b : Bool) {p : Piece} {w : Written} → Says (cond b PAtom POne) p w → Says PAtom (cond b p (braced p)) w
one_pattern true x = x
one_pattern false x = pattern_braced (says_ppar x)

-- one part as a name
one_name : (b : Bool) (p q : Piece) (w : Written) → DropSays b p w → Says Atom q w → Channel (cond b (λ r. drop 1 (p r)) (λ r. mark marks.At ∷ q r)) (cond b (dropped w) (quote_of w))
one_name true p q w x y = x
one_name false p q w x y = by_quote y

-- parts in parallel, of which there may be none
says_parallel : {ps : List Piece} {ws : List Written} → Both (Says One) ps ws → Says (Par processes) (parallel_piece ps) (par_of processes ws)
says_parallel both_none = says_par (atom_says (record { height = _; reads = λ rest. of_last Prod.atom_nil (of_sign of_done) }))
says_parallel (both_also x xs) = says_parts processes x xs

says_patterns : {ps : List Piece} {ws : List Written} → Both (Says POne) ps ws → Says (Par patterns) (parallel_piece ps) (par_of patterns ws)
says_patterns both_none = says_ppar (patom_says (record { height = _; reads = λ rest. of_last Prod.patom_nil (of_sign of_done) }))
says_patterns (both_also x xs) = says_parts patterns x xs

pub first_is : (p : Piece) → first_piece (p ∷ []) ≡ p
first_is p = refl

-- the parts of a process, each as one part
part_of_term : (t : Tree) (x : List Piece) (w : Written) → Claim part t x w → Single (Says One) x w
part_of_term t x w (single m) = single (as_one (is_atom (label_of t)) m.alone)

part_of_pattern : (t : Tree) (x : List Piece) (w : Written) → Claim pat_part t x w → Single (Says POne) x w
part_of_pattern t x w (single m) = single (as_pone (is_atom (label_of t)) m)

-- a process of parts
pub says_term : {ts : Trees} {xs : List (List Piece)} {ws : List Written} → Beside (Claim part) ts xs ws
    → TermSays (listed ts) (parallel_piece (in_order_of ts xs)) (par_of processes (written_in_order ts ws))
unfolding placed_by by_code
says_term beside_none = let x = says_parallel both_none in record { whole = x; operand = says_braced x; name = by_quote (says_braced x) }
says_term (beside_also {t} (single m) beside_none) =
    let x = one_operand (is_atom (label_of t)) m.alone in
    record { whole = says_par (as_one (is_atom (label_of t)) m.alone); operand = x; name = one_name (is_drop (label_of t)) _ _ _ m.undropped x }
says_term {ts} {xs} {ws} (beside_also {t = t} m (beside_also {t = u} n ms)) =
    let x = says_parallel (both_first (Says One) first_piece first_is (both_arranged (Single (Says One)) (codes ts) (without_trees part_of_term (beside_also {t = t} m (beside_also {t = u} n ms))))) in
    record { whole = x; operand = says_braced x; name = by_quote (says_braced x) }

-- a pattern of parts
pub says_pattern : {ts : Trees} {xs : List (List Piece)} {ws : List Written} → Beside (Claim pat_part) ts xs ws → PatSays (listed ts) (parallel_piece (each first_piece xs)) (par_of patterns ws)
says_pattern beside_none = let x = says_patterns both_none in record { whole = x; operand = pattern_braced x }
says_pattern (beside_also {t} (single m) beside_none) =
    record { whole = says_ppar (as_pone (is_atom (label_of t)) m); operand = one_pattern (is_atom (label_of t)) m }
says_pattern (beside_also {t = t} m (beside_also {t = u} n ms)) =
    let x = says_patterns (both_first (Says POne) first_piece first_is (without_trees part_of_pattern (beside_also {t = t} m (beside_also {t = u} n ms)))) in
    record { whole = x; operand = pattern_braced x }

-- a name pattern of at most one part, and of any parts
one_name_pattern : (b : Bool) (l : Label) (p : Piece) (w : Written) → NamePartSays b l p w → PatternChannel (cond b p (λ r. mark marks.At ∷ cond (is_atom l) p (braced p) r)) (cond b w (quoted_of w))
one_name_pattern true l p w m = m
one_name_pattern false l p w m = as_quote (one_pattern (is_atom l) m)

pub says_name_form : (b : Bool) (ts : Trees) (xs : List (List Piece)) (ws : List Written) → leb (count ts) 1 ≡ b → KidsClaim (cond b (all name_part) (all pat_part)) ts xs ws
    → PatternChannel (name_pattern_piece (listed ts) (parallel_piece (each first_piece xs))) (name_pattern (listed ts) (par_of patterns ws))
says_name_form true _ _ _ e beside_none = as_quote (says_pattern beside_none).operand
says_name_form true _ _ _ e (beside_also {t} (single m) beside_none) = one_name_pattern (is_bare_name (label_of t)) (label_of t) _ _ m
says_name_form true _ _ _ e (beside_also m (beside_also {ts} n ms)) = absurd (omega (arith, leb-true (count ts + 1 + 1) 1 e))
says_name_form false _ _ _ e beside_none = as_quote (says_pattern beside_none).operand
says_name_form false _ _ _ e (beside_also m beside_none) = absurd (omega (arith, leb-false (0 + 1) 1 e))
says_name_form false _ _ _ e (beside_also {t = t} m (beside_also {t = u} n ms)) = as_quote (says_pattern (beside_also {t = t} m (beside_also {t = u} n ms))).operand
