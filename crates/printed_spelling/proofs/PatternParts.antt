-- Each form of a pattern is read, of constituents that are read.
use Rattle.std.proofs.Common.{ℕ, List, ◌∷◌, arith}
use Rattle.calculus.specs.declared.plain.Simple.{Simple}
use Rattle.calculus.specs.Tree.{Label, bool, int, str, uri, bytes, tuple, send, receive, new, match, bundle, any, some_process, some_name, simple, same, both, either, not_this, list_pattern, set_pattern, map_pattern, Trees}
use Rattle.calculus.specs.Form.{pat_part, name_part, pat_kids, name_kids, Scope, IsPlain}
use Rattle.calculus.specs.Printed.{variable_text, is_bare_name}
use Rattle.calculus.specs.Written.{Written}
use Rattle.grammar.specs.Productions.{Prod}
use Rattle.grammar.specs.Rules.{PAtom}
use Rattle.grammar.specs.Spells.{of_done, of_sign, of_text, of_last}
use Rattle.grammar.specs.Grammar.{type_mark}
use Rattle.grammar.specs.Terminals.{text, mark, a_word}
use Rattle.grammar.specs.declared.mark.Mark.TheVariants as marks
use Rattle.grammar.specs.Values.{patterns, bound_of, any_of, type_of}
use Rattle.printed_spelling.specs.Spelled.{part_of}
use Rattle.printed_spelling.proofs.Pieces.{Piece, part_piece}
use Rattle.printed_spelling.proofs.Both.{single, turned_none, turned_also}
use Rattle.printed_spelling.proofs.Climbing.{Says}
use Rattle.printed_spelling.proofs.Pairs.{says_map_pattern}
use Rattle.printed_spelling.proofs.TextNames.{as_word, as_any, says_pattern_send}
use Rattle.printed_spelling.proofs.Binds.{says_receive, says_match, says_new}
use Rattle.printed_spelling.proofs.Ground.{ground_bool, ground_int, ground_str, ground_uri, ground_bytes, ground_patom}
use Rattle.printed_spelling.proofs.Claims.{PatPartSays, NamePartSays, row_says, KidsClaim}
use Rattle.printed_spelling.proofs.Forms.{says_pattern_bundle, says_pattern_tuple, says_both, says_either, says_not_this, says_same, says_list_pattern, says_set_pattern}
use Rattle.printed_spelling.proofs.Parts.{counted, pattern_members, closed_for, closed_match, closed_new}

says_bound : (x : List ℕ) → Says PAtom (λ r. text a_word x ∷ r) (bound_of x)
says_bound x = record { height = _; reads = λ rest. of_last Prod.patom_word (of_text of_done) }

says_any : Says PAtom (λ r. mark marks.Underscore ∷ r) any_of
says_any = record { height = _; reads = λ rest. of_last Prod.patom_any (of_sign of_done) }

says_type : (k : Simple) → Says PAtom (λ r. mark (type_mark k) ∷ r) (type_of k)
says_type k = record { height = _; reads = λ rest. of_last (Prod.patom_type k) (of_sign of_done) }

-- a part of a pattern is read, where it is an atom or not
pub pattern_reads : (v : Scope) (l : Label) (ts : Trees) (d n : ℕ) (xs : List (List Piece)) (ws : List Written) → IsPlain pat_part v l ts → KidsClaim (pat_kids l) ts xs ws
    → PatPartSays l (part_piece pat_part l ts d n xs) (part_of patterns l ts d n ws)
pattern_reads v (bool b) _ d n _ _ i turned_none = ground_patom (ground_bool patterns b)
pattern_reads v (int z) _ d n _ _ i turned_none = ground_patom (ground_int patterns z i)
pattern_reads v (str x) _ d n _ _ i turned_none = ground_patom (ground_str patterns x)
pattern_reads v (uri x) _ d n _ _ i turned_none = ground_patom (ground_uri patterns x)
pattern_reads v (bytes x) _ d n _ _ i turned_none = ground_patom (ground_bytes patterns x)
pattern_reads v any _ d n _ _ i turned_none = says_any
pattern_reads v some_process _ d n _ _ i turned_none = says_bound (variable_text n)
pattern_reads v (simple k) _ d n _ _ i turned_none = says_type k
pattern_reads v same _ d n _ _ i (turned_also (single b) turned_none) = says_same b.whole
pattern_reads v both _ d n _ _ i (turned_also (single a) (turned_also (single b) turned_none)) = says_both a.operand b.operand
pattern_reads v either _ d n _ _ i (turned_also (single a) (turned_also (single b) turned_none)) = says_either a.operand b.operand
pattern_reads v not_this _ d n _ _ i (turned_also (single a) turned_none) = says_not_this a.operand
pattern_reads v list_pattern _ d n _ _ i (turned_also (row_says us e ms) (turned_also q turned_none)) = says_list_pattern ms q
pattern_reads v tuple ts d n xs ws i h = says_pattern_tuple (pattern_members h) (omega (arith, i, counted h))
pattern_reads v set_pattern _ d n _ _ i (turned_also (row_says us e ms) (turned_also q turned_none)) = says_set_pattern ms q
pattern_reads v map_pattern _ d n _ _ i (turned_also (row_says us e ms) (turned_also q turned_none)) = says_map_pattern ms q
pattern_reads v (send q) _ d n _ _ i (turned_also (single c) (turned_also (row_says us e ms) turned_none)) = says_pattern_send q c ms
pattern_reads v (bundle k) _ d n _ _ i (turned_also (single b) turned_none) = says_pattern_bundle k b.whole
pattern_reads v (receive k) _ d n _ _ i (turned_also (row_says us e ms) (turned_also (single b) turned_none)) = closed_for (says_receive k ms b.whole (omega (arith, e, i.0)) (omega (arith, e, i.1)))
pattern_reads v (new os) _ d n _ _ i (turned_also (single b) turned_none) = closed_new (says_new b.whole os d i)
pattern_reads v match _ d n _ _ i (turned_also (single t) (turned_also (row_says us e ms) turned_none)) = closed_match (says_match t.whole ms (omega (arith, e, i)))
pattern_reads v _ ts d n xs ws i h = absurd h

-- what is asked of the one part of a name pattern is asked of a part of a pattern
as_part : (v : Scope) (l : Label) (ts : Trees) → IsPlain name_part v l ts → IsPlain pat_part v l ts
as_part v (bundle k) ts i = i
as_part v _ ts i = i

-- the one part of a name pattern
pub name_reads : (v : Scope) (l : Label) (ts : Trees) (d n : ℕ) (xs : List (List Piece)) (ws : List Written) → IsPlain name_part v l ts → KidsClaim (name_kids l) ts xs ws
    → NamePartSays (is_bare_name l) l (part_piece name_part l ts d n xs) (part_of patterns l ts d n ws)
name_reads v some_name _ d n _ _ i turned_none = as_word (variable_text n)
name_reads v any _ d n _ _ i turned_none = as_any
name_reads v l ts d n xs ws i h = pattern_reads v l ts d n xs ws (as_part v l ts i) h
