-- Pairs, remainders, and the members of patterns of collections.
use Rattle.std.proofs.Common.{ℕ, max, List, [], ◌∷◌}
use Rattle.calculus.specs.Tree.{pattern}
use Rattle.calculus.specs.Meaning.{row_of, pair_of}
use Rattle.calculus.specs.Written.{around, Written, form_of_two}
use Rattle.grammar.specs.declared.mark.Mark.TheVariants as marks
use Rattle.grammar.specs.Productions.{Prod}
use Rattle.grammar.specs.Rules.{Bracket, closing, Par, Pairs, Seq, SeqTail, PPairs, Remainder, Atom, PAtom}
use Rattle.grammar.specs.Spells.{of_done, of_sign, of_opens, of_last}
use Rattle.grammar.specs.Terminals.{mark}
use Rattle.grammar.specs.Values.{spelt, Side, processes, patterns, map_of, map_pattern_of, no_rest}
use Rattle.printed_spelling.proofs.Pieces.{Piece, marked, braced, parted, with_rest}
use Rattle.printed_spelling.proofs.Both.{Both, both_none, both_also}
use Rattle.printed_spelling.proofs.Climbing.{at_sort, under_sort, Says}
use Rattle.printed_spelling.proofs.Sequences.{Goes, Turns, says_rest}

-- a key and its value
pub data PairSays (side : Side) : Piece → Written → Type 0 where
  pair_says : {p q : Piece} {a b : Written} → Says (Par side) p a → Says (Par side) q b → PairSays side (λ r. p (mark marks.Colon ∷ q r)) (pair_of (a, b))

-- a remainder, or none
pub data RestSays : List Piece → Written → Type 0 where
  rest_none : RestSays [] no_rest
  rest_some : {p : Piece} {w : Written} → Says Remainder p w → RestSays (p ∷ []) w

-- the pairs of a map
pairs_go : Goes (PairSays processes) Pairs (marked marks.Comma) (marked marks.CloseBrace) map_of
pairs_go = record {
  ends = λ acc h. record { height = _; reads = λ rest. of_last (Prod.pairs_end acc h) (of_sign of_done) };
  more = λ m acc h. one_more m acc h;
}
  where
    one_more : {p : Piece} {w : Written} → PairSays processes p w → (acc : List Written) (h : ℕ) → Turns Pairs (marked marks.Comma) p w acc h
    one_more (pair_says x y) acc h = record {
      height = max h (max x.height y.height);
      turns = λ ts v rest k. of_last (Prod.pairs_more acc h) (of_sign (under_sort (x.reads _) (of_sign (under_sort (y.reads ts) k))));
    }

pub says_map : {ps : List Piece} {ws : List Written} → Both (PairSays processes) ps ws → Says Atom (braced (parted (marked marks.Comma) ps)) (map_of ws)
says_map both_none = record { height = _; reads = λ rest. of_last Prod.atom_brace (of_opens (of_last Prod.brace_empty (of_sign of_done))) }
says_map (both_also {b = w} (pair_says {a} {b} x y) xs) =
    let z = says_rest pairs_go xs (pair_of (a, b) ∷ []) (max x.height y.height) in
    record {
      height = z.height;
      reads = λ rest. of_last Prod.atom_brace (of_opens (of_last Prod.brace_some (under_sort (x.reads _) (of_last (Prod.brace_pair (spelt a x.height)) (of_sign (under_sort (y.reads _) (z.reads rest)))))));
    }

-- the pairs of a pattern of maps
ppairs_go : {qs : List Piece} {q : Written} → RestSays qs q → Goes (PairSays patterns) PPairs (marked marks.Comma) (λ r. with_rest [] qs (mark marks.CloseBrace ∷ r)) (λ acc. map_pattern_of acc q)
ppairs_go {qs} {q} e = record {
  ends = λ acc h. last_of e acc h;
  more = λ m acc h. one_more m acc h;
}
  where
    last_of : {us : List Piece} {u : Written} → RestSays us u → (acc : List Written) (h : ℕ) → Says (PPairs acc h) (λ r. with_rest [] us (mark marks.CloseBrace ∷ r)) (map_pattern_of acc u)
    last_of rest_none acc h = record { height = _; reads = λ rest. of_last (Prod.ppairs_end acc h) (of_sign of_done) }
    last_of (rest_some x) acc h = record { height = _; reads = λ rest. of_last (Prod.ppairs_rest acc h) (of_sign (at_sort (x.reads _) (of_sign of_done))) }

    one_more : {p : Piece} {w : Written} → PairSays patterns p w → (acc : List Written) (h : ℕ) → Turns PPairs (marked marks.Comma) p w acc h
    one_more (pair_says x y) acc h = record {
      height = max h (max x.height y.height);
      turns = λ ts v rest k. of_last (Prod.ppairs_comma acc h) (of_sign (of_last (Prod.ppairs_more acc h) (under_sort (x.reads _) (of_sign (under_sort (y.reads ts) k)))));
    }

says_pairs : {p : Piece} {w : Written} {ps qs : List Piece} {ws : List Written} {q : Written} → PairSays patterns p w → Both (PairSays patterns) ps ws → RestSays qs q
    → Says PAtom (λ r. mark marks.OpenBrace ∷ parted (marked marks.Comma) (p ∷ ps) (with_rest [] qs (mark marks.CloseBrace ∷ r))) (map_pattern_of (w ∷ ws) q)
says_pairs (pair_says {a} {b} x y) xs e =
    let z = says_rest (ppairs_go e) xs (pair_of (a, b) ∷ []) (max x.height y.height) in
    record {
      height = z.height;
      reads = λ rest. of_last Prod.patom_brace (of_opens (of_last Prod.pbrace_some (under_sort (x.reads _) (of_last (Prod.pbrace_pair (spelt a x.height)) (of_sign (under_sort (y.reads _) (z.reads rest)))))));
    }

pub says_map_pattern : {ps qs : List Piece} {ws : List Written} {q : Written} → Both (PairSays patterns) ps ws → RestSays qs q → Says PAtom (braced (with_rest ps qs)) (map_pattern_of ws q)
says_map_pattern both_none rest_none = record { height = _; reads = λ rest. of_last Prod.patom_brace (of_opens (of_last Prod.pbrace_empty (of_sign of_done))) }
says_map_pattern both_none (rest_some x) = record { height = _; reads = λ rest. of_last Prod.patom_brace (of_opens (of_last Prod.pbrace_rest (of_sign (at_sort (x.reads _) (of_sign of_done))))) }
says_map_pattern (both_also m ms) rest_none = says_pairs m ms rest_none
says_map_pattern (both_also m ms) (rest_some x) = says_pairs m ms (rest_some x)

-- the members of a pattern of lists or sets
members_go : (c : Bracket) {qs : List Piece} {q : Written} → RestSays qs q → Goes (Says (Par patterns)) (SeqTail c) (marked marks.Comma) (λ r. with_rest [] qs (mark (closing c) ∷ r)) (λ acc. form_of_two (around pattern) (row_of acc) q)
members_go c e = record {
  ends = λ acc h. last_of e acc h;
  more = λ x acc h. record {
    height = max h x.height;
    turns = λ ts v rest k. of_last (Prod.seq_comma c acc h) (of_sign (of_last (Prod.seq_more c acc h) (at_sort (x.reads ts) k)));
  };
}
  where
    last_of : {us : List Piece} {u : Written} → RestSays us u → (acc : List Written) (h : ℕ) → Says (SeqTail c acc h) (λ r. with_rest [] us (mark (closing c) ∷ r)) (form_of_two (around pattern) (row_of acc) u)
    last_of rest_none acc h = record { height = _; reads = λ rest. of_last (Prod.seq_end c acc h) (of_sign of_done) }
    last_of (rest_some x) acc h = record { height = _; reads = λ rest. of_last (Prod.seq_end_rest c acc h) (of_sign (at_sort (x.reads _) (of_sign of_done))) }

says_members : (c : Bracket) {p : Piece} {w : Written} {ps qs : List Piece} {ws : List Written} {q : Written} → Says (Par patterns) p w → Both (Says (Par patterns)) ps ws → RestSays qs q
    → Says (Seq c) (λ r. parted (marked marks.Comma) (p ∷ ps) (with_rest [] qs (mark (closing c) ∷ r))) (form_of_two (around pattern) (row_of (w ∷ ws)) q)
says_members c {w} x xs e =
    let z = says_rest (members_go c e) xs (w ∷ []) x.height in
    record { height = z.height; reads = λ rest. of_last (Prod.seq_some c) (at_sort (x.reads _) (z.reads rest)) }

pub says_seq : (c : Bracket) {ps qs : List Piece} {ws : List Written} {q : Written} → Both (Says (Par patterns)) ps ws → RestSays qs q → Says (Seq c) (λ r. with_rest ps qs (mark (closing c) ∷ r)) (form_of_two (around pattern) (row_of ws) q)
says_seq c both_none rest_none = record { height = _; reads = λ rest. of_last (Prod.seq_none c) (of_sign of_done) }
says_seq c both_none (rest_some x) = record { height = _; reads = λ rest. of_last (Prod.seq_rest c) (of_sign (at_sort (x.reads _) (of_sign of_done))) }
says_seq c (both_also m ms) rest_none = says_members c m ms rest_none
says_seq c (both_also m ms) (rest_some x) = says_members c m ms (rest_some x)
