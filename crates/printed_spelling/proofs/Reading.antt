-- The pieces of each tree are read as what is written of it.
use Rattle.std.proofs.Common.{ℕ, ◌+◌, max, leb, List, [], ◌∷◌, ◌++◌, length, reverse, refl}
use Rattle.std.specs.Prelude.{flat_map}
use Rattle.calculus.specs.declared.plain.TermRest.TheVariants as rests
use Rattle.calculus.specs.Tree.{Label, par, row, pair, bind, case, pattern, rest, Tree, node, Trees, none, also}
use Rattle.calculus.specs.Shape.{count}
use Rattle.calculus.specs.Variables.{Sense, bound as variables, binders}
use Rattle.calculus.specs.Form.{Sort, term, part, a_bind, a_case, a_rest, pat, name_pat, pat_part, name_part, row_of, pair_of, Kids, all, these, no_form, kids, Scope, outer, IsPlain, Fits, Hold, IsClosed}
use Rattle.calculus.specs.Printed.{variable_text, first_number}
use Rattle.calculus.specs.Written.{Written}
use Rattle.grammar.specs.declared.dialect.Dialect.TheVariants.{Tutorial}
use Rattle.grammar.specs.declared.mark.Mark.TheVariants as marks
use Rattle.grammar.specs.Productions.{Prod}
use Rattle.grammar.specs.Rules.{Par, Remainder, last}
use Rattle.grammar.specs.Spells.{Reads, of_done, of_sign, of_text, of_last}
use Rattle.grammar.specs.Terminals.{text, mark, a_word}
use Rattle.grammar.specs.Values.{spelt, processes, patterns, rest_of, any_rest}
use Rattle.printed_spelling.specs.Spelled.{form_written, written, written_as, all_written}
use Rattle.printed_spelling.proofs.Pieces.{Piece, first_piece, form_pieces, pieces, all_pieces, printed_terminals}
use Rattle.printed_spelling.proofs.Both.{Single, single, Beside, beside_none, beside_also, without_trees, both_flat, turned_none, turned_also}
use Rattle.printed_spelling.proofs.Climbing.{Says}
use Rattle.printed_spelling.proofs.Pairs.{PairSays, pair_says, rest_none, rest_some}
use Rattle.printed_spelling.proofs.TextNames.{PatternChannel, says_left}
use Rattle.printed_spelling.proofs.Binds.{bound, Binds, no_bind, one_bind, CaseSays, case_says}
use Rattle.printed_spelling.proofs.Claims.{Members, row_says, Claim, KidsClaim}
use Rattle.printed_spelling.proofs.Terms.{says_term, says_pattern, says_name_form}
use Rattle.printed_spelling.proofs.Parts.{whole_term, whole_pattern, lengths, part_reads, part_dropped}
use Rattle.printed_spelling.proofs.PatternParts.{pattern_reads, name_reads}

says_rest_word : (x : List ℕ) → Says Remainder (λ r. text a_word x ∷ r) (rest_of x)
says_rest_word x = record { height = _; reads = λ rest. of_last Prod.remainder_word (of_text of_done) }

says_rest_any : Says Remainder (λ r. mark marks.Underscore ∷ r) any_rest
says_rest_any = record { height = _; reads = λ rest. of_last Prod.remainder_any (of_sign of_done) }

-- the binds of a receive
binds : {ts : Trees} {xs : List (List Piece)} {ws : List Written} → Beside (Claim a_bind) ts xs ws → Binds (flat_map (λ x. x) xs) ws
binds beside_none = no_bind
binds (beside_also (bound m c) h) = one_bind m c (binds h)

-- the members of a row
members_of : (s : Sort) {ts : Trees} {xs : List (List Piece)} {ws : List Written} → Beside (Claim s) ts xs ws → Members s (flat_map (λ x. x) xs) ws
members_of term h = both_flat (Says (Par processes)) (without_trees whole_term h)
members_of pat h = both_flat (Says (Par patterns)) (without_trees whole_pattern h)
members_of name_pat h = both_flat PatternChannel (without_trees (λ t x w m. m) h)
members_of (pair_of term) h = both_flat (PairSays processes) (without_trees (λ t x w m. m) h)
members_of (pair_of pat) h = both_flat (PairSays patterns) (without_trees (λ t x w m. m) h)
members_of a_case h = both_flat CaseSays (without_trees (λ t x w m. m) h)
members_of a_bind h = binds h
members_of _ h = tt

-- a form is read, of constituents that are read
form_says : (s : Sort) (v : Scope) (l : Label) (ts : Trees) (d n : ℕ) (xs : List (List Piece)) (ws : List Written) → IsPlain s v l ts → KidsClaim (kids s l (count ts)) ts xs ws
    → Claim s (node l ts) (form_pieces s l ts d n xs) (form_written s l ts d n ws)
form_says term v par ts d n xs ws i h = single (says_term h)
form_says term v _ ts d n xs ws i h = absurd h
form_says pat v pattern ts d n xs ws i h = single (says_pattern h)
form_says pat v _ ts d n xs ws i h = absurd h
form_says name_pat v pattern ts d n xs ws i h = single (says_name_form (leb (count ts) 1) ts xs ws refl h)
form_says name_pat v _ ts d n xs ws i h = absurd h
form_says (row_of s) v row ts d n xs ws i h = row_says ws (lengths h) (members_of s h)
form_says (row_of s) v _ ts d n xs ws i h = absurd h
form_says (pair_of term) v pair _ d n _ _ i (turned_also (single a) (turned_also (single b) turned_none)) = single (pair_says a.whole b.whole)
form_says (pair_of pat) v pair _ d n _ _ i (turned_also (single a) (turned_also (single b) turned_none)) = single (pair_says a.whole b.whole)
form_says (pair_of term) v _ ts d n xs ws i h = absurd h
form_says (pair_of pat) v _ ts d n xs ws i h = absurd h
form_says (pair_of _) v _ ts d n xs ws i h = tt
form_says a_bind v bind _ d n _ _ i (turned_also (single c) (turned_also (row_says us e ms) (turned_also q turned_none))) = bound (says_left ms q) c.name
form_says a_bind v _ ts d n xs ws i h = absurd h
form_says a_case v case _ d n _ _ i (turned_also (single p) (turned_also (single b) turned_none)) = single (case_says p.whole b.whole)
form_says a_case v _ ts d n xs ws i h = absurd h
form_says a_rest v (rest rests.No) _ d n _ _ i turned_none = rest_none
form_says a_rest v (rest rests.Var) _ d n _ _ i turned_none = rest_some (says_rest_word (variable_text n))
form_says a_rest v (rest rests.Wild) _ d n _ _ i turned_none = rest_some says_rest_any
form_says a_rest v _ ts d n xs ws i h = absurd h
form_says part v l ts d n xs ws i h = single (record { alone = part_reads v l ts d n xs ws i h; undropped = part_dropped l ts d n xs ws })
form_says pat_part v l ts d n xs ws i h = single (pattern_reads v l ts d n xs ws i h)
form_says name_part v l ts d n xs ws i h = single (name_reads v l ts d n xs ws i h)

mutual
  -- a tree is read
  pub says : (t : Tree) (s : Sort) (v : Scope) (d n : ℕ) → Fits s v t → Claim s t (pieces s t d n) (written_as s t d n)
  says (node l ts) s v d n h =
      form_says s v l ts d n _ _ h.0 (says_kids ts (kids s l (count ts)) (outer s l v) (reverse (binders l ts)) (length (binders l ts)) d (first_number l d n) h.1)

  -- constituents are read
  says_kids : (ts : Trees) (k : Kids) (v : Scope) (o : List Sense) (b d n : ℕ) → Hold k v o ts → KidsClaim k ts (all_pieces k ts b d n) (all_written k ts b d n)
  says_kids none (all s) v o b d n h = beside_none
  says_kids (also t ts) (all s) v o b d n h = beside_also (says t s v d n h.0) (says_kids ts (all s) v o b d (n + length (variables t)) h.1)
  says_kids none (these []) v o b d n h = turned_none
  says_kids (also t ts) (these []) v o b d n h = absurd h
  says_kids none (these (s ∷ ss)) v o b d n h = absurd h
  says_kids (also t none) (these (s ∷ [])) v o b d n h = turned_also (says t s (o ++ v) (d + b) (max (d + b) n) h.0) turned_none
  says_kids (also t none) (these (s ∷ z ∷ ss)) v o b d n h = absurd h.1
  says_kids (also t (also u us)) (these (s ∷ ss)) v o b d n h = turned_also (says t s v d n h.0) (says_kids (also u us) (these ss) v o b d (n + length (variables t)) h.1)
  says_kids ts no_form v o b d n h = absurd h

first_of : {R : Piece → Written → Type 0} {ps : List Piece} {w : Written} → Single R ps w → R (first_piece ps) w
first_of (single m) = m

-- the terminals of a closed process, form by form, spell its written process
pub terminals_spell : (t : Tree) → IsClosed t → (height : ℕ) × Reads Tutorial (last (Par processes)) (printed_terminals t) (spelt (written t) height) (mark marks.End ∷ [])
terminals_spell t h =
    let x = (first_of (says t term [] 0 0 h)).whole in
    (x.height, x.reads (mark marks.End ∷ []))
