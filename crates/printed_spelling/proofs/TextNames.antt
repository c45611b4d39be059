-- Names, name patterns, and the sends on them.
use Rattle.std.proofs.Common.{◌≡◌, ℕ, max, Bool, List, [], ◌∷◌, ◌++◌, map as each, subst, sym, ap, refl}
use Rattle.calculus.specs.Tree.{bind}
use Rattle.calculus.specs.Meaning.{row_of}
use Rattle.calculus.specs.Written.{around, Written, form_of_two}
use Rattle.grammar.specs.declared.mark.Mark.TheVariants as marks
use Rattle.grammar.specs.Productions.{Prod}
use Rattle.grammar.specs.Grammar.{bang}
use Rattle.grammar.specs.Rules.{round, One, POne, Par, Atom, PAtom, Name, PName, Left, LeftTail}
use Rattle.grammar.specs.Spells.{of_done, of_sign, of_opens, of_text, of_at, of_last}
use Rattle.grammar.specs.Terminals.{Terminal, text, mark, a_word, a_fresh_name}
use Rattle.grammar.specs.Values.{spelt, leaf, processes, patterns, name_of, fresh_of, quote_of, binder_of, any_of, quoted_of, send_of}
use Rattle.printed_spelling.proofs.Pieces.{Piece, marked, grouped, with_commas, followed}
use Rattle.printed_spelling.proofs.Both.{Both, both_none, both_also}
use Rattle.printed_spelling.proofs.Climbing.{ReadsAs, at_sort, under_sort, Says, two_says, alt_says, not_says}
use Rattle.printed_spelling.proofs.Sequences.{Goes, says_rest, says_row}
use Rattle.printed_spelling.proofs.Pairs.{RestSays, rest_none, rest_some}

-- a name: a variable, a fresh name or a quoted process
pub data Channel : Piece → Written → Type 0 where
  by_word : (x : List ℕ) → Channel (λ r. text a_word x ∷ r) (name_of x)
  by_fresh : (x : List ℕ) → Channel (λ r. text a_fresh_name x ∷ r) (fresh_of x)
  by_quote : {p : Piece} {w : Written} → Says Atom p w → Channel (λ r. mark marks.At ∷ p r) (quote_of w)

-- a name pattern: a variable, the wildcard or a quoted pattern
pub data PatternChannel : Piece → Written → Type 0 where
  as_word : (x : List ℕ) → PatternChannel (λ r. text a_word x ∷ r) (binder_of x)
  as_any : PatternChannel (λ r. mark marks.Underscore ∷ r) any_of
  as_quote : {p : Piece} {w : Written} → Says PAtom p w → PatternChannel (λ r. mark marks.At ∷ p r) (quoted_of w)

pub says_name : {p : Piece} {w : Written} → Channel p w → Says Name p w
says_name (by_word x) = record { height = _; reads = λ rest. of_last Prod.name_word (of_text of_done) }
says_name (by_fresh x) = record { height = _; reads = λ rest. of_last Prod.name_fresh (of_text of_done) }
says_name (by_quote {w} x) = record { height = x.height; reads = λ rest. of_last Prod.name_quote (of_sign (of_at Prod.drop_atom (x.reads rest) of_done)) }

pub says_name_pattern : {p : Piece} {w : Written} → PatternChannel p w → Says PName p w
says_name_pattern (as_word x) = record { height = _; reads = λ rest. of_last Prod.pname_word (of_text of_done) }
says_name_pattern as_any = record { height = _; reads = λ rest. of_last Prod.pname_any (of_sign of_done) }
says_name_pattern (as_quote {w} x) =
    let y = alt_says (not_says x) in
    record { height = y.height; reads = λ rest. of_last Prod.pname_quote (of_sign (at_sort (y.reads rest) of_done)) }

-- a send in a process
pub says_send : (q : Bool) {p : Piece} {n : Written} {ps : List Piece} {ws : List Written} → Channel p n → Both (Says (Par processes)) ps ws → Says One (λ r. p (mark (bang q) ∷ grouped (with_commas ps) r)) (send_of processes q n (row_of ws))
says_send q (by_word x) xs =
    let y = says_row processes round xs in
    two_says (record { height = _; reads = λ rest. of_last Prod.two_word (of_text (of_last (Prod.sent processes (leaf (name_of x)) q) (of_opens (of_sign (under_sort (y.reads rest) of_done))))) })
says_send q (by_fresh x) xs =
    let y = says_row processes round xs in
    two_says (record { height = _; reads = λ rest. of_last Prod.two_fresh (of_text (of_last (Prod.sent processes (leaf (fresh_of x)) q) (of_opens (of_sign (under_sort (y.reads rest) of_done))))) })
says_send q (by_quote {w} x) xs =
    let y = says_row processes round xs in
    two_says (record { height = _; reads = λ rest. of_last Prod.two_quote (of_opens (under_sort (of_last Prod.drop_atom (x.reads _)) (of_last (Prod.sent_tail processes (spelt (quote_of w) x.height) q) (of_sign (of_sign (under_sort (y.reads rest) of_done)))))) })

-- a send in a pattern
pub says_pattern_send : (q : Bool) {p : Piece} {n : Written} {ps : List Piece} {ws : List Written} → PatternChannel p n → Both (Says (Par patterns)) ps ws → Says POne (λ r. p (mark (bang q) ∷ grouped (with_commas ps) r)) (send_of patterns q n (row_of ws))
says_pattern_send q (as_word x) xs =
    let y = says_row patterns round xs in
    record { height = _; reads = λ rest. of_last Prod.pone_word (of_text (of_last (Prod.sent patterns (leaf (binder_of x)) q) (of_opens (of_sign (under_sort (y.reads rest) of_done))))) }
says_pattern_send q as_any xs =
    let y = says_row patterns round xs in
    record { height = _; reads = λ rest. of_last Prod.pone_any (of_sign (of_last (Prod.sent patterns (leaf any_of) q) (of_opens (of_sign (under_sort (y.reads rest) of_done))))) }
says_pattern_send q (as_quote {w} x) xs =
    let y = says_row patterns round xs in
    let z = alt_says (not_says x) in
    record { height = _; reads = λ rest. of_last Prod.pone_quote (of_opens (under_sort (z.reads _) (of_last (Prod.sent_tail patterns (spelt (quoted_of w) z.height) q) (of_sign (of_sign (under_sort (y.reads rest) of_done)))))) }

-- a remainder behind the name patterns of a bind
abbrev pub hung : Piece → Piece
hung p r = mark marks.Ellipsis ∷ mark marks.At ∷ p r

pub followed-append : (s : Piece) (ps qs : List Piece) (r : List Terminal) → followed s (ps ++ qs) r ≡ followed s ps (followed s qs r)
followed-append s [] qs r = refl
followed-append s (p ∷ ps) qs r = ap (λ u. s (p u)) (followed-append s ps qs r)

left_goes : {qs : List Piece} {q : Written} → RestSays qs q → Goes (Says PName) LeftTail (marked marks.Comma) (followed (marked marks.Comma) (each hung qs)) (λ acc. form_of_two (around bind) (row_of acc) q)
left_goes e = record {
  ends = λ acc h. last_of e acc h;
  more = λ x acc h. record {
    height = max h x.height;
    turns = λ ts v rest k. of_last (Prod.left_comma acc h) (of_sign (of_last (Prod.left_more acc h) (at_sort (x.reads ts) k)));
  };
}
  where
    last_of : {us : List Piece} {u : Written} → RestSays us u → (acc : List Written) (h : ℕ) → Says (LeftTail acc h) (followed (marked marks.Comma) (each hung us)) (form_of_two (around bind) (row_of acc) u)
    last_of rest_none acc h = record { height = _; reads = λ rest. of_last (Prod.left_end acc h) of_done }
    last_of (rest_some x) acc h = record { height = _; reads = λ rest. of_last (Prod.left_comma acc h) (of_sign (of_last (Prod.left_next_rest acc h) (of_sign (of_sign (at_sort (x.reads rest) of_done))))) }

-- the left side of a bind
pub says_left : {ps qs : List Piece} {ws : List Written} {q : Written} → Both PatternChannel ps ws → RestSays qs q → Says Left (with_commas (ps ++ each hung qs)) (form_of_two (around bind) (row_of ws) q)
says_left both_none rest_none = record { height = _; reads = λ rest. of_last Prod.left_none of_done }
says_left both_none (rest_some x) = record { height = _; reads = λ rest. of_last Prod.left_rest (of_sign (of_sign (at_sort (x.reads rest) of_done))) }
says_left {qs} {q} (both_also {b = w} {xs = ps} {ys = ws} m ms) e =
    let x = says_name_pattern m in
    let z = says_rest (left_goes e) (named ms) (w ∷ []) x.height in
    record {
      height = z.height;
      reads = λ rest. of_last Prod.left_some (at_sort (x.reads _) (subst (λ ts. ReadsAs (LeftTail (w ∷ []) x.height) ts (spelt (form_of_two (around bind) (row_of (w ∷ ws)) q) z.height) rest) (sym (followed-append (marked marks.Comma) ps (each hung qs) rest)) (z.reads rest)));
    }
  where
    named : {us : List Piece} {vs : List Written} → Both PatternChannel us vs → Both (Says PName) us vs
    named both_none = both_none
    named (both_also m ms) = both_also (says_name_pattern m) (named ms)
