-- Receives, `match` and `new`.
use Rattle.std.proofs.Common.{ℕ, zero, suc, ◌≤◌, ◌+◌, max, List, [], ◌∷◌, ◌++◌, subst, sym, refl, length, arith}
use Rattle.std.specs.Prelude.{Option}
use Rattle.std.proofs.lemmas.List.{append-nil, append_assoc}
use Rattle.calculus.specs.declared.plain.Kind.{Kind}
use Rattle.calculus.specs.declared.plain.Origin.{Origin}
use Rattle.calculus.specs.declared.plain.Origin.TheVariants as origins
use Rattle.calculus.specs.Printed.{variable_text}
use Rattle.calculus.specs.Written.{Written}
use Rattle.grammar.specs.declared.mark.Mark.TheVariants as marks
use Rattle.grammar.specs.Productions.{Prod}
use Rattle.grammar.specs.Rules.{ampersand, Par, Left, FirstTail, BindsTail, Body, For, Match, CaseTail, New, Decl, DeclTail}
use Rattle.grammar.specs.Spells.{of_done, of_sign, of_opens, of_next, of_text, of_last}
use Rattle.grammar.specs.Terminals.{Terminal, text, mark, a_word}
use Rattle.grammar.specs.Values.{Spelt, spelt, with_first, processes, patterns, case_of, match_of, receive_of, new_of}
use Rattle.printed_spelling.specs.Spelled.{fixed_uri, declared_names}
use Rattle.printed_spelling.proofs.Pieces.{Piece, nothing, marked, grouped, braced, followed, parted, bind_pieces, uri_piece, declared_pieces}
use Rattle.printed_spelling.proofs.Both.{Both, both_none, both_also}
use Rattle.printed_spelling.proofs.Climbing.{ReadsAs, under_sort, Says, atom_says, patom_says, pre_says, says_pre, says_braced, says_grouped, pattern_grouped}
use Rattle.printed_spelling.proofs.TextNames.{Channel, says_name}
use Rattle.printed_spelling.proofs.Sequences.{Goes, Turns, says_rest}

-- a bind, and the pieces of its left side and its channel
pub data Bound : List Piece → Written → Type 0 where
  bound : {p c : Piece} {l n : Written} → Says Left p l → Channel c n → Bound (p ∷ c ∷ []) (with_first n l)

-- binds, and the pieces of their left sides and channels in turn
pub data Binds : List Piece → List Written → Type 0 where
  no_bind : Binds [] []
  one_bind : {p c : Piece} {l n : Written} {ps : List Piece} {ws : List Written} → Says Left p l → Channel c n → Binds ps ws → Binds (p ∷ c ∷ ps) (with_first n l ∷ ws)

-- a receive's process, after its binds
abbrev ending : Piece → Piece
ending b r = mark marks.Close ∷ braced b r

body_says : (k : Kind) {b : Piece} {w : Written} → Says (Par processes) b w → (acc : List Written) (h : ℕ) → Says (Body k acc h) (ending b) (receive_of k acc w)
body_says k x acc h = record { height = _; reads = λ rest. of_last (Prod.body k acc h) (of_sign (of_sign (under_sort (x.reads _) (of_sign of_done)))) }

-- binds after others, and the process
abbrev behind : Kind → List Piece → Piece → Piece
behind k ps b r = followed (marked marks.Ampersand) (bind_pieces k ps) (ending b r)

-- what follows a bind
says_binds : (k : Kind) {ps : List Piece} {ws : List Written} {b : Piece} {w : Written} → Binds ps ws → Says (Par processes) b w → (left : ℕ) → length ws ≤ left → (acc : List Written) (h : ℕ)
    → Says (BindsTail k ampersand left acc h) (behind k ps b) (receive_of k (acc ++ ws) w)
says_binds k {b} {w} no_bind x left j acc h =
    let y = body_says k x acc h in
    subst (λ us. Says (BindsTail k ampersand left acc h) (behind k [] b) (receive_of k us w)) (sym (append-nil acc)) (record { height = y.height; reads = λ rest. of_last (Prod.binds_end k ampersand left acc h) (y.reads rest) })
says_binds k (one_bind m c ms) x zero j acc h = absurd (omega (arith, j))
says_binds k {b} {w} (one_bind {p} {c = e} {l} {n} {ps} {ws} m c ms) x (suc left) j acc h =
    let y = says_name c in
    let z = says_binds k ms x left (omega (arith, j)) (acc ++ (with_first n l ∷ [])) (max h (max m.height y.height)) in
    subst (λ us. Says (BindsTail k ampersand (suc left) acc h) (behind k (p ∷ e ∷ ps) b) (receive_of k us w)) (append_assoc acc (with_first n l ∷ []) ws)
    (record { height = z.height; reads = λ rest. of_last (Prod.binds_more k ampersand left acc h) (of_sign (of_last (Prod.binds k ampersand left acc h) (under_sort (m.reads _) (of_sign (under_sort (y.reads _) (z.reads rest)))))) })

-- binds after the first one
first_says : (k : Kind) {ps : List Piece} {ws : List Written} {b : Piece} {w : Written} (d : Written) (h : ℕ) → Binds ps ws → Says (Par processes) b w → length ws ≤ 15
    → Says (FirstTail k (spelt d h)) (behind k ps b) (receive_of k (d ∷ ws) w)
first_says k d h no_bind x j =
    let y = body_says k x (d ∷ []) h in
    record { height = y.height; reads = λ rest. of_last (Prod.first_end k (spelt d h)) (y.reads rest) }
first_says k d h (one_bind {l} {n} m c ms) x j =
    let y = says_name c in
    let z = says_binds k ms x 14 (omega (arith, j)) (d ∷ with_first n l ∷ []) (max h (max m.height y.height)) in
    record { height = z.height; reads = λ rest. of_last (Prod.first_more k (spelt d h) ampersand) (of_sign (of_last (Prod.binds k ampersand 14 (d ∷ []) h) (under_sort (m.reads _) (of_sign (under_sort (y.reads _) (z.reads rest)))))) }

pub says_receive : (k : Kind) {ps : List Piece} {ws : List Written} {b : Piece} {w : Written} → Binds ps ws → Says (Par processes) b w → 1 ≤ length ws → length ws ≤ 16
    → Says For (λ r. mark marks.For ∷ grouped (parted (marked marks.Ampersand) (bind_pieces k ps)) (braced b r)) (receive_of k ws w)
says_receive k no_bind x i j = absurd (omega (arith, i))
says_receive k (one_bind {l} {n} m c ms) x i j =
    let y = says_name c in
    let z = first_says k (with_first n l) (max m.height y.height) ms x (omega (arith, j)) in
    record { height = z.height; reads = λ rest. of_last Prod.for_form (of_opens (of_sign (of_last Prod.bind (under_sort (m.reads _) (of_last (Prod.arrow (spelt l m.height) k) (of_sign (under_sort (y.reads _) (z.reads rest)))))))) }

-- a case
pub data CaseSays : Piece → Written → Type 0 where
  case_says : {p q : Piece} {a b : Written} → Says (Par patterns) p a → Says (Par processes) q b → CaseSays (λ r. grouped p (mark marks.FatArrow ∷ braced q r)) (case_of a b)

cases_go : (t : Spelt) → Goes CaseSays (CaseTail t) nothing (marked marks.CloseBrace) (match_of t.tree)
cases_go t = record {
  ends = λ acc h. record { height = _; reads = λ rest. of_last (Prod.case_end t acc h) (of_sign of_done) };
  more = λ m acc h. one_more m acc h;
}
  where
    one_more : {p : Piece} {w : Written} → CaseSays p w → (acc : List Written) (h : ℕ) → Turns (CaseTail t) nothing p w acc h
    one_more (case_says x y) acc h =
        let a = patom_says (pattern_grouped x) in
        let b = atom_says (says_braced y) in
        record {
          height = max h (max a.height b.height);
          turns = λ ts v rest k. of_last (Prod.case_more t acc h) (of_last (Prod.case t acc h) (of_next refl (under_sort (a.reads _) (of_sign (under_sort (b.reads ts) k)))));
        }

pub says_match : {p : Piece} {w : Written} {ps : List Piece} {ws : List Written} → Says (Par processes) p w → Both CaseSays ps ws → 1 ≤ length ws
    → Says Match (λ r. mark marks.Match ∷ grouped p (braced (parted nothing ps) r)) (match_of w ws)
says_match x both_none i = absurd (omega (arith, i))
says_match {w} x (both_also {b = u} (case_says m n) ms) i =
    let y = pre_says (says_pre (says_grouped x)) in
    let a = patom_says (pattern_grouped m) in
    let b = atom_says (says_braced n) in
    let z = says_rest (cases_go (spelt w y.height)) ms (u ∷ []) (max y.height (max a.height b.height)) in
    record {
      height = z.height;
      reads = λ rest. of_last Prod.match_form (of_opens (under_sort (y.reads _) (of_sign (of_last (Prod.case (spelt w y.height) [] y.height) (of_next refl (under_sort (a.reads _) (of_sign (under_sort (b.reads _) (z.reads rest)))))))));
    }

-- a name that a `new` declares
one_declared : (o : Origin) (x : List ℕ) (acc : List (List ℕ × Option (List ℕ))) {ts rest : List Terminal} {v : Spelt} → ReadsAs (DeclTail (acc ++ ((x, fixed_uri o) ∷ []))) ts v rest
    → ReadsAs (Decl acc) (text a_word x ∷ uri_piece (fixed_uri o) ts) v rest
one_declared origins.Plain x acc k = of_last (Prod.decl acc) (of_text (of_last (Prod.decl_plain acc x) k))
one_declared origins.Stdout x acc k = of_last (Prod.decl acc) (of_text (of_last (Prod.decl_uri acc x) (of_sign (of_text (of_sign k)))))
one_declared origins.StdoutAck x acc k = of_last (Prod.decl acc) (of_text (of_last (Prod.decl_uri acc x) (of_sign (of_text (of_sign k)))))

-- names after others, and the process
abbrev declared_behind : List Origin → ℕ → Piece → Piece
declared_behind os n p r = followed (marked marks.Comma) (declared_pieces n os) (mark marks.In ∷ braced p r)

says_declared : {p : Piece} {w : Written} → Says (Par processes) p w → (os : List Origin) (n : ℕ) (acc : List (List ℕ × Option (List ℕ)))
    → Says (DeclTail acc) (declared_behind os n p) (new_of (acc ++ declared_names n os) w)
says_declared {p} {w} x [] n acc =
    let y = atom_says (says_braced x) in
    subst (λ ds. Says (DeclTail acc) (declared_behind [] n p) (new_of ds w)) (sym (append-nil acc)) (record { height = y.height + 1; reads = λ rest. of_last (Prod.decl_body acc) (of_sign (under_sort (y.reads rest) of_done)) })
says_declared {p} {w} x (o ∷ os) n acc =
    let y = says_declared x os (suc n) (acc ++ ((variable_text n, fixed_uri o) ∷ [])) in
    subst (λ ds. Says (DeclTail acc) (declared_behind (o ∷ os) n p) (new_of ds w)) (append_assoc acc ((variable_text n, fixed_uri o) ∷ []) (declared_names (suc n) os))
    (record { height = y.height; reads = λ rest. of_last (Prod.decl_more acc) (of_sign (one_declared o (variable_text n) acc (y.reads rest))) })

pub says_new : {p : Piece} {w : Written} → Says (Par processes) p w → (os : List Origin) (n : ℕ) → 1 ≤ length os
    → Says New (λ r. mark marks.New ∷ parted (marked marks.Comma) (declared_pieces n os) (mark marks.In ∷ braced p r)) (new_of (declared_names n os) w)
says_new x [] n i = absurd (omega (arith, i))
says_new x (o ∷ os) n i =
    let y = says_declared x os (suc n) ((variable_text n, fixed_uri o) ∷ []) in
    record { height = y.height; reads = λ rest. of_last Prod.new_form (of_opens (one_declared o (variable_text n) [] (y.reads rest))) }
