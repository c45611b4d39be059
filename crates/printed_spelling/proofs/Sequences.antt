-- Constituents in a row, with what stands between them: each sort that goes on with a row is read member by member.
use Rattle.std.proofs.Common.{ℕ, max, List, [], ◌∷◌, ◌++◌, subst, sym}
use Rattle.std.proofs.lemmas.List.{append-nil, append_assoc}
use Rattle.calculus.specs.Meaning.{row_of}
use Rattle.calculus.specs.Written.{Written}
use Rattle.grammar.specs.declared.mark.Mark.TheVariants as marks
use Rattle.grammar.specs.Productions.{Prod}
use Rattle.grammar.specs.Grammar.{one_of}
use Rattle.grammar.specs.Rules.{Bracket, closing, Sort, Par, ParTail, Row, RowTail}
use Rattle.grammar.specs.Spells.{of_done, of_sign, of_last}
use Rattle.grammar.specs.Terminals.{Terminal, mark}
use Rattle.grammar.specs.Values.{Spelt, Side, par_of}
use Rattle.printed_spelling.proofs.Pieces.{Piece, nothing, marked, followed, parted}
use Rattle.printed_spelling.proofs.Both.{Both, both_none, both_also}
use Rattle.printed_spelling.proofs.Climbing.{ReadsAs, at_sort, Says}

-- a row is read from here on, after members that were read
pub record Turns (T : List Written → ℕ → Sort) (sep p : Piece) (w : Written) (acc : List Written) (h : ℕ) : Type 0 where
  pub height : ℕ
  pub turns : (ts : List Terminal) (v : Spelt) (rest : List Terminal) → ReadsAs (T (acc ++ (w ∷ [])) height) ts v rest → ReadsAs (T acc h) (sep (p ts)) v rest

-- a sort that goes on with a row, whose members are M, before the piece that ends it
pub record Goes (M : Piece → Written → Type 0) (T : List Written → ℕ → Sort) (sep end : Piece) (out : List Written → Written) : Type 0 where
  pub ends : (acc : List Written) (h : ℕ) → Says (T acc h) end (out acc)
  pub more : {p : Piece} {w : Written} → M p w → (acc : List Written) (h : ℕ) → Turns T sep p w acc h

turned : {T : List Written → ℕ → Sort} {sep p : Piece} {w : Written} (out : List Written → Written) (q : Piece) (ws acc : List Written) (h : ℕ) (t : Turns T sep p w acc h)
    → Says (T (acc ++ (w ∷ [])) t.height) q (out ((acc ++ (w ∷ [])) ++ ws)) → Says (T acc h) (λ r. sep (p (q r))) (out (acc ++ (w ∷ ws)))
turned {T} {sep} {p} {w} out q ws acc h t x =
    subst (λ us. Says (T acc h) (λ r. sep (p (q r))) (out us)) (append_assoc acc (w ∷ []) ws)
    (record { height = x.height; reads = λ rest. t.turns (q rest) _ rest (x.reads rest) })

module _ {M : Piece → Written → Type 0} {T : List Written → ℕ → Sort} {sep end : Piece} {out : List Written → Written} where
  -- members one after another, and the end
  pub says_rest : Goes M T sep end out → {ps : List Piece} {ws : List Written} → Both M ps ws → (acc : List Written) (h : ℕ) → Says (T acc h) (λ r. followed sep ps (end r)) (out (acc ++ ws))
  says_rest g both_none acc h = subst (λ us. Says (T acc h) end (out us)) (sym (append-nil acc)) (g.ends acc h)
  says_rest g (both_also {b = w} {xs = ps} {ys = ws} m ms) acc h =
      let t = g.more m acc h in
      turned out (λ r. followed sep ps (end r)) ws acc h t (says_rest g ms (acc ++ (w ∷ [])) t.height)

-- parts in parallel
parts_go : (side : Side) → Goes (Says (one_of side)) (ParTail side) (marked marks.Bar) nothing (par_of side)
parts_go side = record {
  ends = λ acc h. record { height = h; reads = λ rest. of_last (Prod.par_end side acc h) of_done };
  more = λ x acc h. record { height = max h x.height; turns = λ ts v rest k. of_last (Prod.par_more side acc h) (of_sign (at_sort (x.reads ts) k)) };
}

pub says_parts : (side : Side) {p : Piece} {w : Written} {ps : List Piece} {ws : List Written} → Says (one_of side) p w → Both (Says (one_of side)) ps ws → Says (Par side) (parted (marked marks.Bar) (p ∷ ps)) (par_of side (w ∷ ws))
says_parts side {p} {w} {ps} x xs =
    let y = says_rest (parts_go side) xs (w ∷ []) x.height in
    record { height = y.height; reads = λ rest. of_last (Prod.par side) (at_sort (x.reads _) (y.reads rest)) }

-- members between brackets
row_goes : (side : Side) (c : Bracket) → Goes (Says (Par side)) (RowTail side c) (marked marks.Comma) (marked (closing c)) row_of
row_goes side c = record {
  ends = λ acc h. record { height = h; reads = λ rest. of_last (Prod.row_end side c acc h) (of_sign of_done) };
  more = λ x acc h. record { height = max h x.height; turns = λ ts v rest k. of_last (Prod.row_more side c acc h) (of_sign (at_sort (x.reads ts) k)) };
}

pub says_row : (side : Side) (c : Bracket) {ps : List Piece} {ws : List Written} → Both (Says (Par side)) ps ws → Says (Row side c) (λ r. parted (marked marks.Comma) ps (mark (closing c) ∷ r)) (row_of ws)
says_row side c both_none = record { height = 0; reads = λ rest. of_last (Prod.row_none side c) (of_sign of_done) }
says_row side c (both_also {b = w} x xs) =
    let y = says_rest (row_goes side c) xs (w ∷ []) x.height in
    record { height = y.height; reads = λ rest. of_last (Prod.row_some side c) (at_sort (x.reads _) (y.reads rest)) }
