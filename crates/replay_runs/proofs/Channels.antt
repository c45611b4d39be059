-- Rows that may be stored have channels.
use Rattle.std.proofs.Common.{◌≡◌, ◌≢◌, ◌≤◌, true, List, [], ◌∷◌, length, map as each, sym, subst, arith, inl, inr}
use Rattle.std.specs.Prelude.{IsPermutation}
use Rattle.calculus.proofs.Members.{Member}
use Rattle.calculus.proofs.Permutations.{moved_so}
use Rattle.calculus.specs.Tree.{send, receive, Tree, node}
use Rattle.calculus.specs.Shape.{at, held, listed}
use Rattle.calculus.specs.Form.{part, Fits}
use Rattle.calculus.specs.Rows.{Row, channels}
use Rattle.calculus.specs.Storing.{is_active, IsStorable}
use Rattle.events.specs.Found.{Among}
use Rattle.events.proofs.Making.{member}
use Rattle.events.proofs.Orders.{member-moved}
use Rattle.process_laws.specs.StorableLaws.{AreStorable}
use Rattle.std.proofs.lemmas.List.Elements.{All-head, All-tail}

some-binds : (bs : List Tree) → 1 ≤ length bs → each (λ b. at 0 (held b)) bs ≢ []
some-binds [] h e = absurd (omega (arith, h))
some-binds (b ∷ bs) h e = cc e

some-channels : (t : Tree) → is_active t ≡ true → Fits part [] t → channels t ≢ []
some-channels (node (send q) ts) a f e = cc e
some-channels (node (receive k) ts) a f e = some-binds (held (at 0 (listed ts))) f.0.0 e
some-channels (node _ ts) a f e = cc a

storable-at : (rows : List Row) (r : Row) → AreStorable rows → Member r rows → IsStorable r
storable-at [] r h m = absurd m
storable-at (q ∷ rows) r h (inl e) = subst IsStorable (sym e) (All-head IsStorable q rows h)
storable-at (q ∷ rows) r h (inr m) = storable-at rows r (All-tail IsStorable q rows h) m

-- so do the rows of a store that are such rows in another order
pub have-channels : (rows store : List Row) → AreStorable rows → IsPermutation rows store → (r : Row) → Among r store → channels r.part ≢ []
have-channels rows store h p r a = let s = storable-at rows r h (member-moved r (moved_so p) (member r store a)) in some-channels r.part s.active s.closed.1.0
