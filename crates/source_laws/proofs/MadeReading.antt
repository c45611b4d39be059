-- What the parts of a lane spell.
use Rattle.std.proofs.Common.{◌≡◌, ◌<◌, ℕ, zero, suc, leb, ◌^◌, true, false, List, [], ◌∷◌, refl, arith}
use Rattle.std.specs.Prelude.{codes, Option, Some, None, pos}
use Rattle.calculus.specs.Tree.{int, str}
use Rattle.grammar.specs.declared.dialect.Dialect.TheVariants.{Tutorial}
use Rattle.grammar.specs.declared.mark.Mark.TheVariants as marks
use Rattle.grammar.specs.Descent.{Outcome, read, fault}
use Rattle.grammar.specs.Grammar.{rule}
use Rattle.grammar.specs.Productions.{Prod}
use Rattle.grammar.specs.Rules.{Rule, round}
use Rattle.grammar.specs.Spells.{Reads, of_done, of_sign, of_opens, of_integer, of_at, of_under, of_last}
use Rattle.grammar.specs.Terminals.{Terminal, text, number, mark, a_string}
use Rattle.grammar.specs.Values.{Spelt, spelt, leaf, opened, processes, nil, ground_of, quote_of, list_of, send_of}
use Rattle.calculus.specs.Meaning.{row_of}
use Rattle.scope.specs.Rules.{breaks, outside}
use Rattle.grammar.proofs.Descending.{descend, read_so}
use Rattle.printed_spelling.proofs.Pieces.{Piece}
use Rattle.source_laws.proofs.Lanes.{count-piece, step-piece, receive-piece}

-- what a rule reads of these terminals
abbrev pub value-of : Option Outcome → Spelt
value-of (Some (read v us)) = v
value-of (Some (fault e us)) = leaf nil
value-of None = leaf nil

abbrev pub value : Rule → List Terminal → Spelt
value r ts = value-of (descend 6000 Tutorial 200 r ts)

-- one part of a process
abbrev pub one : Rule
one = rule Tutorial Prod.one_two

-- an Int as a process
abbrev an-int : ℕ → Spelt
an-int n = leaf (ground_of processes (int (pos n)))

-- an Int that stands before a comma
int-reads : (n : ℕ) (r : List Terminal) → n < 2 ^ 63 → Reads Tutorial (rule Tutorial (Prod.par processes)) (number n ∷ mark marks.Comma ∷ r) (an-int n) (mark marks.Comma ∷ r)
int-reads n r h =
    let a = an-int n in
    of_at Prod.one_two
    (of_last Prod.two_or (of_last Prod.or
    (of_at Prod.and (of_at Prod.eq (of_at Prod.cmp (of_at Prod.sum (of_at Prod.mul (of_at Prod.pre_meth (of_last Prod.meth (of_at Prod.drop_atom
    (of_last Prod.atom_ground (of_last (Prod.ground_int processes) (of_integer (omega (arith, h)) of_done)))
    (of_last (Prod.meth_end a) of_done)))
    (of_last (Prod.mul_end a) of_done)) (of_last (Prod.sum_end a) of_done)) (of_last (Prod.cmp_end a) of_done)) (of_last (Prod.eq_end a) of_done)) (of_last (Prod.and_end a) of_done))
    (of_last (Prod.or_end a) of_done))))
    (of_last (Prod.par_end processes (a.tree ∷ []) a.height) of_done)

-- the number 0 behind a comma
zero-reads : (r : List Terminal) → Reads Tutorial (rule Tutorial (Prod.par processes)) (number 0 ∷ mark marks.Close ∷ r) (an-int 0) (mark marks.Close ∷ r)
zero-reads r = read_so Tutorial _ _ _ _ refl

-- a piece is one part of a process, where this terminal follows: of a height of at most 10, and without a broken rule
pub record IsPart (t : Terminal) (p : Piece) : Type 0 where
  pub value : Spelt
  pub reads : (r : List Terminal) → Reads Tutorial one (p (t ∷ r)) value (t ∷ r)
  pub low : leb value.height 10 ≡ true
  pub sound : breaks value.tree [] outside ≡ []

-- the list of a channel
abbrev channel-list : ℕ → Spelt
channel-list lane = opened (list_of (row_of (ground_of processes (str (codes "t")) ∷ ground_of processes (int (pos lane)) ∷ []))) 0

list-reads : (lane : ℕ) → lane < 4 → (r : List Terminal) → Reads Tutorial (rule Tutorial Prod.drop_atom)
    (mark marks.OpenSquare ∷ text a_string (codes "t") ∷ mark marks.Comma ∷ number lane ∷ mark marks.CloseSquare ∷ mark marks.Bang ∷ r) (channel-list lane) (mark marks.Bang ∷ r)
list-reads zero h r = read_so Tutorial _ _ _ _ refl
list-reads (suc zero) h r = read_so Tutorial _ _ _ _ refl
list-reads (suc (suc zero)) h r = read_so Tutorial _ _ _ _ refl
list-reads (suc (suc (suc zero))) h r = read_so Tutorial _ _ _ _ refl
list-reads (suc (suc (suc (suc n)))) h r = absurd (omega (arith, h))

-- what the first send of a lane spells
abbrev count-value : ℕ → ℕ → Spelt
count-value lane n = opened (send_of processes false (quote_of (channel-list lane).tree) (row_of (ground_of processes (int (pos n)) ∷ ground_of processes (int (pos 0)) ∷ []))) 1

pub count-part : (lane n : ℕ) → lane < 4 → n < 2 ^ 63 → IsPart (mark marks.Bar) (count-piece lane n)
count-part lane n h k = record { value = count-value lane n; reads = reads; low = refl; sound = refl }
  where
    reads : (r : List Terminal) → Reads Tutorial one (count-piece lane n (mark marks.Bar ∷ r)) (count-value lane n) (mark marks.Bar ∷ r)
    reads r =
        of_last Prod.two_quote (of_opens (of_under Prod.drop_atom (list-reads lane h _)
        (of_last (Prod.sent_tail processes (spelt (quote_of (channel-list lane).tree) 1) false) (of_sign (of_sign (of_under (Prod.row_some processes round)
        (of_at (Prod.par processes) (int-reads n _ k)
        (of_last (Prod.row_more processes round (ground_of processes (int (pos n)) ∷ []) 0) (of_sign (of_at (Prod.par processes) (zero-reads (mark marks.Bar ∷ r))
        (of_last (Prod.row_end processes round (ground_of processes (int (pos n)) ∷ ground_of processes (int (pos 0)) ∷ []) 0) (of_sign of_done))))))
        of_done))))))

-- the second send of a lane
pub step-part : (lane : ℕ) → lane < 4 → IsPart (mark marks.Bar) (step-piece lane)
step-part zero h = record { value = value one (step-piece 0 (mark marks.Bar ∷ [])); reads = λ r. read_so Tutorial _ _ _ _ refl; low = refl; sound = refl }
step-part (suc zero) h = record { value = value one (step-piece 1 (mark marks.Bar ∷ [])); reads = λ r. read_so Tutorial _ _ _ _ refl; low = refl; sound = refl }
step-part (suc (suc zero)) h = record { value = value one (step-piece 2 (mark marks.Bar ∷ [])); reads = λ r. read_so Tutorial _ _ _ _ refl; low = refl; sound = refl }
step-part (suc (suc (suc zero))) h = record { value = value one (step-piece 3 (mark marks.Bar ∷ [])); reads = λ r. read_so Tutorial _ _ _ _ refl; low = refl; sound = refl }
step-part (suc (suc (suc (suc n)))) h = absurd (omega (arith, h))

-- its receive
pub receive-part : (lane : ℕ) → lane < 3 → IsPart (mark marks.Bar) (receive-piece lane)
receive-part zero h = record { value = value one (receive-piece 0 (mark marks.Bar ∷ [])); reads = λ r. read_so Tutorial _ _ _ _ refl; low = refl; sound = refl }
receive-part (suc zero) h = record { value = value one (receive-piece 1 (mark marks.Bar ∷ [])); reads = λ r. read_so Tutorial _ _ _ _ refl; low = refl; sound = refl }
receive-part (suc (suc zero)) h = record { value = value one (receive-piece 2 (mark marks.Bar ∷ [])); reads = λ r. read_so Tutorial _ _ _ _ refl; low = refl; sound = refl }
receive-part (suc (suc (suc n))) h = absurd (omega (arith, h))

-- and the last one
pub last-part : IsPart (mark marks.End) (receive-piece 3)
last-part = record { value = value one (receive-piece 3 (mark marks.End ∷ [])); reads = λ r. read_so Tutorial _ _ _ _ refl; low = refl; sound = refl }
