-- More room leaves known what is known of parts and cases too.
use Rattle.std.proofs.Common.{ℕ, ◌≤◌, List, sym, subst}
use Rattle.std.specs.Prelude.{⊤}
use Rattle.calculus.specs.Tree.{Tree}
use Rattle.calculus.specs.Outcome.{Prices, Answer, gives, fails, unknown, Outcome}
use Rattle.calculus.specs.Unfolding.{unfold_part, parts_unfolded, unfold_in}
use Rattle.calculus.proofs.Room.{IsKnown, Refines, unfold_more, unfold_part_more, parts_more}
use Rattle.process_laws.proofs.Answering.{IsKnownWith}
use Rattle.process_laws.proofs.Valuing.{ComesTo}

-- anything at all
abbrev pub IsAnything : {A : Type 0} → A → Type 0
IsAnything x = ⊤

-- work with a known answer
abbrev pub IsSure : {A : Type 0} → Outcome A → Type 0
IsSure o = ComesTo IsAnything o

pub is-known : {A : Type 0} (a : Answer A) → IsKnownWith IsAnything a → IsKnown a
is-known (gives x) h = tt
is-known (fails f) h = tt
is-known unknown h = absurd h

pub sure-more : {A : Type 0} (o u : Outcome A) → Refines o u → IsSure o → IsSure u
sure-more o u r h = subst (λ w. IsSure w) (sym (r.1 (is-known o.answer h))) h

pub part-sure : (p : Prices) (n m : ℕ) → n ≤ m → (s : List ℕ) (t : Tree) → IsSure (unfold_part p (unfold_in p n) s t) → IsSure (unfold_part p (unfold_in p m) s t)
part-sure p n m e s t h = sure-more _ _ (unfold_part_more p (unfold_in p n) (unfold_in p m) (unfold_more p n m e) s t) h

pub parts-sure : (p : Prices) (n m : ℕ) → n ≤ m → (s : List ℕ) (i : ℕ) (ts : List Tree) → IsSure (parts_unfolded p (unfold_in p n) s i ts) → IsSure (parts_unfolded p (unfold_in p m) s i ts)
parts-sure p n m e s i ts h = sure-more _ _ (parts_more p (unfold_in p n) (unfold_in p m) (unfold_more p n m e) s i ts) h
