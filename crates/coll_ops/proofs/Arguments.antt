-- What methods answer, by their names and their arguments.
use Rattle.std.proofs.Common.{◌≡◌, ℕ, ◌<◌, Bool, true, false, ◌&&◌, eqb, List, [], ◌∷◌, ◌++◌, length, pos, get_or, refl, sym, ap, ◌∙◌, subst, arith}
use Rattle.std.specs.Prelude.{⊤, Result}
use Rattle.std.specs.Str.{bytes_eq}
use Rattle.std.proofs.lemmas.Slice.Eq.{bytes_eq-Decides}
use Rattle.std.proofs.lemmas.Bool.{cond-false, and_left, and_right, false_from_ne_true, ne_eqb}
use Rattle.calculus.specs.declared.fault.FaultKind.{FaultKind}
use Rattle.calculus.specs.declared.fault.FaultKind.TheVariants as fault
use Rattle.calculus.specs.Tree.{Tree}
use Rattle.calculus.specs.Outcome.{Answer, gives, fails}
use Rattle.calculus.specs.Methods.{Method, among_methods, methods, slice, with_map, with_set}
use Rattle.calculus.specs.Operators.{Seen, a_map, a_set, an_int, of_list, of_map, of_set, on_kinds, without}
use Rattle.calculus.specs.declared.plain.BinaryOp.TheVariants as op
use Rattle.value_ops.proofs.Arguments.{AreRange}
use Rattle.coll_ops.specs.Views.{Tells}

-- this, where a test holds
abbrev pub When : Bool → Type 0 → Type 0
When true A = A
When false A = ⊤

-- no line with so many arguments has this name
abbrev pub NoLine : List ℕ → ℕ → List Method → Type 0
NoLine n k [] = ⊤
NoLine n k (m ∷ ms) = When (eqb k m.takes) (n ≡ m.name → ⊥) × NoLine n k ms

misses : (n : List ℕ) (k w : ℕ) (v : List ℕ) (b : Bool) → b ≡ eqb k w → When b (n ≡ v → ⊥) → (bytes_eq n v && eqb k w) ≡ false
misses n k w v true e h = and_left (bytes_eq n v) (eqb k w) (false_from_ne_true (bytes_eq n v) (λ t. h ((bytes_eq-Decides n v).0 t)))
misses n k w v false e h = and_right (bytes_eq n v) (eqb k w) (sym e)

pub no-line : (n : List ℕ) (xs : List Tree) (ms : List Method) → NoLine n (length xs) ms → among_methods n xs ms ≡ fails fault.NoMethod
no-line n xs [] h = refl
no-line n xs (m ∷ ms) h =
    cond-false (bytes_eq n m.name && eqb (length xs) m.takes) (m.answer xs) (among_methods n xs ms) (misses n (length xs) m.takes m.name (eqb (length xs) m.takes) refl h.0) ∙ no-line n xs ms h.1

-- no line takes so many arguments
abbrev pub NoneTakes : ℕ → List Method → Type 0
NoneTakes k [] = ⊤
NoneTakes k (m ∷ ms) = (k ≡ m.takes → ⊥) × NoneTakes k ms

none-takes : (n : List ℕ) (xs : List Tree) (ms : List Method) → NoneTakes (length xs) ms → among_methods n xs ms ≡ fails fault.NoMethod
none-takes n xs [] h = refl
none-takes n xs (m ∷ ms) h =
    cond-false (bytes_eq n m.name && eqb (length xs) m.takes) (m.answer xs) (among_methods n xs ms) (and_right (bytes_eq n m.name) (eqb (length xs) m.takes) (ne_eqb (length xs) m.takes h.0)) ∙ none-takes n xs ms h.1

not-at : (k j : ℕ) → j < k → k ≡ j → ⊥
not-at k j h e = omega (arith, e)

set-none : (n : List ℕ) (xs ts : List Tree) → (length xs ≡ 0 → ⊥) → (length xs ≡ 1 → ⊥) → among_methods n xs (methods (a_set ts)) ≡ fails fault.NoMethod
set-none n xs ts a b = none-takes n xs (methods (a_set ts)) (a, (b, (b, (b, (b, (b, (a, tt)))))))

pub set-takes : (n : List ℕ) (xs ts : List Tree) → 1 < length xs → among_methods n xs (methods (a_set ts)) ≡ fails fault.NoMethod
set-takes n xs ts h = set-none n xs ts (not-at (length xs) 0 (omega arith)) (not-at (length xs) 1 h)

map-none : (n : List ℕ) (xs ps : List Tree) → (length xs ≡ 0 → ⊥) → (length xs ≡ 1 → ⊥) → (length xs ≡ 2 → ⊥) → among_methods n xs (methods (a_map ps)) ≡ fails fault.NoMethod
map-none n xs ps a b d = none-takes n xs (methods (a_map ps)) (a, (b, (b, (d, (d, (b, (b, (a, (a, tt)))))))))

pub map-takes : (n : List ℕ) (xs ps : List Tree) → 2 < length xs → among_methods n xs (methods (a_map ps)) ≡ fails fault.NoMethod
map-takes n xs ps h = map-none n xs ps (not-at (length xs) 0 (omega arith)) (not-at (length xs) 1 (omega arith)) (not-at (length xs) 2 h)

-- lists of no argument, of one and of two
pub none-given : (xs : List Tree) → length xs ≡ 0 → xs ≡ []
none-given [] h = refl
none-given (x ∷ xs) h = absurd (omega arith)

pub one-given : (xs : List Tree) (x : Tree) → length xs ≡ 1 → x ≡ get_or xs 0 x → xs ≡ x ∷ []
one-given [] x h e = absurd (omega arith)
one-given (y ∷ []) x h e = ap (λ z. z ∷ []) (sym e)
one-given (y ∷ z ∷ xs) x h e = absurd (omega arith)

pub two-given : (xs : List Tree) (x y : Tree) → length xs ≡ 2 → x ≡ get_or xs 0 x → y ≡ get_or xs 1 y → xs ≡ x ∷ y ∷ []
two-given [] x y h e f = absurd (omega arith)
two-given (z ∷ []) x y h e f = absurd (omega arith)
two-given (z ∷ w ∷ []) x y h e f = ap (λ v. v ∷ w ∷ []) (sym e) ∙ ap (λ v. x ∷ v ∷ []) (sym f)
two-given (z ∷ w ∷ v ∷ xs) x y h e f = absurd (omega arith)

-- what was told of these arguments, of a value by its name, and of the answer of a method
pub on-given : (b : Bool) (n : List ℕ) (xs ys : List Tree) (ms : List Method) (res : Result Tree FaultKind) → xs ≡ ys → Tells b (among_methods n ys ms) res → Tells b (among_methods n xs ms) res
on-given b n xs ys ms res e h = subst (λ z. Tells b (among_methods n z ms) res) (sym e) h

pub told : (b : Bool) (n m : List ℕ) (xs : List Tree) (ms : List Method) (t u : Tree) → n ≡ m → among_methods m xs ms ≡ gives u → (b ≡ false → t ≡ u) → b ≡ false → among_methods n xs ms ≡ gives t
told b n m xs ms t u e f h k = ap (λ z. among_methods z xs ms) e ∙ f ∙ ap gives (sym (h k))

pub told-by : (b : Bool) (n m : List ℕ) (xs : List Tree) (ms : List Method) (a : Answer Tree) (res : Result Tree FaultKind) → n ≡ m → among_methods m xs ms ≡ a → Tells b a res → Tells b (among_methods n xs ms) res
told-by b n m xs ms a res e f h = subst (λ z. Tells b z res) (sym (ap (λ z. among_methods z xs ms) e ∙ f)) h

-- an argument that has to be a set, or a map, as the right operand
pub set-united : (ts : List Tree) (s : Seen) → with_set s (λ us. of_set (ts ++ us)) ≡ on_kinds op.Append (a_set ts) s
set-united ts (a_set us) = refl
set-united ts _ = refl

pub set-differs : (ts : List Tree) (s : Seen) → with_set s (λ us. of_set (without us ts)) ≡ on_kinds op.Minus (a_set ts) s
set-differs ts (a_set us) = refl
set-differs ts _ = refl

pub map-united : (ps : List Tree) (s : Seen) → with_map s (λ qs. of_map (ps ++ qs)) ≡ on_kinds op.Append (a_map ps) s
map-united ps (a_map qs) = refl
map-united ps _ = refl

-- what was told of a range
pub at-range : (b : Bool) (xs : List Tree) (v w : Seen) (i j : ℕ) (res : Result Tree FaultKind) → AreRange v w i j → Tells b (slice of_list xs (an_int (pos i)) (an_int (pos j))) res → Tells b (slice of_list xs v w) res
at-range b xs v w i j res g h = subst (λ z. Tells b (slice of_list xs z w) res) (sym g.from) (subst (λ z. Tells b (slice of_list xs (an_int (pos i)) z) res) (sym g.to) h)
