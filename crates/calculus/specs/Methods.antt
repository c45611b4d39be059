-- The table of methods: for each kind of target the names, the numbers of arguments and the answers.
use Rattle.std.specs.Prelude.{ℕ, zero, suc, cond, not, ◌&&◌, eqb, leb, List, [], ◌∷◌, ◌++◌, length, take, drop, filter, map as each, Option, Some, None, pos, negsuc, codes}
use Rattle.std.specs.Str.{bytes_eq}
use Rattle.calculus.specs.Tree.{par, tuple, pair, Tree}
use Rattle.calculus.specs.Shape.{leaf, two, many, only, held, at}
use Rattle.calculus.specs.declared.fault.FaultKind.TheVariants as fault
use Rattle.calculus.specs.Outcome.{Answer, gives, fails}
use Rattle.calculus.specs.Bytes.{joined}
use Rattle.calculus.specs.Congruence.{congruent}
use Rattle.calculus.specs.Normal.{ascending}
use Rattle.calculus.specs.Texts.{characters, from_hex, to_hex}
use Rattle.calculus.specs.Operators.{Seen, an_int, a_text, some_bytes, a_list, a_tuple, a_set, a_map, seen, of_int, of_text, of_bytes, of_list, of_set, of_map, is_among, without, key_of, found, holds}

-- one line of the table: a name, how many arguments it takes, and the answer on them
pub record Method : Type 0 where
  pub name : List ℕ
  pub takes : ℕ
  pub answer : List Tree → Answer Tree

-- a method without arguments
abbrev pub plainly : List ℕ → Answer Tree → Method
plainly n a = record { name = n; takes = 0; answer = λ xs. a }

-- a method of one argument
abbrev pub given : List ℕ → (Tree → Answer Tree) → Method
given n f = record { name = n; takes = 1; answer = λ xs. f (at 0 xs) }

-- a method of two arguments
abbrev pub given_two : List ℕ → (Tree → Tree → Answer Tree) → Method
given_two n f = record { name = n; takes = 2; answer = λ xs. f (at 0 xs) (at 1 xs) }

-- the member of index i, from 0 on, or Index
abbrev pub nth : {A : Type 0} → (A → Tree) → List A → ℕ → Answer Tree
nth f [] i = fails fault.Index
nth f (x ∷ xs) zero = gives (f x)
nth f (x ∷ xs) (suc i) = nth f xs i

-- the member at an argument that is an Int
abbrev pub nth_at : {A : Type 0} → (A → Tree) → List A → Seen → Answer Tree
nth_at f xs (an_int (pos i)) = nth f xs i
nth_at f xs (an_int (negsuc i)) = fails fault.Index
nth_at f xs _ = fails fault.WrongType

-- the members from i up to and without j, or Index
abbrev pub slice : {A : Type 0} → (List A → Tree) → List A → Seen → Seen → Answer Tree
slice f xs (an_int (pos i)) (an_int (pos j)) = cond (leb i j && leb j (length xs)) (gives (f (drop i (take j xs)))) (fails fault.Index)
slice f xs (an_int i) (an_int j) = fails fault.Index
slice f xs _ _ = fails fault.WrongType

-- the length
abbrev pub size : {A : Type 0} → List A → Answer Tree
size xs = gives (of_int (pos (length xs)))

-- the bytes that a text of digits spells
abbrev pub hex_answer : Option (List ℕ) → Answer Tree
hex_answer (Some bs) = gives (of_bytes bs)
hex_answer None = fails fault.WrongType

-- an argument that is a set
abbrev pub with_set : Seen → (List Tree → Tree) → Answer Tree
with_set (a_set us) f = gives (f us)
with_set _ f = fails fault.WrongType

-- an argument that is a map
abbrev pub with_map : Seen → (List Tree → Tree) → Answer Tree
with_map (a_map us) f = gives (f us)
with_map _ f = fails fault.WrongType

-- the pairs whose key is not congruent to this one
abbrev pub without_key : Tree → List Tree → List Tree
without_key k ps = filter (λ p. not (congruent k (key_of p))) ps

-- a pair as a tuple
abbrev pub as_tuple : Tree → Tree
as_tuple p = only (many tuple (held p))

-- the methods of each kind of value; a kind that is not named has none
abbrev pub methods : Seen → List Method
methods (a_text s) =
    plainly (codes "length") (size (characters s)) ∷
    given_two (codes "slice") (λ i j. slice (λ cs. of_text (joined cs)) (characters s) (seen i) (seen j)) ∷
    plainly (codes "toUtf8Bytes") (gives (of_bytes s)) ∷
    plainly (codes "hexToBytes") (hex_answer (from_hex s)) ∷ []
methods (some_bytes s) =
    plainly (codes "length") (size s) ∷
    given (codes "nth") (λ i. nth_at (λ b. of_int (pos b)) s (seen i)) ∷
    given_two (codes "slice") (λ i j. slice of_bytes s (seen i) (seen j)) ∷
    plainly (codes "bytesToHex") (gives (of_text (to_hex s))) ∷ []
methods (a_list ts) =
    plainly (codes "length") (size ts) ∷
    given (codes "nth") (λ i. nth_at (λ t. t) ts (seen i)) ∷
    given_two (codes "slice") (λ i j. slice of_list ts (seen i) (seen j)) ∷
    plainly (codes "toSet") (gives (of_set ts)) ∷ []
methods (a_tuple ts) =
    given (codes "nth") (λ i. nth_at (λ t. t) ts (seen i)) ∷ []
methods (a_set ts) =
    plainly (codes "size") (size ts) ∷
    given (codes "contains") (λ x. holds (is_among x ts)) ∷
    given (codes "add") (λ x. gives (of_set (ts ++ x ∷ []))) ∷
    given (codes "delete") (λ x. gives (of_set (without (x ∷ []) ts))) ∷
    given (codes "union") (λ s. with_set (seen s) (λ us. of_set (ts ++ us))) ∷
    given (codes "diff") (λ s. with_set (seen s) (λ us. of_set (without us ts))) ∷
    plainly (codes "toList") (gives (of_list (ascending ts))) ∷ []
methods (a_map ps) =
    plainly (codes "size") (size ps) ∷
    given (codes "contains") (λ k. holds (is_among k (each key_of ps))) ∷
    given (codes "get") (λ k. gives (found (leaf par) k ps)) ∷
    given_two (codes "getOrElse") (λ k v. gives (found v k ps)) ∷
    given_two (codes "set") (λ k v. gives (of_map (ps ++ two pair k v ∷ []))) ∷
    given (codes "delete") (λ k. gives (of_map (without_key k ps))) ∷
    given (codes "union") (λ m. with_map (seen m) (λ qs. of_map (ps ++ qs))) ∷
    plainly (codes "keys") (gives (of_set (each key_of ps))) ∷
    plainly (codes "toList") (gives (of_list (each as_tuple (ascending ps)))) ∷ []
methods _ = []

-- the answer of the first line with this name and this number of arguments, or NoMethod
abbrev pub among_methods : List ℕ → List Tree → List Method → Answer Tree
among_methods n xs [] = fails fault.NoMethod
among_methods n xs (m ∷ ms) = cond (bytes_eq n m.name && eqb (length xs) m.takes) (m.answer xs) (among_methods n xs ms)

-- a method of this name of a value on these arguments
unfoldable pub method_answer : List ℕ → Tree → List Tree → Answer Tree
method_answer n t xs = among_methods n xs (methods (seen t))
