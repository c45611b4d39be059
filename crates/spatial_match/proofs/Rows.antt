-- Members of a row by their numbers.
use Rattle.std.proofs.Common.{◌≡◌, ℕ, zero, suc, ◌+◌, ◌<◌, ◌≤◌, Bool, true, false, cond, List, [], ◌∷◌, length, map as each, drop, get_or, refl, ap, ◌∙◌, arith, add-one}
use Rattle.std.specs.Prelude.{◌||◌, ◌&&◌, Some, ⊤}
use Rattle.calculus.specs.Tree.{Tree, node, trees}
use Rattle.calculus.specs.Shape.{process, label_of}
use Rattle.calculus.specs.Variables.{is_wide}
use Rattle.calculus.specs.Matching.{Bindings, Member, pieces, wholes, has_wide, is_empty, some_match, first_of_all}
use Rattle.spatial_match.specs.Search.{member_at, no_wide, AtMostOne, WideIs}
use Rattle.spatial_match.specs.Found.{member, wides_take, may_leave}

drop-suc : (ms : List Member) (i : ℕ) → i < length ms → drop i ms ≡ member_at i ms ∷ drop (suc i) ms
drop-suc [] i h = absurd (omega arith)
drop-suc (m ∷ ms) zero h = refl
drop-suc (m ∷ ms) (suc i) h = drop-suc ms i (omega arith)

-- the members from one on are that one and those after it
pub drop-at : (ms : List Member) (i : ℕ) → i < length ms → drop i ms ≡ member_at i ms ∷ drop (i + 1) ms
drop-at ms i h = rw (add-one) (drop-suc ms i h)

pub at-each : {A : Type 0} (f : A → Tree) (xs : List A) (i : ℕ) (d : A) → i < length xs → member_at i (each (λ x. member (f x)) xs) ≡ member (f (get_or xs i d))
at-each f [] i d h = absurd (omega arith)
at-each f (x ∷ xs) zero d h = refl
at-each f (x ∷ xs) (suc i) d h = at-each f xs i d (omega arith)

pub wholes-each : {A : Type 0} (f : A → Tree) (xs : List A) → wholes (pieces (trees (each f xs))) ≡ each (λ x. member (f x)) xs
wholes-each f [] = refl
wholes-each f (x ∷ xs) = ap (λ ms. member (f x) ∷ ms) (wholes-each f xs)

pub wholes-row : (ts : List Tree) → wholes (pieces (trees ts)) ≡ each member ts
wholes-row [] = refl
wholes-row (t ∷ ts) = ap (λ ms. member t ∷ ms) (wholes-row ts)

pub member-wide : (p : Tree) → (member p).wide ≡ is_wide (label_of p)
member-wide (node l ts) = refl

-- none of the members before number k is wide
abbrev pub NoneBefore : ℕ → List Member → Type 0
NoneBefore zero ms = ⊤
NoneBefore (suc k) [] = ⊤
NoneBefore (suc k) (m ∷ ms) = (m.wide ≡ false) × NoneBefore k ms

none-more : (k : ℕ) (ms : List Member) → NoneBefore k ms → (member_at k ms).wide ≡ false → NoneBefore (suc k) ms
none-more zero [] h e = tt
none-more zero (m ∷ ms) h e = (e, tt)
none-more (suc k) [] h e = tt
none-more (suc k) (m ∷ ms) h e = (h.0, none-more k ms h.1 e)

pub none-next : (k : ℕ) (ms : List Member) → NoneBefore k ms → (member_at k ms).wide ≡ false → NoneBefore (k + 1) ms
none-next k ms h e = rw (add-one) (none-more k ms h e)

pub none-all : (k : ℕ) (ms : List Member) → length ms ≤ k → NoneBefore k ms → no_wide ms ≡ true
none-all k [] l h = refl
none-all zero (m ∷ ms) l h = absurd (omega arith)
none-all (suc k) (m ∷ ms) l h = ap (λ b. cond b false (no_wide ms)) h.0 ∙ none-all k ms (omega arith) h.1

and_last : (b : Bool) → (b && true) ≡ b
and_last true = refl
and_last false = refl

or_last : (a b : Bool) → b ≡ true → (a || b) ≡ true
or_last true b h = refl
or_last false b h = h

not_wide : (b c : Bool) → cond b false c ≡ true → (b ≡ false) × (c ≡ true)
not_wide true c e = cc
not_wide false c e = (refl, e)

not-wide : (m : Member) (ms : List Member) → no_wide (m ∷ ms) ≡ true → (m.wide ≡ false) × (no_wide ms ≡ true)
not-wide m ms h = not_wide m.wide (no_wide ms) h

module _ (t : Tree) where
  -- without wide members nothing is asked
  pub none_take : (ms : List Member) → no_wide ms ≡ true → wides_take ms t ≡ true
  none_take [] h = refl
  none_take (m ∷ ms) h =
      let n = not-wide m ms h in
      ap (λ b. cond b (some_match (m.tries t)) true && wides_take ms t) n.0 ∙ none_take ms n.1

  pub none_is : (ms : List Member) (w : Bindings) → no_wide ms ≡ true → WideIs ms t w
  none_is [] w h = tt
  none_is (m ∷ ms) w h =
      let n = not-wide m ms h in
      (λ e. cc, none_is ms w n.1)

  pub one_takes : (k : ℕ) (ms : List Member) → NoneBefore k ms → (member_at k ms).wide ≡ true → AtMostOne ms → wides_take ms t ≡ some_match ((member_at k ms).tries t)
  one_takes zero [] h e a = cc
  one_takes zero (m ∷ ms) h e a =
      ap (λ b. cond b (some_match (m.tries t)) true && wides_take ms t) e ∙ ap (λ b. some_match (m.tries t) && b) (none_take ms (a.0 e)) ∙ and_last (some_match (m.tries t))
  one_takes (suc k) [] h e a = cc
  one_takes (suc k) (m ∷ ms) h e a = ap (λ b. cond b (some_match (m.tries t)) true && wides_take ms t) h.0 ∙ one_takes k ms h.1 e a.1

  pub one_is : (k : ℕ) (ms : List Member) (w : Bindings) → NoneBefore k ms → (member_at k ms).wide ≡ true → AtMostOne ms → first_of_all ((member_at k ms).tries t) ≡ Some w → WideIs ms t w
  one_is zero [] w h e a f = tt
  one_is zero (m ∷ ms) w h e a f = (λ g. f, none_is ms w (a.0 e))
  one_is (suc k) [] w h e a f = tt
  one_is (suc k) (m ∷ ms) w h e a f = (λ g. cc, one_is k ms w h.1 e a.1 f)

pub one_has : (k : ℕ) (ms : List Member) → (member_at k ms).wide ≡ true → has_wide ms ≡ true
one_has zero [] e = cc
one_has zero (m ∷ ms) e = ap (λ b. b || has_wide ms) e
one_has (suc k) [] e = cc
one_has (suc k) (m ∷ ms) e = or_last m.wide (has_wide ms) (one_has k ms e)

pub none_has : (ms : List Member) → no_wide ms ≡ true → has_wide ms ≡ false
none_has [] h = refl
none_has (m ∷ ms) h =
    let n = not-wide m ms h in
    ap (λ b. b || has_wide ms) n.0 ∙ none_has ms n.1

-- of members of which one at most is wide, none after a wide one is
pub alone : (k : ℕ) (ms : List Member) → (member_at k ms).wide ≡ true → AtMostOne ms → no_wide (drop (suc k) ms) ≡ true
alone zero [] e a = cc
alone zero (m ∷ ms) e a = a.0 e
alone (suc k) [] e a = cc
alone (suc k) (m ∷ ms) e a = alone k ms e a.1

pub alone-after : (k : ℕ) (ms : List Member) → (member_at k ms).wide ≡ true → AtMostOne ms → no_wide (drop (k + 1) ms) ≡ true
alone-after k ms e a = rw (add-one) (alone k ms e a)

-- what the members leave may be left where there is no wide one and nothing is left, or the wide one takes it
pub may-none : (ms : List Member) (ts : List Tree) → no_wide ms ≡ true → may_leave ms ts ≡ is_empty ts
may-none ms ts h =
    ap (λ b. (b || is_empty ts) && wides_take ms (process ts)) (none_has ms h) ∙ ap (λ b. is_empty ts && b) (none_take (process ts) ms h) ∙ and_last (is_empty ts)

pub may-one : (k : ℕ) (ms : List Member) (ts : List Tree) → NoneBefore k ms → (member_at k ms).wide ≡ true → AtMostOne ms → may_leave ms ts ≡ some_match ((member_at k ms).tries (process ts))
may-one k ms ts h e a = ap (λ b. (b || is_empty ts) && wides_take ms (process ts)) (one_has k ms e) ∙ one_takes (process ts) k ms h e a

-- whether member number i is wide, where the members stand for these
pub wide-at : {A : Type 0} (f : A → Tree) (xs : List A) (i : ℕ) (d : A) → i < length xs → (member_at i (each (λ x. member (f x)) xs)).wide ≡ is_wide (label_of (f (get_or xs i d)))
wide-at f xs i d h = ap (λ m. m.wide) (at-each f xs i d h) ∙ member-wide (f (get_or xs i d))

-- what member number i finds
pub found-at : {A : Type 0} (f : A → Tree) (xs : List A) (i : ℕ) (d : A) (t : Tree) → i < length xs → (member_at i (each (λ x. member (f x)) xs)).tries t ≡ (member (f (get_or xs i d))).tries t
found-at f xs i d t h = ap (λ m. m.tries t) (at-each f xs i d h)

pub length-each : {A : Type 0} (f : A → Tree) (xs : List A) → length (each (λ x. member (f x)) xs) ≡ length xs
length-each f [] = refl
length-each f (x ∷ xs) = omega (arith, length-each f xs)

pub length-row : (ts : List Tree) → length (each member ts) ≡ length ts
length-row [] = refl
length-row (t ∷ ts) = omega (arith, length-row ts)
