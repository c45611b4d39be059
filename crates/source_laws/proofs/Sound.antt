-- Rules whose value is right where the values of their constituents are, and the forms that productions make.
use Rattle.std.proofs.Common.{ℕ, ◌+◌, ◌-◌, ◌≤◌, List, [], ◌∷◌, ◌++◌, length, arith, length-append}
use Rattle.std.specs.Prelude.{◌^◌, pos, neg_ℤ, ◌≤ℤ◌, ◌<ℤ◌}
use Rattle.calculus.specs.Tree.{list_pattern, set_pattern}
use Rattle.calculus.specs.declared.plain.Kind.{Kind}
use Rattle.calculus.specs.declared.plain.Kind.TheVariants as kinds
use Rattle.calculus.specs.Written.{in_pattern, Written, form}
use Rattle.calculus.specs.Form.{term, pat, a_bind, a_case}
use Rattle.grammar.specs.Rules.{Rule, done, sign, opens, next, opens_next, holds, integer, at, under, last}
use Rattle.grammar.specs.Values.{Spelt, with_form, with_first, match_of, if_of, receive_of, contract_of}
use Rattle.source_laws.specs.WellFormed.{IsOfSort}
use Rattle.source_laws.specs.Texts.{IsSoundText}
use Rattle.source_laws.proofs.Sorts.{Given, Value, Each, IsClosedForm, IsLeft, IsSeq, count-writtens, each-more, bind-sound}

-- where each constituent is of its sort, the value is what is wanted
abbrev pub Sound : (Written → Type 0) → Rule → Type 0
Sound G (done v) = G v.tree
Sound G (sign m r) = Sound G r
Sound G (opens m h r) = Sound G r
Sound G (next test r) = Sound G r
Sound G (opens_next test r) = Sound G r
Sound G (holds k f) = (w : List ℕ) → IsSoundText k w → Sound G (f w)
Sound G (integer most f) = (n : ℕ) → n ≤ most → Sound G (f n)
Sound G (at s f) = Given s × ((a : Spelt) → Value s a.tree → Sound G (f a))
Sound G (under s f) = Given s × ((a : Spelt) → Value s a.tree → Sound G (f a))
Sound G (last s) = Given s × ((t : Written) → Value s t → G t)

-- there is one, where one more was read
pub grown : {A : Type 0} (xs : List A) (x : A) → 1 ≤ length (xs ++ (x ∷ []))
grown xs x = omega (arith, length-append xs (x ∷ []))

pub receive-sound : (k : Kind) (bs : List Written) (p : Written) → Each a_bind bs → 1 ≤ length bs → length bs ≤ 16 → IsOfSort term p → IsClosedForm (receive_of k bs p)
receive-sound k bs p h l m i = (((tt, (rw (count-writtens bs) l, rw (count-writtens bs) m)), ((tt, h), (i, tt))), tt)

pub match-sound : (t : Written) (cs : List Written) → IsOfSort term t → Each a_case cs → 1 ≤ length cs → IsClosedForm (match_of t cs)
match-sound t cs h i l = (((tt, rw (count-writtens cs) l), (h, ((tt, i), tt))), tt)

pub if-sound : (e p q : Written) → IsOfSort term e → IsOfSort term p → IsOfSort term q → IsClosedForm (if_of e p q)
if-sound e p q a b c = (((tt, omega arith), (a, ((tt, ((tt, (((tt, tt), tt), (b, tt))), ((tt, (((tt, tt), tt), (c, tt))), tt))), tt))), tt)

pub contract-sound : (n l p : Written) → IsOfSort term n → IsLeft l → IsOfSort term p → IsClosedForm (contract_of n l p)
contract-sound n l p h i j = receive-sound kinds.Persistent (with_first n l ∷ []) p (bind-sound n l h i, tt) (omega arith) (omega arith) j

-- one more bind of those that may follow
pub binds-sound : (left : ℕ) (bs : List Written) (b : Written) → Each a_bind bs → length bs + left ≤ 15 → IsOfSort a_bind b → Each a_bind (bs ++ (b ∷ [])) × ((1 ≤ length (bs ++ (b ∷ []))) × (length (bs ++ (b ∷ [])) + left ≤ 16))
binds-sound left bs b h l k = (each-more a_bind bs b h k, (grown bs b, omega (arith, l, length-append bs (b ∷ []))))

-- members under the form of a list or set pattern
pub list-seq : (t : Written) → IsSeq t → IsOfSort pat (with_form (in_pattern list_pattern) t)
list-seq (form f ts) h = ((tt, tt), h)

pub set-seq : (t : Written) → IsSeq t → IsOfSort pat (with_form (in_pattern set_pattern) t)
set-seq (form f ts) h = ((tt, tt), h)

-- an Int has 64 bits
pub int-sound : (n : ℕ) → n ≤ 2 ^ 63 - 1 → (neg_ℤ (pos (2 ^ 63)) ≤ℤ pos n) × (pos n <ℤ pos (2 ^ 63))
int-sound n h = (grind (arith, h), grind (arith, h))

pub minus-sound : (n : ℕ) → n ≤ 2 ^ 63 → (neg_ℤ (pos (2 ^ 63)) ≤ℤ neg_ℤ (pos n)) × (neg_ℤ (pos n) <ℤ pos (2 ^ 63))
minus-sound n h = (grind (arith, h), grind (arith, h))
