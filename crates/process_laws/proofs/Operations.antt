-- The answers of operators on values that agree.
use Rattle.std.proofs.Common.{◌≡◌, ℕ, Bool, cond, List, ◌++◌, refl, ap}
use Rattle.std.specs.Prelude.{ℤ, pos, negsuc, not, ◌&&◌, ◌^◌, ◌+ℤ◌, ◌-ℤ◌, ◌*ℤ◌, neg_ℤ, int_lt, int_le, int_div, int_rem}
use Rattle.std.specs.List.{AllZip}
use Rattle.calculus.specs.declared.plain.UnaryOp.{UnaryOp}
use Rattle.calculus.specs.declared.plain.UnaryOp.TheVariants as unary_op
use Rattle.calculus.specs.declared.plain.BinaryOp.{BinaryOp}
use Rattle.calculus.specs.declared.plain.BinaryOp.TheVariants as op
use Rattle.calculus.specs.declared.fault.FaultKind.TheVariants as fault
use Rattle.calculus.specs.Tree.{bool, Tree}
use Rattle.calculus.specs.Shape.{leaf}
use Rattle.calculus.specs.Congruence.{congruent, same_int}
use Rattle.calculus.specs.Outcome.{Answer, gives, fails}
use Rattle.calculus.specs.Operators.{of_bool, of_int, of_text, of_bytes, seen, without, least_int, an_answer, divided, holds, on_ints, on_bools, on_texts, on_bytes, on_lists, on_sets, on_maps, on_kinds, binary_answer, on_kind, unary_answer}
use Rattle.calculus.proofs.Keys.{key}
use Rattle.process_laws.proofs.Zips.{zip-append}
use Rattle.process_laws.proofs.Targets.{same_answer}
use Rattle.process_laws.proofs.Twins.{a_process, Twin, twin-key}
use Rattle.process_laws.proofs.Outcomes.{Answers, answers-cond}
use Rattle.process_laws.proofs.Looks.{Looks, bools, ints, texts, byte_lists, lists, sets, maps, left, right, looked}
use Rattle.process_laws.proofs.Collections.{Both, Pairs, listed-both, set-both, map-both, without-both}

-- two answers agree, or one agrees with itself
abbrev pub Agree : Answer Tree → Answer Tree → Type 0
Agree a b = Answers (Twin a_process) a b

abbrev Steady : Answer Tree → Type 0
Steady a = Agree a a

pub bool-both : (b c : Bool) → b ≡ c → Both (of_bool b) (of_bool c)
bool-both b c e = (ap (λ x. key (of_bool x)) e, ((ap (λ x. key (leaf (bool x))) e, tt), tt))

pub int-both : (z : ℤ) → Both (of_int z) (of_int z)
int-both z = (refl, ((refl, tt), tt))

pub text-both : (s : List ℕ) → Both (of_text s) (of_text s)
text-both s = (refl, ((refl, tt), tt))

pub bytes-both : (s : List ℕ) → Both (of_bytes s) (of_bytes s)
bytes-both s = (refl, ((refl, tt), tt))

self-bool : (b : Bool) → Steady (holds b)
self-bool b = bool-both b b refl

an-int : (z : ℤ) → Steady (an_answer z)
an-int z =
    answers-cond (Twin a_process) (int_le least_int z && int_lt z (pos (2 ^ 63))) (int_le least_int z && int_lt z (pos (2 ^ 63))) (gives (of_int z)) (fails fault.Overflow) (gives (of_int z)) (fails fault.Overflow) refl (int-both z) refl

a-quotient : (x y z : ℤ) → Steady (divided x y z)
a-quotient x y z =
    let a = cond (same_int x least_int && same_int y (negsuc 0)) (fails fault.Overflow) (gives (of_int z)) in
    answers-cond (Twin a_process) (same_int y (pos 0)) (same_int y (pos 0)) (fails fault.DivZero) a (fails fault.DivZero) a refl refl
    (answers-cond (Twin a_process) (same_int x least_int && same_int y (negsuc 0)) (same_int x least_int && same_int y (negsuc 0)) (fails fault.Overflow) (gives (of_int z)) (fails fault.Overflow) (gives (of_int z)) refl refl (int-both z))

ints-agree : (o : BinaryOp) (x y : ℤ) → Steady (on_ints o x y)
ints-agree op.Lt x y = self-bool _
ints-agree op.Le x y = self-bool _
ints-agree op.Gt x y = self-bool _
ints-agree op.Ge x y = self-bool _
ints-agree op.Add x y = an-int (x +ℤ y)
ints-agree op.Sub x y = an-int (x -ℤ y)
ints-agree op.Mul x y = an-int (x *ℤ y)
ints-agree op.Div x y = a-quotient x y (int_div x y)
ints-agree op.Rem x y = a-quotient x y (int_rem x y)
ints-agree _ x y = refl

bools-agree : (o : BinaryOp) (x y : Bool) → Steady (on_bools o x y)
bools-agree op.Or x y = self-bool _
bools-agree op.And x y = self-bool _
bools-agree op.Lt x y = self-bool _
bools-agree op.Le x y = self-bool _
bools-agree op.Gt x y = self-bool _
bools-agree op.Ge x y = self-bool _
bools-agree _ x y = refl

texts-agree : (o : BinaryOp) (x y : List ℕ) → Steady (on_texts o x y)
texts-agree op.Lt x y = self-bool _
texts-agree op.Le x y = self-bool _
texts-agree op.Gt x y = self-bool _
texts-agree op.Ge x y = self-bool _
texts-agree op.Append x y = text-both _
texts-agree _ x y = refl

bytes-agree : (o : BinaryOp) (x y : List ℕ) → Steady (on_bytes o x y)
bytes-agree op.Append x y = bytes-both _
bytes-agree _ x y = refl

lists-agree : (o : BinaryOp) (xs ys vs ws : List Tree) → AllZip Both xs ys → AllZip Both vs ws → Agree (on_lists o xs vs) (on_lists o ys ws)
lists-agree op.Append xs ys vs ws h k = listed-both (xs ++ vs) (ys ++ ws) (zip-append Both xs vs ys ws h k)
lists-agree _ xs ys vs ws h k = refl

sets-agree : (o : BinaryOp) (xs ys vs ws : List Tree) → AllZip Both xs ys → AllZip Both vs ws → Agree (on_sets o xs vs) (on_sets o ys ws)
sets-agree op.Append xs ys vs ws h k = set-both (xs ++ vs) (ys ++ ws) (zip-append Both xs vs ys ws h k)
sets-agree op.Minus xs ys vs ws h k = set-both (without vs xs) (without ws ys) (without-both vs ws xs ys k h)
sets-agree _ xs ys vs ws h k = refl

maps-agree : (o : BinaryOp) (xs ys vs ws : List Tree) → AllZip Pairs xs ys → AllZip Pairs vs ws → Agree (on_maps o xs vs) (on_maps o ys ws)
maps-agree op.Append xs ys vs ws h k = map-both (xs ++ vs) (ys ++ ws) (zip-append Pairs xs vs ys ws h k)
maps-agree _ xs ys vs ws h k = refl

kinds-agree : (o : BinaryOp) (a b : Looks) → Agree (on_kinds o (left a) (left b)) (on_kinds o (right a) (right b))
kinds-agree o (bools x) (bools y) = bools-agree o x y
kinds-agree o (ints x) (ints y) = ints-agree o x y
kinds-agree o (texts x) (texts y) = texts-agree o x y
kinds-agree o (byte_lists x) (byte_lists y) = bytes-agree o x y
kinds-agree o (lists xs ys h) (lists vs ws k) = lists-agree o xs ys vs ws h k
kinds-agree o (sets xs ys h) (sets vs ws k) = sets-agree o xs ys vs ws h k
kinds-agree o (maps xs ys h) (maps vs ws k) = maps-agree o xs ys vs ws h k
kinds-agree o _ _ = refl

any-kinds : (o : BinaryOp) (t u v w : Tree) → Both t u → Both v w → Agree (on_kinds o (seen t) (seen v)) (on_kinds o (seen u) (seen w))
any-kinds o t u v w h k =
    let a = looked t u h in
    let b = looked v w k in
    rw (a.on_left, a.on_right, b.on_left, b.on_right) (kinds-agree o a.looks b.looks)

compared : (t u v w : Tree) → Both t u → Both v w → congruent t v ≡ congruent u w
compared t u v w h k = same_answer t u v w (twin-key a_process t u h) (twin-key a_process v w k)

pub binary-agrees : (o : BinaryOp) (t u v w : Tree) → Both t u → Both v w → Agree (binary_answer o t v) (binary_answer o u w)
unfolding binary_answer
binary-agrees op.Eq t u v w h k = bool-both (congruent t v) (congruent u w) (compared t u v w h k)
binary-agrees op.Ne t u v w h k = bool-both (not (congruent t v)) (not (congruent u w)) (ap not (compared t u v w h k))
binary-agrees o t u v w h k = any-kinds o t u v w h k

kind-agrees : (o : UnaryOp) (a : Looks) → Agree (on_kind o (left a)) (on_kind o (right a))
kind-agrees unary_op.Not (bools x) = self-bool _
kind-agrees unary_op.Neg (ints x) = an-int (neg_ℤ x)
kind-agrees _ _ = refl

pub unary-agrees : (o : UnaryOp) (t u : Tree) → Both t u → Agree (unary_answer o t) (unary_answer o u)
unfolding unary_answer
unary-agrees o t u h =
    let a = looked t u h in
    rw (a.on_left, a.on_right) (kind-agrees o a.looks)
