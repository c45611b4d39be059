-- What operators answer.
use Rattle.std.proofs.Common.{ℕ, Bool, ◌+ℤ◌, ◌-ℤ◌, ◌*ℤ◌, ℤ, neg_ℤ, List, ◌++◌, not, IsUtf8}
use Rattle.std.proofs.lemmas.Str.{IsUtf8-append}
use Rattle.calculus.specs.declared.plain.UnaryOp.{UnaryOp}
use Rattle.calculus.specs.declared.plain.UnaryOp.TheVariants as unary_op
use Rattle.calculus.specs.declared.plain.BinaryOp.{BinaryOp}
use Rattle.calculus.specs.declared.plain.BinaryOp.TheVariants as op
use Rattle.calculus.specs.Tree.{Tree}
use Rattle.calculus.specs.Form.{term, pair_of, IsBytes, IsClosed}
use Rattle.calculus.specs.Operators.{Seen, a_bool, an_int, a_text, some_bytes, a_list, a_set, a_map, seen, of_text, of_bytes, is_among, on_ints, on_bools, on_texts, on_bytes, on_lists, on_sets, on_maps, on_kinds, on_kind, binary_answer, unary_answer}
use Rattle.process_laws.specs.ClosedValueLaws.{GivesClosed, UnaryIsClosed, BinaryIsClosed}
use Rattle.process_laws.proofs.Members.{AllFit, append-fit, filter-fit, list-closed, set-closed, map-closed}
use Rattle.process_laws.proofs.Texts.{bytes-append}
use Rattle.process_laws.proofs.Numbers.{InRange, answer-closed, quotient-closed, remainder-closed}
use Rattle.process_laws.proofs.Seen.{SeenFits, seen-fits}

pub text-closed : (s : List ℕ) → IsUtf8 s → IsBytes s → IsClosed (of_text s)
text-closed s u b = (tt, (((u, b), tt), tt))

pub bytes-closed : (s : List ℕ) → IsBytes s → IsClosed (of_bytes s)
bytes-closed s b = (tt, ((b, tt), tt))

ints-closed : (o : BinaryOp) (x y : ℤ) → InRange x → GivesClosed (on_ints o x y)
ints-closed op.Lt x y h = (tt, ((tt, tt), tt))
ints-closed op.Le x y h = (tt, ((tt, tt), tt))
ints-closed op.Gt x y h = (tt, ((tt, tt), tt))
ints-closed op.Ge x y h = (tt, ((tt, tt), tt))
ints-closed op.Add x y h = answer-closed (x +ℤ y)
ints-closed op.Sub x y h = answer-closed (x -ℤ y)
ints-closed op.Mul x y h = answer-closed (x *ℤ y)
ints-closed op.Div x y h = quotient-closed x y h
ints-closed op.Rem x y h = remainder-closed x y h
ints-closed _ x y h = tt

bools-closed : (o : BinaryOp) (x y : Bool) → GivesClosed (on_bools o x y)
bools-closed op.Or x y = (tt, ((tt, tt), tt))
bools-closed op.And x y = (tt, ((tt, tt), tt))
bools-closed op.Lt x y = (tt, ((tt, tt), tt))
bools-closed op.Le x y = (tt, ((tt, tt), tt))
bools-closed op.Gt x y = (tt, ((tt, tt), tt))
bools-closed op.Ge x y = (tt, ((tt, tt), tt))
bools-closed _ x y = tt

texts-closed : (o : BinaryOp) (x y : List ℕ) → IsUtf8 x × IsBytes x → IsUtf8 y × IsBytes y → GivesClosed (on_texts o x y)
texts-closed op.Lt x y h k = (tt, ((tt, tt), tt))
texts-closed op.Le x y h k = (tt, ((tt, tt), tt))
texts-closed op.Gt x y h k = (tt, ((tt, tt), tt))
texts-closed op.Ge x y h k = (tt, ((tt, tt), tt))
texts-closed op.Append x y h k = text-closed (x ++ y) (IsUtf8-append x y h.0 k.0) (bytes-append x y h.1 k.1)
texts-closed _ x y h k = tt

byte-lists-closed : (o : BinaryOp) (x y : List ℕ) → IsBytes x → IsBytes y → GivesClosed (on_bytes o x y)
byte-lists-closed op.Append x y h k = bytes-closed (x ++ y) (bytes-append x y h k)
byte-lists-closed _ x y h k = tt

lists-closed : (o : BinaryOp) (x y : List Tree) → AllFit term x → AllFit term y → GivesClosed (on_lists o x y)
lists-closed op.Append x y h k = list-closed (x ++ y) (append-fit term x y h k)
lists-closed _ x y h k = tt

sets-closed : (o : BinaryOp) (x y : List Tree) → AllFit term x → AllFit term y → GivesClosed (on_sets o x y)
sets-closed op.Append x y h k = set-closed (x ++ y) (append-fit term x y h k)
sets-closed op.Minus x y h k = set-closed _ (filter-fit term (λ t. not (is_among t y)) x h)
sets-closed _ x y h k = tt

maps-closed : (o : BinaryOp) (x y : List Tree) → AllFit (pair_of term) x → AllFit (pair_of term) y → GivesClosed (on_maps o x y)
maps-closed op.Append x y h k = map-closed (x ++ y) (append-fit (pair_of term) x y h k)
maps-closed _ x y h k = tt

kinds-closed : (o : BinaryOp) (s t : Seen) → SeenFits s → SeenFits t → GivesClosed (on_kinds o s t)
kinds-closed o (a_bool x) (a_bool y) h k = bools-closed o x y
kinds-closed o (an_int x) (an_int y) h k = ints-closed o x y h
kinds-closed o (a_text x) (a_text y) h k = texts-closed o x y h k
kinds-closed o (some_bytes x) (some_bytes y) h k = byte-lists-closed o x y h k
kinds-closed o (a_list x) (a_list y) h k = lists-closed o x y h k
kinds-closed o (a_set x) (a_set y) h k = sets-closed o x y h k
kinds-closed o (a_map x) (a_map y) h k = maps-closed o x y h k
kinds-closed o _ _ h k = tt

pub binary_is_closed : BinaryIsClosed
unfolding binary_answer
binary_is_closed op.Eq t u h a k b = (tt, ((tt, tt), tt))
binary_is_closed op.Ne t u h a k b = (tt, ((tt, tt), tt))
binary_is_closed o t u h a k b = kinds-closed o (seen t) (seen u) (seen-fits t h) (seen-fits u k)

kind-closed : (o : UnaryOp) (s : Seen) → GivesClosed (on_kind o s)
kind-closed unary_op.Not (a_bool x) = (tt, ((tt, tt), tt))
kind-closed unary_op.Neg (an_int x) = answer-closed (neg_ℤ x)
kind-closed _ _ = tt

pub unary_is_closed : UnaryIsClosed
unfolding unary_answer
unary_is_closed o t h a = kind-closed o (seen t)
