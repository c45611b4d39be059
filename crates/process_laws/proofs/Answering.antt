-- What operators and methods answer on good values is good, and known.
use Rattle.std.proofs.Common.{ℕ, Bool, true, false, cond, ◌&&◌, not, List, ◌++◌, ℤ, pos, negsuc, neg_ℤ, ◌+ℤ◌, ◌-ℤ◌, ◌*ℤ◌, int_le, int_lt, int_div, int_rem, ◌^◌}
use Rattle.std.specs.Prelude.{⊤}
use Rattle.calculus.proofs.Members.{every-append, every-filter}
use Rattle.calculus.specs.declared.plain.UnaryOp.{UnaryOp}
use Rattle.calculus.specs.declared.plain.UnaryOp.TheVariants as unary_op
use Rattle.calculus.specs.declared.plain.BinaryOp.{BinaryOp}
use Rattle.calculus.specs.declared.plain.BinaryOp.TheVariants as op
use Rattle.calculus.specs.declared.fault.FaultKind.TheVariants as fault
use Rattle.calculus.specs.Tree.{par, bool, int, str, bytes, list, tuple, set, dict, Tree, node, none, also}
use Rattle.calculus.specs.Congruence.{congruent, same_int}
use Rattle.calculus.specs.Outcome.{Answer, gives, fails, unknown}
use Rattle.calculus.specs.Operators.{Seen, a_bool, an_int, a_text, some_bytes, a_list, a_tuple, a_set, a_map, seen_part, seen, of_int, of_text, of_bytes, is_among, least_int, an_answer, divided, on_ints, on_bools, on_texts, on_bytes, on_lists, on_sets, on_maps, on_kinds, on_kind, binary_answer, unary_answer}
use Rattle.process_laws.proofs.Goodness.{a_term, a_part, a_pair, IsGood, AreGood, listed-good}
use Rattle.process_laws.proofs.Making.{HasStandard, collections, bool-good, list-good, set-good, map-good}

-- an answer that is known, with this said of its result
abbrev pub IsKnownWith : {A : Type 0} → (A → Type 0) → Answer A → Type 0
IsKnownWith P (gives x) = P x
IsKnownWith P (fails f) = ⊤
IsKnownWith P unknown = ⊥

-- what a value is seen as holds good trees
abbrev pub HoldsGood : (Tree → Type 0) → Seen → Type 0
HoldsGood O (a_list ts) = AreGood O a_term ts
HoldsGood O (a_tuple ts) = AreGood O a_term ts
HoldsGood O (a_set ts) = AreGood O a_term ts
HoldsGood O (a_map ps) = AreGood O a_pair ps
HoldsGood O _ = ⊤

module _ (O : Tree → Type 0) (standard : HasStandard O) where
  -- a known answer, whose result is good
  abbrev pub IsKnownGood : Answer Tree → Type 0
  IsKnownGood a = IsKnownWith (IsGood O a_term) a

  part-seen : (t : Tree) → IsGood O a_part t → HoldsGood O (seen_part t)
  part-seen (node list ts) h = listed-good O a_term ts h.1
  part-seen (node tuple ts) h = listed-good O a_term ts h.1
  part-seen (node set ts) h = listed-good O a_term ts h.1
  part-seen (node dict ts) h = listed-good O a_pair ts h.1
  part-seen (node (bool b) ts) h = tt
  part-seen (node (int z) ts) h = tt
  part-seen (node (str s) ts) h = tt
  part-seen (node (bytes s) ts) h = tt
  part-seen (node _ ts) h = tt

  pub seen-good : (t : Tree) → IsGood O a_term t → HoldsGood O (seen t)
  seen-good (node par none) h = tt
  seen-good (node par (also t none)) h = part-seen t h.1.0
  seen-good (node par (also t (also u us))) h = tt
  seen-good (node _ ts) h = absurd h.1

  pub int-good : (z : ℤ) → IsGood O a_term (of_int z)
  int-good z = (tt, ((standard (int z) none tt tt, tt), tt))

  pub text-good : (s : List ℕ) → IsGood O a_term (of_text s)
  text-good s = (tt, ((standard (str s) none tt tt, tt), tt))

  pub bytes-good : (s : List ℕ) → IsGood O a_term (of_bytes s)
  bytes-good s = (tt, ((standard (bytes s) none tt tt, tt), tt))

  -- an answer by a test
  pub chosen : (b : Bool) (x y : Answer Tree) → IsKnownGood x → IsKnownGood y → IsKnownGood (cond b x y)
  chosen true x y h k = h
  chosen false x y h k = k

  answer-good : (z : ℤ) → IsKnownGood (an_answer z)
  answer-good z = chosen (int_le least_int z && int_lt z (pos (2 ^ 63))) (gives (of_int z)) (fails fault.Overflow) (int-good z) tt

  divided-good : (x y z : ℤ) → IsKnownGood (divided x y z)
  divided-good x y z =
      chosen (same_int y (pos 0)) (fails fault.DivZero) (cond (same_int x least_int && same_int y (negsuc 0)) (fails fault.Overflow) (gives (of_int z))) tt
      (chosen (same_int x least_int && same_int y (negsuc 0)) (fails fault.Overflow) (gives (of_int z)) tt (int-good z))

  ints-good : (o : BinaryOp) (x y : ℤ) → IsKnownGood (on_ints o x y)
  ints-good op.Lt x y = bool-good O standard (int_lt x y)
  ints-good op.Le x y = bool-good O standard (int_le x y)
  ints-good op.Gt x y = bool-good O standard (int_lt y x)
  ints-good op.Ge x y = bool-good O standard (int_le y x)
  ints-good op.Add x y = answer-good (x +ℤ y)
  ints-good op.Sub x y = answer-good (x -ℤ y)
  ints-good op.Mul x y = answer-good (x *ℤ y)
  ints-good op.Div x y = divided-good x y (int_div x y)
  ints-good op.Rem x y = divided-good x y (int_rem x y)
  ints-good _ x y = tt

  bools-good : (o : BinaryOp) (x y : Bool) → IsKnownGood (on_bools o x y)
  bools-good op.Or x y = bool-good O standard _
  bools-good op.And x y = bool-good O standard _
  bools-good op.Lt x y = bool-good O standard _
  bools-good op.Le x y = bool-good O standard _
  bools-good op.Gt x y = bool-good O standard _
  bools-good op.Ge x y = bool-good O standard _
  bools-good _ x y = tt

  texts-good : (o : BinaryOp) (x y : List ℕ) → IsKnownGood (on_texts o x y)
  texts-good op.Lt x y = bool-good O standard _
  texts-good op.Le x y = bool-good O standard _
  texts-good op.Gt x y = bool-good O standard _
  texts-good op.Ge x y = bool-good O standard _
  texts-good op.Append x y = text-good (x ++ y)
  texts-good _ x y = tt

  byte-lists-good : (o : BinaryOp) (x y : List ℕ) → IsKnownGood (on_bytes o x y)
  byte-lists-good op.Append x y = bytes-good (x ++ y)
  byte-lists-good _ x y = tt

  lists-good : (o : BinaryOp) (x y : List Tree) → AreGood O a_term x → AreGood O a_term y → IsKnownGood (on_lists o x y)
  lists-good op.Append x y h k = list-good O (collections O standard) (x ++ y) (every-append (IsGood O a_term) x y h k)
  lists-good _ x y h k = tt

  sets-good : (o : BinaryOp) (x y : List Tree) → AreGood O a_term x → AreGood O a_term y → IsKnownGood (on_sets o x y)
  sets-good op.Append x y h k = set-good O standard (x ++ y) (every-append (IsGood O a_term) x y h k)
  sets-good op.Minus x y h k = set-good O standard _ (every-filter (IsGood O a_term) (λ t. not (is_among t y)) x h)
  sets-good _ x y h k = tt

  maps-good : (o : BinaryOp) (x y : List Tree) → AreGood O a_pair x → AreGood O a_pair y → IsKnownGood (on_maps o x y)
  maps-good op.Append x y h k = map-good O standard (x ++ y) (every-append (IsGood O a_pair) x y h k)
  maps-good _ x y h k = tt

  kinds-good : (o : BinaryOp) (s t : Seen) → HoldsGood O s → HoldsGood O t → IsKnownGood (on_kinds o s t)
  kinds-good o (a_bool x) (a_bool y) h k = bools-good o x y
  kinds-good o (an_int x) (an_int y) h k = ints-good o x y
  kinds-good o (a_text x) (a_text y) h k = texts-good o x y
  kinds-good o (some_bytes x) (some_bytes y) h k = byte-lists-good o x y
  kinds-good o (a_list x) (a_list y) h k = lists-good o x y h k
  kinds-good o (a_set x) (a_set y) h k = sets-good o x y h k
  kinds-good o (a_map x) (a_map y) h k = maps-good o x y h k
  kinds-good o _ _ h k = tt

  pub binary-good : (o : BinaryOp) (t u : Tree) → IsGood O a_term t → IsGood O a_term u → IsKnownGood (binary_answer o t u)
  unfolding binary_answer
  binary-good op.Eq t u h k = bool-good O standard (congruent t u)
  binary-good op.Ne t u h k = bool-good O standard (not (congruent t u))
  binary-good o t u h k = kinds-good o (seen t) (seen u) (seen-good t h) (seen-good u k)

  kind-good : (o : UnaryOp) (s : Seen) → IsKnownGood (on_kind o s)
  kind-good unary_op.Not (a_bool x) = bool-good O standard (not x)
  kind-good unary_op.Neg (an_int x) = answer-good (neg_ℤ x)
  kind-good _ _ = tt

  pub unary-good : (o : UnaryOp) (t : Tree) → IsKnownGood (unary_answer o t)
  unfolding unary_answer
  unary-good o t = kind-good o (seen t)
