-- The head of a form's code in three pieces: the form's own byte, the form without its data, and what follows the byte.
use Rattle.std.proofs.Common.{◌≡◌, ℕ, true, List, [], ◌∷◌, ◌++◌, map as each, length, refl}
use Rattle.std.specs.Prelude.{pos, ◌+ℤ◌, ◌^◌, nat_abs}
use Rattle.calculus.specs.Tree.{Label, par, row, bool, int, str, uri, bytes, fresh, var, name_var, list, tuple, set, dict, send, receive, new, match, bundle, unary, binary, method, pattern, rest, any, some_process, some_name, simple, same, both, either, not_this, list_pattern, set_pattern, map_pattern}
use Rattle.calculus.specs.Kinds.{simple_number, kind_number, rights_number, unary_op_number, binary_op_number, rest_number, origin_number}
use Rattle.calculus.specs.declared.plain.Simple.TheVariants as simples
use Rattle.calculus.specs.declared.plain.Kind.TheVariants as kinds_of_receive
use Rattle.calculus.specs.declared.plain.Rights.TheVariants as rights
use Rattle.calculus.specs.declared.plain.UnaryOp.TheVariants as unary_ops
use Rattle.calculus.specs.declared.plain.BinaryOp.TheVariants as binary_ops
use Rattle.calculus.specs.declared.plain.TermRest.TheVariants as rests
use Rattle.calculus.specs.Bytes.{be32, be64}
use Rattle.calculus.specs.Congruence.{is_bag}
use Rattle.calculus.specs.Code.{byte_of, text, head}
use Rattle.calculus.specs.Form.{Sort, term, part, a_bind, a_case, a_rest, pat, name_pat, pat_part, name_part, row_of, pair_of, part_kids, pat_kids, name_kids, kids}

-- the byte that is a form's own, where it has one
abbrev pub lead : Label → List ℕ
lead (bool x) = 0x10 ∷ []
lead (int x) = 0x11 ∷ []
lead (str x) = 0x12 ∷ []
lead (uri x) = 0x13 ∷ []
lead (bytes x) = 0x14 ∷ []
lead (fresh x) = 0x15 ∷ []
lead (var x) = 0x16 ∷ []
lead (name_var x) = 0x17 ∷ []
lead list = 0x20 ∷ []
lead tuple = 0x21 ∷ []
lead set = 0x22 ∷ []
lead dict = 0x23 ∷ []
lead (send x) = 0x30 ∷ []
lead (receive x) = 0x31 ∷ []
lead (new x) = 0x32 ∷ []
lead match = 0x33 ∷ []
lead (bundle x) = 0x34 ∷ []
lead (unary x) = 0x40 ∷ []
lead (binary x) = 0x41 ∷ []
lead (method x) = 0x42 ∷ []
lead any = 0x52 ∷ []
lead some_process = 0x50 ∷ []
lead some_name = 0x51 ∷ []
lead (simple x) = 0x57 ∷ []
lead same = 0x53 ∷ []
lead both = 0x54 ∷ []
lead either = 0x55 ∷ []
lead not_this = 0x56 ∷ []
lead list_pattern = 0x20 ∷ []
lead set_pattern = 0x22 ∷ []
lead map_pattern = 0x23 ∷ []
lead _ = []

-- what follows that byte in a head: a form's data, or the number of its constituents
abbrev pub tail : Label → ℕ → List ℕ
tail par n = be32 n
tail row n = be32 n
tail (bool x) n = byte_of x ∷ []
tail (int x) n = be64 (nat_abs (x +ℤ pos (2 ^ 63)))
tail (str x) n = text x
tail (uri x) n = text x
tail (bytes x) n = text x
tail (fresh x) n = x
tail (var x) n = be32 x
tail (name_var x) n = be32 x
tail list n = be32 n
tail tuple n = be32 n
tail set n = be32 n
tail dict n = be32 n
tail (send x) n = byte_of x ∷ []
tail (receive x) n = kind_number x ∷ []
tail (new x) n = be32 (length x) ++ each origin_number x
tail (bundle x) n = rights_number x ∷ []
tail (unary x) n = unary_op_number x ∷ []
tail (binary x) n = binary_op_number x ∷ []
tail (method x) n = text x
tail pattern n = be32 n
tail (rest x) n = rest_number x ∷ []
tail (simple x) n = simple_number x ∷ []
tail _ n = []

pub head-parts : (l : Label) (n : ℕ) → head l n ≡ lead l ++ tail l n
head-parts par n = refl
head-parts _ n = refl

-- a form with its data taken away
abbrev pub blank : Label → Label
blank (bool x) = bool true
blank (int x) = int (pos 0)
blank (str x) = str []
blank (uri x) = uri []
blank (bytes x) = bytes []
blank (fresh x) = fresh []
blank (var x) = var 0
blank (name_var x) = name_var 0
blank (send x) = send true
blank (receive x) = receive kinds_of_receive.Linear
blank (new x) = new []
blank (bundle x) = bundle rights.Neither
blank (unary x) = unary unary_ops.Not
blank (binary x) = binary binary_ops.Or
blank (method x) = method []
blank (rest x) = rest rests.No
blank (simple x) = simple simples.Bool
blank l = l

pub lead-blank : (l : Label) → lead (blank l) ≡ lead l
lead-blank par = refl
lead-blank _ = refl

pub is_bag-blank : (l : Label) → is_bag (blank l) ≡ is_bag l
is_bag-blank par = refl
is_bag-blank _ = refl

part_kids-blank : (l : Label) → part_kids (blank l) ≡ part_kids l
part_kids-blank par = refl
part_kids-blank (receive x) = refl
part_kids-blank _ = refl

pat_kids-blank : (l : Label) → pat_kids (blank l) ≡ pat_kids l
pat_kids-blank par = refl
pat_kids-blank _ = refl

name_kids-blank : (l : Label) → name_kids (blank l) ≡ name_kids l
name_kids-blank par = refl
name_kids-blank _ = refl

-- which kids a form has does not hang on its data
pub kids-blank : (s : Sort) (l : Label) (n : ℕ) → kids s (blank l) n ≡ kids s l n
kids-blank part l n = part_kids-blank l
kids-blank pat_part l n = pat_kids-blank l
kids-blank name_part l n = name_kids-blank l
kids-blank term par n = refl
kids-blank term _ n = refl
kids-blank a_bind par n = refl
kids-blank a_bind _ n = refl
kids-blank a_case par n = refl
kids-blank a_case _ n = refl
kids-blank a_rest par n = refl
kids-blank a_rest _ n = refl
kids-blank pat par n = refl
kids-blank pat _ n = refl
kids-blank name_pat par n = refl
kids-blank name_pat _ n = refl
kids-blank (row_of s) par n = refl
kids-blank (row_of s) _ n = refl
kids-blank (pair_of s) par n = refl
kids-blank (pair_of s) _ n = refl
