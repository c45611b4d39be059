-- A form's own byte shows which form it is among those of one sort.
use Rattle.std.proofs.Common.{◌≡◌, ℕ, true, cond, List, [], ◌∷◌, length, refl, sym, ap, ◌∙◌}
use Rattle.std.specs.Prelude.{⊤, pos}
use Rattle.std.specs.Str.{bytes_eq}
use Rattle.calculus.specs.Tree.{Label, par, row, bool, int, str, uri, bytes, fresh, var, name_var, list, tuple, set, dict, pair, send, receive, bind, new, match, case, bundle, unary, binary, method, pattern, rest, any, some_process, some_name, simple, same, both, either, not_this, list_pattern, set_pattern, map_pattern}
use Rattle.calculus.specs.declared.plain.Simple.TheVariants as simples
use Rattle.calculus.specs.declared.plain.Kind.TheVariants as kinds_of_receive
use Rattle.calculus.specs.declared.plain.Rights.TheVariants as rights
use Rattle.calculus.specs.declared.plain.UnaryOp.TheVariants as unary_ops
use Rattle.calculus.specs.declared.plain.BinaryOp.TheVariants as binary_ops
use Rattle.calculus.specs.declared.plain.TermRest.TheVariants as rests
use Rattle.calculus.specs.Form.{Sort, term, part, a_bind, a_case, a_rest, pat, name_pat, pat_part, name_part, row_of, pair_of, Kids, no_form, part_kids, pat_kids, name_kids, kids}
use Rattle.calculus.proofs.Heads.{lead, blank}

-- there is such a form
abbrev pub IsForm : Kids → Type 0
IsForm no_form = ⊥
IsForm _ = ⊤

-- the first of these forms with this byte
abbrev pub found : List Label → List ℕ → Label
found [] b = par
found (l ∷ ls) b = cond (bytes_eq (lead l) b) l (found ls b)

-- the forms that may be a part of a process, without their data
abbrev parts : List Label
parts = bool true ∷ int (pos 0) ∷ str [] ∷ uri [] ∷ bytes [] ∷ fresh [] ∷ var 0 ∷ name_var 0 ∷ list ∷ tuple ∷ set ∷ dict ∷ send true ∷ receive kinds_of_receive.Linear ∷ new [] ∷ match ∷ bundle rights.Neither ∷ unary unary_ops.Not ∷ binary binary_ops.Or ∷ method [] ∷ []

-- the forms that may be a part of a pattern, without their data
abbrev pat_parts : List Label
pat_parts = bool true ∷ int (pos 0) ∷ str [] ∷ uri [] ∷ bytes [] ∷ any ∷ some_process ∷ some_name ∷ simple simples.Bool ∷ same ∷ both ∷ either ∷ not_this ∷ list_pattern ∷ tuple ∷ set_pattern ∷ map_pattern ∷ send true ∷ bundle rights.Neither ∷ receive kinds_of_receive.Linear ∷ new [] ∷ match ∷ []

-- the forms of a sort, without their data
abbrev pub forms : Sort → List Label
forms term = par ∷ []
forms part = parts
forms a_bind = bind ∷ []
forms a_case = case ∷ []
forms a_rest = rest rests.No ∷ []
forms pat = pattern ∷ []
forms name_pat = pattern ∷ []
forms pat_part = pat_parts
forms name_part = pat_parts
forms (row_of s) = row ∷ []
forms (pair_of s) = pair ∷ []

-- whether each form of a sort has a byte of its own, or none has
abbrev pub own_bytes : Sort → ℕ
own_bytes part = 1
own_bytes pat_part = 1
own_bytes name_part = 1
own_bytes _ = 0

abbrev Known : List Label → ℕ → Label → Type 0
Known ls n l = (found ls (lead l) ≡ blank l) × (length (lead l) ≡ n)

part-known : (l : Label) → IsForm (part_kids l) → Known parts 1 l
part-known (bool x) h = (refl, refl)
part-known (int x) h = (refl, refl)
part-known (str x) h = (refl, refl)
part-known (uri x) h = (refl, refl)
part-known (bytes x) h = (refl, refl)
part-known (fresh x) h = (refl, refl)
part-known (var x) h = (refl, refl)
part-known (name_var x) h = (refl, refl)
part-known list h = (refl, refl)
part-known tuple h = (refl, refl)
part-known set h = (refl, refl)
part-known dict h = (refl, refl)
part-known (send x) h = (refl, refl)
part-known (receive x) h = (refl, refl)
part-known (new x) h = (refl, refl)
part-known match h = (refl, refl)
part-known (bundle x) h = (refl, refl)
part-known (unary x) h = (refl, refl)
part-known (binary x) h = (refl, refl)
part-known (method x) h = (refl, refl)
part-known _ h = absurd h

name-known : (l : Label) → IsForm (name_kids l) → Known pat_parts 1 l
name-known (bool x) h = (refl, refl)
name-known (int x) h = (refl, refl)
name-known (str x) h = (refl, refl)
name-known (uri x) h = (refl, refl)
name-known (bytes x) h = (refl, refl)
name-known any h = (refl, refl)
name-known some_process h = (refl, refl)
name-known some_name h = (refl, refl)
name-known (simple x) h = (refl, refl)
name-known same h = (refl, refl)
name-known both h = (refl, refl)
name-known either h = (refl, refl)
name-known not_this h = (refl, refl)
name-known list_pattern h = (refl, refl)
name-known tuple h = (refl, refl)
name-known set_pattern h = (refl, refl)
name-known map_pattern h = (refl, refl)
name-known (send x) h = (refl, refl)
name-known (bundle x) h = (refl, refl)
name-known (receive x) h = (refl, refl)
name-known (new x) h = (refl, refl)
name-known match h = (refl, refl)
name-known _ h = absurd h

as-name : (l : Label) → IsForm (pat_kids l) → IsForm (name_kids l)
as-name some_name h = absurd h
as-name _ h = h

pub known : (s : Sort) (l : Label) (n : ℕ) → IsForm (kids s l n) → Known (forms s) (own_bytes s) l
known part l n h = part-known l h
known pat_part l n h = name-known l (as-name l h)
known name_part l n h = name-known l h
known term par n h = (refl, refl)
known term _ n h = absurd h
known a_bind bind n h = (refl, refl)
known a_bind _ n h = absurd h
known a_case case n h = (refl, refl)
known a_case _ n h = absurd h
known a_rest (rest x) n h = (refl, refl)
known a_rest _ n h = absurd h
known pat pattern n h = (refl, refl)
known pat _ n h = absurd h
known name_pat pattern n h = (refl, refl)
known name_pat _ n h = absurd h
known (row_of s) row n h = (refl, refl)
known (row_of s) _ n h = absurd h
known (pair_of s) pair n h = (refl, refl)
known (pair_of s) _ n h = absurd h

-- one byte, one form
pub one-form : (s : Sort) (l m : Label) (n k : ℕ) → IsForm (kids s l n) → IsForm (kids s m k) → lead l ≡ lead m → blank l ≡ blank m
one-form s l m n k h g e = sym (known s l n h).0 ∙ ap (found (forms s)) e ∙ (known s m k g).0

pub same-length : (s : Sort) (l m : Label) (n k : ℕ) → IsForm (kids s l n) → IsForm (kids s m k) → length (lead l) ≡ length (lead m)
same-length s l m n k h g = (known s l n h).1 ∙ sym (known s m k g).1
