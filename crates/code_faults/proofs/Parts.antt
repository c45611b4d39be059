-- Binds, cases, pairs and patterns that are read from their constituents.
use Rattle.std.proofs.Common.{◌≡◌, ℕ, ◌+◌, ◌≤◌, List, [], ◌∷◌, ◌++◌, map, length, refl, ap, sym, ◌∙◌, subst, arith, append_assoc, append-nil}
use Rattle.std.specs.Prelude.{reverse}
use Rattle.calculus.specs.Bytes.{be32, joined}
use Rattle.calculus.specs.Kinds.{rest_number}
use Rattle.calculus.specs.declared.plain.TermRest.{TermRest}
use Rattle.calculus.specs.Tree.{row, bind, case, pair, rest, pattern, set_pattern, map_pattern, Tree, none, also}
use Rattle.calculus.specs.Shape.{leaf, two, three, many}
use Rattle.calculus.specs.Code.{code}
use Rattle.calculus.specs.Form.{Sort, Scope, Fits, term, a_bind, a_case, pat, name_pat, pat_part, row_of, pair_of, wides}
use Rattle.calculus.specs.Variables.{Sense, bound, bound_all}
use Rattle.code_faults.specs.Reading.{Reads}
use Rattle.calculus.proofs.ListCodes.{code-many, length-map}
use Rattle.code_faults.proofs.Forms.{no_variables, listed-trees, two-codes}
use Rattle.code_faults.proofs.Rows.{Row}

-- two constituents that stand in turn, without a head
pair-code : (x y d : List ℕ) {a b : List ℕ} → a ≡ x ++ b → b ≡ y ++ d → a ≡ (x ++ (y ++ [])) ++ d
pair-code x y d e f = e ∙ two-codes x y d f

-- two constituents and a byte
three-code : (x y : List ℕ) (r : ℕ) (d : List ℕ) {a b c : List ℕ} → a ≡ x ++ b → b ≡ y ++ c → c ≡ r ∷ d → a ≡ (x ++ (y ++ ((r ∷ []) ++ []))) ++ d
three-code x y r d {b = b} {c = c} e f g = e ∙ ap (λ (zs : List ℕ). x ++ zs) (f ∙ ap (λ (zs : List ℕ). y ++ zs) g ∙ sym (append_assoc y (r ∷ []) d)) ∙ sym (append_assoc x (y ++ (r ∷ [])) d)

pub pair-form : {s : Sort} {v : Scope} {room : ℕ} {t u : Tree} {a b c : List ℕ} → Reads s v room t a b → Reads s v room u b c → Reads (pair_of s) v room (two pair t u) a c
pair-form {t = t} {u = u} {c = c} h g = record {
  is = pair-code (code t) (code u) c h.is g.is;
  fits = (tt, (h.fits, (g.fits, tt)));
  low = omega (arith, h.low, g.low);
}

pub case-form : {v : Scope} {room : ℕ} {t body : Tree} {a b c : List ℕ} {w : Scope} → Reads pat v room t a b → Reads term w room body b c → w ≡ reverse (bound t) ++ v → Reads a_case v room (two case t body) a c
case-form {v = v} {t = t} {body = body} {c = c} {w = w} h g i =
    let n : bound_all (also t (also body none)) ≡ bound t = rw (no_variables w body g.fits, append-nil (bound t)) in
    let inner : w ≡ reverse (bound_all (also t (also body none))) ++ v = i ∙ ap (λ (vs : List Sense). reverse vs ++ v) (sym n) in
    record {
      is = pair-code (code t) (code body) c h.is g.is;
      fits = (tt, (h.fits, (subst (λ (x : Scope). Fits term x body) inner g.fits, tt)));
      low = omega (arith, h.low, g.low);
    }

pub bind-form : {v : Scope} {room : ℕ} {channel : Tree} (ts : List Tree) {a b c d : List ℕ} (r : TermRest) → Reads term v room channel a b → Reads (row_of name_pat) v room (many row ts) b c → c ≡ rest_number r ∷ d → Reads a_bind v room (three bind channel (many row ts) (leaf (rest r))) a d
bind-form {channel = channel} ts {d = d} r h g e = record {
  is = three-code (code channel) (code (many row ts)) (rest_number r) d h.is g.is e;
  fits = (tt, (h.fits, (g.fits, ((tt, tt), tt))));
  low = omega (arith, h.low, g.low);
}

-- what a bind binds: what its patterns and its remainder do
pub bind-bound : {v : Scope} {room : ℕ} {channel : Tree} {a b : List ℕ} (ts : List Tree) (r : TermRest) → Reads term v room channel a b → bound (three bind channel (many row ts) (leaf (rest r))) ≡ bound (many row ts) ++ bound (leaf (rest r))
bind-bound {v = v} {channel = channel} ts r h = rw (no_variables v channel h.fits, append-nil (bound (leaf (rest r)))) refl

-- a row and a remainder after a tag
rest-code : (x : List ℕ) (r : ℕ) (d : List ℕ) {a c : List ℕ} (tag l : ℕ) → tag ≡ l → a ≡ x ++ c → c ≡ r ∷ d → tag ∷ a ≡ l ∷ ((x ++ ((r ∷ []) ++ [])) ++ d)
rest-code x r d {a = a} tag l e f g = ap (λ (y : ℕ). y ∷ a) e ∙ ap (λ (zs : List ℕ). l ∷ zs) (f ∙ ap (λ (zs : List ℕ). x ++ zs) g ∙ sym (append_assoc x (r ∷ []) d))

pub set_pattern-form : {v : Scope} {room : ℕ} (ts : List Tree) {a c d : List ℕ} (r : TermRest) (tag : ℕ) → tag ≡ 0x22 → Reads (row_of pat) v room (many row ts) a c → c ≡ rest_number r ∷ d → length ts ≤ 8
    → Reads pat_part v (room + 1) (two set_pattern (many row ts) (leaf (rest r))) (tag ∷ a) d
set_pattern-form ts {d = d} r tag e h f m = record {
  is = rest-code (code (many row ts)) (rest_number r) d tag 0x22 e h.is f;
  fits = (rw (listed-trees ts) m, (h.fits, ((tt, tt), tt)));
  low = omega (arith, h.low);
}

pub map_pattern-form : {v : Scope} {room : ℕ} (ts : List Tree) {a c d : List ℕ} (r : TermRest) (tag : ℕ) → tag ≡ 0x23 → Reads (row_of (pair_of pat)) v room (many row ts) a c → c ≡ rest_number r ∷ d → length ts ≤ 8
    → Reads pat_part v (room + 1) (two map_pattern (many row ts) (leaf (rest r))) (tag ∷ a) d
map_pattern-form ts {d = d} r tag e h f m = record {
  is = rest-code (code (many row ts)) (rest_number r) d tag 0x23 e h.is f;
  fits = (rw (listed-trees ts) m, (h.fits, ((tt, tt), tt)));
  low = omega (arith, h.low);
}

-- a number and as many parts of a pattern
pub pat-done : {A : Type 0} {f : A → Tree} {v : Scope} {room : ℕ} {xs : List A} {b c : List ℕ} (n wide : ℕ) (a : List ℕ)
    → Row f pat_part v room xs b c → length xs ≡ n → a ≡ be32 n ++ b → wides (map f xs) ≡ wide → wide ≤ 1 → n ≤ 8 + wide → Reads pat v room (many pattern (map f xs)) a c
pat-done {f = f} {xs = xs} {b = b} {c = c} n wide a h l e w o m = record {
  is = e ∙ ap (λ (zs : List ℕ). be32 n ++ zs) h.is ∙ sym (append_assoc (be32 n) (joined (map (λ y. code (f y)) xs)) c) ∙ ap (λ (k : ℕ). (be32 k ++ joined (map (λ y. code (f y)) xs)) ++ c) (sym l) ∙ ap (λ (zs : List ℕ). zs ++ c) (sym (code-many pattern f xs refl));
  fits = (rw (listed-trees (map f xs)) (rw w o, rw (w, length-map f xs, l) m), h.fits);
  low = omega (arith, h.low);
}
