-- Forms that are read from their constituents.
use Rattle.std.proofs.Common.{◌≡◌, ℕ, ◌+◌, ◌≤◌, List, [], ◌∷◌, ◌++◌, map, length, refl, ap, sym, ◌∙◌, subst, arith, append_assoc, append-nil}
use Rattle.std.specs.Prelude.{reverse}
use Rattle.calculus.specs.Bytes.{be32}
use Rattle.calculus.specs.Kinds.{kind_number, origin_number}
use Rattle.calculus.specs.declared.plain.Kind.{Kind}
use Rattle.calculus.specs.declared.plain.Origin.{Origin}
use Rattle.calculus.specs.Tree.{row, tuple, receive, new, match, Tree, none, also, trees}
use Rattle.calculus.specs.Shape.{listed, one, two, many}
use Rattle.calculus.specs.Code.{code}
use Rattle.calculus.specs.Form.{Sort, Scope, Fits, term, part, a_bind, a_case, pat, pat_part, row_of}
use Rattle.calculus.specs.Variables.{Sense, a_name, bound, bound_all}
use Rattle.calculus.proofs.Binding.{no_bound}
use Rattle.calculus.proofs.FromFits.{formed, fine}
use Rattle.calculus.proofs.Tails.{IsFine}
use Rattle.code_faults.specs.Reading.{Reads}
use Rattle.calculus.proofs.ListCodes.{count-trees}

pub no_variables : (v : Scope) (t : Tree) → Fits term v t → bound t ≡ []
no_variables v t h = no_bound IsFine term t tt (formed IsFine fine term v t h)

pub listed-trees : (ts : List Tree) → listed (trees ts) ≡ ts
listed-trees [] = refl
listed-trees (t ∷ ts) = ap (λ us. t ∷ us) (listed-trees ts)

-- what is read stands where equal bytes do
pub reads-at : {s : Sort} {v : Scope} {room : ℕ} {t : Tree} {b c : List ℕ} (a : List ℕ) → a ≡ b → Reads s v room t b c → Reads s v room t a c
reads-at {s = s} {v = v} {room = room} {t = t} {c = c} a e h = subst (λ (x : List ℕ). Reads s v room t x c) (sym e) h

tuple-code : (ts : List Tree) {a : List ℕ} (c : List ℕ) (tag : ℕ) → tag ≡ 0x21 → a ≡ code (many row ts) ++ c → tag ∷ a ≡ code (many tuple ts) ++ c
tuple-code ts {a = a} c tag e h = ap (λ (x : ℕ). x ∷ a) e ∙ ap (λ (zs : List ℕ). 0x21 ∷ zs) h

pub tuple-form : {v : Scope} {room : ℕ} (ts : List Tree) {a c : List ℕ} (tag : ℕ) → tag ≡ 0x21 → Reads (row_of term) v room (many row ts) a c → 1 ≤ length ts → Reads part v (room + 1) (many tuple ts) (tag ∷ a) c
tuple-form ts {c = c} tag e h l = record {
  is = tuple-code ts c tag e h.is;
  fits = (rw (count-trees ts) l, h.fits.1);
  low = omega (arith, h.low);
}

pub tuple_pattern-form : {v : Scope} {room : ℕ} (ts : List Tree) {a c : List ℕ} (tag : ℕ) → tag ≡ 0x21 → Reads (row_of pat) v room (many row ts) a c → 1 ≤ length ts → Reads pat_part v (room + 1) (many tuple ts) (tag ∷ a) c
tuple_pattern-form ts {c = c} tag e h l = record {
  is = tuple-code ts c tag e h.is;
  fits = (rw (count-trees ts) l, h.fits.1);
  low = omega (arith, h.low);
}

-- two codes after the same bytes, and what is left
pub two-codes : (x y d : List ℕ) {b : List ℕ} → b ≡ y ++ d → x ++ b ≡ (x ++ (y ++ [])) ++ d
two-codes x y d e = ap (λ (zs : List ℕ). x ++ zs) e ∙ sym (append_assoc x y d) ∙ ap (λ (zs : List ℕ). (x ++ zs) ++ d) (sym (append-nil y))

pub receive-form : {v : Scope} {room : ℕ} (ts : List Tree) {body : Tree} {a b c d : List ℕ} {w : Scope} (k : Kind) (tag : ℕ)
    → tag ≡ 0x31 → a ≡ kind_number k ∷ b → Reads (row_of a_bind) v room (many row ts) b c → Reads term w room body c d
    → w ≡ reverse (bound (many row ts)) ++ v → 1 ≤ length ts → length ts ≤ 16
    → Reads part v (room + 1) (two (receive k) (many row ts) body) (tag ∷ a) d
receive-form {v = v} ts {body = body} {a = a} {b = b} {c = c} {d = d} {w = w} k tag e f h g i l m =
    let n : bound_all (also (many row ts) (also body none)) ≡ bound (many row ts) = rw (no_variables w body g.fits, append-nil (bound_all (trees ts))) in
    let inner : w ≡ reverse (bound_all (also (many row ts) (also body none))) ++ v = i ∙ ap (λ (vs : List Sense). reverse vs ++ v) (sym n) in
    record {
      is = ap (λ (x : ℕ). x ∷ a) e ∙ ap (λ (zs : List ℕ). 0x31 ∷ zs) f ∙ ap (λ (zs : List ℕ). 0x31 ∷ kind_number k ∷ zs) (h.is ∙ two-codes (code (many row ts)) (code body) d g.is);
      fits = ((rw (listed-trees ts) l, rw (listed-trees ts) m), (h.fits, (subst (λ (x : Scope). Fits term x body) inner g.fits, tt)));
      low = omega (arith, h.low, g.low);
    }

origins-code : (os : List Origin) (body : Tree) {a b : List ℕ} (d : List ℕ) (tag : ℕ) → tag ≡ 0x32 → a ≡ (be32 (length os) ++ map origin_number os) ++ b → b ≡ code body ++ d → tag ∷ a ≡ code (one (new os) body) ++ d
origins-code os body {a = a} {b = b} d tag e f g = ap (λ (x : ℕ). x ∷ a) e ∙ ap (λ (zs : List ℕ). 0x32 ∷ zs) (f ∙ ap (λ (zs : List ℕ). (be32 (length os) ++ map origin_number os) ++ zs) g
    ∙ sym (append_assoc (be32 (length os) ++ map origin_number os) (code body) d) ∙ ap (λ (zs : List ℕ). ((be32 (length os) ++ map origin_number os) ++ zs) ++ d) (sym (append-nil (code body))))

pub new-form : {v : Scope} {room : ℕ} {body : Tree} {a b d : List ℕ} {w : Scope} (os : List Origin) (tag : ℕ)
    → tag ≡ 0x32 → a ≡ (be32 (length os) ++ map origin_number os) ++ b → Reads term w room body b d
    → w ≡ reverse (map (λ (o : Origin). a_name) os) ++ v → 1 ≤ length os → Reads part v (room + 1) (one (new os) body) (tag ∷ a) d
new-form {v = v} {body = body} {d = d} {w = w} os tag e f g i l = record {
  is = origins-code os body d tag e f g.is;
  fits = (l, (subst (λ (x : Scope). Fits term x body) i g.fits, tt));
  low = omega (arith, g.low);
}

pub match-form : {v : Scope} {room : ℕ} {target : Tree} (ts : List Tree) {a b c : List ℕ} (tag : ℕ)
    → tag ≡ 0x33 → Reads term v room target a b → Reads (row_of a_case) v room (many row ts) b c → 1 ≤ length ts
    → Reads part v (room + 1) (two match target (many row ts)) (tag ∷ a) c
match-form {target = target} ts {a = a} {b = b} {c = c} tag e h g l = record {
  is = ap (λ (x : ℕ). x ∷ a) e ∙ ap (λ (zs : List ℕ). 0x33 ∷ zs) (h.is ∙ two-codes (code target) (code (many row ts)) c g.is);
  fits = (rw (listed-trees ts) l, (h.fits, (g.fits, tt)));
  low = omega (arith, h.low, g.low);
}
