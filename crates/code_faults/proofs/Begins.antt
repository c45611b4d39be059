-- Codes that are cut, piece by piece.
use Rattle.std.proofs.Common.{◌≡◌, ℕ, zero, suc, ◌<◌, ◌≤◌, List, [], ◌∷◌, ◌++◌, length, refl, ap, sym, ◌∙◌, arith, append_assoc, append-nil, length-append}
use Rattle.std.specs.Prelude.{Bool, true, false, replicate}
use Rattle.calculus.specs.Tree.{par, row, bind, case, pair, rest, pattern, bool, Tree, node, none, trees}
use Rattle.calculus.specs.declared.plain.TermRest.TheVariants as rests
use Rattle.calculus.specs.Size.{height, heights}
use Rattle.calculus.specs.Shape.{leaf, two, three}
use Rattle.calculus.specs.Code.{code}
use Rattle.calculus.specs.Form.{Sort, term, part, a_bind, a_case, pat, name_pat, pair_of, Scope, Fits, Hold, all}
use Rattle.calculus.specs.Variables.{Sense, bound, bound_all}
use Rattle.code_faults.specs.Reading.{Reads}
use Rattle.code_faults.specs.Beginning.{Cuts}

pub first-cut : {bs c after : List ℕ} (d : List ℕ) → Cuts bs c after → Cuts bs (c ++ d) after
first-cut d h = record {
  before = h.before;
  is = h.is;
  more = h.more ++ d;
  goes = sym (append_assoc h.before h.more d) ∙ ap (λ (z : List ℕ). z ++ d) h.goes;
  some = omega (arith, h.some, length-append h.more d);
}

pub next-cut : {bs next d after : List ℕ} (a : List ℕ) → bs ≡ a ++ next → Cuts next d after → Cuts bs (a ++ d) after
next-cut {after = after} a is h = record {
  before = a ++ h.before;
  is = append_assoc a h.before after ∙ ap (λ (z : List ℕ). a ++ z) h.is ∙ sym is;
  more = h.more;
  goes = append_assoc a h.before h.more ∙ ap (λ (z : List ℕ). a ++ z) h.goes;
  some = h.some;
}

pub byte-cut : {bs next d after : List ℕ} (n : ℕ) → bs ≡ n ∷ next → Cuts next d after → Cuts bs (n ∷ d) after
byte-cut n is h = record {
  before = n ∷ h.before;
  is = ap (λ (z : List ℕ). n ∷ z) h.is ∙ sym is;
  more = h.more;
  goes = ap (λ (z : List ℕ). n ∷ z) h.goes;
  some = h.some;
}

pub read-cut : {s : Sort} {v : Scope} {room : ℕ} {u : Tree} {bs next d after : List ℕ} → Reads s v room u bs next → Cuts next d after → Cuts bs (code u ++ d) after
read-cut {u = u} r h = next-cut (code u) r.is h

-- nothing of it is there yet
pub none-cut : {bs : List ℕ} (c : List ℕ) → 0 < length c → Cuts bs c bs
none-cut c l = record { before = []; is = refl; more = c; goes = refl; some = l }

-- the bytes are a proper prefix
pub whole-cut : (bs more c : List ℕ) → bs ++ more ≡ c → 0 < length more → Cuts bs c []
whole-cut bs more c e l = record { before = bs; is = append-nil bs; more = more; goes = e; some = l }

-- trees that are right, one after another
pub record Good (b : Bool) (s : Sort) (v : Scope) (room : ℕ) (ts : List Tree) : Type 0 where
  pub fits : Hold (all s) v [] (trees ts)
  pub low : heights (trees ts) ≤ room
  pub free : b ≡ false → bound_all (trees ts) ≡ []

pub good-none : (b : Bool) (s : Sort) (v : Scope) (room : ℕ) → Good b s v room []
good-none b s v room = record { fits = tt; low = omega arith; free = λ q. refl }

pub good-more : {b : Bool} {s : Sort} {v : Scope} {room : ℕ} {ts : List Tree} (t : Tree) → Fits s v t → height t ≤ room → (b ≡ false → bound t ≡ []) → Good b s v room ts → Good b s v room (t ∷ ts)
good-more {ts = ts} t f l n g = record { fits = (f, g.fits); low = omega (arith, l, g.low); free = λ q. ap (λ (vs : List Sense). vs ++ bound_all (trees ts)) (n q) ∙ g.free q }

pub good-append : {b : Bool} {s : Sort} {v : Scope} {room : ℕ} (ts : List Tree) {us : List Tree} → Good b s v room ts → Good b s v room us → Good b s v room (ts ++ us)
good-append [] g h = h
good-append {b = b} {s = s} {v = v} {room = room} (t ∷ ts) {us = us} g h = good-more t g.fits.0 (omega (arith, g.low)) (λ q. empty-front (bound t) (bound_all (trees ts)) (g.free q))
    (good-append ts (record { fits = g.fits.1; low = omega (arith, g.low); free = λ q. empty-back (bound t) (bound_all (trees ts)) (g.free q) }) h)
  where
    empty-front : (xs ys : List Sense) → xs ++ ys ≡ [] → xs ≡ []
    empty-front [] ys e = refl
    empty-front (x ∷ xs) ys e = absurd (cc)

    empty-back : (xs ys : List Sense) → xs ++ ys ≡ [] → ys ≡ []
    empty-back [] ys e = e
    empty-back (x ∷ xs) ys e = absurd (cc)

pub good-fill : {b : Bool} {s : Sort} {v : Scope} {room : ℕ} (n : ℕ) (t : Tree) → Fits s v t → height t ≤ room → (b ≡ false → bound t ≡ []) → Good b s v room (replicate n t)
good-fill {b = b} {s = s} {v = v} {room = room} zero t f l k = good-none b s v room
good-fill (suc n) t f l k = good-more t f l k (good-fill n t f l k)

-- the smallest tree of a sort
pub record Filler (s : Sort) (v : Scope) : Type 0 where
  pub tree : Tree
  pub fits : Fits s v tree
  pub low : height tree ≡ 0
  pub free : bound tree ≡ []

pub a_term : (v : Scope) → Filler term v
a_term v = record { tree = node par none; fits = (tt, tt); low = omega arith; free = refl }

pub a_part : (v : Scope) → Filler part v
a_part v = record { tree = leaf (bool true); fits = (tt, tt); low = omega arith; free = refl }

pub a_pat : (v : Scope) → Filler pat v
a_pat v = record { tree = node pattern none; fits = ((omega arith, omega arith), tt); low = omega arith; free = refl }

pub a_name : (v : Scope) → Filler name_pat v
a_name v = record { tree = node pattern none; fits = ((omega arith, omega arith), tt); low = omega arith; free = refl }

pub a_pair : {s : Sort} {v : Scope} → Filler s v → Filler (pair_of s) v
a_pair h = record { tree = two pair h.tree h.tree; fits = (tt, (h.fits, (h.fits, tt))); low = omega (arith, h.low); free = rw h.free refl }

pub some-case : (v : Scope) → Filler a_case v
some-case v = record { tree = two case (node pattern none) (node par none); fits = (tt, (((omega arith, omega arith), tt), ((tt, tt), tt))); low = omega arith; free = refl }

pub some-bind : (v : Scope) → Filler a_bind v
some-bind v = record { tree = three bind (node par none) (node row none) (leaf (rest rests.No)); fits = (tt, ((tt, tt), ((tt, tt), ((tt, tt), tt)))); low = omega arith; free = refl }
