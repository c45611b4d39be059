-- Constituents that are read one after another and ascend in their codes.
use Rattle.std.proofs.Common.{◌≡◌, ℕ, true, List, [], ◌∷◌, ◌++◌, map, length, refl, ap, sym, ◌∙◌, subst, arith, append_assoc}
use Rattle.std.proofs.lemmas.List.{map-append}
use Rattle.calculus.specs.Bytes.{be32, joined}
use Rattle.calculus.specs.Tree.{par, Tree, trees}
use Rattle.calculus.specs.Shape.{many}
use Rattle.calculus.specs.Order.{up_to, IsAscending}
use Rattle.calculus.specs.Code.{code, codes}
use Rattle.calculus.specs.Form.{Sort, Scope, term, part}
use Rattle.rho_term.proofs.Trees.{map-same}
use Rattle.code_faults.specs.Reading.{Reads, ReadsBag}
use Rattle.calculus.proofs.ListCodes.{code-bag}
use Rattle.code_faults.proofs.Rows.{Row, row-none, row-more, codes-more, last_of, last-more, ascending-more}

-- bytes begin with the ascending codes of things that stand for trees, and this is the last of them
pub record Bag {A : Type 0} (f : A → Tree) (s : Sort) (v : Scope) (room : ℕ) (xs : List A) (bytes left last : List ℕ) : Type 0 where
  pub row : Row f s v room xs bytes left
  pub up : IsAscending (codes (trees (map f xs)))
  pub ends : last ≡ last_of (codes (trees (map f xs)))

pub bag-none : {A : Type 0} (f : A → Tree) (s : Sort) (v : Scope) (room : ℕ) (bytes : List ℕ) → Bag f s v room [] bytes bytes []
bag-none f s v room bytes = record { row = row-none f s v room bytes; up = tt; ends = refl }

codes-of : {A : Type 0} (f : A → Tree) (xs : List A) (x : A) → codes (trees (map f (xs ++ x ∷ []))) ≡ codes (trees (map f xs)) ++ code (f x) ∷ []
codes-of f xs x = ap (λ (ts : List Tree). codes (trees ts)) (map-append f xs (x ∷ [])) ∙ codes-more (map f xs) (f x)

pub bag-more : {A : Type 0} {f : A → Tree} {s : Sort} {v : Scope} {room : ℕ} {xs : List A} {a b last : List ℕ} (x : A) (c next : List ℕ)
    → Bag f s v room xs a b last → Reads s v room (f x) b c → next ≡ code (f x) → up_to last next ≡ true → Bag f s v room (xs ++ x ∷ []) a c next
bag-more {f = f} {s = s} {v = v} {room = room} {xs = xs} {a = a} {b = b} {last = last} x c next h k e u =
    let cs = codes (trees (map f xs)) in
    let low : up_to (last_of cs) (code (f x)) ≡ true = subst (λ (y : List ℕ). up_to (last_of cs) y ≡ true) e (subst (λ (y : List ℕ). up_to y next ≡ true) h.ends u) in
    record {
      row = row-more x c h.row k;
      up = subst IsAscending (sym (codes-of f xs x)) (ascending-more cs (code (f x)) h.up low);
      ends = e ∙ sym (last-more cs (code (f x))) ∙ ap last_of (sym (codes-of f xs x));
    }

-- a number and as many constituents
pub bag-done : {A : Type 0} {f : A → Tree} {s : Sort} {v : Scope} {room : ℕ} {xs : List A} {b c last : List ℕ} (n : ℕ) (a : List ℕ) → Bag f s v room xs b c last → length xs ≡ n → a ≡ be32 n ++ b → ReadsBag s v room (map f xs) a c
bag-done {f = f} {s = s} {v = v} {room = room} {xs = xs} {b = b} {c = c} n a h l e = record {
  is = e ∙ ap (λ (zs : List ℕ). be32 n ++ zs) h.row.is ∙ sym (append_assoc (be32 n) (joined (map (λ y. code (f y)) xs)) c) ∙ ap (λ (m : ℕ). (be32 m ++ joined (map (λ y. code (f y)) xs)) ++ c) (sym l) ∙ ap (λ (zs : List ℕ). zs ++ c) (sym (code-bag par f xs refl h.up));
  fits = h.row.fits;
  low = h.row.low;
  up = h.up;
}

-- the same for trees themselves
pub bag-done_trees : {s : Sort} {v : Scope} {room : ℕ} {ts : List Tree} {b c last : List ℕ} (n : ℕ) (a : List ℕ) → Bag (λ t. t) s v room ts b c last → length ts ≡ n → a ≡ be32 n ++ b → ReadsBag s v room ts a c
bag-done_trees {s = s} {v = v} {room = room} {ts = ts} {c = c} n a h l e = subst (λ (us : List Tree). ReadsBag s v room us a c) (map-same ts) (bag-done n a h l e)

-- parts that ascend are a process
pub process-done : {v : Scope} {room : ℕ} {ts : List Tree} {a c : List ℕ} → ReadsBag part v room ts a c → Reads term v room (many par ts) a c
process-done h = record { is = h.is; fits = (tt, h.fits); low = omega (arith, h.low) }
