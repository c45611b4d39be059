-- Constituents that are read one after another.
use Rattle.std.proofs.Common.{◌≡◌, ℕ, ◌≤◌, true, List, [], ◌∷◌, ◌++◌, map, length, refl, ap, sym, ◌∙◌, subst, arith, append_assoc, append-nil}
use Rattle.std.proofs.lemmas.List.{map-append}
use Rattle.calculus.specs.Bytes.{be32, joined}
use Rattle.calculus.specs.Tree.{row, Tree, trees}
use Rattle.calculus.specs.Shape.{many}
use Rattle.calculus.specs.Size.{height, heights}
use Rattle.calculus.specs.Order.{up_to, IsAscending}
use Rattle.calculus.specs.Code.{code, codes}
use Rattle.calculus.specs.Form.{Sort, Scope, Fits, Hold, all, row_of}
use Rattle.calculus.specs.Variables.{Sense, bound, bound_all}
use Rattle.rho_term.proofs.Trees.{map-same}
use Rattle.code_faults.specs.Reading.{Reads}
use Rattle.calculus.proofs.ListCodes.{code-many}

pub joined-more : {A : Type 0} (g : A → List ℕ) (xs : List A) (x : A) → joined (map g (xs ++ x ∷ [])) ≡ joined (map g xs) ++ g x
joined-more g [] x = append-nil (g x)
joined-more g (y ∷ ys) x = ap (λ (zs : List ℕ). g y ++ zs) (joined-more g ys x) ∙ sym (append_assoc (g y) (joined (map g ys)) (g x))

pub hold-more : (s : Sort) (v : Scope) (own : List Sense) (ts : List Tree) (t : Tree) → Hold (all s) v own (trees ts) → Fits s v t → Hold (all s) v own (trees (ts ++ t ∷ []))
hold-more s v own [] t h k = (k, tt)
hold-more s v own (u ∷ us) t h k = (h.0, hold-more s v own us t h.1 k)

pub heights-more : (ts : List Tree) (t : Tree) (room : ℕ) → heights (trees ts) ≤ room → height t ≤ room → heights (trees (ts ++ t ∷ [])) ≤ room
heights-more [] t room h k = omega arith
heights-more (u ∷ us) t room h k = omega (arith, heights-more us t room (omega arith) k)

pub codes-more : (ts : List Tree) (t : Tree) → codes (trees (ts ++ t ∷ [])) ≡ codes (trees ts) ++ code t ∷ []
codes-more [] t = refl
codes-more (u ∷ us) t = ap (λ (cs : List (List ℕ)). code u ∷ cs) (codes-more us t)

pub bound-more : (ts : List Tree) (t : Tree) → bound_all (trees (ts ++ t ∷ [])) ≡ bound_all (trees ts) ++ bound t
bound-more [] t = append-nil (bound t)
bound-more (u ∷ us) t = ap (λ (vs : List Sense). bound u ++ vs) (bound-more us t) ∙ sym (append_assoc (bound u) (bound_all (trees us)) (bound t))

-- the last of these lists, and none where there is none
abbrev pub last_of : List (List ℕ) → List ℕ
last_of [] = []
last_of (c ∷ []) = c
last_of (c ∷ d ∷ cs) = last_of (d ∷ cs)

pub last-more : (cs : List (List ℕ)) (c : List ℕ) → last_of (cs ++ c ∷ []) ≡ c
last-more [] c = refl
last-more (d ∷ []) c = refl
last-more (d ∷ e ∷ cs) c = last-more (e ∷ cs) c

pub ascending-more : (cs : List (List ℕ)) (c : List ℕ) → IsAscending cs → up_to (last_of cs) c ≡ true → IsAscending (cs ++ c ∷ [])
ascending-more [] c h k = (tt, tt)
ascending-more (d ∷ []) c h k = (k, (tt, tt))
ascending-more (d ∷ e ∷ cs) c h k = (h.0, ascending-more (e ∷ cs) c h.1 k)

-- bytes begin with the codes of things that stand for trees
pub record Row {A : Type 0} (f : A → Tree) (s : Sort) (v : Scope) (room : ℕ) (xs : List A) (bytes left : List ℕ) : Type 0 where
  pub is : bytes ≡ joined (map (λ x. code (f x)) xs) ++ left
  pub fits : Hold (all s) v [] (trees (map f xs))
  pub low : heights (trees (map f xs)) ≤ room

pub row-none : {A : Type 0} (f : A → Tree) (s : Sort) (v : Scope) (room : ℕ) (bytes : List ℕ) → Row f s v room [] bytes bytes
row-none f s v room bytes = record { is = refl; fits = tt; low = omega arith }

pub row-more : {A : Type 0} {f : A → Tree} {s : Sort} {v : Scope} {room : ℕ} {xs : List A} {a b : List ℕ} (x : A) (c : List ℕ) → Row f s v room xs a b → Reads s v room (f x) b c → Row f s v room (xs ++ x ∷ []) a c
row-more {f = f} {s = s} {v = v} {room = room} {xs = xs} {a = a} {b = b} x c h k = record {
  is = h.is ∙ ap (λ (zs : List ℕ). joined (map (λ y. code (f y)) xs) ++ zs) k.is ∙ sym (append_assoc (joined (map (λ y. code (f y)) xs)) (code (f x)) c) ∙ ap (λ (zs : List ℕ). zs ++ c) (sym (joined-more (λ y. code (f y)) xs x));
  fits = rw (map-append f xs (x ∷ [])) (hold-more s v [] (map f xs) (f x) h.fits k.fits);
  low = rw (map-append f xs (x ∷ [])) (heights-more (map f xs) (f x) room h.low k.low);
}

-- a number and as many constituents
pub row-done : {A : Type 0} {f : A → Tree} {s : Sort} {v : Scope} {room : ℕ} {xs : List A} {b c : List ℕ} (n : ℕ) (a : List ℕ) → Row f s v room xs b c → length xs ≡ n → a ≡ be32 n ++ b → Reads (row_of s) v room (many row (map f xs)) a c
row-done {f = f} {s = s} {v = v} {room = room} {xs = xs} {b = b} {c = c} n a h l e = record {
  is = e ∙ ap (λ (zs : List ℕ). be32 n ++ zs) h.is ∙ sym (append_assoc (be32 n) (joined (map (λ y. code (f y)) xs)) c) ∙ ap (λ (m : ℕ). (be32 m ++ joined (map (λ y. code (f y)) xs)) ++ c) (sym l) ∙ ap (λ (zs : List ℕ). zs ++ c) (sym (code-many row f xs refl));
  fits = (tt, h.fits);
  low = omega (arith, h.low);
}

-- the same for trees themselves
pub row-done_trees : {s : Sort} {v : Scope} {room : ℕ} {ts : List Tree} {b c : List ℕ} (n : ℕ) (a : List ℕ) → Row (λ t. t) s v room ts b c → length ts ≡ n → a ≡ be32 n ++ b → Reads (row_of s) v room (many row ts) a c
row-done_trees {s = s} {v = v} {room = room} {ts = ts} {b = b} {c = c} n a h l e = subst (λ (us : List Tree). Reads (row_of s) v room (many row us) a c) (map-same ts) (row-done n a h l e)
