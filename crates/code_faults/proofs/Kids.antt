-- Constituents of right trees are right.
use Rattle.std.proofs.Common.{◌≡◌, ℕ, ◌<◌, ◌≤◌, ◌^◌, List, [], ◌∷◌, ◌++◌, length, refl, sym, subst, arith}
use Rattle.std.specs.Prelude.{Bool, true, false}
use Rattle.calculus.specs.Tree.{row, pair, Tree, node, Trees, none, also}
use Rattle.calculus.specs.Size.{heights}
use Rattle.calculus.specs.Shape.{count, listed, held}
use Rattle.calculus.specs.Code.{code}
use Rattle.calculus.specs.Form.{Sort, row_of, pair_of, Scope, Hold, all, these}
use Rattle.calculus.specs.Variables.{Sense, bound, bound_all}
use Rattle.calculus.proofs.Splitting.{AreShort, first-short, rest-short, kids-short}
use Rattle.calculus.proofs.Formed.{count-le}
use Rattle.calculus.proofs.FromFits.{formed, fine}
use Rattle.calculus.proofs.Tails.{IsFine}
use Rattle.code_faults.specs.declared.fault.ReadFault.{ReadFault}
use Rattle.code_faults.specs.Refusing.{Denies, IsRight, AreRight, HasRoom, Refuses, RefusesRow}
use Rattle.code_faults.specs.Reading.{Reads}
use Rattle.code_faults.proofs.Denying.{first-denied, read-next, refused, left-less}

empty-front : (xs ys : List Sense) → xs ++ ys ≡ [] → xs ≡ []
empty-front [] ys e = refl
empty-front (x ∷ xs) ys e = absurd (cc)

empty-back : (xs ys : List Sense) → xs ++ ys ≡ [] → ys ≡ []
empty-back [] ys e = e
empty-back (x ∷ xs) ys e = absurd (cc)

pub no_false : true ≡ false → ⊥
no_false e = cc

pub record One (b : Bool) (s : Sort) (w : Scope) (room : ℕ) (ts : Trees) : Type 0 where
  pub first : Tree
  pub is : ts ≡ also first none
  pub one : IsRight b s w room first

pub one : (b : Bool) (s : Sort) (v : Scope) (own : List Sense) (room : ℕ) (ts : Trees) → Hold (these (s ∷ [])) v own ts → heights ts ≤ room → AreShort ts → (b ≡ false → bound_all ts ≡ []) → One b s (own ++ v) room ts
one b s v own room none h l a f = absurd h
one b s v own room (also t none) h l a f = record { first = t; is = refl; one = record { fits = h.0; low = omega arith; short = first-short t none a; free = λ q. empty-front (bound t) [] (f q) } }
one b s v own room (also t (also u us)) h l a f = absurd h.1

pub record Two (b : Bool) (s r : Sort) (v w : Scope) (room : ℕ) (ts : Trees) : Type 0 where
  pub first : Tree
  pub second : Tree
  pub is : ts ≡ also first (also second none)
  pub one : IsRight b s v room first
  pub other : IsRight b r w room second

pub two : (b : Bool) (s r : Sort) (v : Scope) (own : List Sense) (room : ℕ) (ts : Trees) → Hold (these (s ∷ r ∷ [])) v own ts → heights ts ≤ room → AreShort ts → (b ≡ false → bound_all ts ≡ []) → Two b s r v (own ++ v) room ts
two b s r v own room none h l a f = absurd h
two b s r v own room (also t none) h l a f = absurd h.1
two b s r v own room (also t (also u none)) h l a f = record {
  first = t;
  second = u;
  is = refl;
  one = record { fits = h.0; low = omega arith; short = first-short t (also u none) a; free = λ q. empty-front (bound t) (bound u ++ []) (f q) };
  other = record { fits = h.1.0; low = omega arith; short = first-short u none (rest-short t (also u none) a); free = λ q. empty-front (bound u) [] (empty-back (bound t) (bound u ++ []) (f q)) };
}
two b s r v own room (also t (also u (also x xs))) h l a f = absurd h.1.1

pub record Three (s r q : Sort) (v : Scope) (room : ℕ) (ts : Trees) : Type 0 where
  pub first : Tree
  pub second : Tree
  pub third : Tree
  pub is : ts ≡ also first (also second (also third none))
  pub one : IsRight true s v room first
  pub other : IsRight true r v room second
  pub last : IsRight true q v room third

pub three : (s r q : Sort) (v : Scope) (room : ℕ) (ts : Trees) → Hold (these (s ∷ r ∷ q ∷ [])) v [] ts → heights ts ≤ room → AreShort ts → Three s r q v room ts
three s r q v room none h l a = absurd h
three s r q v room (also t none) h l a = absurd h.1
three s r q v room (also t (also u none)) h l a = absurd h.1.1
three s r q v room (also t (also u (also x none))) h l a = record {
  first = t;
  second = u;
  third = x;
  is = refl;
  one = record { fits = h.0; low = omega arith; short = first-short t (also u (also x none)) a; free = λ p. absurd (no_false p) };
  other = record { fits = h.1.0; low = omega arith; short = first-short u (also x none) (rest-short t (also u (also x none)) a); free = λ p. absurd (no_false p) };
  last = record { fits = h.1.1.0; low = omega arith; short = first-short x none (rest-short u (also x none) (rest-short t (also u (also x none)) a)); free = λ p. absurd (no_false p) };
}
three s r q v room (also t (also u (also x (also y ys)))) h l a = absurd h.1.1.1

pub first-right : {b : Bool} {s : Sort} {v : Scope} {room : ℕ} (t : Tree) (ts : Trees) → AreRight b s v room (also t ts) → IsRight b s v room t
first-right t ts h = record { fits = h.fits.0; low = omega (arith, h.low); short = first-short t ts h.short; free = λ q. empty-front (bound t) (bound_all ts) (h.free q) }

pub rest-right : {b : Bool} {s : Sort} {v : Scope} {room : ℕ} (t : Tree) (ts : Trees) → AreRight b s v room (also t ts) → AreRight b s v room ts
rest-right t ts h = record { fits = h.fits.1; low = omega (arith, h.low); short = rest-short t ts h.short; free = λ q. empty-back (bound t) (bound_all ts) (h.free q) }

pub count-right : {b : Bool} {s : Sort} {v : Scope} {room : ℕ} (ts : Trees) → AreRight b s v room ts → count ts < 2 ^ 32
count-right {s = s} {v = v} ts h = omega (arith, count-le IsFine (all s) ts ((formed IsFine fine (row_of s) v (node row ts) (tt, h.fits)).1), h.short)

pub count-listed : (ts : Trees) → count ts ≡ length (listed ts)
count-listed none = refl
count-listed (also t ts) = omega (arith, count-listed ts)

-- the trees of a row
pub row-are : {b : Bool} {s : Sort} {v : Scope} {room : ℕ} (ts : Trees) → IsRight b (row_of s) v room (node row ts) → AreRight b s v room ts
row-are ts h = record { fits = h.fits.1; low = omega (arith, h.low); short = kids-short row ts h.short; free = h.free }

pub row-refused : {e : ReadFault} {b : Bool} {s : Sort} {v : Scope} {room least most : ℕ} {bs : List ℕ} (r : Tree) (d : List ℕ)
    → RefusesRow b s v room least most e bs → HasRoom v bs → IsRight b (row_of s) v room r → least ≤ length (held r) → length (held r) ≤ most → Denies e bs (code r ++ d)
row-refused (node row ts) d h l g p q = first-denied d (h.no l ts (row-are ts g) (omega (arith, count-listed ts)) (omega (arith, count-listed ts)))
row-refused (node _ ts) d h l g p q = absurd g.fits.1

pub held-few : {b : Bool} {s : Sort} {v : Scope} {room : ℕ} (r : Tree) → IsRight b (row_of s) v room r → length (held r) ≤ 0xFFFFFFFF
held-few (node row ts) g = omega (arith, count-listed ts, count-right ts (row-are ts g))
held-few (node _ ts) g = absurd g.fits.1

pub pair-first : {e : ReadFault} {b : Bool} {s : Sort} {v : Scope} {room : ℕ} {bs : List ℕ} → Refuses b s v room e bs → Refuses b (pair_of s) v room e bs
pair-first {e = e} {b = b} {s = s} {v = v} {room = room} {bs = bs} h = record { no = go }
  where
    go : HasRoom v bs → (t : Tree) → IsRight b (pair_of s) v room t → Denies e bs (code t)
    go l (node pair ts) g =
        let k = two b s s v [] room ts g.fits.1 (omega (arith, g.low)) (kids-short pair ts g.short) g.free in
        subst (λ (us : Trees). Denies e bs (code (node pair us))) (sym k.is) (refused k.first (code k.second ++ []) h l k.one)
    go l (node _ ts) g = absurd g.fits.1

pub pair-second : {e : ReadFault} {b : Bool} {s : Sort} {v : Scope} {room : ℕ} {u : Tree} {bs next : List ℕ} → Reads s v room u bs next → Refuses b s v room e next → Refuses b (pair_of s) v room e bs
pair-second {e = e} {b = b} {s = s} {v = v} {room = room} {bs = bs} r h = record { no = go }
  where
    go : HasRoom v bs → (t : Tree) → IsRight b (pair_of s) v room t → Denies e bs (code t)
    go l (node pair ts) g =
        let k = two b s s v [] room ts g.fits.1 (omega (arith, g.low)) (kids-short pair ts g.short) g.free in
        subst (λ (us : Trees). Denies e bs (code (node pair us))) (sym k.is) (read-next k.first (code k.second ++ []) r l k.one (λ q. refused k.second [] h (left-less r l) k.other))
    go l (node _ ts) g = absurd g.fits.1
