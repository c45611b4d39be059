-- What stands in a closed short tree is closed and short.
use Rattle.std.proofs.Common.{◌≡◌, ℕ, zero, suc, ◌+◌, ◌<◌, ◌≤◌, ◌^◌, Bool, true, false, cond, List, [], ◌∷◌, length, map as each, get_or, sym, subst, arith, length-append}
use Rattle.std.specs.Prelude.{All}
use Rattle.calculus.specs.Tree.{Label, Tree, trees, par, row, pair, list, tuple, set, dict, send, none, also}
use Rattle.calculus.specs.Bytes.{joined}
use Rattle.calculus.specs.Shape.{process, only, many, one, two}
use Rattle.calculus.specs.Variables.{Sense}
use Rattle.calculus.specs.Code.{code, codes}
use Rattle.calculus.specs.CodeLaws.{IsShort}
use Rattle.calculus.specs.Form.{Sort, term, part, pair_of, all, Hold, Fits}
use Rattle.calculus.proofs.Formed.{length-code}
use Rattle.calculus.proofs.Tails.{length-be32}
use Rattle.rho_term.specs.Normal.{IsNormal, AreNormal, IsOrdered}
use Rattle.rho_term.specs.Parts.{part_tree}
use Rattle.rho_term.specs.declared.term.Part.{Part}
use Rattle.rho_term.proofs.Trees.{ordered-at}
use Rattle.match_targets.specs.Targets.{Ready, AllReady}
use Rattle.free_places.specs.Places.{left_from, has}

-- the bytes of the codes of these trees
abbrev pub bytes_of : List Tree → ℕ
bytes_of ts = length (joined (codes (trees ts)))

pub bytes-cons : (t : Tree) (ts : List Tree) → bytes_of (t ∷ ts) ≡ length (code t) + bytes_of ts
bytes-cons t ts = length-append (code t) (joined (codes (trees ts)))

bytes-at : (ts : List Tree) (i : ℕ) (d : Tree) → i < length ts → length (code (get_or ts i d)) ≤ bytes_of ts
bytes-at [] i d h = absurd (omega arith)
bytes-at (t ∷ ts) zero d h = omega (arith, bytes-cons t ts)
bytes-at (t ∷ ts) (suc i) d h = omega (arith, bytes-cons t ts, bytes-at ts i d (omega arith))

fits-at : (s : Sort) (o : List Sense) (ts : List Tree) (i : ℕ) (d : Tree) → i < length ts → Hold (all s) [] o (trees ts) → Fits s [] (get_or ts i d)
fits-at s o [] i d h k = absurd (omega arith)
fits-at s o (t ∷ ts) zero d h k = k.0
fits-at s o (t ∷ ts) (suc i) d h k = fits-at s o ts i d (omega arith) k.1

-- the length of the code of a process of one part
pub only-length : (t : Tree) → length (code (only t)) ≡ 4 + length (code t)
only-length t = omega (arith, length-code par (also t none), bytes-cons t [], length-be32)

-- a part of a process
pub part-ready : (ts : List Tree) (i : ℕ) (d : Tree) → i < length ts → Ready term (process ts) → Ready term (only (get_or ts i d))
part-ready ts i d h k = record {
  closed = (tt, (fits-at part [] ts i d h k.closed.1, tt));
  short = omega (arith, k.short, only-length (get_or ts i d), length-code par (trees ts), bytes-at ts i d h, length-be32);
}

pub all-ready : (s : Sort) (o : List Sense) (ts : List Tree) → Hold (all s) [] o (trees ts) → bytes_of ts < 2 ^ 32 → AllReady s ts
all-ready s o [] h k = tt
all-ready s o (t ∷ ts) h k = (record { closed = h.0; short = omega (arith, bytes-cons t ts) }, all-ready s o ts h.1 (omega (arith, bytes-cons t ts)))

-- the codes of what a part holds
pub inside : (l : Label) (ts : List Tree) → IsShort (only (many l ts)) → bytes_of ts < 2 ^ 32
inside l ts h = omega (arith, h, only-length (many l ts), length-code l (trees ts))

pub list-ready : (ts : List Tree) → Ready term (only (many list ts)) → AllReady term ts
list-ready ts h = all-ready term [] ts h.closed.1.0.1 (inside list ts h.short)

pub tuple-ready : (ts : List Tree) → Ready term (only (many tuple ts)) → AllReady term ts
tuple-ready ts h = all-ready term [] ts h.closed.1.0.1 (inside tuple ts h.short)

pub set-ready : (ts : List Tree) → Ready term (only (many set ts)) → AllReady term ts
set-ready ts h = all-ready term [] ts h.closed.1.0.1 (inside set ts h.short)

pub map-ready : (ts : List Tree) → Ready term (only (many dict ts)) → AllReady (pair_of term) ts
map-ready ts h = all-ready (pair_of term) [] ts h.closed.1.0.1 (inside dict ts h.short)

pub channel-ready : (q : Bool) (c : Tree) (xs : List Tree) → Ready term (only (two (send q) c (many row xs))) → Ready term c
channel-ready q c xs h = record {
  closed = h.closed.1.0.1.0;
  short = omega (arith, inside (send q) (c ∷ many row xs ∷ []) h.short, bytes-cons c (many row xs ∷ []));
}

pub data-ready : (q : Bool) (c : Tree) (xs : List Tree) → Ready term (only (two (send q) c (many row xs))) → AllReady term xs
data-ready q c xs h =
    all-ready term [] xs h.closed.1.0.1.1.0.1
    (omega (arith, inside (send q) (c ∷ many row xs ∷ []) h.short, bytes-cons c (many row xs ∷ []), bytes-cons (many row xs) [], length-code row (trees xs)))

pub body-ready : (l : Label) (b : Tree) → Fits term [] b → Ready term (only (one l b)) → Ready term b
body-ready l b f h = record { closed = f; short = omega (arith, inside l (b ∷ []) h.short, bytes-cons b []) }

pub key-ready : (a b : Tree) → Ready (pair_of term) (two pair a b) → Ready term a
key-ready a b h = record { closed = h.closed.1.0; short = omega (arith, h.short, length-code pair (also a (also b none)), bytes-cons a (b ∷ [])) }

pub value-ready : (a b : Tree) → Ready (pair_of term) (two pair a b) → Ready term b
value-ready a b h =
    record { closed = h.closed.1.1.0; short = omega (arith, h.short, length-code pair (also a (also b none)), bytes-cons a (b ∷ []), bytes-cons b []) }

pub ready-at : (s : Sort) (ts : List Tree) (i : ℕ) (d : Tree) → i < length ts → AllReady s ts → Ready s (get_or ts i d)
ready-at s [] i d h k = absurd (omega arith)
ready-at s (t ∷ ts) zero d h k = k.0
ready-at s (t ∷ ts) (suc i) d h k = ready-at s ts i d (omega arith) k.1

-- the same for things that stand for trees
pub ready-of : {A : Type 0} (f : A → Tree) (s : Sort) (xs : List A) (i : ℕ) (d : A) → i < length xs → AllReady s (each f xs) → Ready s (f (get_or xs i d))
ready-of f s [] i d h k = absurd (omega arith)
ready-of f s (x ∷ xs) zero d h k = k.0
ready-of f s (x ∷ xs) (suc i) d h k = ready-of f s xs i d (omega arith) k.1

pub normal-at : {A : Type 0} (f : A → Tree) (xs : List A) (i : ℕ) (d : A) → i < length xs → AreNormal (trees (each f xs)) → IsNormal (f (get_or xs i d))
normal-at f [] i d h n = absurd (omega arith)
normal-at f (x ∷ xs) zero d h n = n.0
normal-at f (x ∷ xs) (suc i) d h n = normal-at f xs i d (omega arith) n.1

-- the parts that are left are in order inside
left-normal : (i : ℕ) (us : List ℕ) (ts : List Tree) → AreNormal (trees ts) → AreNormal (trees (left_from i us ts))
left-normal i us [] h = tt
left-normal i us (t ∷ ts) h =
    let P : Bool → Type 0 = λ b. AreNormal (trees (cond b (left_from (suc i) us ts) (t ∷ left_from (suc i) us ts))) in
    let k = left-normal (suc i) us ts h.1 in
    elim (has us i) as P [ true ↦ k | false ↦ (h.0, k) ]

pub left-ordered : (us : List ℕ) (ps qs : List Part) → AreNormal (trees (each part_tree ps)) → each part_tree qs ≡ left_from 0 us (each part_tree ps) → All (λ p. IsOrdered (part_tree p)) qs
left-ordered us ps qs h e k d l =
    ordered-at part_tree qs k d l (subst (λ (ts : List Tree). AreNormal (trees ts)) (sym e) (left-normal 0 us (each part_tree ps) h))
