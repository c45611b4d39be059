-- What a pattern binds of a closed process is closed, and so is a body with closed values put in.
use Rattle.std.proofs.Common.{ℕ, zero, suc, List, [], ◌∷◌, reverse}
use Rattle.std.specs.Prelude.{⊤}
use Rattle.calculus.proofs.Members.{Every, every-reverse}
use Rattle.calculus.specs.declared.plain.Origin.{Origin}
use Rattle.calculus.specs.declared.plain.Origin.TheVariants as origins
use Rattle.calculus.specs.Tree.{par, row, bool, int, str, uri, bytes, fresh, list, tuple, set, dict, pair, send, receive, new, match, bundle, unary, binary, method, var, name_var, Tree, node, Trees, none, also}
use Rattle.calculus.specs.Shape.{at, leaf, only}
use Rattle.calculus.specs.Form.{term, part, row_of, pair_of, all, IsDigest, Scope, Fits, Hold, IsClosed}
use Rattle.calculus.specs.Substitution.{put}
use Rattle.calculus.specs.Matching.{Bindings, all_matches}
use Rattle.calculus.specs.Unfolding.{write_only, names_made}
use Rattle.calculus.proofs.Closing.{put_closed}
use Rattle.calculus.proofs.Digests.{digest-fits}
use Rattle.process_laws.proofs.UnfoldingPatterns.{a_pat, IsTidy}
use Rattle.process_laws.proofs.Goodness.{a_term, a_part, a_pair, the_terms, each_is, IsGood, AreGoodKids, AreGood}
use Rattle.process_laws.proofs.Making.{HasCollections}
use Rattle.process_laws.proofs.Binding.{BindGood, pattern-binds}

-- a closed part
abbrev pub IsClosedPart : Tree → Type 0
IsClosedPart t = Fits part [] t

mutual
  part-good : (t : Tree) → Fits part [] t → IsGood IsClosedPart a_part t
  part-good (node (receive k) ts) f = (f, tt)
  part-good (node (new os) ts) f = (f, tt)
  part-good (node match ts) f = (f, tt)
  part-good (node (bool x) none) f = (f, tt)
  part-good (node (int x) none) f = (f, tt)
  part-good (node (str x) none) f = (f, tt)
  part-good (node (uri x) none) f = (f, tt)
  part-good (node (bytes x) none) f = (f, tt)
  part-good (node (fresh x) none) f = (f, tt)
  part-good (node (var i) ts) f = absurd f.0
  part-good (node (name_var i) ts) f = absurd f.0
  part-good (node list ts) f = (f, terms-good ts f.1)
  part-good (node tuple ts) f = (f, terms-good ts f.1)
  part-good (node set ts) f = (f, terms-good ts f.1)
  part-good (node dict ts) f = (f, pairs-good ts f.1)
  part-good (node (send q) (also c (also x none))) f = (f, (term-good c f.1.0, (row-good x f.1.1.0, tt)))
  part-good (node (bundle r) (also a none)) f = (f, (term-good a f.1.0, tt))
  part-good (node (unary o) (also a none)) f = (f, (term-good a f.1.0, tt))
  part-good (node (binary o) (also a (also b none))) f = (f, (term-good a f.1.0, (term-good b f.1.1.0, tt)))
  part-good (node (method n) (also a (also b none))) f = (f, (term-good a f.1.0, (row-good b f.1.1.0, tt)))
  part-good (node (send q) none) f = absurd f.1
  part-good (node (send q) (also c none)) f = absurd f.1.1
  part-good (node (send q) (also c (also x (also y ys)))) f = absurd f.1.1.1
  part-good (node (bundle r) none) f = absurd f.1
  part-good (node (bundle r) (also a (also b bs))) f = absurd f.1.1
  part-good (node (unary r) none) f = absurd f.1
  part-good (node (unary r) (also a (also b bs))) f = absurd f.1.1
  part-good (node (binary r) none) f = absurd f.1
  part-good (node (binary q) (also c none)) f = absurd f.1.1
  part-good (node (binary q) (also c (also x (also y ys)))) f = absurd f.1.1.1
  part-good (node (method r) none) f = absurd f.1
  part-good (node (method q) (also c none)) f = absurd f.1.1
  part-good (node (method q) (also c (also x (also y ys)))) f = absurd f.1.1.1
  part-good (node _ ts) f = absurd f.1

  pub term-good : (t : Tree) → IsClosed t → IsGood IsClosedPart a_term t
  term-good (node par ts) f = (tt, parts-good ts f.1)
  term-good (node _ ts) f = absurd f.1

  row-good : (t : Tree) → Fits (row_of term) [] t → IsGood IsClosedPart the_terms t
  row-good (node row ts) f = (tt, terms-good ts f.1)
  row-good (node _ ts) f = absurd f.1

  pair-good : (t : Tree) → Fits (pair_of term) [] t → IsGood IsClosedPart a_pair t
  pair-good (node pair none) f = absurd f.1
  pair-good (node pair (also a none)) f = absurd f.1.1
  pair-good (node pair (also a (also b none))) f = (tt, (term-good a f.1.0, (term-good b f.1.1.0, tt)))
  pair-good (node pair (also a (also b (also c cs)))) f = absurd f.1.1.1
  pair-good (node _ ts) f = absurd f.1

  parts-good : (ts : Trees) → Hold (all part) [] [] ts → AreGoodKids IsClosedPart (each_is a_part) ts
  parts-good none h = tt
  parts-good (also t ts) h = (part-good t h.0, parts-good ts h.1)

  terms-good : (ts : Trees) → Hold (all term) [] [] ts → AreGoodKids IsClosedPart (each_is a_term) ts
  terms-good none h = tt
  terms-good (also t ts) h = (term-good t h.0, terms-good ts h.1)

  pairs-good : (ts : Trees) → Hold (all (pair_of term)) [] [] ts → AreGoodKids IsClosedPart (each_is a_pair) ts
  pairs-good none h = tt
  pairs-good (also t ts) h = (pair-good t h.0, pairs-good ts h.1)

part-closed : (t : Tree) → IsGood IsClosedPart a_part t → Fits part [] t
part-closed (node l ts) h = h.0

parts-closed : (ts : Trees) → AreGoodKids IsClosedPart (each_is a_part) ts → Hold (all part) [] [] ts
parts-closed none h = tt
parts-closed (also t ts) h = (part-closed t h.0, parts-closed ts h.1)

pub term-closed : (t : Tree) → IsGood IsClosedPart a_term t → IsClosed t
term-closed (node par ts) h = (tt, parts-closed ts h.1)
term-closed (node _ ts) h = absurd h.1

terms-closed : (ts : Trees) → AreGoodKids IsClosedPart (each_is a_term) ts → Hold (all term) [] [] ts
terms-closed none h = tt
terms-closed (also t ts) h = (term-closed t h.0, terms-closed ts h.1)

pair-closed : (t : Tree) → IsGood IsClosedPart a_pair t → Fits (pair_of term) [] t
pair-closed (node pair none) h = absurd h.1
pair-closed (node pair (also a none)) h = absurd h.1.1
pair-closed (node pair (also a (also b none))) h = (tt, (term-closed a h.1.0, (term-closed b h.1.1.0, tt)))
pair-closed (node pair (also a (also b (also c cs)))) h = absurd h.1.1.1
pair-closed (node _ ts) h = absurd h.1

pairs-closed : (ts : Trees) → AreGoodKids IsClosedPart (each_is a_pair) ts → Hold (all (pair_of term)) [] [] ts
pairs-closed none h = tt
pairs-closed (also t ts) h = (pair-closed t h.0, pairs-closed ts h.1)

pub closed-collections : HasCollections IsClosedPart
closed-collections list ts i k = (tt, terms-closed ts k)
closed-collections set ts i k = (tt, terms-closed ts k)
closed-collections dict ts i k = (tt, pairs-closed ts k)
closed-collections _ ts i k = absurd i

-- the first of these matches binds closed values
abbrev pub FirstIsClosed : List Bindings → Type 0
FirstIsClosed [] = ⊤
FirstIsClosed (b ∷ bs) = Every IsClosed b

pub each-closed : (b : List Tree) → AreGood IsClosedPart a_term b → Every IsClosed b
each-closed [] h = tt
each-closed (t ∷ ts) h = (term-closed t h.0, each-closed ts h.1)

pub first-closed : (q t : Tree) → IsTidy a_pat q → IsClosed t → FirstIsClosed (all_matches q t)
first-closed q t h f = of-first (all_matches q t) (pattern-binds IsClosedPart closed-collections q t h (term-good t f))
  where
    of-first : (ms : List Bindings) → BindGood IsClosedPart closed-collections ms → FirstIsClosed ms
    of-first [] h = tt
    of-first (b ∷ bs) h = each-closed b h.0

closed-at : (k : ℕ) (vs : List Tree) → Every IsClosed vs → IsClosed (at k vs)
closed-at k [] h = (tt, tt)
closed-at zero (v ∷ vs) h = h.0
closed-at (suc k) (v ∷ vs) h = closed-at k vs h.1

-- a body with closed values put in
pub put-closed : (v : Scope) (t : Tree) (vs : List Tree) → Fits term v t → Every IsClosed vs → IsClosed (put vs t)
put-closed v t vs h a = put_closed v t vs h (λ k. closed-at k (reverse vs) (every-reverse IsClosed vs a))

-- the names of a `new`
pub fresh-closed : (x : List ℕ) → IsDigest x → IsClosed (only (leaf (fresh x)))
fresh-closed x h = (tt, ((h, tt), tt))

written-closed : (x : List ℕ) → IsDigest x → IsClosed (write_only (only (leaf (fresh x))))
written-closed x h = (tt, ((tt, (fresh-closed x h, tt)), tt))

pub names-closed : (s : List ℕ) (k : ℕ) (os : List Origin) → Every IsClosed (names_made s k os)
names-closed s k [] = tt
names-closed s k (origins.Plain ∷ os) = (fresh-closed _ (digest-fits _), names-closed s (suc k) os)
names-closed s k (origins.Stdout ∷ os) = (written-closed _ (digest-fits _), names-closed s (suc k) os)
names-closed s k (origins.StdoutAck ∷ os) = (written-closed _ (digest-fits _), names-closed s (suc k) os)
