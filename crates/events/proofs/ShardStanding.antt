-- Tests of lists, and in which shards rows stand.
use Rattle.std.proofs.Common.{◌≡◌, ℕ, ◌<◌, Bool, true, false, ◌||◌, List, [], ◌∷◌, map as each, refl, sym, ap, subst, ◌∙◌, inl, inr, eqb, eq-eqb, eqb-true, arith}
use Rattle.std.specs.List.{list_any}
use Rattle.calculus.proofs.Members.{Member, member-each}
use Rattle.calculus.specs.Tree.{Tree}
use Rattle.calculus.specs.Rows.{Row, channels}
use Rattle.calculus.specs.Storing.{shard}
use Rattle.events.specs.Shards.{shards_of, stands_in}
use Rattle.events.specs.ShardLaws.{RowsStandInShards}

-- a test that holds of a member holds of one
pub any-true : {A : Type 0} (f : A → Bool) (xs : List A) (x : A) → Member x xs → f x ≡ true → list_any f xs ≡ true
any-true f [] x m e = absurd m
any-true f (y ∷ xs) x (inl s) e = ap (λ z. f z || list_any f xs) (sym s) ∙ ap (λ b. b || list_any f xs) e
any-true f (y ∷ xs) x (inr m) e = ap (λ b. f y || b) (any-true f xs x m e) ∙ yes (f y)
  where
    yes : (b : Bool) → b || true ≡ true
    yes true = refl
    yes false = refl

-- a member of which a test holds, where it holds of one
pub any-one : {A : Type 0} (f : A → Bool) (xs : List A) → list_any f xs ≡ true → (x : A) × Member x xs × (f x ≡ true)
any-one f [] e = cc
any-one f (y ∷ xs) e = go (any-one f xs) (f y) refl e
  where
    go : (list_any f xs ≡ true → (x : _) × Member x xs × (f x ≡ true)) → (b : Bool) → f y ≡ b → b || list_any f xs ≡ true → (x : _) × Member x (y ∷ xs) × (f x ≡ true)
    go next true d e = (y, inl refl, d)
    go next false d e = let k = next e in (k.0, inr k.1, k.2)

-- a row stands in each of its shards, and in no other
pub stands : (k : ℕ) (r : Row) → Member k (shards_of r) → stands_in k r ≡ true
stands k r m = any-true (eqb k) (shards_of r) k m (eq-eqb k k refl)

pub its-one : (k : ℕ) (r : Row) → stands_in k r ≡ true → Member k (shards_of r)
its-one k r e = let a = any-one (eqb k) (shards_of r) e in subst (λ j. Member j (shards_of r)) (sym (eqb-true k a.0 a.2)) a.1

pub channel-shard : (c : Tree) (r : Row) → Member c (channels r.part) → Member (shard c) (shards_of r)
channel-shard c r m = member-each shard c (channels r.part) m

low : (cs : List Tree) (k : ℕ) → Member k (each shard cs) → k < 64
low [] k m = absurd m
low (c ∷ cs) k (inl e) = subst (λ n. n < 64) (sym e) (omega arith)
low (c ∷ cs) k (inr m) = low cs k m

pub rows_stand_in_shards : RowsStandInShards
rows_stand_in_shards r k e = low (channels r.part) k (its-one k r e)
