-- What is numberable: a tree with a short code, and what names are put into.
use Rattle.std.proofs.Common.{◌≡◌, ℕ, zero, suc, ◌≤◌, ◌+◌, ◌-◌, ◌^◌, Bool, true, false, cond, List, [], ◌∷◌, ◌++◌, map as each, length, reverse, refl, sym, ap, ◌∙◌, arith, length-append}
use Rattle.std.specs.Prelude.{leb}
use Rattle.std.proofs.lemmas.List.{length-map}
use Rattle.calculus.proofs.Members.{Every, every-reverse}
use Rattle.calculus.specs.declared.plain.Origin.{Origin}
use Rattle.calculus.specs.declared.plain.Origin.TheVariants as origins
use Rattle.calculus.specs.declared.plain.Rights.TheVariants as rights
use Rattle.calculus.specs.Kinds.{origin_number}
use Rattle.calculus.specs.Tree.{Label, par, row, pair, bind, case, pattern, new, bundle, fresh, var, name_var, Tree, node, Trees, none, also, trees, weight, weights}
use Rattle.calculus.specs.Shape.{leaf, one, only, count, held, listed, joined_trees, at}
use Rattle.calculus.specs.Bytes.{be32, joined}
use Rattle.calculus.specs.Congruence.{is_bag}
use Rattle.calculus.specs.Code.{head, arranged, code, codes}
use Rattle.calculus.specs.Normal.{ascending, made_node}
use Rattle.calculus.specs.Variables.{binders}
use Rattle.calculus.specs.Substitution.{Change, changed, change, change_all, the_one, put}
use Rattle.calculus.specs.Seeds.{digest_of, System, Fresh}
use Rattle.calculus.specs.Rows.{system_name}
use Rattle.calculus.specs.Unfolding.{names_made}
use Rattle.calculus.proofs.Tails.{length-be32}
use Rattle.calculus.proofs.Sorting.{total-arranged}
use Rattle.calculus.proofs.Placing.{trees-listed}
use Rattle.events.specs.FreshLaws.{ShortProcessesAreNumberable, SmallProcessesAreNumberable}
use Rattle.events.specs.Numbers.{most_names, most_names_of, one_if_full, full_codes, name_count, IsNumberable, AreNumberable}
use Rattle.events.proofs.Ordered.{numberable-every}
use Rattle.events.proofs.Ordered.{full_codes-sorted, codes-ascending, codes-listed, every-ascending}

full-short : (c : List ℕ) → one_if_full c ≤ length c
full-short [] = omega arith
full-short (x ∷ xs) = omega arith

pub full-most : (c : List ℕ) → one_if_full c ≤ 1
full-most [] = omega arith
full-most (x ∷ xs) = omega arith

full_codes-short : (cs : List (List ℕ)) → full_codes cs ≤ length (joined cs)
full_codes-short [] = omega arith
full_codes-short (c ∷ cs) = omega (arith, full-short c, full_codes-short cs, length-append c (joined cs))

names-short : (l : Label) (n : ℕ) → name_count l ≤ length (head l n)
names-short (new os) n = omega (arith, length-append (be32 (length os)) (each origin_number os), length-map os origin_number)
names-short l n = omega arith

code-length : (l : Label) (ts : Trees) → length (code (node l ts)) ≡ length (head l (count ts)) + length (joined (codes ts))
code-length l ts = omega (arith, length-append (head l (count ts)) (joined (arranged (is_bag l) (codes ts))), total-arranged (is_bag l) (codes ts))

mutual
  -- a tree whose code has at most 2^32 bytes is numberable
  pub short-numberable : (t : Tree) → length (code t) ≤ 2 ^ 32 → IsNumberable t
  short-numberable (node l ts) h =
      (omega (arith, h, code-length l ts, full_codes-short (codes ts)), omega (arith, h, code-length l ts, names-short l (count ts)), all-short ts (omega (arith, h, code-length l ts)))

  all-short : (ts : Trees) → length (joined (codes ts)) ≤ 2 ^ 32 → AreNumberable ts
  all-short none h = tt
  all-short (also t ts) h =
      (short-numberable t (omega (arith, h, length-append (code t) (joined (codes ts)))), all-short ts (omega (arith, h, length-append (code t) (joined (codes ts)))))

full_codes-append : (cs ds : List (List ℕ)) → full_codes (cs ++ ds) ≡ full_codes cs + full_codes ds
full_codes-append [] ds = omega arith
full_codes-append (c ∷ cs) ds = omega (arith, full_codes-append cs ds)

full-append : (xs ys : List ℕ) → one_if_full (xs ++ ys) ≤ one_if_full xs + one_if_full ys
full-append [] ys = omega arith
full-append (x ∷ xs) ys = omega arith

full-joined : (cs : List (List ℕ)) → one_if_full (joined cs) ≤ full_codes cs
full-joined [] = omega arith
full-joined (c ∷ cs) = omega (arith, full-append c (joined cs), full-joined cs)

-- where nothing stands in all of them, each is empty
none-full : (cs : List (List ℕ)) → one_if_full (joined cs) ≡ 0 → full_codes cs ≡ 0
none-full [] h = refl
none-full ([] ∷ cs) h = omega (arith, none-full cs h)
none-full ((x ∷ xs) ∷ cs) h = absurd (omega (arith, h))

-- joined lists are empty where those of the other side are
joined-less : (cs ds : List (List ℕ)) → full_codes cs ≤ full_codes ds → one_if_full (joined cs) ≤ one_if_full (joined ds)
joined-less cs ds h = go (one_if_full (joined ds)) refl
  where
    go : (n : ℕ) → one_if_full (joined ds) ≡ n → one_if_full (joined cs) ≤ n
    go zero e = omega (arith, h, none-full ds e, full-joined cs)
    go (suc n) e = omega (arith, full-most (joined cs))

codes-trees : (ts : List Tree) → codes (trees ts) ≡ each code ts
codes-trees [] = refl
codes-trees (t ∷ ts) = ap (λ l. code t ∷ l) (codes-trees ts)

codes-joined : (ts us : Trees) → codes (joined_trees ts us) ≡ codes ts ++ codes us
codes-joined none us = refl
codes-joined (also t ts) us = ap (λ l. code t ∷ l) (codes-joined ts us)

pub numberable-trees : (ts : List Tree) → Every IsNumberable ts → AreNumberable (trees ts)
numberable-trees [] h = tt
numberable-trees (t ∷ ts) h = (h.0, numberable-trees ts h.1)

numberable-joined : (ts us : Trees) → AreNumberable ts → AreNumberable us → AreNumberable (joined_trees ts us)
numberable-joined none us h k = k
numberable-joined (also t ts) us h k = (h.0, numberable-joined ts us h.1 k)

pub full_codes-ascending : (b : Bool) (ts : List Tree) → full_codes (codes (trees (cond b (ascending ts) ts))) ≡ full_codes (each code ts)
full_codes-ascending true ts = ap full_codes (codes-trees (ascending ts) ∙ codes-ascending ts) ∙ full_codes-sorted (each code ts)
full_codes-ascending false ts = ap full_codes (codes-trees ts)

pub every-arranged : (b : Bool) (ts : List Tree) → Every IsNumberable ts → Every IsNumberable (cond b (ascending ts) ts)
every-arranged true ts h = every-ascending IsNumberable ts h
every-arranged false ts h = h

made-numberable : (l : Label) (us : Trees) → name_count l ≤ 2 ^ 32 → full_codes (codes us) ≤ 2 ^ 32 → AreNumberable us → IsNumberable (made_node l (listed us))
made-numberable l us n f h =
    (omega (arith, full_codes-ascending (is_bag l) (listed us), ap full_codes (codes-listed us), f), n, numberable-trees (cond (is_bag l) (ascending (listed us)) (listed us)) (every-arranged (is_bag l) (listed us) (numberable-every us h)))

-- a form with constituents in place of others, of which no more are full, has an empty code where it had one
filled : (x : List ℕ) (n : ℕ) → suc n ≡ length x → (y z : List ℕ) → one_if_full (x ++ y) ≡ 1
filled [] n e y z = absurd (omega (arith, e))
filled (a ∷ x) n e y z = refl

counted-full : (n : ℕ) (y : List ℕ) → one_if_full (be32 n ++ y) ≡ 1
counted-full n y = filled (be32 n) 3 (sym (length-be32 n)) y []

hollow : (ts us : Trees) → full_codes (codes us) ≤ full_codes (codes ts) → one_if_full (joined (codes (trees (listed us)))) ≤ one_if_full (joined (codes ts))
hollow ts us h = joined-less (codes (trees (listed us))) (codes ts) (omega (arith, h, ap (λ (z : Trees). full_codes (codes z)) (trees-listed us)))

made-full : (l : Label) (ts us : Trees) → full_codes (codes us) ≤ full_codes (codes ts) → one_if_full (code (made_node l (listed us))) ≤ one_if_full (code (node l ts))
made-full pair ts us h = hollow ts us h
made-full bind ts us h = hollow ts us h
made-full case ts us h = hollow ts us h
made-full par ts us h = omega (arith, full-most (code (made_node par (listed us))), counted-full (count ts) (joined (arranged true (codes ts))))
made-full row ts us h = omega (arith, full-most (code (made_node row (listed us))), counted-full (count ts) (joined (arranged false (codes ts))))
made-full pattern ts us h = omega (arith, full-most (code (made_node pattern (listed us))), counted-full (count ts) (joined (arranged false (codes ts))))
made-full l ts us h = full-most (code (made_node l (listed us)))

-- trees that come in place of one
abbrev Few : ℕ → Trees → Type 0
Few n ts = AreNumberable ts × (full_codes (codes ts) ≤ n)

module _ (F : Change) (vars : (k d : ℕ) → Few 1 (F k d var)) (uses : (k d : ℕ) → Few 1 (F k d name_var)) where
  use-few : (d i : ℕ) (form : ℕ → Label) → IsNumberable (leaf (form i)) → Few 1 (F (i - d) d form) → Few 1 (changed F d form i)
  use-few d i form c h = go (leb d i)
    where
      go : (b : Bool) → Few 1 (cond b (F (i - d) d form) (also (leaf (form i)) none))
      go true = h
      go false = ((c, tt), omega (arith, full-most (code (leaf (form i)))))

  mutual
    pub change-few : (d : ℕ) (t : Tree) → IsNumberable t → Few (one_if_full (code t)) (change F d t)
    change-few d (node (var i) ts) h = use-few d i var (omega arith, omega arith, tt) (vars (i - d) d)
    change-few d (node (name_var i) ts) h = use-few d i name_var (omega arith, omega arith, tt) (uses (i - d) d)
    change-few d (node l ts) h =
        let us : Trees = change_all F d (length (binders l ts)) ts in
        let k : Few (full_codes (codes ts)) us = all-few d (length (binders l ts)) ts h.2 in
        ((made-numberable l us h.1 (omega (arith, k.1, h.0)) k.0, tt), omega (arith, made-full l ts us k.1))

    all-few : (d n : ℕ) (ts : Trees) → AreNumberable ts → Few (full_codes (codes ts)) (change_all F d n ts)
    all-few d n none h = (tt, omega arith)
    all-few d n (also t none) h = let k = change-few (d + n) t h.0 in (k.0, omega (arith, k.1))
    all-few d n (also t (also u us)) h =
        let k = change-few d t h.0 in
        let m = all-few d n (also u us) h.1 in
        (numberable-joined (change F d t) (change_all F d n (also u us)) k.0 m.0, omega (arith, ap full_codes (codes-joined (change F d t) (change_all F d n (also u us))), full_codes-append (codes (change F d t)) (codes (change_all F d n (also u us))), k.1, m.1))

-- a value of one part
abbrev Single : Tree → Type 0
Single v = Few 1 (trees (held v))

single-at : (k : ℕ) (vs : List Tree) → Every Single vs → Single (at k vs)
single-at k [] h = (tt, omega arith)
single-at zero (v ∷ vs) h = h.0
single-at (suc k) (v ∷ vs) h = single-at k vs h.1

the-numberable : (ts : Trees) → AreNumberable ts → IsNumberable (the_one ts)
the-numberable none h = (omega arith, omega arith, tt)
the-numberable (also t ts) h = h.0

-- a tree of one constituent
one-numberable : (l : Label) (t : Tree) → name_count l ≤ 2 ^ 32 → IsNumberable t → IsNumberable (one l t)
one-numberable l t n h = (omega (arith, full-most (code t)), n, (h, tt))

name-numberable : (x : List ℕ) → IsNumberable (leaf (fresh x))
name-numberable x = (omega arith, omega arith, tt)

single : (t : Tree) → IsNumberable t → Single (only t)
single t h = ((h, tt), omega (arith, full-most (code t)))

system-numberable : (k : ℕ) → IsNumberable (system_name k)
system-numberable k = one-numberable par (leaf (fresh (digest_of (System k)))) (omega arith) (name-numberable (digest_of (System k)))

made-single : (s : List ℕ) (k : ℕ) (os : List Origin) → Every Single (names_made s k os)
made-single s k [] = tt
made-single s k (origins.Plain ∷ os) = (single (leaf (fresh (digest_of (Fresh s k)))) (name-numberable (digest_of (Fresh s k))), made-single s (suc k) os)
made-single s k (origins.Stdout ∷ os) = (single (one (bundle rights.Write) (system_name 0)) (one-numberable (bundle rights.Write) (system_name 0) (omega arith) (system-numberable 0)), made-single s (suc k) os)
made-single s k (origins.StdoutAck ∷ os) = (single (one (bundle rights.Write) (system_name 1)) (one-numberable (bundle rights.Write) (system_name 1) (omega arith) (system-numberable 1)), made-single s (suc k) os)

-- what the names of a `new` are put into is numberable, where it was
pub put-numberable : (s : List ℕ) (os : List Origin) (b : Tree) → IsNumberable b → IsNumberable (put (names_made s 0 os) b)
unfolding put
put-numberable s os b h =
    let vs : List Tree = names_made s 0 os in
    let few : (k : ℕ) → Single (at k (reverse vs)) = λ k. single-at k (reverse vs) (every-reverse Single vs (made-single s 0 os)) in
    the-numberable _ (change-few (λ k d form. trees (held (at k (reverse vs)))) (λ k d. few k) (λ k d. few k) 0 b h).0

full_codes-few : (ts : Trees) → full_codes (codes ts) ≤ weights ts
full_codes-few none = omega arith
full_codes-few (also (node l us) ts) = omega (arith, full-most (code (node l us)), full_codes-few ts)

mutual
  -- a tree of few nodes and few names is numberable
  pub few-numberable : (t : Tree) → weight t ≤ 2 ^ 32 → most_names t ≤ 2 ^ 32 → IsNumberable t
  few-numberable (node l ts) h k = (omega (arith, h, full_codes-few ts), omega (arith, k), all-few-numberable ts (omega (arith, h)) (omega (arith, k)))

  all-few-numberable : (ts : Trees) → weights ts ≤ 2 ^ 32 → most_names_of ts ≤ 2 ^ 32 → AreNumberable ts
  all-few-numberable none h k = tt
  all-few-numberable (also t ts) h k = (few-numberable t (omega (arith, h)) (omega (arith, k)), all-few-numberable ts (omega (arith, h)) (omega (arith, k)))

pub short_processes_are_numberable : ShortProcessesAreNumberable
short_processes_are_numberable t h = short-numberable t h

pub small_processes_are_numberable : SmallProcessesAreNumberable
small_processes_are_numberable t h k = few-numberable t h k
