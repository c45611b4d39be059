-- Rows as pairs of keys and codes.
use Rattle.std.proofs.Common.{◌≡◌, ℕ, ◌≤◌, ◌*◌, ◌+◌, ◌-◌, Bool, true, false, cond, ◌||◌, List, [], ◌∷◌, ◌++◌, length, map as each, take, drop, min, get_or, refl, ap, sym, ◌∙◌, subst, arith, length-append, append_assoc, append-nil}
use Rattle.std.specs.Prelude.{All, IsPermutation}
use Rattle.std.specs.Str.{bytes_eq}
use Rattle.std.proofs.lemmas.List.Elements.{All-head, All-tail, All-cons, All-nil}
use Rattle.sha2.specs.Sha256.{sha256}
use Rattle.calculus.specs.Exchanges.{Exchanges, nothing, under, neighbours, then}
use Rattle.calculus.proofs.Permutations.{exchanges, keep, join, unmoved, exchange}
use Rattle.calculus.specs.Bytes.{be64, joined}
use Rattle.calculus.specs.Order.{sorted, IsAscending}
use Rattle.calculus.specs.Root.{key, group_code, root}
use Rattle.calculus.specs.Rows.{Row, row_code}
use Rattle.calculus.specs.Steps.{is_one_of}
use Rattle.calculus.specs.Storing.{IsStorable}
use Rattle.calculus.proofs.Tails.{length-be64}
use Rattle.calculus.proofs.ListCodes.{length-map}
use Rattle.events.proofs.Groups.{same, sorted-moved}
use Rattle.events.specs.States.{state_text}
use Rattle.radix_root.specs.Leaves.{Leaves, Keeps, group_digest, codes_at, groups_of}
use Rattle.radix_root.specs.Groups.{given, digest_after}
use Rattle.radix_root.specs.declared.group.Group.{Group}
use Rattle.checkpoint.specs.Kept.{AreKept}
use Rattle.checkpoint.specs.Made.{AreFor}
use Rattle.checkpoint.specs.Marks.{AreMarks, seen_mark, row_mark}
use Rattle.checkpoint.specs.declared.marks.Mark.{Mark}
use Rattle.state_reader.specs.Files.{heading}
use Rattle.state_reader.proofs.SameRows.{same-rows, storable-row, storable-short, row-length}
use Rattle.state_reader.proofs.Exact.{root-length, text-parts}
use Rattle.state_reader.proofs.Same.{Compared, Next, longer, shorter, equal, compared, all-head, all-behind, heads}
use Rattle.next_states.specs.Pairs.{Pair, pair_of, codes_in, groups_in, cut_by, seconds, TellsKey, IsChanged, IsRight, IsKnown}

-- the codes of rows are those of their pairs
pub codes-rows : (rows : List Row) (k : List ℕ) → codes_in (each pair_of rows) k ≡ codes_at rows k
codes-rows [] k = refl
codes-rows (r ∷ rows) k = ap (λ cs. cond (bytes_eq k (key r)) (row_code r ∷ cs) cs) (codes-rows rows k)

pub codes-append : (ps qs : List Pair) (k : List ℕ) → codes_in (ps ++ qs) k ≡ codes_in ps k ++ codes_in qs k
codes-append [] qs k = refl
codes-append (p ∷ ps) qs k = go (bytes_eq k p.0) (codes-append ps qs k)
  where
    go : (b : Bool) → codes_in (ps ++ qs) k ≡ codes_in ps k ++ codes_in qs k → cond b (p.1 ∷ codes_in (ps ++ qs) k) (codes_in (ps ++ qs) k) ≡ cond b (p.1 ∷ codes_in ps k) (codes_in ps k) ++ codes_in qs k
    go true e = ap (λ cs. p.1 ∷ cs) e
    go false e = e

pair-moved : (b d : Bool) (x y : List ℕ) (zs : List (List ℕ)) → IsPermutation (cond b (x ∷ cond d (y ∷ zs) zs) (cond d (y ∷ zs) zs)) (cond d (y ∷ cond b (x ∷ zs) zs) (cond b (x ∷ zs) zs))
pair-moved true true x y zs = exchange x y zs
pair-moved true false x y zs = unmoved (x ∷ zs)
pair-moved false true x y zs = unmoved (y ∷ zs)
pair-moved false false x y zs = unmoved zs

-- pairs in another order have the same codes of each key, ascending
pub groups-moved : {ps qs : List Pair} (k : List ℕ) → IsPermutation ps qs → groups_in ps k ≡ groups_in qs k
groups-moved k p = sorted-moved (go (exchanges p))
  where
    more : (b : Bool) (x : List ℕ) {xs ys : List (List ℕ)} → IsPermutation xs ys → IsPermutation (cond b (x ∷ xs) xs) (cond b (x ∷ ys) ys)
    more true x m = keep x m
    more false x m = m

    go : {ps qs : List Pair} → Exchanges ps qs → IsPermutation (codes_in ps k) (codes_in qs k)
    go nothing = unmoved []
    go (under p e) = more (bytes_eq k p.0) p.1 (go e)
    go (neighbours p q zs) = pair-moved (bytes_eq k p.0) (bytes_eq k q.0) p.1 q.1 (codes_in zs k)
    go (then e f) = join (go e) (go f)

-- groups with the right digests, given to a tree
pub after-right : (ps : List Pair) (gs : List Group) (v k : List ℕ) → All (IsRight ps) gs
    → digest_after gs v k ≡ cond (is_one_of k (each (λ g. g.key.0) gs)) (group_digest k (groups_in ps k)) v
after-right ps [] v k a = refl
after-right ps (g ∷ gs) v k a =
    after-right ps gs (cond (bytes_eq k g.key.0) (given g.digest) v) k (All-tail (IsRight ps) g gs a)
    ∙ go (bytes_eq k g.key.0) refl (is_one_of k (each (λ h. h.key.0) gs))
  where
    right : IsRight ps g
    right = All-head (IsRight ps) g gs a

    go : (b : Bool) → bytes_eq k g.key.0 ≡ b → (d : Bool) → cond d (group_digest k (groups_in ps k)) (cond b (given g.digest) v) ≡ cond (b || d) (group_digest k (groups_in ps k)) v
    go true e true = refl
    go true e false = right ∙ ap (λ x. group_digest x (groups_in ps x)) (sym (same k g.key.0 e))
    go false e true = refl
    go false e false = refl

-- marks that are left, and the text that they cut
pub cut-first : (ms : List Mark) (m : Mark) (text : List ℕ) → 1 ≤ length ms → get_or ms 0 m ≡ m
    → cut_by ms text ≡ (m.key.0, take (min m.len (length text)) text) ∷ cut_by (drop 1 ms) (drop (min m.len (length text)) text)
cut-first [] m text l e = absurd (omega (arith, l))
cut-first (n ∷ ms) m text l e = ap (λ (x : Mark). (x.key.0, take (min x.len (length text)) text) ∷ cut_by ms (drop (min x.len (length text)) text)) e

-- bytes before others
front-is : (a b : List ℕ) → take (min (length a) (length (a ++ b))) (a ++ b) ≡ a
front-is a b = ap (λ n. take n (a ++ b)) (within a b) ∙ go a
  where
    within : (a b : List ℕ) → min (length a) (length (a ++ b)) ≡ length a
    within a b = omega (arith, length-append a b)

    go : (a : List ℕ) → take (length a) (a ++ b) ≡ a
    go [] = refl
    go (x ∷ xs) = ap (λ ys. x ∷ ys) (go xs)

-- and those behind
pub behind : (a b : List ℕ) → drop (length a) (a ++ b) ≡ b
behind [] b = refl
behind (x ∷ xs) b = behind xs b

back-is : (a b : List ℕ) → drop (min (length a) (length (a ++ b))) (a ++ b) ≡ b
back-is a b = ap (λ n. drop n (a ++ b)) (within a b) ∙ behind a b
  where
    within : (a b : List ℕ) → min (length a) (length (a ++ b)) ≡ length a
    within a b = omega (arith, length-append a b)

tails : {x y : List ℕ × ℕ} {xs ys : List (List ℕ × ℕ)} → x ∷ xs ≡ y ∷ ys → (x ≡ y) × (xs ≡ ys)
tails e = (cc, cc)

-- the marks of rows cut their codes
pub cut-rows : (ms : List Mark) (rows : List Row) → AreMarks ms rows → cut_by ms (joined (each row_code rows)) ≡ each pair_of rows
cut-rows [] [] h = refl
cut-rows [] (r ∷ rows) h = absurd (cc h)
cut-rows (m ∷ ms) [] h = absurd (cc h)
cut-rows (m ∷ ms) (r ∷ rows) h =
    let p = tails h in
    let rest = joined (each row_code rows) in
    let text = row_code r ++ rest in
    let e : seen_mark m ≡ row_mark r = p.0 in
    ap (λ (q : List ℕ × ℕ). (q.0, take (min q.1 (length text)) text) ∷ cut_by ms (drop (min q.1 (length text)) text)) e
    ∙ ap (λ (c : List ℕ). (key r, c) ∷ cut_by ms (drop (min (length (row_code r)) (length text)) text)) (front-is (row_code r) rest)
    ∙ ap (λ (t : List ℕ). pair_of r ∷ cut_by ms t) (back-is (row_code r) rest)
    ∙ ap (λ (ps : List Pair). pair_of r ∷ ps) (cut-rows ms rows p.1)

-- rows with one code have one key
pub one-key : (r q : Row) → IsStorable r → IsStorable q → row_code r ≡ row_code q → key r ≡ key q
unfolding key
one-key r q h k e = ap (λ (cs : List (List ℕ)). sha256 (group_code cs)) (same-rows r q (storable-row r h) (storable-row q k) (storable-short r h) (storable-short q k) e).1

pub tell-rows : (rows : List Row) → All IsStorable rows → All TellsKey (each pair_of rows)
tell-rows [] h = All-nil TellsKey
tell-rows (q ∷ rows) h = All-cons TellsKey (pair_of q) (each pair_of rows) (λ r k e. one-key r q k (All-head IsStorable q rows h) e) (tell-rows rows (All-tail IsStorable q rows h))

header-length : (rows : List Row) → length (heading ++ (root rows ++ be64 (length rows))) ≡ 49
header-length rows = omega (arith, length-append heading (root rows ++ be64 (length rows)), length-append (root rows) (be64 (length rows)), root-length rows, length-be64 (length rows), nine)
  where
    nine : length heading ≡ 9
    nine = refl

text-is : (rows : List Row) → AreKept rows → state_text rows ≡ (heading ++ (root rows ++ be64 (length rows))) ++ joined (each row_code rows)
text-is rows h =
    text-parts rows h.order
    ∙ ap (λ (t : List ℕ). heading ++ t) (sym (append_assoc (root rows) (be64 (length rows)) (joined (each row_code rows))))
    ∙ sym (append_assoc heading (root rows ++ be64 (length rows)) (joined (each row_code rows)))

-- what follows the header is the codes
codes-behind : (rows : List Row) → AreKept rows → drop 49 (state_text rows) ≡ joined (each row_code rows)
codes-behind rows h =
    ap (drop 49) (text-is rows h)
    ∙ ap (λ n. drop n ((heading ++ (root rows ++ be64 (length rows))) ++ joined (each row_code rows))) (sym (header-length rows))
    ∙ behind (heading ++ (root rows ++ be64 (length rows))) (joined (each row_code rows))

-- no code of a row that may be stored is empty, so none is left where nothing is
none-left : {rows others : List Row} → All IsStorable rows → Next rows others [] [] → ⊥
none-left {rows} {others} h n =
    let s = all-head IsStorable n.row n.rest (all-behind IsStorable n.before (n.row ∷ n.rest) (subst (All IsStorable) n.is h)) in
    omega (arith, ap length n.behind, length-append (row_code n.row) (joined (each row_code n.rest) ++ []), row-length n.row s.id.0 s.active)

-- rows with one text have the same codes
codes-one : (rows others : List Row) → AreKept rows → AreKept others → state_text rows ≡ state_text others → each row_code rows ≡ each row_code others
codes-one rows others h k e = on (compared rows others [] [] h.order.storable k.order.storable (append-nil (joined (each row_code rows)) ∙ whole ∙ sym (append-nil (joined (each row_code others)))))
  where
    whole : joined (each row_code rows) ≡ joined (each row_code others)
    whole = sym (codes-behind rows h) ∙ ap (drop 49) e ∙ codes-behind others k

    on : Compared rows others [] [] → each row_code rows ≡ each row_code others
    on (longer n) = absurd (none-left h.order.storable n)
    on (shorter n) = absurd (none-left k.order.storable n)
    on (equal c l) = c

-- and the same marks
marks-one : (rows others : List Row) → All IsStorable rows → All IsStorable others → each row_code rows ≡ each row_code others → each row_mark rows ≡ each row_mark others
marks-one [] [] h k e = refl
marks-one [] (q ∷ others) h k e = absurd (cc e)
marks-one (r ∷ rows) [] h k e = absurd (cc e)
marks-one (r ∷ rows) (q ∷ others) h k e =
    let p = heads e in
    ap (λ (x : List ℕ). (x, length (row_code r)) ∷ each row_mark rows) (one-key r q (All-head IsStorable r rows h) (All-head IsStorable q others k) p.0)
    ∙ ap (λ (c : List ℕ). (key q, length c) ∷ each row_mark rows) p.0
    ∙ ap (λ (ms : List (List ℕ × ℕ)). row_mark q ∷ ms) (marks-one rows others (All-tail IsStorable r rows h) (All-tail IsStorable q others k) p.1)

codes-pairs : (rows : List Row) → seconds (each pair_of rows) ≡ each row_code rows
codes-pairs [] = refl
codes-pairs (r ∷ rows) = ap (λ cs. row_code r ∷ cs) (codes-pairs rows)

-- what is known of the state of rows
pub known-rows : (text : List ℕ) (ms : List Mark) (tree : Leaves) (rows : List Row) → text ≡ state_text rows → AreKept rows → Keeps tree (groups_of rows) → AreMarks ms rows → IsKnown text ms tree
known-rows text ms tree rows e h k m =
    let pairs : cut_by ms (drop 49 text) ≡ each pair_of rows = ap (λ (t : List ℕ). cut_by ms (drop 49 t)) e ∙ ap (cut_by ms) (codes-behind rows h) ∙ cut-rows ms rows m in
    record {
      long = omega (arith, ap length (e ∙ text-is rows h), length-append (heading ++ (root rows ++ be64 (length rows))) (joined (each row_code rows)), header-length rows);
      tell = subst (All TellsKey) (sym pairs) (tell-rows rows h.order.storable);
      order = subst (λ (ps : List Pair). IsAscending (seconds ps)) (sym pairs) (subst IsAscending (sym (codes-pairs rows)) h.order.ascending);
      rows = λ others t f. m ∙ marks-one rows others h.order.storable t.order.storable (codes-one rows others h t (sym e ∙ f));
      tree = subst (λ (ps : List Pair). Keeps tree (groups_in ps)) (sym pairs) (λ j. k j ∙ ap (λ cs. group_digest j (sorted cs)) (sym (codes-rows rows j)));
    }

-- a tree with the codes of pairs in another order keeps those of the rows
pub rows-kept : (rows : List Row) (ps : List Pair) (t : Leaves) → IsPermutation (each pair_of rows) ps → Keeps t (groups_in ps) → Keeps t (groups_of rows)
rows-kept rows ps t p h k = h k ∙ ap (group_digest k) (sym (groups-moved k p) ∙ ap sorted (codes-rows rows k))

-- the pairs of the rows whose text is known
pub known-pairs : (text : List ℕ) (ms : List Mark) (tree : Leaves) (rows : List Row) → IsKnown text ms tree → AreKept rows → text ≡ state_text rows → cut_by ms (drop 49 text) ≡ each pair_of rows
known-pairs text ms tree rows k h e = ap (λ (t : List ℕ). cut_by ms (drop 49 t)) e ∙ ap (cut_by ms) (codes-behind rows h) ∙ cut-rows ms rows (k.rows rows h e)

-- and how many there are
pub known-number : (text : List ℕ) (ms : List Mark) (tree : Leaves) (rows : List Row) → IsKnown text ms tree → AreKept rows → text ≡ state_text rows → length ms ≡ length rows
known-number text ms tree rows k h e = sym (length-map seen_mark ms) ∙ ap length (k.rows rows h e) ∙ length-map row_mark rows

-- a group that changes from the pairs of rows to others
pub changed-rows : (base rows : List Row) (all ps : List Pair) (k : List ℕ) → all ≡ each pair_of base → IsPermutation (each pair_of rows) ps → IsChanged all ps k → groups_of base k ≡ groups_of rows k → ⊥
changed-rows base rows all ps k e p h q =
    h (ap (λ (qs : List Pair). groups_in qs k) e ∙ ap sorted (codes-rows base k) ∙ q ∙ sym (ap sorted (codes-rows rows k)) ∙ groups-moved k p)

-- digests for keys that are so are for keys that are so too
pub made-weaker : {P Q : List ℕ → Type 0} {n : ℕ} → AreFor P n → ((k : List ℕ) → P k → Q k) → AreFor Q n
made-weaker h f = record { keys = h.keys; once = h.once; so = λ k m. f k (h.so k m); within = h.within }

-- digests of groups and of nodes above them
pub both-within : (gs ss : List Group) (first now last : ℕ) → ss ≡ gs → now ≤ first + length gs → last ≤ now + 64 * length ss → last - first ≤ 65 * length (each (λ g. g.key.0) gs)
both-within gs ss first now last e a b = omega (arith, ap length e, a, b, length-map (λ (g : Group). g.key.0) gs)
