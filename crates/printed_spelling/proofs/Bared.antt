-- The bare form of what a printed text spells is the process with its parts in order.
use Rattle.std.proofs.Common.{◌≡◌, ℕ, zero, suc, ◌<◌, ◌≤◌, ◌+◌, ◌-◌, ◌^◌, max, Bool, true, false, cond, List, [], ◌∷◌, ◌++◌, map as each, length, reverse, refl, sym, ap, ◌∙◌, arith, length-append}
use Rattle.std.specs.Prelude.{⊤, zip, flat_map, leb, Option}
use Rattle.std.proofs.lemmas.List.{append-nil, length-map, length-reverse}
use Rattle.calculus.specs.Tree.{Label, par, row, var, name_var, list, tuple, set, dict, pair, send, receive, bind, new, match, case, bundle, unary, binary, method, pattern, rest, some_process, some_name, same, both, either, not_this, list_pattern, set_pattern, map_pattern, fresh, Tree, node, Trees, none, also, trees}
use Rattle.calculus.specs.declared.plain.TermRest.TheVariants as rests
use Rattle.calculus.specs.declared.plain.Origin.{Origin}
use Rattle.calculus.specs.declared.plain.Origin.TheVariants as origins
use Rattle.calculus.specs.declared.plain.Kind.{Kind}
use Rattle.calculus.specs.Kinds.{origin_number}
use Rattle.calculus.specs.Bytes.{be32, joined}
use Rattle.calculus.specs.Shape.{count, held, listed, label_of, leaf, one, many}
use Rattle.calculus.specs.Variables.{Sense, a_process, a_name, bound, bound_all, binders}
use Rattle.calculus.specs.Code.{code, codes}
use Rattle.calculus.specs.Form.{Sort, term, part, a_bind, a_case, a_rest, pat, name_pat, pat_part, name_part, row_of, pair_of, all, these, pat_kids, Scope, HasVariable, outer, Fits, Hold}
use Rattle.calculus.specs.Normal.{placed_by, by_code, arranged_by}
use Rattle.calculus.specs.Bare.{Names, names, bare_in, bare_each, declared_origin}
use Rattle.calculus.specs.Printed.{variable_text, is_bare_name}
use Rattle.calculus.specs.Written.{Written, writtens}
use Rattle.calculus.proofs.Binding.{no_bound, bound-le}
use Rattle.calculus.proofs.Formed.{length-code}
use Rattle.calculus.proofs.FromFits.{formed, fine}
use Rattle.calculus.proofs.Tails.{IsFine}
use Rattle.grammar.specs.Values.{processes, patterns, par_of, quoted_of}
use Rattle.printed_spelling.specs.Spelled.{name_pattern, named, in_order_of, declared_names, written_as, all_written}
use Rattle.printed_spelling.specs.Ordered.{ordered, ordered_all}
use Rattle.printed_spelling.proofs.Numbered.{run, numbered, in_scope, found_at}
use Rattle.printed_spelling.proofs.Arranged.{arranged-each}
use Rattle.printed_spelling.proofs.Silent.{silent_term}
use Rattle.printed_spelling.proofs.TermNames.{names_of}

-- what a tree of this sort is by itself: a part is a process or a pattern of one part
abbrev pub stands : Sort → Tree → Tree
stands part t = one par t
stands pat_part t = one pattern t
stands name_part t = one pattern t
stands _ t = t

-- the sorts that stand for themselves
abbrev pub Whole : Sort → Type 0
Whole part = ⊥
Whole pat_part = ⊥
Whole name_part = ⊥
Whole (row_of s) = Whole s
Whole (pair_of s) = Whole s
Whole _ = ⊤

abbrev EachWhole : List Sort → Type 0
EachWhole [] = ⊤
EachWhole (s ∷ ss) = Whole s × EachWhole ss

-- the sorts of trees: parts, and those that stand for themselves
abbrev pub Good : Sort → Type 0
Good part = ⊤
Good pat_part = ⊤
Good name_part = ⊤
Good s = Whole s

whole_good : (s : Sort) → Whole s → Good s
whole_good part w = absurd w
whole_good pat_part w = absurd w
whole_good name_part w = absurd w
whole_good _ w = w

whole_stands : (s : Sort) (t : Tree) → Whole s → stands s t ≡ t
whole_stands part t w = absurd w
whole_stands pat_part t w = absurd w
whole_stands name_part t w = absurd w
whole_stands _ t w = refl

all_whole : (s : Sort) (ts : List Tree) → Whole s → each (stands s) ts ≡ ts
all_whole s [] w = refl
all_whole s (t ∷ ts) w = rw (whole_stands s t w, all_whole s ts w)

-- the most variables that have names of their own
abbrev most : ℕ
most = 10 ^ 64

-- there are names for the variables in these, of which the last one stands under b more variables
abbrev pub Roomy : Trees → ℕ → ℕ → Type 0
Roomy none d b = ⊤
Roomy (also t none) d b = d + b + length (code t) ≤ most
Roomy (also t (also u us)) d b = (d + length (code t) ≤ most) × Roomy (also u us) d b

roomy : (ts : Trees) (d : ℕ) → d + length (joined (codes ts)) ≤ most → Roomy ts d 0
roomy none d h = tt
roomy (also t none) d h = omega (arith, h, length-append (code t) [])
roomy (also t (also u us)) d h =
    (omega (arith, h, length-append (code t) (joined (codes (also u us)))), roomy (also u us) d (omega (arith, h, length-append (code t) (joined (codes (also u us))))))

-- the bare forms of constituents that bind nothing
each_bare : (ws : List Written) (v : Names) → bare_each (writtens ws) v [] ≡ each (λ w. bare_in w v) ws
each_bare [] v = refl
each_bare (w ∷ []) v = refl
each_bare (w ∷ x ∷ ws) v = ap (λ ts. bare_in w v ∷ ts) (each_bare (x ∷ ws) v)

flat_parts : (l : Label) (ts : List Tree) → flat_map held (each (one l) ts) ≡ ts
flat_parts l [] = refl
flat_parts l (t ∷ ts) = ap (λ us. t ∷ us) (flat_parts l ts)

first_of : {A : Type 0} {x y : A} {xs ys : List A} → x ∷ xs ≡ y ∷ ys → x ≡ y
first_of e = cc

-- parts in parallel
bare_process : (ws : List Written) (ts : List Tree) (v : Names) → each (λ w. bare_in w v) ws ≡ each (one par) ts → bare_in (par_of processes ws) v ≡ many par ts
bare_process [] [] v e = refl
bare_process [] (t ∷ ts) v e = cc
bare_process (w ∷ []) [] v e = cc
bare_process (w ∷ []) (t ∷ []) v e = first_of e
bare_process (w ∷ []) (t ∷ u ∷ ts) v e = cc
bare_process (w ∷ x ∷ ws) ts v e = ap (λ us. many par (flat_map held us)) (each_bare (w ∷ x ∷ ws) v ∙ e) ∙ ap (many par) (flat_parts par ts)

bare_pattern : (ws : List Written) (ts : List Tree) (v : Names) → each (λ w. bare_in w v) ws ≡ each (one pattern) ts → bare_in (par_of patterns ws) v ≡ many pattern ts
bare_pattern [] [] v e = refl
bare_pattern [] (t ∷ ts) v e = cc
bare_pattern (w ∷ []) [] v e = cc
bare_pattern (w ∷ []) (t ∷ []) v e = first_of e
bare_pattern (w ∷ []) (t ∷ u ∷ ts) v e = cc
bare_pattern (w ∷ x ∷ ws) ts v e = ap (λ us. many pattern (flat_map held us)) (each_bare (w ∷ x ∷ ws) v ∙ e) ∙ ap (many pattern) (flat_parts pattern ts)

listed-trees : (ts : List Tree) → listed (trees ts) ≡ ts
listed-trees [] = refl
listed-trees (t ∷ ts) = ap (λ us. t ∷ us) (listed-trees ts)

again : (l : Label) (t : Tree) (ts : List Tree) → t ≡ many l ts → many l (held t ++ []) ≡ many l ts
again l t ts e = ap (λ u. many l (held u ++ [])) e ∙ ap (many l) (append-nil (listed (trees ts)) ∙ listed-trees ts)

bare_name_pattern : (hs : List Tree) (w : Written) (v : Names) (ts : List Tree) → bare_in w v ≡ many pattern ts → bare_in (name_pattern hs w) v ≡ many pattern ts
bare_name_pattern [] w v ts e = again pattern (bare_in w v) ts e
bare_name_pattern (t ∷ []) w v ts e =
    elim (is_bare_name (label_of t)) as (λ (b : Bool). bare_in (cond b w (quoted_of w)) v ≡ many pattern ts) [ true ↦ e | false ↦ again pattern (bare_in w v) ts e ]
bare_name_pattern (t ∷ u ∷ hs) w v ts e = again pattern (bare_in w v) ts e

-- constituents that are put in order
bare_arranged : (f : Tree → Tree) (ts : Trees) (ws : List Written) (v : Names) → each (λ w. bare_in w v) ws ≡ each f (ordered_all ts)
    → each (λ w. bare_in w v) (in_order_of ts ws) ≡ each f (arranged_by (zip (codes ts) (ordered_all ts)))
bare_arranged f ts ws v e =
    arranged-each (λ w. bare_in w v) (codes ts) ws ∙ ap (λ us. arranged_by (zip (codes ts) us)) e ∙ sym (arranged-each f (codes ts) (ordered_all ts))

has_lt : (v : Scope) (i : ℕ) (s : Sense) → HasVariable v i s → i < length v
has_lt [] i s h = absurd h
has_lt (w ∷ ws) zero s h = omega arith
has_lt (w ∷ ws) (suc i) s h = omega (arith, has_lt ws i s h)

-- the names that a `new` declares
each_name : (n : ℕ) (os : List Origin) → each (λ d. d.0) (declared_names n os) ≡ run n (length os)
each_name n [] = refl
each_name n (o ∷ os) = ap (λ xs. variable_text n ∷ xs) (each_name (suc n) os)

each_origin : (n : ℕ) (os : List Origin) → each (λ d. declared_origin d.1) (declared_names n os) ≡ os
each_origin n [] = refl
each_origin n (origins.Plain ∷ os) = ap (λ xs. origins.Plain ∷ xs) (each_origin (suc n) os)
each_origin n (origins.Stdout ∷ os) = ap (λ xs. origins.Stdout ∷ xs) (each_origin (suc n) os)
each_origin n (origins.StdoutAck ∷ os) = ap (λ xs. origins.StdoutAck ∷ xs) (each_origin (suc n) os)

-- no more variables
none_more : (d : ℕ) → numbered d ≡ numbered (d + 0)
none_more d = ap numbered (omega arith)

length-reversed : (os : List Sense) → length (reverse os) ≡ length os
length-reversed os = length-reverse os

inside : (l : Label) (ts : Trees) (d : ℕ) → d + length (code (node l ts)) ≤ most → d + length (joined (codes ts)) ≤ most
inside l ts d m = omega (arith, m, length-code l ts)

pair_room : (l : Label) (t u : Tree) (d : ℕ) → d + length (code (node l (also t (also u none)))) ≤ most → d + (length (code t) + length (code u)) ≤ most
pair_room l t u d m = omega (arith, m, length-code l (also t (also u none)), length-append (code t) (code u ++ []), length-append (code u) [])

-- a `new` has room for the names that it declares
new_room : (os : List Origin) (t : Tree) → length os + length (code t) ≤ length (code (node (new os) (also t none)))
new_room os t =
    omega (arith, length-code (new os) (also t none), length-append (code t) [], length-append (be32 (length os)) (each origin_number os), length-map os origin_number)

-- what these spell comes back, where they are of one sort
abbrev AllBack : Trees → Type 0
AllBack ts = (s : Sort) (v : Scope) (o : List Sense) (b d n : ℕ) → Good s → Hold (all s) v o ts → length v ≤ d → d ≤ n → d + length (joined (codes ts)) ≤ most
    → each (λ w. bare_in w (numbered d)) (all_written (all s) ts b d n) ≡ each (stands s) (ordered_all ts)

-- what these spell comes back, where they are of these sorts in turn
abbrev TheseBack : Trees → Type 0
TheseBack ts = (ss : List Sort) (v : Scope) (o : List Sense) (b d n : ℕ) (xs : List (List ℕ)) → EachWhole ss → Hold (these ss) v o ts → length v ≤ d → length o ≡ b → d ≤ n
    → xs ++ numbered d ≡ numbered (d + b) → Roomy ts d b → bare_each (writtens (all_written (these ss) ts b d n)) (numbered d) xs ≡ ordered_all ts

spelled_either : (b : Bool) (v : Scope) (ts : Trees) (d n : ℕ) → AllBack ts → Hold (cond b (all name_part) (all pat_part)) v [] ts → length v ≤ d → d ≤ n → d + length (joined (codes ts)) ≤ most
    → bare_in (par_of patterns (all_written (cond b (all name_part) (all pat_part)) ts 0 d n)) (numbered d) ≡ many pattern (ordered_all ts)
spelled_either true v ts d n x h j k m = bare_pattern (all_written (all name_part) ts 0 d n) (ordered_all ts) (numbered d) (x name_part v [] 0 d n tt h j k m)
spelled_either false v ts d n x h j k m = bare_pattern (all_written (all pat_part) ts 0 d n) (ordered_all ts) (numbered d) (x pat_part v [] 0 d n tt h j k m)

spelled_list : (s : Sort) (v : Scope) (ts : Trees) (d n : ℕ) → AllBack ts → Whole s → Hold (all s) v [] ts → length v ≤ d → d ≤ n → d + length (joined (codes ts)) ≤ most
    → bare_each (writtens (all_written (all s) ts 0 d n)) (numbered d) [] ≡ ordered_all ts
spelled_list s v ts d n x w h j k m =
    each_bare (all_written (all s) ts 0 d n) (numbered d) ∙ x s v [] 0 d n (whole_good s w) h j k m ∙ all_whole s (ordered_all ts) w

spelled_in_order : (s : Sort) (v : Scope) (ts : Trees) (d n : ℕ) → AllBack ts → Whole s → Hold (all s) v [] ts → length v ≤ d → d ≤ n → d + length (joined (codes ts)) ≤ most
    → bare_each (writtens (in_order_of ts (all_written (all s) ts 0 d n))) (numbered d) [] ≡ arranged_by (zip (codes ts) (ordered_all ts))
spelled_in_order s v ts d n x w h j k m =
    each_bare (in_order_of ts (all_written (all s) ts 0 d n)) (numbered d)
    ∙ bare_arranged (stands s) ts (all_written (all s) ts 0 d n) (numbered d) (x s v [] 0 d n (whole_good s w) h j k m)
    ∙ all_whole s (arranged_by (zip (codes ts) (ordered_all ts))) w

spelled_plain : (ss : List Sort) (v : Scope) (ts : Trees) (d n : ℕ) → TheseBack ts → EachWhole ss → Hold (these ss) v [] ts → length v ≤ d → d ≤ n → d + length (joined (codes ts)) ≤ most
    → bare_each (writtens (all_written (these ss) ts 0 d n)) (numbered d) [] ≡ ordered_all ts
spelled_plain ss v ts d n y w h j k m = y ss v [] 0 d n [] w h j refl k (none_more d) (roomy ts d m)

-- a name comes back where its process does
spelled_name : (v : Scope) (t : Tree) (d n : ℕ) → Fits term v t → bare_in (written_as term t d n) (numbered d) ≡ ordered t
    → bare_in (named (held t) (written_as term t d n)) (numbered d) ≡ ordered t
unfolding placed_by by_code
spelled_name v (node par none) d n h e = refl
spelled_name v (node par (also (node (name_var i) us) none)) d n h e = e
spelled_name v (node par (also (node (fresh x) us) none)) d n h e = e
spelled_name v (node par (also (node l us) none)) d n h e = again par _ (ordered (node l us) ∷ []) e
spelled_name v (node par (also t (also u us))) d n h e = again par _ _ e
spelled_name v (node _ ts) d n h e = absurd h.1

rest_of : {A : Type 0} {x y : A} {xs ys : List A} → x ∷ xs ≡ y ∷ ys → xs ≡ ys
rest_of e = cc

-- the first constituent as a name
with_name : (v : Scope) (t : Tree) (d n : ℕ) (us vs : List Tree) → Fits term v t → bare_in (written_as term t d n) (numbered d) ∷ us ≡ ordered t ∷ vs
    → bare_in (named (held t) (written_as term t d n)) (numbered d) ∷ us ≡ ordered t ∷ vs
with_name v t d n us vs h e = ap (λ x. x ∷ us) (spelled_name v t d n h (first_of e)) ∙ ap (λ xs. ordered t ∷ xs) (rest_of e)

spelled_send : (q : Bool) (v : Scope) (ts : Trees) (d n : ℕ) → TheseBack ts → Hold (these (term ∷ row_of term ∷ [])) v [] ts → length v ≤ d → d ≤ n → d + length (code (node (send q) ts)) ≤ most
    → bare_in (written_as part (node (send q) ts) d n) (numbered d) ≡ one par (ordered (node (send q) ts))
spelled_send q v (also c (also r none)) d n y h j k m =
    ap (λ us. one par (many (send q) us))
    (with_name v c d n _ _ h.0 (spelled_plain (term ∷ row_of term ∷ []) v (also c (also r none)) d n y (tt, (tt, tt)) h j k (inside (send q) (also c (also r none)) d m)))
spelled_send q v none d n y h j k m = absurd h
spelled_send q v (also c none) d n y h j k m = absurd h.1
spelled_send q v (also c (also r (also u us))) d n y h j k m = absurd h.1.1

spelled_bind : (v : Scope) (ts : Trees) (d n : ℕ) → TheseBack ts → Hold (these (term ∷ row_of name_pat ∷ a_rest ∷ [])) v [] ts → length v ≤ d → d ≤ n → d + length (code (node bind ts)) ≤ most
    → bare_in (written_as a_bind (node bind ts) d n) (numbered d) ≡ ordered (node bind ts)
spelled_bind v (also c (also r (also q none))) d n y h j k m =
    ap (many bind)
    (with_name v c d n _ _ h.0 (spelled_plain (term ∷ row_of name_pat ∷ a_rest ∷ []) v (also c (also r (also q none))) d n y (tt, (tt, (tt, tt))) h j k (inside bind (also c (also r (also q none))) d m)))
spelled_bind v none d n y h j k m = absurd h
spelled_bind v (also c none) d n y h j k m = absurd h.1
spelled_bind v (also c (also r none)) d n y h j k m = absurd h.1.1
spelled_bind v (also c (also r (also q (also u us)))) d n y h j k m = absurd h.1.1.1

spelled_receive : (q : Kind) (v : Scope) (ts : Trees) (d n : ℕ) → TheseBack ts → Hold (these (row_of a_bind ∷ term ∷ [])) v (reverse (bound_all ts)) ts → length v ≤ d → d + length (code (node (receive q) ts)) ≤ most
    → bare_in (written_as part (node (receive q) ts) d n) (numbered d) ≡ one par (ordered (node (receive q) ts))
spelled_receive q v (also p (also b none)) d n g h j m =
    let ts = also p (also b none) in
    let z = d + length (bound_all ts) in
    let x = names (written_as (row_of a_bind) p d d) in
    let e : bound b ≡ [] = no_bound IsFine term b tt (formed IsFine fine term (reverse (bound_all ts) ++ v) b h.1.0) in
    let f : length (bound_all ts) ≡ length (bound p) = omega (arith, length-append (bound p) (bound b ++ []), ap length e, length-append (bound b) []) in
    let y : x ++ (names (written_as term b z (max z (d + length (bound p)))) ++ []) ≡ run d (length (bound_all ts)) =
    ap (λ w. x ++ (w ++ [])) (silent_term b z (max z (d + length (bound p)))) ∙ append-nil x ∙ names_of p (row_of a_bind) v d d tt h.0 (omega arith) ∙ ap (run d) (sym f) in
    ap (λ us. one par (many (receive q) us))
    (g (row_of a_bind ∷ term ∷ []) v (reverse (bound_all ts)) (length (bound_all ts)) d d (reverse (x ++ (names (written_as term b z (max z (d + length (bound p)))) ++ []))) (tt, (tt, tt)) h j (length-reversed (bound_all ts)) (omega arith)
    (ap (λ w. reverse w ++ numbered d) y ∙ in_scope d (length (bound_all ts)))
    (omega (arith, pair_room (receive q) p b d m), omega (arith, f, bound-le p, pair_room (receive q) p b d m)))
spelled_receive q v none d n g h j m = absurd h
spelled_receive q v (also p none) d n g h j m = absurd h.1
spelled_receive q v (also p (also b (also u us))) d n g h j m = absurd h.1.1

spelled_case : (v : Scope) (ts : Trees) (d n : ℕ) → TheseBack ts → Hold (these (pat ∷ term ∷ [])) v (reverse (bound_all ts)) ts → length v ≤ d → d + length (code (node case ts)) ≤ most
    → bare_in (written_as a_case (node case ts) d n) (numbered d) ≡ ordered (node case ts)
spelled_case v (also p (also b none)) d n g h j m =
    let ts = also p (also b none) in
    let z = d + length (bound_all ts) in
    let x = names (written_as pat p d d) in
    let e : bound b ≡ [] = no_bound IsFine term b tt (formed IsFine fine term (reverse (bound_all ts) ++ v) b h.1.0) in
    let f : length (bound_all ts) ≡ length (bound p) = omega (arith, length-append (bound p) (bound b ++ []), ap length e, length-append (bound b) []) in
    let y : x ++ (names (written_as term b z (max z (d + length (bound p)))) ++ []) ≡ run d (length (bound_all ts)) =
    ap (λ w. x ++ (w ++ [])) (silent_term b z (max z (d + length (bound p)))) ∙ append-nil x ∙ names_of p pat v d d tt h.0 (omega arith) ∙ ap (run d) (sym f) in
    ap (many case) (g (pat ∷ term ∷ []) v (reverse (bound_all ts)) (length (bound_all ts)) d d (reverse (x ++ (names (written_as term b z (max z (d + length (bound p)))) ++ []))) (tt, (tt, tt)) h j (length-reversed (bound_all ts)) (omega arith)
    (ap (λ w. reverse w ++ numbered d) y ∙ in_scope d (length (bound_all ts)))
    (omega (arith, pair_room case p b d m), omega (arith, f, bound-le p, pair_room case p b d m)))
spelled_case v none d n g h j m = absurd h
spelled_case v (also p none) d n g h j m = absurd h.1
spelled_case v (also p (also b (also u us))) d n g h j m = absurd h.1.1

spelled_new : (os : List Origin) (v : Scope) (ts : Trees) (d n : ℕ) → TheseBack ts → Hold (these (term ∷ [])) v (reverse (each (λ o. a_name) os)) ts → length v ≤ d → d + length (code (node (new os) ts)) ≤ most
    → bare_in (written_as part (node (new os) ts) d n) (numbered d) ≡ one par (ordered (node (new os) ts))
spelled_new os v (also b none) d n g h j m =
    let o = each (λ (x : Origin). a_name) os in
    let e : length o ≡ length os = length-map os (λ (x : Origin). a_name) in
    let bs = bare_each (writtens (all_written (these (term ∷ [])) (also b none) (length o) d d)) (numbered d) (reverse (each (λ (p : List ℕ × Option (List ℕ)). p.0) (declared_names d os))) in
    ap (λ (ps : List Origin). one par (many (new ps) bs)) (each_origin d os)
    ∙ ap (λ us. one par (many (new os) us))
    (g (term ∷ []) v (reverse o) (length o) d d (reverse (each (λ (p : List ℕ × Option (List ℕ)). p.0) (declared_names d os))) (tt, tt) h j (length-reversed o) (omega arith)
    (ap (λ w. reverse w ++ numbered d) (each_name d os ∙ ap (run d) (sym e)) ∙ in_scope d (length o))
    (omega (arith, m, e, new_room os b)))
spelled_new os v none d n g h j m = absurd h
spelled_new os v (also b (also u us)) d n g h j m = absurd h.1

spelled_match : (v : Scope) (ts : Trees) (d n : ℕ) → TheseBack ts → Hold (these (term ∷ row_of a_case ∷ [])) v [] ts → length v ≤ d → d + length (code (node match ts)) ≤ most
    → bare_in (written_as part (node match ts) d n) (numbered d) ≡ one par (ordered (node match ts))
spelled_match v ts d n y h j m = ap (λ us. one par (many match us)) (spelled_plain (term ∷ row_of a_case ∷ []) v ts d d y (tt, (tt, tt)) h j (omega arith) (inside match ts d m))

spelled_part : (l : Label) (v : Scope) (ts : Trees) (d n : ℕ) → AllBack ts → TheseBack ts → Fits part v (node l ts) → length v ≤ d → d ≤ n → d + length (code (node l ts)) ≤ most
    → bare_in (written_as part (node l ts) d n) (numbered d) ≡ one par (ordered (node l ts))
spelled_part (var i) v none d n x y h j k m = ap (λ e. one par (leaf (var e))) (found_at d i (omega (arith, j, has_lt v i a_process h.0)) (omega (arith, m)))
spelled_part (name_var i) v none d n x y h j k m = ap (λ e. one par (leaf (name_var e))) (found_at d i (omega (arith, j, has_lt v i a_name h.0)) (omega (arith, m)))
spelled_part list v ts d n x y h j k m = ap (λ us. one par (many list us)) (spelled_list term v ts d n x tt h.1 j k (inside list ts d m))
spelled_part tuple v ts d n x y h j k m = ap (λ us. one par (many tuple us)) (spelled_list term v ts d n x tt h.1 j k (inside tuple ts d m))
spelled_part set v ts d n x y h j k m = ap (λ us. one par (many set us)) (spelled_in_order term v ts d n x tt h.1 j k (inside set ts d m))
spelled_part dict v ts d n x y h j k m = ap (λ us. one par (many dict us)) (spelled_in_order (pair_of term) v ts d n x tt h.1 j k (inside dict ts d m))
spelled_part (send q) v ts d n x y h j k m = spelled_send q v ts d n y h.1 j k m
spelled_part (receive q) v ts d n x y h j k m = spelled_receive q v ts d n y h.1 j m
spelled_part (new os) v ts d n x y h j k m = spelled_new os v ts d n y h.1 j m
spelled_part match v ts d n x y h j k m = spelled_match v ts d n y h.1 j m
spelled_part (bundle r) v ts d n x y h j k m = ap (λ us. one par (many (bundle r) us)) (spelled_plain (term ∷ []) v ts d n y (tt, tt) h.1 j k (inside (bundle r) ts d m))
spelled_part (unary o) v ts d n x y h j k m = ap (λ us. one par (many (unary o) us)) (spelled_plain (term ∷ []) v ts d n y (tt, tt) h.1 j k (inside (unary o) ts d m))
spelled_part (binary o) v ts d n x y h j k m = ap (λ us. one par (many (binary o) us)) (spelled_plain (term ∷ term ∷ []) v ts d n y (tt, (tt, tt)) h.1 j k (inside (binary o) ts d m))
spelled_part (method e) v ts d n x y h j k m = ap (λ us. one par (many (method e) us)) (spelled_plain (term ∷ row_of term ∷ []) v ts d n y (tt, (tt, tt)) h.1 j k (inside (method e) ts d m))
spelled_part par v ts d n x y h j k m = absurd h.1
spelled_part some_process v ts d n x y h j k m = absurd h.1
spelled_part some_name v ts d n x y h j k m = absurd h.1
spelled_part l v none d n x y h j k m = refl
spelled_part l v (also t ts) d n x y h j k m = absurd h.1

spelled_pattern : (l : Label) (v : Scope) (ts : Trees) (d n : ℕ) → AllBack ts → TheseBack ts → Hold (pat_kids l) (outer pat_part l v) (reverse (binders l ts)) ts → length v ≤ d → d ≤ n → d + length (code (node l ts)) ≤ most
    → bare_in (written_as pat_part (node l ts) d n) (numbered d) ≡ one pattern (ordered (node l ts))
spelled_pattern same v ts d n x y h j k m = ap (λ us. one pattern (many same us)) (spelled_plain (term ∷ []) v ts d d y (tt, tt) h j (omega arith) (inside same ts d m))
spelled_pattern both v ts d n x y h j k m = ap (λ us. one pattern (many both us)) (spelled_plain (pat ∷ pat ∷ []) v ts d n y (tt, (tt, tt)) h j k (inside both ts d m))
spelled_pattern either v ts d n x y h j k m = ap (λ us. one pattern (many either us)) (spelled_plain (pat ∷ pat ∷ []) v ts d n y (tt, (tt, tt)) h j k (inside either ts d m))
spelled_pattern not_this v ts d n x y h j k m = ap (λ us. one pattern (many not_this us)) (spelled_plain (pat ∷ []) v ts d n y (tt, tt) h j k (inside not_this ts d m))
spelled_pattern (bundle r) v ts d n x y h j k m = ap (λ us. one pattern (many (bundle r) us)) (spelled_plain (pat ∷ []) v ts d n y (tt, tt) h j k (inside (bundle r) ts d m))
spelled_pattern (send q) v ts d n x y h j k m = ap (λ us. one pattern (many (send q) us)) (spelled_plain (name_pat ∷ row_of pat ∷ []) v ts d n y (tt, (tt, tt)) h j k (inside (send q) ts d m))
spelled_pattern list_pattern v ts d n x y h j k m = ap (λ us. one pattern (many list_pattern us)) (spelled_plain (row_of pat ∷ a_rest ∷ []) v ts d n y (tt, (tt, tt)) h j k (inside list_pattern ts d m))
spelled_pattern set_pattern v ts d n x y h j k m = ap (λ us. one pattern (many set_pattern us)) (spelled_plain (row_of pat ∷ a_rest ∷ []) v ts d n y (tt, (tt, tt)) h j k (inside set_pattern ts d m))
spelled_pattern map_pattern v ts d n x y h j k m = ap (λ us. one pattern (many map_pattern us)) (spelled_plain (row_of (pair_of pat) ∷ a_rest ∷ []) v ts d n y (tt, (tt, tt)) h j k (inside map_pattern ts d m))
spelled_pattern tuple v ts d n x y h j k m = ap (λ us. one pattern (many tuple us)) (spelled_list pat v ts d n x tt h j k (inside tuple ts d m))
spelled_pattern (receive q) v ts d n x y h j k m = ap (λ t. many pattern (held t ++ [])) (spelled_receive q [] ts d n y h (omega arith) m)
spelled_pattern (new os) v ts d n x y h j k m = ap (λ t. many pattern (held t ++ [])) (spelled_new os [] ts d n y h (omega arith) m)
spelled_pattern match v ts d n x y h j k m = ap (λ t. many pattern (held t ++ [])) (spelled_match [] ts d n y h (omega arith) m)
spelled_pattern par v ts d n x y h j k m = absurd h
spelled_pattern set v ts d n x y h j k m = absurd h
spelled_pattern dict v ts d n x y h j k m = absurd h
spelled_pattern pattern v ts d n x y h j k m = absurd h
spelled_pattern (fresh e) v ts d n x y h j k m = absurd h
spelled_pattern (var i) v ts d n x y h j k m = absurd h
spelled_pattern (name_var i) v ts d n x y h j k m = absurd h
spelled_pattern some_name v ts d n x y h j k m = absurd h
spelled_pattern l v none d n x y h j k m = refl
spelled_pattern l v (also t ts) d n x y h j k m = absurd h

cons_same : {A : Type 0} {x y : A} {xs ys : List A} → x ≡ y → xs ≡ ys → x ∷ xs ≡ y ∷ ys
cons_same e f = cc

mutual
  -- what is spelt comes back
  pub spelled : (t : Tree) (s : Sort) (v : Scope) (d n : ℕ) → Good s → Fits s v t → length v ≤ d → d ≤ n → d + length (code t) ≤ most
      → bare_in (written_as s t d n) (numbered d) ≡ stands s (ordered t)
  spelled (node par ts) term v d n g h j k m =
      bare_process (in_order_of ts (all_written (all part) ts 0 d n)) (arranged_by (zip (codes ts) (ordered_all ts))) (numbered d)
      (bare_arranged (one par) ts (all_written (all part) ts 0 d n) (numbered d) (spelled_all ts part v [] 0 d n tt h.1 j k (inside par ts d m)))
  spelled (node _ ts) term v d n g h j k m = absurd h.1
  spelled (node pattern ts) pat v d n g h j k m =
      bare_pattern (all_written (all pat_part) ts 0 d n) (ordered_all ts) (numbered d) (spelled_all ts pat_part v [] 0 d n tt h.1 j k (inside pattern ts d m))
  spelled (node _ ts) pat v d n g h j k m = absurd h.1
  spelled (node pattern ts) name_pat v d n g h j k m =
      bare_name_pattern (listed ts) (par_of patterns (all_written (cond (leb (count ts) 1) (all name_part) (all pat_part)) ts 0 d n)) (numbered d) (ordered_all ts) (spelled_either (leb (count ts) 1) v ts d n (spelled_all ts) h.1 j k (inside pattern ts d m))
  spelled (node _ ts) name_pat v d n g h j k m = absurd h.1
  spelled (node row ts) (row_of s) v d n g h j k m = ap (many row) (spelled_list s v ts d n (spelled_all ts) g h.1 j k (inside row ts d m))
  spelled (node _ ts) (row_of s) v d n g h j k m = absurd h.1
  spelled (node pair ts) (pair_of s) v d n g h j k m = ap (many pair) (spelled_plain (s ∷ s ∷ []) v ts d n (spelled_these ts) (g, (g, tt)) h.1 j k (inside pair ts d m))
  spelled (node _ ts) (pair_of s) v d n g h j k m = absurd h.1
  spelled (node (rest rests.No) none) a_rest v d n g h j k m = refl
  spelled (node (rest rests.Wild) none) a_rest v d n g h j k m = refl
  spelled (node (rest rests.Var) none) a_rest v d n g h j k m = refl
  spelled (node (rest r) (also t ts)) a_rest v d n g h j k m = absurd h.1
  spelled (node _ ts) a_rest v d n g h j k m = absurd h.1
  spelled (node bind ts) a_bind v d n g h j k m = spelled_bind v ts d n (spelled_these ts) h.1 j k m
  spelled (node _ ts) a_bind v d n g h j k m = absurd h.1
  spelled (node case ts) a_case v d n g h j k m = spelled_case v ts d n (spelled_these ts) h.1 j m
  spelled (node _ ts) a_case v d n g h j k m = absurd h.1
  spelled (node l ts) part v d n g h j k m = spelled_part l v ts d n (spelled_all ts) (spelled_these ts) h j k m
  spelled (node l ts) pat_part v d n g h j k m = spelled_pattern l v ts d n (spelled_all ts) (spelled_these ts) h.1 j k m
  spelled (node some_name none) name_part v d n g h j k m = refl
  spelled (node some_name (also t ts)) name_part v d n g h j k m = absurd h.1
  spelled (node l ts) name_part v d n g h j k m = spelled_pattern l v ts d n (spelled_all ts) (spelled_these ts) h.1 j k m

  spelled_all : (ts : Trees) (s : Sort) (v : Scope) (o : List Sense) (b d n : ℕ) → Good s → Hold (all s) v o ts → length v ≤ d → d ≤ n → d + length (joined (codes ts)) ≤ most
      → each (λ w. bare_in w (numbered d)) (all_written (all s) ts b d n) ≡ each (stands s) (ordered_all ts)
  spelled_all none s v o b d n g h j k m = refl
  spelled_all (also t ts) s v o b d n g h j k m =
      let r = length-append (code t) (joined (codes ts)) in
      rw (spelled t s v d n g h.0 j k (omega (arith, m, r)), spelled_all ts s v o b d (n + length (bound t)) g h.1 j (omega arith) (omega (arith, m, r)))

  spelled_these : (ts : Trees) (ss : List Sort) (v : Scope) (o : List Sense) (b d n : ℕ) (xs : List (List ℕ)) → EachWhole ss → Hold (these ss) v o ts → length v ≤ d → length o ≡ b → d ≤ n
      → xs ++ numbered d ≡ numbered (d + b) → Roomy ts d b → bare_each (writtens (all_written (these ss) ts b d n)) (numbered d) xs ≡ ordered_all ts
  spelled_these none [] v o b d n xs w h j p k e r = refl
  spelled_these (also t ts) [] v o b d n xs w h j p k e r = absurd h
  spelled_these none (s ∷ ss) v o b d n xs w h j p k e r = absurd h
  spelled_these (also t none) (s ∷ ss) v o b d n xs w h j p k e r =
      ap (λ u. bare_in (written_as s t (d + b) (max (d + b) n)) u ∷ []) e
      ∙ ap (λ u. u ∷ []) (spelled t s (o ++ v) (d + b) (max (d + b) n) (whole_good s w.0) h.0 (omega (arith, length-append o v, p, j)) (omega arith) r ∙ whole_stands s (ordered t) w.0)
  spelled_these (also t (also u us)) (s ∷ []) v o b d n xs w h j p k e r = absurd h.1
  spelled_these (also t (also u none)) (s ∷ z ∷ ss) v o b d n xs w h j p k e r =
      cons_same (spelled t s v d n (whole_good s w.0) h.0 j k r.0 ∙ whole_stands s (ordered t) w.0)
      (spelled_these (also u none) (z ∷ ss) v o b d (n + length (bound t)) xs w.1 h.1 j p (omega arith) e r.1)
  spelled_these (also t (also u (also x us))) (s ∷ z ∷ ss) v o b d n xs w h j p k e r =
      cons_same (spelled t s v d n (whole_good s w.0) h.0 j k r.0 ∙ whole_stands s (ordered t) w.0)
      (spelled_these (also u (also x us)) (z ∷ ss) v o b d (n + length (bound t)) xs w.1 h.1 j p (omega arith) e r.1)
