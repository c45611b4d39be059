-- Forms of patterns that have been written.
use Rattle.std.proofs.Common.{◌≡◌, ℕ, ◌+◌, ◌≤◌, max, Bool, true, false, cond, eqb, leb, List, [], ◌∷◌, ◌++◌, length, map as each, refl, sym, ap, ◌∙◌, subst, arith, append_assoc, append-nil, length-append, codes}
use Rattle.calculus.specs.declared.plain.Rights.{Rights}
use Rattle.calculus.specs.declared.plain.TermRest.{TermRest}
use Rattle.calculus.specs.declared.plain.TermRest.TheVariants as rests
use Rattle.calculus.specs.Tree.{Label, some_name, row, tuple, send, bundle, rest, same, both, either, not_this, pattern, list_pattern, set_pattern, map_pattern, Tree, node, Trees, none, also, trees}
use Rattle.calculus.specs.Shape.{leaf, one, two, many, held, count, listed}
use Rattle.calculus.specs.Variables.{Sense, bound, bound_all}
use Rattle.calculus.specs.Form.{Sort, term, a_rest, pat, name_pat, pat_part, name_part, row_of, pair_of, all, pat_kids, name_kids}
use Rattle.calculus.specs.Printed.{Printed, marks, operand_text, name_pattern_text, braced, block, tuple_text, with_commas, with_rest, separated, parallel_text, rights_text, rest_text, variable_text}
use Rattle.calculus.proofs.Formed.{Formed, Holds}
use Rattle.calculus.proofs.Tails.{IsFine}
use Rattle.rho_term.specs.Parts.{pat_part_tree, pat_tree, pair_tree}
use Rattle.rho_term.specs.declared.term.PatPart.{PatPart}
use Rattle.calculus.specs.Printed.{printed}
use Rattle.printed_leaves.specs.Words.{remainder}
use Rattle.printed_leaves.specs.Texts.{text_of, texts_of, members_text, left_text, joined_text, AddsTo, GoesOn, Writes, WritesFrom, WritesPattern, WritesPart, WritesJoined, WritesListed}
use Rattle.printed_leaves.proofs.Lists.{before_some}
use Rattle.printed_leaves.proofs.Rows.{nothing_more, row_printed, single_pat, single_pair, each_first, first_either, listed-trees, trees-listed}
use Rattle.printed_leaves.proofs.Forms.{after, shown, tuple_written, length-texts, none_or_some, braced_unless}

as_name : (l : Label) (ts : Trees) → Holds IsFine (pat_kids l) ts → Holds IsFine (name_kids l) ts
as_name some_name ts h = absurd h
as_name _ ts h = h

as_names : (ts : Trees) → Holds IsFine (all pat_part) ts → Holds IsFine (all name_part) ts
as_names none h = tt
as_names (also (node l us) ts) h = ((h.0.0, as_name l us h.0.1), as_names ts h.1)

-- a pattern of processes may be one of names
pub pat_formed : (t : Tree) → Formed IsFine pat t → Formed IsFine name_pat t
pat_formed (node pattern ts) h = (h.0, as_names ts h.1)
pat_formed (node _ ts) h = absurd h.1

-- the text of a pattern: its parts
pattern_text : (ps : List PatPart) (d n : ℕ) → text_of pat (pat_tree ps) d n ≡ cond (eqb (length ps) 0) (codes "Nil") [] ++ separated (codes " | ") (texts_of pat_part (each pat_part_tree ps) d n)
pattern_text [] d n = refl
pattern_text (q ∷ qs) d n =
    ap parallel_text (each_first pat_part (each pat_part_tree (q ∷ qs)) 0 d n)
    ∙ sym (ap (λ (x : List ℕ). x ++ separated (codes " | ") (texts_of pat_part (each pat_part_tree (q ∷ qs)) d n)) (none_or_some (length qs) (codes "Nil")))

pattern_parts : (ps : List PatPart) (t : Tree) → t ≡ pat_tree ps → Formed IsFine name_pat t → Holds IsFine (all name_part) (trees (each pat_part_tree ps))
pattern_parts ps t e h = (subst (λ (u : Tree). Formed IsFine name_pat u) e h).1

pub pattern-writes : (ps : List PatPart) (t : Tree) (d n m : ℕ) (old x new : List ℕ) → t ≡ pat_tree ps → x ≡ old ++ cond (eqb (length ps) 0) (codes "Nil") []
    → GoesOn (Holds IsFine (all name_part) (trees (each pat_part_tree ps))) d n (separated (codes " | ") (texts_of pat_part (each pat_part_tree ps) d n)) (length (bound_all (trees (each pat_part_tree ps)))) m x new
    → WritesPattern (λ x. x) t d n m old new
pattern-writes ps t d n m old x new e p w l h =
    let k = w l (pattern_parts ps t e h) in (
      shown old (ap (λ (u : Tree). text_of pat u d n) e ∙ pattern_text ps d n) (after old (cond (eqb (length ps) 0) (codes "Nil") []) (separated (codes " | ") (texts_of pat_part (each pat_part_tree ps) d n)) p k.0),
      k.1 ∙ ap (λ (u : Tree). n + length (bound u)) (sym e),
    )

-- the text of a name pattern
named_parts : (ts : List Tree) (d n : ℕ) → text_of name_pat (many pattern ts) d n ≡ name_pattern_text ts (text_of pat (many pattern ts) d n)
named_parts ts d n =
    ap (λ (xs : List (List ℕ)). name_pattern_text (listed (trees ts)) (parallel_text xs)) (first_either (leb (count (trees ts)) 1) ts 0 d n)
    ∙ ap (λ (us : List Tree). name_pattern_text us (parallel_text (texts_of pat_part ts d n))) (listed-trees ts)
    ∙ ap (λ (xs : List (List ℕ)). name_pattern_text ts (parallel_text xs)) (sym (each_first pat_part ts 0 d n))

pub name_pattern-text : (t : Tree) (d n : ℕ) → Formed IsFine name_pat t → text_of name_pat t d n ≡ name_pattern_text (held t) (text_of pat t d n)
name_pattern-text (node pattern ts) d n h =
    let us = listed ts in
    let e : trees us ≡ ts = trees-listed ts in
    subst (λ (vs : Trees). text_of name_pat (node pattern vs) d n ≡ name_pattern_text (listed vs) (text_of pat (node pattern vs) d n)) e
    (named_parts us d n ∙ ap (λ (ws : List Tree). name_pattern_text ws (text_of pat (many pattern us) d n)) (sym (listed-trees us)))
name_pattern-text (node _ ts) d n h = absurd h.1

-- a name pattern that stands by itself, and one behind its sign
pub name_pattern-bare : (b : Bool) (t : Tree) (d n m : ℕ) (old new : List ℕ) → ((x : List ℕ) → name_pattern_text (held t) x ≡ cond b x (codes "@" ++ operand_text (held t) x)) → b ≡ true
    → WritesPattern (λ x. x) t d n m old new → WritesFrom name_pat t d n m old new
name_pattern-bare b t d n m old new e z w l h =
    let x = text_of pat t d n in
    let k = w l h in
    (shown old (name_pattern-text t d n h ∙ e x ∙ ap (λ (c : Bool). cond c x (codes "@" ++ operand_text (held t) x)) z) k.0, k.1)

pub name_pattern-quoted : (b : Bool) (t : Tree) (d n m : ℕ) (old mid new : List ℕ) → ((x : List ℕ) → name_pattern_text (held t) x ≡ cond b x (codes "@" ++ operand_text (held t) x)) → b ≡ false
    → mid ≡ old ++ codes "@" → WritesPattern (operand_text (held t)) t d n m mid new → WritesFrom name_pat t d n m old new
name_pattern-quoted b t d n m old mid new e z p w l h =
    let x = text_of pat t d n in
    let k = w l h in
    (shown old (name_pattern-text t d n h ∙ e x ∙ ap (λ (c : Bool). cond c x (codes "@" ++ operand_text (held t) x)) z) (after old (codes "@") (operand_text (held t) x) p k.0), k.1)

pub pattern_operand-writes : (b : Bool) (t : Tree) (d n m : ℕ) (old x y new : List ℕ) → ((z : List ℕ) → operand_text (held t) z ≡ cond b z (braced z)) → x ≡ old ++ cond b [] (codes "{")
    → WritesPattern (λ z. z) t d n m x y → new ≡ y ++ cond b [] (codes "}") → WritesPattern (operand_text (held t)) t d n m old new
pattern_operand-writes b t d n m old x y new e p w r l h =
    let k = w l h in
    (shown old (e (text_of pat t d n)) (braced_unless b (text_of pat t d n) old x y new p k.0 r), k.1)

-- a last constituent in a pattern goes on with the number after those before it
goes_on-number : (d n k : ℕ) → d ≤ n → max (d + 0) (n + k) ≡ n + k
goes_on-number d n k h = omega arith

first-number : (d n : ℕ) → d ≤ n → max (d + 0) n ≡ n
first-number d n h = omega arith

-- the same tree at equal numbers
at_numbers : (s : Sort) (t : Tree) (d e n m : ℕ) → e ≡ d → m ≡ n → text_of s t e m ≡ text_of s t d n
at_numbers s t d e n m p q = ap (λ (k : ℕ). text_of s t k m) p ∙ ap (λ (k : ℕ). text_of s t d k) q

joined-text : (t u : Tree) (sign : List ℕ) (d n : ℕ) → d ≤ n
    → codes "(" ++ (operand_text (held t) (text_of pat t d n) ++ (sign ++ (operand_text (held u) (text_of pat u (d + 0) (max (d + 0) (n + length (bound t)))) ++ codes ")"))) ≡ joined_text t sign u d n
joined-text t u sign d n h =
    ap (λ (x : List ℕ). codes "(" ++ (operand_text (held t) (text_of pat t d n) ++ (sign ++ (operand_text (held u) x ++ codes ")"))))
    (at_numbers pat u d (d + 0) (n + length (bound t)) (max (d + 0) (n + length (bound t))) (nothing_more d) (goes_on-number d n (length (bound t)) h))

both-text : (t u : Tree) (d n : ℕ) → d ≤ n → text_of pat_part (two both t u) d n ≡ joined_text t (0x20 ∷ 0x2F ∷ 0x5C ∷ 0x20 ∷ []) u d n
both-text t u d n h = joined-text t u (0x20 ∷ 0x2F ∷ 0x5C ∷ 0x20 ∷ []) d n h

either-text : (t u : Tree) (d n : ℕ) → d ≤ n → text_of pat_part (two either t u) d n ≡ joined_text t (0x20 ∷ 0x5C ∷ 0x2F ∷ 0x20 ∷ []) u d n
either-text t u d n h = joined-text t u (0x20 ∷ 0x5C ∷ 0x2F ∷ 0x20 ∷ []) d n h

-- two constituents bind what each of them binds
two-bound : (vs ws : List Sense) → length (vs ++ (ws ++ [])) ≡ length vs + length ws
two-bound vs ws = omega (arith, length-append vs (ws ++ []), length-append ws [])

one-bound : (vs : List Sense) → length (vs ++ []) ≡ length vs
one-bound vs = omega (arith, length-append vs [])

-- two patterns with a sign between them
pub joined-writes : (t u : Tree) (sign : List ℕ) (d n k m : ℕ) (old x y z v new : List ℕ) → x ≡ old ++ codes "(" → WritesPattern (operand_text (held t)) t d n k x y → z ≡ y ++ sign
    → WritesPattern (operand_text (held u)) u d k m z v → new ≡ v ++ codes ")" → WritesJoined t sign u d n m old new
joined-writes t u sign d n k m old x y z v new p w q r s l h =
    let a = w l (pat_formed t h.0) in
    let above : d ≤ k = omega (arith, l, a.1) in
    let b = r above (pat_formed u h.1) in
    let left = operand_text (held t) (text_of pat t d n) in
    let right : ℕ → List ℕ = λ i. operand_text (held u) (text_of pat u d i) in (
      shown old (ap (λ (i : ℕ). codes "(" ++ (left ++ (sign ++ (right i ++ codes ")")))) (sym a.1))
          (after old (codes "(") (left ++ (sign ++ (right k ++ codes ")"))) p (after x left (sign ++ (right k ++ codes ")")) a.0 (after y sign (right k ++ codes ")") q (after z (right k) (codes ")") b.0 s)))),
      omega (arith, a.1, b.1),
    )

pub both-writes : (t u : Tree) (d n m : ℕ) (old new : List ℕ) → WritesJoined t (0x20 ∷ 0x2F ∷ 0x5C ∷ 0x20 ∷ []) u d n m old new → WritesPart (two both t u) d n m old new
both-writes t u d n m old new w l h =
    let k = w l (h.1.0, h.1.1.0) in
    (shown old (both-text t u d n l) k.0, omega (arith, k.1, two-bound (bound t) (bound u)))

pub either-writes : (t u : Tree) (d n m : ℕ) (old new : List ℕ) → WritesJoined t (0x20 ∷ 0x5C ∷ 0x2F ∷ 0x20 ∷ []) u d n m old new → WritesPart (two either t u) d n m old new
either-writes t u d n m old new w l h =
    let k = w l (h.1.0, h.1.1.0) in
    (shown old (either-text t u d n l) k.0, omega (arith, k.1, two-bound (bound t) (bound u)))

pub not_this-writes : (t : Tree) (d n m : ℕ) (old x new : List ℕ) → x ≡ old ++ codes "~" → WritesPattern (operand_text (held t)) t d n m x new → WritesPart (one not_this t) d n m old new
not_this-writes t d n m old x new p w l h =
    let k = w l (pat_formed t h.1.0) in
    let z = operand_text (held t) (text_of pat t d n) in
    let e : text_of pat_part (one not_this t) d n ≡ codes "~" ++ z =
    ap (λ (y : List ℕ). codes "~" ++ operand_text (held t) y) (at_numbers pat t d (d + 0) n (max (d + 0) n) (nothing_more d) (first-number d n l)) in
    (shown old e (after old (codes "~") z p k.0), omega (arith, k.1, one-bound (bound t)))

pub pattern_bundle-writes : (r : Rights) (t : Tree) (d n m : ℕ) (old x y z new : List ℕ) → x ≡ old ++ rights_text r → y ≡ x ++ codes "{ " → WritesPattern (λ u. u) t d n m y z → new ≡ z ++ codes " }"
    → WritesPart (one (bundle r) t) d n m old new
pattern_bundle-writes r t d n m old x y z new p q w s l h =
    let k = w l (pat_formed t h.1.0) in
    let u = text_of pat t d n in
    let e : text_of pat_part (one (bundle r) t) d n ≡ rights_text r ++ block u =
    ap (λ (v : List ℕ). rights_text r ++ block v) (at_numbers pat t d (d + 0) n (max (d + 0) n) (nothing_more d) (first-number d n l)) in
    (shown old e (after old (rights_text r) (block u) p (after x (codes "{ ") (u ++ codes " }") q (after y u (codes " }") k.0 s))), omega (arith, k.1, one-bound (bound t)))

-- a process in a pattern counts from the scope outside
pub same-writes : (t : Tree) (d n : ℕ) (old x y new : List ℕ) → x ≡ old ++ codes "={" → Writes term t d x y → new ≡ y ++ codes "}" → WritesPart (one same t) d n n old new
same-writes t d n old x y new p w q l h =
    let u = text_of term t d (max (d + 0) d) in
    let e : text_of pat_part (one same t) d n ≡ codes "=" ++ braced u = ap (λ (e : ℕ). codes "=" ++ braced (text_of term t e (max (d + 0) d))) (nothing_more d) in
    (shown old e (after old (codes "={") (u ++ codes "}") p (after x u (codes "}") (w h.1.0 (max (d + 0) d)) q)), sym (nothing_more n))

pattern_tuple-text : (ts : List Tree) (d n : ℕ) → text_of pat_part (many tuple ts) d n ≡ codes "(" ++ (with_commas (texts_of pat ts d n) ++ cond (eqb (length ts) 1) (codes ",)") (codes ")"))
pattern_tuple-text ts d n = ap (λ (xs : List (List ℕ)). codes "(" ++ (tuple_text xs ++ codes ")")) (each_first pat ts 0 d n) ∙ sym (tuple_written pat ts d n)

pub tuple_pattern-writes : (ts : List Tree) (d n m : ℕ) (closing old x y new : List ℕ) → closing ≡ cond (eqb (length ts) 1) (codes ",)") (codes ")") → x ≡ old ++ codes "(" → WritesListed pat ts d n m x y
    → new ≡ y ++ closing → WritesPart (many tuple ts) d n m old new
tuple_pattern-writes ts d n m closing old x y new e p w q l h =
    let k = w l h.1 in
    let us = with_commas (texts_of pat ts d n) in
    let z = cond (eqb (length ts) 1) (codes ",)") (codes ")") in
    (shown old (pattern_tuple-text ts d n) (after old (codes "(") (us ++ z) p (after x us z k.0 (shown y (sym e) q))), k.1)

pattern_send-text : (q : Bool) (t : Tree) (ts : List Tree) (d n : ℕ) → d ≤ n
    → text_of pat_part (two (send q) t (many row ts)) d n ≡ text_of name_pat t d n ++ (marks q ++ (with_commas (texts_of pat ts d (n + length (bound t))) ++ codes ")"))
pattern_send-text q t ts d n h =
    let m = max (d + 0) (n + length (bound t)) in
    ap (λ (xs : Printed). text_of name_pat t d n ++ (marks q ++ (with_commas xs ++ codes ")")))
    (row_printed pat single_pat ts (d + 0) d m (nothing_more d) ∙ ap (λ (k : ℕ). texts_of pat ts d k) (goes_on-number d n (length (bound t)) h))

pub pattern_send-writes : (q : Bool) (t : Tree) (ts : List Tree) (d n k m : ℕ) (old x y z new : List ℕ) → WritesFrom name_pat t d n k old x → y ≡ x ++ marks q → WritesListed pat ts d k m y z → new ≡ z ++ codes ")"
    → WritesPart (two (send q) t (many row ts)) d n m old new
pattern_send-writes q t ts d n k m old x y z new w p v r l h =
    let a = w l h.1.0 in
    let above : d ≤ k = omega (arith, l, a.1) in
    let b = v above h.1.1.0.1 in
    let name = text_of name_pat t d n in
    let us = with_commas (texts_of pat ts d k) in (
      shown old (pattern_send-text q t ts d n l ∙ ap (λ (i : ℕ). name ++ (marks q ++ (with_commas (texts_of pat ts d i) ++ codes ")"))) (sym a.1))
          (after old name (marks q ++ (us ++ codes ")")) a.0 (after x (marks q) (us ++ codes ")") p (after y us (codes ")") b.0 r))),
      omega (arith, a.1, b.1, two-bound (bound t) (bound_all (trees ts))),
    )

-- members and a remainder
rest_printed : (r : TermRest) (d n k : ℕ) → d ≤ n → printed a_rest (leaf (rest r)) (d + 0) (max (d + 0) (n + k)) ≡ rest_text r (n + k)
rest_printed r d n k h = ap (λ (m : ℕ). rest_text r m) (goes_on-number d n k h)

with_members : (s : Sort) (ts : List Tree) (r : TermRest) (d n : ℕ) (xs rs : Printed) → d ≤ n → xs ≡ texts_of s ts d n → rs ≡ rest_text r (n + length (bound_all (trees ts))) → with_rest xs rs ≡ members_text s ts r d n
with_members s ts r d n xs rs h p q = ap (λ (ys : Printed). with_rest ys rs) p ∙ ap (λ (ys : Printed). with_rest (texts_of s ts d n) ys) q

list_pattern-text : (ts : List Tree) (r : TermRest) (d n : ℕ) → d ≤ n → text_of pat_part (two list_pattern (many row ts) (leaf (rest r))) d n ≡ codes "[" ++ (members_text pat ts r d n ++ codes "]")
list_pattern-text ts r d n h =
    let k = length (bound_all (trees ts)) in
    ap (λ (x : List ℕ). codes "[" ++ (x ++ codes "]"))
    (with_members pat ts r d n (printed (row_of pat) (many row ts) d n) (printed a_rest (leaf (rest r)) (d + 0) (max (d + 0) (n + k))) h (row_printed pat single_pat ts d d n refl) (rest_printed r d n k h))

set_pattern-text : (ts : List Tree) (r : TermRest) (d n : ℕ) → d ≤ n → text_of pat_part (two set_pattern (many row ts) (leaf (rest r))) d n ≡ codes "Set(" ++ (members_text pat ts r d n ++ codes ")")
set_pattern-text ts r d n h =
    let k = length (bound_all (trees ts)) in
    ap (λ (x : List ℕ). codes "Set(" ++ (x ++ codes ")"))
    (with_members pat ts r d n (printed (row_of pat) (many row ts) d n) (printed a_rest (leaf (rest r)) (d + 0) (max (d + 0) (n + k))) h (row_printed pat single_pat ts d d n refl) (rest_printed r d n k h))

map_pattern-text : (ts : List Tree) (r : TermRest) (d n : ℕ) → d ≤ n → text_of pat_part (two map_pattern (many row ts) (leaf (rest r))) d n ≡ codes "{" ++ (members_text (pair_of pat) ts r d n ++ codes "}")
map_pattern-text ts r d n h =
    let k = length (bound_all (trees ts)) in
    ap (λ (x : List ℕ). codes "{" ++ (x ++ codes "}"))
    (with_members (pair_of pat) ts r d n (printed (row_of (pair_of pat)) (many row ts) d n) (printed a_rest (leaf (rest r)) (d + 0) (max (d + 0) (n + k))) h (row_printed (pair_of pat) (single_pair pat) ts d d n refl) (rest_printed r d n k h))

pattern_pair-text : (t u : Tree) (d n : ℕ) → d ≤ n → text_of (pair_of pat) (pair_tree (t, u)) d n ≡ text_of pat t d n ++ (codes ": " ++ text_of pat u d (n + length (bound t)))
pattern_pair-text t u d n h =
    ap (λ (x : List ℕ). text_of pat t d n ++ (codes ": " ++ x)) (at_numbers pat u d (d + 0) (n + length (bound t)) (max (d + 0) (n + length (bound t))) (nothing_more d) (goes_on-number d n (length (bound t)) h))

-- what a remainder adds to members that have been written
members-end : (xs : List (List ℕ)) (r : TermRest) (n : ℕ) → with_commas xs ++ remainder (length xs) (codes " ") (codes "...") r n ≡ with_rest xs (rest_text r n)
members-end xs rests.No n = append-nil (with_commas xs)
members-end [] rests.Var n = refl
members-end (x ∷ xs) rests.Var n = ap (λ (b : List ℕ). with_commas (x ∷ xs) ++ (b ++ (codes "..." ++ variable_text n))) (before_some (length xs) (codes " "))
members-end [] rests.Wild n = refl
members-end (x ∷ xs) rests.Wild n = ap (λ (b : List ℕ). with_commas (x ∷ xs) ++ (b ++ (codes "..." ++ codes "_"))) (before_some (length xs) (codes " "))

separated-more : (mark y : List ℕ) (x : List ℕ) (xs : List (List ℕ)) → separated mark ((x ∷ xs) ++ y ∷ []) ≡ separated mark (x ∷ xs) ++ (mark ++ y)
separated-more mark y x [] = refl
separated-more mark y x (z ∷ zs) =
    ap (λ (u : List ℕ). x ++ (mark ++ u)) (separated-more mark y z zs)
    ∙ ap (λ (u : List ℕ). x ++ u) (sym (append_assoc mark (separated mark (z ∷ zs)) (mark ++ y)))
    ∙ sym (append_assoc x (mark ++ separated mark (z ∷ zs)) (mark ++ y))

left-end : (xs : List (List ℕ)) (r : TermRest) (n : ℕ) → with_commas xs ++ remainder (length xs) (codes ", ") (codes "...@") r n ≡ with_commas (xs ++ each (λ x. codes "...@" ++ x) (rest_text r n))
left-end xs rests.No n = append-nil (with_commas xs) ∙ ap with_commas (sym (append-nil xs))
left-end [] rests.Var n = refl
left-end (x ∷ xs) rests.Var n = ap (λ (b : List ℕ). with_commas (x ∷ xs) ++ (b ++ (codes "...@" ++ variable_text n))) (before_some (length xs) (codes ", ")) ∙ sym (separated-more (codes ", ") (codes "...@" ++ variable_text n) x xs)
left-end [] rests.Wild n = refl
left-end (x ∷ xs) rests.Wild n = ap (λ (b : List ℕ). with_commas (x ∷ xs) ++ (b ++ (codes "...@" ++ codes "_"))) (before_some (length xs) (codes ", ")) ∙ sym (separated-more (codes ", ") (codes "...@" ++ codes "_") x xs)

pub pair_pattern-writes : (t u : Tree) (d n k m : ℕ) (old x y new : List ℕ) → WritesPattern (λ z. z) t d n k old x → y ≡ x ++ codes ": " → WritesPattern (λ z. z) u d k m y new
    → WritesFrom (pair_of pat) (pair_tree (t, u)) d n m old new
pair_pattern-writes t u d n k m old x y new w p v l h =
    let a = w l (pat_formed t h.1.0) in
    let above : d ≤ k = omega (arith, l, a.1) in
    let b = v above (pat_formed u h.1.1.0) in
    let key = text_of pat t d n in (
      shown old (pattern_pair-text t u d n l ∙ ap (λ (i : ℕ). key ++ (codes ": " ++ text_of pat u d i)) (sym a.1))
          (after old key (codes ": " ++ text_of pat u d k) a.0 (after x (codes ": ") (text_of pat u d k) p b.0)),
      omega (arith, a.1, b.1, two-bound (bound t) (bound u)),
    )

members_written : (s : Sort) (ts : List Tree) (r : TermRest) (d n m k : ℕ) (before_it behind old x y z new : List ℕ) → x ≡ old ++ before_it → y ≡ x ++ with_commas (texts_of s ts d n) → m ≡ n + length (bound_all (trees ts)) → k ≡ length ts
    → z ≡ y ++ remainder k (codes " ") (codes "...") r m → new ≡ z ++ behind → new ≡ old ++ (before_it ++ (members_text s ts r d n ++ behind))
members_written s ts r d n m k before_it behind old x y z new p q e f g h =
    let i = n + length (bound_all (trees ts)) in
    let xs = texts_of s ts d n in
    let a : remainder k (codes " ") (codes "...") r m ≡ remainder (length xs) (codes " ") (codes "...") r i =
    ap (λ (j : ℕ). remainder j (codes " ") (codes "...") r m) (f ∙ sym (length-texts s ts d n)) ∙ ap (λ (j : ℕ). remainder (length xs) (codes " ") (codes "...") r j) e in
    let both : z ≡ x ++ members_text s ts r d n = shown x (sym (members-end xs r i) ∙ ap (λ (u : List ℕ). with_commas xs ++ u) (sym a)) (after x (with_commas xs) (remainder k (codes " ") (codes "...") r m) q g) in
    after old before_it (members_text s ts r d n ++ behind) p (after x (members_text s ts r d n) behind both h)

-- members between two words, and a remainder behind them
abbrev pub WithRest : Sort → List ℕ → List Tree → TermRest → List ℕ → ℕ → ℕ → ℕ → List ℕ → List ℕ → Type 0
WithRest s opening ts r closing d n m = GoesOn (Holds IsFine (all s) (trees ts)) d n (opening ++ (members_text s ts r d n ++ closing)) (length (bound_all (trees ts)) + length (bound (leaf (rest r)))) m

pub members-writes : (s : Sort) (opening : List ℕ) (ts : List Tree) (r : TermRest) (closing : List ℕ) (d n k m len : ℕ) (old x y z new : List ℕ) → x ≡ old ++ opening → WritesListed s ts d n k x y → len ≡ length ts
    → AddsTo (remainder len (codes " ") (codes "...") r k) (k + length (bound (leaf (rest r)))) m y z → new ≡ z ++ closing → WithRest s opening ts r closing d n m old new
members-writes s opening ts r closing d n k m len old x y z new p w f g q l h =
    let a = w l h in
    (members_written s ts r d n k len opening closing old x y z new p a.0 a.1 f g.0 q, omega (arith, a.1, g.1))

pub list_pattern-writes : (ts : List Tree) (r : TermRest) (d n m : ℕ) (old new : List ℕ) → WithRest pat (codes "[") ts r (codes "]") d n m old new → WritesPart (two list_pattern (many row ts) (leaf (rest r))) d n m old new
list_pattern-writes ts r d n m old new w l h =
    let a = w l h.1.0.1 in
    (shown old (list_pattern-text ts r d n l) a.0, omega (arith, a.1, two-bound (bound_all (trees ts)) (bound (leaf (rest r)))))

pub set_pattern-writes : (ts : List Tree) (r : TermRest) (d n m : ℕ) (old new : List ℕ) → WithRest pat (codes "Set(") ts r (codes ")") d n m old new → WritesPart (two set_pattern (many row ts) (leaf (rest r))) d n m old new
set_pattern-writes ts r d n m old new w l h =
    let a = w l h.1.0.1 in
    (shown old (set_pattern-text ts r d n l) a.0, omega (arith, a.1, two-bound (bound_all (trees ts)) (bound (leaf (rest r)))))

pub map_pattern-writes : (ts : List Tree) (r : TermRest) (d n m : ℕ) (old new : List ℕ) → WithRest (pair_of pat) (codes "{") ts r (codes "}") d n m old new → WritesPart (two map_pattern (many row ts) (leaf (rest r))) d n m old new
map_pattern-writes ts r d n m old new w l h =
    let a = w l h.1.0.1 in
    (shown old (map_pattern-text ts r d n l) a.0, omega (arith, a.1, two-bound (bound_all (trees ts)) (bound (leaf (rest r)))))

pub left-writes : (ts : List Tree) (r : TermRest) (d n m k : ℕ) (old x new : List ℕ) → x ≡ old ++ with_commas (texts_of name_pat ts d n) → m ≡ n + length (bound_all (trees ts)) → k ≡ length ts
    → new ≡ x ++ remainder k (codes ", ") (codes "...@") r m → new ≡ old ++ left_text ts r d n
left-writes ts r d n m k old x new q e f g =
    let i = n + length (bound_all (trees ts)) in
    let xs = texts_of name_pat ts d n in
    let a : remainder k (codes ", ") (codes "...@") r m ≡ remainder (length xs) (codes ", ") (codes "...@") r i =
    ap (λ (j : ℕ). remainder j (codes ", ") (codes "...@") r m) (f ∙ sym (length-texts name_pat ts d n)) ∙ ap (λ (j : ℕ). remainder (length xs) (codes ", ") (codes "...@") r j) e in
    shown old (sym (left-end xs r i) ∙ ap (λ (u : List ℕ). with_commas xs ++ u) (sym a)) (after old (with_commas xs) (remainder k (codes ", ") (codes "...@") r m) q g)
