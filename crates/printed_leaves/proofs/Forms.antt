-- Forms of processes that have been written.
use Rattle.std.proofs.Common.{◌≡◌, ℕ, suc, ◌+◌, max, Bool, true, false, cond, eqb, List, [], ◌∷◌, ◌++◌, length, map as each, refl, sym, ap, ◌∙◌, subst, arith, le_refl, append_assoc, append-nil, length-append, codes}
use Rattle.std.proofs.lemmas.List.{length-map}
use Rattle.std.proofs.lemmas.Bool.{ne_eqb}
use Rattle.calculus.specs.declared.plain.Kind.{Kind}
use Rattle.calculus.specs.declared.plain.Rights.{Rights}
use Rattle.calculus.specs.declared.plain.BinaryOp.{BinaryOp}
use Rattle.calculus.specs.declared.plain.UnaryOp.TheVariants as unary_op
use Rattle.calculus.specs.declared.plain.Origin.{Origin}
use Rattle.calculus.specs.Tree.{row, list, tuple, set, dict, send, receive, new, match, bundle, unary, binary, method, Tree, trees}
use Rattle.calculus.specs.Shape.{held, one, two, many}
use Rattle.calculus.specs.Variables.{a_name, bound, bound_all}
use Rattle.calculus.specs.Form.{Sort, term, part, a_case, pair_of}
use Rattle.calculus.specs.Normal.{by_code}
use Rattle.calculus.specs.Printed.{Printed, marks, operand_text, name_text, braced, block, tuple_text, with_commas, separated, parallel_text, declared_texts, op_text, rights_text}
use Rattle.calculus.proofs.Formed.{Formed}
use Rattle.calculus.proofs.Tails.{IsFine}
use Rattle.calculus.proofs.Binding.{no_bound}
use Rattle.rho_term.specs.Normal.{IsNormal, IsOrdered}
use Rattle.rho_term.specs.Parts.{part_tree, term_tree, pair_tree}
use Rattle.rho_term.specs.declared.term.Part.{Part}
use Rattle.printed_leaves.specs.Texts.{text_of, texts_of, binds_texts, Writes, WritesAll, WritesMembers, WritesAs, WritesBinds, AddsTo}
use Rattle.printed_leaves.proofs.Rows.{nothing_more, row_printed, binds_printed, single_term, single_case, each_first, ordered_texts}

-- what has been written in turn
pub after : (x a b : List ℕ) {y z : List ℕ} → y ≡ x ++ a → z ≡ y ++ b → z ≡ x ++ (a ++ b)
after x a b p q = q ∙ ap (λ (u : List ℕ). u ++ b) p ∙ append_assoc x a b

-- the same under another name
pub shown : (x : List ℕ) {y a b : List ℕ} → b ≡ a → y ≡ x ++ a → y ≡ x ++ b
shown x e p = p ∙ ap (λ (u : List ℕ). x ++ u) (sym e)

pub no_variables : (t : Tree) → Formed IsFine term t → bound t ≡ []
no_variables t h = no_bound IsFine term t tt h

-- a text is whole behind a word that stands only where nothing follows
pub none_or_some : (n : ℕ) (word : List ℕ) → cond (eqb (suc n) 0) word [] ≡ []
none_or_some n word = ap (λ (b : Bool). cond b word []) (ne_eqb (suc n) 0 (λ e. omega (arith, e)))

process_text : (ps : List Part) (d n : ℕ) → IsNormal (term_tree ps) → text_of term (term_tree ps) d n ≡ cond (eqb (length ps) 0) (codes "Nil") [] ++ separated (codes " | ") (texts_of part (each part_tree ps) d n)
unfolding by_code
process_text [] d n h = refl
process_text (p ∷ ps) d n h =
    ap parallel_text (ordered_texts part (each part_tree (p ∷ ps)) 0 d n h.0)
    ∙ sym (ap (λ (x : List ℕ). x ++ separated (codes " | ") (texts_of part (each part_tree (p ∷ ps)) d n)) (none_or_some (length ps) (codes "Nil")))

pub process-writes : (ps : List Part) (t : Tree) (d : ℕ) (old x written : List ℕ) → t ≡ term_tree ps → IsNormal t → x ≡ old ++ cond (eqb (length ps) 0) (codes "Nil") []
    → WritesAll (codes " | ") part (each part_tree ps) d x written → Writes term t d old written
process-writes ps t d old x written e o p w h n =
    let k = subst (λ (u : Tree). Formed IsFine term u) e h in
    shown old (ap (λ (u : Tree). text_of term u d n) e ∙ process_text ps d n (subst IsNormal e o))
    (after old (cond (eqb (length ps) 0) (codes "Nil") []) (separated (codes " | ") (texts_of part (each part_tree ps) d n)) p (w k.1 n))

-- what stands in braces unless it is plain
pub braced_unless : (b : Bool) (z old x y written : List ℕ) → x ≡ old ++ cond b [] (codes "{") → y ≡ x ++ z → written ≡ y ++ cond b [] (codes "}") → written ≡ old ++ cond b z (braced z)
braced_unless true z old x y written p q r = shown old (sym (append-nil z)) (after old [] (z ++ []) p (after x z [] q r))
braced_unless false z old x y written p q r = after old (codes "{") (z ++ codes "}") p (after x z (codes "}") q r)

pub operand-writes : (b : Bool) (t : Tree) (d : ℕ) (old x y written : List ℕ) → ((z : List ℕ) → operand_text (held t) z ≡ cond b z (braced z)) → x ≡ old ++ cond b [] (codes "{")
    → Writes term t d x y → written ≡ y ++ cond b [] (codes "}") → WritesAs (operand_text (held t)) t d old written
operand-writes b t d old x y written e p w r h n = shown old (e (text_of term t d n)) (braced_unless b (text_of term t d n) old x y written p (w h n) r)

-- processes between two words
pub between : (opening closing : List ℕ) (ts : List Tree) (d : ℕ) (old x y written : List ℕ) → x ≡ old ++ opening → WritesAll (codes ", ") term ts d x y → written ≡ y ++ closing
    → WritesMembers opening ts closing d old written
between opening closing ts d old x y written p w q h n =
    let zs = separated (codes ", ") (texts_of term ts d n) in
    after old opening (zs ++ closing) p (after x zs closing (w h n) q)

pub list-writes : (ts : List Tree) (d : ℕ) (old written : List ℕ) → WritesMembers (codes "[") ts (codes "]") d old written → Writes part (many list ts) d old written
list-writes ts d old written w h n = shown old (ap (λ (xs : List (List ℕ)). codes "[" ++ (with_commas xs ++ codes "]")) (each_first term ts 0 d n)) (w h.1 n)

not_one : (n : ℕ) → eqb (suc (suc n)) 1 ≡ false
not_one n = ne_eqb (suc (suc n)) 1 (λ e. omega (arith, e))

-- what ends a tuple
pub tuple_closed : (xs : List (List ℕ)) → tuple_text xs ++ codes ")" ≡ with_commas xs ++ cond (eqb (length xs) 1) (codes ",)") (codes ")")
tuple_closed [] = refl
tuple_closed (x ∷ []) = append_assoc x (codes ",") (codes ")")
tuple_closed (x ∷ y ∷ ys) = ap (λ (b : Bool). with_commas (x ∷ y ∷ ys) ++ cond b (codes ",)") (codes ")")) (sym (not_one (length ys)))

pub length-texts : (s : Sort) (ts : List Tree) (d n : ℕ) → length (texts_of s ts d n) ≡ length ts
length-texts s [] d n = refl
length-texts s (t ∷ ts) d n = ap suc (length-texts s ts d (n + length (bound t)))

pub tuple_written : (s : Sort) (ts : List Tree) (d n : ℕ) → codes "(" ++ (with_commas (texts_of s ts d n) ++ cond (eqb (length ts) 1) (codes ",)") (codes ")")) ≡ codes "(" ++ (tuple_text (texts_of s ts d n) ++ codes ")")
tuple_written s ts d n =
    ap (λ (x : List ℕ). codes "(" ++ x) (ap (λ (k : ℕ). with_commas (texts_of s ts d n) ++ cond (eqb k 1) (codes ",)") (codes ")")) (sym (length-texts s ts d n)) ∙ sym (tuple_closed (texts_of s ts d n)))

pub tuple-writes : (ts : List Tree) (d : ℕ) (closing old written : List ℕ) → closing ≡ cond (eqb (length ts) 1) (codes ",)") (codes ")") → WritesMembers (codes "(") ts closing d old written
    → Writes part (many tuple ts) d old written
tuple-writes ts d closing old written e w h n =
    shown old (ap (λ (xs : List (List ℕ)). codes "(" ++ (tuple_text xs ++ codes ")")) (each_first term ts 0 d n) ∙ sym (tuple_written term ts d n))
    (w h.1 n ∙ ap (λ (x : List ℕ). old ++ (codes "(" ++ (with_commas (texts_of term ts d n) ++ x))) e)

pub set-writes : (ts : List Tree) (d : ℕ) (old written : List ℕ) → IsOrdered (many set ts) → WritesMembers (codes "Set(") ts (codes ")") d old written → Writes part (many set ts) d old written
set-writes ts d old written o w h n = shown old (ap (λ (xs : List (List ℕ)). codes "Set(" ++ (with_commas xs ++ codes ")")) (ordered_texts term ts 0 d n o)) (w h.1 n)

pub map-writes : (ts : List Tree) (d : ℕ) (old x y written : List ℕ) → IsOrdered (many dict ts) → x ≡ old ++ codes "{" → WritesAll (codes ", ") (pair_of term) ts d x y → written ≡ y ++ codes "}" → Writes part (many dict ts) d old written
map-writes ts d old x y written o p w q h n =
    shown old (ap (λ (xs : List (List ℕ)). braced (with_commas xs)) (ordered_texts (pair_of term) ts 0 d n o)) (after old (codes "{") ((separated (codes ", ") (texts_of (pair_of term) ts d n)) ++ (codes "}")) (p) (after x (separated (codes ", ") (texts_of (pair_of term) ts d n)) (codes "}") (w h.1 n) (q)))

-- a second constituent that is the last: it stands under no more variables
last_term : (t : Tree) (d e n : ℕ) → e ≡ d → text_of term t e n ≡ text_of term t d n
last_term t d e n p = ap (λ (k : ℕ). text_of term t k n) p

pub pair-writes : (t u : Tree) (d : ℕ) (old x y written : List ℕ) → Writes term t d old x → y ≡ x ++ codes ": " → Writes term u d y written → Writes (pair_of term) (pair_tree (t, u)) d old written
pair-writes t u d old x y written w p v h n =
    let m = max (d + 0) (n + length (bound t)) in
    shown old (ap (λ (z : List ℕ). text_of term t d n ++ (codes ": " ++ z)) (last_term u d (d + 0) m (nothing_more d))) (after old (text_of term t d n) ((codes ": ") ++ (text_of term u d m)) (w h.1.0 n) (after x (codes ": ") (text_of term u d m) (p) (v h.1.1.0 m)))

pub send-writes : (q : Bool) (t : Tree) (ts : List Tree) (d : ℕ) (old x y z written : List ℕ)
    → WritesAs (name_text (held t)) t d old x → y ≡ x ++ marks q → WritesAll (codes ", ") term ts d y z → written ≡ z ++ codes ")" → Writes part (two (send q) t (many row ts)) d old written
send-writes q t ts d old x y z written w p v r h n =
    let m = max (d + 0) (n + length (bound t)) in
    shown old (ap (λ (xs : Printed). name_text (held t) (text_of term t d n) ++ (marks q ++ (with_commas xs ++ codes ")"))) (row_printed term single_term ts (d + 0) d m (nothing_more d))) (after old (name_text (held t) (text_of term t d n)) ((marks q) ++ ((separated (codes ", ") (texts_of term ts d m)) ++ (codes ")"))) (w h.1.0 n) (after x (marks q) ((separated (codes ", ") (texts_of term ts d m)) ++ (codes ")")) (p) (after y (separated (codes ", ") (texts_of term ts d m)) (codes ")") (v h.1.1.0.1 m) (r))))

receive_depth : (ts : List Tree) (t : Tree) (d m : ℕ) → Formed IsFine term t → m ≡ d + length (bound_all (trees ts)) → d + length (bound_all (trees (many row ts ∷ t ∷ []))) ≡ m
receive_depth ts t d m h e =
    omega (arith, e, length-append (bound_all (trees ts)) (bound t ++ []), length-append (bound t) [], ap length (no_variables t h))

pub receive-writes : (k : Kind) (ts : List Tree) (t : Tree) (d m : ℕ) (old x y z u written : List ℕ) → x ≡ old ++ codes "for (" → WritesBinds k ts d m x y
    → z ≡ y ++ codes ") { " → Writes term t m z u → written ≡ u ++ codes " }" → Writes part (two (receive k) (many row ts) t) d old written
receive-writes k ts t d m old x y z u written p w q v r h n =
    let j = d + length (bound_all (trees (many row ts ∷ t ∷ []))) in
    let i = max j (d + length (bound (many row ts))) in
    let b = h.1.1.0 in
    let g = w (le_refl d) h.1.0.1 in
    let zs = separated (codes " & ") (binds_texts k ts d d) in
    shown old (ap (λ (xs : List (List ℕ)). codes "for (" ++ (separated (codes " & ") xs ++ (codes ") " ++ block (text_of term t j i)))) (binds_printed k ts d d) ∙ ap (λ (x : List ℕ). codes "for (" ++ (zs ++ (codes ") " ++ block x))) (last_term t m j i (receive_depth ts t d m b g.1)))
    (after old (codes "for (") (zs ++ (codes ") { " ++ (text_of term t m i ++ codes " }"))) p (after x zs (codes ") { " ++ (text_of term t m i ++ codes " }")) g.0 (after y (codes ") { ") (text_of term t m i ++ codes " }") q (after z (text_of term t m i) (codes " }") (v b i) r))))

pub new-writes : (os : List Origin) (t : Tree) (d m : ℕ) (old x y z u written : List ℕ) → x ≡ old ++ codes "new " → AddsTo (separated (codes ", ") (declared_texts d os)) (d + length os) m x y
    → z ≡ y ++ codes " in { " → Writes term t m z u → written ≡ u ++ codes " }" → Writes part (one (new os) t) d old written
new-writes os t d m old x y z u written p w q v r h n =
    let j = d + length (each (λ (o : Origin). a_name) os) in
    let i = max j d in
    let f : j ≡ m = omega (arith, w.1, length-map os (λ (o : Origin). a_name)) in
    let zs = separated (codes ", ") (declared_texts d os) in
    shown old (ap (λ (x : List ℕ). codes "new " ++ (with_commas (declared_texts d os) ++ (codes " in " ++ block x))) (last_term t m j i f))
    (after old (codes "new ") (zs ++ (codes " in { " ++ (text_of term t m i ++ codes " }"))) p (after x zs (codes " in { " ++ (text_of term t m i ++ codes " }")) w.0 (after y (codes " in { ") (text_of term t m i ++ codes " }") q (after z (text_of term t m i) (codes " }") (v h.1.0 i) r))))

pub match-writes : (t : Tree) (ts : List Tree) (d : ℕ) (old x y z u written : List ℕ) → x ≡ old ++ codes "match (" → Writes term t d x y → z ≡ y ++ codes ") { "
    → WritesAll (codes " ") a_case ts d z u → written ≡ u ++ codes " }" → Writes part (two match t (many row ts)) d old written
match-writes t ts d old x y z u written p w q v r h n =
    let m = max (d + 0) (d + length (bound t)) in
    shown old (ap (λ (xs : Printed). codes "match (" ++ (text_of term t d d ++ (codes ") " ++ block (separated (codes " ") xs)))) (row_printed a_case single_case ts (d + 0) d m (nothing_more d))) (after old (codes "match (") ((text_of term t d d) ++ ((codes ") { ") ++ ((separated (codes " ") (texts_of a_case ts d m)) ++ (codes " }")))) (p) (after x (text_of term t d d) ((codes ") { ") ++ ((separated (codes " ") (texts_of a_case ts d m)) ++ (codes " }"))) (w h.1.0 d) (after y (codes ") { ") ((separated (codes " ") (texts_of a_case ts d m)) ++ (codes " }")) (q) (after z (separated (codes " ") (texts_of a_case ts d m)) (codes " }") (v h.1.1.0.1 m) (r)))))

pub bundle-writes : (r : Rights) (t : Tree) (d : ℕ) (old x y z written : List ℕ) → x ≡ old ++ rights_text r → y ≡ x ++ codes "{ " → Writes term t d y z → written ≡ z ++ codes " }"
    → Writes part (one (bundle r) t) d old written
bundle-writes r t d old x y z written p q w s h n =
    let m = max (d + 0) n in
    shown old (ap (λ (u : List ℕ). rights_text r ++ block u) (last_term t d (d + 0) m (nothing_more d)))
    (after old (rights_text r) (block (text_of term t d m)) p (after x (codes "{ ") (text_of term t d m ++ codes " }") q (after y (text_of term t d m) (codes " }") (w h.1.0 m) s)))

pub not-writes : (t : Tree) (d : ℕ) (old x y written : List ℕ) → x ≡ old ++ codes "(not " → WritesAs (operand_text (held t)) t d x y → written ≡ y ++ codes ")" → Writes part (one (unary unary_op.Not) t) d old written
not-writes t d old x y written p w q h n =
    let m = max (d + 0) n in
    shown old (ap (λ (u : List ℕ). codes "(not " ++ (operand_text (held t) u ++ codes ")")) (last_term t d (d + 0) m (nothing_more d))) (after old (codes "(not ") ((operand_text (held t) (text_of term t d m)) ++ (codes ")")) (p) (after x (operand_text (held t) (text_of term t d m)) (codes ")") (w h.1.0 m) (q)))

pub neg-writes : (t : Tree) (d : ℕ) (old x y written : List ℕ) → x ≡ old ++ codes "(-{" → Writes term t d x y → written ≡ y ++ codes "})" → Writes part (one (unary unary_op.Neg) t) d old written
neg-writes t d old x y written p w q h n =
    let m = max (d + 0) n in
    shown old (ap (λ (u : List ℕ). codes "(-" ++ (braced u ++ codes ")")) (last_term t d (d + 0) m (nothing_more d)) ∙ ap (λ (u : List ℕ). codes "(-{" ++ u) (append_assoc (text_of term t d m) (codes "}") (codes ")")))
    (after old (codes "(-{") (text_of term t d m ++ codes "})") p (after x (text_of term t d m) (codes "})") (w h.1.0 m) q))

pub binary-writes : (o : BinaryOp) (t u : Tree) (d : ℕ) (old x y z v written : List ℕ) → x ≡ old ++ codes "(" → WritesAs (operand_text (held t)) t d x y → z ≡ y ++ op_text o
    → WritesAs (operand_text (held u)) u d z v → written ≡ v ++ codes ")" → Writes part (two (binary o) t u) d old written
binary-writes o t u d old x y z v written p w q s r h n =
    let m = max (d + 0) (n + length (bound t)) in
    shown old (ap (λ (k : List ℕ). codes "(" ++ (operand_text (held t) (text_of term t d n) ++ (op_text o ++ (operand_text (held u) k ++ codes ")")))) (last_term u d (d + 0) m (nothing_more d))) (after old (codes "(") ((operand_text (held t) (text_of term t d n)) ++ ((op_text o) ++ ((operand_text (held u) (text_of term u d m)) ++ (codes ")")))) (p) (after x (operand_text (held t) (text_of term t d n)) ((op_text o) ++ ((operand_text (held u) (text_of term u d m)) ++ (codes ")"))) (w h.1.0 n) (after y (op_text o) ((operand_text (held u) (text_of term u d m)) ++ (codes ")")) (q) (after z (operand_text (held u) (text_of term u d m)) (codes ")") (s h.1.1.0 m) (r)))))

pub method-writes : (name : List ℕ) (t : Tree) (ts : List Tree) (d : ℕ) (old x y z u v w written : List ℕ) → x ≡ old ++ codes "(" → WritesAs (operand_text (held t)) t d x y → z ≡ y ++ codes ")."
    → u ≡ z ++ name → v ≡ u ++ codes "(" → WritesAll (codes ", ") term ts d v w → written ≡ w ++ codes ")" → Writes part (two (method name) t (many row ts)) d old written
method-writes name t ts d old x y z u v w written p f q r s g k h n =
    let m = max (d + 0) (n + length (bound t)) in
    shown old (ap (λ (xs : Printed). codes "(" ++ (operand_text (held t) (text_of term t d n) ++ (codes ")." ++ (name ++ (codes "(" ++ (with_commas xs ++ codes ")")))))) (row_printed term single_term ts (d + 0) d m (nothing_more d))) (after old (codes "(") ((operand_text (held t) (text_of term t d n)) ++ ((codes ").") ++ ((name) ++ ((codes "(") ++ ((separated (codes ", ") (texts_of term ts d m)) ++ (codes ")")))))) (p) (after x (operand_text (held t) (text_of term t d n)) ((codes ").") ++ ((name) ++ ((codes "(") ++ ((separated (codes ", ") (texts_of term ts d m)) ++ (codes ")"))))) (f h.1.0 n) (after y (codes ").") ((name) ++ ((codes "(") ++ ((separated (codes ", ") (texts_of term ts d m)) ++ (codes ")")))) (q) (after z (name) ((codes "(") ++ ((separated (codes ", ") (texts_of term ts d m)) ++ (codes ")"))) (r) (after u (codes "(") ((separated (codes ", ") (texts_of term ts d m)) ++ (codes ")")) (s) (after v (separated (codes ", ") (texts_of term ts d m)) (codes ")") (g h.1.1.0.1 m) (k)))))))
