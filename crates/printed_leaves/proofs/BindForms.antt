-- Binds, cases and closed forms that have been written.
use Rattle.std.proofs.Common.{◌≡◌, ℕ, ◌+◌, ◌<◌, ◌≤◌, max, Bool, true, false, cond, ltb, List, [], ◌∷◌, ◌++◌, length, map as each, refl, sym, ap, ◌∙◌, subst, arith, le_refl, append-nil, length-append, codes}
use Rattle.std.proofs.lemmas.Bool.{lt-ltb, le-ltb}
use Rattle.calculus.specs.declared.plain.Kind.{Kind}
use Rattle.calculus.specs.declared.plain.TermRest.{TermRest}
use Rattle.calculus.specs.declared.plain.Ground.{Ground}
use Rattle.calculus.specs.declared.plain.Ground.TheVariants as ground
use Rattle.calculus.specs.Tree.{row, tuple, bind, rest, Tree, trees}
use Rattle.calculus.specs.Shape.{leaf, three, many, held, only}
use Rattle.calculus.specs.Variables.{bound, bound_all}
use Rattle.calculus.specs.Form.{term, part, a_case, pat, name_pat, pat_part, name_part}
use Rattle.calculus.specs.Printed.{Printed, name_text, with_commas, rest_text, bind_text, arrow_text, block, parallel_text}
use Rattle.calculus.proofs.Formed.{Formed}
use Rattle.calculus.proofs.Tails.{IsFine}
use Rattle.calculus.proofs.Binding.{no_bound}
use Rattle.rho_term.specs.Parts.{part_tree, term_tree, bind_tree, case_tree, ground_tree}
use Rattle.rho_term.specs.declared.term.Part.{Part}
use Rattle.rho_term.specs.declared.term.Part.TheVariants as parts
use Rattle.rho_term.specs.declared.term.TermBind.{TermBind}
use Rattle.rho_term.specs.declared.term.TermCase.{TermCase}
use Rattle.printed_leaves.specs.Words.{remainder}
use Rattle.printed_leaves.specs.Texts.{text_of, texts_of, left_text, bind_text_of, IsClosedForm, AddsTo, Writes, WritesAs, WritesPattern, WritesPart, WritesListed, WritesBind}
use Rattle.printed_leaves.proofs.Rows.{row_printed, single_name_pat, ordered_texts}
use Rattle.printed_leaves.proofs.Forms.{after, shown, no_variables}
use Rattle.printed_leaves.proofs.PatternForms.{pat_formed, left-writes}

-- what a bind binds, beside its channel
bind-bound : (c : Tree) (ts : List Tree) (r : TermRest) (n : ℕ) → Formed IsFine term c
    → n + length (bound (three bind c (many row ts) (leaf (rest r)))) ≡ n + length (bound_all (trees ts)) + length (bound (leaf (rest r)))
bind-bound c ts r n h =
    omega (arith, ap length (no_variables c h), length-append (bound c) (bound_all (trees ts) ++ (bound (leaf (rest r)) ++ [])), length-append (bound_all (trees ts)) (bound (leaf (rest r)) ++ []), length-append (bound (leaf (rest r))) [])

bind_parts : (k : Kind) (c : Tree) (ts : List Tree) (r : TermRest) (d n : ℕ) → d ≤ n → Formed IsFine term c
    → bind_text_of k (three bind c (many row ts) (leaf (rest r))) d n ≡ bind_text k (left_text ts r d n) (name_text (held c) (text_of term c d n))
bind_parts k c ts r d n h f =
    let z : length (bound c) ≡ 0 = ap length (no_variables c f) in
    let j = n + length (bound c) in
    let i = length (bound_all (trees ts)) in
    let e : j ≡ n = omega (arith, z) in
    let g : max (d + 0) (j + i) ≡ n + i = omega (arith, z, h) in
    ap (λ (xs : Printed). bind_text k (with_commas (xs ++ each (λ x. codes "...@" ++ x) (rest_text r (max (d + 0) (j + i))))) (name_text (held c) (text_of term c d n))) (row_printed name_pat single_name_pat ts d d j refl ∙ ap (λ (m : ℕ). texts_of name_pat ts d m) e)
    ∙ ap (λ (m : ℕ). bind_text k (with_commas (texts_of name_pat ts d n ++ each (λ x. codes "...@" ++ x) (rest_text r m))) (name_text (held c) (text_of term c d n))) g

not_less : (n : ℕ) → ltb n n ≡ false
not_less n = le-ltb n n (omega arith)

is_less : (m n : ℕ) → m < n → ltb m n ≡ true
is_less m n h = lt-ltb m n h

-- a left side, a space after it if it is not empty, the arrow and the channel
left_then : (k : Kind) (l c old x y z new : List ℕ) → x ≡ old ++ l → y ≡ x ++ cond (ltb (length old) (length x)) (codes " ") [] → z ≡ y ++ arrow_text k → new ≡ z ++ c → new ≡ old ++ bind_text k l c
left_then k [] c old x y z new p q r s =
    let e : ltb (length old) (length x) ≡ false = ap (λ (u : List ℕ). ltb (length old) (length u)) (p ∙ append-nil old) ∙ not_less (length old) in
    let f : y ≡ x ++ [] = q ∙ ap (λ (b : Bool). x ++ cond b (codes " ") []) e in
    after old ([]) (([]) ++ ((arrow_text k) ++ (c))) (p) (after x ([]) ((arrow_text k) ++ (c)) (f) (after y (arrow_text k) (c) (r) (s)))
left_then k (a ∷ l) c old x y z new p q r s =
    let e : ltb (length old) (length x) ≡ true = ap (λ (u : List ℕ). ltb (length old) (length u)) p ∙ is_less (length old) (length (old ++ a ∷ l)) (omega (arith, length-append old (a ∷ l))) in
    let f : y ≡ x ++ codes " " = q ∙ ap (λ (b : Bool). x ++ cond b (codes " ") []) e in
    after old (a ∷ l) ((codes " ") ++ ((arrow_text k) ++ (c))) (p) (after x (codes " ") ((arrow_text k) ++ (c)) (f) (after y (arrow_text k) (c) (r) (s)))

pub bind-writes : (k : Kind) (b : TermBind) (d n j m start len : ℕ) (old x y z u new : List ℕ) → start ≡ length old → WritesListed name_pat b.pats.items d n j old x → len ≡ length b.pats.items
    → AddsTo (remainder len (codes ", ") (codes "...@") b.rest j) (j + length (bound (leaf (rest b.rest)))) m x y
    → z ≡ y ++ cond (ltb start (length y)) (codes " ") [] → u ≡ z ++ arrow_text k → WritesAs (name_text (held b.channel)) b.channel d u new → WritesBind k (bind_tree b) d n m old new
bind-writes k b d n j m start len old x y z u new e w f a q r s l h =
    let g = w l h.1.1.0.1 in
    let ts = b.pats.items in
    let v : y ≡ old ++ left_text ts b.rest d n = left-writes ts b.rest d n j len old x y g.0 g.1 f a.0 in
    let space : z ≡ y ++ cond (ltb (length old) (length y)) (codes " ") [] = shown y (ap (λ (i : ℕ). cond (ltb i (length y)) (codes " ") []) (sym e)) q in (
      shown old (bind_parts k b.channel ts b.rest d n l h.1.0)
          (left_then k (left_text ts b.rest d n) (name_text (held b.channel) (text_of term b.channel d n)) old y z u new v space r (s h.1.0 n)),
      a.1 ∙ ap (λ (i : ℕ). i + length (bound (leaf (rest b.rest)))) g.1 ∙ sym (bind-bound b.channel ts b.rest n h.1.0),
    )

case_depth : (p b : Tree) (d m : ℕ) → Formed IsFine term b → m ≡ d + length (bound p) → d + length (bound p ++ (bound b ++ [])) ≡ m
case_depth p b d m h e = omega (arith, e, ap length (no_variables b h), length-append (bound p) (bound b ++ []), length-append (bound b) [])

pub case-writes : (c : TermCase) (d m : ℕ) (old x y z u written : List ℕ) → x ≡ old ++ codes "(" → WritesPattern (λ v. v) c.pat d d m x y → z ≡ y ++ codes ") => { " → Writes term c.body m z u → written ≡ u ++ codes " }"
    → Writes a_case (case_tree c) d old written
case-writes c d m old x y z u written p w q v r h n =
    let g = w (le_refl d) (pat_formed c.pat h.1.0) in
    let f = h.1.1.0 in
    let j = d + length (bound c.pat ++ (bound c.body ++ [])) in
    let i = max j (d + length (bound c.pat)) in
    let left = text_of pat c.pat d d in
    let body = text_of term c.body m i in
    shown old (ap (λ (k : ℕ). codes "(" ++ (left ++ (codes ") => " ++ block (text_of term c.body k i)))) (case_depth c.pat c.body d m f g.1))
    (after old (codes "(") (left ++ (codes ") => { " ++ (body ++ codes " }"))) p (after x left (codes ") => { " ++ (body ++ codes " }")) g.0 (after y (codes ") => { ") (body ++ codes " }") q (after z body (codes " }") (v f i) r))))

-- a closed form in a pattern is a part of a process
closed-formed : (p : Part) → IsClosedForm p → Formed IsFine name_part (part_tree p) → Formed IsFine part (part_tree p)
closed-formed (parts.Ground (ground.Bool x)) c h = h
closed-formed (parts.Ground (ground.Int x)) c h = h
closed-formed (parts.Ground (ground.Str x)) c h = h
closed-formed (parts.Ground (ground.Uri x)) c h = h
closed-formed (parts.Ground (ground.Bytes x)) c h = h
closed-formed (parts.Tuple ts) c h = subst (λ (us : List Tree). Formed IsFine part (many tuple us)) (sym c) (tt, tt)
closed-formed (parts.Receive k bs b) c h = h
closed-formed (parts.New os b) c h = h
closed-formed (parts.Match t cs) c h = h
closed-formed _ c h = absurd c

closed_text : (p : Part) (d n : ℕ) → IsClosedForm p → text_of pat_part (part_tree p) d n ≡ text_of part (part_tree p) d n
closed_text (parts.Ground (ground.Bool x)) d n c = refl
closed_text (parts.Ground (ground.Int x)) d n c = refl
closed_text (parts.Ground (ground.Str x)) d n c = refl
closed_text (parts.Ground (ground.Uri x)) d n c = refl
closed_text (parts.Ground (ground.Bytes x)) d n c = refl
closed_text (parts.Tuple ts) d n c = ap (λ (us : List Tree). text_of pat_part (many tuple us) d n) c ∙ ap (λ (us : List Tree). text_of part (many tuple us) d n) (sym c)
closed_text (parts.Receive k bs b) d n c = refl
closed_text (parts.New os b) d n c = refl
closed_text (parts.Match t cs) d n c = refl
closed_text _ d n c = absurd c

closed_bound : (p : Part) → IsClosedForm p → Formed IsFine name_part (part_tree p) → bound (part_tree p) ≡ []
closed_bound p f h = no_bound IsFine part (part_tree p) tt (closed-formed p f h)

pub closed-writes : (p : Part) (d n : ℕ) (old new : List ℕ) → (Formed IsFine name_part (part_tree p) → IsClosedForm p) → Writes part (part_tree p) d old new → WritesPart (part_tree p) d n n old new
closed-writes p d n old new f w l h = (shown old (closed_text p d n (f h)) (w (closed-formed p (f h) h) n), omega (arith, ap length (closed_bound p (f h) h)))

-- a process is no pattern
pub no_pattern : (ps : List Part) (t : Tree) → t ≡ term_tree ps → Formed IsFine pat t → ⊥
no_pattern ps t e h = (subst (λ (u : Tree). Formed IsFine pat u) e h).1

pub no_name_pattern : (ps : List Part) (t : Tree) → t ≡ term_tree ps → Formed IsFine name_pat t → ⊥
no_name_pattern ps t e h = (subst (λ (u : Tree). Formed IsFine name_pat u) e h).1

-- the text of a process of one part is its part's
pub single-text : (p : Part) (t : Tree) (d n : ℕ) → t ≡ only (part_tree p) → text_of term t d n ≡ text_of part (part_tree p) d n
single-text p t d n e = ap (λ (u : Tree). text_of term u d n) e ∙ ap parallel_text (ordered_texts part (part_tree p ∷ []) 0 d n (tt, tt))

pub ground-text : (g : Ground) (d n : ℕ) → text_of part (ground_tree g) d n ≡ text_of part (ground_tree g) 0 0
ground-text (ground.Bool x) d n = refl
ground-text (ground.Int x) d n = refl
ground-text (ground.Str x) d n = refl
ground-text (ground.Uri x) d n = refl
ground-text (ground.Bytes x) d n = refl

ground_pattern-text : (g : Ground) (d n : ℕ) → text_of pat_part (ground_tree g) d n ≡ text_of part (ground_tree g) 0 0
ground_pattern-text (ground.Bool x) d n = refl
ground_pattern-text (ground.Int x) d n = refl
ground_pattern-text (ground.Str x) d n = refl
ground_pattern-text (ground.Uri x) d n = refl
ground_pattern-text (ground.Bytes x) d n = refl

ground-bound : (g : Ground) → bound (ground_tree g) ≡ []
ground-bound (ground.Bool x) = refl
ground-bound (ground.Int x) = refl
ground-bound (ground.Str x) = refl
ground-bound (ground.Uri x) = refl
ground-bound (ground.Bytes x) = refl

pub ground-writes : (g : Ground) (d n : ℕ) (old new : List ℕ) → new ≡ old ++ text_of part (ground_tree g) 0 0 → WritesPart (ground_tree g) d n n old new
ground-writes g d n old new e l h = (shown old (ground_pattern-text g d n) e, omega (arith, ap length (ground-bound g)))
