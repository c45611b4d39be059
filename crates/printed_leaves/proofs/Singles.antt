-- Processes and patterns of one part, and of other numbers of parts.
use Rattle.std.proofs.Common.{◌≡◌, ℕ, ◌+◌, ◌-◌, Bool, true, false, cond, List, [], ◌∷◌, ◌++◌, length, drop, refl, sym, ap, ◌∙◌, append_assoc, append-nil, codes}
use Rattle.calculus.specs.Tree.{Tree}
use Rattle.calculus.specs.Texts.{to_hex}
use Rattle.calculus.specs.Shape.{held, label_of, only}
use Rattle.calculus.specs.Form.{term}
use Rattle.calculus.specs.Printed.{operand_text, name_text, name_pattern_text, is_drop, braced, variable_text}
use Rattle.calculus.specs.declared.plain.Ground.{Ground}
use Rattle.calculus.specs.declared.plain.Ground.TheVariants as ground
use Rattle.calculus.specs.declared.ids.Digest.{Digest}
use Rattle.rho_term.specs.Parts.{part_tree, ground_tree, term_tree, pat_tree}
use Rattle.rho_term.specs.declared.term.Part.{Part}
use Rattle.rho_term.specs.declared.term.Part.TheVariants as parts
use Rattle.rho_term.specs.declared.term.PatPart.{PatPart}
use Rattle.printed_leaves.specs.Texts.{text_of, WritesName, WritesAs}
use Rattle.printed_leaves.proofs.BindForms.{single-text}

pub operand-others : (ps : List Part) (t : Tree) → t ≡ term_tree ps → (length ps ≡ 1 → ⊥) → (x : List ℕ) → operand_text (held t) x ≡ braced x
operand-others [] t e h x = ap (λ (u : Tree). operand_text (held u) x) e
operand-others (p ∷ []) t e h x = absurd (h refl)
operand-others (p ∷ q ∷ ps) t e h x = ap (λ (u : Tree). operand_text (held u) x) e

pub pattern_operand-others : (ps : List PatPart) (t : Tree) → t ≡ pat_tree ps → (length ps ≡ 1 → ⊥) → (x : List ℕ) → operand_text (held t) x ≡ braced x
pattern_operand-others [] t e h x = ap (λ (u : Tree). operand_text (held u) x) e
pattern_operand-others (p ∷ []) t e h x = absurd (h refl)
pattern_operand-others (p ∷ q ∷ ps) t e h x = ap (λ (u : Tree). operand_text (held u) x) e

pub name_pattern-others : (ps : List PatPart) (t : Tree) → t ≡ pat_tree ps → (length ps ≡ 1 → ⊥) → (x : List ℕ) → name_pattern_text (held t) x ≡ codes "@" ++ operand_text (held t) x
name_pattern-others [] t e h x = ap (λ (u : Tree). name_pattern_text (held u) x) e ∙ sym (ap (λ (u : Tree). codes "@" ++ operand_text (held u) x) e)
name_pattern-others (p ∷ []) t e h x = absurd (h refl)
name_pattern-others (p ∷ q ∷ ps) t e h x = ap (λ (u : Tree). name_pattern_text (held u) x) e ∙ sym (ap (λ (u : Tree). codes "@" ++ operand_text (held u) x) e)

pub name-others : (ps : List Part) (t : Tree) → t ≡ term_tree ps → (length ps ≡ 1 → ⊥) → (x : List ℕ) → name_text (held t) x ≡ codes "@" ++ operand_text (held t) x
name-others [] t e h x = ap (λ (u : Tree). name_text (held u) x) e ∙ sym (ap (λ (u : Tree). codes "@" ++ operand_text (held u) x) e)
name-others (p ∷ []) t e h x = absurd (h refl)
name-others (p ∷ q ∷ ps) t e h x = ap (λ (u : Tree). name_text (held u) x) e ∙ sym (ap (λ (u : Tree). codes "@" ++ operand_text (held u) x) e)

not_drop_ground : (g : Ground) → is_drop (label_of (ground_tree g)) ≡ false
not_drop_ground (ground.Bool x) = refl
not_drop_ground (ground.Int x) = refl
not_drop_ground (ground.Str x) = refl
not_drop_ground (ground.Uri x) = refl
not_drop_ground (ground.Bytes x) = refl

not_drop : (p : Part) → ((i : ℕ) → p ≡ parts.NameVar i → ⊥) → ((d : Digest) → p ≡ parts.Fresh d → ⊥) → is_drop (label_of (part_tree p)) ≡ false
not_drop (parts.NameVar i) h k = absurd (h i refl)
not_drop (parts.Fresh d) h k = absurd (k d refl)
not_drop (parts.Ground g) h k = not_drop_ground g
not_drop _ h k = refl

pub name-quoted : (p : Part) (t : Tree) → t ≡ only (part_tree p) → ((i : ℕ) → p ≡ parts.NameVar i → ⊥) → ((d : Digest) → p ≡ parts.Fresh d → ⊥) → (x : List ℕ)
    → name_text (held t) x ≡ codes "@" ++ operand_text (held t) x
name-quoted p t e h k x =
    ap (λ (u : Tree). name_text (held u) x) e
    ∙ ap (λ (b : Bool). cond b (drop 1 x) (codes "@" ++ operand_text (part_tree p ∷ []) x)) (not_drop p h k)
    ∙ sym (ap (λ (u : Tree). codes "@" ++ operand_text (held u) x) e)

-- a name variable and a fresh name, without the star of their drop
pub name_variable-text : (i : ℕ) (p : Part) (t : Tree) (d n : ℕ) → t ≡ only (part_tree p) → p ≡ parts.NameVar i → name_text (held t) (text_of term t d n) ≡ variable_text (d - (i + 1))
name_variable-text i p t d n e f =
    let g = e ∙ ap (λ (q : Part). only (part_tree q)) f in
    ap (λ (u : Tree). name_text (held u) (text_of term u d n)) g ∙ ap (drop 1) (single-text (parts.NameVar i) (only (part_tree (parts.NameVar i))) d n refl)

pub fresh_name-text : (x : Digest) (p : Part) (t : Tree) (d n : ℕ) → t ≡ only (part_tree p) → p ≡ parts.Fresh x → name_text (held t) (text_of term t d n) ≡ codes "$" ++ to_hex x.0
fresh_name-text x p t d n e f =
    let g = e ∙ ap (λ (q : Part). only (part_tree q)) f in
    ap (λ (u : Tree). name_text (held u) (text_of term u d n)) g ∙ ap (drop 1) (single-text (parts.Fresh x) (only (part_tree (parts.Fresh x))) d n refl)

-- the sign of a name, behind which an operand completes it
pub sign_written : (b : Bool) (t : Tree) (d : ℕ) (old new : List ℕ) → b ≡ false → new ≡ old ++ codes "@" → ((x : List ℕ) → name_text (held t) x ≡ codes "@" ++ operand_text (held t) x)
    → WritesName (λ x. cond b [] (operand_text (held t) x)) t d old new
sign_written b t d old new z p e n =
    let x = operand_text (held t) (text_of term t d n) in
    ap (λ (c : Bool). new ++ cond c [] x) z ∙ ap (λ (u : List ℕ). u ++ x) p ∙ append_assoc old (codes "@") x ∙ ap (λ (u : List ℕ). old ++ u) (sym (e (text_of term t d n)))

-- a whole name
pub whole_written : (t : Tree) (d : ℕ) (old new : List ℕ) → ((n : ℕ) → new ≡ old ++ name_text (held t) (text_of term t d n)) → WritesName (λ x. []) t d old new
whole_written t d old new e n = append-nil new ∙ e n

-- a name that was whole, and one that an operand completed
pub name_whole : (b : Bool) (t : Tree) (d : ℕ) (old new : List ℕ) → b ≡ true → WritesName (λ x. cond b [] (operand_text (held t) x)) t d old new → WritesAs (name_text (held t)) t d old new
name_whole b t d old new z e h n =
    let x = operand_text (held t) (text_of term t d n) in
    sym (append-nil new) ∙ ap (λ (c : Bool). new ++ cond c [] x) (sym z) ∙ e n

pub name_completed : (b : Bool) (t : Tree) (d : ℕ) (old mid new : List ℕ) → b ≡ false → WritesName (λ x. cond b [] (operand_text (held t) x)) t d old mid → WritesAs (operand_text (held t)) t d mid new
    → WritesAs (name_text (held t)) t d old new
name_completed b t d old mid new z e w h n =
    let x = operand_text (held t) (text_of term t d n) in
    w h n ∙ ap (λ (c : Bool). mid ++ cond c [] x) (sym z) ∙ e n
