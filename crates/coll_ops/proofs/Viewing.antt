-- What processes of one part are seen as, and what stands in them.
use Rattle.std.proofs.Common.{◌≡◌, ℕ, Bool, List, [], ◌∷◌, length, map, refl, sym, ap, ◌∙◌, subst, All}
use Rattle.std.specs.Prelude.{Result, Vec}
use Rattle.std.specs.declared.alloc.Global.{Global}
use Rattle.std.proofs.lemmas.List.Elements.{All-nil, All-cons}
use Rattle.calculus.specs.declared.fault.FaultKind.{FaultKind}
use Rattle.calculus.specs.declared.plain.BinaryOp.{BinaryOp}
use Rattle.calculus.specs.declared.plain.BinaryOp.TheVariants as op
use Rattle.calculus.specs.Tree.{list, tuple, set, dict, par, pair, Tree, none, also, trees}
use Rattle.calculus.specs.Shape.{many, only}
use Rattle.calculus.specs.Order.{IsAscending}
use Rattle.calculus.specs.Code.{code, codes}
use Rattle.calculus.specs.CodeLaws.{IsShort}
use Rattle.calculus.specs.Form.{term, pair_of, all, Hold}
use Rattle.calculus.specs.Variables.{Sense}
use Rattle.calculus.specs.Methods.{among_methods, methods}
use Rattle.calculus.specs.Operators.{Seen, a_list, a_tuple, a_set, a_map, other, seen, seen_part, on_kinds, binary_answer}
use Rattle.calculus.proofs.Placing.{listed-trees}
use Rattle.calculus.proofs.Splitting.{AreShort, kids-short, first-short, rest-short}
use Rattle.rho_term.specs.Parts.{part_tree, pair_tree}
use Rattle.rho_term.specs.Normal.{IsNormal}
use Rattle.rho_term.specs.declared.term.Part.{Part}
use Rattle.rho_term.specs.declared.term.Part.TheVariants as part_of
use Rattle.value_ops.specs.Answers.{IsOperand}
use Rattle.coll_ops.specs.Keys.{Ascend}
use Rattle.coll_ops.specs.Views.{ArePairs, IsNoEquality, IsValue, Tells}
use Rattle.coll_ops.proofs.Members.{all-each, key_code, keys-up, up-asc}

-- one part is seen as what it is
pub seen_list : (t : Tree) (ts : List Tree) → t ≡ only (many list ts) → seen t ≡ a_list ts
seen_list t ts e = ap seen e ∙ ap a_list (listed-trees ts)

pub seen_tuple : (t : Tree) (ts : List Tree) → t ≡ only (many tuple ts) → seen t ≡ a_tuple ts
seen_tuple t ts e = ap seen e ∙ ap a_tuple (listed-trees ts)

pub seen_set : (t : Tree) (ts : List Tree) → t ≡ only (many set ts) → seen t ≡ a_set ts
seen_set t ts e = ap seen e ∙ ap a_set (listed-trees ts)

pub seen_map : (t : Tree) (ts : List Tree) → t ≡ only (many dict ts) → seen t ≡ a_map ts
seen_map t ts e = ap seen e ∙ ap a_map (listed-trees ts)

-- members of a closed form of short code are operands
members : (o : List Sense) (ts : List Tree) → Hold (all term) [] o (trees ts) → AreShort (trees ts) → All IsOperand ts
members o [] h s = All-nil IsOperand
members o (t ∷ ts) h s = All-cons IsOperand t ts (record { closed = h.0; short = first-short t (trees ts) s }) (members o ts h.1 (rest-short t (trees ts) s))

pairs : (o : List Sense) (ps : List (Tree × Tree)) → Hold (all (pair_of term)) [] o (trees (map pair_tree ps)) → AreShort (trees (map pair_tree ps)) → All (λ p. IsOperand p.0) ps
pairs o [] h s = All-nil (λ p. IsOperand p.0)
pairs o (p ∷ ps) h s =
    let k : AreShort (also p.0 (also p.1 none)) = kids-short pair (also p.0 (also p.1 none)) (first-short (pair_tree p) (trees (map pair_tree ps)) s) in
    All-cons (λ q. IsOperand q.0) p ps (record { closed = h.0.1.0; short = first-short p.0 (also p.1 none) k }) (pairs o ps h.1 (rest-short (pair_tree p) (trees (map pair_tree ps)) s))

-- the one part of an operand has a short code
part_short : (t : Tree) → IsShort (only t) → IsShort t
part_short t s = first-short t none (kids-short par (also t none) s)

pub list_operands : (t : Tree) (ts : List Tree) → t ≡ only (many list ts) → IsOperand t → All IsOperand ts
list_operands t ts e h =
    let k : IsOperand (only (many list ts)) = subst IsOperand e h in
    members [] ts k.closed.1.0.1 (kids-short list (trees ts) (part_short (many list ts) k.short))

pub set_operands : (t : Tree) (ts : List Tree) → t ≡ only (many set ts) → IsOperand t → All IsOperand ts
set_operands t ts e h =
    let k : IsOperand (only (many set ts)) = subst IsOperand e h in
    members [] ts k.closed.1.0.1 (kids-short set (trees ts) (part_short (many set ts) k.short))

pub map_operands : (t : Tree) (ps : List (Tree × Tree)) → t ≡ only (many dict (map pair_tree ps)) → IsOperand t → All (λ p. IsOperand p.0) ps
map_operands t ps e h =
    let k : IsOperand (only (many dict (map pair_tree ps))) = subst IsOperand e h in
    pairs [] ps k.closed.1.0.1 (kids-short dict (trees (map pair_tree ps)) (part_short (many dict (map pair_tree ps)) k.short))

-- members of a set, and pairs of a map, in normal order ascend
codes-map : (ts : List Tree) → codes (trees ts) ≡ map code ts
codes-map [] = refl
codes-map (t ∷ ts) = ap (λ cs. code t ∷ cs) (codes-map ts)

pub set_up : (t : Tree) (ts : List Tree) → t ≡ only (many set ts) → IsNormal t → IsAscending (map code ts)
set_up t ts e n = let k : IsNormal (only (many set ts)) = subst IsNormal e n in subst IsAscending (codes-map ts) k.1.0.0

pub map_up : (t : Tree) (ts : List Tree) → t ≡ only (many dict ts) → IsNormal t → IsAscending (map code ts)
map_up t ts e n = let k : IsNormal (only (many dict ts)) = subst IsNormal e n in subst IsAscending (codes-map ts) k.1.0.0

-- an operator that is no equality goes by the kinds of its operands
pub by_kinds : (o : BinaryOp) (a b : Tree) → IsNoEquality o → binary_answer o a b ≡ on_kinds o (seen a) (seen b)
unfolding binary_answer
by_kinds op.Eq a b h = absurd h
by_kinds op.Ne a b h = absurd h
by_kinds op.Or a b h = refl
by_kinds op.And a b h = refl
by_kinds op.Lt a b h = refl
by_kinds op.Le a b h = refl
by_kinds op.Gt a b h = refl
by_kinds op.Ge a b h = refl
by_kinds op.Add a b h = refl
by_kinds op.Sub a b h = refl
by_kinds op.Append a b h = refl
by_kinds op.Minus a b h = refl
by_kinds op.Mul a b h = refl
by_kinds op.Div a b h = refl
by_kinds op.Rem a b h = refl

-- more parts than one, or none
pub seen_other : (ps : List Part) → (length ps ≡ 1 → ⊥) → seen (many par (map part_tree ps)) ≡ other
seen_other [] h = refl
seen_other (p ∷ []) h = absurd (h refl)
seen_other (p ∷ q ∷ ps) h = refl

-- the members of a set that is a value, and the pairs of a map
pub set-value : (t : Tree) (ts : List Tree) → t ≡ only (many set ts) → IsValue t → Ascend (λ x. x) ts
set-value t ts e v = record { keys = set_operands t ts e v.operand; up = set_up t ts e v.normal }

pub map-value : (t : Tree) (ps : List (Tree × Tree)) → t ≡ only (many dict (map pair_tree ps)) → IsValue t → ArePairs ps
map-value t ps e v = record { keys = map_operands t ps e v.operand; up = map_up t (map pair_tree ps) e v.normal }

pub as-value : (t u : Tree) → t ≡ u → IsOperand t → IsNormal t → IsValue u
as-value t u e h n = record { operand = subst IsOperand e h; normal = subst IsNormal e n }

-- pairs that ascend do so in their keys
pub pairs-ascend : (ps : List (Tree × Tree)) → ArePairs ps → Ascend (λ p. p.0) ps
pairs-ascend ps v = record { keys = v.keys; up = up-asc key_code ps (keys-up ps (all-each (λ p. IsOperand p.0) ps v.keys) v.up) }

-- one member, and one pair
pub one-member : (t : Tree) (ts : List Tree) → ts ≡ t ∷ [] → IsOperand t → Ascend (λ x. x) ts
one-member t ts e h = subst (Ascend (λ x. x)) (sym e) (record { keys = All-cons IsOperand t [] h (All-nil IsOperand); up = (tt, tt) })

pub one-pair : (p : Tree × Tree) (ps : List (Tree × Tree)) → ps ≡ p ∷ [] → IsOperand p.0 → ArePairs ps
one-pair p ps e h = subst ArePairs (sym e) (record { keys = All-cons (λ q. IsOperand q.0) p [] h (All-nil (λ q. IsOperand q.0)); up = (tt, tt) })

-- what was told of operands, and of a target, as they are seen
pub both-seen : (b : Bool) (o : BinaryOp) (s r v w : Seen) (res : Result Tree FaultKind) → s ≡ v → r ≡ w → Tells b (on_kinds o v w) res → Tells b (on_kinds o s r) res
both-seen b o s r v w res e f h = subst (λ x. Tells b (on_kinds o x r) res) (sym e) (subst (λ x. Tells b (on_kinds o v x) res) (sym f) h)

pub target-seen : (b : Bool) (n : List ℕ) (xs : List Tree) (s v : Seen) (res : Result Tree FaultKind) → s ≡ v → Tells b (among_methods n xs (methods v)) res → Tells b (among_methods n xs (methods s)) res
target-seen b n xs s v res e h = subst (λ x. Tells b (among_methods n xs (methods x)) res) (sym e) h

-- a part is seen as what it is
pub list-seen : (p : Part) (v : Vec Tree Global) (ts : List Tree) → p ≡ part_of.List v → ts ≡ v.items → seen_part (part_tree p) ≡ a_list ts
list-seen p v ts e f = ap (λ q. seen_part (part_tree q)) e ∙ ap a_list (listed-trees v.items ∙ sym f)

pub set-seen : (p : Part) (v : Vec Tree Global) (ts : List Tree) → p ≡ part_of.Set v → ts ≡ v.items → seen_part (part_tree p) ≡ a_set ts
set-seen p v ts e f = ap (λ q. seen_part (part_tree q)) e ∙ ap a_set (listed-trees v.items ∙ sym f)

pub map-seen : (p : Part) (v : Vec (Tree × Tree) Global) (ps : List (Tree × Tree)) → p ≡ part_of.Map v → ps ≡ v.items → seen_part (part_tree p) ≡ a_map (map pair_tree ps)
map-seen p v ps e f = ap (λ q. seen_part (part_tree q)) e ∙ ap a_map (listed-trees (map pair_tree v.items) ∙ ap (map pair_tree) (sym f))

pub set-part : (p : Part) (v : Vec Tree Global) (ts : List Tree) → p ≡ part_of.Set v → ts ≡ v.items → IsValue (only (part_tree p)) → Ascend (λ x. x) ts
set-part p v ts e f h = set-value (only (part_tree p)) ts (ap (λ q. only (part_tree q)) e ∙ ap (λ l. only (many set l)) (sym f)) h

pub map-part : (p : Part) (v : Vec (Tree × Tree) Global) (ps : List (Tree × Tree)) → p ≡ part_of.Map v → ps ≡ v.items → IsValue (only (part_tree p)) → ArePairs ps
map-part p v ps e f h = map-value (only (part_tree p)) ps (ap (λ q. only (part_tree q)) e ∙ ap (λ l. only (many dict (map pair_tree l))) (sym f)) h
