-- Which forms of a pattern are compared with their targets.
use Rattle.std.proofs.Common.{◌≡◌, ◌<◌, ◌≤◌, Bool, List, [], ◌∷◌, length, get_or, refl, sym, ap, ◌∙◌, subst, arith}
use Rattle.calculus.specs.Tree.{Label, Tree, node, par, tuple}
use Rattle.calculus.specs.Shape.{label_of, many, only}
use Rattle.calculus.specs.Form.{term}
use Rattle.calculus.specs.Congruence.{congruent}
use Rattle.calculus.specs.Matching.{one_if}
use Rattle.calculus.specs.declared.plain.Ground.TheVariants as ground_forms
use Rattle.calculus.specs.declared.plain.Rights.{Rights}
use Rattle.rho_term.specs.Parts.{part_tree}
use Rattle.rho_term.specs.declared.term.Part.{Part}
use Rattle.rho_term.specs.declared.term.Part.TheVariants as part
use Rattle.std.specs.declared.vec.Vec.{Vec}
use Rattle.std.specs.declared.alloc.Global.{Global}
use Rattle.match_targets.specs.Targets.{Ready}
use Rattle.spatial_match.specs.Given.{OwnReady, Tries, IsCompared}
use Rattle.spatial_match.specs.Found.{found}
use Rattle.calculus.specs.Tree.{bool, int, str, uri, bytes, receive, new, match}

-- no process stands in a pattern but where it is compared
pub no_process : (t : Tree) → label_of t ≡ par → Tries t → ⊥
no_process (node l ts) e h = let P : Label → Type 0 = λ m. OwnReady m (node l ts) in subst P e h.0

pub no_tuple : (ts : List Tree) (t : Tree) → 0 < length ts → t ≡ get_or ts 0 t → label_of t ≡ par → Tries (many tuple ts) → ⊥
no_tuple [] t l q e h = absurd (omega arith)
no_tuple (u ∷ ts) t l q e h = no_process u (ap label_of (sym q) ∙ e) h.1.0

pub no_empty : (ts : List Tree) → length ts ≤ 0 → Tries (many tuple ts) → ⊥
no_empty [] l h = absurd (omega (arith, h.0))
no_empty (t ∷ ts) l h = absurd (omega arith)

pub no_send : (q : Bool) (c : Tree) (xs : Vec Tree Global) → label_of c ≡ par → Tries (part_tree (part.Send c xs q)) → ⊥
no_send q c xs e h = no_process c e h.1.0

pub no_bundle : (r : Rights) (b : Tree) → label_of b ≡ par → Tries (part_tree (part.Bundle r b)) → ⊥
no_bundle r b e h = no_process b e h.1.0

pub others : (p : Part) → ((ts : Vec Tree Global) → p ≡ part.Tuple ts → ⊥) → ((c : Tree) (xs : Vec Tree Global) (q : Bool) → p ≡ part.Send c xs q → ⊥)
    → ((r : Rights) (b : Tree) → p ≡ part.Bundle r b → ⊥) → Tries (part_tree p) → IsCompared (part_tree p)
others (part.Ground (ground_forms.Bool x)) a b c h = h.0
others (part.Ground (ground_forms.Int x)) a b c h = h.0
others (part.Ground (ground_forms.Str x)) a b c h = h.0
others (part.Ground (ground_forms.Uri x)) a b c h = h.0
others (part.Ground (ground_forms.Bytes x)) a b c h = h.0
others (part.Tuple ts) a b c h = absurd (a ts refl)
others (part.Send x xs q) a b c h = absurd (b x xs q refl)
others (part.Bundle r x) a b c h = absurd (c r x refl)
others (part.Receive k bs x) a b c h = h.0
others (part.New os x) a b c h = h.0
others (part.Match x cs) a b c h = h.0
others _ a b c h = absurd h.0

-- what is compared is found where it is congruent
pub compared-found : (t u : Tree) → IsCompared t → one_if (congruent t u) ≡ found t u
compared-found (node (bool x) ts) u h = refl
compared-found (node (int x) ts) u h = refl
compared-found (node (str x) ts) u h = refl
compared-found (node (uri x) ts) u h = refl
compared-found (node (bytes x) ts) u h = refl
compared-found (node (receive k) ts) u h = refl
compared-found (node (new os) ts) u h = refl
compared-found (node match ts) u h = refl
compared-found (node _ ts) u h = absurd h

pub compared-ready : (t : Tree) → IsCompared t → Ready term (only t)
compared-ready (node (bool x) ts) h = h
compared-ready (node (int x) ts) h = h
compared-ready (node (str x) ts) h = h
compared-ready (node (uri x) ts) h = h
compared-ready (node (bytes x) ts) h = h
compared-ready (node (receive k) ts) h = h
compared-ready (node (new os) ts) h = h
compared-ready (node match ts) h = h
compared-ready (node _ ts) h = absurd h
