-- What is counted of a form, from what was counted of its constituents.
use Rattle.std.proofs.Common.{◌≡◌, ℕ, ◌+◌, ◌-◌, max, List, [], ◌∷◌, length, refl, ap, sym, ◌∙◌, arith}
use Rattle.std.specs.Prelude.{string_bytes, Vec}
use Rattle.std.specs.declared.alloc.Global.{Global}
use Rattle.calculus.specs.Form.{Sort, these, all, kids, row_of, pair_of, term, a_bind, a_case, a_rest, pat, name_pat, part, pat_part, name_part}
use Rattle.calculus.specs.Shape.{count, leaf, one, two, many}
use Rattle.calculus.specs.Size.{rise, height, heights}
use Rattle.calculus.specs.Tree.{Label, Tree, none, also, bool, int, str, uri, bytes, row, rest, tuple, trees}
use Rattle.calculus.specs.declared.plain.Ground.{Ground}
use Rattle.calculus.specs.declared.plain.Ground.TheVariants as ground
use Rattle.calculus.specs.declared.plain.Origin.{Origin}
use Rattle.calculus.specs.declared.plain.TermRest.{TermRest}
use Rattle.rho_term.specs.Faults.{own_faults, faults, all_faults}
use Rattle.rho_term.specs.Measured.{IsMeasured, IsFormMeasured, IsLeaf, IsJoin, IsOne, IsTwo, IsTuple}
use Rattle.rho_term.specs.Measures.{in_u32, sign}
use Rattle.rho_term.specs.Parts.{bind_tree, case_tree, ground_tree, pair_tree, part_tree, pat_part_tree}
use Rattle.rho_term.specs.Sizes.{in_u64, head_size, size, sizes}
use Rattle.rho_term.specs.Taken.{IsNoBundle, IsNoMatch, IsNoReceive, IsNoSend}
use Rattle.rho_term.specs.declared.measures.Measures.{Measures}
use Rattle.rho_term.specs.declared.term.Part.{Part}
use Rattle.rho_term.specs.declared.term.Part.TheVariants as parts
use Rattle.rho_term.specs.declared.term.PatPart.{PatPart}
use Rattle.rho_term.specs.declared.term.PatPart.TheVariants as pats
use Rattle.rho_term.specs.declared.term.TermBind.{TermBind}
use Rattle.rho_term.specs.declared.term.TermCase.{TermCase}

pub count-trees : (ts : List Tree) → count (trees ts) ≡ length ts
count-trees [] = refl
count-trees (t ∷ ts) = omega (arith, count-trees ts)

-- a form without constituents
pub leaf-form : (s : Sort) (l : Label) (m : Measures) → kids s l 0 ≡ these [] → own_faults l none ≡ 0 → rise l ≡ 0 → IsLeaf (in_u64 (size (leaf l))) m → IsFormMeasured s (leaf l) m
leaf-form s l m k o r e =
    let f : all_faults (kids s l 0) none ≡ 0 = ap (λ w. all_faults w none) k in
    let h : m.height ≡ 0 = e.0 in
    let g : m.faults ≡ 0 = e.1 in
    (λ w. (w, tt), (omega arith, omega arith, e.2))

-- a form over one constituent, in numbers
height-one : (a m x r : ℕ) → a ≡ in_u32 x → m ≡ in_u32 (a + 1) → r ≡ 1 → m ≡ in_u32 (r + max x 0)
height-one a m x r h k q = omega arith

faults-one : (a m x w o : ℕ) → a ≡ sign x → m ≡ a → o ≡ 0 → w ≡ x + 0 → m ≡ sign (o + w)
faults-one a m x w o h k q e = omega arith

length-one : (a m x k n : ℕ) → a ≡ in_u64 x → m ≡ in_u64 (k + a) → in_u64 n ≡ in_u64 k → m ≡ in_u64 (n + (x + 0))
length-one a m x k n h e q = omega arith

pub one-form : (s p : Sort) (l : Label) (t : Tree) (k : ℕ) (a m : Measures) → kids s l 0 ≡ these (p ∷ []) → own_faults l (also t none) ≡ 0 → rise l ≡ 1 → in_u64 (head_size l) ≡ in_u64 k
    → IsMeasured p t a → IsOne k a m → IsFormMeasured s (one l t) m
one-form s p l t k a m e o r n x z = (
  λ w. (w, (x.0, tt)),
  (
    height-one a.height m.height (height t) (rise l) x.1.0 z.0 r,
    faults-one a.faults m.faults (faults p t) (all_faults (kids s l 0) (also t none)) (own_faults l (also t none)) x.1.1 z.1 o (ap (λ w. all_faults w (also t none)) e),
    length-one a.length m.length (size t) k (head_size l) x.1.2 z.2 n,
  ),
)

-- a form over two constituents, in numbers
height-two : (a b m x y r : ℕ) → a ≡ in_u32 x → b ≡ in_u32 y → m ≡ in_u32 (max a b + 1) → r ≡ 1 → m ≡ in_u32 (r + max x (max y 0))
height-two a b m x y r h g k q = omega arith

faults-two : (a b m x y w o : ℕ) → a ≡ sign x → b ≡ sign y → m ≡ max a b → o ≡ 0 → w ≡ x + (y + 0) → m ≡ sign (o + w)
faults-two a b m x y w o h g k q e = omega arith

length-two : (a b m x y k n : ℕ) → a ≡ in_u64 x → b ≡ in_u64 y → m ≡ in_u64 (k + (a + b)) → in_u64 n ≡ in_u64 k → m ≡ in_u64 (n + (x + (y + 0)))
length-two a b m x y k n h g e q = omega arith

pub two-form : (s p q : Sort) (l : Label) (t u : Tree) (k : ℕ) (a b m : Measures) → kids s l 0 ≡ these (p ∷ q ∷ []) → own_faults l (also t (also u none)) ≡ 0 → rise l ≡ 1 → in_u64 (head_size l) ≡ in_u64 k
    → IsMeasured p t a → IsMeasured q u b → IsTwo k a b m → IsFormMeasured s (two l t u) m
two-form s p q l t u k a b m e o r n x y z =
    let ts = also t (also u none) in (
      λ w. (w, (x.0, (y.0, tt))),
      (
        height-two a.height b.height m.height (height t) (height u) (rise l) x.1.0 y.1.0 z.0 r,
        faults-two a.faults b.faults m.faults (faults p t) (faults q u) (all_faults (kids s l 0) ts) (own_faults l ts) x.1.1 y.1.1 z.1 o (ap (λ w. all_faults w ts) e),
        length-two a.length b.length m.length (size t) (size u) k (head_size l) x.1.2 y.1.2 z.2 n,
      ),
    )

-- a form over a remainder beside one constituent, in numbers
faults-rest : (a m x w o : ℕ) → a ≡ sign x → m ≡ a → o ≡ 0 → w ≡ x + 0 → m ≡ sign (o + w)
faults-rest a m x w o h k q e = omega arith

length-rest : (a m x k n : ℕ) → a ≡ in_u64 x → m ≡ in_u64 (k + a) → in_u64 (n + 1) ≡ in_u64 k → m ≡ in_u64 (n + (x + 1))
length-rest a m x k n h e q = omega arith

pub rest-form : (s p : Sort) (l : Label) (t : Tree) (d : TermRest) (k : ℕ) (a m : Measures) → kids s l 0 ≡ these (p ∷ a_rest ∷ []) → own_faults l (also t (also (leaf (rest d)) none)) ≡ 0 → rise l ≡ 1
    → in_u64 (head_size l + 1) ≡ in_u64 k → IsMeasured p t a → IsOne k a m → IsFormMeasured s (two l t (leaf (rest d))) m
rest-form s p l t d k a m e o r n x z =
    let ts = also t (also (leaf (rest d)) none) in (
      λ w. (w, (x.0, ((tt, tt), tt))),
      (
        height-one a.height m.height (height t) (rise l) x.1.0 z.0 r,
        faults-rest a.faults m.faults (faults p t) (all_faults (kids s l 0) ts) (own_faults l ts) x.1.1 z.1 o (ap (λ w. all_faults w ts) e),
        length-rest a.length m.length (size t) k (head_size l) x.1.2 z.2 n,
      ),
    )

-- a form over what stands in a row, in numbers
height-many : (a m x r : ℕ) → a ≡ in_u32 (0 + x) → m ≡ in_u32 (a + 1) → r ≡ 1 → m ≡ in_u32 (r + x)
height-many a m x r h k q = omega arith

faults-many : (a m x w o : ℕ) → a ≡ sign (0 + x) → m ≡ a → o ≡ 0 → w ≡ x → m ≡ sign (o + w)
faults-many a m x w o h k q e = omega arith

length-many : (a m x k n : ℕ) → a ≡ in_u64 (4 + x) → m ≡ in_u64 (k + a) → in_u64 n ≡ in_u64 (k + 4) → m ≡ in_u64 (n + x)
length-many a m x k n h e q = omega arith

pub many-form : (s p : Sort) (l : Label) (ts : List Tree) (k : ℕ) (a m : Measures) → kids s l 0 ≡ all p → own_faults l (trees ts) ≡ 0 → rise l ≡ 1 → in_u64 (head_size l) ≡ in_u64 (k + 4)
    → IsMeasured (row_of p) (many row ts) a → IsOne k a m → IsFormMeasured s (many l ts) m
many-form s p l ts k a m e o r n x z = (
  λ w. (w, x.0.1),
  (
    height-many a.height m.height (heights (trees ts)) (rise l) x.1.0 z.0 r,
    faults-many a.faults m.faults (all_faults (all p) (trees ts)) (all_faults (kids s l 0) (trees ts)) (own_faults l (trees ts)) x.1.1 z.1 o (ap (λ w. all_faults w (trees ts)) e),
    length-many a.length m.length (sizes (trees ts)) k (head_size l) x.1.2 z.2 n,
  ),
)

faults-tuple : (a m x w n q : ℕ) → a ≡ sign (0 + x) → m ≡ max a (1 - n) → q ≡ n → w ≡ x → m ≡ sign ((1 - q) + w)
faults-tuple a m x w n q h k r e = omega arith

pub tuple-form : (s p : Sort) (ts : List Tree) (n : ℕ) (a m : Measures) → kids s tuple 0 ≡ all p → n ≡ length ts → IsMeasured (row_of p) (many row ts) a → IsTuple n a m → IsFormMeasured s (many tuple ts) m
tuple-form s p ts n a m e h x z = (
  λ w. (w, x.0.1),
  (
    height-many a.height m.height (heights (trees ts)) 1 x.1.0 z.0 refl,
    faults-tuple a.faults m.faults (all_faults (all p) (trees ts)) (all_faults (kids s tuple 0) (trees ts)) n (count (trees ts)) x.1.1 z.1 (count-trees ts ∙ sym h) (ap (λ w. all_faults w (trees ts)) e),
    length-many a.length m.length (sizes (trees ts)) 1 5 x.1.2 z.2 refl,
  ),
)

-- a ground value, as a part of a process and as one of a pattern
pub ground-form : (g : Ground) (m : Measures) → IsLeaf (in_u64 (size (ground_tree g))) m → IsFormMeasured part (ground_tree g) m × IsFormMeasured pat_part (ground_tree g) m
ground-form (ground.Bool x) m e = (leaf-form part (bool x) m refl refl refl e, leaf-form pat_part (bool x) m refl refl refl e)
ground-form (ground.Int x) m e = (leaf-form part (int x) m refl refl refl e, leaf-form pat_part (int x) m refl refl refl e)
ground-form (ground.Str x) m e = (leaf-form part (str (string_bytes x)) m refl refl refl e, leaf-form pat_part (str (string_bytes x)) m refl refl refl e)
ground-form (ground.Uri x) m e = (leaf-form part (uri (string_bytes x)) m refl refl refl e, leaf-form pat_part (uri (string_bytes x)) m refl refl refl e)
ground-form (ground.Bytes x) m e = (leaf-form part (bytes x.items) m refl refl refl e, leaf-form pat_part (bytes x.items) m refl refl refl e)

-- two constituents that nothing stands before, in numbers
height-flat : (a b m x y : ℕ) → a ≡ in_u32 x → b ≡ in_u32 y → m ≡ max a b → m ≡ in_u32 (0 + max x (max y 0))
height-flat a b m x y h g k = omega arith

faults-flat : (a b m x y : ℕ) → a ≡ sign x → b ≡ sign y → m ≡ max a b → m ≡ sign (0 + (x + (y + 0)))
faults-flat a b m x y h g k = omega arith

length-flat : (a b m x y : ℕ) → a ≡ in_u64 x → b ≡ in_u64 y → m ≡ in_u64 (a + b) → m ≡ in_u64 (0 + (x + (y + 0)))
length-flat a b m x y h g k = omega arith

-- a key with its value
pub pair-measured : (s : Sort) (p : Tree × Tree) (a b m : Measures) → IsMeasured s p.0 a → IsMeasured s p.1 b → IsJoin a b m → IsMeasured (pair_of s) (pair_tree p) m
pair-measured s p a b m x y z = (
  (tt, (x.0, (y.0, tt))),
  (
    height-flat a.height b.height m.height (height p.0) (height p.1) x.1.0 y.1.0 z.0,
    faults-flat a.faults b.faults m.faults (faults s p.0) (faults s p.1) x.1.1 y.1.1 z.1,
    length-flat a.length b.length m.length (size p.0) (size p.1) x.1.2 y.1.2 z.2,
  ),
)

-- a case
pub case-measured : (d : TermCase) (a b m : Measures) → IsMeasured pat d.pat a → IsMeasured term d.body b → IsJoin a b m → IsMeasured a_case (case_tree d) m
case-measured d a b m x y z = (
  (tt, (x.0, (y.0, tt))),
  (
    height-flat a.height b.height m.height (height d.pat) (height d.body) x.1.0 y.1.0 z.0,
    faults-flat a.faults b.faults m.faults (faults pat d.pat) (faults term d.body) x.1.1 y.1.1 z.1,
    length-flat a.length b.length m.length (size d.pat) (size d.body) x.1.2 y.1.2 z.2,
  ),
)

-- a bind, in numbers: its channel, and a leaf with the patterns
height-bind : (a l b q m x y : ℕ) → a ≡ in_u32 x → l ≡ 0 → b ≡ in_u32 y → q ≡ max l b → m ≡ max a q → m ≡ in_u32 (0 + max x (max y 0))
height-bind a l b q m x y h n g j k = omega arith

faults-bind : (a l b q m x y : ℕ) → a ≡ sign x → l ≡ 0 → b ≡ sign y → q ≡ max l b → m ≡ max a q → m ≡ sign (0 + (x + (y + 0)))
faults-bind a l b q m x y h n g j k = omega arith

length-bind : (a l b q m x y : ℕ) → a ≡ in_u64 x → l ≡ 1 → b ≡ in_u64 y → q ≡ in_u64 (l + b) → m ≡ in_u64 (a + q) → m ≡ in_u64 (0 + (x + (y + 1)))
length-bind a l b q m x y h n g j k = omega arith

pub bind-measured : (d : TermBind) (a l b q m : Measures) → IsMeasured term d.channel a → IsLeaf 1 l → IsMeasured (row_of name_pat) (many row d.pats.items) b → IsJoin l b q → IsJoin a q m → IsMeasured a_bind (bind_tree d) m
bind-measured d a l b q m x n y j z =
    let ts = many row d.pats.items in (
      (tt, (x.0, (y.0, ((tt, tt), tt)))),
      (
        height-bind a.height l.height b.height q.height m.height (height d.channel) (height ts) x.1.0 n.0 y.1.0 j.0 z.0,
        faults-bind a.faults l.faults b.faults q.faults m.faults (faults term d.channel) (faults (row_of name_pat) ts) x.1.1 n.1 y.1.1 j.1 z.1,
        length-bind a.length l.length b.length q.length m.length (size d.channel) (size ts) x.1.2 n.2 y.1.2 j.2 z.2,
      ),
    )

-- a ground value has no fault in a pattern
pub ground-faultless : (g : Ground) → 0 ≡ sign (faults pat_part (ground_tree g))
ground-faultless (ground.Bool x) = refl
ground-faultless (ground.Int x) = refl
ground-faultless (ground.Str x) = refl
ground-faultless (ground.Uri x) = refl
ground-faultless (ground.Bytes x) = refl

-- what is no name variable has the same faults as the one part of a pattern of names
ground-name : (g : Ground) → faults name_part (ground_tree g) ≡ faults pat_part (ground_tree g)
ground-name (ground.Bool x) = refl
ground-name (ground.Int x) = refl
ground-name (ground.Str x) = refl
ground-name (ground.Uri x) = refl
ground-name (ground.Bytes x) = refl

closed-name : (p : Part) → faults name_part (part_tree p) ≡ faults pat_part (part_tree p)
closed-name (parts.Ground g) = ground-name g
closed-name (parts.Fresh d) = refl
closed-name (parts.Var i) = refl
closed-name (parts.NameVar i) = refl
closed-name (parts.List ts) = refl
closed-name (parts.Tuple ts) = refl
closed-name (parts.Set ts) = refl
closed-name (parts.Map ps) = refl
closed-name (parts.Send c xs p) = refl
closed-name (parts.Receive k bs b) = refl
closed-name (parts.New os b) = refl
closed-name (parts.Match t cs) = refl
closed-name (parts.Bundle r b) = refl
closed-name (parts.Unary o a) = refl
closed-name (parts.Binary o a b) = refl
closed-name (parts.Method m t xs) = refl

pub name-same : (p : PatPart) → (p ≡ pats.NameVar → ⊥) → faults name_part (pat_part_tree p) ≡ faults pat_part (pat_part_tree p)
name-same pats.Wild h = refl
name-same pats.Var h = refl
name-same pats.NameVar h = absurd (h refl)
name-same (pats.Simple k) h = refl
name-same (pats.Same t) h = refl
name-same (pats.Ground g) h = ground-name g
name-same (pats.Both a b) h = refl
name-same (pats.Either a b) h = refl
name-same (pats.Not a) h = refl
name-same (pats.List ts r) h = refl
name-same (pats.Tuple ts) h = refl
name-same (pats.Set ts r) h = refl
name-same (pats.Map ps r) h = refl
name-same (pats.Send c xs p) h = refl
name-same (pats.Bundle r b) h = refl
name-same (pats.Closed p) h = closed-name p

-- a closed form that is none of those that a pattern may have is a fault in one
pub closed-other : (p : Part) → ((g : Ground) → p ≡ parts.Ground g → ⊥) → IsNoReceive p → ((os : Vec Origin Global) (b : Tree) → p ≡ parts.New os b → ⊥) → IsNoMatch p → ((ts : Vec Tree Global) → p ≡ parts.Tuple ts → ⊥) → IsNoSend p → IsNoBundle p
    → 1 ≡ sign (faults pat_part (part_tree p))
closed-other (parts.Ground g) n r w m t s b = absurd (n g refl)
closed-other (parts.Fresh d) n r w m t s b = omega arith
closed-other (parts.Var i) n r w m t s b = refl
closed-other (parts.NameVar i) n r w m t s b = refl
closed-other (parts.List ts) n r w m t s b = refl
closed-other (parts.Tuple ts) n r w m t s b = absurd (t ts refl)
closed-other (parts.Set ts) n r w m t s b = refl
closed-other (parts.Map ps) n r w m t s b = refl
closed-other (parts.Send c xs p) n r w m t s b = absurd (s c xs p refl)
closed-other (parts.Receive k bs q) n r w m t s b = absurd (r k bs q refl)
closed-other (parts.New os q) n r w m t s b = absurd (w os q refl)
closed-other (parts.Match a cs) n r w m t s b = absurd (m a cs refl)
closed-other (parts.Bundle k q) n r w m t s b = absurd (b k q refl)
closed-other (parts.Unary o a) n r w m t s b = refl
closed-other (parts.Binary o a c) n r w m t s b = refl
closed-other (parts.Method x a xs) n r w m t s b = refl
