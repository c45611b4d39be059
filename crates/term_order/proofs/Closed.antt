-- Patterns of processes among those of names, and closed forms among parts.
use Rattle.std.proofs.Common.{◌≡◌, ℕ, ◌<◌, List, [], ◌∷◌, length, refl, sym, ap, ◌∙◌, subst, arith, ⊎_elim}
use Rattle.std.specs.Ordering.{nat_cmp, ordering_then}
use Rattle.std.specs.Cmp.{ranked}
use Rattle.std.specs.declared.cmp.Ordering.{Ordering}
use Rattle.std.specs.declared.cmp.Ordering.TheVariants.{Less, Equal, Greater}
use Rattle.calculus.specs.declared.plain.Ground.{Ground}
use Rattle.calculus.specs.declared.plain.Ground.TheVariants as ground
use Rattle.calculus.specs.Tree.{Label, some_name, pattern, row, pair, Tree, node, Trees, none, also}
use Rattle.calculus.specs.Order.{byte_cmp}
use Rattle.calculus.specs.Code.{code}
use Rattle.calculus.specs.Form.{Sort, part, pat, name_pat, pat_part, name_part, row_of, pair_of, all, these, pat_kids, name_kids}
use Rattle.calculus.proofs.Formed.{Formed, Holds, some-code}
use Rattle.calculus.proofs.Tails.{IsFine}
use Rattle.rho_term.specs.Parts.{part_tree, pat_part_tree}
use Rattle.rho_term.specs.declared.term.Part.{Part}
use Rattle.rho_term.specs.declared.term.Part.TheVariants as parts
use Rattle.rho_term.specs.declared.term.PatPart.{PatPart}
use Rattle.rho_term.specs.declared.term.PatPart.TheVariants as pats
use Rattle.term_order.specs.Orders.{Suits, ComparesAs, ThenCompares, IsClosedTag, first}

as_name : (l : Label) (ts : Trees) → Holds IsFine (pat_kids l) ts → Holds IsFine (name_kids l) ts
as_name some_name ts h = absurd h
as_name _ ts h = h

as_names : (ts : Trees) → Holds IsFine (all pat_part) ts → Holds IsFine (all name_part) ts
as_names none h = tt
as_names (also (node l us) ts) h = ((h.0.0, as_name l us h.0.1), as_names ts h.1)

pat_formed : (t : Tree) → Formed IsFine pat t → Formed IsFine name_pat t
pat_formed (node pattern ts) h = (h.0, as_names ts h.1)
pat_formed (node _ ts) h = absurd h.1

pats_formed : (ts : Trees) → Holds IsFine (all pat) ts → Holds IsFine (all name_pat) ts
pats_formed none h = tt
pats_formed (also t ts) h = (pat_formed t h.0, pats_formed ts h.1)

two_formed : (ts : Trees) → Holds IsFine (these (pat ∷ pat ∷ [])) ts → Holds IsFine (these (name_pat ∷ name_pat ∷ [])) ts
two_formed none h = absurd h
two_formed (also t none) h = absurd h.1
two_formed (also t (also u none)) h = (pat_formed t h.0, (pat_formed u h.1.0, tt))
two_formed (also t (also u (also v ts))) h = absurd h.1.1

pair_formed : (t : Tree) → Formed IsFine (pair_of pat) t → Formed IsFine (pair_of name_pat) t
pair_formed (node pair ts) h = (h.0, two_formed ts h.1)
pair_formed (node _ ts) h = absurd h.1

pairs_formed : (ts : Trees) → Holds IsFine (all (pair_of pat)) ts → Holds IsFine (all (pair_of name_pat)) ts
pairs_formed none h = tt
pairs_formed (also t ts) h = (pair_formed t h.0, pairs_formed ts h.1)

row_formed : (t : Tree) → Formed IsFine (row_of pat) t → Formed IsFine (row_of name_pat) t
row_formed (node row ts) h = (h.0, pats_formed ts h.1)
row_formed (node _ ts) h = absurd h.1

pair_row_formed : (t : Tree) → Formed IsFine (row_of (pair_of pat)) t → Formed IsFine (row_of (pair_of name_pat)) t
pair_row_formed (node row ts) h = (h.0, pairs_formed ts h.1)
pair_row_formed (node _ ts) h = absurd h.1

-- an order of trees of one sort is one of trees of another whose trees are of the first
weaker : (a s : Sort) → ((t : Tree) → Formed IsFine a t → Formed IsFine s t) → (o : Ordering) (t u : Tree) (r : Ordering) → ThenCompares o s t u r → ThenCompares o a t u r
weaker a s f o t u r c h k =
    c (record { normal = h.normal; formed = f t h.formed; filled = h.filled; short = h.short })
    (record { normal = k.normal; formed = f u k.formed; filled = k.filled; short = k.short })

pub for_pat : (o : Ordering) (t u : Tree) (r : Ordering) → ThenCompares o name_pat t u r → ThenCompares o pat t u r
for_pat = weaker pat name_pat pat_formed

pub for_pats : (o : Ordering) (t u : Tree) (r : Ordering) → ThenCompares o (row_of name_pat) t u r → ThenCompares o (row_of pat) t u r
for_pats = weaker (row_of pat) (row_of name_pat) row_formed

pub for_pat_pairs : (o : Ordering) (t u : Tree) (r : Ordering) → ThenCompares o (row_of (pair_of name_pat)) t u r → ThenCompares o (row_of (pair_of pat)) t u r
for_pat_pairs = weaker (row_of (pair_of pat)) (row_of (pair_of name_pat)) pair_row_formed

-- a closed form in a pattern is a part of a process
pub as_part : (p : Part) → IsClosedTag (first (code (part_tree p))) → Suits name_part (part_tree p) → Suits part (part_tree p)
as_part (parts.Ground (ground.Bool x)) n h = record { normal = h.normal; formed = h.formed; filled = h.filled; short = h.short }
as_part (parts.Ground (ground.Int x)) n h = record { normal = h.normal; formed = h.formed; filled = h.filled; short = h.short }
as_part (parts.Ground (ground.Str x)) n h = record { normal = h.normal; formed = h.formed; filled = h.filled; short = h.short }
as_part (parts.Ground (ground.Uri x)) n h = record { normal = h.normal; formed = h.formed; filled = h.filled; short = h.short }
as_part (parts.Ground (ground.Bytes x)) n h = record { normal = h.normal; formed = h.formed; filled = h.filled; short = h.short }
as_part (parts.Receive k bs b) n h = record { normal = h.normal; formed = h.formed; filled = h.filled; short = h.short }
as_part (parts.New os b) n h = record { normal = h.normal; formed = h.formed; filled = h.filled; short = h.short }
as_part (parts.Match t cs) n h = record { normal = h.normal; formed = h.formed; filled = h.filled; short = h.short }
as_part _ n h = ⊎_elim (λ a. absurd (omega arith)) (λ b. absurd (omega arith)) n

by_first : (o r : Ordering) → (o ≡ Equal → ⊥) → o ≡ ordering_then o r
by_first Less r n = refl
by_first Equal r n = absurd (n refl)
by_first Greater r n = refl

-- codes that differ in their first bytes go by these
apart : (xs ys : List ℕ) → 0 < length xs → 0 < length ys → (first xs ≡ first ys → ⊥) → nat_cmp (first xs) (first ys) ≡ byte_cmp xs ys
apart [] ys h k n = absurd (omega arith)
apart (x ∷ xs) [] h k n = absurd (omega arith)
apart (x ∷ xs) (y ∷ ys) h k n = by_first (nat_cmp x y) (byte_cmp xs ys) (λ e. n (ranked x y Equal (sym e)))

-- only a ground value or a closed form has the tag of one
open_tag : (q : PatPart) → ((g : Ground) → q ≡ pats.Ground g → ⊥) → ((p : Part) → q ≡ pats.Closed p → ⊥) → IsClosedTag (first (code (pat_part_tree q))) → ⊥
open_tag (pats.Ground g) n m c = n g refl
open_tag (pats.Closed p) n m c = m p refl
open_tag _ n m c = ⊎_elim (λ a. omega arith) (λ b. omega arith) c

-- a closed form and another part of a pattern go by their tags
pub closed_apart : (p : Part) (q : PatPart) (m n : ℕ) (r : Ordering) → m ≡ first (code (part_tree p)) → n ≡ first (code (pat_part_tree q)) → (Suits name_part (part_tree p) → IsClosedTag m)
    → ((g : Ground) → q ≡ pats.Ground g → ⊥) → ((x : Part) → q ≡ pats.Closed x → ⊥) → r ≡ nat_cmp m n → ComparesAs name_part (part_tree p) (pat_part_tree q) r
closed_apart p q m n r d e c f g o h k =
    let t = part_tree p in
    let u = pat_part_tree q in
    o ∙ ap (λ x. nat_cmp x n) d ∙ ap (nat_cmp (first (code t))) e
    ∙ apart (code t) (code u) (some-code IsFine name_part t h.formed) (some-code IsFine name_part u k.formed) (λ z. open_tag q f g (subst IsClosedTag (d ∙ z) (c h)))
