-- The channels of operations, and the codes of lists of channels.
use Rattle.std.proofs.Common.{◌≡◌, List, [], ◌∷◌, ◌++◌, map, length, refl, ap, sym, ◌∙◌}
use Rattle.std.specs.declared.alloc.Global.{Global}
use Rattle.std.specs.declared.vec.Vec.{Vec}
use Rattle.calculus.specs.declared.plain.Kind.{Kind}
use Rattle.calculus.specs.declared.ids.Digest.{Digest}
use Rattle.calculus.specs.Bytes.{be32, joined}
use Rattle.calculus.specs.Code.{code}
use Rattle.calculus.specs.Order.{IsAscending}
use Rattle.calculus.specs.Root.{group_code}
use Rattle.calculus.specs.Rows.{channels}
use Rattle.calculus.specs.Shape.{at, held, many}
use Rattle.calculus.specs.Tree.{Tree, row}
use Rattle.calculus.proofs.ListCodes.{code-trees, length-map, sorted-ascending}
use Rattle.calculus.proofs.Placing.{listed-trees}
use Rattle.rho_term.specs.declared.op.Op.TheVariants as op
use Rattle.rho_term.specs.declared.term.TermBind.{TermBind}
use Rattle.rho_term.specs.Parts.{bind_tree}
use Rattle.rho_term.specs.Rows.{row_of_op}

same-channels : (bs : List TermBind) → map (λ b. at 0 (held b)) (map bind_tree bs) ≡ map (λ b. b.channel) bs
same-channels [] = refl
same-channels (b ∷ bs) = ap (λ l. b.channel ∷ l) (same-channels bs)

-- the channels of a receive are those of its binds
pub channels-receive : (id : Digest) (k : Kind) (bs : Vec TermBind Global) (body : Tree) → channels (row_of_op (op.Consume id k bs body)).part ≡ map (λ b. b.channel) bs.items
channels-receive id k bs body = ap (map (λ b. at 0 (held b))) (listed-trees (map bind_tree bs.items)) ∙ same-channels bs.items

-- a row of terms that ascend in their codes has the code of a group
pub row-group : (ts : List Tree) → IsAscending (map code ts) → code (many row ts) ≡ group_code (map code ts)
row-group ts up =
    code-trees row ts refl
    ∙ ap (λ n. be32 n ++ joined (map code ts)) (sym (length-map code ts))
    ∙ ap (λ cs. be32 (length (map code ts)) ++ joined cs) (sym (sorted-ascending (map code ts) up))
