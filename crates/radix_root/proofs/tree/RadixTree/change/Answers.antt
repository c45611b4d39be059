use Rattle.std.proofs.Common.{ℕ, List, map, ap, ◌∙◌, Vec, Global, cond}
use Rattle.std.specs.Str.{bytes_eq}
use Rattle.std.proofs.lemmas.Result.{on_ok_weaker, on_err_weaker}
use Rattle.radix_root.specs.Groups.{given}
use Rattle.radix_root.specs.Leaves.{Leaves, digest_at, group_digest}
use Rattle.radix_root.proofs.Meets.{keeps-changed}
use Rattle.radix_root.proofs.Wells.{share-none}
use Rattle.radix_root.proofs.tree.RadixTree.change.Goals as goal

pub put-requires : goal.put-requires
put-requires g c = share-none c.self.inside.root.depth c.of-group.result.key.0 c.self.inside.root.leaves c.self.invariant.depth

pub returns-clause-rows : goal.returns-clause-rows
returns-clause-rows g c =
    let key = c.args.key.now.0 in
    let group = c.of-group.result in
    let items : Vec ℕ Global → List ℕ = λ r. r.items in
    let digest = c.of-group.ensures.digest ∙ ap (λ cs. group_digest key (map (λ s. s.now) cs)) c.as_slice.ensures.value ∙ ap (group_digest key) c.in_ok-codes.ensures in
    on_ok_weaker c.put.result
    (λ p f h. keeps-changed c.args.self.now c.put.new.self.leaves f key (given group.digest) (map items c.args.rows.now)
    (λ j. p j ∙ ap (λ (z : List ℕ). cond (bytes_eq j z) (given group.digest) (digest_at c.self.inside.root.leaves j)) c.of-group.ensures.key ∙ ap (λ (ls : Leaves). cond (bytes_eq j key) (given group.digest) (digest_at ls j)) c.self.view_is)
    digest h)
    c.put.ensures.groups

pub returns-clause-err : goal.returns-clause-err
returns-clause-err g c = on_err_weaker c.put.result (λ p. p ∙ c.self.view_is) c.put.ensures.err
