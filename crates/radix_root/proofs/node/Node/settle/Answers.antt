use Rattle.std.proofs.Common.{◌≡◌, ◌≤◌, List, ◌∷◌, None, length, map, refl, sym, ap, subst, ◌∙◌}
use Rattle.sha2.specs.Sha256.{sha256}
use Rattle.calculus.specs.Bytes.{joined}
use Rattle.calculus.specs.Root.{sixteen}
use Rattle.radix_root.specs.Nodes.{Seen, IsFork, leaves_of, digest_under, height_of}
use Rattle.radix_root.proofs.Wells.{well-fork, well-node}
use Rattle.radix_root.proofs.node.Node.settle.Goals as goal

pub invariant_of-self-in-Several : goal.invariant_of-self-in-Several
invariant_of-self-in-Several g c =
    let ins = c.self.inside in
    let items = c.args.children.items in
    let deep : ins.depth ≡ c.args.self.now.depth = ap (λ (s : Seen). s.depth) c.self.view_is in
    well-fork ins.depth c.fork_digest-self-inside.result.0 None items refl (subst (λ m. IsFork m items) (sym deep) c.requires)
    (subst (λ (cs : List Seen). 2 ≤ length (leaves_of cs)) c.as_slice.ensures.value c.in-Several.ensures)
    (c.fork_digest-self-inside.ensures.digest ∙ ap (λ (cs : List Seen). sha256 (0x11 ∷ joined (map (digest_under cs) sixteen))) c.as_slice-in-Several.ensures.value)

pub returns-in-Several-clause-node : goal.returns-in-Several-clause-node
returns-in-Several-clause-node g c =
    let ins = c.self.inside in
    let items = c.args.children.items in
    let deep : ins.depth ≡ c.args.self.now.depth = ap (λ (s : Seen). s.depth) c.self.view_is in
    let well = well-fork ins.depth c.fork_digest-self-inside.result.0 None items refl (subst (λ m. IsFork m items) (sym deep) c.requires)
    (subst (λ (cs : List Seen). 2 ≤ length (leaves_of cs)) c.as_slice.ensures.value c.in-Several.ensures)
    (c.fork_digest-self-inside.ensures.digest ∙ ap (λ (cs : List Seen). sha256 (0x11 ∷ joined (map (digest_under cs) sixteen))) c.as_slice-in-Several.ensures.value) in
    well-node ins.depth c.args.self.now.depth ins.half c.fork_digest-self-inside.result.0 None items (height_of items) deep well
