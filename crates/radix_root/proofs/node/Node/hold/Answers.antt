use Rattle.std.proofs.Common.{rules, ◌≡◌, ◌<◌, [], ◌∷◌, ◌==◌, Some, true, false, length, refl, sym, ap, subst, ◌∙◌, arith, vec_len}
use Rattle.std.specs.Prelude.{not}
use Rattle.std.specs.Str.{bytes_eq}
use Rattle.std.proofs.lemmas.Bool.Decides.{nat_tests}
use Rattle.radix_root.specs.Groups.{given}
use Rattle.radix_root.specs.Nodes.{Seen, AreLeaves}
use Rattle.radix_root.proofs.Found.{given-none, absent-out, other-absent}
use Rattle.radix_root.proofs.Wells.{lone-leaf, parts-below}
use Rattle.radix_root.proofs.node.Node.hold.Goals as goal

pub returns-in-Some-clause-other : goal.returns-in-Some-clause-other
returns-in-Some-clause-other c = λ e.
    let now = c.args.self.now in
    let ins = c.self.inside in
    let own = c.in-Some.own in
    let same : vec_len ins.children ≡ length ins.children.items = search rules in
    let test : (vec_len ins.children == 0) ≡ true = sym c.is_empty.ensures ∙ c.if-not-is_empty.false in
    let none : length ins.children.items ≡ 0 = grind (arith, nat_tests) in
    let key : ins.key ≡ Some own = cc in
    let apart : bytes_eq own.0 c.args.group.now.key.0 ≡ false = search rules in
    let one : now.leaves ≡ (own.0, ins.digest.0) ∷ [] = ap (λ (s : Seen). s.leaves) (sym c.self.view_is) ∙ lone-leaf ins.key own ins.digest.0 ins.children.items key none in
    let deep : ins.depth ≡ now.depth = ap (λ (s : Seen). s.depth) c.self.view_is in
    let all : AreLeaves now.leaves = subst AreLeaves (ap (λ (s : Seen). s.leaves) c.self.view_is) c.self.invariant.leaves in
    let below : now.depth < 64 = parts-below now.depth now.leaves own.0 ins.digest.0 c.args.group.now.key.0 (omega (arith, deep, c.self.invariant.within)) all one c.known_length.ensures apart c.requires in
    (refl, below)

pub returns-in-Some-clause-groups : goal.returns-in-Some-clause-groups
returns-in-Some-clause-groups c = λ e.
    let now = c.args.self.now in
    let ins = c.self.inside in
    let own = c.in-Some.own in
    let group = c.args.group.now in
    let same : vec_len ins.children ≡ length ins.children.items = search rules in
    let test : (vec_len ins.children == 0) ≡ true = sym c.is_empty.ensures ∙ c.if-not-is_empty.false in
    let none : length ins.children.items ≡ 0 = grind (arith, nat_tests) in
    let key : ins.key ≡ Some own = cc in
    let apart : bytes_eq own.0 group.key.0 ≡ false = search rules in
    let one : now.leaves ≡ (own.0, ins.digest.0) ∷ [] = ap (λ (s : Seen). s.leaves) (sym c.self.view_is) ∙ lone-leaf ins.key own ins.digest.0 ins.children.items key none in
    let nothing = given-none group.digest (c.is_none.ensures ∙ ap not e) in
    absent-out now.leaves group.key.0 (given group.digest) nothing (other-absent now.leaves own.0 ins.digest.0 group.key.0 one apart)
