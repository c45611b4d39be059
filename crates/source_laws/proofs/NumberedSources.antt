-- What the tokens of a source spell is numberable.
use Rattle.std.proofs.Common.{◌≤◌, ◌+◌, ◌*◌, ◌^◌, cond, List, [], ◌∷◌, length, map as each, arith}
use Rattle.std.proofs.lemmas.List.{length-map}
use Rattle.calculus.proofs.Members.{Every}
use Rattle.calculus.specs.Tree.{Tree, node, Trees, none, also, weight, weights}
use Rattle.calculus.specs.Code.{code}
use Rattle.calculus.specs.Congruence.{is_bag}
use Rattle.calculus.specs.Normal.{ascending}
use Rattle.calculus.specs.Bare.{bare}
use Rattle.tokens.specs.Token.{source, Spanned}
use Rattle.scope.specs.NormalForm.{normal_form, normal_forms}
use Rattle.grammar.specs.Terminals.{terminal, terminals}
use Rattle.events.specs.Numbers.{full_codes, most_names, most_names_of, IsNumberable}
use Rattle.events.proofs.Numbering.{full-most, full_codes-ascending, every-arranged, numberable-trees}
use Rattle.source_laws.specs.NumberedLaws.{SourcesAreNumberable, SourceTextsAreNumberable}
use Rattle.source_laws.proofs.Sizes.{size}
use Rattle.source_laws.proofs.Counts.{reads-few}
use Rattle.source_laws.proofs.Read.{reads-cost}
use Rattle.source_laws.proofs.Bared.{bare-weight, bare-names}

full_codes-length : (us : List Tree) → full_codes (each code us) ≤ length us
full_codes-length [] = omega arith
full_codes-length (u ∷ us) = omega (arith, full-most (code u), full_codes-length us)

normal-count : (ts : Trees) → length (normal_forms ts) ≤ weights ts
normal-count none = omega arith
normal-count (also (node l us) ts) = omega (arith, normal-count ts)

mutual
  -- the normal form of a tree of few nodes and names is numberable
  normal-numberable : (t : Tree) → weight t ≤ 2 ^ 32 → most_names t ≤ 2 ^ 32 → IsNumberable (normal_form t)
  normal-numberable (node l ts) h k =
      let us : List Tree = normal_forms ts in
      (omega (arith, h, full_codes-ascending (is_bag l) us, full_codes-length us, normal-count ts), omega (arith, k), numberable-trees (cond (is_bag l) (ascending us) us) (every-arranged (is_bag l) us (normals-numberable ts (omega (arith, h)) (omega (arith, k)))))

  normals-numberable : (ts : Trees) → weights ts ≤ 2 ^ 32 → most_names_of ts ≤ 2 ^ 32 → Every IsNumberable (normal_forms ts)
  normals-numberable none h k = tt
  normals-numberable (also t ts) h k = (normal-numberable t (omega (arith, h)) (omega (arith, k)), normals-numberable ts (omega (arith, h)) (omega (arith, k)))

pub sources_are_numberable : SourcesAreNumberable
sources_are_numberable d tokens p h r few =
    let cost : size p + (0 + 32 * 1) ≤ 1 + 32 * length (terminals source tokens) = reads-cost r 0 1 (omega arith) in
    let small : size p ≤ 2 ^ 30 = omega (arith, cost, few, length-map tokens (terminal source)) in
    normal-numberable (bare p) (omega (arith, small, bare-weight p [])) (omega (arith, small, bare-names p []))

pub source_texts_are_numberable : SourceTextsAreNumberable
source_texts_are_numberable d text spanned p h tokens r few =
    let count : length spanned ≤ 1 + length text = reads-few tokens in
    sources_are_numberable d (each (λ t. t.token) spanned) p h r (omega (arith, count, few, length-map spanned (λ (t : Spanned). t.token)))
