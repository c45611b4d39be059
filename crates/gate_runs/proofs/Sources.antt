-- What the source of a run spells.
use Rattle.std.proofs.Common.{◌≤◌, ℕ, List, length, sym, subst}
use Rattle.calculus.specs.Tree.{Tree}
use Rattle.sources.specs.Sources.{IsSourceOf}
use Rattle.events.specs.Numbers.{IsNumberable}
use Rattle.source_laws.proofs.NumberedSources.{source_texts_are_numberable}

-- four bytes number the parts and names of the process of a source
pub numberable : (source : List ℕ) (t : Tree) → IsSourceOf source t → length source ≤ 1048576 → IsNumberable t
numberable source t s few =
    let spelt = s.accepted.spelt in
    subst IsNumberable (sym s.normal) (source_texts_are_numberable _ source spelt.spanned s.process spelt.height spelt.tokens spelt.spells few)
