-- What is printed of a run, and what its source spells.
use Rattle.std.proofs.Common.{◌≡◌, ◌≢◌, ◌≤◌, ℕ, List, [], length, refl, sym, subst}
use Rattle.calculus.specs.Tree.{Tree}
use Rattle.sources.specs.Sources.{IsSourceOf}
use Rattle.events.specs.Numbers.{IsNumberable}
use Rattle.source_laws.proofs.NumberedSources.{source_texts_are_numberable}
use Rattle.replays.specs.View.{verdict_of}
use Rattle.replays.specs.declared.verdict.Verdict.{Verdict as Ending}
use Rattle.replays.specs.declared.verdict.Verdict.TheVariants as ending
use Rattle.recorded_runs.specs.Runs.{printed}

-- with another verdict than done nothing is printed
pub silent : (v : Ending) (output : List ℕ) → v ≢ ending.Done → printed (verdict_of v) output ≡ []
silent ending.Done output n = absurd (n refl)
silent ending.Exhausted output n = refl
silent (ending.Faulted step kind) output n = refl

-- four bytes number the parts and names of the process of a source
pub numberable : (source : List ℕ) (t : Tree) → IsSourceOf source t → length source ≤ 1048576 → IsNumberable t
numberable source t s few =
    let spelt = s.accepted.spelt in
    subst IsNumberable (sym s.normal) (source_texts_are_numberable _ source spelt.spanned s.process spelt.height spelt.tokens spelt.spells few)
