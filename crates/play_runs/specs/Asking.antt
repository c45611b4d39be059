-- What is played.
use Rattle.std.specs.Prelude.{List}
use Rattle.calculus.specs.Rows.{Row}
use Rattle.calculus.specs.Runs.{Deploy, deploy_of, Work}
use Rattle.calculus.specs.Seeds.{digest_of, Start}
use Rattle.calculus.specs.Unfolding.{Unfolds}
use Rattle.play_runs.specs.declared.means.Means.{Means}
use Rattle.play_runs.specs.declared.asking.Asked.{Asked}

-- the deploy of what is asked, by these means, from these rows
abbrev pub deploy_in : Means → List Row → Asked → Deploy
deploy_in m rows a = deploy_of m.prices.now m.limit rows a.term.now a.source.now.0

-- the process that is asked unfolds to a work, by these means
abbrev pub UnfoldsTo : Means → Asked → Work → Type 0
UnfoldsTo m a w = Unfolds m.prices.now m.limit a.term.now (digest_of (Start a.root.now.0 a.source.now.0)) w
