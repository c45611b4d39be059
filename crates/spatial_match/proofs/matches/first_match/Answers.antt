use Rattle.calculus.specs.Matching.{all_matches}
use Rattle.spatial_match.proofs.Closing.{pattern_t}
use Rattle.spatial_match.proofs.matches.first_match.Goals as goal

pub find_whole-requires-clause-tries : goal.find_whole-requires-clause-tries
find_whole-requires-clause-tries c = pattern_t c.args.pattern.now c.requires.pattern c.requires.short_pattern

pub returns : goal.returns
unfolding all_matches
returns c = c.find_whole.ensures
