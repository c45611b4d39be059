use Rattle.substituted_sizes.proofs.Extending.{put-length, put-height}
use Rattle.substituted_sizes.proofs.size.put_size.Goals as goal

pub returns-clause-height : goal.returns-clause-height
returns-clause-height c = put-height _ _ _ _ c.parts-parts.ensures.parts c.term_extent-extent.ensures.height

pub returns-clause-length : goal.returns-clause-length
returns-clause-length c = put-length _ _ _ _ c.parts-parts.ensures.parts c.term_extent-extent.ensures.length
