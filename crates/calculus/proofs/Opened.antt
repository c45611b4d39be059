-- Definitions that theorems by computation open, under two names.
use Rattle.std.specs.Prelude.{ℕ}
use Rattle.std.specs.Fmt.{digits}
use Rattle.sha2.specs.Sha256.{sha256, digest_bytes, compress, hash_after, rounds, schedule, first_words}
use Rattle.calculus.specs.Bytes.{be32, be64}
use Rattle.calculus.specs.Order.{placed, sorted}
use Rattle.calculus.specs.Congruence.{congruent, congruent_to}
use Rattle.calculus.specs.Normal.{placed_by, by_code, ascending}
use Rattle.calculus.specs.Substitution.{put, renumber}
use Rattle.calculus.specs.Operators.{binary_answer, unary_answer}
use Rattle.calculus.specs.Methods.{method_answer}
use Rattle.calculus.specs.Values.{value, values}
use Rattle.calculus.specs.Matching.{all_matches, bind_matches}
use Rattle.calculus.specs.Unfolding.{unfold_in}
use Rattle.calculus.specs.Root.{key, root}
use Rattle.calculus.specs.Steps.{meeting}
use Rattle.calculus.specs.Printed.{printed_text}

-- opens the definitions that other proofs see folded
unfoldable pub computing : ℕ
unfolding digits be32 be64 placed sorted congruent congruent_to placed_by by_code ascending put renumber binary_answer unary_answer method_answer value values all_matches bind_matches unfold_in key root meeting printed_text
computing = 0

-- opens SHA-256 too
unfoldable pub hashing : ℕ
unfolding computing sha256 digest_bytes compress hash_after rounds schedule first_words
hashing = 0
