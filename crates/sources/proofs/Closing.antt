-- The process of an accepted source is closed.
use Rattle.std.proofs.Common.{ℕ, List, Result, Ok, Err, IfOk, sym, subst}
use Rattle.calculus.specs.Tree.{Tree}
use Rattle.calculus.specs.Form.{IsClosed}
use Rattle.tokens.specs.Token.{source}
use Rattle.grammar.specs.declared.dialect.Dialect.TheVariants.{Tutorial}
use Rattle.source_laws.proofs.Spelling.{accepted_text_is_closed}
use Rattle.sources.specs.Sources.{IsSourceOf}

pub closed_source : (text : List ℕ) (t : Tree) → IsSourceOf text t → IsClosed t
closed_source text t s =
    let spelt = s.accepted.spelt in
    subst IsClosed (sym s.normal) (accepted_text_is_closed source Tutorial text spelt.spanned s.process spelt.height spelt.tokens spelt.spells s.accepted.sound)

-- so is each term that a source is given
pub closed_answer : {E : Type 0} (text : List ℕ) (r : Result Tree E) → IfOk r (IsSourceOf text) → IfOk r IsClosed
closed_answer text (Ok t) s = closed_source text t s
closed_answer text (Err e) s = tt
