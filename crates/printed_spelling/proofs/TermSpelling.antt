-- What a printed text spells comes back.
use Rattle.std.proofs.Common.{[], subst, sym, arith}
use Rattle.std.specs.Prelude.{IsTrue}
use Rattle.calculus.specs.Form.{term}
use Rattle.calculus.specs.Congruence.{congruent}
use Rattle.printed_spelling.specs.TermLaws.{OrderedIsCongruent, SpelledIsOrdered, SpelledIsCongruent}
use Rattle.printed_spelling.proofs.Bared.{spelled}
use Rattle.printed_spelling.proofs.Congruent.{ordered_is_congruent}

pub ordered_congruent : OrderedIsCongruent
ordered_congruent t = ordered_is_congruent t

pub spelled_is_ordered : SpelledIsOrdered
spelled_is_ordered t h k = spelled t term [] 0 0 tt h (omega arith) (omega arith) (omega (arith, k))

pub spelled_is_congruent : SpelledIsCongruent
spelled_is_congruent t h k = subst (λ u. IsTrue (congruent u t)) (sym (spelled_is_ordered t h k)) (ordered_is_congruent t)
