-- The printed text of a closed process spells it, and nothing that isn't congruent to it.
use Rattle.std.proofs.Common.{◌≡◌, [], ◌∷◌, append-nil, subst, sym}
use Rattle.std.specs.Prelude.{IsTrue, map as each}
use Rattle.calculus.specs.Tree.{Tree}
use Rattle.calculus.specs.Form.{term, IsClosed}
use Rattle.calculus.specs.Bare.{bare}
use Rattle.calculus.specs.Congruence.{congruent}
use Rattle.calculus.specs.Printed.{printed_text, printed, first_text}
use Rattle.tokens.specs.Token.{printed as printed_notation}
use Rattle.tokens.proofs.OneReading.{same_outcome}
use Rattle.grammar.specs.declared.dialect.Dialect.TheVariants.{Tutorial}
use Rattle.grammar.specs.declared.mark.Mark.TheVariants as marks
use Rattle.grammar.specs.Rules.{Par, last}
use Rattle.grammar.specs.Spells.{Reads, Spells}
use Rattle.grammar.specs.Terminals.{mark}
use Rattle.grammar.specs.Values.{spelt, processes}
use Rattle.grammar.proofs.OneReading.{one_reading}
use Rattle.printed_spelling.specs.Spelled.{written}
use Rattle.printed_spelling.proofs.TermSpelling.{spelled_is_congruent}
use Rattle.printed_spelling.specs.TextLaws.{PrintedTextSpells, PrintedTextComesBack, PrintedTextSpellsOne}
use Rattle.printed_spelling.proofs.Pieces.{printed_terminals}
use Rattle.printed_spelling.proofs.Scanning.{Scans, scan_end}
use Rattle.printed_spelling.proofs.Lexing.{text_lexed}
use Rattle.printed_spelling.proofs.Reading.{terminals_spell}

-- a printed text has tokens of the terminals of its pieces
has_terminals : (t : Tree) → IsClosed t → Scans (printed_text t) (printed_terminals t)
unfolding printed_text
has_terminals t h = subst (λ x. Scans x (printed_terminals t)) (append-nil (first_text (printed term t 0 0))) ((text_lexed t [] 0 0 h).scans [] (mark marks.End ∷ []) tt scan_end)

pub printed_text_spells : PrintedTextSpells
printed_text_spells t h =
    let x = has_terminals t h 0 in
    let y = terminals_spell t h in
    record {
      tokens = x.tokens;
      height = y.0;
      has = x.has;
      spells = subst (λ ts. Reads Tutorial (last (Par processes)) ts (spelt (written t) y.0) (mark marks.End ∷ [])) (sym x.are) y.1;
    }

pub printed_text_comes_back : PrintedTextComesBack
printed_text_comes_back t h k = (written t, printed_text_spells t h, spelled_is_congruent t h k)

pub printed_text_spells_one : PrintedTextSpellsOne
printed_text_spells_one t h k p x =
    let y = printed_text_spells t h in
    let outcome = same_outcome x.has y.has in
    let tokens : x.tokens ≡ y.tokens = cc in
    let same : p ≡ written t = (one_reading printed_notation Tutorial (each (λ u. u.token) y.tokens) p (written t) x.height y.height (subst (λ us. Spells printed_notation Tutorial (each (λ u. u.token) us) p x.height) tokens x.spells) y.spells).0 in
    subst (λ w. IsTrue (congruent (bare w) t)) (sym same) (spelled_is_congruent t h k)
