use Rattle.grammar.specs.declared.mark.Mark.TheVariants.{Open}
use Rattle.grammar.specs.Rules.{Sort, last}
use Rattle.grammar.specs.Terminals.{sees}
use Rattle.std.specs.Prelude.{Some, option_map, string_bytes}
use Rattle.token_cursor.specs.Meaning.{view}
use Rattle.std.proofs.Common.{◌≡◌, sym, ◌∙◌, [], ◌∷◌, ◌++◌, true}
use Rattle.grammar.specs.Descent.{runs_sign, runs_text}
use Rattle.token_cursor.proofs.Steps.{carry, closes_on, lacks, leave}
use Rattle.leaf_forms.proofs.leaf.declared_uri.Goals as goal

pub returns-in_err-uri-clause-reads : goal.returns-in_err-uri-clause-reads
returns-in_err-uri-clause-reads c = λ free ds w. leave (λ u. last (Sort.DeclTail (ds ++ ((w, option_map string_bytes u) ∷ [])))) _ _ c.from_residual-in_err-uri.ensures.1 (let b : sees Open (view c.args.cursor.now.rest.now) ≡ true = sym c.sees.ensures ∙ c.if-not-sees.false in rw b (runs_sign c.in_ok-expect.ensures.reads (lacks _ c.in_err-uri.ensures.reads)))

pub returns-clause-reads : goal.returns-clause-reads
returns-clause-reads c = λ free ds w.
    let b : sees Open (view c.args.cursor.now.rest.now) ≡ true = sym c.sees.ensures ∙ c.if-not-sees.false in
    carry (λ u. last (Sort.DeclTail (ds ++ ((w, option_map string_bytes u) ∷ [])))) _ _ (λ out h. rw b (runs_sign c.in_ok-expect.ensures.reads (runs_text c.in_ok-uri.ensures.reads h)))
    (closes_on _ _ _ _ (λ u. last (Sort.DeclTail (ds ++ ((w, option_map string_bytes u) ∷ [])))) (Some c.in_ok-uri.uri) _ c.closed.ensures.reads)
