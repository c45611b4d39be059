use Rattle.grammar.specs.Rules.{done}
use Rattle.grammar.specs.Values.{opened}
use Rattle.form_parts.specs.declared.part.Bracket.{Bracket}
use Rattle.form_steps.specs.Steps.{member_patterns_of}
use Rattle.form_steps.proofs.Handed.{as_fault, as_read, if_read}
use Rattle.token_cursor.proofs.Steps.{ends}
use Rattle.token_cursor.specs.Reading.{of_sequence}
use Rattle.std.proofs.Common.{ap, arith, sym, ◌+◌, ◌<◌, ◌^◌, ◌∙◌}
use Rattle.form_steps.proofs.plain.member_patterns.Goals as goal

pub list_pat-requires : goal.list_pat-requires
list_pat-requires c = record { sequence = if_read (λ p. p.height + 1 < 2 ^ 32) _ c.in-Ok.is c.requires }

pub returns-in-Square-clause-reads : goal.returns-in-Square-clause-reads
returns-in-Square-clause-reads c = λ free r ts us t. as_read (λ p. done (opened (member_patterns_of c.args.bracket (of_sequence p).tree) p.height)) _ c.in-Ok.is t _ (ends _ _ (c.list_pat.ensures.tree ∙ ap (λ (b : Bracket). member_patterns_of b (of_sequence c.in-Ok.sequence).tree) (sym c.in-Square.is)) c.list_pat.ensures.height)

pub returns-in-Square-clause-room : goal.returns-in-Square-clause-room
returns-in-Square-clause-room c = λ n h. let k = if_read (λ p. p.height < n) _ c.in-Ok.is h in omega (arith, k, c.list_pat.ensures.height)

pub set_pat-requires : goal.set_pat-requires
set_pat-requires c = record { sequence = if_read (λ p. p.height + 1 < 2 ^ 32) _ c.in-Ok.is c.requires }

pub returns-in-Round-clause-reads : goal.returns-in-Round-clause-reads
returns-in-Round-clause-reads c = λ free r ts us t. as_read (λ p. done (opened (member_patterns_of c.args.bracket (of_sequence p).tree) p.height)) _ c.in-Ok.is t _ (ends _ _ (c.set_pat.ensures.tree ∙ ap (λ (b : Bracket). member_patterns_of b (of_sequence c.in-Ok.sequence).tree) (sym c.in-Round.is)) c.set_pat.ensures.height)

pub returns-in-Round-clause-room : goal.returns-in-Round-clause-room
returns-in-Round-clause-room c = λ n h. let k = if_read (λ p. p.height < n) _ c.in-Ok.is h in omega (arith, k, c.set_pat.ensures.height)

pub returns-in-Err-clause-reads : goal.returns-in-Err-clause-reads
returns-in-Err-clause-reads c = λ free r ts us t. as_fault (λ p. done (opened (member_patterns_of c.args.bracket (of_sequence p).tree) p.height)) _ c.in-Err.is t
