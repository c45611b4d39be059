use Rattle.std.proofs.Common.{◌≡◌, ◌-◌, ap, sym, ◌∙◌, rules, arith, get_or, length}
use Rattle.std.proofs.lemmas.List.{get_or-reverse, length-map, length-reverse, get_or-map}
use Rattle.std.specs.Prelude.{reverse}
use denote.Enum.Bare.{same_true, true_same}
use Rattle.calculus.proofs.Ranges.{in_scope}
use Rattle.code_faults.specs.contracts.sort.Sense.{the_type}
use Rattle.code_faults.specs.Scopes.{sense_of, senses_of}
use Rattle.code_faults.proofs.Numbers.{has_variable}
use Rattle.code_faults.proofs.TextRefusals.{has-at, sense-same}
use Rattle.code_fields.proofs.fields.has_variable.Goals as goal

pub returns-then-index-len-clause-only : goal.returns-then-index-len-clause-only
returns-then-index-len-clause-only c = λ h.
    let items = c.args.scope.now.items in
    let same : c.index.result.now ≡ c.args.sense = same_true the_type (search rules) _ _ (sym c.eq.ensures ∙ h) in
    let n = length-map items sense_of in
    let k : length (senses_of items) - 1 - c.args.index ≡ c.len-then-index-len.result - 1 - c.args.index = omega arith in
    let at : get_or items (length (senses_of items) - 1 - c.args.index) c.index.result.now ≡ c.index.result.now = rw k (sym c.index.ensures) in
    has_variable (reverse (senses_of items)) c.args.index (sense_of c.args.sense) (sense_of c.index.result.now)
    (omega (arith, length-reverse (senses_of items)))
    (get_or-reverse (senses_of items) c.args.index (sense_of c.index.result.now) (omega arith)
    ∙ get_or-map sense_of items (length (senses_of items) - 1 - c.args.index) c.index.result.now (sense_of c.index.result.now) (omega arith)
    ∙ ap sense_of at ∙ ap sense_of same)

pub returns-then-index-len-clause-all : goal.returns-then-index-len-clause-all
returns-then-index-len-clause-all c = λ h.
    let items = c.args.scope.now.items in
    let n = length-map items sense_of in
    let k : length (senses_of items) - 1 - c.args.index ≡ c.len-then-index-len.result - 1 - c.args.index = omega arith in
    let at : get_or items (length (senses_of items) - 1 - c.args.index) c.index.result.now ≡ c.index.result.now = rw k (sym c.index.ensures) in
    let there : get_or (reverse (senses_of items)) c.args.index (sense_of c.index.result.now) ≡ sense_of c.index.result.now =
    get_or-reverse (senses_of items) c.args.index (sense_of c.index.result.now) (omega arith)
    ∙ get_or-map sense_of items (length (senses_of items) - 1 - c.args.index) c.index.result.now (sense_of c.index.result.now) (omega arith)
    ∙ ap sense_of at in
    let same : c.index.result.now ≡ c.args.sense = sense-same _ _ (sym there ∙ has-at (reverse (senses_of items)) c.args.index (sense_of c.args.sense) (sense_of c.index.result.now) h) in
    c.eq.ensures ∙ true_same the_type _ _ same

pub returns-else-index-len-clause-all : goal.returns-else-index-len-clause-all
returns-else-index-len-clause-all c = λ h.
    let items = c.args.scope.now.items in
    absurd (omega (arith, in_scope (reverse (senses_of items)) c.args.index (sense_of c.args.sense) h, length-reverse (senses_of items), length-map items sense_of))
