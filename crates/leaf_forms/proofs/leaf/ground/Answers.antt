use Rattle.calculus.specs.declared.plain.Ground.TheVariants as grounds
use Rattle.grammar.specs.declared.mark.Mark.TheVariants.{False, Minus, True}
use Rattle.grammar.specs.Terminals.{a_byte_array, a_string, a_uri, sees}
use Rattle.grammar.specs.Choice.{sees_text}
use Rattle.token_cursor.proofs.Fronts.{no_bytes}
use Rattle.token_cursor.proofs.Steps.{closes}
use Rattle.token_cursor.specs.Meaning.{view}
use Rattle.token_cursor.specs.Reading.{of_ground}
use Rattle.std.proofs.Common.{◌≡◌, refl, sym, ◌∙◌, false, true}
use Rattle.leaf_forms.proofs.leaf.ground.Goals as goal

pub returns-then-sees-clause-reads : goal.returns-then-sees-clause-reads
returns-then-sees-clause-reads c = λ side free.
    let t : sees True (view c.args.cursor.now.rest.now) ≡ true = sym c.sees.ensures ∙ c.if-sees.true in
    rw t (closes _ (of_ground side) (grounds.Bool true) (of_ground side (grounds.Bool true)) _ c.closed.ensures.reads refl refl)

pub returns-then-sees-2-clause-reads : goal.returns-then-sees-2-clause-reads
returns-then-sees-2-clause-reads c = λ side free.
    let t : sees True (view c.args.cursor.now.rest.now) ≡ false = sym c.sees.ensures ∙ c.if-sees.false in
    let f : sees False (view c.args.cursor.now.rest.now) ≡ true = sym c.sees-2.ensures ∙ c.if-sees-2.true in
    rw (t, f) (closes _ (of_ground side) (grounds.Bool false) (of_ground side (grounds.Bool false)) _ c.closed-then-sees-2.ensures.reads refl refl)

pub returns-then-sees-3-clause-reads : goal.returns-then-sees-3-clause-reads
returns-then-sees-3-clause-reads c = λ side free.
    let t : sees True (view c.args.cursor.now.rest.now) ≡ false = sym c.sees.ensures ∙ c.if-sees.false in
    let f : sees False (view c.args.cursor.now.rest.now) ≡ false = sym c.sees-2.ensures ∙ c.if-sees-2.false in
    let m : sees Minus (view c.args.cursor.now.rest.now) ≡ true = sym c.sees-3.ensures ∙ c.if-sees-3.true in
    rw (t, f, m) (c.negative.ensures.reads side free)

pub returns-then-sees_string-clause-reads : goal.returns-then-sees_string-clause-reads
returns-then-sees_string-clause-reads c = λ side free.
    let t : sees True (view c.args.cursor.now.rest.now) ≡ false = sym c.sees.ensures ∙ c.if-sees.false in
    let f : sees False (view c.args.cursor.now.rest.now) ≡ false = sym c.sees-2.ensures ∙ c.if-sees-2.false in
    let m : sees Minus (view c.args.cursor.now.rest.now) ≡ false = sym c.sees-3.ensures ∙ c.if-sees-3.false in
    let s : sees_text a_string (view c.args.cursor.now.rest.now) ≡ true = sym c.sees_string.ensures ∙ c.if-sees_string.true in
    rw (t, f, m, s) (c.string_value.ensures.reads side free)

pub returns-then-sees_uri-clause-reads : goal.returns-then-sees_uri-clause-reads
returns-then-sees_uri-clause-reads c = λ side free.
    let t : sees True (view c.args.cursor.now.rest.now) ≡ false = sym c.sees.ensures ∙ c.if-sees.false in
    let f : sees False (view c.args.cursor.now.rest.now) ≡ false = sym c.sees-2.ensures ∙ c.if-sees-2.false in
    let m : sees Minus (view c.args.cursor.now.rest.now) ≡ false = sym c.sees-3.ensures ∙ c.if-sees-3.false in
    let s : sees_text a_string (view c.args.cursor.now.rest.now) ≡ false = sym c.sees_string.ensures ∙ c.if-sees_string.false in
    let u : sees_text a_uri (view c.args.cursor.now.rest.now) ≡ true = sym c.sees_uri.ensures ∙ c.if-sees_uri.true in
    rw (t, f, m, s, u) (c.uri_value.ensures.reads side free)

pub returns-clause-reads : goal.returns-clause-reads
returns-clause-reads c = λ side free.
    let t : sees True (view c.args.cursor.now.rest.now) ≡ false = sym c.sees.ensures ∙ c.if-sees.false in
    let f : sees False (view c.args.cursor.now.rest.now) ≡ false = sym c.sees-2.ensures ∙ c.if-sees-2.false in
    let m : sees Minus (view c.args.cursor.now.rest.now) ≡ false = sym c.sees-3.ensures ∙ c.if-sees-3.false in
    let s : sees_text a_string (view c.args.cursor.now.rest.now) ≡ false = sym c.sees_string.ensures ∙ c.if-sees_string.false in
    let u : sees_text a_uri (view c.args.cursor.now.rest.now) ≡ false = sym c.sees_uri.ensures ∙ c.if-sees_uri.false in
    let b : sees_text a_byte_array (view c.args.cursor.now.rest.now) ≡ false = no_bytes c.args.cursor.now.rest.now in
    rw (t, f, m, s, u, b) (c.positive.ensures.reads side free)
