use Rattle.std.proofs.Common.{◌≡◌, ℕ, List, length, map, ◌∙◌, ap, arith, rules, vec_len}
use Rattle.std.proofs.lemmas.Result.{on_ok_weaker}
use Rattle.checkpoint.specs.Texts.{text_with}
use Rattle.checkpoint.proofs.Apart.{so-or-not}
use Rattle.checkpoint.proofs.Ordering.{text-of-sorted}
use Rattle.next_states.proofs.Pairs.{known-number}
use Rattle.next_states.proofs.known.KnownState.counted_next_state.Goals as goal

pub returns-clause-text : goal.returns-clause-text
returns-clause-text g c =
    let cs : List (List ℕ) = map (λ v. v.items) c.in_ok-codes.codes.items in
    c.in_ok-text.ensures ∙ ap (λ (d : List ℕ). text_with d cs) c.in_ok-root.ensures.root ∙ text-of-sorted c.args.rows.items cs (c.in_ok-codes.ensures ∙ c.in_ok-root.ensures.codes)

pub returns-then-len-clause-root : goal.returns-then-len-clause-root
returns-then-len-clause-root g c = c.made_state.ensures.root

pub returns-then-len-clause-text : goal.returns-then-len-clause-text
returns-then-len-clause-text g c = c.made_state.ensures.text

pub returns-then-len-clause-made : goal.returns-then-len-clause-made
returns-then-len-clause-made g c =
    so-or-not c.made_state.result
    (λ base kept e l.
    let number : length c.self.inside.marks.items ≡ length base = known-number c.self.inside.text.items c.self.inside.marks.items c.self.inside.tree base c.self.invariant kept (c.self.view_is ∙ e) in
    let marks : vec_len c.self.inside.marks ≡ length c.self.inside.marks.items = search rules in
    let rows : vec_len c.args.rows ≡ length c.args.rows.items = search rules in
    absurd (omega (arith, number, marks, rows, l)))

pub returns-then-len-clause-anew : goal.returns-then-len-clause-anew
returns-then-len-clause-anew g c = on_ok_weaker c.made_state.result (λ made base kept e l. made) c.made_state.ensures.made

pub returns-clause-anew : goal.returns-clause-anew
returns-clause-anew g c = λ base kept e l.
    let number : length c.self.inside.marks.items ≡ length base = known-number c.self.inside.text.items c.self.inside.marks.items c.self.inside.tree base c.self.invariant kept (c.self.view_is ∙ e) in
    let marks : vec_len c.self.inside.marks ≡ length c.self.inside.marks.items = search rules in
    let rows : vec_len c.args.rows ≡ length c.args.rows.items = search rules in
    absurd (omega (arith, number, marks, rows, l))
