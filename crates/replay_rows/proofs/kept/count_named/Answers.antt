use Rattle.std.proofs.Common.{◌≡◌, ◌<◌, ℕ, ◌∷◌, ◌++◌, [], List, true, false, sym, ap, subst, ◌∙◌, arith, length, map as each, take, get_or}
use Rattle.std.specs.Prelude.{◌||◌}
use Rattle.std.specs.Str.{bytes_eq}
use Rattle.std.proofs.lemmas.List.{take_all}
use Rattle.calculus.specs.declared.ids.Digest.{Digest}
use Rattle.calculus.specs.Steps.{is_one_of}
use Rattle.hub_scenes.specs.Spaces.{SeenRow, IsIn}
use Rattle.hub_scenes.proofs.Basics.{has, hold}
use Rattle.replay_space.proofs.Filed.{mapped-more}
use Rattle.replay_rows.specs.Rows.{filed_rows, counted_in}
use Rattle.replay_rows.proofs.Filing.{is-same}
use Rattle.replay_rows.proofs.Settling.{uncounted, next-counted, first-counted, same-at, named-at, or-true, not-true}
use Rattle.replay_rows.proofs.kept.count_named.Goals as goal

pub settle-requires-clause-low : goal.settle-requires-clause-low
settle-requires-clause-low c e q m f =
    let s = c.args.step.now in
    c.requires.low q m (ap (λ b. b || is_one_of q.row.id (each (λ (d : Digest). d.0) s.taken.items)) (is-same q.row.id s.cont.0 (sym f)))

pub loop-i-init : goal.loop-i-init
loop-i-init c = record { rows = c.settle.ensures.rows ∙ first-counted c.args.step.now.cont.0 (filed_rows c.args.rows.now.entries); filed = c.settle.ensures.filed }

pub count_if-requires-clause-low : goal.count_if-requires-clause-low
count_if-requires-clause-low c w q m f =
    let s = c.args.step.now in
    let ids = s.cont.0 ∷ each (λ (d : Digest). d.0) (take c.loop-i.i s.taken.items) in
    let t = c.index.result.now in
    let h : c.loop-i.i < length s.taken.items = omega (arith, c.loop-i-test.true, c.len-i-end.ensures, s.taken.ok.0) in
    let at : t ≡ get_or s.taken.items c.loop-i.i s.cont = c.index.ensures ∙ same-at s.taken.items c.loop-i.i t s.cont h in
    let none : is_one_of t.0 ids ≡ false = ap (λ (d : Digest). is_one_of d.0 ids) at ∙ sym c.was_named-wanted.ensures ∙ not-true c.was_named-wanted.result w in
    let named : is_one_of q.row.id (each (λ (d : Digest). d.0) s.taken.items) ≡ true = ap (λ x. is_one_of x (each (λ (d : Digest). d.0) s.taken.items)) (sym f ∙ ap (λ (d : Digest). d.0) at) ∙ named-at s.taken.items c.loop-i.i s.cont h in
    c.requires.low q
    (hold q (filed_rows c.args.rows.now.entries) (uncounted t.0 ids none q (filed_rows c.args.rows.now.entries) (has q _ (subst (λ (l : List SeenRow). IsIn q l) c.loop-i.invariant.rows m)) f))
    (ap (λ b. bytes_eq q.row.id s.cont.0 || b) named ∙ or-true (bytes_eq q.row.id s.cont.0))

pub loop-i-preserved : goal.loop-i-preserved
loop-i-preserved c =
    let s = c.args.step.now in
    let old = filed_rows c.args.rows.now.entries in
    let ids = s.cont.0 ∷ each (λ (d : Digest). d.0) (take c.loop-i.i s.taken.items) in
    let t = c.index.result.now in
    let h : c.loop-i.i < length s.taken.items = omega (arith, c.loop-i-test.true, c.len-i-end.ensures, s.taken.ok.0) in
    let at : t ≡ get_or s.taken.items c.loop-i.i s.cont = c.index.ensures ∙ same-at s.taken.items c.loop-i.i t s.cont h in
    record {
      rows = c.count_if.ensures.rows ∙ next-counted c.was_named-wanted.result t.0 ids old (filed_rows c.loop-i.rows.entries) (c.was_named-wanted.ensures ∙ ap (λ (d : Digest). is_one_of d.0 ids) (sym at)) c.loop-i.invariant.rows
          ∙ ap (λ (xs : List (List ℕ)). each (counted_in (s.cont.0 ∷ xs)) old) (ap (λ (d : Digest). each (λ (z : Digest). z.0) (take c.loop-i.i s.taken.items) ++ d.0 ∷ []) at ∙ sym (mapped-more (λ (d : Digest). d.0) s.taken.items c.loop-i.i s.cont h));
      filed = c.count_if.ensures.filed;
    }

pub returns-clause-rows : goal.returns-clause-rows
returns-clause-rows c =
    let s = c.args.step.now in
    c.loop-i.invariant.rows
    ∙ ap (λ (l : List Digest). each (counted_in (s.cont.0 ∷ each (λ (d : Digest). d.0) l)) (filed_rows c.args.rows.now.entries)) (take_all c.loop-i.i s.taken.items (omega (arith, c.loop-i-test.false, c.len-i-end.ensures, s.taken.ok.0)))
