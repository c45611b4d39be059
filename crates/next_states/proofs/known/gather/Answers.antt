use Rattle.std.proofs.Common.{◌≡◌, ◌+◌, List, ℕ, [], ◌∷◌, ◌++◌, length, map, take, sym, ◌∙◌, ap, subst, append_assoc, append-nil, arith}
use Rattle.std.proofs.Math.Seq.{take-length}
use Rattle.checkpoint.proofs.Adding.{map-push, taken-more}
use Rattle.next_states.specs.Pairs.{Pair}
use Rattle.next_states.specs.Walks.{Holds, Puts, pair_in}
use Rattle.next_states.specs.declared.walk.Keyed.{Keyed}
use Rattle.next_states.proofs.known.gather.Goals as goal

pub loop-row-init : goal.loop-row-init
loop-row-init c = λ f. (f, record { others = λ k h. h; only = λ k h. h; holds = λ qs h. subst (Holds c.args.changed.now) (sym (append-nil qs)) h })

pub loop-row-preserved : goal.loop-row-preserved
loop-row-preserved c = λ f.
    let ks = c.args.keyed.now in
    let i = c.loop-row.row-index in
    let row = c.row-item.result in
    let e = c.put.ensures f in
    let was = c.loop-row.invariant e.0 in
    let done = map pair_in (take i ks) in
    let more : map pair_in (take (i + 1) ks) ≡ done ++ (row.key.0, c.as_slice.result.now) ∷ [] =
    ap (map pair_in) (taken-more ks i row c.loop-row-test.true c.row-item.is) ∙ map-push pair_in (take i ks) row
    ∙ ap (λ (code : List ℕ). done ++ (row.key.0, code) ∷ []) (sym c.as_slice.ensures.value) in (
      was.0,
      record {
        others = λ k h. e.1.others k (was.1.others k h);
        only = λ k h. was.1.only k (e.1.only k h);
        holds = λ qs h.
            subst (Holds c.put.new.self) (append_assoc qs done ((row.key.0, c.as_slice.result.now) ∷ []) ∙ ap (λ (ps : List Pair). qs ++ ps) (sym more))
            (e.1.holds (qs ++ done) (was.1.holds qs h));
      },
    )

pub returns : goal.returns
returns c = λ f.
    let ks = c.args.keyed.now in
    let all : c.loop-row.row-index ≡ length ks = omega arith in
    let was = c.loop-row.invariant f in
    (was.0, subst (λ (xs : List Keyed). Puts c.args.changed.now c.loop-row.changed (map pair_in xs)) (ap (λ n. take n ks) all ∙ take-length ks) was.1)
