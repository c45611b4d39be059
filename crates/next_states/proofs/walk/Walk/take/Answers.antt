use Rattle.std.proofs.Common.{◌≡◌, ◌∷◌, List, ℕ, true, false, sym, ◌∙◌, subst}
use Rattle.std.specs.Prelude.{◌⊎◌}
use Rattle.next_states.specs.Pairs.{pair_of, seconds}
use Rattle.next_states.specs.Walks.{Has, pairs_left, row_of}
use Rattle.next_states.proofs.Walking.{match-agrees, match-first, match-key, add-agrees}
use Rattle.next_states.proofs.Finding.{IsNoneOf, stands-at, match-finds, add-finds, new-none}
use Rattle.next_states.proofs.walk.Walk.take.Goals as goal

pub returns-then-is_next : goal.returns-then-is_next
returns-then-is_next c = λ f.
    let w = c.pass_below.new.self in
    let p = c.pass_below.ensures f in
    let r = row_of c.args.coded.now in
    let seen = c.as_slice-code.ensures.value in
    let code = c.is_next.ensures.code c.if-is_next.true ∙ seen in
    let left = c.pass.new.self in
    let pairs = c.pass.ensures.pairs in
    let storable = c.known_storable.ensures in (
      p.0,
      record {
        agrees = λ all done h a. match-agrees w all done left r c.pass.result.0 _ pairs (code ∙ h) storable (p.1.passing.agrees all done a);
        own = λ all done h a. sym (match-key w all done left r c.pass.result.0 _ pairs (code ∙ h) storable (p.1.passing.agrees all done a));
        finds = λ all done next h a g.
            match-finds w all done left (pair_of r) next (match-first w all done left r c.pass.result.0 _ pairs (code ∙ h) storable (p.1.passing.agrees all done a))
            (p.1.passing.finds all done (pair_of r ∷ next) (stands-at _ r next (seen ∙ h) g.next) g);
      },
    )

pub returns-in-Ok : goal.returns-in-Ok
returns-in-Ok c = λ f.
    let w = c.pass_below.new.self in
    let e = c.add.ensures f in
    let p = c.pass_below.ensures e.0 in
    let r = row_of c.args.coded.now in
    let seen = c.as_slice-code.ensures.value in
    let own = c.in-Ok.ensures in
    let ps = pairs_left w.left in
    let ch = c.add.new.self in (
      p.0,
      record {
        agrees = λ all done h a. add-agrees w all done ch r (subst (Has ch) own e.1.here) e.1.others e.1.bare (p.1.passing.agrees all done a);
        own = λ all done h a. own;
        finds = λ all done next h a g.
            let low = p.1.passing.finds all done (pair_of r ∷ next) (stands-at _ r next (seen ∙ h) g.next) g in
            let none = new-none _ ps p.1.least low.left (c.is_next.ensures.other c.if-is_next.false) in
            add-finds w all done ch (pair_of r) next (λ k m. subst (λ (d : List ℕ). Has w.changed k ⊎ (k ≡ d)) own (e.1.only k m))
            (subst (λ (x : List ℕ). IsNoneOf x (seconds ps)) (seen ∙ h) none) low;
      },
    )

no-truth : true ≡ false → ⊥
no-truth e = cc

pub returns-in-Err : goal.returns-in-Err
returns-in-Err c = λ f. absurd (no-truth (sym c.fail.ensures ∙ f))
