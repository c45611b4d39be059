use Rattle.std.proofs.Common.{ℕ, ◌+◌, ◌<◌, ◌≤◌, ◌≡◌, eqb, not, get_or, false, ap, sym, ◌∙◌, arith, ne_eqb, eq-eqb, subst}
use Rattle.std.specs.Int.{bit_at}
use Rattle.std.proofs.lemmas.Grind.{get_or_default_zero}
use Rattle.shard_counts.proofs.Setting.{set-more, set-later, unset-more}
use Rattle.shard_counts.proofs.counts.Counts.bits.Goals as goal
use Rattle.shard_counts.proofs.counts.Counts.bits.Goals.{then-index-ne0, else-index-ne0}

pub loop-number-preserved : goal.loop-number-preserved
loop-number-preserved c =
    let i = c.loop-number.invariant in
    let items = c.self.inside.counts.items in
    let n = c.loop-number.number in
    let bits = c.loop-number.bits in
    let at = c.index.ensures ∙ get_or_default_zero items n c.index.result.now (omega (arith, c.self.invariant, c.loop-number-test.true)) in
    elim c.if-index-ne0.branch [
      | then-index-ne0 w ↦
          let P : ℕ → Type 0 = λ b. ((s : ℕ) → s < n + 1 → eqb (bit_at b s) 1 ≡ not (eqb (get_or items s 0) 0)) × ((s : ℕ) → n + 1 ≤ s → eqb (bit_at b s) 1 ≡ false) in
          let p = subst P (sym w.bits-is) (set-more (λ s. not (eqb (get_or items s 0) 0)) bits n c.loop-number-test.true i.done (ap not (ne_eqb (get_or items n 0) 0 (λ z. w.if-index-ne0.true (at ∙ z)))), set-later bits n c.loop-number-test.true i.left) in
          record { done = p.0; left = p.1 }
      | else-index-ne0 w ↦
          let P : ℕ → Type 0 = λ b. ((s : ℕ) → s < n + 1 → eqb (bit_at b s) 1 ≡ not (eqb (get_or items s 0) 0)) × ((s : ℕ) → n + 1 ≤ s → eqb (bit_at b s) 1 ≡ false) in
          let p = subst P (sym w.bits-is) (unset-more (λ s. not (eqb (get_or items s 0) 0)) bits n i.done (i.left n (omega arith)) (ap not (eq-eqb (get_or items n 0) 0 (sym at ∙ w.if-index-ne0.false))), (λ s ls. i.left s (omega arith))) in
          record { done = p.0; left = p.1 }
    ]
