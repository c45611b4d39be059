use Rattle.std.proofs.Common.{◌≡◌, ◌++◌, List, ℕ, length, map, take, sym, ◌∙◌, ap, arith, append-nil}
use Rattle.std.proofs.Math.Seq.{take-length}
use Rattle.std.proofs.lemmas.Result.{IfOk-weaker}
use Rattle.calculus.specs.Bytes.{joined}
use Rattle.calculus.specs.Rows.{Row, row_code}
use Rattle.calculus.proofs.ListCodes.{length-map}
use Rattle.checkpoint.specs.Texts.{head_with}
use Rattle.checkpoint.proofs.Ordering.{head-text}
use Rattle.checkpoint.proofs.Written.{grown}
use Rattle.checkpoint.proofs.text.write_text.Goals as goal

pub loop-row-init : goal.loop-row-init
loop-row-init c = λ f. (f, sym (append-nil _))

pub loop-row-preserved : goal.loop-row-preserved
loop-row-preserved c = λ f.
    let p = c.add_row.ensures f in
    let q = c.loop-row.invariant p.0 in (
      q.0,
      grown row_code _ c.loop-row.page.bytes.items c.add_row.new.self.bytes.items c.args.rows.now c.loop-row.row-index c.row-item.result
          c.loop-row-test.true q.1 (p.1 ∙ ap (λ (r : Row). c.loop-row.page.bytes.items ++ row_code r) c.row-item.is),
    )

pub returns : goal.returns
returns c =
    let rows = c.args.rows.now in
    let all : c.loop-row.row-index ≡ length rows = omega arith in
    IfOk-weaker c.made.result _ _
    (λ v p. let q = c.loop-row.invariant p.0 in
    p.1 ∙ q.1 ∙ ap (λ (l : List ℕ). l ++ joined (map row_code (take c.loop-row.row-index rows))) (c.headed-page.ensures q.0)
    ∙ ap (λ (rs : List Row). head_with c.args.root.now.0 (length rows) ++ joined (map row_code rs)) (ap (λ n. take n rows) all ∙ take-length rows)
    ∙ head-text c.args.root.now.0 (length rows) (map row_code rows) (sym (length-map row_code rows)))
    c.made.ensures
