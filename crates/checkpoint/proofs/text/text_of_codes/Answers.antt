use Rattle.std.proofs.Common.{◌≡◌, ◌++◌, List, ℕ, length, map, sym, ◌∙◌, ap, rules, append-nil, vec_len}
use Rattle.std.specs.declared.alloc.Global.{Global}
use Rattle.std.specs.declared.vec.Vec.{Vec}
use Rattle.std.proofs.lemmas.Iterator.Adapters.{YieldsList-from_vec}
use Rattle.std.proofs.lemmas.Iterator.Consumers.{YieldsList-end}
use Rattle.std.proofs.lemmas.Result.{IfOk-weaker}
use Rattle.calculus.specs.Bytes.{joined}
use Rattle.calculus.proofs.ListCodes.{length-map}
use Rattle.checkpoint.specs.Texts.{head_with}
use Rattle.checkpoint.proofs.Ordering.{head-text}
use Rattle.checkpoint.proofs.Written.{grown-by, same-list}
use Rattle.checkpoint.proofs.text.text_of_codes.Goals as goal

pub loop-code-init : goal.loop-code-init
loop-code-init c = λ f. (f, sym (append-nil _))

pub loop-code-preserved : goal.loop-code-preserved
loop-code-preserved c = λ f.
    let p = c.add.ensures f in
    let q = c.loop-code.invariant p.0 in (
      q.0,
      grown-by (λ v. v.items) _ c.loop-code.page.bytes.items c.add.new.self.bytes.items c.loop-code.yielded c.in-Some.code q.1
          (p.1 ∙ ap (λ (l : List ℕ). c.loop-code.page.bytes.items ++ l) c.as_slice.ensures.value),
    )

pub returns : goal.returns
returns c =
    let code : Vec ℕ Global → List ℕ = λ v. v.items in
    let items = c.args.codes.items in
    let gives = c.into_iter-code-iterator.ensures.into_iter_gives in
    let long : vec_len c.args.codes ≡ length items = search rules in
    let end = YieldsList-end (YieldsList-from_vec {s = c.into_iter-code-iterator.result} items gives.0 (gives.1 ∙ long)) c.loop-code.yielded c.loop-code.code-iterator c.loop-code.yielded_by c.next.result c.next.new.self c.in-None.is c.next.ensures.steps in
    let all : c.loop-code.yielded ≡ items = sym (same-list c.loop-code.yielded) ∙ end.0 in
    IfOk-weaker c.made.result _ _
    (λ v p. let q = c.loop-code.invariant p.0 in
    p.1 ∙ q.1 ∙ ap (λ (l : List ℕ). l ++ joined (map code c.loop-code.yielded)) (c.headed-page.ensures q.0)
    ∙ ap (λ (vs : List (Vec ℕ Global)). head_with c.args.root.now.0 c.len.result ++ joined (map code vs)) all
    ∙ head-text c.args.root.now.0 c.len.result (map code items) (c.len.ensures ∙ long ∙ sym (length-map code items)))
    c.made.ensures
