use Rattle.std.proofs.Common.{◌≡◌, ℕ, List, ◌∷◌, ◌++◌, [], map, sym, ◌∙◌, ap, subst}
use Rattle.std.specs.Prelude.{Some, None}
use Rattle.std.specs.declared.alloc.Global.{Global}
use Rattle.std.specs.declared.vec.Vec.{Vec}
use Rattle.checkpoint.proofs.Adding.{map-push}
use Rattle.next_states.specs.Walks.{Sets}
use Rattle.next_states.specs.declared.changed.Changed.{Changed}
use Rattle.next_states.proofs.Gathering.{Groups, set-others, set-there, set-none, set-twice, put-there, put-none, gone-others}
use Rattle.next_states.proofs.changed.Changed.put.Goals as goal

pub returns-in-Some : goal.returns-in-Some
returns-in-Some c = λ f.
    let code : Vec ℕ Global → List ℕ = λ v. v.items in
    let m = c.args.self.now.groups in
    let n = c.set.new.self.groups in
    let d = c.args.key.now.0 in
    let old = c.in-Some.codes in
    let new = c.keep.new.items in
    let set = c.set.ensures f in
    let kept = c.keep.ensures set.0 in
    let copied = c.copy_of-copy.ensures kept.0 in
    let same : c.keep.new.self.groups ≡ c.remove.new.self = ap (λ (x : Changed). x.groups) (kept.1.1 ∙ copied.1.1) in
    let again : Sets c.remove.new.self d (Some new) n = subst (λ (g : Groups). Sets g d (Some new) n) same set.1 in
    let whole = set-twice m c.remove.new.self n d None new c.remove.ensures.updates.0 again in
    let was = sym c.remove.ensures.value ∙ c.in-Some.is in
    let more : map code new.items ≡ map code old.items ++ c.args.code.now ∷ [] =
    ap (map code) kept.1.0 ∙ map-push code old.items c.copy_of-copy.result ∙ ap (λ (y : List ℕ). map code old.items ++ y ∷ []) copied.1.0 in (
      copied.0,
      record {
        others = set-others m n d new whole;
        only = set-there m n d old new whole was;
        holds = λ qs h. put-there m n d c.args.code.now old new whole was more qs h;
      },
    )

pub returns-in-None : goal.returns-in-None
returns-in-None c = λ f.
    let m = c.args.self.now.groups in
    let n = c.remove.new.self in
    let d = c.args.key.now.0 in
    let gone = c.remove.ensures.updates.0 in (
      f,
      record {
        others = gone-others m n d gone (sym c.remove.ensures.value ∙ c.in-None.is);
        only = set-none m n d gone;
        holds = λ qs h. put-none m n d c.args.code.now gone qs h;
      },
    )
