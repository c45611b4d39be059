-- What a bind takes of a row.
use Rattle.std.proofs.Common.{◌≡◌, Bool, true, false, cond, List, [], ◌∷◌, refl, sym, ap, ◌∙◌, subst, inl, inr}
use Rattle.std.specs.Prelude.{Option, Some, None, option_and_then}
use Rattle.std.specs.declared.alloc.Global.{Global}
use Rattle.std.specs.declared.vec.Vec.{Vec}
use Rattle.calculus.specs.declared.ids.Digest.{Digest}
use Rattle.calculus.specs.Tree.{Tree}
use Rattle.calculus.specs.Shape.{at, held}
use Rattle.calculus.specs.Congruence.{congruent}
use Rattle.calculus.specs.Matching.{Bindings, bind_matches, first_of_all}
use Rattle.calculus.specs.Rows.{Row}
use Rattle.calculus.specs.Steps.{Datum, as_datum, bindings_of}
use Rattle.calculus.proofs.Placing.{listed-trees}
use Rattle.events.specs.Found.{Among}
use Rattle.rho_term.specs.declared.op.Op.TheVariants as op
use Rattle.rho_term.specs.declared.term.TermBind.{TermBind}
use Rattle.rho_term.specs.Parts.{bind_tree}
use Rattle.rho_term.specs.Rows.{row_of_op}
use Rattle.match_targets.specs.Found.{IsFirst}
use Rattle.row_search.specs.Rows.{is_persistent, is_sent_on}
use Rattle.row_search.specs.Choices.{Choice, choice_or, first_taken, takes}
use Rattle.row_search.proofs.Known.{sent-datum}
use Rattle.calculus.specs.Storing.{IsStorable}

-- what a bind takes of a send
send-takes : (b : TermBind) (id : Digest) (c : Tree) (xs : Vec Tree Global) (q : Bool)
    → takes b (row_of_op (op.Produce id c xs q)) ≡ cond (congruent b.channel c) (first_of_all (bind_matches (bind_tree b) xs.items)) None
send-takes b id c xs q = ap (λ (us : List Tree). cond (congruent b.channel c) (first_of_all (bind_matches (bind_tree b) us)) None) (listed-trees xs.items)

module _ (b : TermBind) (r : Row) (id : Digest) (c : Tree) (xs : Vec Tree Global) (q : Bool) (e : r ≡ row_of_op (op.Produce id c xs q)) (f : congruent b.channel c ≡ true) (us : List Tree) (g : us ≡ xs.items) where
  of_matches : takes b r ≡ first_of_all (bind_matches (bind_tree b) us)
  of_matches =
      ap (takes b) e ∙ send-takes b id c xs q ∙ ap (λ w. cond w (first_of_all (bind_matches (bind_tree b) xs.items)) None) f
      ∙ ap (λ ts. first_of_all (bind_matches (bind_tree b) ts)) (sym g)

  pub send-none : (v : Option (Vec Tree Global)) → v ≡ None → IsFirst (bind_matches (bind_tree b) us) v → takes b r ≡ None
  send-none v n h = of_matches ∙ subst (IsFirst (bind_matches (bind_tree b) us)) n h

  pub send-some : (v : Option (Vec Tree Global)) (w : Vec Tree Global) → v ≡ Some w → IsFirst (bind_matches (bind_tree b) us) v
      → IsStorable r → (id.0 ≡ r.id) × (q ≡ is_persistent r) × (takes b r ≡ Some w.items) × IsStorable r
  send-some v w n h s = (sym (ap (λ (x : Row). x.id) e), sym (ap is_persistent e), of_matches ∙ subst (IsFirst (bind_matches (bind_tree b) us)) n h, s)

-- a send on another channel is not taken
pub other-channel : (b : TermBind) (r : Row) (id : Digest) (c : Tree) (xs : Vec Tree Global) (q : Bool) → r ≡ row_of_op (op.Produce id c xs q) → congruent b.channel c ≡ false → takes b r ≡ None
other-channel b r id c xs q e f = ap (takes b) e ∙ send-takes b id c xs q ∙ ap (λ w. cond w (first_of_all (bind_matches (bind_tree b) xs.items)) None) f

-- an option that is made from another
pub and_then : {A B : Type 0} (f : A → Option B) (x : Option A) (y : B) → option_and_then f x ≡ Some y → (z : A) × (x ≡ Some z) × (f z ≡ Some y)
and_then f None y e = cc
and_then f (Some z) y e = (z, refl, e)

-- a bind takes a datum on its channel
pub tree-channel : (b : Tree) (d : Datum) (xs : Bindings) → bindings_of b d ≡ Some xs → congruent (at 0 (held b)) d.channel ≡ true
tree-channel b d xs e = go (congruent (at 0 (held b)) d.channel) refl e
  where
    go : (v : Bool) → congruent (at 0 (held b)) d.channel ≡ v → cond v (first_of_all (bind_matches b d.args)) None ≡ Some xs → congruent (at 0 (held b)) d.channel ≡ true
    go true f g = f
    go false f g = cc

pub on_channel : (b : TermBind) (d : Datum) (xs : Bindings) → bindings_of (bind_tree b) d ≡ Some xs → congruent b.channel d.channel ≡ true
on_channel b d xs e = tree-channel (bind_tree b) d xs e

-- what a bind takes is a send on its channel
pub takes-on : (b : TermBind) (r : Row) (xs : Bindings) → takes b r ≡ Some xs → is_sent_on b.channel r ≡ true
takes-on b r xs e =
    let d = and_then (bindings_of (bind_tree b)) (as_datum r.part) xs e in
    sent-datum b.channel r d.0 d.1 ∙ on_channel b d.0 xs d.2

pub first-is : (b : TermBind) (rs : List Row) (c : Choice) → first_taken b rs ≡ Some c → Among c.0 rs × (takes b c.0 ≡ Some c.1)
first-is b [] c e = cc
first-is b (r ∷ rs) c e = go (first-is b rs c) (takes b r) refl e
  where
    go : (first_taken b rs ≡ Some c → Among c.0 rs × (takes b c.0 ≡ Some c.1)) → (xs : Option Bindings) → takes b r ≡ xs → choice_or r xs (first_taken b rs) ≡ Some c → Among c.0 (r ∷ rs) × (takes b c.0 ≡ Some c.1)
    go next None f g = let p = next g in (inr p.0, p.1)
    go next (Some xs) f g =
        let same : (r, xs) ≡ c = cc in
        let P : Choice → Type 0 = λ d. Among d.0 (r ∷ rs) × (takes b d.0 ≡ Some d.1) in
        subst P same (inl refl, f)

pub first-none : (b : TermBind) (rs : List Row) (r : Row) → first_taken b rs ≡ None → Among r rs → takes b r ≡ None
first-none b [] r e h = absurd h
first-none b (q ∷ rs) r e h = go (first-none b rs r) (takes b q) refl e h
  where
    go : (first_taken b rs ≡ None → Among r rs → takes b r ≡ None) → (xs : Option Bindings) → takes b q ≡ xs → choice_or q xs (first_taken b rs) ≡ None → Among r (q ∷ rs) → takes b r ≡ None
    go next None f g (inl k) = ap (takes b) k ∙ f
    go next None f g (inr k) = next g k
    go next (Some xs) f g k = cc
