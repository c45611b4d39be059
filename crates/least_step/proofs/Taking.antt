-- Whether a bind takes a send on its channel.
use Rattle.std.proofs.Common.{◌≡◌, Bool, true, List, refl, sym, ap}
use Rattle.std.specs.Prelude.{Option, Some, None, is_some}
use Rattle.std.specs.declared.alloc.Global.{Global}
use Rattle.std.specs.declared.vec.Vec.{Vec}
use Rattle.calculus.specs.declared.ids.Digest.{Digest}
use Rattle.calculus.specs.Congruence.{congruent}
use Rattle.calculus.specs.Matching.{bind_matches}
use Rattle.calculus.specs.Rows.{Row}
use Rattle.calculus.specs.Storing.{IsStorable}
use Rattle.calculus.specs.Tree.{Tree}
use Rattle.rho_term.specs.declared.op.Op.TheVariants as op
use Rattle.rho_term.specs.declared.term.TermBind.{TermBind}
use Rattle.rho_term.specs.Parts.{bind_tree}
use Rattle.rho_term.specs.Rows.{row_of_op}
use Rattle.match_targets.specs.Found.{IsFirst}
use Rattle.row_search.specs.Choices.{takes}
use Rattle.row_search.proofs.Taking.{send-none, send-some}

pub matched : (b : TermBind) (r : Row) (id : Digest) (c : Tree) (xs : Vec Tree Global) (q : Bool) → r ≡ row_of_op (op.Produce id c xs q) → congruent b.channel c ≡ true → (us : List Tree) → us ≡ xs.items → IsStorable r
    → (v : Option (Vec Tree Global)) → IsFirst (bind_matches (bind_tree b) us) v → is_some v ≡ is_some (takes b r)
matched b r id c xs q e f us g s None h = sym (ap is_some (send-none b r id c xs q e f us g None refl h))
matched b r id c xs q e f us g s (Some w) h = sym (ap is_some (send-some b r id c xs q e f us g (Some w) w refl h s).2)
