-- Binds and a send for each of them.
use Rattle.std.specs.Prelude.{◌≡◌, ◌==◌, ◌&&◌, ◌||◌, All, Bool, cond, length, List, [], ◌∷◌, ◌++◌, map as each, Option, Some, None, ⊤}
use Rattle.std.specs.declared.alloc.Global.{Global}
use Rattle.std.specs.declared.vec.Vec.{Vec}
use Rattle.calculus.specs.declared.plain.Kind.{Kind}
use Rattle.calculus.specs.declared.ids.Digest.{Digest}
use Rattle.calculus.specs.Matching.{Bindings}
use Rattle.calculus.specs.Rows.{Row}
use Rattle.calculus.specs.Steps.{stays}
use Rattle.calculus.specs.Storing.{IsStorable}
use Rattle.calculus.specs.Tree.{Tree}
use Rattle.rho_term.specs.declared.term.TermBind.{TermBind}
use Rattle.row_search.specs.Choices.{Choice, bound_by, chosen_ids, gone_ids, takes}
use Rattle.row_search.specs.Rows.{is_persistent}
use Rattle.found_rows.specs.declared.found.Found.{Found}

-- one by one these binds take these rows, and these are the choices
abbrev pub AreTaken : List TermBind → List Row → List Choice → Type 0
AreTaken [] [] [] = ⊤
AreTaken (b ∷ bs) (d ∷ ds) (c ∷ cs) = (c.0 ≡ d) × (takes b d ≡ Some c.1) × AreTaken bs ds cs
AreTaken _ _ _ = ⊥

-- these rows are not taken by these binds, one by one
abbrev pub AreNotTaken : List TermBind → List Row → Type 0
AreNotTaken bs ds = (cs : List Choice) → AreTaken bs ds cs → ⊥

-- what a bind binds of a row, which may be stored, or that it takes nothing
abbrev pub Binds : TermBind → Row → Option (Vec Tree Global) → Type 0
Binds b r None = takes b r ≡ None
Binds b r (Some v) = (takes b r ≡ Some v.items) × IsStorable r

-- what a receiver comes to before its first send
pub record Begins (id : Digest) (k : Kind) (body : Tree) (f : Found) : Type 0 where
  pub cont : f.cont ≡ id
  pub taken : f.taken.items ≡ []
  pub bound : f.bound.items ≡ []
  pub body_is : f.body ≡ body
  pub gone : f.gone.items ≡ cond (stays k) [] (id ∷ [])
  pub lasting : f.lasting ≡ stays k

-- one more send, of which this is bound
pub record Adds (f : Found) (d : Row) (xs : Bindings) (peeking : Bool) (g : Found) : Type 0 where
  pub cont : g.cont ≡ f.cont
  pub taken : each (λ (x : Digest). x.0) g.taken.items ≡ each (λ (x : Digest). x.0) f.taken.items ++ d.id ∷ []
  pub bound : g.bound.items ≡ f.bound.items ++ xs
  pub body_is : g.body ≡ f.body
  pub gone : each (λ (x : Digest). x.0) g.gone.items ≡ each (λ (x : Digest). x.0) f.gone.items ++ cond (peeking || is_persistent d) [] (d.id ∷ [])
  pub lasting : g.lasting ≡ (f.lasting && (peeking || is_persistent d))

-- what a receiver comes to with these choices
pub record Comes (id : Digest) (k : Kind) (body : Tree) (cs : List Choice) (f : Found) : Type 0 where
  pub cont : f.cont ≡ id
  pub taken : each (λ (x : Digest). x.0) f.taken.items ≡ chosen_ids cs
  pub bound : f.bound.items ≡ bound_by cs
  pub body_is : f.body ≡ body
  pub gone : each (λ (x : Digest). x.0) f.gone.items ≡ cond (stays k) [] (id.0 ∷ []) ++ gone_ids k cs
  pub lasting : f.lasting ≡ (stays k && length (gone_ids k cs) == 0)
  pub storable : All (λ c. IsStorable c.0) cs

-- these rows are taken by these binds, one by one, and this is what the receiver comes to
pub record Gathers (id : Digest) (k : Kind) (body : Tree) (bs : List TermBind) (ds : List Row) (f : Found) : Type 0 where
  pub chosen : List Choice
  pub are : AreTaken bs ds chosen
  pub comes : Comes id k body chosen f
