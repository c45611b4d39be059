-- The least data that the binds of a receiver take.
use Rattle.std.specs.Prelude.{◌≡◌, true, List, [], ◌∷◌, None, IsSome, ⊤}
use Rattle.calculus.specs.declared.ids.Digest.{Digest}
use Rattle.calculus.specs.Order.{up_to}
use Rattle.calculus.specs.Rows.{Row}
use Rattle.events.specs.Found.{Among}
use Rattle.rho_term.specs.declared.term.TermBind.{TermBind}
use Rattle.row_search.specs.Choices.{takes}
use Rattle.row_search.specs.Rows.{IsIn}

-- a bind takes none of these rows
abbrev pub TakesNone : List Row → TermBind → Type 0
TakesNone rows b = (r : Row) → Among r rows → takes b r ≡ None

-- the id of a row that a bind takes, the least of all such
pub record IsLeastTaken (rows : List Row) (b : TermBind) (id : Digest) : Type 0 where
  pub send : Row
  pub among : Among send rows
  pub id_is : id.0 ≡ send.id
  pub taken : IsSome (takes b send)
  pub least : (r : Row) → Among r rows → IsSome (takes b r) → up_to send.id r.id ≡ true

-- one of these binds takes none of these rows
abbrev pub OneTakesNone : List Row → List TermBind → Type 0
OneTakesNone rows bs = (b : TermBind) × IsIn b bs × TakesNone rows b

-- one by one the least ids for these binds
abbrev pub AreLeastTaken : List Row → List TermBind → List Digest → Type 0
AreLeastTaken rows [] [] = ⊤
AreLeastTaken rows [] (d ∷ ds) = ⊥
AreLeastTaken rows (b ∷ bs) [] = ⊥
AreLeastTaken rows (b ∷ bs) (d ∷ ds) = IsLeastTaken rows b d × AreLeastTaken rows bs ds
