-- What a part is where it is of one form, and where it is of none such.
use Rattle.std.specs.Prelude.{ℕ, ◌≡◌, List, Bool, Vec}
use Rattle.std.specs.declared.alloc.Global.{Global}
use Rattle.calculus.specs.declared.plain.Kind.{Kind}
use Rattle.calculus.specs.declared.plain.Rights.{Rights}
use Rattle.calculus.specs.Tree.{Tree}
use Rattle.rho_term.specs.declared.op.Op.{Op}
use Rattle.rho_term.specs.declared.term.Part.{Part}
use Rattle.rho_term.specs.declared.term.Part.TheVariants as part
use Rattle.rho_term.specs.declared.term.TermBind.{TermBind}
use Rattle.rho_term.specs.declared.term.TermCase.{TermCase}
use Rattle.rho_term.specs.Parts.{part_tree}
use Rattle.rho_term.specs.Rows.{row_of_op}

-- the set of these members
abbrev pub IsSetOf : Part → Vec Tree Global → Type 0
IsSetOf p members = p ≡ part.Set members

-- no set
abbrev pub IsNoSet : Part → Type 0
IsNoSet p = (members : Vec Tree Global) → p ≡ part.Set members → ⊥

-- the map of these pairs
abbrev pub IsMapOf : Part → Vec (Tree × Tree) Global → Type 0
IsMapOf p pairs = p ≡ part.Map pairs

-- no map
abbrev pub IsNoMap : Part → Type 0
IsNoMap p = (pairs : Vec (Tree × Tree) Global) → p ≡ part.Map pairs → ⊥

-- the match of this target and these cases
abbrev pub IsMatchOf : Part → Tree × Vec TermCase Global → Type 0
IsMatchOf p m = p ≡ part.Match m.0 m.1

-- no match
abbrev pub IsNoMatch : Part → Type 0
IsNoMatch p = (target : Tree) (cases : Vec TermCase Global) → p ≡ part.Match target cases → ⊥

-- a bundle of this body
abbrev pub IsBundleOf : Part → Tree → Type 0
IsBundleOf p body = (rights : Rights) × (p ≡ part.Bundle rights body)

-- no bundle
abbrev pub IsNoBundle : Part → Type 0
IsNoBundle p = (rights : Rights) (body : Tree) → p ≡ part.Bundle rights body → ⊥

-- the part that this offer with this id is of
abbrev pub IsOfferedBy : Part → List ℕ → Op → Type 0
IsOfferedBy p id o = row_of_op o ≡ record { id = id; part = part_tree p }

-- no send
abbrev pub IsNoSend : Part → Type 0
IsNoSend p = (channel : Tree) (args : Vec Tree Global) (persistent : Bool) → p ≡ part.Send channel args persistent → ⊥

-- no receive
abbrev pub IsNoReceive : Part → Type 0
IsNoReceive p = (kind : Kind) (binds : Vec TermBind Global) (body : Tree) → p ≡ part.Receive kind binds body → ⊥
