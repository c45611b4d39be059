-- Work that holds shared references may be shared by threads.
use mir.Syntax.{Sym, Lifetime}
use base.Fml.{Lft}
use denote.RattleType.{RattleType}
use denote.Ref.{ShrRef}
use denote.Param.Send.{IsSync, AllSync, recorded_sync, shr_sync, struct_sync}
use denote.Struct.Declared as D
use denote.Struct.Tuple.{TupleAt, type_at}
use Rattle.std.proofs.Common.{List, [], ◌∷◌}

module _ (name : Sym) (i j k l m : Lifetime) (a b c d e : Lft) (A B C E F : RattleType) where
  abbrev held : List RattleType
  held = ShrRef i a A ∷ ShrRef j b B ∷ ShrRef k c C ∷ ShrRef l d E ∷ ShrRef m e F ∷ []

  -- a closure that holds references to five things which threads may share is such a thing too
  pub five-shared : IsSync A → IsSync B → IsSync C → IsSync E → IsSync F → IsSync (TupleAt name held)
  five-shared p q r s t =
      let all : AllSync (D.shape (type_at name held)).fields = (shr_sync i a A p, (shr_sync j b B q, (shr_sync k c C r, (shr_sync l d E s, (shr_sync m e F t, tt))))) in
      recorded_sync _ _ _ (type_at name held).to_one (struct_sync (D.shape (type_at name held)) all)
