-- Groups that a tree is given, one after another.
use Rattle.std.specs.Prelude.{ℕ, cond, List, [], ◌∷◌, Option, Some, None, ⊤}
use Rattle.std.specs.Str.{bytes_eq}
use Rattle.calculus.specs.declared.ids.Digest.{Digest}
use Rattle.radix_root.specs.Leaves.{Leaves}
use Rattle.radix_root.specs.Nodes.{AllShare, Shares}
use Rattle.radix_root.specs.declared.group.Group.{Group}

-- the digest of a group, empty where it has no rows
abbrev pub given : Option Digest → List ℕ
given None = []
given (Some d) = d.0

-- the digest of a key after these groups were given, where it was this before
abbrev pub digest_after : List Group → List ℕ → List ℕ → List ℕ
digest_after [] v k = v
digest_after (g ∷ gs) v k = digest_after gs (cond (bytes_eq k g.key.0) (given g.digest) v) k

-- each of the groups' keys is so
abbrev pub AllGroups : (List ℕ → Type 0) → List Group → Type 0
AllGroups P [] = ⊤
AllGroups P (g ∷ gs) = P g.key.0 × AllGroups P gs

-- all keys begin with the same half bytes, as many as these
pub record ShareAll (d : ℕ) (ls : Leaves) (gs : List Group) : Type 0 where
  pub one : List ℕ
  pub leaves : AllShare d one ls
  pub groups : AllGroups (Shares d one) gs
