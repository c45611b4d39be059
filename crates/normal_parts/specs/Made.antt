-- Trees as they are made: insides first.
use Rattle.std.specs.Prelude.{List, [], ◌∷◌, ◌++◌, map as each}
use Rattle.calculus.specs.Tree.{Tree, node, trees}
use Rattle.calculus.specs.Shape.{held}
use Rattle.calculus.specs.Written.{Written}
use Rattle.calculus.specs.Bare.{Names, bare_in}
use Rattle.scope.specs.NormalForm.{normal_form, normal_forms}

-- a tree in whose constituents all is in normal order, while they themselves stand as written
abbrev pub inner_normal : Tree → Tree
inner_normal (node l ts) = node l (trees (normal_forms ts))

-- the normal form of what is written in this scope
unfoldable pub normal_in : Written → Names → Tree
normal_in t v = normal_form (bare_in t v)

-- the normal forms of these in this scope
abbrev pub all_in : List Written → Names → List Tree
all_in ts v = each (λ t. normal_in t v) ts

-- the parts of what is written in this scope, in written order, with all that stands in them in normal order
unfoldable pub parts_in : Written → Names → List Tree
parts_in t v = each inner_normal (held (bare_in t v))

-- the parts of a pattern that is written in this scope, in normal order all through
unfoldable pub pattern_parts_in : Written → Names → List Tree
pattern_parts_in t v = each normal_form (held (bare_in t v))

-- the parts of each of these, one after another
abbrev pub all_parts : List Written → Names → List Tree
all_parts [] v = []
all_parts (t ∷ ts) v = parts_in t v ++ all_parts ts v

-- the same of patterns
abbrev pub all_pattern_parts : List Written → Names → List Tree
all_pattern_parts [] v = []
all_pattern_parts (t ∷ ts) v = pattern_parts_in t v ++ all_pattern_parts ts v
