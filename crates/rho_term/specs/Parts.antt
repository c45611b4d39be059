-- What the parts of a normal term stand for.
use Rattle.std.specs.Prelude.{List, map as each, string_bytes}
use Rattle.calculus.specs.Tree.{Tree, par, row, fresh, var, name_var, list, tuple, set, dict, pair, send, receive, bind, new, match, case, bundle, unary, binary, method, pattern, rest, any, some_process, some_name, simple, same, both, either, not_this, list_pattern, set_pattern, map_pattern}
use Rattle.calculus.specs.Shape.{leaf, one, two, three, many}
use Rattle.calculus.specs.Meaning.{ground_label}
use Rattle.calculus.specs.declared.plain.Ground.{Ground}
use Rattle.rho_term.specs.declared.term.Part.{Part}
use Rattle.rho_term.specs.declared.term.Part.TheVariants as part
use Rattle.rho_term.specs.declared.term.PatPart.{PatPart}
use Rattle.rho_term.specs.declared.term.PatPart.TheVariants as pat
use Rattle.rho_term.specs.declared.term.TermBind.{TermBind}
use Rattle.rho_term.specs.declared.term.TermCase.{TermCase}

-- a ground value
abbrev pub ground_tree : Ground → Tree
ground_tree g = leaf (ground_label g)

-- a bind, whose channel stands first
abbrev pub bind_tree : TermBind → Tree
bind_tree b = three bind b.channel (many row b.pats.items) (leaf (rest b.rest))

-- a case
abbrev pub case_tree : TermCase → Tree
case_tree c = two case c.pat c.body

-- a key and its value
abbrev pub pair_tree : Tree × Tree → Tree
pair_tree p = two pair p.0 p.1

-- a part of a process
abbrev pub part_tree : Part → Tree
part_tree (part.Ground g) = ground_tree g
part_tree (part.Fresh d) = leaf (fresh d.0)
part_tree (part.Var i) = leaf (var i)
part_tree (part.NameVar i) = leaf (name_var i)
part_tree (part.List ts) = many list ts.items
part_tree (part.Tuple ts) = many tuple ts.items
part_tree (part.Set ts) = many set ts.items
part_tree (part.Map ps) = many dict (each pair_tree ps.items)
part_tree (part.Send c xs p) = two (send p) c (many row xs.items)
part_tree (part.Receive k bs b) = two (receive k) (many row (each bind_tree bs.items)) b
part_tree (part.New os b) = one (new os.items) b
part_tree (part.Match t cs) = two match t (many row (each case_tree cs.items))
part_tree (part.Bundle r b) = one (bundle r) b
part_tree (part.Unary o a) = one (unary o) a
part_tree (part.Binary o a b) = two (binary o) a b
part_tree (part.Method m t xs) = two (method (string_bytes m)) t (many row xs.items)

-- a part of a pattern
abbrev pub pat_part_tree : PatPart → Tree
pat_part_tree pat.Wild = leaf any
pat_part_tree pat.Var = leaf some_process
pat_part_tree pat.NameVar = leaf some_name
pat_part_tree (pat.Simple k) = leaf (simple k)
pat_part_tree (pat.Same t) = one same t
pat_part_tree (pat.Ground g) = ground_tree g
pat_part_tree (pat.Both a b) = two both a b
pat_part_tree (pat.Either a b) = two either a b
pat_part_tree (pat.Not a) = one not_this a
pat_part_tree (pat.List ts r) = two list_pattern (many row ts.items) (leaf (rest r))
pat_part_tree (pat.Tuple ts) = many tuple ts.items
pat_part_tree (pat.Set ts r) = two set_pattern (many row ts.items) (leaf (rest r))
pat_part_tree (pat.Map ps r) = two map_pattern (many row (each pair_tree ps.items)) (leaf (rest r))
pat_part_tree (pat.Send c xs p) = two (send p) c (many row xs.items)
pat_part_tree (pat.Bundle r b) = one (bundle r) b
pat_part_tree (pat.Closed p) = part_tree p

-- a process of these parts
abbrev pub term_tree : List Part → Tree
term_tree ps = many par (each part_tree ps)

-- a pattern of these parts
abbrev pub pat_tree : List PatPart → Tree
pat_tree ps = many pattern (each pat_part_tree ps)
