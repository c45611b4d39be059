-- What the parts of forms mean.
use Rattle.std.specs.Prelude.{◌≡◌, List, MatchResult, Result, map}
use Rattle.std.specs.declared.alloc.Global.{Global}
use Rattle.std.specs.declared.vec.Vec.{Vec}
use Rattle.calculus.specs.Meaning.{bind_written, name_pat_written, name_written, pair_of, pat_written, proc_written, rest_written, row_of}
use Rattle.calculus.specs.Tree.{bind, pattern}
use Rattle.calculus.specs.Written.{Written, around, form_of_two}
use Rattle.calculus.specs.declared.process.Bind.{Bind}
use Rattle.calculus.specs.declared.process.Name.{Name}
use Rattle.calculus.specs.declared.process.NamePat.{NamePat}
use Rattle.calculus.specs.declared.process.Pat.{Pat}
use Rattle.calculus.specs.declared.process.Proc.{Proc}
use Rattle.grammar.specs.declared.fault.Fault.{Fault}
use Rattle.grammar.specs.declared.fault.Fault.TheVariants.{NoMemory}
use Rattle.grammar.specs.Values.{Spelt, spelt}
use Rattle.form_parts.specs.declared.part.Left.{Left}
use Rattle.form_parts.specs.declared.part.Part.{Part}
use Rattle.form_parts.specs.declared.part.Sequence.{Sequence}

-- the members between brackets
abbrev pub row_written : Vec Proc Global → Written
row_written ps = row_of (map proc_written ps.items)

-- the patterns between brackets
abbrev pub pat_row_written : Vec Pat Global → Written
pat_row_written ps = row_of (map pat_written ps.items)

-- the patterns of a bind and their remainder
abbrev pub left_written : Left → Written
left_written l = form_of_two (around bind) (row_of (map name_pat_written l.pats.items)) (rest_written l.rest)

-- the members of a list or a set of patterns, and their remainder
abbrev pub sequence_written : Sequence → Written
sequence_written s = form_of_two (around pattern) (row_of (map pat_written s.pats.items)) (rest_written s.rest)

-- keys with their values
abbrev pub pairs_written : List (Proc × Proc) → List Written
pairs_written ps = map pair_of (map (λ p. (proc_written p.0, proc_written p.1)) ps)

-- patterns of keys with those of their values
abbrev pub pat_pairs_written : List (Pat × Pat) → List Written
pat_pairs_written ps = map pair_of (map (λ p. (pat_written p.0, pat_written p.1)) ps)

-- what is spelt where a process was read
abbrev pub of_proc : Part Proc → Spelt
of_proc p = spelt (proc_written p.value) p.height

-- where a pattern was read
abbrev pub of_pat : Part Pat → Spelt
of_pat p = spelt (pat_written p.value) p.height

-- where a name was read
abbrev pub of_name : Part Name → Spelt
of_name p = spelt (name_written p.value) p.height

-- where a pattern of a name was read
abbrev pub of_name_pat : Part NamePat → Spelt
of_name_pat p = spelt (name_pat_written p.value) p.height

-- where the members between brackets were read
abbrev pub of_row : Part (Vec Proc Global) → Spelt
of_row p = spelt (row_written p.value) p.height

-- where patterns between brackets were read
abbrev pub of_pat_row : Part (Vec Pat Global) → Spelt
of_pat_row p = spelt (pat_row_written p.value) p.height

-- where the patterns of a bind were read
abbrev pub of_left : Part Left → Spelt
of_left p = spelt (left_written p.value) p.height

-- where such a sequence was read
abbrev pub of_sequence : Part Sequence → Spelt
of_sequence p = spelt (sequence_written p.value) p.height

-- where a bind was read
abbrev pub of_bind : Part Bind → Spelt
of_bind p = spelt (bind_written p.value) p.height

-- the tree of what was made is this one, unless memory ran out
abbrev pub HasTree : {T : Type 0} → (T → Written) → Result (Part T) Fault → Written → Type 0
HasTree written result tree = MatchResult result (λ p. written p.value ≡ tree) (λ e. e ≡ NoMemory)
