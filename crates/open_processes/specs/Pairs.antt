-- What pairs of processes and patterns stand for.
use Rattle.calculus.specs.declared.process.Proc.{Proc}
use Rattle.calculus.specs.declared.process.Pat.{Pat}
use Rattle.calculus.specs.Written.{Written}
use Rattle.calculus.specs.Meaning.{pair_of, proc_written, pat_written}

-- a key and a value of a map
abbrev pub proc_pair : Proc × Proc → Written
proc_pair q = pair_of (proc_written q.0, proc_written q.1)

-- the same in a pattern
abbrev pub pat_pair : Pat × Pat → Written
pat_pair q = pair_of (pat_written q.0, pat_written q.1)
