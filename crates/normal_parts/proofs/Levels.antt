-- Processes stand for processes, and patterns for patterns.
use Rattle.std.proofs.Common.{◌≡◌, refl}
use Rattle.calculus.specs.Tree.{par, pattern}
use Rattle.calculus.specs.Shape.{label_of}
use Rattle.calculus.specs.Written.{Written}
use Rattle.calculus.specs.Bare.{Names, bare_in}
use Rattle.calculus.specs.Meaning.{name_step, name_pat_step, pat_step, proc_step, proc_written, name_written, pat_written, name_pat_written}
use Rattle.calculus.specs.declared.process.Name.{Name, Name-F}
use Rattle.calculus.specs.declared.process.NamePat.{NamePat, NamePat-F}
use Rattle.calculus.specs.declared.process.Pat.{Pat, Pat-F}
use Rattle.calculus.specs.declared.process.Proc.{Proc, Proc-F}
use Rattle.calculus.specs.declared.process.Name.TheFolds.{fold_out-Name, fold_out-NamePat, fold_out-Pat, fold_out-Proc}

abbrev W : Type 0
W = Written

name-level : (x : Name-F W W W W W W) (v : Names) → label_of (bare_in (name_step x) v) ≡ par
name-level (Name-F.Name::Var x) v = refl
name-level (Name-F.Fresh d) v = refl
name-level (Name-F.Name::Quote p) v = refl

name-pat-level : (x : NamePat-F W W W W W W) (v : Names) → label_of (bare_in (name_pat_step x) v) ≡ pattern
name-pat-level NamePat-F.NamePat::Wild v = refl
name-pat-level (NamePat-F.NamePat::Var x) v = refl
name-pat-level (NamePat-F.NamePat::Quote p) v = refl

pat-level : (x : Pat-F W W W W W W) (v : Names) → label_of (bare_in (pat_step x) v) ≡ pattern
pat-level (Pat-F.Pat::Var x) v = refl
pat-level (Pat-F.Closed p) v = refl
pat-level _ v = refl

proc-level : (x : Proc-F W W W W W W) (v : Names) → label_of (bare_in (proc_step x) v) ≡ par
proc-level (Proc-F.Drop n) v = refl
proc-level _ v = refl

pub name-par : (n : Name) (v : Names) → label_of (bare_in (name_written n) v) ≡ par
name-par n v = rw fold_out-Name (name-level _ v)

pub proc-par : (p : Proc) (v : Names) → label_of (bare_in (proc_written p) v) ≡ par
proc-par p v = rw fold_out-Proc (proc-level _ v)

pub pat-pattern : (p : Pat) (v : Names) → label_of (bare_in (pat_written p) v) ≡ pattern
pat-pattern p v = rw fold_out-Pat (pat-level _ v)

pub name-pat-pattern : (p : NamePat) (v : Names) → label_of (bare_in (name_pat_written p) v) ≡ pattern
name-pat-pattern p v = rw fold_out-NamePat (name-pat-level _ v)
