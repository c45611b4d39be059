-- Pairs, binds and cases that are made of their constituents are those of the normal form.
use Rattle.std.proofs.Common.{◌≡◌, List, map, ap, sym, ◌∙◌}
use Rattle.calculus.specs.Bare.{Names, names}
use Rattle.calculus.specs.Meaning.{pair_of, proc_written, name_written, pat_written, name_pat_written, bind_written, case_written, rest_written}
use Rattle.calculus.specs.Shape.{leaf, two, three, many}
use Rattle.calculus.specs.Tree.{Tree, row, pair, bind, case, rest}
use Rattle.calculus.specs.Written.{Written}
use Rattle.calculus.specs.declared.plain.TermRest.{TermRest}
use Rattle.calculus.specs.declared.process.Bind.{Bind}
use Rattle.calculus.specs.declared.process.Case.{Case}
use Rattle.open_processes.proofs.Forms.{bind-form, case-form}
use Rattle.normal_parts.specs.InScope.{within}
use Rattle.normal_parts.proofs.BindsNone.{proc-binds-none}
use Rattle.normal_parts.specs.Made.{normal_in, all_in}
use Rattle.normal_parts.proofs.PatternForms.{pair-made, bind-made, case-made}

pub of-pair : (a b : Written) (v w : Names) (t u : Tree) → w ≡ v → t ≡ normal_in a v → u ≡ normal_in b w → two pair t u ≡ normal_in (pair_of (a, b)) v
of-pair a b v w t u s k m = ap (λ z. two pair z u) k ∙ ap (two pair (normal_in a v)) (m ∙ ap (normal_in b) s) ∙ sym (pair-made a b v)

pub of-bind : (b : Bind) (v w : Names) (t : Tree) (ts : List Tree) (r : TermRest) → w ≡ v → t ≡ normal_in (name_written b.channel) v → ts ≡ all_in (map name_pat_written b.pats.items) w
    → ((z : Names) → normal_in (rest_written b.rest) z ≡ leaf (rest r)) → three bind t (many row ts) (leaf (rest r)) ≡ normal_in (bind_written b) v
of-bind b v w t ts r s k m d =
    let n = name_written b.channel in
    let ps = map name_pat_written b.pats.items in
    ap (λ z. three bind z (many row ts) (leaf (rest r))) k
    ∙ ap (λ us. three bind (normal_in n v) (many row us) (leaf (rest r))) (m ∙ ap (all_in ps) s)
    ∙ ap (three bind (normal_in n v) (many row (all_in ps v))) (sym (d v))
    ∙ sym (bind-made n ps (rest_written b.rest) v)
    ∙ ap (λ x. normal_in x v) (sym (bind-form b))

-- a body is made in the scope of the names of its pattern too
pub of-case : (c : Case) (v w z : Names) (t u : Tree) → w ≡ v → z ≡ within (names (pat_written c.pat)) w → t ≡ normal_in (pat_written c.pat) v → u ≡ normal_in (proc_written c.body) z
    → two case t u ≡ normal_in (case_written c) v
of-case c v w z t u s i k m =
    let p = pat_written c.pat in
    let b = proc_written c.body in
    ap (λ x. two case x u) k
    ∙ ap (two case (normal_in p v)) (m ∙ ap (normal_in b) (i ∙ ap (within (names p)) s))
    ∙ sym (case-made p b v (proc-binds-none c.body))
    ∙ ap (λ x. normal_in x v) (sym (case-form c))
