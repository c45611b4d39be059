-- What each form of a process and of a pattern is written as.
use Rattle.std.proofs.Common.{◌≡◌, map, ap, rules, ◌∙◌}
use Rattle.std.specs.Prelude.{Vec, Box, Bool}
use Rattle.std.specs.declared.alloc.Global.{Global}
use Rattle.calculus.specs.Tree.{dict, both, either, send, set_pattern, map_pattern, case, bind, list_pattern}
use Rattle.calculus.specs.Written.{in_process, in_pattern, around, form_of, form_of_two, form_of_three}
use Rattle.calculus.specs.Meaning.{row_of, pair_of, proc_written, name_written, pat_written, name_pat_written, bind_written, case_written, rest_written}
use Rattle.calculus.specs.declared.plain.Rest.{Rest}
use Rattle.calculus.specs.declared.process.Bind.{Bind}
use Rattle.calculus.specs.declared.process.Case.{Case}
use Rattle.calculus.specs.declared.process.NamePat.{NamePat}
use Rattle.calculus.specs.declared.process.Pat.{Pat}
use Rattle.calculus.specs.declared.process.Pat.TheVariants as pats
use Rattle.calculus.specs.declared.process.Proc.{Proc, the_lemmas}
use Rattle.calculus.specs.declared.process.Proc.TheVariants as procs
use Rattle.open_processes.specs.Pairs.{proc_pair, pat_pair}
use Rattle.open_processes.proofs.Meanings.{proc-pairs, pat-pairs}

pub bind-form : (b : Bind) → bind_written b ≡ form_of_three (around bind) (name_written b.channel) (row_of (map name_pat_written b.pats.items)) (rest_written b.rest)
bind-form b = search (rules, the_lemmas)

pub case-form : (c : Case) → case_written c ≡ form_of_two (around case) (pat_written c.pat) (proc_written c.body)
case-form c = search (rules, the_lemmas)

pub list-form : (p : Pat) (ps : Vec Pat Global) (r : Rest) → p ≡ pats.List ps r → pat_written p ≡ form_of_two (in_pattern list_pattern) (row_of (map pat_written ps.items)) (rest_written r)
list-form p ps r e = search (rules, the_lemmas)

pub set-form : (p : Pat) (ps : Vec Pat Global) (r : Rest) → p ≡ pats.Set ps r → pat_written p ≡ form_of_two (in_pattern set_pattern) (row_of (map pat_written ps.items)) (rest_written r)
set-form p ps r e = search (rules, the_lemmas)

pub map-form : (p : Pat) (ps : Vec (Pat × Pat) Global) (r : Rest) → p ≡ pats.Map ps r → pat_written p ≡ form_of_two (in_pattern map_pattern) (row_of (map pat_pair ps.items)) (rest_written r)
map-form p ps r e =
    let w : pat_written p ≡ form_of_two (in_pattern map_pattern) (row_of (map pair_of (map (λ q. (pat_written q.0, pat_written q.1)) ps.items))) (rest_written r) = search (rules, the_lemmas) in
    w ∙ ap (λ z. form_of_two (in_pattern map_pattern) (row_of z) (rest_written r)) (pat-pairs ps.items)

pub dict-form : (p : Proc) (ps : Vec (Proc × Proc) Global) → p ≡ procs.Map ps → proc_written p ≡ form_of (in_process dict) (map proc_pair ps.items)
dict-form p ps e =
    let w : proc_written p ≡ form_of (in_process dict) (map pair_of (map (λ q. (proc_written q.0, proc_written q.1)) ps.items)) = search (rules, the_lemmas) in
    w ∙ ap (form_of (in_process dict)) (proc-pairs ps.items)

pub send-form : (p : Pat) (n : NamePat) (ps : Vec Pat Global) (q : Bool) → p ≡ pats.Send n ps q → pat_written p ≡ form_of_two (in_pattern (send q)) (name_pat_written n) (row_of (map pat_written ps.items))
send-form p n ps q e = search (rules, the_lemmas)

pub both-form : (p : Pat) (a b : Box Pat Global) → p ≡ pats.Both a b → pat_written p ≡ form_of_two (in_pattern both) (pat_written a.value) (pat_written b.value)
both-form p a b e = search (rules, the_lemmas)

pub either-form : (p : Pat) (a b : Box Pat Global) → p ≡ pats.Either a b → pat_written p ≡ form_of_two (in_pattern either) (pat_written a.value) (pat_written b.value)
either-form p a b e = search (rules, the_lemmas)
