use Rattle.std.proofs.Common.{◌≡◌, ◌++◌, [], rules, sym, subst, map}
use Rattle.std.specs.Prelude.{OnOk}
use Rattle.calculus.specs.declared.process.Bind.{the_lemmas}
use Rattle.calculus.specs.Tree.{bind}
use Rattle.calculus.specs.Written.{around, form_of_three}
use Rattle.calculus.specs.Bare.{names}
use Rattle.calculus.specs.Meaning.{row_of, bind_written, name_written, name_pat_written, rest_written}
use Rattle.normal_parts.specs.InScope.{within}
use Rattle.normal_parts.proofs.Binding.{bound-two}
use Rattle.normal_parts.proofs.BindsNone.{name-binds-none}
use Rattle.normal_parts.proofs.bind.bind_one.Goals as goal

pub returns : goal.returns
returns c =
    let b = c.args.b.now in
    let v = c.args.bound.now in
    let n = c.bind_rest.new.bound in
    let row = names (row_of (map name_pat_written c.args.b.now.pats.items)) in
    let rest = names (rest_written c.args.b.now.rest) in
    let w : bind_written c.args.b.now ≡ form_of_three (around bind) (name_written c.args.b.now.channel) (row_of (map name_pat_written c.args.b.now.pats.items)) (rest_written c.args.b.now.rest) = search (rules, the_lemmas) in
    let e : c.bind_name_patterns.new.bound ≡ within row v = c.in_ok-bind_name_patterns.ensures in
    let k = bound-two c.bind_rest.result n row rest v c.bind_name_patterns.new.bound e c.bind_rest.ensures in
    subst (λ z. OnOk c.bind_rest.result (n ≡ within (names z) v)) (sym w)
    (subst (λ z. OnOk c.bind_rest.result (n ≡ within (z ++ (row ++ (rest ++ []))) v)) (sym (name-binds-none c.args.b.now.channel)) k)
