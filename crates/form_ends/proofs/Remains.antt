-- What is left of a production after a constituent.
use Rattle.std.proofs.Common.{max, ℕ, List, ◌∷◌, ◌++◌, []}
use Rattle.calculus.specs.Written.{Written}
use Rattle.calculus.specs.declared.plain.Kind.{Kind}
use Rattle.grammar.specs.declared.mark.Mark.TheVariants as marks
use Rattle.grammar.specs.Rules.{Sort, Rule, done, last, sign, under}
use Rattle.grammar.specs.Values.{Spelt, bind_of, case_of, opened, processes, receive_of}

-- the last branch
abbrev pub last_branch : Spelt → Spelt → Rule
last_branch e p = last (Sort.IfTail e p)

-- the channel of a first bind
abbrev pub first_channel : Kind → Spelt → Rule
first_channel k l = under Sort.Name (λ n. last (Sort.FirstTail k (bind_of l n)))

-- the body of a receive, and the brace after it
abbrev pub receive_body : Kind → List Written → ℕ → Rule
receive_body k bs h = under (Sort.Par processes) (λ p. sign marks.CloseBrace (done (opened (receive_of k bs p.tree) (max h p.height))))

-- the body of a case
abbrev pub case_body : Spelt → List Written → ℕ → Spelt → Rule
case_body t cs h p = under Sort.One (λ b. last (Sort.CaseTail t (cs ++ (case_of p.tree b.tree ∷ [])) (max h (max p.height b.height))))
