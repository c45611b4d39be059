-- Examples of whole deploys.
use Rattle.std.specs.Prelude.{◌≡◌, ℕ, Bool, true, false, List, [], ◌∷◌, Some, None, is_some, option_map, codes}
use Rattle.calculus.specs.declared.plain.BinaryOp.TheVariants as op
use Rattle.calculus.specs.declared.fault.FaultKind.TheVariants as fault
use Rattle.calculus.specs.declared.plain.Kind.TheVariants as kinds
use Rattle.calculus.specs.declared.plain.Origin.TheVariants as origins
use Rattle.calculus.specs.Tree.{row, send, receive, new, any, Tree}
use Rattle.calculus.specs.Shape.{leaf, one, two, many, process, only}
use Rattle.calculus.specs.Examples.{whole, num, word, nil, the_var, the_name, op_on, sent, heard, on, thin, a_var, prices, hex, zeros, step, first_path_source, first_path_digest, first_path_step}
use Rattle.calculus.specs.Log.{Step}
use Rattle.calculus.specs.Root.{root}
use Rattle.calculus.specs.Candidates.{has_ended}
use Rattle.calculus.specs.Runs.{deploy_of, State, Verdict, done, exhausted, faulted, verdict, cost, next_rows, state_after}

-- verdict, cost and next root of a state that a deploy from the empty checkpoint has come to
abbrev pub result_of : ℕ → State → Verdict × (ℕ × List ℕ)
result_of cap a = (verdict prices cap a, (cost prices cap a, root (next_rows [] (verdict prices cap a) a.bag)))

-- these steps of a deploy of a process under a limit, from the empty checkpoint, come to this verdict, this cost and this root
abbrev pub Comes : ℕ → Tree → List ℕ → List Step → Verdict → ℕ → List ℕ → Type 0
Comes cap t source ss v n r = option_map (result_of cap) (state_after (deploy_of prices cap [] t source) 9 ss) ≡ Some (v, (n, r))

-- these steps are allowed one after another
abbrev pub IsAllowed : ℕ → Tree → List ℕ → List Step → Type 0
IsAllowed cap t source ss = is_some (state_after (deploy_of prices cap [] t source) 9 ss) ≡ true

-- these steps are not allowed one after another, though there is room for the source's unfolding
abbrev pub IsRefused : ℕ → Tree → List ℕ → List Step → Type 0
IsRefused cap t source ss = (is_some (state_after (deploy_of prices cap [] t source) 9 []) ≡ true) × (is_some (state_after (deploy_of prices cap [] t source) 9 ss) ≡ false)

-- whether a run may end after these steps
abbrev pub HasEnded : ℕ → Tree → List ℕ → List Step → Bool → Type 0
HasEnded cap t source ss b = option_map (has_ended prices cap) (state_after (deploy_of prices cap [] t source) 9 ss) ≡ Some b

-- the process of a source that prints a string and awaits the answer
abbrev pub printing_process : Tree
printing_process = only (one (new (origins.StdoutAck ∷ origins.Plain ∷ [])) (process (sent (the_name 1) (word (codes "a") ∷ the_name 0 ∷ []) ∷ heard (on (the_name 0) (thin (leaf any) ∷ []) ∷ []) (only (sent (num 2) (num 1 ∷ []))) ∷ [])))

-- the digest of its text
abbrev pub printing_digest : List ℕ
printing_digest = hex (codes "fdf4dd0e06819257a724e7854f5b72a75505fc7457974a3b70fe0d63bdcfc6ff")

-- its two steps
abbrev pub printing_steps : List Step
printing_steps = step (hex (codes "4e36f68d37c6e981c7299780de2efe2b3cef526ce317fae6a64c256328ba9905")) (hex (codes "111ddf502b3fea361535c4f8e931beff32566ca978d870a793cec389b4eccd50") ∷ []) 0 ∷ step (hex (codes "61e118cbafbd4c8d925e4003a689bd414c2cdf129726576a8828eb42f4074019")) (hex (codes "f64e3f49a2622057a4a3cff7222d8ed402ec385a4ef9968832bd48cfc6694294") ∷ []) 0 ∷ []

-- these steps of a deploy of a process under a limit, from the empty checkpoint, print this text
abbrev pub Prints : ℕ → Tree → List ℕ → List Step → List ℕ → Type 0
Prints cap t source ss text = option_map (λ a. a.output) (state_after (deploy_of prices cap [] t source) 9 ss) ≡ Some text

-- verdicts, costs and roots, what is printed, and which steps are allowed
pub record RunExamples : Type 0 where
  -- `new c in { c!(5) | for (@x <- c) { @"out"!(x) } }` with a limit of 22
  pub first_path : Comes 22 first_path_source first_path_digest (first_path_step ∷ []) done 22 (hex (codes "6f62476791fb224f244f82b68b5997bde5a2d543e06d46dd4bc4e40369e948a1"))
  -- the same with a limit of 21
  pub past_the_limit : Comes 21 first_path_source first_path_digest (first_path_step ∷ []) exhausted 21 zeros
  -- `Nil`
  pub nothing_to_do : Comes 1000 nil (hex (codes "e118b5c29cb4b975251601a6cc3209a4ea3eb0b429b205b679a8645da47da654")) [] done 0 zeros
  -- `@1!(3) | @1!(3)` keeps two rows
  pub equal_data : Comes 1000 (process (sent (num 1) (num 3 ∷ []) ∷ sent (num 1) (num 3 ∷ []) ∷ [])) (hex (codes "3a7767988139d6a84a5f27548eef36e2c265062e60e6f9621f4f2b2f002df1eb")) [] done 6 (hex (codes "81792e5827e10581c60c00b7e69a96ec6bdc1d8b9b9c3bbdc648067714e90c8e"))
  -- `@1!(1) | @2!(2) | for (@a <- @1; @b <- @2) { @3!(a + b) }`
  pub join : Comes 1000 (process (sent (num 1) (num 1 ∷ []) ∷ sent (num 2) (num 2 ∷ []) ∷ heard (on (num 1) (a_var ∷ []) ∷ on (num 2) (a_var ∷ []) ∷ []) (only (sent (num 3) (op_on op.Add (the_var 1) (the_var 0) ∷ []))) ∷ [])) (hex (codes "78be52fb015d1131f3d96be88d03e5880c024223d8f72a2ca222daabfdae2490")) (step (hex (codes "00b84fcb07799e29d0c83767bca4ab46c84d2189c42dc978c0597f289ea9c036")) (hex (codes "42ab2d600ed4f5d3c6da1f33a5e670c5bec8eabdec0a981b26ecd582b2738b9b") ∷ hex (codes "520bb31937b6b9f777a2eef095ddad493df5ccbe74119a0aff12c9a56857f5ab") ∷ []) 0 ∷ []) done 24 (hex (codes "02fe87d79090141c021dd111d97608ed86b43789b1b14083956552bf5f23da69"))
  -- `@{1 | 2}!(9) | for (@x <- @{2 | 1}) { Nil }`
  pub congruent_channels : Comes 1000 (process (sent (process (whole 1 ∷ whole 2 ∷ [])) (num 9 ∷ []) ∷ heard (on (process (whole 2 ∷ whole 1 ∷ [])) (a_var ∷ []) ∷ []) nil ∷ [])) (hex (codes "e1af0c0fac88a889fa4f7109acaf95812e6db7c9ecbfd27b46803ac9faf4d976")) (step (hex (codes "5aee775c9b2f91c42797de59720b2134f0a43f856f174e603bfd88e696d75945")) (hex (codes "ec7c637739ddaa0879910c163da6ce5bc34e1a40496bdc11589fa4ec7d9a5a15") ∷ []) 0 ∷ []) done 17 zeros
  -- `@1!(7) | for (@x <<- @1) { @2!(x) }` leaves the datum
  pub peek : Comes 1000 (process (sent (num 1) (num 7 ∷ []) ∷ two (receive kinds.Peek) (many row (on (num 1) (a_var ∷ []) ∷ [])) (only (sent (num 2) (the_var 0 ∷ []))) ∷ [])) (hex (codes "98645435006b910129450d942232d6f03f3445f5abd515bc23dc23c23695cd79")) (step (hex (codes "96777cd5ef0740566f42d7716b91fc57565d8488ccbffb9b24789824d855a0b1")) (hex (codes "da821afabd223d0d388857bf95d9bf37e2b55584b75e41fc615decf05b269ff8") ∷ []) 0 ∷ []) done 20 (hex (codes "1de793d647c43770f9023d1a1f20018ed5a7c2d4e7b0049169221653b774311b"))
  -- ``new out(`rho:io:stdoutAck`), ack in { out!("a", *ack) | for (_ <- ack) { @2!(1) } }``
  pub printing : Comes 1000 printing_process printing_digest printing_steps done 37 (hex (codes "ffa34c94d975e4eb500ff47d4fa19fe04fb78ef9cad1deb89228c7669ac594aa"))
  -- and prints its string
  pub prints_a_line : Prints 1000 printing_process printing_digest printing_steps (codes "\"a\"\n")
  -- before its steps nothing is printed
  pub prints_nothing_yet : Prints 1000 printing_process printing_digest [] []
  -- `@1!(0) | for (@x <- @1) { @2!(1 / x) }`
  pub body_faults : Comes 1000 (process (sent (num 1) (num 0 ∷ []) ∷ heard (on (num 1) (a_var ∷ []) ∷ []) (only (sent (num 2) (op_on op.Div (num 1) (the_var 0) ∷ []))) ∷ [])) (hex (codes "1e1b0a6e99a1206d3e19dbc4f76a3aea6832645bca4b54e9fcfbe57ebbebd06d")) (step (hex (codes "4b78db2b67b3643bda639fedfc5b02a94d1a4604deebc98e3fb694767311bd4b")) (hex (codes "a5daade9b12a3bcfc1ece23d571c409ca3527d4f70dcbfcda68e15c6bc77416b") ∷ []) 0 ∷ []) (faulted (Some 0) fault.DivZero) 18 zeros
  -- `1 / 0`
  pub source_faults : Comes 1000 (op_on op.Div (num 1) (num 0)) (hex (codes "95baf036f1aa2733423c14f202dbee17b0d6c29230f6484fd711c678cd64635a")) [] (faulted None fault.DivZero) 1 zeros
  -- `@1!!(0) | for (@x <= @1) { new n in { @2!(*n) } }`: its first two steps have the repeat numbers 0 and 1
  pub repeats : IsAllowed 100 (process (two (send true) (num 1) (many row (num 0 ∷ [])) ∷ two (receive kinds.Persistent) (many row (on (num 1) (a_var ∷ []) ∷ [])) (only (one (new (origins.Plain ∷ [])) (only (sent (num 2) (the_name 0 ∷ []))))) ∷ [])) (hex (codes "a3ac66aede58cb06c31ba3aca48c585abea5e442029baea28bb9ca016151af6f")) (step (hex (codes "ed284b4ae5b4ac2b7362fdcdb9256f354760c1e2095e9819fccebc840109318d")) (hex (codes "4e53fbe80b8590935f0143d1e3d8c2377cc41c65eb09412d98155b487c875f1f") ∷ []) 0 ∷ step (hex (codes "ed284b4ae5b4ac2b7362fdcdb9256f354760c1e2095e9819fccebc840109318d")) (hex (codes "4e53fbe80b8590935f0143d1e3d8c2377cc41c65eb09412d98155b487c875f1f") ∷ []) 1 ∷ [])
  -- the second of them is not allowed first
  pub repeats_begin_at_0 : IsRefused 100 (process (two (send true) (num 1) (many row (num 0 ∷ [])) ∷ two (receive kinds.Persistent) (many row (on (num 1) (a_var ∷ []) ∷ [])) (only (one (new (origins.Plain ∷ [])) (only (sent (num 2) (the_name 0 ∷ []))))) ∷ [])) (hex (codes "a3ac66aede58cb06c31ba3aca48c585abea5e442029baea28bb9ca016151af6f")) (step (hex (codes "ed284b4ae5b4ac2b7362fdcdb9256f354760c1e2095e9819fccebc840109318d")) (hex (codes "4e53fbe80b8590935f0143d1e3d8c2377cc41c65eb09412d98155b487c875f1f") ∷ []) 1 ∷ [])
  -- `@1!(7) | for (@x <- @1) { Nil } | for (@y <<- @1) { Nil }`: the datum is taken
  pub take : IsAllowed 1000 (process (sent (num 1) (num 7 ∷ []) ∷ heard (on (num 1) (a_var ∷ []) ∷ []) nil ∷ two (receive kinds.Peek) (many row (on (num 1) (a_var ∷ []) ∷ [])) nil ∷ [])) (hex (codes "4c760c6d3a296f61eaf1bd204aa2e2df2ca5564d016c2033cfd5877b73fa49ce")) (step (hex (codes "15a0fd577e24082f23275a6da8b3acb8eee11284d9b62b671f10721f3fac007d")) (hex (codes "39356c23faa7aea788480c508f9881db51da8ae27c30c23c23d3c1d167a21b4d") ∷ []) 0 ∷ [])
  -- and cannot be peeked at afterwards
  pub take_and_then_peek : IsRefused 1000 (process (sent (num 1) (num 7 ∷ []) ∷ heard (on (num 1) (a_var ∷ []) ∷ []) nil ∷ two (receive kinds.Peek) (many row (on (num 1) (a_var ∷ []) ∷ [])) nil ∷ [])) (hex (codes "4c760c6d3a296f61eaf1bd204aa2e2df2ca5564d016c2033cfd5877b73fa49ce")) (step (hex (codes "15a0fd577e24082f23275a6da8b3acb8eee11284d9b62b671f10721f3fac007d")) (hex (codes "39356c23faa7aea788480c508f9881db51da8ae27c30c23c23d3c1d167a21b4d") ∷ []) 0 ∷ step (hex (codes "abbdcb17ff09601583507abd61425f7fc32737495c6d10bf22bf2b03bd5b6779")) (hex (codes "39356c23faa7aea788480c508f9881db51da8ae27c30c23c23d3c1d167a21b4d") ∷ []) 0 ∷ [])
  -- after the step of the first path a run ends
  pub nothing_more : HasEnded 22 first_path_source first_path_digest (first_path_step ∷ []) true
  -- under a limit of 8 the source alone passes it
  pub exhausted_at_once : HasEnded 8 first_path_source first_path_digest [] true
  -- and before it one does not
  pub a_step_is_left : HasEnded 22 first_path_source first_path_digest [] false
