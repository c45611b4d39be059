-- What a replay is of, where the proof of a call names nothing else.
use Rattle.std.specs.Prelude.{[]}
use Rattle.calculus.specs.Tree.{par}
use Rattle.calculus.specs.Shape.{leaf}
use Rattle.calculus.specs.Runs.{Deploy, deploy_of}

-- a deploy of nothing
abbrev pub no_deploy : Deploy
no_deploy = deploy_of (record { comm = 0; send = 0; receive = 0; name = 0; case = 0; op = 0; byte = 0 }) 0 [] (leaf par) []
