use Rattle.std.proofs.Common.{map}
use Rattle.calculus.specs.Bytes.{joined}
use Rattle.checkpoint.specs.Pages.{Written}
use Rattle.checkpoint.proofs.text.text_of_codes.Given as goal

abbrev pub invariant-loop-code : goal.invariant-loop-code
invariant-loop-code l = Written l.initial.page l.page (joined (map (λ c. c.items) l.yielded))
