use Rattle.std.proofs.Common.{List, ℕ, ◌∷◌, [], ◌++◌, sym, ap, ◌∙◌, rules}
use Rattle.calculus.specs.Code.{code, text}
use Rattle.calculus.specs.declared.plain.Ground.{Ground}
use Rattle.rho_term.specs.Parts.{ground_tree}
use Rattle.term_encoder.proofs.Writing.{wrote, wrote_leaf}
use Rattle.term_encoder.proofs.encoder.Encoder.ground.Goals as goal

abbrev coded : Ground → List ℕ
coded g = code (ground_tree g)

pub returns-in-Bool : goal.returns-in-Bool
returns-in-Bool c = wrote c.flag.ensures (ap coded (sym c.in-Bool.is))

pub returns-in-Int : goal.returns-in-Int
returns-in-Int c = wrote (wrote_leaf c.int.ensures) (search rules)

pub returns-in-Str : goal.returns-in-Str
returns-in-Str c = wrote (wrote_leaf c.text.ensures) (ap (λ z. 0x12 ∷ (text z ++ [])) c.as_str.ensures.value ∙ ap coded (sym c.in-Str.is))

pub returns-in-Uri : goal.returns-in-Uri
returns-in-Uri c = wrote (wrote_leaf c.text-in-Uri.ensures) (ap (λ z. 0x13 ∷ (text z ++ [])) c.as_str-in-Uri.ensures.value ∙ ap coded (sym c.in-Uri.is))

pub returns-in-Bytes : goal.returns-in-Bytes
returns-in-Bytes c = wrote (wrote_leaf c.counted.ensures) (ap (λ z. 0x14 ∷ (text z ++ [])) c.as_slice.ensures.value ∙ ap coded (sym c.in-Bytes.is))
