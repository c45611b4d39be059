use Rattle.std.proofs.Common.{refl, ap, map, length, arith}
use Rattle.std.specs.Prelude.{string_bytes}
use Rattle.calculus.specs.Form.{part, term, pair_of, row_of, a_bind, a_case}
use Rattle.calculus.specs.Shape.{many}
use Rattle.calculus.specs.Tree.{row, var, name_var, list, set, dict, send, receive, new, match, bundle, unary, binary, method}
use Rattle.rho_term.specs.Parts.{bind_tree, case_tree}
use Rattle.rho_term.proofs.Forms.{ground-form, leaf-form, one-form, two-form, many-form, tuple-form}
use Rattle.rho_term.proofs.measure.part_measures.Goals as goal

pub returns-in-Ground : goal.returns-in-Ground
returns-in-Ground c = rw c.in-Ground.is (ground-form _ _ (rw c.ground_len.ensures at c.leaf.ensures)).0

pub returns-in-Fresh : goal.returns-in-Fresh
returns-in-Fresh c = rw c.in-Fresh.is c.fresh_measures.ensures

pub returns-in-Var : goal.returns-in-Var
returns-in-Var c = rw c.in-Var.is (leaf-form part (var c.in-Var.field-0) _ refl refl refl c.leaf-in-Var.ensures)

pub returns-in-NameVar : goal.returns-in-NameVar
returns-in-NameVar c = rw c.in-NameVar.is (leaf-form part (name_var c.in-NameVar.field-0) _ refl refl refl c.leaf-in-NameVar.ensures)

pub returns-in-List : goal.returns-in-List
returns-in-List c = rw c.in-List.is (many-form part term list _ 1 _ _ refl refl refl refl c.terms_measures.ensures c.one.ensures)

pub returns-in-Tuple : goal.returns-in-Tuple
returns-in-Tuple c = rw c.in-Tuple.is (tuple-form part term c.in-Tuple.members.items c.len.result _ _ refl (omega arith) c.terms_measures-in-Tuple.ensures c.tuple.ensures)

pub returns-in-Set : goal.returns-in-Set
returns-in-Set c = rw c.in-Set.is (many-form part term set _ 1 _ _ refl refl refl refl c.terms_measures-in-Set.ensures c.one-in-Set.ensures)

pub returns-in-Map : goal.returns-in-Map
returns-in-Map c = rw c.in-Map.is (many-form part (pair_of term) dict _ 1 _ _ refl refl refl refl c.pairs_measures.ensures c.one-in-Map.ensures)

pub returns-in-Send : goal.returns-in-Send
returns-in-Send c = rw c.in-Send.is (two-form part term (row_of term) (send c.in-Send.persistent) _ (many row c.in-Send.args.items) 2 _ _ _ refl refl refl refl c.measures.ensures c.terms_measures-in-Send.ensures c.two.ensures)

pub returns-in-Receive : goal.returns-in-Receive
returns-in-Receive c = rw c.in-Receive.is (two-form part (row_of a_bind) term (receive c.in-Receive.kind) (many row (map bind_tree c.in-Receive.binds.items)) _ 2 _ _ _ refl refl refl refl c.binds_measures.ensures c.measures-in-Receive.ensures c.two-in-Receive.ensures)

pub returns-in-New : goal.returns-in-New
returns-in-New c = rw c.in-New.is (one-form part term (new c.in-New.names.items) _ c.plus.result _ _ refl refl refl (omega arith) c.measures-in-New.ensures c.one-in-New.ensures)

pub returns-in-Match : goal.returns-in-Match
returns-in-Match c = rw c.in-Match.is (two-form part term (row_of a_case) match _ (many row (map case_tree c.in-Match.cases.items)) 1 _ _ _ refl refl refl refl c.measures-in-Match.ensures c.cases_measures.ensures c.two-in-Match.ensures)

pub returns-in-Bundle : goal.returns-in-Bundle
returns-in-Bundle c = rw c.in-Bundle.is (one-form part term (bundle c.in-Bundle.rights) _ 2 _ _ refl refl refl refl c.measures-in-Bundle.ensures c.one-in-Bundle.ensures)

pub returns-in-Unary : goal.returns-in-Unary
returns-in-Unary c = rw c.in-Unary.is (one-form part term (unary c.in-Unary.op) _ 2 _ _ refl refl refl refl c.measures-in-Unary.ensures c.one-in-Unary.ensures)

pub returns-in-Binary : goal.returns-in-Binary
returns-in-Binary c = rw c.in-Binary.is (two-form part term term (binary c.in-Binary.op) _ _ 2 _ _ _ refl refl refl refl c.measures-in-Binary.ensures c.measures-in-Binary-2.ensures c.two-in-Binary.ensures)

pub returns-in-Method : goal.returns-in-Method
returns-in-Method c = rw c.in-Method.is (two-form part term (row_of term) (method (string_bytes c.in-Method.name)) _ (many row c.in-Method.args.items) c.plus-length.result _ _ _ refl refl refl (omega (arith, ap length c.as_str.ensures.value)) c.measures-in-Method.ensures c.terms_measures-in-Method.ensures c.two-in-Method.ensures)
