use Rattle.std.proofs.Common.{refl, map, arith}
use Rattle.calculus.specs.Form.{pat_part, name_pat, pat, term, pair_of, row_of}
use Rattle.calculus.specs.Shape.{many}
use Rattle.calculus.specs.Tree.{row, any, some_process, simple, same, both, either, not_this, list_pattern, set_pattern, map_pattern, send, bundle}
use Rattle.rho_term.specs.Parts.{pair_tree}
use Rattle.rho_term.proofs.Forms.{ground-form, leaf-form, one-form, two-form, rest-form, tuple-form}
use Rattle.rho_term.proofs.measure.pat_part_measures.Goals as goal

pub returns-in-Wild : goal.returns-in-Wild
returns-in-Wild c = rw c.in-Wild.is (leaf-form pat_part any _ refl refl refl c.leaf.ensures)

pub returns-in-Var : goal.returns-in-Var
returns-in-Var c = rw c.in-Var.is (leaf-form pat_part some_process _ refl refl refl c.leaf-in-Var.ensures)

pub returns-in-NameVar : goal.returns-in-NameVar
returns-in-NameVar c = rw c.in-NameVar.is (λ w. (w, tt), (refl, refl, refl))

pub returns-in-Simple : goal.returns-in-Simple
returns-in-Simple c = rw c.in-Simple.is (leaf-form pat_part (simple c.in-Simple.field-0) _ refl refl refl c.leaf-in-Simple.ensures)

pub returns-in-Same : goal.returns-in-Same
returns-in-Same c = rw c.in-Same.is (one-form pat_part term same _ 1 _ _ refl refl refl refl c.measures.ensures c.one.ensures)

pub returns-in-Ground : goal.returns-in-Ground
returns-in-Ground c = rw c.in-Ground.is (ground-form _ _ (rw c.ground_len.ensures at c.leaf-in-Ground.ensures)).1

pub returns-in-Both : goal.returns-in-Both
returns-in-Both c = rw c.in-Both.is (two-form pat_part pat pat both _ _ 1 _ _ _ refl refl refl refl c.measures-in-Both.ensures c.measures-in-Both-2.ensures c.two.ensures)

pub returns-in-Either : goal.returns-in-Either
returns-in-Either c = rw c.in-Either.is (two-form pat_part pat pat either _ _ 1 _ _ _ refl refl refl refl c.measures-in-Either.ensures c.measures-in-Either-2.ensures c.two-in-Either.ensures)

pub returns-in-Not : goal.returns-in-Not
returns-in-Not c = rw c.in-Not.is (one-form pat_part pat not_this _ 1 _ _ refl refl refl refl c.measures-in-Not.ensures c.one-in-Not.ensures)

pub returns-in-List : goal.returns-in-List
returns-in-List c = rw c.in-List.is (rest-form pat_part (row_of pat) list_pattern (many row c.in-List.members.items) c.in-List.field-1 2 _ _ refl refl refl refl c.pats_measures.ensures c.one-in-List.ensures)

pub returns-in-Tuple : goal.returns-in-Tuple
returns-in-Tuple c = rw c.in-Tuple.is (tuple-form pat_part pat c.in-Tuple.members.items c.len.result _ _ refl (omega arith) c.pats_measures-in-Tuple.ensures c.tuple.ensures)

pub returns-in-Set : goal.returns-in-Set
returns-in-Set c = rw c.in-Set.is (rest-form pat_part (row_of pat) set_pattern (many row c.in-Set.members.items) c.in-Set.field-1 2 _ _ refl refl refl refl c.pats_measures-in-Set.ensures c.one-in-Set.ensures)

pub returns-in-Map : goal.returns-in-Map
returns-in-Map c = rw c.in-Map.is (rest-form pat_part (row_of (pair_of pat)) map_pattern (many row (map pair_tree c.in-Map.pairs.items)) c.in-Map.field-1 2 _ _ refl refl refl refl c.pat_pairs_measures.ensures c.one-in-Map.ensures)

pub returns-in-Send : goal.returns-in-Send
returns-in-Send c = rw c.in-Send.is (two-form pat_part name_pat (row_of pat) (send c.in-Send.persistent) _ (many row c.in-Send.args.items) 2 _ _ _ refl refl refl refl c.name_measures.ensures c.pats_measures-in-Send.ensures c.two-in-Send.ensures)

pub returns-in-Bundle : goal.returns-in-Bundle
returns-in-Bundle c = rw c.in-Bundle.is (one-form pat_part pat (bundle c.in-Bundle.rights) _ 2 _ _ refl refl refl refl c.measures-in-Bundle.ensures c.one-in-Bundle.ensures)

pub returns-in-Closed : goal.returns-in-Closed
returns-in-Closed c = rw c.in-Closed.is c.closed_measures.ensures
