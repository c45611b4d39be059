-- What each form of a process comes to.
use Rattle.std.proofs.Common.{◌≡◌, ℕ, List, [], ◌∷◌, ◌++◌, map, refl, ap, ◌∙◌, append-nil, Bool}
use Rattle.calculus.specs.Tree.{fresh, var, name_var, trees, row, list, tuple, set, dict, send, receive, new, match, bundle, unary, binary, method}
use Rattle.calculus.specs.Shape.{leaf, one, two, many}
use Rattle.calculus.specs.Written.{Written, in_process, use_process, use_name, declare, writtens, form_of_one, form_of_two, form_of, bare_form}
use Rattle.calculus.specs.Bare.{Names, index, names, all_names, declared_origin, bare_each}
use Rattle.calculus.specs.Meaning.{row_of, ground_label}
use Rattle.calculus.specs.declared.plain.Ground.{Ground}
use Rattle.calculus.specs.declared.plain.Ground.TheVariants as ground
use Rattle.calculus.specs.declared.plain.Kind.{Kind}
use Rattle.calculus.specs.declared.plain.Rights.{Rights}
use Rattle.calculus.specs.declared.plain.UnaryOp.{UnaryOp}
use Rattle.calculus.specs.declared.plain.BinaryOp.{BinaryOp}
use Rattle.scope.specs.NormalForm.{normal_forms}
use Rattle.normal_parts.specs.InScope.{within}
use Rattle.normal_parts.specs.Made.{normal_in, parts_in, all_in}

pub rows : (ts : List Written) (v : Names) → normal_forms (trees (bare_each (writtens ts) v [])) ≡ all_in ts v
unfolding normal_in parts_in
rows [] v = refl
rows (t ∷ []) v = refl
rows (t ∷ u ∷ ts) v = ap (λ us. normal_in t v ∷ us) (rows (u ∷ ts) v)

pub row-made : (ts : List Written) (v : Names) → normal_in (row_of ts) v ≡ many row (all_in ts v)
unfolding normal_in parts_in
row-made ts v = ap (many row) (rows ts v)

pub parts-list : (ts : List Written) (v : Names) → parts_in (form_of (in_process list) ts) v ≡ many list (all_in ts v) ∷ []
unfolding normal_in parts_in
parts-list ts v = ap (λ us. many list us ∷ []) (rows ts v)

pub parts-tuple : (ts : List Written) (v : Names) → parts_in (form_of (in_process tuple) ts) v ≡ many tuple (all_in ts v) ∷ []
unfolding normal_in parts_in
parts-tuple ts v = ap (λ us. many tuple us ∷ []) (rows ts v)

pub parts-set : (ts : List Written) (v : Names) → parts_in (form_of (in_process set) ts) v ≡ many set (all_in ts v) ∷ []
unfolding normal_in parts_in
parts-set ts v = ap (λ us. many set us ∷ []) (rows ts v)

pub parts-dict : (ts : List Written) (v : Names) → parts_in (form_of (in_process dict) ts) v ≡ many dict (all_in ts v) ∷ []
unfolding normal_in parts_in
parts-dict ts v = ap (λ us. many dict us ∷ []) (rows ts v)

pub parts-send : (q : Bool) (n : Written) (ts : List Written) (v : Names) → parts_in (form_of_two (in_process (send q)) n (row_of ts)) v ≡ two (send q) (normal_in n v) (many row (all_in ts v)) ∷ []
unfolding normal_in parts_in
parts-send q n ts v = ap (λ u. two (send q) (normal_in n v) u ∷ []) (row-made ts v)

pub parts-match : (t : Written) (ts : List Written) (v : Names) → parts_in (form_of_two (in_process match) t (row_of ts)) v ≡ two match (normal_in t v) (many row (all_in ts v)) ∷ []
unfolding normal_in parts_in
parts-match t ts v = ap (λ u. two match (normal_in t v) u ∷ []) (row-made ts v)

pub parts-method : (m : List ℕ) (t : Written) (ts : List Written) (v : Names) → parts_in (form_of_two (in_process (method m)) t (row_of ts)) v ≡ two (method m) (normal_in t v) (many row (all_in ts v)) ∷ []
unfolding normal_in parts_in
parts-method m t ts v = ap (λ u. two (method m) (normal_in t v) u ∷ []) (row-made ts v)

pub parts-bundle : (r : Rights) (t : Written) (v : Names) → parts_in (form_of_one (in_process (bundle r)) t) v ≡ one (bundle r) (normal_in t v) ∷ []
unfolding normal_in parts_in
parts-bundle r t v = refl

pub parts-unary : (o : UnaryOp) (t : Written) (v : Names) → parts_in (form_of_one (in_process (unary o)) t) v ≡ one (unary o) (normal_in t v) ∷ []
unfolding normal_in parts_in
parts-unary o t v = refl

pub parts-binary : (o : BinaryOp) (t u : Written) (v : Names) → parts_in (form_of_two (in_process (binary o)) t u) v ≡ two (binary o) (normal_in t v) (normal_in u v) ∷ []
unfolding normal_in parts_in
parts-binary o t u v = refl

pub parts-new : (ds : _) (t : Written) (v : Names) → parts_in (form_of_one (declare ds) t) v ≡ one (new (map (λ d. declared_origin d.1) ds)) (normal_in t (within (map (λ d. d.0) ds) v)) ∷ []
unfolding normal_in parts_in
parts-new ds t v = refl

-- a row binds what its members bind, and a body after it nothing
row-names : (ts : List Written) (t : Written) → names t ≡ [] → names (row_of ts) ++ (names t ++ []) ≡ all_names (writtens ts)
row-names ts t e = ap (λ xs. all_names (writtens ts) ++ (xs ++ [])) e ∙ append-nil (all_names (writtens ts))

pub parts-receive : (k : Kind) (ts : List Written) (t : Written) (v : Names) → names t ≡ [] → parts_in (form_of_two (in_process (receive k)) (row_of ts) t) v ≡ two (receive k) (many row (all_in ts v)) (normal_in t (within (all_names (writtens ts)) v)) ∷ []
unfolding normal_in parts_in
parts-receive k ts t v e =
    ap (λ u. two (receive k) u (normal_in t (within (names (row_of ts) ++ (names t ++ [])) v)) ∷ []) (row-made ts v)
    ∙ ap (λ xs. two (receive k) (many row (all_in ts v)) (normal_in t (within xs v)) ∷ []) (row-names ts t e)

pub parts-ground : (g : Ground) (v : Names) → parts_in (bare_form (in_process (ground_label g))) v ≡ leaf (ground_label g) ∷ []
unfolding parts_in
parts-ground (ground.Bool b) v = refl
parts-ground (ground.Int z) v = refl
parts-ground (ground.Str x) v = refl
parts-ground (ground.Uri x) v = refl
parts-ground (ground.Bytes x) v = refl

pub parts-variable : (x : List ℕ) (v : Names) → parts_in (bare_form (use_process x)) v ≡ leaf (var (index x v)) ∷ []
unfolding parts_in
parts-variable x v = refl

pub parts-name : (x : List ℕ) (v : Names) → parts_in (bare_form (use_name x)) v ≡ leaf (name_var (index x v)) ∷ []
unfolding parts_in
parts-name x v = refl

pub parts-fresh : (d : List ℕ) (v : Names) → parts_in (bare_form (in_process (fresh d))) v ≡ leaf (fresh d) ∷ []
unfolding parts_in
parts-fresh d v = refl
