-- What each form of a pattern, and of what stands round patterns, comes to.
use Rattle.std.proofs.Common.{◌≡◌, ℕ, List, [], ◌∷◌, ◌++◌, refl, ap, ◌∙◌, append-nil, Bool}
use Rattle.calculus.specs.Tree.{row, tuple, pair, send, bind, case, bundle, any, some_process, some_name, simple, same, both, either, not_this, list_pattern, set_pattern, map_pattern}
use Rattle.calculus.specs.Shape.{leaf, one, two, three, many}
use Rattle.calculus.specs.Written.{Written, in_pattern, around, bind_process, bind_name, form_of_one, form_of_two, form_of_three, form_of, bare_form}
use Rattle.calculus.specs.Bare.{Names, names}
use Rattle.calculus.specs.Meaning.{row_of, pair_of, ground_label}
use Rattle.calculus.specs.declared.plain.Simple.{Simple}
use Rattle.calculus.specs.declared.plain.Ground.{Ground}
use Rattle.calculus.specs.declared.plain.Ground.TheVariants as ground
use Rattle.calculus.specs.declared.plain.Rights.{Rights}
use Rattle.normal_parts.specs.InScope.{within}
use Rattle.normal_parts.specs.Made.{normal_in, pattern_parts_in, all_in}
use Rattle.normal_parts.proofs.Forms.{rows, row-made}

pub pattern-same : (t : Written) (v : Names) → pattern_parts_in (form_of_one (in_pattern same) t) v ≡ one same (normal_in t v) ∷ []
unfolding normal_in pattern_parts_in
pattern-same t v = refl

pub pattern-both : (t u : Written) (v : Names) → pattern_parts_in (form_of_two (in_pattern both) t u) v ≡ two both (normal_in t v) (normal_in u v) ∷ []
unfolding normal_in pattern_parts_in
pattern-both t u v = refl

pub pattern-either : (t u : Written) (v : Names) → pattern_parts_in (form_of_two (in_pattern either) t u) v ≡ two either (normal_in t v) (normal_in u v) ∷ []
unfolding normal_in pattern_parts_in
pattern-either t u v = refl

pub pattern-not : (t : Written) (v : Names) → pattern_parts_in (form_of_one (in_pattern not_this) t) v ≡ one not_this (normal_in t v) ∷ []
unfolding normal_in pattern_parts_in
pattern-not t v = refl

pub pattern-bundle : (r : Rights) (t : Written) (v : Names) → pattern_parts_in (form_of_one (in_pattern (bundle r)) t) v ≡ one (bundle r) (normal_in t v) ∷ []
unfolding normal_in pattern_parts_in
pattern-bundle r t v = refl

pub pattern-tuple : (ts : List Written) (v : Names) → pattern_parts_in (form_of (in_pattern tuple) ts) v ≡ many tuple (all_in ts v) ∷ []
unfolding normal_in pattern_parts_in
pattern-tuple ts v = ap (λ us. many tuple us ∷ []) (rows ts v)

pub pattern-list : (ts : List Written) (r : Written) (v : Names) → pattern_parts_in (form_of_two (in_pattern list_pattern) (row_of ts) r) v ≡ two list_pattern (many row (all_in ts v)) (normal_in r v) ∷ []
unfolding normal_in pattern_parts_in
pattern-list ts r v = ap (λ u. two list_pattern u (normal_in r v) ∷ []) (row-made ts v)

pub pattern-set : (ts : List Written) (r : Written) (v : Names) → pattern_parts_in (form_of_two (in_pattern set_pattern) (row_of ts) r) v ≡ two set_pattern (many row (all_in ts v)) (normal_in r v) ∷ []
unfolding normal_in pattern_parts_in
pattern-set ts r v = ap (λ u. two set_pattern u (normal_in r v) ∷ []) (row-made ts v)

pub pattern-map : (ts : List Written) (r : Written) (v : Names) → pattern_parts_in (form_of_two (in_pattern map_pattern) (row_of ts) r) v ≡ two map_pattern (many row (all_in ts v)) (normal_in r v) ∷ []
unfolding normal_in pattern_parts_in
pattern-map ts r v = ap (λ u. two map_pattern u (normal_in r v) ∷ []) (row-made ts v)

pub pattern-send : (q : Bool) (n : Written) (ts : List Written) (v : Names) → pattern_parts_in (form_of_two (in_pattern (send q)) n (row_of ts)) v ≡ two (send q) (normal_in n v) (many row (all_in ts v)) ∷ []
unfolding normal_in pattern_parts_in
pattern-send q n ts v = ap (λ u. two (send q) (normal_in n v) u ∷ []) (row-made ts v)

pub pair-made : (t u : Written) (v : Names) → normal_in (pair_of (t, u)) v ≡ two pair (normal_in t v) (normal_in u v)
unfolding normal_in pattern_parts_in
pair-made t u v = refl

pub bind-made : (c : Written) (ts : List Written) (r : Written) (v : Names) → normal_in (form_of_three (around bind) c (row_of ts) r) v ≡ three bind (normal_in c v) (many row (all_in ts v)) (normal_in r v)
unfolding normal_in pattern_parts_in
bind-made c ts r v = ap (λ u. three bind (normal_in c v) u (normal_in r v)) (row-made ts v)

case-names : (p t : Written) → names t ≡ [] → names p ++ (names t ++ []) ≡ names p
case-names p t e = ap (λ xs. names p ++ (xs ++ [])) e ∙ append-nil (names p)

pub case-made : (p t : Written) (v : Names) → names t ≡ [] → normal_in (form_of_two (around case) p t) v ≡ two case (normal_in p v) (normal_in t (within (names p) v))
unfolding normal_in pattern_parts_in
case-made p t v e = ap (λ xs. two case (normal_in p v) (normal_in t (within xs v))) (case-names p t e)

pub pattern-ground : (g : Ground) (v : Names) → pattern_parts_in (bare_form (in_pattern (ground_label g))) v ≡ leaf (ground_label g) ∷ []
unfolding pattern_parts_in
pattern-ground (ground.Bool b) v = refl
pattern-ground (ground.Int z) v = refl
pattern-ground (ground.Str x) v = refl
pattern-ground (ground.Uri x) v = refl
pattern-ground (ground.Bytes x) v = refl

pub pattern-any : (v : Names) → pattern_parts_in (bare_form (in_pattern any)) v ≡ leaf any ∷ []
unfolding pattern_parts_in
pattern-any v = refl

pub pattern-simple : (k : Simple) (v : Names) → pattern_parts_in (bare_form (in_pattern (simple k))) v ≡ leaf (simple k) ∷ []
unfolding pattern_parts_in
pattern-simple k v = refl

pub pattern-process : (x : List ℕ) (v : Names) → pattern_parts_in (bare_form (bind_process x)) v ≡ leaf some_process ∷ []
unfolding pattern_parts_in
pattern-process x v = refl

pub pattern-name : (x : List ℕ) (v : Names) → pattern_parts_in (bare_form (bind_name x)) v ≡ leaf some_name ∷ []
unfolding pattern_parts_in
pattern-name x v = refl
