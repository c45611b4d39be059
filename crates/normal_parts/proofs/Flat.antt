-- Parts that are flattened, and what is made of parts.
use Rattle.std.proofs.Common.{◌≡◌, List, [], ◌∷◌, ◌++◌, map, refl, ap, ◌∙◌, append-nil}
use Rattle.std.specs.Prelude.{flat_map}
use Rattle.std.proofs.lemmas.List.{map-append}
use Rattle.calculus.specs.Tree.{trees, par, pattern}
use Rattle.calculus.specs.Shape.{listed, held}
use Rattle.calculus.specs.Written.{Written, in_process, in_pattern, drop, quote, quote_pattern, closed, writtens, form_of, form_of_one}
use Rattle.calculus.specs.Bare.{Names, bare_in, bare_each}
use Rattle.calculus.proofs.Placing.{listed-trees}
use Rattle.scope.specs.NormalForm.{normal_form}
use Rattle.normal_parts.specs.Made.{inner_normal, parts_in, pattern_parts_in, all_parts, all_pattern_parts}

flat-parts : (ts : List Written) (v : Names) → map inner_normal (flat_map held (bare_each (writtens ts) v [])) ≡ all_parts ts v
unfolding parts_in pattern_parts_in
flat-parts [] v = refl
flat-parts (t ∷ []) v = map-append inner_normal (held (bare_in t v)) []
flat-parts (t ∷ u ∷ ts) v = map-append inner_normal (held (bare_in t v)) (flat_map held (bare_each (writtens (u ∷ ts)) v [])) ∙ ap (λ us. parts_in t v ++ us) (flat-parts (u ∷ ts) v)

flat-pattern-parts : (ts : List Written) (v : Names) → map normal_form (flat_map held (bare_each (writtens ts) v [])) ≡ all_pattern_parts ts v
unfolding parts_in pattern_parts_in
flat-pattern-parts [] v = refl
flat-pattern-parts (t ∷ []) v = map-append normal_form (held (bare_in t v)) []
flat-pattern-parts (t ∷ u ∷ ts) v = map-append normal_form (held (bare_in t v)) (flat_map held (bare_each (writtens (u ∷ ts)) v [])) ∙ ap (λ us. pattern_parts_in t v ++ us) (flat-pattern-parts (u ∷ ts) v)

pub parts-par : (ts : List Written) (v : Names) → parts_in (form_of (in_process par) ts) v ≡ all_parts ts v
unfolding parts_in pattern_parts_in
parts-par ts v = ap (map inner_normal) (listed-trees (flat_map held (bare_each (writtens ts) v []))) ∙ flat-parts ts v

pub parts-pattern : (ts : List Written) (v : Names) → pattern_parts_in (form_of (in_pattern pattern) ts) v ≡ all_pattern_parts ts v
unfolding parts_in pattern_parts_in
parts-pattern ts v = ap (map normal_form) (listed-trees (flat_map held (bare_each (writtens ts) v []))) ∙ flat-pattern-parts ts v

one-held : (t : Written) (v : Names) → listed (trees (flat_map held (bare_in t v ∷ []))) ≡ held (bare_in t v)
one-held t v = listed-trees (flat_map held (bare_in t v ∷ [])) ∙ append-nil (held (bare_in t v))

pub parts-drop : (t : Written) (v : Names) → parts_in (form_of_one drop t) v ≡ parts_in t v
unfolding parts_in pattern_parts_in
parts-drop t v = ap (map inner_normal) (one-held t v)

pub parts-quote : (t : Written) (v : Names) → parts_in (form_of_one quote t) v ≡ parts_in t v
unfolding parts_in pattern_parts_in
parts-quote t v = ap (map inner_normal) (one-held t v)

pub parts-quote-pattern : (t : Written) (v : Names) → pattern_parts_in (form_of_one quote_pattern t) v ≡ pattern_parts_in t v
unfolding parts_in pattern_parts_in
parts-quote-pattern t v = ap (map normal_form) (one-held t v)

pub parts-closed : (t : Written) (v : Names) → pattern_parts_in (form_of_one closed t) v ≡ map normal_form (held (bare_in t v))
unfolding parts_in pattern_parts_in
parts-closed t v = ap (map normal_form) (one-held t v)
