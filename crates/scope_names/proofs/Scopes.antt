-- Names and roles as scopes.
use Rattle.std.proofs.Common.{◌≡◌, ℕ, zero, suc, ◌+◌, ◌-◌, ◌<◌, ◌≤◌, List, [], ◌∷◌, ◌++◌, length, take, drop, map, reverse, get_or, ap, sym, ◌∙◌, arith, refl, add-one}
use Rattle.std.specs.Prelude.{Some, None, true, false, cond}
use Rattle.std.specs.List.{zip}
use Rattle.std.specs.Str.{bytes_eq}
use Rattle.std.proofs.lemmas.List.{map-append, reverse-append, length-reverse, length-map, length-drop, take-append-drop, get_or-reverse}
use Rattle.std.proofs.Math.Seq.{drop-append_seam}
use Rattle.calculus.specs.Bare.{index}
use Rattle.calculus.specs.Variables.{Sense}
use Rattle.scope.specs.Binding.{Scope, sense_of}
use Rattle.scope_names.specs.declared.variables.Role.{Role}
use Rattle.scope_names.specs.Senses.{sense}
use Rattle.scope_names.specs.Bound.{scope_of}

-- the names of a scope
abbrev pub names : Scope → List (List ℕ)
names v = map (λ x. x.0) v

-- what these roles stand for, the last one first
abbrev pub senses : List Role → List Sense
senses rs = reverse (map sense rs)

pub zip-length : (ns : List (List ℕ)) (ss : List Sense) → length ns ≡ length ss → length (zip ns ss) ≡ length ns
zip-length [] ss e = refl
zip-length (n ∷ ns) [] e = sym e
zip-length (n ∷ ns) (s ∷ ss) e =
    let k : length ns ≡ length ss = omega arith in
    omega (arith, zip-length ns ss k)

pub zip-names : (ns : List (List ℕ)) (ss : List Sense) → length ns ≡ length ss → names (zip ns ss) ≡ ns
zip-names [] ss e = refl
zip-names (n ∷ ns) [] e = absurd (omega arith)
zip-names (n ∷ ns) (s ∷ ss) e =
    let k : length ns ≡ length ss = omega arith in
    ap (λ z. n ∷ z) (zip-names ns ss k)

pub zip-append : (ns ms : List (List ℕ)) (ss ts : List Sense) → length ns ≡ length ss → zip (ns ++ ms) (ss ++ ts) ≡ zip ns ss ++ zip ms ts
zip-append [] ms [] ts e = refl
zip-append [] ms (s ∷ ss) ts e = absurd (omega arith)
zip-append (n ∷ ns) ms [] ts e = absurd (omega arith)
zip-append (n ∷ ns) ms (s ∷ ss) ts e =
    let k : length ns ≡ length ss = omega arith in
    ap (λ z. (n, s) ∷ z) (zip-append ns ms ss ts k)

nothing-beside : (ns : List (List ℕ)) → zip {X = Sense} ns [] ≡ []
nothing-beside [] = refl
nothing-beside (n ∷ ns) = refl

further : (s : Sense) (ss : List Sense) (k : ℕ) (d : Sense) → get_or (s ∷ ss) (k + 1) d ≡ get_or ss k d
further s ss k d = rw add-one refl

mapped : (rs : List Role) (k : ℕ) (r : Role) → get_or (map sense rs) k (sense r) ≡ sense (get_or rs k r)
mapped [] k r = refl
mapped (q ∷ rs) zero r = refl
mapped (q ∷ rs) (suc k) r = mapped rs k r

-- both without their first k
pub zip-drop : (k : ℕ) (ns : List (List ℕ)) (ss : List Sense) → zip (drop k ns) (drop k ss) ≡ drop k (zip ns ss)
zip-drop zero ns ss = refl
zip-drop (suc k) [] ss = refl
zip-drop (suc k) (n ∷ ns) [] = nothing-beside (drop k ns)
zip-drop (suc k) (n ∷ ns) (s ∷ ss) = zip-drop k ns ss

-- the last variable of the name is at its index
pub sense-found : (x : List ℕ) (ns : List (List ℕ)) (ss : List Sense) (d : Sense) → length ns ≡ length ss → index x ns < length ns → sense_of x (zip ns ss) ≡ Some (get_or ss (index x ns) d)
sense-found x [] ss d e h = absurd (omega arith)
sense-found x (n ∷ ns) [] d e h = absurd (omega arith)
sense-found x (n ∷ ns) (s ∷ ss) d e h =
    let k : length ns ≡ length ss = omega arith in
    elim (bytes_eq x n) as (λ b. cond b 0 (index x ns + 1) < length (n ∷ ns) → cond b (Some s) (sense_of x (zip ns ss)) ≡ Some (get_or (s ∷ ss) (cond b 0 (index x ns + 1)) d)) [
      | true ↦ λ i. refl
      | false ↦ λ i. let j : index x ns < length ns = omega arith in sense-found x ns ss d k j ∙ ap Some (sym (further s ss (index x ns) d))
    ] h

-- no variable has the name
pub sense-none : (x : List ℕ) (ns : List (List ℕ)) (ss : List Sense) → length ns ≤ index x ns → sense_of x (zip ns ss) ≡ None
sense-none x [] ss h = refl
sense-none x (n ∷ ns) [] h = refl
sense-none x (n ∷ ns) (s ∷ ss) h =
    elim (bytes_eq x n) as (λ b. length (n ∷ ns) ≤ cond b 0 (index x ns + 1) → cond b (Some s) (sense_of x (zip ns ss)) ≡ None) [
      | true ↦ λ i. absurd (omega arith)
      | false ↦ λ i. let j : length ns ≤ index x ns = omega arith in sense-none x ns ss j
    ] h

pub senses-length : (rs : List Role) → length (senses rs) ≡ length rs
senses-length rs = length-reverse (map sense rs) ∙ length-map rs sense

pub senses-append : (rs qs : List Role) → senses (rs ++ qs) ≡ senses qs ++ senses rs
senses-append rs qs = ap reverse (map-append sense rs qs) ∙ reverse-append (map sense rs) (map sense qs)

pub senses-take : (rs : List Role) (n : ℕ) → n ≤ length rs → senses (take n rs) ≡ drop (length rs - n) (senses rs)
senses-take rs n h =
    let whole = ap senses (sym (take-append-drop n rs)) ∙ senses-append (take n rs) (drop n rs) in
    let seam = drop-append_seam (senses (drop n rs)) (senses (take n rs)) in
    let count : length rs - n ≡ length (senses (drop n rs)) = sym (length-drop n rs) ∙ sym (senses-length (drop n rs)) in
    sym seam ∙ ap (λ k. drop k (senses (drop n rs) ++ senses (take n rs))) (sym count) ∙ ap (drop (length rs - n)) (sym whole)

pub senses-at : (rs : List Role) (k : ℕ) (r : Role) → k < length rs → get_or (senses rs) k (sense r) ≡ sense (get_or rs (length rs - 1 - k) r)
senses-at rs k r h =
    let i : k < length (map sense rs) = omega (arith, length-map rs sense) in
    get_or-reverse (map sense rs) k (sense r) i
    ∙ ap (λ m. get_or (map sense rs) (m - 1 - k) (sense r)) (length-map rs sense)
    ∙ mapped rs (length rs - 1 - k) r

pub scope-length : (ns : List (List ℕ)) (rs : List Role) → length ns ≡ length rs → length (scope_of ns rs) ≡ length rs
scope-length ns rs e = zip-length ns (senses rs) (e ∙ sym (senses-length rs)) ∙ e

pub scope-names : (ns : List (List ℕ)) (rs : List Role) → length ns ≡ length rs → names (scope_of ns rs) ≡ ns
scope-names ns rs e = zip-names ns (senses rs) (e ∙ sym (senses-length rs))

-- more variables
pub scope-append : (ns ms : List (List ℕ)) (rs qs : List Role) → length ms ≡ length qs → scope_of (ms ++ ns) (rs ++ qs) ≡ scope_of ms qs ++ scope_of ns rs
scope-append ns ms rs qs e = ap (zip (ms ++ ns)) (senses-append rs qs) ∙ zip-append ms ns (senses qs) (senses rs) (e ∙ sym (senses-length qs))

-- the first ones are those that are left when the last ones go
pub scope-leave : (ns : List (List ℕ)) (rs : List Role) (n : ℕ) → length ns ≡ length rs → n ≤ length rs → scope_of (drop (length ns - n) ns) (take n rs) ≡ drop (length rs - n) (scope_of ns rs)
scope-leave ns rs n e h =
    ap (zip (drop (length ns - n) ns)) (senses-take rs n h)
    ∙ ap (λ k. zip (drop (k - n) ns) (drop (length rs - n) (senses rs))) e
    ∙ zip-drop (length rs - n) ns (senses rs)

-- what a name stands for
pub scope-found : (x : List ℕ) (ns : List (List ℕ)) (rs : List Role) (r : Role) → length ns ≡ length rs → index x ns < length rs → r ≡ get_or rs (length rs - 1 - index x ns) r → sense_of x (scope_of ns rs) ≡ Some (sense r)
scope-found x ns rs r e h g =
    let i : index x ns < length ns = omega arith in
    sense-found x ns (senses rs) (sense r) (e ∙ sym (senses-length rs)) i
    ∙ ap Some (senses-at rs (index x ns) r h ∙ ap sense (sym g))

pub scope-none : (x : List ℕ) (ns : List (List ℕ)) (rs : List Role) → length ns ≡ length rs → length rs ≤ index x ns → sense_of x (scope_of ns rs) ≡ None
scope-none x ns rs e h = let i : length ns ≤ index x ns = omega arith in sense-none x ns (senses rs) i
