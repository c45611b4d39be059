-- Channels in bundles.
use Rattle.std.proofs.Common.{◌≡◌, ◌<◌, Bool, true, false, ◌&&◌, List, [], ◌∷◌, ◌++◌, length, get_or, map, refl, sym, ap, ◌∙◌, subst, arith}
use Rattle.std.specs.Prelude.{Some, None}
use Rattle.calculus.specs.declared.plain.Rights.{Rights}
use Rattle.calculus.specs.declared.plain.Ground.TheVariants as ground
use Rattle.calculus.specs.Tree.{par, bundle, Tree, node, Trees, none, also, weight}
use Rattle.calculus.specs.Shape.{one, only}
use Rattle.calculus.specs.Unfolding.{Channel, opened, writes, reads, all_readable}
use Rattle.rho_term.specs.declared.term.Part.{Part}
use Rattle.rho_term.specs.declared.term.Part.TheVariants as part
use Rattle.rho_term.specs.Parts.{part_tree, term_tree}
use Rattle.offered_rows.specs.Offers.{bundle_rights, IsBundle}
use Rattle.offered_rows.proofs.Rows.{first-one}

-- a process that is no bundle is its own name
pub opened-none : (t : Tree) → bundle_rights t ≡ None → opened t ≡ record { name = t; writable = true; readable = true }
opened-none (node par none) h = refl
opened-none (node par (also (node (bundle r) none) us)) h = refl
opened-none (node par (also (node (bundle r) (also t none)) none)) h = cc
opened-none (node par (also (node (bundle r) (also t none)) (also u us))) h = refl
opened-none (node par (also (node (bundle r) (also t (also u us))) vs)) h = refl
opened-none (node par (also (node _ ts) us)) h = refl
opened-none (node _ ts) h = refl

-- what has the rights of a bundle is that bundle
pub bundle-some : (t : Tree) (r : Rights) → bundle_rights t ≡ Some r → (u : Tree) × (t ≡ only (one (bundle r) u))
bundle-some (node par none) r h = cc
bundle-some (node par (also (node (bundle q) none) us)) r h = cc
bundle-some (node par (also (node (bundle q) (also t none)) none)) r h = (t, cc)
bundle-some (node par (also (node (bundle q) (also t none)) (also u us))) r h = cc
bundle-some (node par (also (node (bundle q) (also t (also u us))) vs)) r h = cc
bundle-some (node par (also (node _ ts) us)) r h = cc
bundle-some (node _ ts) r h = cc

not-alone : (t u : Tree) (us : Trees) → bundle_rights (node par (also t (also u us))) ≡ None
not-alone (node (bundle r) none) u us = refl
not-alone (node (bundle r) (also t none)) u us = refl
not-alone (node (bundle r) (also t (also v vs))) u us = refl
not-alone (node _ ts) u us = refl

-- more parts than one, or none
pub rights-other : (ps : List Part) → (length ps ≡ 1 → ⊥) → bundle_rights (term_tree ps) ≡ None
rights-other [] h = refl
rights-other (p ∷ []) h = absurd (h refl)
rights-other (p ∷ q ∷ ps) h = not-alone (part_tree p) (part_tree q) _

-- one part of another form
pub rights-none : (p : Part) → ((r : Rights) (b : Tree) → p ≡ part.Bundle r b → ⊥) → bundle_rights (term_tree (p ∷ [])) ≡ None
rights-none (part.Bundle r b) h = absurd (h r b refl)
rights-none (part.Ground (ground.Bool b)) h = refl
rights-none (part.Ground (ground.Int z)) h = refl
rights-none (part.Ground (ground.Str s)) h = refl
rights-none (part.Ground (ground.Uri s)) h = refl
rights-none (part.Ground (ground.Bytes s)) h = refl
rights-none _ h = refl

-- a part that stands for a bundle is one
pub only-bundle : (p : Part) (r : Rights) (u : Tree) → part_tree p ≡ one (bundle r) u → ((q : Rights) (b : Tree) → p ≡ part.Bundle q b → ⊥) → ⊥
only-bundle (part.Bundle q b) r u e h = h q b refl
only-bundle (part.Ground (ground.Bool b)) r u e h = cc
only-bundle (part.Ground (ground.Int z)) r u e h = cc
only-bundle (part.Ground (ground.Str s)) r u e h = cc
only-bundle (part.Ground (ground.Uri s)) r u e h = cc
only-bundle (part.Ground (ground.Bytes s)) r u e h = cc
only-bundle _ r u e h = cc

and-assoc : (a b c : Bool) → (a && (b && c)) ≡ ((a && b) && c)
and-assoc true b c = refl
and-assoc false b c = refl

and-true : (a : Bool) → (a && true) ≡ a
and-true true = refl
and-true false = refl

-- a channel with what was read of the bundles around it
abbrev pub beneath : Bool → Bool → Channel → Channel
beneath w r c = record { name = c.name; writable = w && c.writable; readable = r && c.readable }

-- one more bundle
pub beneath-bundle : (w r : Bool) (q : Rights) (t : Tree) → beneath w r (opened (only (one (bundle q) t))) ≡ beneath (w && writes q) (r && reads q) (opened t)
beneath-bundle w r q t =
    let a = and-assoc w (writes q) (opened t).writable in
    let b = and-assoc r (reads q) (opened t).readable in
    ap (λ x. record { name = (opened t).name; writable = x; readable = r && (reads q && (opened t).readable) }) a
    ∙ ap (λ x. record { name = (opened t).name; writable = (w && writes q) && (opened t).writable; readable = x }) b

-- no more bundle
pub beneath-none : (w r : Bool) (t : Tree) → bundle_rights t ≡ None → beneath w r (opened t) ≡ record { name = t; writable = w; readable = r }
beneath-none w r t h =
    ap (beneath w r) (opened-none t h) ∙ (ap (λ x. record { name = t; writable = x; readable = r && true }) (and-true w) ∙ ap (λ x. record { name = t; writable = w; readable = x }) (and-true r))

-- a bundle has more nodes than what is in it
pub lighter : (r : Rights) (t u : Tree) → t ≡ only (one (bundle r) u) → weight u < weight t
lighter r t u e = subst (λ x. weight u < weight x) (sym e) (omega arith)

-- what stands in the bundle that a process's one part is
pub inside-is : (ps : List Part) (x : Part) (t : Tree) (q r : Rights) (b : Tree) → IsBundle t → t ≡ term_tree ps → x ≡ get_or ps 0 x → x ≡ part.Bundle q b → bundle_rights t ≡ Some r → t ≡ only (one (bundle r) b)
inside-is ps x t q r b h e f is k =
    let w = first-one ps x t (one (bundle h.0) h.1) h.2 e f in
    let whole : t ≡ only (one (bundle q) b) = e ∙ (ap term_tree w.0 ∙ ap (λ y. term_tree (y ∷ [])) is) in
    let rights : Some q ≡ Some r = sym (ap bundle_rights whole) ∙ k in
    let same : q ≡ r = cc in
    whole ∙ ap (λ p. only (one (bundle p) b)) same

-- a bundle's part is one
pub inside-bundle : (ps : List Part) (x : Part) (t : Tree) → IsBundle t → t ≡ term_tree ps → x ≡ get_or ps 0 x → ((q : Rights) (b : Tree) → x ≡ part.Bundle q b → ⊥) → ⊥
inside-bundle ps x t h e f n = only-bundle x h.0 h.1 (first-one ps x t (one (bundle h.0) h.1) h.2 e f).1 n

-- one more channel
pub names-push : (ts ns ms : List Tree) (t : Tree) (c : Channel) → ms ≡ ns ++ c.name ∷ [] → c ≡ opened t → ns ≡ map (λ (d : Channel). d.name) (map opened ts) → ms ≡ map (λ (d : Channel). d.name) (map opened (ts ++ t ∷ []))
names-push ts ns ms t c e k h =
    e ∙ (ap (λ xs. xs ++ c.name ∷ []) h ∙ (ap (λ (d : Channel). map (λ (x : Channel). x.name) (map opened ts) ++ d.name ∷ []) k ∙ sym (go ts)))
  where
    go : (us : List Tree) → map (λ (d : Channel). d.name) (map opened (us ++ t ∷ [])) ≡ map (λ (d : Channel). d.name) (map opened us) ++ (opened t).name ∷ []
    go [] = refl
    go (u ∷ us) = ap (λ xs. (opened u).name ∷ xs) (go us)

pub readable-push : (ts : List Tree) (t : Tree) (c : Channel) (r s : Bool) → s ≡ (r && c.readable) → c ≡ opened t → r ≡ all_readable (map opened ts) → s ≡ all_readable (map opened (ts ++ t ∷ []))
readable-push ts t c r s e k h =
    e ∙ (ap (λ b. b && c.readable) h ∙ (ap (λ (d : Channel). all_readable (map opened ts) && d.readable) k ∙ sym (go ts)))
  where
    go : (us : List Tree) → all_readable (map opened (us ++ t ∷ [])) ≡ (all_readable (map opened us) && (opened t).readable)
    go [] = and-true (opened t).readable
    go (u ∷ us) = ap (λ b. (opened u).readable && b) (go us) ∙ and-assoc (opened u).readable (all_readable (map opened us)) (opened t).readable
