-- Collections made of values that agree in turn.
use Rattle.std.proofs.Common.{◌≡◌, Bool, true, false, cond, List, [], ◌∷◌, map as each, refl, sym, ap}
use Rattle.std.specs.Prelude.{not, filter}
use Rattle.std.specs.List.{AllZip}
use Rattle.std.proofs.lemmas.Bool.{false≢true}
use Rattle.calculus.specs.Tree.{list, tuple, set, dict, Tree}
use Rattle.calculus.specs.Shape.{held}
use Rattle.calculus.specs.Congruence.{congruent}
use Rattle.calculus.specs.Normal.{ascending}
use Rattle.calculus.specs.Operators.{of_list, of_set, of_map, is_among, distinct, without, key_of, value_of, last_of_key, found}
use Rattle.calculus.specs.Methods.{without_key, as_tuple}
use Rattle.process_laws.proofs.Zips.{zip-cond, zip-map}
use Rattle.process_laws.proofs.Targets.{same_answer}
use Rattle.process_laws.proofs.Twins.{Shape, a_process, a_pair, Twin, twin-key, made_only, pair_held, at-twin, ascending-twins}

-- values that agree, and pairs of such
abbrev pub Both : Tree → Tree → Type 0
Both = Twin a_process

abbrev pub Pairs : Tree → Tree → Type 0
Pairs = Twin a_pair

pub listed-both : (xs ys : List Tree) → AllZip Both xs ys → Both (of_list xs) (of_list ys)
listed-both xs ys h = made_only a_process list xs ys refl h

pub is_congruent : (s r : Shape) (t u v w : Tree) → Twin s t u → Twin r v w → congruent t v ≡ congruent u w
is_congruent s r t u v w h k = same_answer t u v w (twin-key s t u h) (twin-key r v w k)

pub among-same : (t u : Tree) (vs ws : List Tree) → Both t u → AllZip Both vs ws → is_among t vs ≡ is_among u ws
among-same t u [] [] h k = refl
among-same t u [] (w ∷ ws) h k = absurd k
among-same t u (v ∷ vs) [] h k = absurd k
among-same t u (v ∷ vs) (w ∷ ws) h k = rw (is_congruent a_process a_process t u v w h k.0, among-same t u vs ws h k.1)

distinct-both : (xs ys : List Tree) → AllZip Both xs ys → AllZip Both (distinct xs) (distinct ys)
distinct-both [] [] h = tt
distinct-both [] (y ∷ ys) h = absurd h
distinct-both (x ∷ xs) [] h = absurd h
distinct-both (x ∷ xs) (y ∷ ys) h =
    zip-cond Both (is_among x xs) (is_among y ys) (distinct xs) (x ∷ distinct xs) (distinct ys) (y ∷ distinct ys) (among-same x y xs ys h.0 h.1)
    (λ e. distinct-both xs ys h.1) (λ e. (h.0, distinct-both xs ys h.1))

pub set-both : (xs ys : List Tree) → AllZip Both xs ys → Both (of_set xs) (of_set ys)
set-both xs ys h = made_only a_process set (ascending (distinct xs)) (ascending (distinct ys)) refl (ascending-twins a_process (distinct xs) (distinct ys) (distinct-both xs ys h))

-- those that pass a test which answers alike
pub filter-twins : (s : Shape) (f g : Tree → Bool) → ((x y : Tree) → Twin s x y → f x ≡ g y) → (xs ys : List Tree) → AllZip (Twin s) xs ys → AllZip (Twin s) (filter f xs) (filter g ys)
filter-twins s f g k [] [] h = tt
filter-twins s f g k [] (y ∷ ys) h = absurd h
filter-twins s f g k (x ∷ xs) [] h = absurd h
filter-twins s f g k (x ∷ xs) (y ∷ ys) h =
    zip-cond (Twin s) (f x) (g y) (x ∷ filter f xs) (filter f xs) (y ∷ filter g ys) (filter g ys) (k x y h.0)
    (λ e. (h.0, filter-twins s f g k xs ys h.1)) (λ e. filter-twins s f g k xs ys h.1)

pub without-both : (vs ws xs ys : List Tree) → AllZip Both vs ws → AllZip Both xs ys → AllZip Both (without vs xs) (without ws ys)
without-both vs ws xs ys h k =
    filter-twins a_process (λ t. not (is_among t vs)) (λ t. not (is_among t ws)) (λ x y r. ap not (among-same x y vs ws r h)) xs ys k

pub key-both : (p q : Tree) → Pairs p q → Both (key_of p) (key_of q)
key-both p q h = at-twin 0 (held p) (held q) (pair_held p q h)

pub value-both : (p q : Tree) → Pairs p q → Both (value_of p) (value_of q)
value-both p q h = at-twin 1 (held p) (held q) (pair_held p q h)

pub keys-both : (ps qs : List Tree) → AllZip Pairs ps qs → AllZip Both (each key_of ps) (each key_of qs)
keys-both ps qs h = zip-map Pairs Both key_of key_of key-both ps qs h

last-pairs : (ps qs : List Tree) → AllZip Pairs ps qs → AllZip Pairs (last_of_key ps) (last_of_key qs)
last-pairs [] [] h = tt
last-pairs [] (q ∷ qs) h = absurd h
last-pairs (p ∷ ps) [] h = absurd h
last-pairs (p ∷ ps) (q ∷ qs) h =
    zip-cond Pairs (is_among (key_of p) (each key_of ps)) (is_among (key_of q) (each key_of qs)) (last_of_key ps) (p ∷ last_of_key ps) (last_of_key qs) (q ∷ last_of_key qs)
    (among-same (key_of p) (key_of q) (each key_of ps) (each key_of qs) (key-both p q h.0) (keys-both ps qs h.1))
    (λ e. last-pairs ps qs h.1) (λ e. (h.0, last-pairs ps qs h.1))

pub map-both : (ps qs : List Tree) → AllZip Pairs ps qs → Both (of_map ps) (of_map qs)
map-both ps qs h = made_only a_pair dict (ascending (last_of_key ps)) (ascending (last_of_key qs)) refl (ascending-twins a_pair (last_of_key ps) (last_of_key qs) (last-pairs ps qs h))

twin-cond : (s : Shape) (b c : Bool) (x y v w : Tree) → b ≡ c → Twin s x v → Twin s y w → Twin s (cond b x y) (cond c v w)
twin-cond s true true x y v w e h k = h
twin-cond s false false x y v w e h k = k
twin-cond s true false x y v w e h k = absurd (false≢true (sym e))
twin-cond s false true x y v w e h k = absurd (false≢true e)

pub found-both : (d e k l : Tree) (ps qs : List Tree) → Both d e → Both k l → AllZip Pairs ps qs → Both (found d k ps) (found e l qs)
found-both d e k l [] [] h r i = h
found-both d e k l [] (q ∷ qs) h r i = absurd i
found-both d e k l (p ∷ ps) [] h r i = absurd i
found-both d e k l (p ∷ ps) (q ∷ qs) h r i =
    twin-cond a_process (congruent k (key_of p)) (congruent l (key_of q)) (value_of p) (found d k ps) (value_of q) (found e l qs)
    (is_congruent a_process a_process k l (key_of p) (key_of q) r (key-both p q i.0)) (value-both p q i.0) (found-both d e k l ps qs h r i.1)

pub without_key-pairs : (k l : Tree) (ps qs : List Tree) → Both k l → AllZip Pairs ps qs → AllZip Pairs (without_key k ps) (without_key l qs)
without_key-pairs k l ps qs h r =
    filter-twins a_pair (λ p. not (congruent k (key_of p))) (λ p. not (congruent l (key_of p)))
    (λ p q i. ap not (is_congruent a_process a_process k l (key_of p) (key_of q) h (key-both p q i))) ps qs r

pub tuple-both : (p q : Tree) → Pairs p q → Both (as_tuple p) (as_tuple q)
tuple-both p q h = made_only a_process tuple (held p) (held q) refl (pair_held p q h)
