-- What methods answer on good values is good, and known.
use Rattle.std.proofs.Common.{ℕ, zero, suc, Bool, ◌&&◌, not, leb, eqb, List, [], ◌∷◌, ◌++◌, length, take, drop, map as each, filter, Option, Some, None, pos, negsuc, bytes_eq}
use Rattle.std.specs.Prelude.{⊤}
use Rattle.calculus.proofs.Members.{Every, every-append, every-take, every-drop, every-filter}
use Rattle.calculus.specs.declared.fault.FaultKind.TheVariants as fault
use Rattle.calculus.specs.Tree.{par, pair, Tree}
use Rattle.calculus.specs.Shape.{leaf, two, at}
use Rattle.calculus.specs.Bytes.{joined}
use Rattle.calculus.specs.Congruence.{congruent}
use Rattle.calculus.specs.Normal.{ascending}
use Rattle.calculus.specs.Outcome.{Answer, gives, fails}
use Rattle.calculus.specs.Texts.{characters, from_hex, to_hex}
use Rattle.calculus.specs.Operators.{Seen, an_int, a_text, some_bytes, a_list, a_tuple, a_set, a_map, seen, of_int, of_text, of_bytes, of_list, of_set, of_map, is_among, key_of}
use Rattle.calculus.specs.Methods.{Method, nth, nth_at, slice, hex_answer, with_set, with_map, as_tuple, methods, among_methods, method_answer}
use Rattle.process_laws.proofs.Lists.{ascending-every}
use Rattle.process_laws.proofs.Goodness.{a_term, a_pair, IsGood, AreGood, at-good, nil-good}
use Rattle.process_laws.proofs.Making.{HasStandard, collections, bool-good, list-good, set-good, map-good, pair-good, keys-good, found-good, tuples-good}
use Rattle.process_laws.proofs.Answering.{HoldsGood, IsKnownGood, seen-good, int-good, text-good, bytes-good, chosen}

module _ (O : Tree → Type 0) (standard : HasStandard O) where
  -- a known answer, whose result is good
  abbrev IsGoodAnswer : Answer Tree → Type 0
  IsGoodAnswer a = IsKnownGood O standard a

  -- a method answers good arguments well
  abbrev AnswerWell : List Method → Type 0
  AnswerWell [] = ⊤
  AnswerWell (m ∷ ms) = ((xs : List Tree) → AreGood O a_term xs → IsGoodAnswer (m.answer xs)) × AnswerWell ms

  among-good : (n : List ℕ) (xs : List Tree) (ms : List Method) → AnswerWell ms → AreGood O a_term xs → IsGoodAnswer (among_methods n xs ms)
  among-good n xs [] h k = tt
  among-good n xs (m ∷ ms) h k = chosen O standard (bytes_eq n m.name && eqb (length xs) m.takes) (m.answer xs) (among_methods n xs ms) (h.0 xs k) (among-good n xs ms h.1 k)

  nth-good : {A : Type 0} (f : A → Tree) (xs : List A) (i : ℕ) → Every (λ x. IsGood O a_term (f x)) xs → IsGoodAnswer (nth f xs i)
  nth-good f [] i h = tt
  nth-good f (x ∷ xs) zero h = h.0
  nth-good f (x ∷ xs) (suc i) h = nth-good f xs i h.1

  nth-at-good : {A : Type 0} (f : A → Tree) (xs : List A) (s : Seen) → Every (λ x. IsGood O a_term (f x)) xs → IsGoodAnswer (nth_at f xs s)
  nth-at-good f xs (an_int (pos i)) h = nth-good f xs i h
  nth-at-good f xs (an_int (negsuc i)) h = tt
  nth-at-good f xs _ h = tt

  each-byte : (s : List ℕ) → Every (λ b. IsGood O a_term (of_int (pos b))) s
  each-byte [] = tt
  each-byte (b ∷ s) = (int-good O standard (pos b), each-byte s)

  slice-good : {A : Type 0} (f : List A → Tree) (xs : List A) (s t : Seen) → ((i j : ℕ) → IsGood O a_term (f (drop i (take j xs)))) → IsGoodAnswer (slice f xs s t)
  slice-good f xs (an_int (pos i)) (an_int (pos j)) h = chosen O standard (leb i j && leb j (length xs)) (gives (f (drop i (take j xs)))) (fails fault.Index) (h i j) tt
  slice-good f xs (an_int i) (an_int j) h = tt
  slice-good f xs _ _ h = tt

  hex-good : (o : Option (List ℕ)) → IsGoodAnswer (hex_answer o)
  hex-good (Some bs) = bytes-good O standard bs
  hex-good None = tt

  with-set-good : (s : Seen) (f : List Tree → Tree) → HoldsGood O s → ((us : List Tree) → AreGood O a_term us → IsGood O a_term (f us)) → IsGoodAnswer (with_set s f)
  with-set-good (a_set us) f h k = k us h
  with-set-good _ f h k = tt

  with-map-good : (s : Seen) (f : List Tree → Tree) → HoldsGood O s → ((us : List Tree) → AreGood O a_pair us → IsGood O a_term (f us)) → IsGoodAnswer (with_map s f)
  with-map-good (a_map us) f h k = k us h
  with-map-good _ f h k = tt

  seen-at : (i : ℕ) (xs : List Tree) → AreGood O a_term xs → HoldsGood O (seen (at i xs))
  seen-at i xs h = seen-good O standard (at i xs) (at-good O i xs h)

  slice-list : (i j : ℕ) (ts : List Tree) → AreGood O a_term ts → IsGood O a_term (of_list (drop i (take j ts)))
  slice-list i j ts h = list-good O (collections O standard) (drop i (take j ts)) (every-drop (IsGood O a_term) i (take j ts) (every-take (IsGood O a_term) j ts h))

  filtered : (f : Tree → Bool) (ts : List Tree) → AreGood O a_term ts → IsGood O a_term (of_set (filter f ts))
  filtered f ts h = set-good O standard _ (every-filter (IsGood O a_term) f ts h)

  methods-good : (s : Seen) → HoldsGood O s → AnswerWell (methods s)
  methods-good (a_text s) h = (
    λ xs k. int-good O standard _,
    (
      λ xs k. slice-good (λ cs. of_text (joined cs)) (characters s) (seen (at 0 xs)) (seen (at 1 xs)) (λ i j. text-good O standard (joined (drop i (take j (characters s))))),
      (λ xs k. bytes-good O standard s, (λ xs k. hex-good (from_hex s), tt)),
    ),
  )
  methods-good (some_bytes s) h = (
    λ xs k. int-good O standard _,
    (
      λ xs k. nth-at-good (λ b. of_int (pos b)) s (seen (at 0 xs)) (each-byte s),
      (λ xs k. slice-good of_bytes s (seen (at 0 xs)) (seen (at 1 xs)) (λ i j. bytes-good O standard (drop i (take j s))), (λ xs k. text-good O standard (to_hex s), tt)),
    ),
  )
  methods-good (a_list ts) h = (
    λ xs k. int-good O standard _,
    (
      λ xs k. nth-at-good (λ t. t) ts (seen (at 0 xs)) h,
      (λ xs k. slice-good of_list ts (seen (at 0 xs)) (seen (at 1 xs)) (λ i j. slice-list i j ts h), (λ xs k. set-good O standard ts h, tt)),
    ),
  )
  methods-good (a_tuple ts) h = (λ xs k. nth-at-good (λ t. t) ts (seen (at 0 xs)) h, tt)
  methods-good (a_set ts) h = (
    λ xs k. int-good O standard _,
    (
      λ xs k. bool-good O standard _,
      (
        λ xs k. set-good O standard (ts ++ at 0 xs ∷ []) (every-append (IsGood O a_term) ts (at 0 xs ∷ []) h (at-good O 0 xs k, tt)),
        (
          λ xs k. filtered (λ t. not (is_among t (at 0 xs ∷ []))) ts h,
          (
            λ xs k. with-set-good (seen (at 0 xs)) (λ us. of_set (ts ++ us)) (seen-at 0 xs k) (λ us g. set-good O standard (ts ++ us) (every-append (IsGood O a_term) ts us h g)),
            (
              λ xs k. with-set-good (seen (at 0 xs)) _ (seen-at 0 xs k) (λ us g. filtered (λ t. not (is_among t us)) ts h),
              (λ xs k. list-good O (collections O standard) (ascending ts) (ascending-every (IsGood O a_term) ts h), tt),
            ),
          ),
        ),
      ),
    ),
  )
  methods-good (a_map ps) h = (
    λ xs k. int-good O standard _,
    (
      λ xs k. bool-good O standard _,
      (
        λ xs k. found-good O standard (leaf par) (at 0 xs) ps (nil-good O) h,
        (
          λ xs k. found-good O standard (at 1 xs) (at 0 xs) ps (at-good O 1 xs k) h,
          (
            λ xs k. map-good O standard (ps ++ two pair (at 0 xs) (at 1 xs) ∷ []) (every-append (IsGood O a_pair) ps (two pair (at 0 xs) (at 1 xs) ∷ []) h (pair-good O standard (at 0 xs) (at 1 xs) (at-good O 0 xs k) (at-good O 1 xs k), tt)),
            (
              λ xs k. map-good O standard _ (every-filter (IsGood O a_pair) (λ p. not (congruent (at 0 xs) (key_of p))) ps h),
              (
                λ xs k. with-map-good (seen (at 0 xs)) (λ qs. of_map (ps ++ qs)) (seen-at 0 xs k) (λ qs g. map-good O standard (ps ++ qs) (every-append (IsGood O a_pair) ps qs h g)),
                (λ xs k. set-good O standard (each key_of ps) (keys-good O standard ps h), (λ xs k. list-good O (collections O standard) (each as_tuple (ascending ps)) (tuples-good O standard (ascending ps) (ascending-every (IsGood O a_pair) ps h)), tt)),
              ),
            ),
          ),
        ),
      ),
    ),
  )
  methods-good _ h = tt

  pub method-good : (n : List ℕ) (t : Tree) (us : List Tree) → IsGood O a_term t → AreGood O a_term us → IsGoodAnswer (method_answer n t us)
  unfolding method_answer
  method-good n t us h k = among-good n us (methods (seen t)) (methods-good (seen t) (seen-good O standard t h)) k
