-- The tables of methods of values that agree have the same lines, whose answers agree.
use Rattle.std.proofs.Common.{◌≡◌, ℕ, List, [], ◌∷◌, ◌++◌, length, map as each, refl, subst}
use Rattle.std.specs.Prelude.{pos, ◌&&◌, eqb, Option, Some, None, codes}
use Rattle.std.specs.List.{AllZip}
use Rattle.std.specs.Str.{bytes_eq}
use Rattle.calculus.specs.Tree.{par, pair, Tree}
use Rattle.calculus.specs.Shape.{leaf, two}
use Rattle.calculus.specs.Bytes.{joined}
use Rattle.calculus.specs.Normal.{ascending}
use Rattle.calculus.specs.Outcome.{gives}
use Rattle.calculus.specs.Texts.{characters, from_hex, to_hex}
use Rattle.calculus.specs.Operators.{seen, of_int, of_text, of_bytes, of_list, of_set, of_map, is_among, without, key_of, found, holds}
use Rattle.calculus.specs.Methods.{Method, given, nth_at, slice, size, hex_answer, with_set, with_map, without_key, as_tuple, methods, among_methods, method_answer}
use Rattle.process_laws.proofs.Zips.{zip-append, zip-map}
use Rattle.process_laws.proofs.Twins.{a_process, a_pair, Twin, made, ascending-twins}
use Rattle.process_laws.proofs.Outcomes.{answers-cond}
use Rattle.process_laws.proofs.Looks.{Looks, texts, byte_lists, lists, tuples, sets, maps, left, right, looked}
use Rattle.process_laws.proofs.Collections.{Both, Pairs, listed-both, set-both, map-both, without-both, among-same, keys-both, found-both, without_key-pairs, tuple-both}
use Rattle.process_laws.proofs.Operations.{Agree, bool-both, int-both, text-both, bytes-both}
use Rattle.process_laws.proofs.Calls.{one_list, itself, same_length, size-agrees, nth_at-agrees, slice-agrees, with_set-agrees, with_map-agrees, Lines, plain-lines, given-lines, two-lines}

hex-agrees : (o : Option (List ℕ)) → Agree (hex_answer o) (hex_answer o)
hex-agrees (Some bs) = bytes-both bs
hex-agrees None = refl

-- the same bytes, characters or texts on both sides
abbrev Same : {A : Type 0} → A → A → Type 0
Same x y = x ≡ y

text-of : (xs ys : List (List ℕ)) → AllZip Same xs ys → Both (of_text (joined xs)) (of_text (joined ys))
text-of xs ys h = subst (λ zs. Both (of_text (joined xs)) (of_text (joined zs))) (one_list xs ys h) (text-both (joined xs))

bytes-of : (xs ys : List ℕ) → AllZip Same xs ys → Both (of_bytes xs) (of_bytes ys)
bytes-of xs ys h = subst (λ zs. Both (of_bytes xs) (of_bytes zs)) (one_list xs ys h) (bytes-both xs)

byte-of : (x y : ℕ) → x ≡ y → Both (of_int (pos x)) (of_int (pos y))
byte-of x y e = subst (λ z. Both (of_int (pos x)) (of_int (pos z))) e (int-both (pos x))

text-table : (s : List ℕ) → AllZip Lines (methods (left (texts s))) (methods (left (texts s)))
text-table s = (
  plain-lines (codes "length") (size (characters s)) (size (characters s)) (size-agrees Same (characters s) (characters s) (itself (characters s))),
  (
    two-lines (codes "slice") (λ i j. slice (λ cs. of_text (joined cs)) (characters s) (seen i) (seen j)) (λ i j. slice (λ cs. of_text (joined cs)) (characters s) (seen i) (seen j))
        (λ t u v w h k. slice-agrees Same (λ cs. of_text (joined cs)) (λ cs. of_text (joined cs)) text-of (characters s) (characters s) t u v w (itself (characters s)) h k),
    (
      plain-lines (codes "toUtf8Bytes") (gives (of_bytes s)) (gives (of_bytes s)) (bytes-both s),
      (plain-lines (codes "hexToBytes") (hex_answer (from_hex s)) (hex_answer (from_hex s)) (hex-agrees (from_hex s)), tt),
    ),
  ),
)

bytes-table : (s : List ℕ) → AllZip Lines (methods (left (byte_lists s))) (methods (left (byte_lists s)))
bytes-table s = (
  plain-lines (codes "length") (size s) (size s) (size-agrees Same s s (itself s)),
  (
    given-lines (codes "nth") (λ i. nth_at (λ b. of_int (pos b)) s (seen i)) (λ i. nth_at (λ b. of_int (pos b)) s (seen i)) (λ t u h. nth_at-agrees Same (λ b. of_int (pos b)) (λ b. of_int (pos b)) byte-of s s t u (itself s) h),
    (
      two-lines (codes "slice") (λ i j. slice of_bytes s (seen i) (seen j)) (λ i j. slice of_bytes s (seen i) (seen j)) (λ t u v w h k. slice-agrees Same of_bytes of_bytes bytes-of s s t u v w (itself s) h k),
      (plain-lines (codes "bytesToHex") (gives (of_text (to_hex s))) (gives (of_text (to_hex s))) (text-both (to_hex s)), tt),
    ),
  ),
)

module _ (xs ys : List Tree) (h : AllZip Both xs ys) where
  member : Lines (given (codes "nth") (λ i. nth_at (λ t. t) xs (seen i))) (given (codes "nth") (λ i. nth_at (λ t. t) ys (seen i)))
  member = given-lines (codes "nth") (λ i. nth_at (λ t. t) xs (seen i)) (λ i. nth_at (λ t. t) ys (seen i)) (λ t u k. nth_at-agrees Both (λ x. x) (λ x. x) (λ x y r. r) xs ys t u h k)

  list-table : AllZip Lines (methods (left (lists xs ys h))) (methods (right (lists xs ys h)))
  list-table = (
    plain-lines (codes "length") (size xs) (size ys) (size-agrees Both xs ys h),
    (
      member,
      (
        two-lines (codes "slice") (λ i j. slice of_list xs (seen i) (seen j)) (λ i j. slice of_list ys (seen i) (seen j)) (λ t u v w k r. slice-agrees Both of_list of_list listed-both xs ys t u v w h k r),
        (plain-lines (codes "toSet") (gives (of_set xs)) (gives (of_set ys)) (set-both xs ys h), tt),
      ),
    ),
  )

  tuple-table : AllZip Lines (methods (left (tuples xs ys h))) (methods (right (tuples xs ys h)))
  tuple-table = (member, tt)

  set-table : AllZip Lines (methods (left (sets xs ys h))) (methods (right (sets xs ys h)))
  set-table = (
    plain-lines (codes "size") (size xs) (size ys) (size-agrees Both xs ys h),
    (
      given-lines (codes "contains") (λ x. holds (is_among x xs)) (λ x. holds (is_among x ys)) (λ t u k. bool-both (is_among t xs) (is_among u ys) (among-same t u xs ys k h)),
      (
        given-lines (codes "add") (λ x. gives (of_set (xs ++ x ∷ []))) (λ x. gives (of_set (ys ++ x ∷ []))) (λ t u k. set-both (xs ++ t ∷ []) (ys ++ u ∷ []) (zip-append Both xs (t ∷ []) ys (u ∷ []) h (k, tt))),
        (
          given-lines (codes "delete") (λ x. gives (of_set (without (x ∷ []) xs))) (λ x. gives (of_set (without (x ∷ []) ys))) (λ t u k. set-both (without (t ∷ []) xs) (without (u ∷ []) ys) (without-both (t ∷ []) (u ∷ []) xs ys (k, tt) h)),
          (
            given-lines (codes "union") (λ s. with_set (seen s) (λ us. of_set (xs ++ us))) (λ s. with_set (seen s) (λ us. of_set (ys ++ us)))
                (λ t u k. with_set-agrees t u (λ us. of_set (xs ++ us)) (λ us. of_set (ys ++ us)) k (λ vs ws r. set-both (xs ++ vs) (ys ++ ws) (zip-append Both xs vs ys ws h r))),
            (
              given-lines (codes "diff") (λ s. with_set (seen s) (λ us. of_set (without us xs))) (λ s. with_set (seen s) (λ us. of_set (without us ys)))
                  (λ t u k. with_set-agrees t u (λ us. of_set (without us xs)) (λ us. of_set (without us ys)) k (λ vs ws r. set-both (without vs xs) (without ws ys) (without-both vs ws xs ys r h))),
              (plain-lines (codes "toList") (gives (of_list (ascending xs))) (gives (of_list (ascending ys))) (listed-both (ascending xs) (ascending ys) (ascending-twins a_process xs ys h)), tt),
            ),
          ),
        ),
      ),
    ),
  )

pair-both : (k l v w : Tree) → Both k l → Both v w → Pairs (two pair k v) (two pair l w)
pair-both k l v w h r = made a_pair a_process pair (k ∷ v ∷ []) (l ∷ w ∷ []) refl (h, (r, tt))

module _ (ps qs : List Tree) (h : AllZip Pairs ps qs) where
  map-table : AllZip Lines (methods (left (maps ps qs h))) (methods (right (maps ps qs h)))
  map-table = (
    plain-lines (codes "size") (size ps) (size qs) (size-agrees Pairs ps qs h),
    (
      given-lines (codes "contains") (λ k. holds (is_among k (each key_of ps))) (λ k. holds (is_among k (each key_of qs)))
          (λ t u k. bool-both (is_among t (each key_of ps)) (is_among u (each key_of qs)) (among-same t u (each key_of ps) (each key_of qs) k (keys-both ps qs h))),
      (
        given-lines (codes "get") (λ k. gives (found (leaf par) k ps)) (λ k. gives (found (leaf par) k qs)) (λ t u k. found-both (leaf par) (leaf par) t u ps qs (refl, tt) k h),
        (
          two-lines (codes "getOrElse") (λ k v. gives (found v k ps)) (λ k v. gives (found v k qs)) (λ t u v w k r. found-both v w t u ps qs r k h),
          (
            two-lines (codes "set") (λ k v. gives (of_map (ps ++ two pair k v ∷ []))) (λ k v. gives (of_map (qs ++ two pair k v ∷ [])))
                (λ t u v w k r. map-both (ps ++ two pair t v ∷ []) (qs ++ two pair u w ∷ []) (zip-append Pairs ps (two pair t v ∷ []) qs (two pair u w ∷ []) h (pair-both t u v w k r, tt))),
            (
              given-lines (codes "delete") (λ k. gives (of_map (without_key k ps))) (λ k. gives (of_map (without_key k qs))) (λ t u k. map-both (without_key t ps) (without_key u qs) (without_key-pairs t u ps qs k h)),
              (
                given-lines (codes "union") (λ m. with_map (seen m) (λ us. of_map (ps ++ us))) (λ m. with_map (seen m) (λ us. of_map (qs ++ us)))
                    (λ t u k. with_map-agrees t u (λ us. of_map (ps ++ us)) (λ us. of_map (qs ++ us)) k (λ vs ws r. map-both (ps ++ vs) (qs ++ ws) (zip-append Pairs ps vs qs ws h r))),
                (
                  plain-lines (codes "keys") (gives (of_set (each key_of ps))) (gives (of_set (each key_of qs))) (set-both (each key_of ps) (each key_of qs) (keys-both ps qs h)),
                  (
                    plain-lines (codes "toList") (gives (of_list (each as_tuple (ascending ps)))) (gives (of_list (each as_tuple (ascending qs))))
                        (listed-both (each as_tuple (ascending ps)) (each as_tuple (ascending qs)) (zip-map Pairs Both as_tuple as_tuple tuple-both (ascending ps) (ascending qs) (ascending-twins a_pair ps qs h))),
                    tt,
                  ),
                ),
              ),
            ),
          ),
        ),
      ),
    ),
  )

tables : (a : Looks) → AllZip Lines (methods (left a)) (methods (right a))
tables (texts s) = text-table s
tables (byte_lists s) = bytes-table s
tables (lists xs ys h) = list-table xs ys h
tables (tuples xs ys h) = tuple-table xs ys h
tables (sets xs ys h) = set-table xs ys h
tables (maps ps qs h) = map-table ps qs h
tables _ = tt

same_number : (xs ys : List Tree) → AllZip Both xs ys → length xs ≡ length ys
same_number xs ys h = same_length Both xs ys h

among-agrees : (n : List ℕ) (xs ys : List Tree) → AllZip Both xs ys → (ms ns : List Method) → AllZip Lines ms ns → Agree (among_methods n xs ms) (among_methods n ys ns)
among-agrees n xs ys h [] [] k = refl
among-agrees n xs ys h [] (l ∷ ns) k = absurd k
among-agrees n xs ys h (m ∷ ms) [] k = absurd k
among-agrees n xs ys h (m ∷ ms) (l ∷ ns) k =
    answers-cond (Twin a_process) (bytes_eq n m.name && eqb (length xs) m.takes) (bytes_eq n l.name && eqb (length ys) l.takes) (m.answer xs) (among_methods n xs ms) (l.answer ys) (among_methods n ys ns)
    (rw (k.0.0, k.0.1, same_number xs ys h)) (k.0.2 xs ys h) (among-agrees n xs ys h ms ns k.1)

pub method-agrees : (n : List ℕ) (t u : Tree) (xs ys : List Tree) → Both t u → AllZip Both xs ys → Agree (method_answer n t xs) (method_answer n u ys)
unfolding method_answer
method-agrees n t u xs ys h k =
    let a = looked t u h in
    rw (a.on_left, a.on_right) (among-agrees n xs ys k (methods (left a.looks)) (methods (right a.looks)) (tables a.looks))
