-- Each form of a pattern matches alike where its constituents do.
use Rattle.std.proofs.Common.{◌≡◌, ℕ, zero, suc, Bool, true, false, List, [], ◌∷◌, refl, sym, ap, ◌∙◌, subst}
use Rattle.std.specs.Prelude.{⊤, not, ◌||◌, IsTrue}
use Rattle.std.specs.List.{AllZip}
use Rattle.std.proofs.lemmas.Bool.{false≢true}
use Rattle.calculus.specs.Tree.{Label, par, list, tuple, send, bundle, rest, same, both, either, not_this, list_pattern, Tree, node, Trees, none, also}
use Rattle.calculus.specs.Shape.{many, only, listed, held, at, label_of}
use Rattle.calculus.specs.Congruence.{is_bag, same_label, congruent}
use Rattle.calculus.specs.Code.{arranged}
use Rattle.calculus.specs.CongruenceLaws.{AreCongruent}
use Rattle.calculus.specs.declared.plain.Rights.{Rights}
use Rattle.calculus.specs.Normal.{ascending}
use Rattle.calculus.specs.Operators.{of_list}
use Rattle.calculus.specs.Form.{Sort, term, part, a_rest, pat, name_pat, pat_part, name_part, row_of, pair_of, Kids, all, these, no_form, part_kids}
use Rattle.calculus.specs.Matching.{Bindings, Member, Piece, one_if, some_match, rest_of, where_form, whole_at, inner_at, wholes, form_matches, piece_of, both_of, items_match, first_items_match, members_match}
use Rattle.calculus.proofs.Alike.{same_label-Decides}
use Rattle.calculus.proofs.Keys.{key, key_all, equal_nodes, equal_keys}
use Rattle.calculus.proofs.Equivalence.{agree, of_forms}
use Rattle.process_laws.specs.MatchingLaws.{AreAlike}
use Rattle.process_laws.proofs.Zips.{zip-cond, zip-map, zip-weaken}
use Rattle.process_laws.proofs.Bindings.{both-alike, one-alike, some-same}
use Rattle.process_laws.proofs.Tied.{Tied}
use Rattle.process_laws.proofs.Targets.{Aimed, aim, Inside, opened, same_answer, first_tied, second_tied, row_tied}
use Rattle.process_laws.proofs.Ways.{Answers, Like, Thin, thin_like, items-alike, first-items-alike, members-alike}

-- constituents of patterns that are alike, each as it is tried
abbrev pub WholeLike : Sort → Member → Member → Type 0
WholeLike pat m n = Thin term m n
WholeLike name_pat m n = Thin term m n
WholeLike pat_part m n = Like part m n
WholeLike name_part m n = Like part m n
WholeLike (pair_of pat) m n = Thin (pair_of term) m n
WholeLike _ m n = ⊤

-- and a row by what stands in it
abbrev pub PieceLike : Sort → Piece → Piece → Type 0
PieceLike (row_of s) m n = AllZip (WholeLike s) m.inner n.inner
PieceLike s m n = WholeLike s m.whole n.whole

abbrev pub TurnLike : List Sort → List Piece → List Piece → Type 0
TurnLike [] [] [] = ⊤
TurnLike [] [] (n ∷ ns) = ⊥
TurnLike [] (m ∷ ms) ns = ⊥
TurnLike (s ∷ ss) [] ns = ⊥
TurnLike (s ∷ ss) (m ∷ ms) [] = ⊥
TurnLike (s ∷ ss) (m ∷ ms) (n ∷ ns) = PieceLike s m n × TurnLike ss ms ns

abbrev pub PiecesLike : Kids → List Piece → List Piece → Type 0
PiecesLike (all s) ms ns = AllZip (PieceLike s) ms ns
PiecesLike (these ss) ms ns = TurnLike ss ms ns
PiecesLike no_form ms ns = ⊤

whole_like : (s : Sort) (m n : Piece) → PieceLike s m n → WholeLike s m.whole n.whole
whole_like (row_of s) m n h = tt
whole_like s m n h = h

pub wholes-like : (s : Sort) (ms ns : List Piece) → AllZip (PieceLike s) ms ns → AllZip (WholeLike s) (wholes ms) (wholes ns)
wholes-like s ms ns h = zip-map (PieceLike s) (WholeLike s) (λ m. m.whole) (λ m. m.whole) (whole_like s) ms ns h

-- the first and the second constituent

first-whole : (ss : List Sort) (ms ns : List Piece) → TurnLike (pat ∷ ss) ms ns → Answers term (whole_at 0 ms) (whole_at 0 ns)
first-whole ss [] ns h = absurd h
first-whole ss (m ∷ ms) [] h = absurd h
first-whole ss (m ∷ ms) (n ∷ ns) h = h.0.2

first-name : (ss : List Sort) (ms ns : List Piece) → TurnLike (name_pat ∷ ss) ms ns → Answers term (whole_at 0 ms) (whole_at 0 ns)
first-name ss [] ns h = absurd h
first-name ss (m ∷ ms) [] h = absurd h
first-name ss (m ∷ ms) (n ∷ ns) h = h.0.2

second-whole : (s : Sort) (ss : List Sort) (ms ns : List Piece) → TurnLike (s ∷ pat ∷ ss) ms ns → Answers term (whole_at 1 ms) (whole_at 1 ns)
second-whole s ss [] ns h = absurd h
second-whole s ss (m ∷ ms) [] h = absurd h
second-whole s ss (m ∷ ms) (n ∷ ns) h = first-whole ss ms ns h.1

pub first-inner : (s : Sort) (ss : List Sort) (ms ns : List Piece) → TurnLike (row_of s ∷ ss) ms ns → AllZip (WholeLike s) (inner_at 0 ms) (inner_at 0 ns)
first-inner s ss [] ns h = absurd h
first-inner s ss (m ∷ ms) [] h = absurd h
first-inner s ss (m ∷ ms) (n ∷ ns) h = h.0

pub second-inner : (r s : Sort) (ss : List Sort) (ms ns : List Piece) → TurnLike (r ∷ row_of s ∷ ss) ms ns → AllZip (WholeLike s) (inner_at 1 ms) (inner_at 1 ns)
second-inner r s ss [] ns h = absurd h
second-inner r s ss (m ∷ ms) [] h = absurd h
second-inner r s ss (m ∷ ms) (n ∷ ns) h = first-inner s ss ms ns h.1

pub key-at : (i : ℕ) (ts us : Trees) → key_all ts ≡ key_all us → key (at i (listed ts)) ≡ key (at i (listed us))
key-at i none none e = refl
key-at i none (also u us) e = cc
key-at i (also t ts) none e = cc
key-at zero (also t ts) (also u us) e = cc
key-at (suc i) (also t ts) (also u us) e = key-at i ts us (cc)

rest-node : (l : Label) (ts us : Trees) → rest_of (node l ts) ≡ rest_of (node l us)
rest-node (rest r) ts us = refl
rest-node _ ts us = refl

pub same_rest : (t u : Tree) → key t ≡ key u → rest_of t ≡ rest_of u
same_rest (node l ts) (node m us) e = rest-node l ts us ∙ ap (λ x. rest_of (node x us)) (equal_nodes l m ts us e).0

pub same_form : (t u : Tree) → key t ≡ key u → label_of t ≡ label_of u
same_form (node l ts) (node m us) e = (equal_nodes l m ts us e).0

-- targets of one form, with what stands in them
where-alike : (l : Label) (t u : Tree) (f g : List Tree → List Bindings) → Aimed part t u → ((ts us : List Tree) → Inside (is_bag l) (part_kids l) ts us → AreAlike (f ts) (g us)) → AreAlike (where_form l t f) (where_form l u g)
where-alike l (node k ts) (node m us) f g h r =
    let n = opened part k m ts us h in
    zip-cond AreCongruent (same_label l k) (same_label l m) (f (listed ts)) [] (g (listed us)) [] (ap (same_label l) n.0)
    (λ e. let q : k ≡ l = sym ((same_label-Decides l k).0 e) in
    r (listed ts) (listed us) (subst (λ (x : Label). Inside (is_bag x) (part_kids x) (listed ts) (listed us)) q n.1))
    (λ e. tt)

pub of_many : (l m : Label) (ts us : List Tree) → AreCongruent ts us → IsTrue (congruent (many l (many m ts ∷ [])) (many l (many m us ∷ [])))
of_many l m ts us h = of_forms l (many m ts ∷ []) (many m us ∷ []) (of_forms m ts us h, tt)

pub thin : (m n : Member) → m.wide ≡ false → n.wide ≡ false → Answers part m.tries n.tries → Like part m n
thin m n d e f = thin_like part m n (d, e, f)

pub wide : (m n : Member) → m.wide ≡ true → n.wide ≡ true → Answers term m.tries n.tries → Like part m n
wide m n d e f = (d ∙ sym e, λ x. f, λ x. absurd (false≢true (sym x ∙ d)))

-- a form that is compared as a whole
closed-alike : (l : Label) (ts us : Trees) → key_all ts ≡ key_all us → Answers part (λ t. one_if (congruent (node l ts) t)) (λ t. one_if (congruent (node l us) t))
closed-alike l ts us e t u h =
    let k = equal_keys l l ts us refl (ap (arranged (is_bag l)) e) in
    one-alike (congruent (node l ts) t) (congruent (node l us) u) (same_answer (node l ts) (node l us) t u k h.0)

-- a part of a pattern with constituents of equal keys that match alike
module _ (ts us : Trees) (ms ns : List Piece) (k : key_all ts ≡ key_all us) where
  abbrev PartLike : Label → Type 0
  PartLike l = Like part (piece_of l ts ms).whole (piece_of l us ns).whole

  same_rests : rest_of (at 1 (listed ts)) ≡ rest_of (at 1 (listed us))
  same_rests = same_rest (at 1 (listed ts)) (at 1 (listed us)) (key-at 1 ts us k)

  pub compared : (l : Label) → Answers part (λ t. one_if (congruent (node l ts) t)) (λ t. one_if (congruent (node l us) t))
  compared l = closed-alike l ts us k

  pub bound-process : Answers term (λ t. (t ∷ []) ∷ []) (λ t. (t ∷ []) ∷ [])
  bound-process t u h = (((agree t u).1 h.0, tt), tt)

  pub same-like : Answers term (form_matches same ts ms) (form_matches same us ns)
  same-like t u h =
      one-alike (congruent (at 0 (listed ts)) t) (congruent (at 0 (listed us)) u) (same_answer (at 0 (listed ts)) (at 0 (listed us)) t u (key-at 0 ts us k) h.0)

  pub both-like : TurnLike (pat ∷ pat ∷ []) ms ns → Answers term (form_matches both ts ms) (form_matches both us ns)
  both-like h t u a = both-alike (whole_at 0 ms t) (whole_at 1 ms t) (whole_at 0 ns u) (whole_at 1 ns u) (first-whole (pat ∷ []) ms ns h t u a) (second-whole pat [] ms ns h t u a)

  pub either-like : TurnLike (pat ∷ pat ∷ []) ms ns → Answers term (form_matches either ts ms) (form_matches either us ns)
  either-like h t u a =
      let x = some-same (whole_at 0 ms t) (whole_at 0 ns u) (first-whole (pat ∷ []) ms ns h t u a) in
      let y = some-same (whole_at 1 ms t) (whole_at 1 ns u) (second-whole pat [] ms ns h t u a) in
      one-alike (some_match (whole_at 0 ms t) || some_match (whole_at 1 ms t)) (some_match (whole_at 0 ns u) || some_match (whole_at 1 ns u)) (rw (x, y))

  pub not-like : TurnLike (pat ∷ []) ms ns → Answers term (form_matches not_this ts ms) (form_matches not_this us ns)
  not-like h t u a =
      one-alike (not (some_match (whole_at 0 ms t))) (not (some_match (whole_at 0 ns u))) (ap not (some-same (whole_at 0 ms t) (whole_at 0 ns u) (first-whole [] ms ns h t u a)))

  pub list-like : TurnLike (row_of pat ∷ a_rest ∷ []) ms ns → Answers part (form_matches list_pattern ts ms) (form_matches list_pattern us ns)
  list-like h t u a =
      let r = rest_of (at 1 (listed us)) in
      where-alike list t u (λ xs. first_items_match (inner_at 0 ms) (rest_of (at 1 (listed ts))) of_list xs) (λ xs. first_items_match (inner_at 0 ns) r of_list xs) a
      (λ xs ys i. subst (λ x. AreAlike (first_items_match (inner_at 0 ms) x of_list xs) (first_items_match (inner_at 0 ns) r of_list ys)) (sym same_rests)
      (first-items-alike term of_list (of_many par list) r (inner_at 0 ms) (inner_at 0 ns) xs ys (first-inner pat (a_rest ∷ []) ms ns h) i))

  pub tuple-like : AllZip (PieceLike pat) ms ns → Answers part (form_matches tuple ts ms) (form_matches tuple us ns)
  tuple-like h t u a =
      where-alike tuple t u (λ xs. items_match (wholes ms) xs) (λ xs. items_match (wholes ns) xs) a
      (λ xs ys i. items-alike term (wholes ms) (wholes ns) xs ys (wholes-like pat ms ns h) i)

  -- a set and a map
  module _ (l : Label) (s q : Sort) (opens : (xs ys : List Tree) → Inside (is_bag l) (part_kids l) xs ys → AllZip (Tied s) (ascending xs) (ascending ys)) (thins : (m n : Member) → WholeLike q m n → Like s m n) where
    pub bag-like : TurnLike (row_of q ∷ a_rest ∷ []) ms ns
        → Answers part (λ t. where_form l t (λ xs. members_match (inner_at 0 ms) (rest_of (at 1 (listed ts))) (λ vs. only (many l vs)) xs)) (λ t. where_form l t (λ xs. members_match (inner_at 0 ns) (rest_of (at 1 (listed us))) (λ vs. only (many l vs)) xs))
    bag-like h t u a =
        let r = rest_of (at 1 (listed us)) in
        where-alike l t u (λ xs. members_match (inner_at 0 ms) (rest_of (at 1 (listed ts))) (λ vs. only (many l vs)) xs) (λ xs. members_match (inner_at 0 ns) r (λ vs. only (many l vs)) xs) a
        (λ xs ys i. subst (λ x. AreAlike (members_match (inner_at 0 ms) x (λ vs. only (many l vs)) xs) (members_match (inner_at 0 ns) r (λ vs. only (many l vs)) ys)) (sym same_rests)
        (members-alike s (λ vs. only (many l vs)) (of_many par l) r (inner_at 0 ms) (inner_at 0 ns) xs ys
        (zip-weaken (WholeLike q) (Like s) thins (inner_at 0 ms) (inner_at 0 ns) (first-inner q (a_rest ∷ []) ms ns h)) (opens xs ys i)))

  pub send-like : (p : Bool) → TurnLike (name_pat ∷ row_of pat ∷ []) ms ns → Answers part (form_matches (send p) ts ms) (form_matches (send p) us ns)
  send-like p h t u a =
      where-alike (send p) t u (λ xs. both_of (whole_at 0 ms (at 0 xs)) (items_match (inner_at 1 ms) (held (at 1 xs)))) (λ xs. both_of (whole_at 0 ns (at 0 xs)) (items_match (inner_at 1 ns) (held (at 1 xs)))) a
      (λ xs ys i. both-alike (whole_at 0 ms (at 0 xs)) (items_match (inner_at 1 ms) (held (at 1 xs))) (whole_at 0 ns (at 0 ys)) (items_match (inner_at 1 ns) (held (at 1 ys)))
      (first-name (row_of pat ∷ []) ms ns h (at 0 xs) (at 0 ys) (aim term (at 0 xs) (at 0 ys) (first_tied term (row_of term ∷ []) xs ys i)))
      (items-alike term (inner_at 1 ms) (inner_at 1 ns) (held (at 1 xs)) (held (at 1 ys)) (second-inner name_pat pat [] ms ns h)
      (row_tied term (at 1 xs) (at 1 ys) (aim (row_of term) (at 1 xs) (at 1 ys) (second_tied term (row_of term) [] xs ys i)))))

  pub bundle-like : (r : Rights) → TurnLike (pat ∷ []) ms ns → Answers part (form_matches (bundle r) ts ms) (form_matches (bundle r) us ns)
  bundle-like r h t u a =
      where-alike (bundle r) t u (λ xs. whole_at 0 ms (at 0 xs)) (λ xs. whole_at 0 ns (at 0 xs)) a
      (λ xs ys i. first-whole [] ms ns h (at 0 xs) (at 0 ys) (aim term (at 0 xs) (at 0 ys) (first_tied term [] xs ys i)))
